use Rattle.std.proofs.Common.{◌≡◌, ℕ, List}
use Rattle.stx_base.specs.declared.name.Binding.{Binding}
use Rattle.stxpath_syntax.specs.declared.dialect.Dialect.{Dialect}
use Rattle.stxpath_syntax.specs.declared.expr.Alternative.{Alternative}
use Rattle.stxpath_syntax.specs.declared.expr.Expr.{Expr}
use Rattle.stxpath_syntax.specs.Grammar as grammar
use Rattle.stxpath_syntax.specs.Template.{IsExpression, Read}
use Rattle.stxpath_syntax.proofs.Completing.{one_expression, one_pattern}
use Rattle.stxpath_syntax.proofs.Deciding.{one_answer}
use Rattle.stxpath_syntax.proofs.Existing.{some_expression, some_pattern, some_template}
use Rattle.stxpath_syntax.proofs.Templates.{one_template}
use Rattle.stxpath_syntax.proofs.law.one_answer.Goals as goal

only : (dialect : Dialect) (scope : List Binding) (at : ℕ) (text : List ℕ) (a b : Read Expr) → IsExpression dialect scope at text a → IsExpression dialect scope at text b → a ≡ b
only dialect scope at text = one_answer Expr (grammar.Spells dialect scope 1) (one_expression dialect scope) at text

pub returns : goal.returns
returns c = λ dialect scope text.
    let pattern = some_pattern dialect scope text in
    let template = some_template dialect scope text in (
      λ at. let x = some_expression dialect scope at text in (x.0, x.1, λ b g. only dialect scope at text x.0 b x.1 g),
      (pattern.0, pattern.1, λ b g. one_answer (List Alternative) (grammar.Pattern dialect scope) (one_pattern dialect scope) 0 text pattern.0 b pattern.1 g),
      (template.0, template.1, λ b g. one_template dialect scope (only dialect scope) 0 text template.0 b template.1 g),
    )
