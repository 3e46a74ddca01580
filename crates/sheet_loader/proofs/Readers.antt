-- Texts of the path language are read in one way.
use Rattle.std.proofs.Common.{◌≡◌, ℕ, List}
use Rattle.stx_base.specs.declared.name.Binding.{Binding}
use Rattle.stxpath_syntax.specs.declared.dialect.Dialect.{Dialect}
use Rattle.stxpath_syntax.specs.declared.expr.Alternative.{Alternative}
use Rattle.stxpath_syntax.specs.declared.expr.Expr.{Expr}
use Rattle.stxpath_syntax.specs.Grammar as grammar
use Rattle.stxpath_syntax.specs.Template.{IsExpression, Read}
use Rattle.stxpath_syntax.proofs.Completing.{one_expression, one_pattern}
use Rattle.stxpath_syntax.proofs.Deciding.{one_answer}
use Rattle.stxpath_syntax.proofs.Existing.{some_expression, some_pattern, some_template}
use Rattle.stxpath_syntax.proofs.Templates.{one_template}
use Rattle.sheet_loader.specs.Laws.{ReadsInOneWay}
use Rattle.sheet_loader.specs.Values.{Reads}

pub readings : Reads
readings = record {
  expression = λ dialect scope text. (some_expression dialect scope 0 text).0;
  pattern = λ dialect scope text. (some_pattern dialect scope text).0;
  template = λ dialect scope text. (some_template dialect scope text).0;
  expressions = λ dialect scope text. (some_expression dialect scope 0 text).1;
  patterns = λ dialect scope text. (some_pattern dialect scope text).1;
  templates = λ dialect scope text. (some_template dialect scope text).1;
}

only : (dialect : Dialect) (scope : List Binding) (at : ℕ) (text : List ℕ) (a b : Read Expr) → IsExpression dialect scope at text a → IsExpression dialect scope at text b → a ≡ b
only dialect scope at text = one_answer Expr (grammar.Spells dialect scope 1) (one_expression dialect scope) at text

pub in_one_way : ReadsInOneWay
in_one_way = (
  readings,
  λ a b dialect scope text. (
    only dialect scope 0 text (a.expression dialect scope text) (b.expression dialect scope text) (a.expressions dialect scope text) (b.expressions dialect scope text),
    one_answer (List Alternative) (grammar.Pattern dialect scope) (one_pattern dialect scope) 0 text (a.pattern dialect scope text) (b.pattern dialect scope text) (a.patterns dialect scope text) (b.patterns dialect scope text),
    one_template dialect scope (only dialect scope) 0 text (a.template dialect scope text) (b.template dialect scope text) (a.templates dialect scope text) (b.templates dialect scope text),
  ),
)
