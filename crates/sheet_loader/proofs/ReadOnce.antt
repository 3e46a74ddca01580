-- What a text of the path language is read as, by whoever reads it.
use Rattle.std.proofs.Common.{◌≡◌, ℕ, List, Err, ap, ◌∙◌}
use Rattle.stx_base.specs.declared.fault.SheetCode.{SheetCode}
use Rattle.stx_base.specs.declared.name.Binding.{Binding}
use Rattle.stxpath_syntax.specs.declared.dialect.Dialect.{Dialect}
use Rattle.stxpath_syntax.specs.declared.expr.Alternative.{Alternative}
use Rattle.stxpath_syntax.specs.declared.expr.AvtPart.{AvtPart}
use Rattle.stxpath_syntax.specs.declared.expr.Expr.{Expr}
use Rattle.stxpath_syntax.specs.declared.fault.ParseFault.{ParseFault}
use Rattle.stxpath_syntax.specs.declared.fault.ParseFault.TheVariants as parse
use Rattle.stxpath_syntax.specs.Grammar as grammar
use Rattle.stxpath_syntax.specs.Template.{Answers, IsExpression, IsPattern, IsTemplate, Read}
use Rattle.stxpath_syntax.proofs.Completing.{one_expression, one_pattern}
use Rattle.stxpath_syntax.proofs.Deciding.{one_answer}
use Rattle.stxpath_syntax.proofs.Templates.{one_template}
use Rattle.sheet_loader.specs.Meant.{IsOfFault, Tells}
use Rattle.sheet_loader.specs.Values as spec
use Rattle.sheet_loader.specs.Values.{Reads}
use Rattle.sheet_loader.specs.declared.refused.Refused.{Refused}
use Rattle.sheet_loader.specs.declared.refused.Refused.TheVariants as refused

one : (d : Dialect) (scope : List Binding) (at : ℕ) (text : List ℕ) (a b : Read Expr) → IsExpression d scope at text a → IsExpression d scope at text b → a ≡ b
one d scope at text = one_answer Expr (grammar.Spells d scope 1) (one_expression d scope) at text

module _ (reads : Reads) (d : Dialect) (scope : List Binding) (text : List ℕ) where
  pub only_expression : (x : Read Expr) → IsExpression d scope 0 text x → reads.expression d scope text ≡ x
  only_expression x g = one d scope 0 text (reads.expression d scope text) x (reads.expressions d scope text) g

  pub only_pattern : (x : Read (List Alternative)) → IsPattern d scope text x → reads.pattern d scope text ≡ x
  only_pattern x g = one_answer (List Alternative) (grammar.Pattern d scope) (one_pattern d scope) 0 text (reads.pattern d scope text) x (reads.patterns d scope text) g

  pub only_template : (x : Read (List AvtPart)) → IsTemplate d scope text x → reads.template d scope text ≡ x
  only_template x g = one_template d scope (one d scope) 0 text (reads.template d scope text) x (reads.templates d scope text) g

-- the code of a fault
pub tells_fault : {A : Type 0} (Is : Read A → Type 0) (found : Read A) (made : A → spec.Value) → ((x : Read A) → Is x → found ≡ x)
    → (fault : ParseFault) (r : Refused) → Answers Is (Err fault) → IsOfFault fault r → Tells (spec.read made found) (Err r)
tells_fault Is found made only (parse.Path why) r g e =
    let same : found ≡ Err why = only (Err why) g in
    over (spec.code_of why.kind) r e (ap (spec.read made) same) where
      over : (code : SheetCode) (r : Refused) → r ≡ refused.Code code → spec.read made found ≡ Err code → Tells (spec.read made found) (Err r)
      over code (refused.Code c) e h = h ∙ ap Err (cc)
      over code refused.Memory e h = tt
tells_fault Is found made only parse.Memory (refused.Code c) g e = absurd (cc)
tells_fault Is found made only parse.Memory refused.Memory g e = tt

over_tests : (found : Read (List Alternative)) (code : SheetCode) (r : Refused) → r ≡ refused.Code code → spec.read_tests found ≡ Err code → Tells (spec.read_tests found) (Err r)
over_tests found code (refused.Code c) e h = h ∙ ap Err (cc)
over_tests found code refused.Memory e h = tt

-- the same of tests of attributes
pub tests_fault : (Is : Read (List Alternative) → Type 0) (found : Read (List Alternative)) → ((x : Read (List Alternative)) → Is x → found ≡ x)
    → (fault : ParseFault) (r : Refused) → Answers Is (Err fault) → IsOfFault fault r → Tells (spec.read_tests found) (Err r)
tests_fault Is found only (parse.Path why) r g e = over_tests found (spec.code_of why.kind) r e (ap spec.read_tests (only (Err why) g))
tests_fault Is found only parse.Memory (refused.Code c) g e = absurd (cc)
tests_fault Is found only parse.Memory refused.Memory g e = tt
