-- What expressions, templates and contents of the machine are evaluated with.
use Rattle.std.specs.Prelude.{ℕ, ◌-◌, List, Option, All, Result, length}
use Rattle.stx_base.specs.declared.name.Name.{Name}
use Rattle.node_stack.specs.Stack.{path}
use Rattle.sheet_model.specs.declared.instr.Content.{Content}
use Rattle.sheet_model.specs.declared.instr.Content.TheVariants as content
use Rattle.stxpath_eval.specs.Setting as eval
use Rattle.stxpath_eval.specs.Value.{value}
use Rattle.stxpath_syntax.specs.Shape.{CanBeEvaluated}
use Rattle.stxpath_syntax.specs.declared.expr.Avt.{Avt}
use Rattle.stxpath_syntax.specs.declared.expr.AvtPart.{AvtPart}
use Rattle.stxpath_syntax.specs.declared.expr.AvtPart.TheVariants as part
use Rattle.stxpath_syntax.specs.declared.expr.Expr.{Expr}
use Rattle.stxpath_values.specs.Outcome.{and_then}
use Rattle.stxpath_values.specs.declared.fault.EvalFault.{EvalFault}
use Rattle.stxpath_values.specs.declared.value.Atom.{Atom}
use Rattle.template_machine.specs.Values.{items_text, template_text}
use Rattle.template_machine.specs.declared.setting.Setting.{Setting}

-- what it sees, with the last node of the path as the current one
abbrev pub seen : {V : Type 0} → (V → Name → Option (List Atom)) → Setting V → eval.Setting
seen vars s = record {
  vars = vars s.vars;
  limits = s.limits.now;
  path = path s.stack.now;
  place = length (path s.stack.now).nodes - 1;
  test = s.test.now;
}

-- each expression of a template, or of content, can be evaluated

abbrev pub PartCanBeEvaluated : AvtPart → Type 0
PartCanBeEvaluated (part.Chars text) = Unit {0}
PartCanBeEvaluated (part.Value x) = CanBeEvaluated x

abbrev pub TemplateCanBeEvaluated : Avt → Type 0
TemplateCanBeEvaluated t = All PartCanBeEvaluated t.parts

abbrev pub ContentCanBeEvaluated : Content → Type 0
ContentCanBeEvaluated (content.Select x) = CanBeEvaluated x
ContentCanBeEvaluated (content.Chars text) = Unit {0}

-- an expression as a text with a separator, which is asked for behind the items
abbrev pub parted_text : Expr → Avt → eval.Setting → Result (List ℕ) EvalFault
parted_text x separator g = and_then (value x g) (λ items. and_then (template_text separator g) (λ between. items_text g between items))
