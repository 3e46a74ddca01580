-- Each instruction of a program can be run: its expressions and templates can be evaluated.
use Rattle.std.proofs.Common.{◌≡◌, ℕ, List, [], ◌∷◌, ◌++◌, map, All, Option, Some, None, get_or, refl, ap, sym, subst, ◌∙◌}
use Rattle.std.specs.List.{slice_get}
use Rattle.std.specs.Option.{ForSome}
use Rattle.std.specs.Prelude.{IfSome}
use Rattle.std.proofs.lemmas.Option.{get_or_from_slice_get, slice_get_within}
use Rattle.std.proofs.lemmas.List.Elements.{All-get_or, All-map}
use Rattle.instr_code.specs.Bare.{bare, bare_layer, bare_when, procedure_without_body, template_without_body}
use Rattle.instr_code.specs.Code.{code_of}
use Rattle.instr_code.specs.declared.code.Code.{Code}
use Rattle.sheet_model.specs.Body.{instructions}
use Rattle.sheet_model.specs.Parts.{expressions, templates}
use Rattle.sheet_model.specs.Sound.{AreReadableVariables, IsReadableInstruction, IsReadableSheet, IsReadableVariable}
use Rattle.sheet_model.specs.declared.instr.Instr.{Instr}
use Rattle.sheet_model.specs.declared.instr.Instr.TheOpen.{Instr-F}
use Rattle.sheet_model.specs.declared.instr.Instr.TheViews.{out-Instr, out-roll-Instr}
use Rattle.sheet_model.specs.declared.instr.When.{When}
use Rattle.sheet_model.specs.declared.sheet.Procedure.{Procedure}
use Rattle.sheet_model.specs.declared.sheet.Sheet.{Sheet}
use Rattle.sheet_model.specs.declared.sheet.Template.{Template}
use Rattle.sheet_model.specs.declared.sheet.Variable.{Variable}
use Rattle.stxpath_syntax.proofs.Evaluable.{readable_expression, readable_parts}
use Rattle.stxpath_syntax.specs.Readable.{IsReadable, IsReadablePart, IsReadablePattern, IsReadableTemplate}
use Rattle.stxpath_syntax.specs.Shape.{CanBeEvaluated}
use Rattle.stxpath_syntax.specs.declared.expr.Avt.{Avt}
use Rattle.stxpath_syntax.specs.declared.expr.AvtPart.{AvtPart}
use Rattle.stxpath_syntax.specs.declared.expr.AvtPart.TheVariants as part
use Rattle.stxpath_syntax.specs.declared.expr.Expr.{Expr}
use Rattle.template_machine.specs.Evaluating.{PartCanBeEvaluated, TemplateCanBeEvaluated}
use Rattle.template_machine.specs.Made.{AreEvaluable}
use Rattle.template_machine.specs.Well.{IsSteady}
use Rattle.template_machine.specs.Working.{CanBeRun}
use Rattle.template_machine.specs.declared.program.Program.{Program}
use Rattle.template_machine.specs.declared.run.Run.{Run}

-- what holds of each holds of the one at a place
pub all_at : {A : Type 0} (P : A → Type 0) (xs : List A) (n : ℕ) (x : A) → All P xs → slice_get xs n ≡ Some x → P x
all_at P xs n x all is = subst P (get_or_from_slice_get xs n x x is) (All-get_or P xs n x (slice_get_within xs n x is) all)

pub all_as : {A : Type 0} (P Q : A → Type 0) (xs : List A) → ((x : A) → P x → Q x) → All P xs → All Q xs
all_as P Q xs f all = λ k d l. f (get_or xs k d) (all k d l)

-- Instructions keep what they evaluate where the lists inside them are emptied.

tests_stay : (ws : List When) → map (λ (w : When). w.test) (map bare_when ws) ≡ map (λ (w : When). w.test) ws
tests_stay [] = refl
tests_stay (w ∷ ws) = ap (λ l. w.test ∷ l) (tests_stay ws)

layer_expressions : (x : Instr-F Instr When) → expressions (λ (w : When). w.test) (bare_layer x) ≡ expressions (λ (w : When). w.test) x
layer_expressions (Instr-F.Choose whens other at) = ap (λ l. l ++ []) (tests_stay whens)
layer_expressions x = refl

layer_templates : (x : Instr-F Instr When) → templates (bare_layer x) ≡ templates x
layer_templates (Instr-F.Copy attributes body at) = refl
layer_templates x = refl

-- What was read can be evaluated.

part_evaluable : (x : AvtPart) → IsReadablePart x → PartCanBeEvaluated x
part_evaluable (part.Chars text) h = tt
part_evaluable (part.Value x) h = readable_expression x h

template_evaluable : (t : Avt) → IsReadableTemplate t.parts → TemplateCanBeEvaluated t
template_evaluable t h = all_as IsReadablePart PartCanBeEvaluated t.parts part_evaluable (readable_parts t.parts h)

bare_runs : (i : Instr) → IsReadableInstruction i → CanBeRun (bare i)
bare_runs i h =
    let out = out-roll-Instr (bare_layer (out-Instr i)) in
    record {
      expressions =
          subst (All CanBeEvaluated) (sym (ap (expressions (λ (w : When). w.test)) out ∙ layer_expressions (out-Instr i)))
          (all_as IsReadable CanBeEvaluated (expressions (λ (w : When). w.test) (out-Instr i)) readable_expression h.expressions);
      templates =
          subst (All TemplateCanBeEvaluated) (sym (ap templates out ∙ layer_templates (out-Instr i)))
          (all_as (λ (t : Avt). IsReadableTemplate t.parts) TemplateCanBeEvaluated (templates (out-Instr i)) template_evaluable h.templates);
    }

code_runs : (sheet : Sheet) → IsReadableSheet sheet → All CanBeRun (code_of sheet).instrs
code_runs sheet readable =
    All-map CanBeRun bare (instructions sheet) (λ k d l. bare_runs (get_or (instructions sheet) k d) (readable.instructions k d l))

-- the instruction of a number can be run
pub can_run : (p : Program) (r : Run) → IsSteady p r → (n : ℕ) (i : Instr) → slice_get p.code.instrs n ≡ Some i → CanBeRun i
can_run p r s n i is =
    all_at CanBeRun p.code.instrs n i
    (subst (λ (c : Code). All CanBeRun c.instrs) (sym s.program.code_is) (code_runs s.sheet s.sound.readable)) is

-- The parameters of procedures and templates.

select_evaluable : (o : Option Expr) → IfSome o IsReadable → ForSome o CanBeEvaluated
select_evaluable None h = λ x e. absurd (cc)
select_evaluable (Some y) h = λ x e. let same : y ≡ x = cc in subst CanBeEvaluated same (readable_expression y h)

variables_evaluable : (vs : List Variable) → AreReadableVariables vs → AreEvaluable vs
variables_evaluable vs h =
    all_as IsReadableVariable (λ (v : Variable). ForSome v.select CanBeEvaluated) vs (λ v h. select_evaluable v.select h.1) h

pub procedure_params : (p : Program) (r : Run) → IsSteady p r → (n : ℕ) (q : Procedure) → slice_get p.sheet.procedures n ≡ Some q → AreEvaluable q.params
procedure_params p r s n q is =
    let P : Procedure → Type 0 = λ q. AreEvaluable q.params in
    all_at P p.sheet.procedures n q
    (subst (λ (x : Sheet). All P x.procedures) (sym s.program.sheet_is)
    (All-map P procedure_without_body s.sheet.procedures
    (all_as (λ (q : Procedure). AreReadableVariables q.params) P s.sheet.procedures (λ q. variables_evaluable q.params) s.sound.readable.procedures))) is

pub template_params : (p : Program) (r : Run) → IsSteady p r → (n : ℕ) (t : Template) → slice_get p.sheet.templates n ≡ Some t → AreEvaluable t.params
template_params p r s n t is =
    let P : Template → Type 0 = λ t. AreEvaluable t.params in
    all_at P p.sheet.templates n t
    (subst (λ (x : Sheet). All P x.templates) (sym s.program.sheet_is)
    (All-map P template_without_body s.sheet.templates
    (all_as (λ (t : Template). IsReadablePattern t.pattern.alternatives × AreReadableVariables t.params) P s.sheet.templates (λ t h. variables_evaluable t.params h.1)
    s.sound.readable.templates))) is
