-- What the bodies of a program declare has a name, since its sheet is sound.
use Rattle.std.proofs.Common.{◌≡◌, false, true, List, [], ◌∷◌, All, inl, inr, get_or, refl, ap, sym, subst, ◌∙◌}
use Rattle.std.proofs.lemmas.Bool.{false≢true}
use Rattle.std.proofs.lemmas.List.Elements.{All-head, All-map}
use Rattle.stx_base.specs.Character.{is_ncname}
use Rattle.stx_base.specs.declared.name.Name.{Name}
use Rattle.instr_code.specs.Bare.{bare, bare_layer, procedure_without_body, template_without_body}
use Rattle.instr_code.specs.Code.{code_of}
use Rattle.instr_code.specs.declared.code.Code.{Code}
use Rattle.sheet_model.specs.Body.{instructions}
use Rattle.sheet_model.specs.Parts.{variables_named}
use Rattle.sheet_model.specs.Sound.{AreReadableVariables, IsReadableInstruction, IsReadableSheet, IsReadableVariable, IsSpelled}
use Rattle.sheet_model.specs.declared.instr.Instr.{Instr}
use Rattle.sheet_model.specs.declared.instr.Instr.TheOpen.{Instr-F}
use Rattle.sheet_model.specs.declared.instr.Instr.TheViews.{out-Instr, out-roll-Instr}
use Rattle.sheet_model.specs.declared.instr.When.{When}
use Rattle.sheet_model.specs.declared.sheet.Procedure.{Procedure}
use Rattle.sheet_model.specs.declared.sheet.Sheet.{Sheet}
use Rattle.sheet_model.specs.declared.sheet.Template.{Template}
use Rattle.sheet_model.specs.declared.sheet.Variable.{Variable}
use Rattle.stxpath_syntax.specs.Readable.{IsReadablePattern}
use Rattle.template_machine.specs.Called.{DeclaresNames, HasName, HasNames}
use Rattle.template_machine.specs.Contexts.{Declares, HasForm, IsDeclared, Walks, form}
use Rattle.template_machine.specs.Well.{IsSteady}
use Rattle.template_machine.specs.declared.program.Program.{Program}
use Rattle.template_machine.specs.declared.run.Run.{Run}
use Rattle.template_machine.proofs.Evaluable.{all_as, all_at}
use Rattle.template_machine.proofs.Formed.{has_instr}

spelled_name : (n : Name) → IsSpelled n → HasName n
spelled_name n is none = absurd (false≢true (sym (ap is_ncname none) ∙ is))

spelled_names : (vs : List Variable) → AreReadableVariables vs → HasNames vs
spelled_names vs h = all_as IsReadableVariable (λ (v : Variable). HasName v.name) vs (λ v h. spelled_name v.name h.0) h

-- instructions declare what they declared where the lists inside them are emptied
layer_names : (x : Instr-F Instr When) → variables_named (bare_layer x) ≡ variables_named x
layer_names (Instr-F.Copy attributes body at) = refl
layer_names x = refl

abbrev AreSpelled : Instr → Type 0
AreSpelled i = All IsSpelled (variables_named (out-Instr i))

bare_spelled : (i : Instr) → IsReadableInstruction i → AreSpelled (bare i)
bare_spelled i h = subst (All IsSpelled) (sym (ap variables_named (out-roll-Instr (bare_layer (out-Instr i))) ∙ layer_names (out-Instr i))) h.names

code_spelled : (sheet : Sheet) → IsReadableSheet sheet → All AreSpelled (code_of sheet).instrs
code_spelled sheet readable =
    All-map AreSpelled bare (instructions sheet) (λ k d l. bare_spelled (get_or (instructions sheet) k d) (readable.instructions k d l))

declared_by : (x : Instr-F Instr When) (name : Name) → form x ≡ Declares name → All IsSpelled (variables_named x) → IsSpelled name
declared_by (Instr-F.Local own select at) name is h = let same : own ≡ name = cc in subst IsSpelled same (All-head IsSpelled own [] h)
declared_by x name is h = absurd (cc)

walked_by : (x : Instr-F Instr When) (name : Name) → form x ≡ Walks name → All IsSpelled (variables_named x) → IsSpelled name
walked_by (Instr-F.ForEachItem own select body at) name is h = let same : own ≡ name = cc in subst IsSpelled same (All-head IsSpelled own [] h)
walked_by x name is h = absurd (cc)

-- The names of a run's program.
pub names_spelled : (p : Program) (r : Run) → IsSteady p r → DeclaresNames p
names_spelled p r s = record {
  variables = declared;
  templates =
      let P : Template → Type 0 = λ t. HasNames t.params in
      subst (λ (x : Sheet). All P x.templates) (sym s.program.sheet_is)
      (All-map P template_without_body s.sheet.templates
      (all_as (λ (t : Template). IsReadablePattern t.pattern.alternatives × AreReadableVariables t.params) P s.sheet.templates (λ t h. spelled_names t.params h.1)
      s.sound.readable.templates));
  procedures =
      let P : Procedure → Type 0 = λ q. HasNames q.params in
      subst (λ (x : Sheet). All P x.procedures) (sym s.program.sheet_is)
      (All-map P procedure_without_body s.sheet.procedures
      (all_as (λ (q : Procedure). AreReadableVariables q.params) P s.sheet.procedures (λ q. spelled_names q.params) s.sound.readable.procedures));
}
  where
    spelled : All AreSpelled p.code.instrs
    spelled = subst (λ (c : Code). All AreSpelled c.instrs) (sym s.program.code_is) (code_spelled s.sheet s.sound.readable)

    declared : (name : Name) → IsDeclared p.code name → HasName name
    declared name (n, inl h) =
        let i = has_instr p.code n (Declares name) h in
        spelled_name name (declared_by (out-Instr i.0) name i.1.1 (all_at AreSpelled p.code.instrs n i.0 spelled i.1.0))
    declared name (n, inr h) =
        let i = has_instr p.code n (Walks name) h in
        spelled_name name (walked_by (out-Instr i.0) name i.1.1 (all_at AreSpelled p.code.instrs n i.0 spelled i.1.0))
