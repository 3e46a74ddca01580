-- What a declaration adds, by its kind.
use Rattle.std.proofs.Common.{◌≡◌, ℕ, List, [], ◌∷◌, ◌++◌, refl, ap, sym, ◌∙◌}
use Rattle.std.proofs.Math.Path.{subst}
use Rattle.std.proofs.lemmas.Result.{on_ok_weaker}
use Rattle.stx_base.specs.declared.fault.Place.{Place}
use Rattle.sheet_model.specs.declared.sheet.Variable.{Variable}
use Rattle.sheet_loader.specs.Making.{Values}
use Rattle.sheet_loader.specs.Meant.{kind_of}
use Rattle.sheet_loader.specs.Reading as reading
use Rattle.sheet_loader.specs.Steps.{Declares}
use Rattle.sheet_loader.specs.declared.draft.Draft.{Draft}
use Rattle.sheet_loader.specs.declared.kind.Kind.{Kind}
use Rattle.sheet_loader.specs.declared.kind.Kind.TheVariants as kind
use Rattle.sheet_loader.proofs.draft.Draft.declare.Goals as goal

declares_nothing : (k : Kind) (group : ℕ) (at : Place) (v : Values) (items : List reading.Item) (d : Draft)
    → (k ≡ kind.Template → ⊥) → (k ≡ kind.Procedure → ⊥) → (k ≡ kind.Buffer → ⊥) → (k ≡ kind.Variable → ⊥) → (k ≡ kind.Param → ⊥)
    → Declares (kind_of k) group at v items d d
declares_nothing kind.Template group at v items d t p b w q = absurd (t refl)
declares_nothing kind.Procedure group at v items d t p b w q = absurd (p refl)
declares_nothing kind.Buffer group at v items d t p b w q = absurd (b refl)
declares_nothing kind.Variable group at v items d t p b w q = absurd (w refl)
declares_nothing kind.Param group at v items d t p b w q = absurd (q refl)
declares_nothing other group at v items d t p b w q = refl

by_kind : (k l : Kind) (group : ℕ) (at : Place) (v : Values) (items : List reading.Item) (old new : Draft) → k ≡ l → Declares (kind_of l) group at v items old new → Declares (kind_of k) group at v items old new
by_kind k l group at v items old new e h = subst (λ (x : Kind). Declares (kind_of x) group at v items old new) (sym e) h

pub returns-in-Template : goal.returns-in-Template
returns-in-Template c = on_ok_weaker c.declare_template.result (λ h items holds. by_kind c.args.kind kind.Template _ _ _ items _ _ c.in-Template.is (h items holds)) c.declare_template.ensures

pub returns-in-Procedure : goal.returns-in-Procedure
returns-in-Procedure c = on_ok_weaker c.declare_procedure.result (λ h items holds. by_kind c.args.kind kind.Procedure _ _ _ items _ _ c.in-Procedure.is (h items holds)) c.declare_procedure.ensures

pub returns-in-Buffer : goal.returns-in-Buffer
returns-in-Buffer c = on_ok_weaker c.declare_buffer.result (λ h items holds. by_kind c.args.kind kind.Buffer _ _ _ items _ _ c.in-Buffer.is h) c.declare_buffer.ensures

pub returns-in-Variable : goal.returns-in-Variable
returns-in-Variable c =
    let d = c.args.self.now in
    on_ok_weaker c.push.result (λ h items holds. by_kind c.args.kind kind.Variable _ _ _ items _ _ c.in-Variable.is
    (ap (λ (l : List Variable). record d { sheet = record d.sheet { variables = l } }) (h ∙ ap (λ (x : Variable). d.sheet.variables ++ x ∷ []) c.variable.ensures))) c.push.ensures.ok

pub returns-in-Param : goal.returns-in-Param
returns-in-Param c =
    let d = c.args.self.now in
    on_ok_weaker c.push-in-Param.result (λ h items holds. by_kind c.args.kind kind.Param _ _ _ items _ _ c.in-Param.is
    (ap (λ (l : List Variable). record d { sheet = record d.sheet { variables = l } }) (h ∙ ap (λ (x : Variable). d.sheet.variables ++ x ∷ []) c.variable-in-Param.ensures))) c.push-in-Param.ensures.ok

pub returns-in_default : goal.returns-in_default
returns-in_default c = λ items holds. declares_nothing c.args.kind _ _ _ items _ c.in_default.not-Template c.in_default.not-Procedure c.in_default.not-Buffer c.in_default.not-Variable c.in_default.not-Param
