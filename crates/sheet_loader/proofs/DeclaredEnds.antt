-- A declaration is at its end: it stands in the sheet.
use Rattle.std.proofs.Common.{◌≡◌, ℕ, true, false, List, [], ◌∷◌, ◌++◌, refl, ap, ◌∙◌}
use Rattle.std.proofs.lemmas.List.{append-nil}
use Rattle.sheet_model.specs.declared.sheet.Buffer.{Buffer}
use Rattle.sheet_model.specs.declared.sheet.Procedure.{Procedure}
use Rattle.sheet_model.specs.declared.sheet.Template.{Template}
use Rattle.sheet_model.specs.declared.sheet.Variable.{Variable}
use Rattle.sheet_loader.specs.Elements as element
use Rattle.sheet_loader.specs.Elements.{Kind}
use Rattle.sheet_loader.specs.Making.{Values, variable}
use Rattle.sheet_loader.specs.Read.{buffer_at, ended, procedure_at, template_at}
use Rattle.sheet_loader.specs.Reading.{Context, Item, Loading, place}

-- what was read, with these lists in the sheet
abbrev pub with_lists : Loading → List Template → List Procedure → List Buffer → List Variable → Loading
with_lists l ts ps bs vs = record l { sheet = record l.sheet { templates = ts; procedures = ps; buffers = bs; variables = vs } }

-- What an element among declarations adds, by its kind: one entry at most.
abbrev pub declared_at : Context → (at : ℕ) → Kind → Values → List Item → Loading → Loading
declared_at here at element.Template v items l = with_lists l (l.sheet.templates ++ template_at here at v items ∷ []) l.sheet.procedures l.sheet.buffers l.sheet.variables
declared_at here at element.Procedure v items l = with_lists l l.sheet.templates (l.sheet.procedures ++ procedure_at here at v items ∷ []) l.sheet.buffers l.sheet.variables
declared_at here at element.Buffer v items l = with_lists l l.sheet.templates l.sheet.procedures (l.sheet.buffers ++ buffer_at here at v items ∷ []) l.sheet.variables
declared_at here at element.Variable v items l = with_lists l l.sheet.templates l.sheet.procedures l.sheet.buffers (l.sheet.variables ++ variable here.group false (place here at) v ∷ [])
declared_at here at element.Param v items l = with_lists l l.sheet.templates l.sheet.procedures l.sheet.buffers (l.sheet.variables ++ variable here.group true (place here at) v ∷ [])
declared_at here at other v items l = l

module _ (here : Context) (at : ℕ) (v : Values) (items : List Item) (l : Loading) where
  three : (ts ts' : List Template) (ps ps' : List Procedure) (bs bs' : List Buffer) (vs vs' : List Variable) → ts ≡ ts' → ps ≡ ps' → bs ≡ bs' → vs ≡ vs' → with_lists l ts ps bs vs ≡ with_lists l ts' ps' bs' vs'
  three ts ts' ps ps' bs bs' vs vs' t p b w =
      ap (λ x. with_lists l x ps bs vs) t ∙ ap (λ x. with_lists l ts' x bs vs) p ∙ ap (λ x. with_lists l ts' ps' x vs) b ∙ ap (λ x. with_lists l ts' ps' bs' x) w

  pub ended_is : (kind : Kind) → ended here at kind v (record { items = items; loading = l }) ≡ declared_at here at kind v items l
  ended_is element.Template = three _ _ _ _ _ _ _ _ refl (append-nil l.sheet.procedures) (append-nil l.sheet.buffers) (append-nil l.sheet.variables)
  ended_is element.Procedure = three _ _ _ _ _ _ _ _ (append-nil l.sheet.templates) refl (append-nil l.sheet.buffers) (append-nil l.sheet.variables)
  ended_is element.Buffer = three _ _ _ _ _ _ _ _ (append-nil l.sheet.templates) (append-nil l.sheet.procedures) refl (append-nil l.sheet.variables)
  ended_is element.Variable = three _ _ _ _ _ _ _ _ (append-nil l.sheet.templates) (append-nil l.sheet.procedures) (append-nil l.sheet.buffers) refl
  ended_is element.Param = three _ _ _ _ _ _ _ _ (append-nil l.sheet.templates) (append-nil l.sheet.procedures) (append-nil l.sheet.buffers) refl
  ended_is other = three _ _ _ _ _ _ _ _ (append-nil l.sheet.templates) (append-nil l.sheet.procedures) (append-nil l.sheet.buffers) (append-nil l.sheet.variables)
