-- Which ids are open.
use Rattle.std.proofs.Common.{◌≡◌, ◌≢◌, ℕ, ◌==◌, ◌||◌, Bool, true, false, cond, not, filter, List, [], ◌∷◌, ◌++◌, Option, Some, None, IsTrue, IfSome, ap, sym, subst, ◌∙◌, refl, inl, inr}
use Rattle.std.specs.Option.{option_map}
use Rattle.std.proofs.lemmas.List.{append-nil}
use Rattle.std.proofs.lemmas.List.Folds.{list_any-append}
use Rattle.std.proofs.lemmas.List.Elements.{filter-append}
use Rattle.std.proofs.lemmas.Map.Views.{any-filter_same}
use Rattle.stx_host.proofs.Tables.{filter-none}
use Rattle.stx_host.proofs.ToCome.{eq_self, other_id}
use Rattle.stx_host.specs.Outside.{Outside, and_more, is_among, Closes}
use Rattle.stx_host.specs.Laws.{GivenIsOpen, StaysOpen, GivenBack}

or_last : (a b : Bool) → b ≡ true → (a || (b || false)) ≡ true
or_last true b e = refl
or_last false true e = refl
or_last false false e = e

given_told : (told : Option (List ℕ)) (id : ℕ) → IfSome (and_more told (id ∷ [])) (λ ids. IsTrue (is_among ids id))
given_told None id = tt
given_told (Some ids) id = list_any-append (λ k. k == id) ids (id ∷ []) ∙ or_last (is_among ids id) (id == id) (eq_self id)

pub given_is_open : GivenIsOpen
given_is_open old new name id may e = record {
  above_zero = may.above_zero;
  told = subst (λ told. IfSome told (λ ids. IsTrue (is_among ids id))) (sym (ap (λ o. o.open_ids) e)) (given_told old.open_ids id);
}

stays_told : (told : Option (List ℕ)) (id other : ℕ) → IfSome told (λ ids. IsTrue (is_among ids id)) → IfSome (and_more told (other ∷ [])) (λ ids. IsTrue (is_among ids id))
stays_told None id other h = tt
stays_told (Some ids) id other h = list_any-append (λ k. k == id) ids (other ∷ []) ∙ ap (λ b. b || ((other == id) || false)) h

left_told : (told : Option (List ℕ)) (id other : ℕ) → id ≢ other → IfSome told (λ ids. IsTrue (is_among ids id)) → IfSome (option_map (λ ids. filter (λ k. not (k == other)) ids) told) (λ ids. IsTrue (is_among ids id))
left_told None id other ne h = tt
left_told (Some ids) id other ne h = any-filter_same (λ k. k == id) (λ k. not (k == other)) true (λ k here. other_id id other k ne here) ids ∙ h

closed_ids : (old new : Outside) (id : ℕ) → Closes old id new → new.open_ids ≡ option_map (λ ids. filter (λ k. not (k == id)) ids) old.open_ids
closed_ids old new id change = elim change [ inl e ↦ ap (λ o. o.open_ids) e | inr e ↦ ap (λ o. o.open_ids) e ]

pub stays_open : StaysOpen
stays_open old new id other is_open = (
  λ name e. record {
    above_zero = is_open.above_zero;
    told = subst (λ told. IfSome told (λ ids. IsTrue (is_among ids id))) (sym (ap (λ o. o.open_ids) e)) (stays_told old.open_ids id other is_open.told);
  },
  λ ne change. record {
    above_zero = is_open.above_zero;
    told = subst (λ told. IfSome told (λ ids. IsTrue (is_among ids id))) (sym (closed_ids old new other change)) (left_told old.open_ids id other ne is_open.told);
  },
)

one_gone : (id : ℕ) → filter (λ k. not (k == id)) (id ∷ []) ≡ []
one_gone id = ap (λ b. cond (not b) (id ∷ []) []) (eq_self id)

back_told : (told : Option (List ℕ)) (id : ℕ) → IfSome told (λ ids. is_among ids id ≡ false) → option_map (λ ids. filter (λ k. not (k == id)) ids) (and_more told (id ∷ [])) ≡ told
back_told None id none = refl
back_told (Some ids) id none = ap (λ ks. Some ks) (filter-append (λ k. not (k == id)) ids (id ∷ [])
    ∙ ap (λ ks. ks ++ filter (λ k. not (k == id)) (id ∷ [])) (filter-none (λ k. k == id) ids none) ∙ ap (λ ks. ids ++ ks) (one_gone id) ∙ append-nil ids)

pub given_back : GivenBack
given_back old mid new name id may more change =
    closed_ids mid new id change ∙ ap (λ told. option_map (λ ids. filter (λ k. not (k == id)) ids) told) more ∙ back_told old.open_ids id may.not_open
