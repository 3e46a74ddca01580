-- Values with the names of the parameters to which they are handed.
use Rattle.std.proofs.Common.{◌≡◌, ℕ, zero, suc, ◌+◌, ◌<◌, ◌≤◌, Bool, cond, not, List, [], ◌∷◌, length, map, Some, None, nat_lt, refl, ap, sym, ◌∙◌, arith}
use Rattle.std.specs.Prelude.{option_map, position, slice_get}
use Rattle.std.specs.List.{position_or_len}
use Rattle.std.proofs.lemmas.List.Folds.{find_at}
use Rattle.std.proofs.lemmas.Option.{slice_get-map, slice_get_past}
use Rattle.sheet_model.specs.Names.{is_same}
use Rattle.sheet_model.specs.declared.instr.WithParam.{WithParam}
use Rattle.stx_base.specs.declared.name.Name.{Name}
use Rattle.stxpath_values.specs.declared.value.Atom.{Atom}
use Rattle.var_store.specs.Variables.{is_called, value_of}
use Rattle.var_store.specs.declared.bound.Bound.{Bound}
use Rattle.template_machine.specs.Parameters.{named_values}
use Rattle.template_machine.proofs.FirstPlace.{no_place, some_place}

pub not_past : {A : Type 0} (xs : List A) (n : ℕ) → n < length xs → slice_get xs n ≡ None → ⊥
not_past [] n less none = omega (arith, less)
not_past (x ∷ xs) zero less none = cc
not_past (x ∷ xs) (suc n) less none = not_past xs n (omega (arith, less)) none

module _ (name : Name) where
  abbrev is_it : WithParam → Bool
  is_it w = is_same w.name name

  slots_same : (names : List WithParam) (vs : List (List Atom)) → length names ≤ length vs → position_or_len (is_called name) (named_values names vs) ≡ position_or_len is_it names
  slots_same [] vs long = refl
  slots_same (w ∷ ws) [] long = absurd (omega (arith, long))
  slots_same (w ∷ ws) (v ∷ vs) long = ap (λ n. cond (not (is_it w)) (1 + n) 0) (slots_same ws vs (omega (arith, long)))

  as_many : (names : List WithParam) (vs : List (List Atom)) → length names ≤ length vs → length (named_values names vs) ≡ length names
  as_many [] vs long = refl
  as_many (w ∷ ws) [] long = absurd (omega (arith, long))
  as_many (w ∷ ws) (v ∷ vs) long = ap suc (as_many ws vs (omega (arith, long)))

  value_at : (names : List WithParam) (vs : List (List Atom)) (k : ℕ) (v : List Atom) → length names ≤ length vs → k < length names → slice_get vs k ≡ Some v
      → slice_get (map (λ (b : Bound). b.value) (named_values names vs)) k ≡ Some v
  value_at [] vs k v long less at = absurd (omega (arith, less))
  value_at (w ∷ ws) [] k v long less at = absurd (omega (arith, long))
  value_at (w ∷ ws) (x ∷ xs) zero v long less at = at
  value_at (w ∷ ws) (x ∷ xs) (suc k) v long less at = value_at ws xs k v (omega (arith, long)) (omega (arith, less)) at

  pub value_named : (names : List WithParam) (vs : List (List Atom)) (k : ℕ) (v : List Atom) → length names ≤ length vs → position is_it names ≡ Some k → slice_get vs k ≡ Some v
      → value_of name (named_values names vs) ≡ Some v
  value_named names vs k v long there at =
      let n = position_or_len is_it names in
      let h = some_place (nat_lt n (length names)) n (length names) k refl there in
      ap (option_map (λ (b : Bound). b.value)) (find_at (is_called name) (named_values names vs))
      ∙ sym (slice_get-map (λ (b : Bound). b.value) (named_values names vs) (position_or_len (is_called name) (named_values names vs)))
      ∙ ap (slice_get (map (λ (b : Bound). b.value) (named_values names vs))) (slots_same names vs long ∙ h.0) ∙ value_at names vs k v long h.1 at

  pub none_named : (names : List WithParam) (vs : List (List Atom)) → length names ≤ length vs → position is_it names ≡ None → value_of name (named_values names vs) ≡ None
  none_named names vs long there =
      let n = position_or_len is_it names in
      let past : length names ≤ n = no_place (nat_lt n (length names)) n (length names) refl there in
      let same = slots_same names vs long in
      let many = as_many names vs long in
      ap (option_map (λ (b : Bound). b.value)) (find_at (is_called name) (named_values names vs))
      ∙ ap (option_map (λ (b : Bound). b.value)) (slice_get_past (named_values names vs) (position_or_len (is_called name) (named_values names vs)) (omega (arith, past, same, many)))
