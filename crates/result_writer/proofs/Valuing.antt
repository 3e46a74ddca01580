-- The values of attributes, by their names.
use Rattle.std.proofs.Common.{◌≡◌, ℕ, Bool, true, false, ◌||◌, List, [], ◌∷◌, Some, None, refl, sym, ap, ◌∙◌}
use Rattle.std.specs.Prelude.{if◌then◌else◌, slice_get, slice_set}
use Rattle.std.specs.List.{list_any}
use Rattle.std.proofs.lemmas.Bool.{and_from}
use Rattle.std.proofs.lemmas.List.{set-get_or}
use Rattle.std.proofs.lemmas.Option.{get_or_from_slice_get}
use Rattle.std.proofs.lemmas.Slice.Eq.{bytes_eq-Decides}
use Rattle.stx_base.specs.declared.name.Attr.{Attr}
use Rattle.stx_base.specs.declared.name.Name.{Name}
use Rattle.result_writer.specs.Attributes.{IsFirst, value_of}
use Rattle.result_writer.specs.Target.{same_name, with_attribute}

pub none-valued : (attrs : List Attr) (name : Name) → list_any (λ a. same_name a.name name) attrs ≡ false → value_of attrs name ≡ None
none-valued [] name h = refl
none-valued (a ∷ attrs) name h = by_test (same_name a.name name) h (none-valued attrs name) where
  by_test : (t : Bool) → (t || list_any (λ a. same_name a.name name) attrs) ≡ false
      → (list_any (λ a. same_name a.name name) attrs ≡ false → value_of attrs name ≡ None)
      → (if t then Some a.value else value_of attrs name) ≡ None
  by_test true h k = absurd cc
  by_test false h k = k h

same_name-refl : (n : Name) → same_name n n ≡ true
same_name-refl n = and_from _ _ ((bytes_eq-Decides n.uri n.uri).1 refl) ((bytes_eq-Decides n.local n.local).1 refl)

-- an attribute that is put has its value
value-put : (attrs : List Attr) (name : Name) (value : List ℕ) → value_of (with_attribute attrs name value) name ≡ Some value
value-put [] name value = ap (λ t. if t then Some value else None) (same_name-refl name)
value-put (a ∷ attrs) name value = by_test (same_name a.name name) refl (value-put attrs name value) where
  by_test : (t : Bool) → same_name a.name name ≡ t → value_of (with_attribute attrs name value) name ≡ Some value
      → value_of (if t then record a { value = value } ∷ attrs else a ∷ with_attribute attrs name value) name ≡ Some value
  by_test true e k = ap (λ t. if t then Some value else value_of attrs name) e
  by_test false e k = ap (λ t. if t then Some a.value else value_of (with_attribute attrs name value) name) e ∙ k

set-same : (attrs : List Attr) (at : ℕ) (a : Attr) → slice_get attrs at ≡ Some a → slice_set attrs at a ≡ attrs
set-same attrs at a h = ap (slice_set attrs at) (sym (get_or_from_slice_get attrs at a a h)) ∙ set-get_or attrs at a

-- the first attribute of the name has its value
pub first-valued : (attrs : List Attr) (name : Name) (at : ℕ) (a : Attr) → IsFirst attrs name at → slice_get attrs at ≡ Some a → value_of attrs name ≡ Some a.value
first-valued attrs name at a first h =
    ap (λ l. value_of l name) (sym (set-same attrs at a h) ∙ sym (first.1 a.value a h)) ∙ value-put attrs name a.value
