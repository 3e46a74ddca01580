-- The values of a tag, from which one is taken.
use Rattle.std.proofs.Common.{◌≡◌, ℕ, zero, suc, ◌<◌, Bool, true, false, List, [], ◌∷◌, ◌++◌, length, map, take, drop, get_or, Some, refl, ap, sym, ◌∙◌, append_assoc}
use Rattle.std.proofs.lemmas.List.{drop-map, map-append, take-map}
use Rattle.std.proofs.lemmas.Option.{slice_get-get_or, slice_get-map}
use Rattle.std.proofs.lemmas.Slice.Eq.{bytes_eq-Decides}
use Rattle.std.specs.Option.{option_map}
use Rattle.std.specs.Prelude.{bytes_eq, remove, slice_get, if◌then◌else◌}
use Rattle.std.specs.Str.{chars}
use Rattle.sheet_loader.specs.Making.{Values, value_at}
use Rattle.sheet_loader.specs.Taking.{IsPlace, without}
use Rattle.sheet_loader.specs.Meant.{value_of}
use Rattle.sheet_loader.specs.Values.{Value}
use Rattle.sheet_loader.specs.declared.values.Entry.{Entry}

by_first : (name other : List ℕ) (x : List ℕ × Value) (vs : Values) (t : Bool) → bytes_eq x.0 name ≡ t → bytes_eq name other ≡ false
    → value_at other (without name vs) ≡ value_at other vs → value_at other (if t then vs else x ∷ without name vs) ≡ value_at other (x ∷ vs)
by_first name other x vs true e h again =
    let same = (bytes_eq-Decides x.0 name).0 e in
    ap (λ t. if t then Some x.1 else value_at other vs) (sym (ap (λ w. bytes_eq w other) same ∙ h))
by_first name other x vs false e h again = ap (λ o. if bytes_eq x.0 other then Some x.1 else o) again

-- another one stays
pub value_at-without : (name other : List ℕ) (v : Values) → bytes_eq name other ≡ false → value_at other (without name v) ≡ value_at other v
value_at-without name other [] h = refl
value_at-without name other (v ∷ vs) h = by_first name other v vs (bytes_eq v.0 name) refl h (value_at-without name other vs h)

pub drop_at : {A : Type 0} (xs : List A) (i : ℕ) (x : A) → slice_get xs i ≡ Some x → drop i xs ≡ x ∷ drop (suc i) xs
drop_at [] i x e = absurd (cc)
drop_at (y ∷ xs) zero x e = (let same : y ≡ x = cc in ap (λ z. z ∷ xs) same)
drop_at (y ∷ xs) (suc i) x e = drop_at xs i x e

pub take_at : {A : Type 0} (xs : List A) (i : ℕ) (x : A) → slice_get xs i ≡ Some x → take (suc i) xs ≡ take i xs ++ x ∷ []
take_at [] i x e = absurd (cc)
take_at (y ∷ xs) zero x e = (let same : y ≡ x = cc in ap (λ z. z ∷ []) same)
take_at (y ∷ xs) (suc i) x e = ap (λ l. y ∷ l) (take_at xs i x e)

-- none of so many values is that of the attribute
pub record NoneOf (name : List ℕ) (v : Values) (i : ℕ) : Type 0 where
  pub value : value_at name v ≡ value_at name (drop i v)
  pub others : without name v ≡ take i v ++ without name (drop i v)

pub none_of_more : (name : List ℕ) (v : Values) (i : ℕ) (x : List ℕ × Value) → slice_get v i ≡ Some x → bytes_eq x.0 name ≡ false → NoneOf name v i → NoneOf name v (suc i)
none_of_more name v i x e h none = record {
  value = none.value ∙ ap (value_at name) (drop_at v i x e) ∙ ap (λ t. if t then Some x.1 else value_at name (drop (suc i) v)) h;
  others =
      none.others
      ∙ ap (λ l. take i v ++ without name l) (drop_at v i x e)
      ∙ ap (λ t. take i v ++ (if t then drop (suc i) v else x ∷ without name (drop (suc i) v))) h
      ∙ sym (append_assoc (take i v) (x ∷ []) (without name (drop (suc i) v)))
      ∙ ap (λ l. l ++ without name (drop (suc i) v)) (sym (take_at v i x e));
}

pub here_is : (name : List ℕ) (v : Values) (i : ℕ) (x : List ℕ × Value) → i < length v → slice_get v i ≡ Some x → bytes_eq x.0 name ≡ true → NoneOf name v i
    → IsPlace name v (Some i)
here_is name v i x within e h none = (
  within,
  none.value ∙ ap (value_at name) (drop_at v i x e) ∙ ap (λ t. if t then Some x.1 else value_at name (drop (suc i) v)) h
      ∙ sym (ap (option_map (λ (y : List ℕ × Value). y.1)) e),
  none.others ∙ ap (λ l. take i v ++ without name l) (drop_at v i x e)
      ∙ ap (λ t. take i v ++ (if t then drop (suc i) v else x ∷ without name (drop (suc i) v))) h,
)

pub others-are : {A B : Type 0} (f : A → B) (xs : List A) (i : ℕ) → map f (remove xs i) ≡ remove (map f xs) i
others-are f xs i =
    map-append f (take i xs) (drop (suc i) xs)
    ∙ ap (λ l. l ++ map f (drop (suc i) xs)) (sym (take-map f i xs))
    ∙ ap (λ l. take i (map f xs) ++ l) (sym (drop-map f (suc i) xs))

-- a value as the program has it
abbrev pub entry_of : Entry → List ℕ × Value
entry_of e = (chars e.name.now, value_of e.value)

pub entry_at : (xs ys : List Entry) (i : ℕ) (x : Entry) → ys ≡ xs → i < length ys → x ≡ get_or ys i x → slice_get (map entry_of xs) i ≡ Some (entry_of x)
entry_at xs ys i x e h at =
    slice_get-map entry_of xs i
    ∙ ap (option_map entry_of) (ap (λ l. slice_get l i) (sym e) ∙ slice_get-get_or ys i x h ∙ ap (λ y. Some y) (sym at))
