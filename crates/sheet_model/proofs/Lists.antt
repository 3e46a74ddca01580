-- Lists, their greatest numbers, and lists joined.
use Rattle.std.proofs.Common.{◌≡◌, ℕ, ◌+◌, ◌<◌, ◌≤◌, max, List, [], ◌∷◌, ◌++◌, length, get_or, take, drop, map, Some, refl, ap, sym, subst, ◌∙◌, arith, length-append}
use Rattle.std.proofs.lemmas.List.{append-nil, at_drop_more, get_or_append_left, get_or-append-add, take_more}
use Rattle.std.proofs.lemmas.Grind.{flat_map-append, common_steps}
use Rattle.std.proofs.lemmas.Option.{get_or_from_slice_get, slice_get-get_or, slice_get_within}
use Rattle.std.specs.List.{flat_map, slice_get}
use Rattle.stxpath_syntax.specs.Shape.{greatest}

pub greatest-append : (xs ys : List ℕ) → greatest (xs ++ ys) ≡ max (greatest xs) (greatest ys)
greatest-append [] ys = omega arith
greatest-append (x ∷ xs) ys = omega (arith, greatest-append xs ys)

pub map-append : {A B : Type 0} (f : A → B) (xs ys : List A) → map f (xs ++ ys) ≡ map f xs ++ map f ys
map-append f [] ys = refl
map-append f (x ∷ xs) ys = ap (λ l. f x ∷ l) (map-append f xs ys)

-- the greatest of mapped items, with one item more
pub greatest_more : {A : Type 0} (f : A → ℕ) (xs : List A) (i : ℕ) (x : A) → i < length xs → x ≡ get_or xs i x
    → greatest (map f (take (i + 1) xs)) ≡ max (greatest (map f (take i xs))) (f x)
greatest_more f xs i x h at =
    ap (λ l. greatest (map f l)) (take_more xs i x h ∙ ap (λ y. take i xs ++ y ∷ []) (sym at))
    ∙ ap greatest (map-append f (take i xs) (x ∷ []))
    ∙ (omega (arith, greatest-append (map f (take i xs)) (f x ∷ [])))

-- what is left of a list at one of its items
pub left_at : {A : Type 0} (xs : List A) (i : ℕ) (x : A) → i < length xs → x ≡ get_or xs i x → drop i xs ≡ x ∷ drop (i + 1) xs
left_at xs i x h at = at_drop_more (λ l. l) xs i x h ∙ ap (λ y. y ∷ drop (i + 1) xs) (sym at)

pub parted : {A : Type 0} (xs : List A) (i : ℕ) → take i xs ++ drop i xs ≡ xs
parted xs i = grind (arith, common_steps)

-- a list round one of its items
pub parted_at : {A : Type 0} (xs : List A) (i : ℕ) (x : A) → i < length xs → x ≡ get_or xs i x → take i xs ++ x ∷ drop (i + 1) xs ≡ xs
parted_at xs i x h at = ap (λ l. take i xs ++ l) (sym (left_at xs i x h at)) ∙ parted xs i

-- each mapped item is at most the greatest
pub greatest_at : {A : Type 0} (f : A → ℕ) (xs : List A) (i : ℕ) (x : A) → i < length xs → x ≡ get_or xs i x → f x ≤ greatest (map f xs)
greatest_at f xs i x h at =
    let whole : greatest (map f (take i xs) ++ f x ∷ map f (drop (i + 1) xs)) ≡ greatest (map f xs) =
    ap greatest (sym (map-append f (take i xs) (x ∷ drop (i + 1) xs))) ∙ ap (λ l. greatest (map f l)) (parted_at xs i x h at) in
    omega (arith, whole, greatest-append (map f (take i xs)) (f x ∷ map f (drop (i + 1) xs)))

-- the greatest of joined lists
pub greatest-flat : {A B : Type 0} (f : B → ℕ) (g : A → List B) (xs : List A) → greatest (map f (flat_map g xs)) ≡ greatest (map (λ x. greatest (map f (g x))) xs)
greatest-flat f g [] = refl
greatest-flat f g (x ∷ xs) =
    ap greatest (map-append f (g x) (flat_map g xs)) ∙ omega (arith, greatest-append (map f (g x)) (map f (flat_map g xs)), greatest-flat f g xs)

pub got_behind : {A : Type 0} (xs ys : List A) (k : ℕ) (y : A) → slice_get ys k ≡ Some y → slice_get (xs ++ ys) (length xs + k) ≡ Some y
got_behind xs ys k y is =
    slice_get-get_or (xs ++ ys) (length xs + k) y (omega (arith, length-append xs ys, slice_get_within ys k y is))
    ∙ ap (λ z. Some z) (get_or-append-add xs ys k y ∙ get_or_from_slice_get ys k y y is)

pub got_before : {A : Type 0} (xs ys : List A) (k : ℕ) (y : A) → slice_get xs k ≡ Some y → slice_get (xs ++ ys) k ≡ Some y
got_before xs ys k y is =
    slice_get-get_or (xs ++ ys) k y (omega (arith, length-append xs ys, slice_get_within xs k y is))
    ∙ ap (λ z. Some z) (get_or_append_left xs ys y k (slice_get_within xs k y is) ∙ get_or_from_slice_get xs k y y is)

-- joined lists round the list of one item
flat_parted : {A B : Type 0} (f : A → List B) (xs : List A) (i : ℕ) (x : A) → i < length xs → x ≡ get_or xs i x
    → flat_map f (take i xs) ++ (f x ++ flat_map f (drop (i + 1) xs)) ≡ flat_map f xs
flat_parted f xs i x h at = sym (flat_map-append f (take i xs) (x ∷ drop (i + 1) xs)) ∙ ap (flat_map f) (parted_at xs i x h at)

-- an item of one of the joined lists, in the whole
pub flat_at : {A B : Type 0} (f : A → List B) (xs : List A) (i : ℕ) (x : A) (k : ℕ) (y : B) → i < length xs → x ≡ get_or xs i x
    → slice_get (f x) k ≡ Some y → slice_get (flat_map f xs) (length (flat_map f (take i xs)) + k) ≡ Some y
flat_at f xs i x k y h at is =
    subst (λ l. slice_get l (length (flat_map f (take i xs)) + k) ≡ Some y) (flat_parted f xs i x h at)
    (got_behind (flat_map f (take i xs)) (f x ++ flat_map f (drop (i + 1) xs)) k y (got_before (f x) (flat_map f (drop (i + 1) xs)) k y is))

-- joined lists, with one list more
pub flat_more : {A B : Type 0} (f : A → List B) (xs : List A) (i : ℕ) (x : A) → i < length xs → x ≡ get_or xs i x
    → length (flat_map f (take (i + 1) xs)) ≡ length (flat_map f (take i xs)) + length (f x)
flat_more f xs i x h at =
    ap (λ l. length (flat_map f l)) (take_more xs i x h ∙ ap (λ y. take i xs ++ y ∷ []) (sym at))
    ∙ ap length (flat_map-append f (take i xs) (x ∷ []) ∙ ap (λ l. flat_map f (take i xs) ++ l) (append-nil (f x)))
    ∙ length-append (flat_map f (take i xs)) (f x)
