-- Parameters of one name.
use Rattle.std.proofs.Common.{◌≡◌, ◌⊎◌, inl, inr, ℕ, ◌+◌, ◌<◌, Bool, true, false, ◌||◌, cond, List, [], ◌∷◌, ◌++◌, refl, ap, sym, ◌∙◌, take, drop, length, get_or, encode_utf8_all}
use Rattle.std.specs.Prelude.{bytes_eq}
use Rattle.std.specs.List.{list_any}
use Rattle.std.specs.Cmp.Lexicographic.{slice_cmp}
use Rattle.std.specs.Ordering.{nat_cmp, is_eq}
use Rattle.std.proofs.lemmas.Bool.{or_right, or_left, or_cases, or_from}
use Rattle.std.proofs.lemmas.Bool.Decides.{same_from_decides}
use Rattle.std.proofs.lemmas.List.{take_more, take-append-drop}
use Rattle.std.proofs.lemmas.Map.Text.{is_eq-slice_cmp}
use Rattle.std.proofs.lemmas.Slice.Eq.{bytes_eq-Decides}
use Rattle.std.proofs.lemmas.Str.{encodes_same}
use Rattle.command_words.specs.Words.{has_twice}
use Rattle.command_words.specs.declared.param.Param.{Param}

or-assoc : (a b c : Bool) → ((a || b) || c) ≡ (a || (b || c))
or-assoc true b c = refl
or-assoc false b c = refl

or-swap : (a b c d : Bool) → ((a || b) || (c || d)) ≡ ((a || c) || (b || d))
or-swap true b c d = refl
or-swap false true true d = refl
or-swap false true false d = refl
or-swap false false c d = refl

any-more : (p : Param → Bool) (xs : List Param) (x : Param) → list_any p (xs ++ x ∷ []) ≡ (list_any p xs || p x)
any-more p [] x = by_test (p x) where
  by_test : (t : Bool) → (t || false) ≡ t
  by_test true = refl
  by_test false = refl
any-more p (y ∷ ys) x = ap (λ t. p y || t) (any-more p ys x) ∙ sym (or-assoc (p y) (list_any p ys) (p x))

any-within : (p : Param → Bool) (xs ys : List Param) → list_any p xs ≡ true → list_any p (xs ++ ys) ≡ true
any-within p [] ys h = absurd cc
any-within p (x ∷ xs) ys h = by_test (p x) (λ e. any-within p xs ys e) h where
  by_test : (t : Bool) → (list_any p xs ≡ true → list_any p (xs ++ ys) ≡ true) → (t || list_any p xs) ≡ true → (t || list_any p (xs ++ ys)) ≡ true
  by_test true again e = refl
  by_test false again e = again e

any-same : (p q : Param → Bool) → ((x : Param) → p x ≡ q x) → (xs : List Param) → list_any p xs ≡ list_any q xs
any-same p q h [] = refl
any-same p q h (x ∷ xs) = ap (λ t. t || list_any p xs) (h x) ∙ ap (λ t. q x || t) (any-same p q h xs)

abbrev alike : Param → Param → Bool
alike p q = bytes_eq q.name p.name

-- one parameter more
twice-more : (xs : List Param) (x : Param) → has_twice (xs ++ x ∷ []) ≡ (has_twice xs || list_any (λ y. alike y x) xs)
twice-more [] x = refl
twice-more (y ∷ ys) x =
    ap (λ t. t || has_twice (ys ++ x ∷ [])) (any-more (alike y) ys x)
    ∙ ap (λ t. (list_any (alike y) ys || alike y x) || t) (twice-more ys x)
    ∙ or-swap (list_any (alike y) ys) (alike y x) (has_twice ys) (list_any (λ z. alike z x) ys)

twice-within : (xs ys : List Param) → has_twice xs ≡ true → has_twice (xs ++ ys) ≡ true
twice-within [] ys h = absurd cc
twice-within (x ∷ xs) ys h = by_case (λ e. twice-within xs ys e) (or_cases (list_any (alike x) xs) (has_twice xs) h) where
  by_case : (has_twice xs ≡ true → has_twice (xs ++ ys) ≡ true) → (list_any (alike x) xs ≡ true) ⊎ (has_twice xs ≡ true)
      → (list_any (alike x) (xs ++ ys) || has_twice (xs ++ ys)) ≡ true
  by_case again (inl e) = or_left (list_any (alike x) (xs ++ ys)) (has_twice (xs ++ ys)) (any-within (alike x) xs ys e)
  by_case again (inr e) = or_right (list_any (alike x) (xs ++ ys)) (has_twice (xs ++ ys)) (again e)

-- a parameter has the name of these bytes
abbrev pub is_named : (name : List ℕ) → Param → Bool
is_named name p = bytes_eq name (encode_utf8_all p.name)

-- texts with the same bytes have the same characters
same-encoded : (a b : List ℕ) → bytes_eq (encode_utf8_all a) (encode_utf8_all b) ≡ bytes_eq a b
same-encoded a b =
    let d = bytes_eq-Decides (encode_utf8_all a) (encode_utf8_all b) in
    let e = bytes_eq-Decides a b in
    same_from_decides (bytes_eq (encode_utf8_all a) (encode_utf8_all b)) (bytes_eq a b) d ((λ h. ap encode_utf8_all (e.0 h)), (λ h. e.1 (encodes_same a b h)))

same-sym : (a b : List ℕ) → bytes_eq a b ≡ bytes_eq b a
same-sym a b = same_from_decides (bytes_eq a b) (bytes_eq b a) (bytes_eq-Decides a b) ((λ h. sym ((bytes_eq-Decides b a).0 h)), (λ h. (bytes_eq-Decides b a).1 (sym h)))

either : (b h : Bool) → cond b true h ≡ (h || b)
either true true = refl
either true false = refl
either false true = refl
either false false = refl

-- one more name in a set
pub named-more : (xs : List Param) (a : Param) (name q : List ℕ) → name ≡ encode_utf8_all a.name
    → cond (is_eq (slice_cmp nat_cmp name q)) true (list_any (is_named q) xs) ≡ list_any (is_named q) (xs ++ a ∷ [])
named-more xs a name q e =
    ap (λ t. cond t true (list_any (is_named q) xs)) (is_eq-slice_cmp name q ∙ same-sym name q ∙ ap (bytes_eq q) e)
    ∙ either (is_named q a) (list_any (is_named q) xs) ∙ sym (any-more (is_named q) xs a)

named-alike : (a : Param) (name : List ℕ) → name ≡ encode_utf8_all a.name → (xs : List Param) → list_any (is_named name) xs ≡ list_any (λ b. alike b a) xs
named-alike a name e = any-same (is_named name) (λ b. alike b a) (λ b. ap (λ n. bytes_eq n (encode_utf8_all b.name)) e ∙ same-encoded a.name b.name)

-- parameters that are looked at one by one
module _ (xs : List Param) (i : ℕ) (x : Param) (name : List ℕ) (h : i < length xs) (is : x ≡ get_or xs i x) (named : name ≡ encode_utf8_all x.name)
    (none : has_twice (take i xs) ≡ false) where
  pub taken : take (i + 1) xs ≡ take i xs ++ x ∷ []
  taken = take_more xs i x h ∙ ap (λ a. take i xs ++ a ∷ []) (sym is)

  pub twice-found : list_any (is_named name) (take i xs) ≡ true → has_twice xs ≡ true
  twice-found found =
      ap has_twice (sym (take-append-drop (i + 1) xs))
      ∙ twice-within (take (i + 1) xs) (drop (i + 1) xs)
      (ap has_twice taken ∙ twice-more (take i xs) x
      ∙ or_right (has_twice (take i xs)) (list_any (λ y. alike y x) (take i xs)) (sym (named-alike x name named (take i xs)) ∙ found))

  pub twice-none : list_any (is_named name) (take i xs) ≡ false → has_twice (take (i + 1) xs) ≡ false
  twice-none new =
      ap has_twice taken ∙ twice-more (take i xs) x
      ∙ or_from (has_twice (take i xs)) (list_any (λ y. alike y x) (take i xs)) none (sym (named-alike x name named (take i xs)) ∙ new)
