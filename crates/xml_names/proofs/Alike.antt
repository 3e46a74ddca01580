-- Items that are alike.
use Rattle.std.proofs.Common.{◌≡◌, ℕ, ◌+◌, ◌<◌, Bool, true, false, ◌||◌, ◌&&◌, cond, List, [], ◌∷◌, ◌++◌, refl, ap, sym, ◌∙◌, take, drop, length, get_or, encode_utf8_all, Ordering, Less, Equal, Greater, ◌⊎◌, inl, inr, arith}
use Rattle.std.specs.Prelude.{bytes_eq}
use Rattle.std.specs.List.{list_any}
use Rattle.std.specs.Cmp.Lexicographic.{slice_cmp}
use Rattle.std.specs.Ordering.{nat_cmp, is_eq, ordering_then}
use Rattle.std.proofs.lemmas.Bool.{or_right, or_left, or_cases, or_from}
use Rattle.std.proofs.lemmas.List.{take_more, take-append-drop}
use Rattle.std.proofs.lemmas.Map.Text.{is_eq-slice_cmp}
use Rattle.stx_base.specs.declared.name.Attr.{Attr}
use Rattle.xml_tokens.specs.declared.lexeme.RawAttr.{RawAttr}
use Rattle.xml_names.specs.Scope.{same}
use Rattle.xml_names.specs.Tag.{has_twins, same_written, same_expanded}
use Rattle.xml_names.proofs.Texts.{same-encoded, same-sym}

or-assoc : (a b c : Bool) → ((a || b) || c) ≡ (a || (b || c))
or-assoc true b c = refl
or-assoc false b c = refl

or-swap : (a b c d : Bool) → ((a || b) || (c || d)) ≡ ((a || c) || (b || d))
or-swap true b c d = refl
or-swap false true true d = refl
or-swap false true false d = refl
or-swap false false c d = refl

module _ {X : Type 0} where
  -- fewer than two items have no twins
  pub no-twins : (alike : X → X → Bool) (xs : List X) → length xs < 2 → false ≡ has_twins alike xs
  no-twins alike [] h = refl
  no-twins alike (x ∷ []) h = refl
  no-twins alike (x ∷ y ∷ xs) h = absurd (omega (arith, h))

  pub any-more : (p : X → Bool) (xs : List X) (x : X) → list_any p (xs ++ x ∷ []) ≡ (list_any p xs || p x)
  any-more p [] x = by_test (p x) where
    by_test : (t : Bool) → (t || false) ≡ t
    by_test true = refl
    by_test false = refl
  any-more p (y ∷ ys) x = ap (λ t. p y || t) (any-more p ys x) ∙ sym (or-assoc (p y) (list_any p ys) (p x))

  any-within : (p : X → Bool) (xs ys : List X) → list_any p xs ≡ true → list_any p (xs ++ ys) ≡ true
  any-within p [] ys h = absurd (cc)
  any-within p (x ∷ xs) ys h = by_test (p x) (λ e. any-within p xs ys e) h where
    by_test : (t : Bool) → (list_any p xs ≡ true → list_any p (xs ++ ys) ≡ true) → (t || list_any p xs) ≡ true → (t || list_any p (xs ++ ys)) ≡ true
    by_test true again e = refl
    by_test false again e = again e

  pub any-same : (p q : X → Bool) → ((x : X) → p x ≡ q x) → (xs : List X) → list_any p xs ≡ list_any q xs
  any-same p q h [] = refl
  any-same p q h (x ∷ xs) = ap (λ t. t || list_any p xs) (h x) ∙ ap (λ t. q x || t) (any-same p q h xs)

  module _ (alike : X → X → Bool) where
    -- one item more
    pub twins-more : (xs : List X) (x : X) → has_twins alike (xs ++ x ∷ []) ≡ (has_twins alike xs || list_any (λ y. alike y x) xs)
    twins-more [] x = refl
    twins-more (y ∷ ys) x =
        ap (λ t. t || has_twins alike (ys ++ x ∷ [])) (any-more (alike y) ys x)
        ∙ ap (λ t. (list_any (alike y) ys || alike y x) || t) (twins-more ys x)
        ∙ or-swap (list_any (alike y) ys) (alike y x) (has_twins alike ys) (list_any (λ z. alike z x) ys)

    pub twins-within : (xs ys : List X) → has_twins alike xs ≡ true → has_twins alike (xs ++ ys) ≡ true
    twins-within [] ys h = absurd (cc)
    twins-within (x ∷ xs) ys h = by_case (λ e. twins-within xs ys e) (or_cases (list_any (alike x) xs) (has_twins alike xs) h) where
      by_case : (has_twins alike xs ≡ true → has_twins alike (xs ++ ys) ≡ true) → (list_any (alike x) xs ≡ true) ⊎ (has_twins alike xs ≡ true)
          → (list_any (alike x) (xs ++ ys) || has_twins alike (xs ++ ys)) ≡ true
      by_case again (inl e) = or_left (list_any (alike x) (xs ++ ys)) (has_twins alike (xs ++ ys)) (any-within (alike x) xs ys e)
      by_case again (inr e) = or_right (list_any (alike x) (xs ++ ys)) (has_twins alike (xs ++ ys)) (again e)

    -- items that are read one by one
    module _ (xs : List X) (i : ℕ) (x : X) (h : i < length xs) (e : x ≡ get_or xs i x) (none : has_twins alike (take i xs) ≡ false) where
      pub taken : take (i + 1) xs ≡ take i xs ++ x ∷ []
      taken = take_more xs i x h ∙ ap (λ a. take i xs ++ a ∷ []) (sym e)

      pub twins-found : list_any (λ y. alike y x) (take i xs) ≡ true → has_twins alike xs ≡ true
      twins-found found =
          ap (has_twins alike) (sym (take-append-drop (i + 1) xs))
          ∙ twins-within (take (i + 1) xs) (drop (i + 1) xs) (ap (has_twins alike) taken ∙ twins-more (take i xs) x ∙ or_right (has_twins alike (take i xs)) (list_any (λ y. alike y x) (take i xs)) found)

      pub twins-none : list_any (λ y. alike y x) (take i xs) ≡ false → has_twins alike (take (i + 1) xs) ≡ false
      twins-none new = ap (has_twins alike) taken ∙ twins-more (take i xs) x ∙ or_from (has_twins alike (take i xs)) (list_any (λ y. alike y x) (take i xs)) none new

-- an attribute is written with the name of these bytes
abbrev pub is_written : (name : List ℕ) → RawAttr → Bool
is_written name a = bytes_eq name (encode_utf8_all a.name)

-- an attribute has the expanded name of these bytes
abbrev pub is_expanded : (uri local : List ℕ) → Attr → Bool
is_expanded uri local a = bytes_eq uri (encode_utf8_all a.name.uri) && bytes_eq local (encode_utf8_all a.name.local)

pub written-alike : (a : RawAttr) (name : List ℕ) → name ≡ encode_utf8_all a.name → (b : RawAttr) → is_written name b ≡ same_written b a
written-alike a name e b = ap (λ n. bytes_eq n (encode_utf8_all b.name)) e ∙ same-encoded a.name b.name ∙ same-sym a.name b.name

pub expanded-alike : (a : Attr) (uri local : List ℕ) → uri ≡ encode_utf8_all a.name.uri → local ≡ encode_utf8_all a.name.local → (b : Attr) → is_expanded uri local b ≡ same_expanded b a
expanded-alike a uri local u l b =
    ap (λ n. bytes_eq n (encode_utf8_all b.name.uri) && bytes_eq local (encode_utf8_all b.name.local)) u
    ∙ ap (λ n. bytes_eq (encode_utf8_all a.name.uri) (encode_utf8_all b.name.uri) && bytes_eq n (encode_utf8_all b.name.local)) l
    ∙ ap (λ t. t && bytes_eq (encode_utf8_all a.name.local) (encode_utf8_all b.name.local)) (same-encoded a.name.uri b.name.uri ∙ same-sym a.name.uri b.name.uri)
    ∙ ap (λ t. same b.name.uri a.name.uri && t) (same-encoded a.name.local b.name.local ∙ same-sym a.name.local b.name.local)

either : (b h : Bool) → cond b true h ≡ (h || b)
either true true = refl
either true false = refl
either false true = refl
either false false = refl

-- one more name in a set
pub written-more : (xs : List RawAttr) (a : RawAttr) (name q : List ℕ) → name ≡ encode_utf8_all a.name
    → cond (is_eq (slice_cmp nat_cmp name q)) true (list_any (is_written q) xs) ≡ list_any (is_written q) (xs ++ a ∷ [])
written-more xs a name q e =
    ap (λ t. cond t true (list_any (is_written q) xs)) (is_eq-slice_cmp name q ∙ same-sym name q ∙ ap (bytes_eq q) e)
    ∙ either (is_written q a) (list_any (is_written q) xs) ∙ sym (any-more (is_written q) xs a)

is_eq-then : (a b : Ordering) → is_eq (ordering_then a b) ≡ (is_eq a && is_eq b)
is_eq-then Less b = refl
is_eq-then Equal b = refl
is_eq-then Greater b = refl

pub expanded-more : (xs : List Attr) (a : Attr) (uri local p q : List ℕ) → uri ≡ encode_utf8_all a.name.uri → local ≡ encode_utf8_all a.name.local
    → cond (is_eq (ordering_then (slice_cmp nat_cmp uri p) (slice_cmp nat_cmp local q))) true (list_any (is_expanded p q) xs) ≡ list_any (is_expanded p q) (xs ++ a ∷ [])
expanded-more xs a uri local p q u l =
    ap (λ t. cond t true (list_any (is_expanded p q) xs)) (
    is_eq-then (slice_cmp nat_cmp uri p) (slice_cmp nat_cmp local q)
    ∙ ap (λ t. t && is_eq (slice_cmp nat_cmp local q)) (is_eq-slice_cmp uri p ∙ same-sym uri p ∙ ap (bytes_eq p) u)
    ∙ ap (λ t. bytes_eq p (encode_utf8_all a.name.uri) && t) (is_eq-slice_cmp local q ∙ same-sym local q ∙ ap (bytes_eq q) l))
    ∙ either (is_expanded p q a) (list_any (is_expanded p q) xs) ∙ sym (any-more (is_expanded p q) xs a)
