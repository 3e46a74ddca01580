-- How tags are taken apart.
use Rattle.std.proofs.Common.{◌≡◌, ℕ, zero, suc, ◌+◌, ◌<◌, ◌≤◌, Bool, true, false, ◌||◌, ◌==◌, List, [], ◌∷◌, ◌++◌, Option, Some, None, length, take, drop, refl, sym, ap, ◌∙◌, arith, cond, subst, length-drop, append_assoc}
use Rattle.std.specs.List.{list_any, prefix_len, position_or_len}
use Rattle.std.specs.Prelude.{if◌then◌else◌}
use Rattle.std.specs.Option.{option_map, option_or, option_and_then}
use Rattle.std.proofs.lemmas.Bool.{eqb-true, eq-eqb, ne_eqb}
use Rattle.std.proofs.lemmas.Bool.Decides.{nat_tests}
use Rattle.xml_tokens.specs.Places.{is_quote}
use Rattle.stx_base.specs.Character.{is_space, is_name_char, is_name}
use Rattle.xml_tokens.specs.Tags.{named, is_name_byte, quoted, until_quote, equated, without_less, attribute, attributes, after_space, after_byte, tag_end, with_first}
use Rattle.std.specs.Str.{chars}
use Rattle.std.specs.Prelude.{nat_le}
use Rattle.std.proofs.Common.{IsUtf8}
use Rattle.xml_tokens.proofs.Utf8Lemmas.{utf8-front, utf8-after, utf8-rest}
use Rattle.xml_tokens.proofs.TextLemmas.{cut-utf8}

pub some_if : {A : Type 0} (b : Bool) (x y : A) → cond b (Some x) None ≡ Some y → x ≡ y
some_if true x y h = cc
some_if false x y h = absurd cc

-- a byte of ASCII that isn't one of a name ends it
pub name_end-ascii : (b : ℕ) → is_name_byte b ≡ false → b < 128
name_end-ascii b h = by_tests (nat_le 128 b) (is_name_char b) refl h where
  by_tests : (l n : Bool) → nat_le 128 b ≡ l → (l || n) ≡ false → b < 128
  by_tests true n e k = absurd cc
  by_tests false n e k = grind (arith, nat_tests, e)

pub named-utf8 : (bytes : List ℕ) (name rest : List ℕ) → named bytes ≡ Some (name, rest) → IsUtf8 bytes → IsUtf8 name × IsUtf8 rest
unfolding named
named-utf8 bytes name rest h utf8 =
    let len = prefix_len is_name_byte bytes in
    let e = some_if (is_name (chars (take len bytes))) (take len bytes, drop len bytes) (name, rest) h in
    subst (λ (p : List ℕ × List ℕ). IsUtf8 p.0 × IsUtf8 p.1) e (utf8-front is_name_byte name_end-ascii bytes utf8)

space-ascii : (b : ℕ) → is_space b ≡ true → b < 128
space-ascii b h = grind (arith, nat_tests)

pub after_space-utf8 : (bytes : List ℕ) → IsUtf8 bytes → IsUtf8 (after_space bytes)
after_space-utf8 bytes utf8 = utf8-after is_space space-ascii bytes utf8

pub bind_some : {A B : Type 0} (f : A → Option B) (o : Option A) (y : B) → option_and_then f o ≡ Some y → (x : A) × (o ≡ Some x) × (f x ≡ Some y)
bind_some f None y h = absurd cc
bind_some f (Some x) y h = (x, refl, h)

pub map_some : {A B : Type 0} (f : A → B) (o : Option A) (y : B) → option_map f o ≡ Some y → (x : A) × (o ≡ Some x) × (f x ≡ y)
map_some f None y h = absurd cc
map_some f (Some x) y h = let e : f x ≡ y = cc in (x, refl, e)

and_then-same : {A B : Type 0} (f g : A → Option B) (o : Option A) → ((x : A) → o ≡ Some x → f x ≡ g x) → option_and_then f o ≡ option_and_then g o
and_then-same f g None h = refl
and_then-same f g (Some x) h = h x refl

named-shorter : (bytes : List ℕ) (found : List ℕ × List ℕ) → named bytes ≡ Some found → length found.1 ≤ length bytes
unfolding named
named-shorter bytes found h =
    let len = prefix_len is_name_byte bytes in
    let e = some_if (is_name (chars (take len bytes))) (take len bytes, drop len bytes) found h in
    subst (λ (p : List ℕ × List ℕ). length p.1 ≤ length bytes) e (omega (arith, length-drop len bytes))

pub after_byte-is : (b : ℕ) (bytes rest : List ℕ) → after_byte b bytes ≡ Some rest → (first : ℕ) × (bytes ≡ first ∷ rest)
after_byte-is b [] rest h = absurd cc
after_byte-is b (x ∷ xs) rest h = (x, ap (λ l. x ∷ l) (some_if (x == b) xs rest h))

pub after_byte-same : (b : ℕ) (bytes rest : List ℕ) → after_byte b bytes ≡ Some rest → bytes ≡ b ∷ rest
after_byte-same b [] rest h = absurd cc
after_byte-same b (x ∷ xs) rest h = by_test (x == b) refl h where
  by_test : (t : Bool) → (x == b) ≡ t → cond t (Some xs) None ≡ Some rest → x ∷ xs ≡ b ∷ rest
  by_test true e k = ap (λ c. c ∷ xs) (eqb-true x b e) ∙ ap (λ l. b ∷ l) (some_if true xs rest k)
  by_test false e k = absurd cc

pub after_byte-utf8 : (b : ℕ) (bytes rest : List ℕ) → b < 128 → after_byte b bytes ≡ Some rest → IsUtf8 bytes → IsUtf8 rest
after_byte-utf8 b bytes rest low h utf8 = utf8-rest b rest low (subst IsUtf8 (after_byte-same b bytes rest h) utf8)

pub until_quote-is : (quote : ℕ) (bytes : List ℕ) (found : List ℕ × List ℕ) → until_quote quote bytes ≡ Some found → let len = position_or_len (λ b. b == quote) bytes in (take len bytes, drop (len + 1) bytes) ≡ found
until_quote-is quote bytes found h = some_if _ _ _ h

pub quoted-is : (bytes : List ℕ) (found : List ℕ × List ℕ) → quoted bytes ≡ Some found → (quote : ℕ) × (rest : List ℕ) × (is_quote quote ≡ true) × (bytes ≡ quote ∷ rest) × (until_quote quote rest ≡ Some found)
unfolding quoted
quoted-is [] found h = absurd cc
quoted-is (quote ∷ bytes) found h = by_test (is_quote quote) refl h where
  by_test : (t : Bool) → is_quote quote ≡ t → cond t (until_quote quote bytes) None ≡ Some found →
      (q : ℕ) × (rest : List ℕ) × (is_quote q ≡ true) × ((quote ∷ bytes) ≡ q ∷ rest) × (until_quote q rest ≡ Some found)
  by_test true e k = (quote, bytes, e, refl, k)
  by_test false e k = absurd cc

quoted-shorter : (bytes : List ℕ) (found : List ℕ × List ℕ) → quoted bytes ≡ Some found → length found.1 < length bytes
quoted-shorter bytes found h =
    let parts = quoted-is bytes found h in
    let e = until_quote-is parts.0 parts.1 found parts.4 in
    let len = position_or_len (λ b. b == parts.0) parts.1 in
    let within : length (drop (len + 1) parts.1) ≤ length parts.1 = omega (arith, length-drop (len + 1) parts.1) in
    let shorter : length found.1 ≤ length parts.1 = subst (λ (p : List ℕ × List ℕ). length p.1 ≤ length parts.1) e within in
    omega (arith, ap length parts.3)

quote-ascii : (b : ℕ) → is_quote b ≡ true → b < 128
quote-ascii b h = grind (arith, nat_tests)

pub quoted-utf8 : (bytes : List ℕ) (found : List ℕ × List ℕ) → quoted bytes ≡ Some found → IsUtf8 bytes → IsUtf8 found.0 × IsUtf8 found.1
quoted-utf8 bytes found h utf8 =
    let parts = quoted-is bytes found h in
    let low = quote-ascii parts.0 parts.2 in
    cut-utf8 parts.0 parts.1 found parts.4 low (utf8-rest parts.0 parts.1 low (subst IsUtf8 parts.3 utf8))

-- what `equated` finds
pub equated-is : (bytes : List ℕ) (found : List ℕ × List ℕ) → equated bytes ≡ Some found → (rest : List ℕ) × (after_byte 61 (after_space bytes) ≡ Some rest) × (quoted (after_space rest) ≡ Some found)
unfolding equated
equated-is bytes found h = bind_some (λ rest. quoted (after_space rest)) (after_byte 61 (after_space bytes)) found h

pub equated-utf8 : (bytes : List ℕ) (found : List ℕ × List ℕ) → equated bytes ≡ Some found → IsUtf8 bytes → IsUtf8 found.0 × IsUtf8 found.1
equated-utf8 bytes found h utf8 =
    let parts = equated-is bytes found h in
    quoted-utf8 (after_space parts.0) found parts.2 (after_space-utf8 parts.0 (after_byte-utf8 61 (after_space bytes) parts.0 (omega arith) parts.1 (after_space-utf8 bytes utf8)))

equated-shorter : (bytes : List ℕ) (found : List ℕ × List ℕ) → equated bytes ≡ Some found → length found.1 < length bytes
equated-shorter bytes found h =
    let parts = equated-is bytes found h in
    let b = after_byte-is 61 (after_space bytes) parts.0 parts.1 in
    let c = quoted-shorter (after_space parts.0) found parts.2 in
    omega (arith, ap length b.1, c, length-drop (prefix_len is_space bytes) bytes, length-drop (prefix_len is_space parts.0) parts.0)

-- an attribute's parts
pub attribute-is : (bytes : List ℕ) (found : List ℕ × List ℕ × List ℕ) → attribute bytes ≡ Some found →
    (name : List ℕ × List ℕ) × (value : List ℕ × List ℕ) × (named bytes ≡ Some name) × (equated name.1 ≡ Some value) × (list_any (λ b. b == 60) value.0 ≡ false)
    × ((name.0, value.0, value.1) ≡ found)
unfolding attribute
attribute-is bytes found h =
    let first = bind_some _ (named bytes) found h in
    let second = map_some (λ (value : List ℕ × List ℕ). (first.0.0, value.0, value.1)) (option_and_then without_less (equated first.0.1)) found first.2 in
    let third = bind_some without_less (equated first.0.1) second.0 second.1 in
    let less = whole (list_any (λ b. b == 60) third.0.0) third.0 second.0 third.2 in
    (first.0, third.0, first.1, third.1, less.0, ap (λ (v : List ℕ × List ℕ). (first.0.0, v.0, v.1)) less.1 ∙ second.2) where
      whole : (t : Bool) (a b : List ℕ × List ℕ) → cond t None (Some a) ≡ Some b → (t ≡ false) × (a ≡ b)
      whole true a b h = absurd cc
      whole false a b h = (refl, some_if true a b h)

pub attribute-shorter : (bytes : List ℕ) (found : List ℕ × List ℕ × List ℕ) → attribute bytes ≡ Some found → length found.2 < length bytes
attribute-shorter bytes found h =
    let parts = attribute-is bytes found h in
    let name = parts.0 in
    let value = parts.1 in
    let a = named-shorter bytes name parts.2 in
    let b = equated-shorter name.1 value parts.3 in
    let goal : length value.1 < length bytes = omega (arith, a, b) in
    subst (λ (p : List ℕ × List ℕ × List ℕ). length p.2 < length bytes) parts.5 goal

pub attribute-utf8 : (bytes name value more : List ℕ) → attribute bytes ≡ Some (name, value, more) → IsUtf8 bytes → IsUtf8 name × IsUtf8 value × IsUtf8 more
attribute-utf8 bytes name value more h utf8 =
    let parts = attribute-is bytes (name, value, more) h in
    let n = parts.0 in
    let v = parts.1 in
    let a : IsUtf8 n.0 × IsUtf8 n.1 = named-utf8 bytes n.0 n.1 parts.2 utf8 in
    let b = equated-utf8 n.1 v parts.3 a.1 in
    subst (λ (p : List ℕ × List ℕ × List ℕ). IsUtf8 p.0 × IsUtf8 p.1 × IsUtf8 p.2) parts.5 (a.0, b.0, b.1)

module _ (n : ℕ) (bytes : List ℕ) where
  pub attributes-end : (empty : Bool) → tag_end (after_space bytes) ≡ Some empty → attributes (suc n) bytes ≡ Some ([], empty)
  unfolding attributes
  attributes-end empty h = rw h refl

  pub attributes-joined : tag_end (after_space bytes) ≡ None → length (after_space bytes) ≡ length bytes → attributes (suc n) bytes ≡ None
  unfolding attributes
  attributes-joined h e = rw (h, eq-eqb _ _ e) refl

  pub attributes-other : tag_end (after_space bytes) ≡ None → (length (after_space bytes) ≡ length bytes → ⊥) → attributes (suc n) bytes
      ≡ option_and_then (λ found. option_map (with_first (found.0, found.1)) (attributes n found.2)) (attribute (after_space bytes))
  unfolding attributes
  attributes-other h ne = rw (h, ne_eqb _ _ ne) refl

pub attributes-enough : (n m : ℕ) (bytes : List ℕ) → length bytes < n → length bytes < m → attributes n bytes ≡ attributes m bytes
unfolding attributes
attributes-enough zero m bytes h k = absurd (omega arith)
attributes-enough (suc n) zero bytes h k = absurd (omega arith)
attributes-enough (suc n) (suc m) bytes h k =
    ap (λ other. option_or (option_map (λ empty. ([], empty)) (tag_end (after_space bytes))) (if length (after_space bytes) == length bytes then None else other))
    (and_then-same _ _ (attribute (after_space bytes)) (λ found is.
    let shorter = attribute-shorter (after_space bytes) found is in
    ap (option_map (with_first (found.0, found.1))) (attributes-enough n m found.2 (omega (arith, shorter, length-drop (prefix_len is_space bytes) bytes)) (omega (arith, shorter, length-drop (prefix_len is_space bytes) bytes)))))

-- attributes before others
abbrev pub before : List (List ℕ × List ℕ) → List (List ℕ × List ℕ) × Bool → List (List ℕ × List ℕ) × Bool
before attrs more = (attrs ++ more.0, more.1)

pub before-first : (attrs : List (List ℕ × List ℕ)) (attr : List ℕ × List ℕ) (o : Option (List (List ℕ × List ℕ) × Bool)) → option_map (before attrs) (option_map (with_first attr) o) ≡ option_map (before (attrs ++ attr ∷ [])) o
before-first attrs attr None = refl
before-first attrs attr (Some more) = ap (λ l. Some (l, more.1)) (sym (append_assoc attrs (attr ∷ []) more.0))

pub attributes-bad : (rest : List ℕ) → tag_end (after_space rest) ≡ None → (length (after_space rest) ≡ length rest → ⊥) → attribute (after_space rest) ≡ None → attributes (suc (length rest)) rest ≡ None
attributes-bad rest n ne a =
    attributes-other (length rest) rest n ne ∙ ap (option_and_then (λ found. option_map (with_first (found.0, found.1)) (attributes (length rest) found.2))) a

pub attributes-next : (rest name value more : List ℕ) → tag_end (after_space rest) ≡ None → (length (after_space rest) ≡ length rest → ⊥) → attribute (after_space rest) ≡ Some (name, value, more) →
    attributes (suc (length rest)) rest ≡ option_map (with_first (name, value)) (attributes (suc (length more)) more)
attributes-next rest name value more n ne a =
    let shorter = attribute-shorter (after_space rest) (name, value, more) a in
    attributes-other (length rest) rest n ne
    ∙ (ap (option_and_then (λ found. option_map (with_first (found.0, found.1)) (attributes (length rest) found.2))) a
    ∙ ap (option_map (with_first (name, value))) (attributes-enough (length rest) (suc (length more)) more (omega (arith, shorter, length-drop (prefix_len is_space rest) rest)) (omega arith)))

pub no_attributes : (bytes : List ℕ) (found : List (List ℕ × List ℕ) × Bool) → attributes zero bytes ≡ Some found → ⊥
unfolding attributes
no_attributes bytes found h = cc
