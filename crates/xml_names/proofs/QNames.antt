-- Names that are taken apart at their first colon.
use Rattle.std.proofs.Common.{◌≡◌, ◌⊎◌, inl, inr, ℕ, zero, suc, ◌+◌, ◌<◌, ◌≤◌, Bool, true, false, not, cond, ◌||◌, ◌&&◌, List, [], ◌∷◌, ◌++◌, length, take, drop, get_or, Some, None, refl, sym, ap, ◌∙◌, arith, subst, IsUtf8, encode_utf8_all, append_assoc}
use Rattle.std.specs.Prelude.{if◌then◌else◌, nat_lt, encode_utf8}
use Rattle.std.specs.List.{list_any, list_all, before_first, after_first, position, position_or_len}
use Rattle.std.specs.Option.{option_map_or}
use Rattle.std.specs.Prelude.{slice_get}
use Rattle.std.specs.Str.{chars, IsAscii, IsCharBoundary}
use Rattle.std.proofs.lemmas.Bool.{or_parts, or_right, and_parts, and_from, eqb-true, ltb-false, cases_Bool}
use Rattle.std.proofs.Math.Seq.{drop-cons, get_or-append_seam}
use Rattle.std.proofs.lemmas.List.{take_at, take-append-drop, length-append, length-take-le}
use Rattle.std.proofs.lemmas.List.Quantifiers.{position-Some}
use Rattle.std.proofs.lemmas.List.Sums.{fails_before_first}
use Rattle.std.proofs.lemmas.Str.{encode_ascii, encodes-chars, chars-append, chars-IsAscii, IsUtf8-from_ascii, IsUtf8-take, IsCharBoundary-before_ascii}
use Rattle.stx_base.specs.Character.{is_ncname, is_ncname_char, is_name_char, is_name_start}
use Rattle.xml_names.specs.QName.{is_colon, has_colon, prefix_of, local_of, is_qname, IsQName}
use Rattle.xml_names.specs.inside.Parts.{IsCut}

-- the first colon stands behind a front without one
position-first : (front back : List ℕ) → list_any is_colon front ≡ false → position_or_len is_colon (front ++ 0x3A ∷ back) ≡ length front
position-first [] back none = refl
position-first (c ∷ cs) back none =
    let parts = or_parts (is_colon c) (list_any is_colon cs) none in
    let n : 1 + length cs ≡ suc (length cs) = omega arith in
    ap (λ t. cond (not t) (1 + position_or_len is_colon (cs ++ 0x3A ∷ back)) 0) parts.0 ∙ ap (λ k. 1 + k) (position-first cs back parts.1) ∙ n

any-first : (front back : List ℕ) → list_any is_colon (front ++ 0x3A ∷ back) ≡ true
any-first [] back = refl
any-first (c ∷ cs) back = or_right (is_colon c) (list_any is_colon (cs ++ 0x3A ∷ back)) (any-first cs back)

module _ (front back : List ℕ) (none : list_any is_colon front ≡ false) where
  pub has_colon-first : has_colon (front ++ 0x3A ∷ back) ≡ true
  has_colon-first = any-first front back

  pub prefix_of-first : prefix_of (front ++ 0x3A ∷ back) ≡ front
  prefix_of-first =
      ap (λ t. if t then before_first is_colon (front ++ 0x3A ∷ back) else []) has_colon-first
      ∙ take_at front (0x3A ∷ back) (position_or_len is_colon (front ++ 0x3A ∷ back)) (sym (position-first front back none))

  pub local_of-first : local_of (front ++ 0x3A ∷ back) ≡ back
  local_of-first =
      ap (λ t. if t then after_first is_colon (front ++ 0x3A ∷ back) else front ++ 0x3A ∷ back) has_colon-first
      ∙ (let n : position_or_len is_colon (front ++ 0x3A ∷ back) + 1 ≡ suc (length front) = omega (arith, position-first front back none) in
      ap (λ k. drop k (front ++ 0x3A ∷ back)) n ∙ behind front) where
        behind : (xs : List ℕ) → drop (suc (length xs)) (xs ++ 0x3A ∷ back) ≡ back
        behind [] = refl
        behind (x ∷ xs) = behind xs

module _ (name : List ℕ) (none : has_colon name ≡ false) where
  pub prefix_of-none : prefix_of name ≡ []
  prefix_of-none = ap (λ t. if t then before_first is_colon name else []) none

  pub local_of-none : local_of name ≡ name
  local_of-none = ap (λ t. if t then after_first is_colon name else name) none

-- an NCName has no colon
all-none : (cs : List ℕ) → list_all is_ncname_char cs ≡ true → list_any is_colon cs ≡ false
all-none [] h = refl
all-none (c ∷ cs) h =
    let parts = and_parts (is_ncname_char c) (list_all is_ncname_char cs) h in
    let here = and_parts (is_name_char c) (not (is_colon c)) parts.0 in
    ap (λ t. t || list_any is_colon cs) (no (is_colon c) here.1) ∙ all-none cs parts.1 where
      no : (t : Bool) → not t ≡ true → t ≡ false
      no true e = absurd (cc)
      no false e = refl

pub ncname-none : (cs : List ℕ) → is_ncname cs ≡ true → has_colon cs ≡ false
ncname-none cs h = all-none cs (and_parts (option_map_or is_name_start (slice_get cs 0) false) (list_all is_ncname_char cs) h).1

-- a name with a colon, cut at its first one
pub split-any : (name : List ℕ) → list_any is_colon name ≡ true → (front : List ℕ) × (back : List ℕ) × (list_any is_colon front ≡ false) × (name ≡ front ++ 0x3A ∷ back)
split-any [] h = absurd (cc)
split-any (c ∷ cs) h = by_test (λ e. split-any cs e) (cases_Bool (is_colon c)) where
  by_test : (list_any is_colon cs ≡ true → (front : List ℕ) × (back : List ℕ) × (list_any is_colon front ≡ false) × (cs ≡ front ++ 0x3A ∷ back))
      → (is_colon c ≡ true) ⊎ (is_colon c ≡ false) → (front : List ℕ) × (back : List ℕ) × (list_any is_colon front ≡ false) × (c ∷ cs ≡ front ++ 0x3A ∷ back)
  by_test again (inl e) = ([], cs, refl, ap (λ d. d ∷ cs) (eqb-true c 0x3A e))
  by_test again (inr e) =
      let others : list_any is_colon cs ≡ true = ap (λ t. t || list_any is_colon cs) (sym e) ∙ h in
      let cut = again others in
      (c ∷ cut.0, cut.1, ap (λ t. t || list_any is_colon cut.0) e ∙ cut.2, ap (λ l. c ∷ l) cut.3)

-- The laws.

pub spelled : (name : List ℕ) → is_qname name ≡ true → IsQName name (prefix_of name) (local_of name)
spelled name h = by_case (cases_Bool (has_colon name)) where
  parts : ((not (has_colon name) || is_ncname (prefix_of name)) ≡ true) × (is_ncname (local_of name) ≡ true)
  parts = and_parts (not (has_colon name) || is_ncname (prefix_of name)) (is_ncname (local_of name)) h

  by_case : (has_colon name ≡ true) ⊎ (has_colon name ≡ false) → IsQName name (prefix_of name) (local_of name)
  by_case (inr none) = (parts.1, inl (prefix_of-none name none, sym (local_of-none name none)))
  by_case (inl some) =
      let cut = split-any name some in
      let front : prefix_of name ≡ cut.0 = ap prefix_of cut.3 ∙ prefix_of-first cut.0 cut.1 cut.2 in
      let back : local_of name ≡ cut.1 = ap local_of cut.3 ∙ local_of-first cut.0 cut.1 cut.2 in
      (parts.1, inr (ap (λ t. not t || is_ncname (prefix_of name)) (sym some) ∙ parts.0, cut.3 ∙ ap (λ l. l ++ 0x3A ∷ cut.1) (sym front) ∙ ap (λ l. prefix_of name ++ 0x3A ∷ l) (sym back)))

-- what a name says once it is cut
joined : (name prefix local : List ℕ) (t : Bool) → has_colon name ≡ t → prefix_of name ≡ prefix → local_of name ≡ local
    → (not t || is_ncname prefix) ≡ true → is_ncname local ≡ true → (is_qname name ≡ true) × (prefix_of name ≡ prefix) × (local_of name ≡ local)
joined name prefix local t c p l front back = (
  ap (λ s. (not s || is_ncname (prefix_of name)) && is_ncname (local_of name)) c
      ∙ ap (λ x. (not t || is_ncname x) && is_ncname (local_of name)) p
      ∙ ap (λ x. (not t || is_ncname prefix) && is_ncname x) l
      ∙ and_from (not t || is_ncname prefix) (is_ncname local) front back,
  p,
  l,
)

pub read : (name prefix local : List ℕ) → IsQName name prefix local → (is_qname name ≡ true) × (prefix_of name ≡ prefix) × (local_of name ≡ local)
read name prefix local h = by_case h.1 where
  by_case : ((prefix ≡ []) × (name ≡ local)) ⊎ ((is_ncname prefix ≡ true) × (name ≡ prefix ++ 0x3A ∷ local)) → (is_qname name ≡ true) × (prefix_of name ≡ prefix) × (local_of name ≡ local)
  by_case (inl alone) =
      let none : has_colon name ≡ false = ap has_colon alone.1 ∙ ncname-none local h.0 in
      joined name prefix local false none (prefix_of-none name none ∙ sym alone.0) (local_of-none name none ∙ alone.1) refl h.0
  by_case (inr both) =
      let none : list_any is_colon prefix ≡ false = ncname-none prefix both.0 in
      joined name prefix local true (ap has_colon both.1 ∙ has_colon-first prefix local none) (ap prefix_of both.1 ∙ prefix_of-first prefix local none)
      (ap local_of both.1 ∙ local_of-first prefix local none) both.0 h.0

-- Texts that are cut.

-- bytes among which no colon is spell none
colon-encoded : encode_utf8 0x3A ≡ 0x3A ∷ []
colon-encoded = encode_ascii 0x3A (omega arith)

encoded : (xs ys : List ℕ) → encode_utf8_all (xs ++ 0x3A ∷ ys) ≡ encode_utf8_all xs ++ 0x3A ∷ encode_utf8_all ys
encoded [] ys = ap (λ l. l ++ encode_utf8_all ys) colon-encoded
encoded (x ∷ xs) ys = ap (λ l. encode_utf8 x ++ l) (encoded xs ys) ∙ sym (append_assoc (encode_utf8 x) (encode_utf8_all xs) (0x3A ∷ encode_utf8_all ys))

none-spelled : (bs : List ℕ) → IsUtf8 bs → list_any is_colon bs ≡ false → has_colon (chars bs) ≡ false
none-spelled bs utf8 h = by_case (cases_Bool (has_colon (chars bs))) where
  by_case : (has_colon (chars bs) ≡ true) ⊎ (has_colon (chars bs) ≡ false) → has_colon (chars bs) ≡ false
  by_case (inr e) = e
  by_case (inl e) =
      let cut = split-any (chars bs) e in
      let whole : bs ≡ encode_utf8_all cut.0 ++ 0x3A ∷ encode_utf8_all cut.1 = sym (encodes-chars bs utf8) ∙ ap encode_utf8_all cut.3 ∙ encoded cut.0 cut.1 in
      let some : list_any is_colon bs ≡ true = ap (list_any is_colon) whole ∙ any-first (encode_utf8_all cut.0) (encode_utf8_all cut.1) in
      let never : true ≡ false = sym some ∙ h in
      absurd (cc)

-- a text that is cut at a colon
chars-cut : (bs front back : List ℕ) → IsUtf8 front → bs ≡ front ++ 0x3A ∷ back → chars bs ≡ chars front ++ 0x3A ∷ chars back
chars-cut bs front back utf8 e = ap chars e ∙ chars-append front (0x3A ∷ back) utf8 ∙ ap (λ l. chars front ++ l) (chars-append (0x3A ∷ []) back one ∙ ap (λ l. l ++ chars back) (chars-IsAscii (0x3A ∷ []) small)) where
  small : IsAscii (0x3A ∷ [])
  small zero = omega arith
  small (suc i) = omega arith

  one : IsUtf8 (0x3A ∷ [])
  one = IsUtf8-from_ascii (0x3A ∷ []) small

front-utf8 : (bs front back : List ℕ) → IsUtf8 bs → bs ≡ front ++ 0x3A ∷ back → IsUtf8 front
front-utf8 bs front back utf8 e =
    let within : length front < length bs = omega (arith, ap length e, length-append front (0x3A ∷ back)) in
    let colon : get_or bs (length front) 0 ≡ 0x3A = ap (λ l. get_or l (length front) 0) e ∙ get_or-append_seam front 0x3A back 0 in
    let small : get_or bs (length front) 0 < 128 = omega arith in
    subst IsUtf8 (ap (take (length front)) e ∙ take_at front (0x3A ∷ back) (length front) refl)
    (IsUtf8-take bs (length front) utf8 (IsCharBoundary-before_ascii bs (length front) within small))

-- Names that are cut at the place of their first colon.

all-fail : (xs : List ℕ) → ((j : ℕ) → j < length xs → is_colon (get_or xs j 0) ≡ false) → list_any is_colon xs ≡ false
all-fail [] h = refl
all-fail (x ∷ xs) h = ap (λ t. t || list_any is_colon xs) (h 0 (omega arith)) ∙ all-fail xs (λ j less. h (suc j) (omega arith))

pub no-place : (bs : List ℕ) → IsUtf8 bs → None ≡ position is_colon bs → has_colon (chars bs) ≡ false
no-place bs utf8 e = none-spelled bs utf8 (all-fail bs (λ j less. fails_before_first is_colon bs j 0 (omega (arith, less, behind)))) where
  by_test : (t : Bool) (k : ℕ) → None ≡ cond t (Some k) None → t ≡ false
  by_test true k h = absurd (cc)
  by_test false k h = refl

  behind : length bs ≤ position_or_len is_colon bs
  behind = ltb-false (position_or_len is_colon bs) (length bs) (by_test (nat_lt (position_or_len is_colon bs) (length bs)) (position_or_len is_colon bs) e)

none-before : (xs : List ℕ) (k : ℕ) → ((j : ℕ) → j < k → is_colon (get_or xs j 0) ≡ false) → list_any is_colon (take k xs) ≡ false
none-before xs zero h = refl
none-before [] (suc k) h = refl
none-before (x ∷ xs) (suc k) h = ap (λ t. t || list_any is_colon (take k xs)) (h 0 (omega arith)) ∙ none-before xs k (λ j less. h (suc j) (omega arith))

module _ (bs : List ℕ) (k : ℕ) (e : Some k ≡ position is_colon bs) where
  found : (k < length bs) × (is_colon (get_or bs k 0) ≡ true) × ((j : ℕ) → j < k → is_colon (get_or bs j 0) ≡ false)
  found = position-Some is_colon bs k 0 (sym e)

  pub place-within : k < length bs
  place-within = found.0

  colon-there : get_or bs k 0 ≡ 0x3A
  colon-there = eqb-true (get_or bs k 0) 0x3A found.1

  pub place-ascii : get_or bs k 0 < 128
  place-ascii = omega (arith, colon-there)

  pub cut-there : IsUtf8 bs → IsCut bs (take k bs) (drop (k + 1) bs)
  cut-there utf8 =
      let n : suc k ≡ k + 1 = omega arith in
      let whole : bs ≡ take k bs ++ 0x3A ∷ drop (k + 1) bs =
      sym (take-append-drop k bs) ∙ ap (λ l. take k bs ++ l) (drop-cons bs k 0 found.0)
      ∙ ap (λ c. take k bs ++ c ∷ drop (suc k) bs) colon-there ∙ ap (λ m. take k bs ++ 0x3A ∷ drop m bs) n in
      let front : IsUtf8 (take k bs) = front-utf8 bs (take k bs) (drop (k + 1) bs) utf8 whole in
      let none : has_colon (chars (take k bs)) ≡ false = none-spelled (take k bs) front (none-before bs k found.2) in
      let cut = chars-cut bs (take k bs) (drop (k + 1) bs) front whole in
      let len : length (take k bs) ≡ k = length-take-le k bs (omega (arith, found.0)) in
      record {
        before = ap (λ m. take m bs) (sym len);
        place = subst (IsCharBoundary bs) (sym len) (IsCharBoundary-before_ascii bs k found.0 place-ascii);
        some = ap has_colon cut ∙ has_colon-first (chars (take k bs)) (chars (drop (k + 1) bs)) none;
        prefix = ap prefix_of cut ∙ prefix_of-first (chars (take k bs)) (chars (drop (k + 1) bs)) none;
        local = ap local_of cut ∙ local_of-first (chars (take k bs)) (chars (drop (k + 1) bs)) none;
      }

pub cut-qname : (bs front back : List ℕ) → IsCut bs front back → is_qname (chars bs) ≡ (is_ncname (chars front) && is_ncname (chars back))
cut-qname bs front back cut =
    ap (λ t. (not t || is_ncname (prefix_of (chars bs))) && is_ncname (local_of (chars bs))) cut.some
    ∙ ap (λ p. is_ncname p && is_ncname (local_of (chars bs))) cut.prefix
    ∙ ap (λ l. is_ncname (chars front) && is_ncname l) cut.local

pub whole-qname : (name : List ℕ) → has_colon name ≡ false → is_qname name ≡ is_ncname name
whole-qname name none = ap (λ t. (not t || is_ncname (prefix_of name)) && is_ncname (local_of name)) none ∙ ap is_ncname (local_of-none name none)
