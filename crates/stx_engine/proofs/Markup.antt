-- Markup as bytes: where it ends, and which names it opens and closes.
use Rattle.std.proofs.Common.{◌≡◌, ℕ, zero, suc, ◌+◌, ◌-◌, ◌<◌, ◌≤◌, Bool, true, false, not, ◌&&◌, ◌||◌, ◌==◌, List, [], ◌∷◌, ◌++◌, Some, None, length, take, drop, get_or, refl, sym, ap, ◌∙◌, subst, arith, append_assoc, append-nil, length-append, ⊎_elim, ne_eqb}
use Rattle.std.specs.Prelude.{codes, encode_utf8_all, if◌then◌else◌}
use Rattle.std.specs.List.{list_all, flat_map, ends_with}
use Rattle.std.proofs.lemmas.Bool.{and_parts, and_from, cases_lt, cases_eq, eqb-false}
use Rattle.std.proofs.lemmas.Bool.Decides.{nat_tests}
use Rattle.std.proofs.lemmas.Str.{encode_ascii, inside_one}
use Rattle.std.proofs.Math.Seq.{take-append_seam, drop-append_seam}
use Rattle.stx_base.specs.Character.{is_space, is_name_char}
use Rattle.xml_tokens.specs.Cuts.{IsWhole}
use Rattle.xml_tokens.specs.Places.{is_quote, first_outside}
use Rattle.xml_tokens.specs.Shape.{form, ends_tag, end_by, behind}
use Rattle.xml_tokens.specs.declared.form.Form.TheVariants.{Tag}
use Rattle.xml_tokens.proofs.ListLemmas.{prefix-append, stops}
use Rattle.stx_engine.specs.Nesting.{ends_name, name_of, Opens, Closes, Neither, effect_by, effect}
use lib.Utf8.{encode}
use lib.Pointwise.{pointwise}

-- Bytes of names

-- a byte that ends neither a name nor a tag, opens no quote, and makes no other markup of a tag
abbrev pub is_inner : ℕ → Bool
is_inner b = not (ends_name b) && (not (is_quote b) && (not (b == 33) && not (b == 63)))

abbrev below : (ℕ → Bool) → ℕ → Bool
below p zero = true
below p (suc n) = p n && below p n

all_below : (p : ℕ → Bool) (n : ℕ) → below p n ≡ true → (x : ℕ) → x < n → p x ≡ true
all_below p zero e x h = absurd (omega arith)
all_below p (suc n) e x h =
    let k = and_parts _ _ e in
    ⊎_elim (λ same. subst (λ y. p y ≡ true) (sym same) k.0) (λ (other : x ≡ n → ⊥). all_below p n k.1 x (omega arith)) (cases_eq x n)

-- each name character in ASCII is such a byte
ascii_inner : below (λ c. not (is_name_char c) || is_inner c) 128 ≡ true
ascii_inner = refl

high_inner : (b : ℕ) → 128 ≤ b → is_inner b ≡ true
high_inner b h = grind (arith, nat_tests)

or_right : (s t : Bool) → s ≡ true → (not s || t) ≡ true → t ≡ true
or_right true t h k = k
or_right false t h k = absurd cc

pub all_from : (p : ℕ → Bool) (bytes : List ℕ) → ((k : ℕ) → k < length bytes → p (get_or bytes k 0) ≡ true) → list_all p bytes ≡ true
all_from p [] h = refl
all_from p (b ∷ bs) h = and_from _ _ (h 0 (omega arith)) (all_from p bs (λ k l. h (suc k) (omega arith)))

char_inner : (c : ℕ) → is_name_char c ≡ true → list_all is_inner (encode c) ≡ true
char_inner c h = ⊎_elim
    (λ (low : c < 128). rw (encode_ascii c low) (and_from _ _ (or_right (is_name_char c) (is_inner c) h (all_below (λ x. not (is_name_char x) || is_inner x) 128 ascii_inner c low)) refl))
    (λ (high : 128 ≤ c). all_from is_inner (encode c) (λ k l. ⊎_elim
    (λ (low : get_or (encode c) k 0 < 128). absurd (omega (arith, inside_one c [] (encode c) k (sym (append-nil (encode c))) l low)))
    (λ (big : 128 ≤ get_or (encode c) k 0). high_inner (get_or (encode c) k 0) big) (cases_lt (get_or (encode c) k 0) 128)))
    (cases_lt c 128)

pub all_append : (p : ℕ → Bool) (xs ys : List ℕ) → list_all p xs ≡ true → list_all p ys ≡ true → list_all p (xs ++ ys) ≡ true
all_append p [] ys h k = k
all_append p (x ∷ xs) ys h k = let both = and_parts _ _ h in and_from _ _ both.0 (all_append p xs ys both.1 k)

pub name_inner : (name : List ℕ) → list_all is_name_char name ≡ true → list_all is_inner (encode_utf8_all name) ≡ true
name_inner [] h = refl
name_inner (c ∷ cs) h = let both = and_parts _ _ h in all_append is_inner (encode c) (encode_utf8_all cs) (char_inner c both.0) (name_inner cs both.1)

-- What such a byte isn't.
pub record Inner (b : ℕ) : Type 0 where
  pub name : ends_name b ≡ false
  pub quote : is_quote b ≡ false
  pub bang : (b == 33) ≡ false
  pub question : (b == 63) ≡ false
  pub tag : ends_tag b ≡ false
  pub slash : (b == 47) ≡ false

pub negated : (t : Bool) → not t ≡ true → t ≡ false
negated true h = absurd cc
negated false h = refl

parts_of_name : (s t u : Bool) → (s || t || u) ≡ false → (t ≡ false) × (u ≡ false)
parts_of_name true t u h = absurd cc
parts_of_name false true u h = absurd cc
parts_of_name false false u h = (refl, h)

pub inner_is : (b : ℕ) → is_inner b ≡ true → Inner b
inner_is b h =
    let p = and_parts _ _ h in
    let q = and_parts _ _ p.1 in
    let r = and_parts _ _ q.1 in
    let n = negated (ends_name b) p.0 in
    let m = parts_of_name (is_space b) (b == 0x2F) (b == 0x3E) n in
    record { name = n; quote = negated (is_quote b) q.0; bang = negated (b == 33) r.0; question = negated (b == 63) r.1; tag = m.1; slash = m.0 }

-- The search for the end of a tag

-- the search goes over these bytes, and no quote is open behind them
abbrev pub Crosses : List ℕ → Type 0
Crosses bytes = (at : ℕ) (more : List ℕ) → first_outside ends_tag None at (bytes ++ more) ≡ first_outside ends_tag None (at + length bytes) more

crosses_append : (xs ys : List ℕ) → Crosses xs → Crosses ys → Crosses (xs ++ ys)
crosses_append xs ys f g at more =
    let n : at + length xs + length ys ≡ at + length (xs ++ ys) = omega (arith, length-append xs ys) in
    ap (first_outside ends_tag None at) (append_assoc xs ys more) ∙ (f at (ys ++ more) ∙ (g (at + length xs) more ∙ ap (λ n. first_outside ends_tag None n more) n))

crosses_one : (b : ℕ) → ends_tag b ≡ false → is_quote b ≡ false → Crosses (b ∷ [])
crosses_one b t q at more = rw (t, q) refl

crosses_inner : (bytes : List ℕ) → list_all is_inner bytes ≡ true → Crosses bytes
crosses_inner [] h = λ at more. let n : at ≡ at + 0 = omega arith in ap (λ n. first_outside ends_tag None n more) n
crosses_inner (b ∷ bs) h =
    let both = and_parts (is_inner b) (list_all is_inner bs) h in
    let is = inner_is b both.0 in
    crosses_append (b ∷ []) bs (crosses_one b is.tag is.quote) (crosses_inner bs both.1)

-- a byte that closes no value
abbrev pub is_unquoted : ℕ → Bool
is_unquoted b = not (b == 34)

inside_value : (bytes : List ℕ) → list_all is_unquoted bytes ≡ true → (at : ℕ) (more : List ℕ) →
    first_outside ends_tag (Some 34) at (bytes ++ 34 ∷ more) ≡ first_outside ends_tag None (at + suc (length bytes)) more
inside_value [] h at more = refl
inside_value (b ∷ bs) h at more =
    let both = and_parts (is_unquoted b) (list_all is_unquoted bs) h in
    let n : at + 1 + suc (length bs) ≡ at + suc (suc (length bs)) = omega arith in
    rw (negated (b == 34) both.0) (inside_value bs both.1 (at + 1) more ∙ ap (λ n. first_outside ends_tag None n more) n)

crosses_value : (bytes : List ℕ) → list_all is_unquoted bytes ≡ true → Crosses (34 ∷ (bytes ++ 34 ∷ []))
crosses_value bytes h at more =
    let n : at + 1 + suc (length bytes) ≡ at + suc (length (bytes ++ 34 ∷ [])) = omega (arith, length-append bytes (34 ∷ [])) in
    ap (first_outside ends_tag (Some 34) (at + 1)) (append_assoc bytes (34 ∷ []) more) ∙ (inside_value bytes h (at + 1) more ∙ ap (λ n. first_outside ends_tag None n more) n)

-- a byte that begins no tag
abbrev pub is_text : ℕ → Bool
is_text b = not (b == 60)

-- What stands in a start tag behind its name

-- a name and a value, between double quotes
pub record Field : Type 0 where
  pub name : List ℕ
  pub value : List ℕ

abbrev pub field : Field → List ℕ
field f = 32 ∷ (f.name ++ 61 ∷ 34 ∷ (f.value ++ 34 ∷ []))

abbrev pub AreFields : List Field → Type 0
AreFields [] = Unit {0}
AreFields (f ∷ fs) = (list_all is_inner f.name ≡ true) × (list_all is_unquoted f.value ≡ true) × AreFields fs

-- a start tag without its end
abbrev pub tag_of : (name : List ℕ) → List Field → List ℕ
tag_of name fs = 60 ∷ (name ++ flat_map field fs)

crosses_field : (f : Field) → list_all is_inner f.name ≡ true → list_all is_unquoted f.value ≡ true → Crosses (field f)
crosses_field f h k =
    crosses_append (32 ∷ []) (f.name ++ 61 ∷ 34 ∷ (f.value ++ 34 ∷ [])) (crosses_one 32 refl refl)
    (crosses_append f.name (61 ∷ 34 ∷ (f.value ++ 34 ∷ [])) (crosses_inner f.name h)
    (crosses_append (61 ∷ []) (34 ∷ (f.value ++ 34 ∷ [])) (crosses_one 61 refl refl) (crosses_value f.value k)))

crosses_fields : (fs : List Field) → AreFields fs → Crosses (flat_map field fs)
crosses_fields [] h = crosses_inner [] refl
crosses_fields (f ∷ fs) h = crosses_append (field f) (flat_map field fs) (crosses_field f h.0 h.1) (crosses_fields fs h.2)

-- a shape that begins `<`, and neither `<!` nor `<?`, is a tag
is_tag : (b : ℕ) (bytes : List ℕ) → (b == 33) ≡ false → (b == 63) ≡ false → form (60 ∷ b ∷ bytes) ≡ Tag
is_tag b bytes e f = rw (e, f) refl

-- it ends with the first `>` outside quotes
tag_whole : (b : ℕ) (bytes more : List ℕ) → (b == 33) ≡ false → (b == 63) ≡ false → Crosses (60 ∷ b ∷ bytes) → IsWhole false (60 ∷ b ∷ (bytes ++ 62 ∷ [])) more
tag_whole b bytes more e f h =
    let n : 0 + suc (suc (length bytes)) + 1 ≡ suc (suc (length (bytes ++ 62 ∷ []))) = omega (arith, length-append bytes (62 ∷ [])) in
    let all : (bytes ++ 62 ∷ []) ++ more ≡ bytes ++ 62 ∷ more = append_assoc bytes (62 ∷ []) more in
    ap (λ x. end_by x false (60 ∷ b ∷ ((bytes ++ 62 ∷ []) ++ more))) (is_tag b ((bytes ++ 62 ∷ []) ++ more) e f)
    ∙ (ap (λ l. behind 1 (first_outside ends_tag None 0 (60 ∷ b ∷ l))) all
    ∙ (ap (behind 1) (h 0 (62 ∷ more)) ∙ ap Some n))

-- a list that isn't empty, with a last byte other than `/`
pub record Last (bytes : List ℕ) : Type 0 where
  pub front : List ℕ
  pub byte : ℕ
  pub is : bytes ≡ front ++ byte ∷ []
  pub other : (byte == 47) ≡ false

last_behind : (xs ys : List ℕ) → Last ys → Last (xs ++ ys)
last_behind xs ys l = record { front = xs ++ l.front; byte = l.byte; is = ap (λ z. xs ++ z) l.is ∙ sym (append_assoc xs l.front (l.byte ∷ [])); other = l.other }

last_inner : (b : ℕ) (bytes : List ℕ) → list_all is_inner (b ∷ bytes) ≡ true → Last (b ∷ bytes)
last_inner b [] h = record { front = []; byte = b; is = refl; other = (inner_is b (and_parts (is_inner b) true h).0).slash }
last_inner b (c ∷ bs) h = last_behind (b ∷ []) (c ∷ bs) (last_inner c bs (and_parts (is_inner b) (list_all is_inner (c ∷ bs)) h).1)

last_field : (f : Field) → Last (field f)
last_field f =
    last_behind (32 ∷ f.name) (61 ∷ 34 ∷ (f.value ++ 34 ∷ []))
    (last_behind (61 ∷ 34 ∷ f.value) (34 ∷ []) (record { front = []; byte = 34; is = refl; other = refl }))

last_fields : (f : Field) (fs : List Field) → Last (flat_map field (f ∷ fs))
last_fields f [] = subst Last (sym (append-nil (field f))) (last_field f)
last_fields f (g ∷ fs) = last_behind (field f) (flat_map field (g ∷ fs)) (last_fields g fs)

last_tag : (b : ℕ) (bytes : List ℕ) (fs : List Field) → list_all is_inner (b ∷ bytes) ≡ true → Last ((b ∷ bytes) ++ flat_map field fs)
last_tag b bytes [] h = subst Last (sym (append-nil (b ∷ bytes))) (last_inner b bytes h)
last_tag b bytes (f ∷ fs) h = last_behind (b ∷ bytes) (flat_map field (f ∷ fs)) (last_fields f fs)

-- the last two bytes
drop_front : (xs : List ℕ) (b c : ℕ) → drop (length (xs ++ b ∷ c ∷ []) - 2) (xs ++ b ∷ c ∷ []) ≡ b ∷ c ∷ []
drop_front xs b c =
    let n : length (xs ++ b ∷ c ∷ []) - 2 ≡ length xs = omega (arith, length-append xs (b ∷ c ∷ [])) in
    ap (λ k. drop k (xs ++ b ∷ c ∷ [])) n ∙ drop-append_seam xs (b ∷ c ∷ [])

eqb_other : (b : ℕ) → (b == 47) ≡ false → (47 == b) ≡ false
eqb_other b e = ne_eqb 47 b (λ same. eqb-false b 47 e (sym same))

-- a tag that ends in `>` alone is that of no empty element
ends_open : (bytes : List ℕ) → Last bytes → ends_with ◌==◌ (bytes ++ 62 ∷ []) (codes "/>") ≡ false
ends_open bytes l =
    subst (λ x. ends_with ◌==◌ (x ++ 62 ∷ []) (codes "/>") ≡ false) (sym l.is)
    (subst (λ x. ends_with ◌==◌ x (codes "/>") ≡ false) (sym (append_assoc l.front (l.byte ∷ []) (62 ∷ [])))
    (ap (λ x. pointwise ◌==◌ (codes "/>") x) (drop_front l.front l.byte 62) ∙ ap (λ t. t && true) (eqb_other l.byte l.other)))

ends_empty : (bytes : List ℕ) → ends_with ◌==◌ (bytes ++ 47 ∷ 62 ∷ []) (codes "/>") ≡ true
ends_empty bytes = ap (λ x. pointwise ◌==◌ (codes "/>") x) (drop_front bytes 47 62)

abbrev is_named : ℕ → Bool
is_named b = not (ends_name b)

all_named : (bytes : List ℕ) → list_all is_inner bytes ≡ true → list_all is_named bytes ≡ true
all_named [] h = refl
all_named (b ∷ bs) h =
    let both = and_parts (is_inner b) (list_all is_inner bs) h in
    and_from _ _ (and_parts _ _ both.0).0 (all_named bs both.1)

name_is : (name rest : List ℕ) → list_all is_inner name ≡ true → stops is_named rest ≡ true → name_of (name ++ rest) ≡ name
name_is name rest h s = ap (λ n. take n (name ++ rest)) (prefix-append is_named name rest (all_named name h) s) ∙ take-append_seam name rest

stops_name : (fs : List Field) → stops is_named (flat_map field fs ++ 62 ∷ []) ≡ true
stops_name [] = refl
stops_name (f ∷ fs) = refl

-- a start tag that ends in `>` or in `/>`
module _ (b : ℕ) (bytes : List ℕ) (fs : List Field) (inner : list_all is_inner (b ∷ bytes) ≡ true) (are : AreFields fs) where
  abbrev values : List ℕ
  values = flat_map field fs

  first : Inner b
  first = inner_is b (and_parts (is_inner b) (list_all is_inner bytes) inner).0

  crosses_tag : Crosses (60 ∷ b ∷ (bytes ++ values))
  crosses_tag =
      crosses_append (60 ∷ []) (b ∷ (bytes ++ values)) (crosses_one 60 refl refl)
      (crosses_append (b ∷ bytes) values (crosses_inner (b ∷ bytes) inner) (crosses_fields fs are))

  pub start_whole : (more : List ℕ) → IsWhole false (tag_of (b ∷ bytes) fs ++ 62 ∷ []) more
  start_whole more = tag_whole b (bytes ++ values) more first.bang first.question crosses_tag

  pub empty_whole : (more : List ℕ) → IsWhole false (tag_of (b ∷ bytes) fs ++ 47 ∷ 62 ∷ []) more
  empty_whole more =
      subst (λ l. IsWhole false (60 ∷ b ∷ l) more) (append_assoc (bytes ++ values) (47 ∷ []) (62 ∷ []))
      (tag_whole b ((bytes ++ values) ++ 47 ∷ []) more first.bang first.question
      (crosses_append (60 ∷ b ∷ (bytes ++ values)) (47 ∷ []) crosses_tag (crosses_one 47 refl refl)))

  pub start_effect : effect (tag_of (b ∷ bytes) fs ++ 62 ∷ []) ≡ Opens (b ∷ bytes)
  start_effect =
      let tag = tag_of (b ∷ bytes) fs ++ 62 ∷ [] in
      let name : name_of (drop 1 tag) ≡ b ∷ bytes =
      ap name_of (append_assoc (b ∷ bytes) values (62 ∷ [])) ∙ name_is (b ∷ bytes) (values ++ 62 ∷ []) inner (stops_name fs) in
      ap (λ f. effect_by f tag) (is_tag b ((bytes ++ values) ++ 62 ∷ []) first.bang first.question)
      ∙ (ap (λ t. if t && true then Closes (name_of (drop 2 tag)) else if ends_with ◌==◌ tag (codes "/>") then Neither else Opens (name_of (drop 1 tag))) first.slash
      ∙ (ap (λ t. if t then Neither else Opens (name_of (drop 1 tag))) (ends_open (tag_of (b ∷ bytes) fs) (last_behind (60 ∷ []) (b ∷ (bytes ++ values)) (last_tag b bytes fs inner)))
      ∙ ap Opens name))

  pub empty_effect : effect (tag_of (b ∷ bytes) fs ++ 47 ∷ 62 ∷ []) ≡ Neither
  empty_effect =
      let tag = tag_of (b ∷ bytes) fs ++ 47 ∷ 62 ∷ [] in
      ap (λ f. effect_by f tag) (is_tag b ((bytes ++ values) ++ 47 ∷ 62 ∷ []) first.bang first.question)
      ∙ (ap (λ t. if t && true then Closes (name_of (drop 2 tag)) else if ends_with ◌==◌ tag (codes "/>") then Neither else Opens (name_of (drop 1 tag))) first.slash
      ∙ ap (λ t. if t then Neither else Opens (name_of (drop 1 tag))) (ends_empty (tag_of (b ∷ bytes) fs)))

-- End tags

abbrev pub end_of : (name : List ℕ) → List ℕ
end_of name = 60 ∷ 47 ∷ (name ++ 62 ∷ [])

pub end_whole : (name more : List ℕ) → list_all is_inner name ≡ true → IsWhole false (end_of name) more
end_whole name more h = tag_whole 47 name more refl refl (crosses_append (60 ∷ 47 ∷ []) name (crosses_append (60 ∷ []) (47 ∷ []) (crosses_one 60 refl refl) (crosses_one 47 refl refl)) (crosses_inner name h))

pub end_effect : (name : List ℕ) → list_all is_inner name ≡ true → effect (end_of name) ≡ Closes name
end_effect name h = ap Closes (name_is name (62 ∷ []) h refl)
