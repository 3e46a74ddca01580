-- Tags are read exactly where they are spelled so.
use Rattle.std.proofs.Common.{◌≡◌, ℕ, suc, ◌<◌, Bool, true, false, ◌&&◌, ◌||◌, List, [], ◌∷◌, ◌++◌, Some, None, Ok, length, refl, sym, ap, ◌∙◌, arith, cond, encode_utf8, encode_utf8_all}
use Rattle.std.specs.Prelude.{bytes_eq, codes, is_none, nat_le, nat_lt, slice_get, if◌then◌else◌}
use Rattle.std.specs.Option.{option_and_then, option_map, option_map_or}
use Rattle.std.proofs.lemmas.List.{append-nil}
use Rattle.std.specs.Char.{IsScalar}
use Rattle.std.specs.List.{list_all}
use Rattle.std.specs.Str.{chars}
use Rattle.std.proofs.lemmas.Bool.Decides.{nat_tests}
use Rattle.std.proofs.lemmas.List.Folds.{list_all-append}
use Rattle.std.proofs.lemmas.Str.{encode_ascii, chars-encodes}
use Rattle.std.proofs.Math.Utf8.{scalars}
use Rattle.stx_base.specs.Character.{is_char, is_name, is_name_char}
use Rattle.xml_tokens.specs.Texts.{both, predefined, result_map, said}
use Rattle.xml_tokens.specs.Tags.{after_space, is_name_byte, attr_said, attrs_said, named, attributes, tag, start_tag, end_tag}
use Rattle.xml_tokens.specs.Spelling.{SpellsLiteral, itself, return_and_feed, return, as_read, SpellsChar, literal as by_literal, entity, decimal, hexadecimal, SpellsText, Attribute, SpellsAttribute, SpellsAttributes, SpelledTagsAreRead}
use Rattle.xml_tokens.specs.declared.lexeme.RawAttr.{RawAttr}
use Rattle.xml_tokens.specs.declared.lexeme.Body.TheVariants.{Chars, CData, Start, End, Comment, Pi, Doctype, Declaration}
use Rattle.xml_tokens.specs.declared.text.Context.{Context}
use Rattle.xml_tokens.specs.declared.text.Context.TheVariants.{Content, Value}
use Rattle.xml_tokens.proofs.ListLemmas.{two, stops}
use Rattle.xml_tokens.proofs.TextSpelling.{spelled-said, high}
use Rattle.xml_tokens.proofs.WrittenSpelling.{Written, IsWritten, AreWritten, IsNameBytes, named-of, attributes-of, names-stop, no_slash, stops-space, space-no-name, after_space-of}

char-scalar : (c : ℕ) → is_char c ≡ true → IsScalar c
char-scalar c h = grind (arith, nat_tests)

pub name_char-char : (c : ℕ) → is_name_char c ≡ true → is_char c ≡ true
name_char-char c h = grind (arith, nat_tests)

both_true : (s t : Bool) → s ≡ true → t ≡ true → (s && t) ≡ true
both_true s t a b = rw (a, b) refl

pub all-scalars : (text : List ℕ) → list_all is_char text ≡ true → scalars text ≡ true
all-scalars [] h = refl
all-scalars (c ∷ cs) h =
    let parts = two (is_char c) (list_all is_char cs) h in
    both_true _ (scalars cs) (char-scalar c parts.0) (all-scalars cs parts.1)

-- a Name's characters are Chars
pub name-chars : (name : List ℕ) → is_name name ≡ true → list_all is_char name ≡ true
name-chars name h = each name (two _ (list_all is_name_char name) h).1 where
  each : (cs : List ℕ) → list_all is_name_char cs ≡ true → list_all is_char cs ≡ true
  each [] k = refl
  each (c ∷ cs) k =
      let parts = two (is_name_char c) (list_all is_name_char cs) k in
      both_true (is_char c) (list_all is_char cs) (name_char-char c parts.0) (each cs parts.1)

-- a Name's bytes
pub name-bytes : (name : List ℕ) → is_name name ≡ true → IsNameBytes (encode_utf8_all name)
name-bytes name h = record {
  bytes = each name (two _ (list_all is_name_char name) h).1;
  named = ap is_name (chars-encodes name (all-scalars name (name-chars name h))) ∙ h;
} where
  one : (c : ℕ) → is_name_char c ≡ true → list_all is_name_byte (encode_utf8 c) ≡ true
  one c k = by_size (nat_lt c 128) refl where
    by_size : (t : Bool) → nat_lt c 128 ≡ t → list_all is_name_byte (encode_utf8 c) ≡ true
    by_size true e =
        let l : c < 128 = grind (arith, nat_tests, e) in
        ap (list_all is_name_byte) (encode_ascii c l) ∙ both_true (is_name_byte c) true (ap (λ t. nat_le 128 c || t) k ∙ or_true (nat_le 128 c)) refl where
          or_true : (s : Bool) → (s || true) ≡ true
          or_true true = refl
          or_true false = refl
    by_size false e = higher (encode_utf8 c) (high c (grind (arith, nat_tests, e))) where
      higher : (bytes : List ℕ) → list_all (λ b. nat_le 128 b) bytes ≡ true → list_all is_name_byte bytes ≡ true
      higher [] q = refl
      higher (b ∷ bs) q =
          let parts = two (nat_le 128 b) (list_all (λ x. nat_le 128 x) bs) q in
          both_true (is_name_byte b) (list_all is_name_byte bs) (ap (λ t. t || is_name_char b) parts.0) (higher bs parts.1)

  each : (cs : List ℕ) → list_all is_name_char cs ≡ true → list_all is_name_byte (encode_utf8_all cs) ≡ true
  each [] k = refl
  each (c ∷ cs) k =
      let parts = two (is_name_char c) (list_all is_name_char cs) k in
      list_all-append is_name_byte (encode_utf8 c) (encode_utf8_all cs) ∙ both_true (list_all is_name_byte (encode_utf8 c)) (list_all is_name_byte (encode_utf8_all cs)) (one c parts.0) (each cs parts.1)

-- an attribute's bytes
abbrev pub written_of : (attr : RawAttr) (a : Attribute) → Written
written_of attr a = record { first = a.first; space = a.space; name = encode_utf8_all attr.name; before = a.before; behind = a.behind; quote = a.quote; value = a.value }

pub is-written : (attr : RawAttr) (a : Attribute) → SpellsAttribute attr a → IsWritten (written_of attr a)
is-written attr a h = record {
  space = h.quoted.space;
  name = name-bytes attr.name h.name;
  before = h.quoted.before;
  behind = h.quoted.behind;
  quote = h.quoted.quote;
  unquoted = h.quoted.unquoted;
  markless = h.markless;
}

-- the characters that a text says are Chars
read-char : (place : Context) (c : ℕ) → is_char c ≡ true → is_char (as_read place c) ≡ true
read-char Content c h = h
read-char Value c h = grind (arith, nat_tests, h)

literal-char : (place : Context) (c : ℕ) (front more : List ℕ) → SpellsLiteral c front more → is_char (as_read place c) ≡ true
literal-char place _ _ _ (itself c more char ne) = read-char place c char
literal-char place _ _ _ (return_and_feed more) = read-char place 10 refl
literal-char place _ _ _ (return more other) = read-char place 10 refl

entity-char : (name : List ℕ) (c : ℕ) → predefined name ≡ Some c → is_char c ≡ true
entity-char name c h = by_tests (bytes_eq name (codes "lt")) (bytes_eq name (codes "gt")) (bytes_eq name (codes "amp")) (bytes_eq name (codes "apos")) (bytes_eq name (codes "quot")) h where
  is : (n : ℕ) → is_char n ≡ true → Some n ≡ Some c → is_char c ≡ true
  is n k e = let same : n ≡ c = cc in ap is_char (sym same) ∙ k

  by_tests : (l g m p q : Bool) → cond l (Some 60) (cond g (Some 62) (cond m (Some 38) (cond p (Some 39) (cond q (Some 34) None)))) ≡ Some c → is_char c ≡ true
  by_tests true g m p q k = is 60 refl k
  by_tests false true m p q k = is 62 refl k
  by_tests false false true p q k = is 38 refl k
  by_tests false false false true q k = is 39 refl k
  by_tests false false false false true k = is 34 refl k
  by_tests false false false false false k = absurd cc

one-char : (place : Context) (c : ℕ) (front more : List ℕ) → SpellsChar place c front more → is_char c ≡ true
one-char _ _ _ _ (by_literal place c bytes more one amp) = literal-char place c bytes more one
one-char _ _ _ _ (entity place name c more is) = entity-char name c is
one-char _ _ _ _ (decimal place digits c more n) = n.char
one-char _ _ _ _ (hexadecimal place digits c more n) = n.char

pub text-chars : (place : Context) (text bytes : List ℕ) → SpellsText place text bytes → list_all is_char text ≡ true
text-chars place [] bytes h = refl
text-chars place (c ∷ text) bytes h = both_true (is_char c) (list_all is_char text) (one-char place c h.0 h.1 h.2) (text-chars place text h.1 h.4)

pub text-again : (text : List ℕ) → list_all is_char text ≡ true → chars (encode_utf8_all text) ≡ text
text-again text h = chars-encodes text (all-scalars text h)

attr-said : (attr : RawAttr) (a : Attribute) → SpellsAttribute attr a → attr_said (encode_utf8_all attr.name, a.value) ≡ Ok attr
attr-said attr a h =
    ap (result_map (λ value. record { name = chars (encode_utf8_all attr.name); value = chars value })) (spelled-said Value attr.value a.value h.value)
    ∙ (λ i. Ok (record { name = text-again attr.name (name-chars attr.name h.name) i; value = text-again attr.value (text-chars Value attr.value a.value h.value) i }))

are-written : (attrs : List RawAttr) (empty : Bool) (bytes : List ℕ) → SpellsAttributes attrs empty bytes →
    (pairs : List (List ℕ × List ℕ)) × AreWritten pairs empty bytes × (attrs_said pairs ≡ Ok attrs)
are-written [] empty bytes h = ([], h, refl)
are-written (attr ∷ attrs) empty bytes h =
    let a = h.0 in
    let later = are-written attrs empty h.1 h.4 in (
      (encode_utf8_all attr.name, a.value) ∷ later.0,
      (written_of attr a, h.1, is-written attr a h.2, refl, h.3, later.1),
      ap (λ r. both (λ x xs. x ∷ xs) r (attrs_said later.0)) (attr-said attr a h.2) ∙ ap (both (λ x xs. x ∷ xs) (Ok attr)) later.2,
    )

start-of : (name rest : List ℕ) (pairs : List (List ℕ × List ℕ)) (empty : Bool) (attrs : List RawAttr) → list_all is_char name ≡ true → named (encode_utf8_all name ++ rest) ≡ Some (encode_utf8_all name, rest) →
    attributes (suc (length rest)) rest ≡ Some (pairs, empty) → attrs_said pairs ≡ Ok attrs → start_tag (encode_utf8_all name ++ rest) ≡ Some (Ok (Start name attrs empty))
start-of name rest pairs empty attrs char n a said =
    ap (option_and_then (λ found. option_map (λ m. result_map (λ xs. Start (chars found.0) xs m.1) (attrs_said m.0)) (attributes (suc (length found.1)) found.1))) n
    ∙ (ap (option_map (λ m. result_map (λ xs. Start (chars (encode_utf8_all name)) xs m.1) (attrs_said m.0))) a
    ∙ (ap (λ r. Some (result_map (λ xs. Start (chars (encode_utf8_all name)) xs empty) r)) said ∙ ap (λ l. Some (Ok (Start l attrs empty))) (text-again name char)))

end-of : (name space : List ℕ) → list_all is_char name ≡ true → named (encode_utf8_all name ++ space) ≡ Some (encode_utf8_all name, space) → after_space space ≡ [] → end_tag (encode_utf8_all name ++ space) ≡ Some (Ok (End name))
end-of name space char n s =
    ap (option_and_then (λ found. if is_none (slice_get (after_space found.1) 0) then Some (Ok (End (chars found.0))) else None)) n
    ∙ (ap (λ l. if is_none (slice_get l 0) then Some (Ok (End (chars (encode_utf8_all name)))) else None) s ∙ ap (λ l. Some (Ok (End l))) (text-again name char))

pub spelled-tags : SpelledTagsAreRead
spelled-tags (Start name attrs empty) inside h =
    let rest = h.0 in
    let bytes = encode_utf8_all name in
    let is = name-bytes name h.1 in
    let w = are-written attrs empty rest h.3 in
    let n = named-of bytes rest is (names-stop w.0 empty rest w.1) in
    let a = attributes-of w.0 empty rest w.1 (suc (length rest)) (omega arith) in
    ap tag h.2 ∙ (ap (λ o. option_map_or end_tag o (start_tag (bytes ++ rest))) (no_slash bytes rest is) ∙ start-of name rest w.0 empty attrs (name-chars name h.1) n a w.2)
spelled-tags (End name) inside h =
    let space = h.0 in
    let bytes = encode_utf8_all name in
    let stop : stops is_name_byte space ≡ true = ap (stops is_name_byte) (sym (append-nil space)) ∙ stops-space is_name_byte space [] h.2 space-no-name refl in
    let none : after_space space ≡ [] = ap after_space (sym (append-nil space)) ∙ after_space-of space [] h.2 refl in
    ap tag h.3 ∙ end-of name space (name-chars name h.1) (named-of bytes space (name-bytes name h.1) stop) none
spelled-tags (Chars text blank) inside h = absurd h
spelled-tags (CData text) inside h = absurd h
spelled-tags (Comment text) inside h = absurd h
spelled-tags (Pi target text) inside h = absurd h
spelled-tags Doctype inside h = absurd h
spelled-tags Declaration inside h = absurd h
