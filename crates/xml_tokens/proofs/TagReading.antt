-- What tags say is spelled so.
use Rattle.std.proofs.Common.{◌≡◌, ℕ, suc, ◌+◌, ◌<◌, Bool, true, List, [], ◌∷◌, ◌++◌, Option, Some, None, Result, Ok, Err, IsUtf8, length, length-append, take, drop, get_or, refl, sym, ap, ◌∙◌, arith, subst, cond, encode_utf8_all}
use Rattle.std.specs.Prelude.{is_none, slice_get, if◌then◌else◌}
use Rattle.std.specs.List.{list_all, prefix_len}
use Rattle.std.specs.Option.{option_map, option_map_or}
use Rattle.std.specs.Str.{chars}
use Rattle.std.proofs.lemmas.Bool.Decides.{nat_tests}
use Rattle.std.proofs.lemmas.List.{append-nil, drop-drop}
use Rattle.std.proofs.lemmas.List.Folds.{list_all-append}
use Rattle.std.proofs.lemmas.Str.{encode_ascii, encodes-chars, chars-append, chars_past_char, IsUtf8-append}
use Rattle.std.proofs.Math.Seq.{take-append_seam, drop-append_seam, get_or-append_seam}
use Rattle.stx_base.specs.Character.{is_char, is_name, is_space}
use Rattle.xml_tokens.specs.Places.{is_quote}
use Rattle.xml_tokens.specs.Texts.{both, result_map, said}
use Rattle.xml_tokens.specs.Tags.{after_byte, after_space, attr_said, attrs_said, named, attributes, start_tag, end_tag}
use Rattle.xml_tokens.specs.Spelling.{SpellsText, IsSpace, Attribute, SpellsAttribute, SpellsAttributes, SpellsTag, TagsAreSpelled, spelled}
use Rattle.xml_tokens.specs.declared.lexeme.RawAttr.{RawAttr}
use Rattle.xml_tokens.specs.declared.lexeme.Body.{Body}
use Rattle.xml_tokens.specs.declared.lexeme.Body.TheVariants.{Start, End}
use Rattle.xml_tokens.specs.declared.text.BadText.{BadText}
use Rattle.xml_tokens.specs.declared.text.Context.TheVariants.{Value}
use Rattle.xml_tokens.proofs.ListLemmas.{two}
use Rattle.xml_tokens.proofs.Utf8Lemmas.{utf8-one, utf8-before, utf8-behind}
use Rattle.xml_tokens.proofs.AttributeLemmas.{bind_some, map_some, after_byte-same, named-utf8}
use Rattle.xml_tokens.proofs.TextReading.{texts-spelled}
use Rattle.xml_tokens.proofs.TagSpelling.{text-again, text-chars}
use Rattle.xml_tokens.proofs.WrittenSpelling.{Written, IsWritten, AreWritten, spelled as spelled_bytes, named-is, space-is, attributes-spelled}

-- UTF-8 of Chars
pub record IsGood (bytes : List ℕ) : Type 0 where
  pub utf8 : IsUtf8 bytes
  pub chars : list_all is_char (chars bytes) ≡ true

-- cut at a byte of ASCII
pub good-cut : (front : List ℕ) (b : ℕ) (rest : List ℕ) → b < 128 → IsGood (front ++ b ∷ rest) → IsGood front × IsGood rest
good-cut front b rest low good =
    let all = front ++ b ∷ rest in
    let inside : length front < length all = omega (arith, length-append front (b ∷ rest)) in
    let ascii : get_or all (length front) 0 < 128 = omega (arith, low, get_or-append_seam front b rest 0) in
    let behind : drop (length front + 1) all ≡ rest = sym (drop-drop 1 (length front) all) ∙ ap (drop 1) (drop-append_seam front (b ∷ rest)) in
    let rest_utf8 : IsUtf8 rest = subst IsUtf8 behind (utf8-behind all (length front) good.utf8 inside ascii) in
    let front_utf8 : IsUtf8 front = subst IsUtf8 (take-append_seam front (b ∷ rest)) (utf8-before all (length front) good.utf8 inside ascii) in
    let last : chars (b ∷ rest) ≡ b ∷ chars rest = chars_past_char (b ∷ rest) rest b (IsUtf8-append (b ∷ []) rest (utf8-one b low) rest_utf8) (ap (λ l. l ++ rest) (sym (encode_ascii b low))) in
    let is : chars all ≡ chars front ++ b ∷ chars rest = chars-append front (b ∷ rest) front_utf8 ∙ ap (λ l. chars front ++ l) last in
    let parts = two (list_all is_char (chars front)) (list_all is_char (b ∷ chars rest)) (sym (list_all-append is_char (chars front) (b ∷ chars rest)) ∙ (ap (list_all is_char) (sym is) ∙ good.chars)) in
    let later = two (is_char b) (list_all is_char (chars rest)) parts.1 in
    (record { utf8 = front_utf8; chars = parts.0 }, record { utf8 = rest_utf8; chars = later.1 })

space-low : (b : ℕ) → is_space b ≡ true → b < 128
space-low b h = grind (arith, nat_tests)

quote-low : (b : ℕ) → is_quote b ≡ true → b < 128
quote-low b h = grind (arith, nat_tests)

-- behind white space
pub good-behind : (space rest : List ℕ) → IsSpace space → IsGood (space ++ rest) → IsGood rest
good-behind [] rest s good = good
good-behind (b ∷ bs) rest s good =
    let parts = two (is_space b) (list_all is_space bs) s in
    good-behind bs rest parts.1 (good-cut [] b (bs ++ rest) (space-low b parts.0) good).1

-- before white space and a byte of ASCII
pub good-before : (front space : List ℕ) (b : ℕ) (rest : List ℕ) → IsSpace space → b < 128 → IsGood (front ++ (space ++ b ∷ rest)) → IsGood front × IsGood rest
good-before front [] b rest s low good = good-cut front b rest low good
good-before front (x ∷ xs) b rest s low good =
    let parts = two (is_space x) (list_all is_space xs) s in
    let cut = good-cut front x (xs ++ b ∷ rest) (space-low x parts.0) good in
    (cut.0, (good-cut [] b rest low (good-behind xs (b ∷ rest) parts.1 cut.1)).1)

-- the parts of an attribute
pub good-attribute : (a : Written) (more : List ℕ) → IsWritten a → IsGood (spelled_bytes a more) → IsGood a.name × IsGood a.value × IsGood more
good-attribute a more is good =
    let r3 = a.value ++ a.quote ∷ more in
    let r2 = a.behind ++ a.quote ∷ r3 in
    let named_rest = good-behind (a.first ∷ a.space) (a.name ++ (a.before ++ 61 ∷ r2)) is.space good in
    let n = good-before a.name a.before 61 r2 is.before (omega arith) named_rest in
    let q = (good-before [] a.behind a.quote r3 is.behind (quote-low a.quote is.quote) n.1).1 in
    let v = good-cut a.value a.quote more (quote-low a.quote is.quote) q in
    (n.0, v.0, v.1)

-- what attributes say
both-ok : {A B C : Type 0} (f : A → B → C) (x : Result A BadText) (y : Result B BadText) (z : C) → both f x y ≡ Ok z → (a : A) × (b : B) × (x ≡ Ok a) × (y ≡ Ok b) × (f a b ≡ z)
both-ok f (Ok a) (Ok b) z h = (a, b, refl, refl, cc)
both-ok f (Ok a) (Err k) z h = absurd cc
both-ok f (Err k) (Ok b) z h = absurd cc
both-ok f (Err k) (Err l) z h = absurd cc

map-ok : {A B : Type 0} (f : A → B) (x : Result A BadText) (z : B) → result_map f x ≡ Ok z → (a : A) × (x ≡ Ok a) × (f a ≡ z)
map-ok f (Ok a) z h = (a, refl, cc)
map-ok f (Err k) z h = absurd cc

pub again-bytes : (bytes : List ℕ) → IsGood bytes → encode_utf8_all (chars bytes) ≡ bytes
again-bytes bytes good = encodes-chars bytes good.utf8

abbrev attribute-of : Written → Attribute
attribute-of a = record { first = a.first; space = a.space; before = a.before; behind = a.behind; quote = a.quote; value = a.value }

spells-attribute : (a : Written) (more : List ℕ) (attr : RawAttr) → IsWritten a → IsGood (spelled_bytes a more) → attr_said (a.name, a.value) ≡ Ok attr →
    SpellsAttribute attr (attribute-of a) × (encode_utf8_all attr.name ≡ a.name)
spells-attribute a more attr is good h =
    let parts = good-attribute a more is good in
    let m = map-ok (λ value. record { name = chars a.name; value = chars value }) (said Value a.value) attr h in
    let t = texts-spelled Value a.value m.0 parts.1.utf8 parts.1.chars m.1 in
    let name : attr.name ≡ chars a.name = ap (λ (x : RawAttr). x.name) (sym m.2) in
    let value : attr.value ≡ t.0 = ap (λ (x : RawAttr). x.value) (sym m.2) ∙ (ap chars t.1 ∙ text-again t.0 (text-chars Value t.0 a.value t.2)) in (
      record {
        name = ap is_name name ∙ is.name.named;
        quoted = record { space = is.space; before = is.before; behind = is.behind; quote = is.quote; unquoted = is.unquoted };
        markless = is.markless;
        value = subst (λ (l : List ℕ). SpellsText Value l a.value) (sym value) t.2;
      },
      ap encode_utf8_all name ∙ again-bytes a.name parts.0,
    )

spells-attributes : (pairs : List (List ℕ × List ℕ)) (empty : Bool) (bytes : List ℕ) (attrs : List RawAttr) → AreWritten pairs empty bytes → IsGood bytes → attrs_said pairs ≡ Ok attrs → SpellsAttributes attrs empty bytes
spells-attributes [] empty bytes attrs w good h = subst (λ (l : List RawAttr). SpellsAttributes l empty bytes) (ok_is attrs h) w where
  ok_is : (attrs : List RawAttr) → ◌≡◌ {A = Result (List RawAttr) BadText} (Ok []) (Ok attrs) → [] ≡ attrs
  ok_is attrs e = cc
spells-attributes (pair ∷ pairs) empty bytes attrs w good h =
    let a = w.0 in
    let more = w.1 in
    let b = both-ok (λ x xs. x ∷ xs) (attr_said pair) (attrs_said pairs) attrs h in
    let here = subst IsGood w.4 good in
    let one = spells-attribute a more b.0 w.2 here (ap attr_said (sym w.3) ∙ b.2) in
    let whole : bytes ≡ spelled (encode_utf8_all b.0.name) (attribute-of a) more =
    w.4 ∙ ap (λ l. (a.first ∷ a.space) ++ (l ++ (a.before ++ 61 ∷ (a.behind ++ a.quote ∷ (a.value ++ a.quote ∷ more))))) (sym one.1) in
    let later = spells-attributes pairs empty more b.1 w.5 (good-attribute a more w.2 here).2 b.3 in
    let all : SpellsAttributes (b.0 ∷ b.1) empty bytes = (attribute-of a, more, one.0, whole, later) in
    subst (λ (l : List RawAttr). SpellsAttributes l empty bytes) b.4 all

-- a name at the front
pub good-name : (bytes : List ℕ) (found : List ℕ × List ℕ) → named bytes ≡ Some found → IsGood bytes → IsGood found.0 × IsGood found.1
good-name bytes found h good =
    let is = named-is bytes found h in
    let u = named-utf8 bytes found.0 found.1 h good.utf8 in
    let cs : chars bytes ≡ chars found.0 ++ chars found.1 = ap chars is.1 ∙ chars-append found.0 found.1 u.0 in
    let parts = two (list_all is_char (chars found.0)) (list_all is_char (chars found.1)) (sym (list_all-append is_char (chars found.0) (chars found.1)) ∙ (ap (list_all is_char) (sym cs) ∙ good.chars)) in
    (record { utf8 = u.0; chars = parts.0 }, record { utf8 = u.1; chars = parts.1 })

some-ok : (b : Body) (body : Body) → ◌≡◌ {A = Option (Result Body BadText)} (Some (Ok b)) (Some (Ok body)) → b ≡ body
some-ok b body e = cc

pub tags-spelled : TagsAreSpelled
tags-spelled body inside utf8 all h = by_slash (after_byte 47 inside) refl h where
  good : IsGood inside
  good = record { utf8 = utf8; chars = all }

  ends : (found : List ℕ × List ℕ) (rest : List ℕ) → named rest ≡ Some found → inside ≡ 47 ∷ rest → IsGood rest → (o : Option ℕ) → slice_get (after_space found.1) 0 ≡ o →
      cond {A = Option (Result Body BadText)} (is_none o) (Some (Ok (End (chars found.0)))) None ≡ Some (Ok body) → SpellsTag body inside
  ends found rest n e g None s k =
      let is = named-is rest found n in
      let space = space-is found.1 in
      let nothing_left : after_space found.1 ≡ [] = nothing (after_space found.1) s in
      let all_space : IsSpace found.1 = ap (list_all is_space) (space.1 ∙ (ap (λ l. take (prefix_len is_space found.1) found.1 ++ l) nothing_left ∙ append-nil (take (prefix_len is_space found.1) found.1))) ∙ space.0 in
      let name = again-bytes found.0 (good-name rest found n g).0 in
      let whole : inside ≡ 47 ∷ (encode_utf8_all (chars found.0) ++ found.1) = e ∙ ap (λ l. 47 ∷ l) (is.1 ∙ ap (λ l. l ++ found.1) (sym name)) in
      let tag_is : SpellsTag (End (chars found.0)) inside = (found.1, is.0.named, all_space, whole) in
      subst (λ (b : Body). SpellsTag b inside) (some-ok (End (chars found.0)) body k) tag_is where
        nothing : (l : List ℕ) → slice_get l 0 ≡ None → l ≡ []
        nothing [] q = refl
        nothing (x ∷ xs) q = absurd cc
  ends found rest n e g (Some x) s k = absurd cc

  by_slash : (o : Option (List ℕ)) → after_byte 47 inside ≡ o → option_map_or end_tag o (start_tag inside) ≡ Some (Ok body) → SpellsTag body inside
  by_slash (Some rest) e k =
      let b = bind_some (λ found. if is_none (slice_get (after_space found.1) 0) then Some (Ok (End (chars found.0))) else None) (named rest) (Ok body) k in
      let whole = after_byte-same 47 inside rest e in
      ends b.0 rest b.1 whole (good-cut [] 47 rest (omega arith) (subst IsGood whole good)).1 (slice_get (after_space b.0.1) 0) refl b.2
  by_slash None e k =
      let b = bind_some (λ found. option_map (λ more. result_map (λ attrs. Start (chars found.0) attrs more.1) (attrs_said more.0)) (attributes (suc (length found.1)) found.1)) (named inside) (Ok body) k in
      let m = map_some (λ more. result_map (λ attrs. Start (chars b.0.0) attrs more.1) (attrs_said more.0)) (attributes (suc (length b.0.1)) b.0.1) (Ok body) b.2 in
      let r = map-ok (λ attrs. Start (chars b.0.0) attrs m.0.1) (attrs_said m.0.0) body m.2 in
      let is = named-is inside b.0 b.1 in
      let g = good-name inside b.0 b.1 good in
      let w = attributes-spelled (suc (length b.0.1)) b.0.1 m.0.0 m.0.1 m.1 in
      let whole : inside ≡ encode_utf8_all (chars b.0.0) ++ b.0.1 = is.1 ∙ ap (λ l. l ++ b.0.1) (sym (again-bytes b.0.0 g.0)) in
      let tag_is : SpellsTag (Start (chars b.0.0) r.0 m.0.1) inside = (b.0.1, is.0.named, whole, spells-attributes m.0.0 m.0.1 b.0.1 r.0 w g.1 r.1) in
      subst (λ (x : Body). SpellsTag x inside) r.2 tag_is
