-- Tags that are written with prefixes and declarations, as a name and then names and values.
use Rattle.std.proofs.Common.{◌≡◌, ℕ, ◌≤◌, Bool, true, false, ◌||◌, ◌==◌, List, [], ◌∷◌, ◌++◌, Some, None, length, refl, sym, ap, ◌∙◌, arith, append_assoc, length-append}
use Rattle.std.specs.Prelude.{codes, encode_utf8_all, unwrap_or, if◌then◌else◌}
use Rattle.std.specs.List.{list_all, flat_map}
use Rattle.std.proofs.lemmas.Bool.{and_parts, and_from}
use Rattle.std.proofs.lemmas.Str.{length-le-encodes}
use Rattle.stx_base.specs.Character.{is_name_char, is_ncname, is_ncname_char}
use Rattle.stx_base.specs.declared.name.Attr.{Attr}
use Rattle.stx_base.specs.declared.name.Binding.{Binding}
use Rattle.stx_base.specs.declared.name.Name.{Name}
use Rattle.result_writer.specs.Allowed.{is_empty, is_good_attribute, is_good_name, is_prefix, is_qname}
use Rattle.result_writer.specs.Escape.{escaped, written}
use Rattle.result_writer.specs.Tag.{attribute, attributes, declaration, open_tag, qname}
use Rattle.result_writer.specs.declared.escape.Context.TheVariants.{Content, Value}
use Rattle.result_writer.specs.declared.tag.Dressed.{Dressed}
use Rattle.result_writer.specs.declared.tag.HeldTag.{HeldTag}
use Rattle.stx_engine.proofs.Markup.{AreFields, Field, all_append, field, is_inner, is_text, is_unquoted, name_inner, tag_of}

-- Names

-- bytes of a name, at least one
pub record IsWord (bytes : List ℕ) : Type 0 where
  pub first : ℕ
  pub rest : List ℕ
  pub is : bytes ≡ first ∷ rest
  pub inner : list_all is_inner bytes ≡ true

word_is : (bytes : List ℕ) → 1 ≤ length bytes → list_all is_inner bytes ≡ true → IsWord bytes
word_is [] h k = absurd (omega arith)
word_is (b ∷ bs) h k = record { first = b; rest = bs; is = refl; inner = k }

name_chars : (cs : List ℕ) → list_all is_ncname_char cs ≡ true → list_all is_name_char cs ≡ true
name_chars [] h = refl
name_chars (c ∷ cs) h =
    let both = and_parts (is_ncname_char c) (list_all is_ncname_char cs) h in
    and_from _ _ (and_parts (is_name_char c) _ both.0).0 (name_chars cs both.1)

pub ncname_inner : (name : List ℕ) → is_ncname name ≡ true → list_all is_inner (encode_utf8_all name) ≡ true
ncname_inner name h = name_inner name (name_chars name (and_parts _ (list_all is_ncname_char name) h).1)

ncname_some : (name : List ℕ) → is_ncname name ≡ true → 1 ≤ length (encode_utf8_all name)
ncname_some [] h = absurd cc
ncname_some (c ∷ cs) h = omega (arith, length-le-encodes (c ∷ cs))

-- an NCName, with one before it or none
pub qname_is : (prefix local : List ℕ) → is_prefix prefix ≡ true → is_ncname local ≡ true → IsWord (qname prefix local)
qname_is prefix local h k = by_empty (is_empty prefix) h where
  by_empty : (t : Bool) → (t || is_ncname prefix) ≡ true → IsWord (if t then encode_utf8_all local else encode_utf8_all prefix ++ codes ":" ++ encode_utf8_all local)
  by_empty true e = word_is (encode_utf8_all local) (ncname_some local k) (ncname_inner local k)
  by_empty false e =
      let front = encode_utf8_all prefix ++ codes ":" in
      let some = ncname_some local k in
      word_is (front ++ encode_utf8_all local) (omega (arith, length-append front (encode_utf8_all local)))
      (all_append is_inner front (encode_utf8_all local) (all_append is_inner (encode_utf8_all prefix) (codes ":") (ncname_inner prefix e) refl) (ncname_inner local k))

pub name_is : (n : Name) → is_good_name n ≡ true → IsWord (qname n.prefix n.local)
name_is n h =
    let parts = and_parts (is_prefix n.prefix) (is_ncname n.local) (and_parts (is_qname n) _ h).0 in
    qname_is n.prefix n.local parts.0 parts.1

-- Values

-- what is written of a byte closes no value
written_unquoted : (b : ℕ) → list_all is_unquoted (written Value b) ≡ true
written_unquoted b = by_tests (b == 0x26) (b == 0x3C) (b == 0x22) (b == 0x9) (b == 0xA) (b == 0xD) refl where
  by_tests : (s t u v w x : Bool) → (b == 34) ≡ u →
      list_all is_unquoted (unwrap_or (if s then Some (codes "&amp;") else if t then Some (codes "&lt;") else if u then Some (codes "&quot;") else if v then Some (codes "&#9;") else if w then Some (codes "&#10;") else if x then Some (codes "&#13;") else None) (b ∷ [])) ≡ true
  by_tests true t u v w x e = refl
  by_tests false true u v w x e = refl
  by_tests false false true v w x e = refl
  by_tests false false false true w x e = refl
  by_tests false false false false true x e = refl
  by_tests false false false false false true e = refl
  by_tests false false false false false false e = rw e refl

escaped_unquoted : (bytes : List ℕ) → list_all is_unquoted (escaped Value bytes) ≡ true
escaped_unquoted [] = refl
escaped_unquoted (b ∷ bs) = all_append is_unquoted (written Value b) (escaped Value bs) (written_unquoted b) (escaped_unquoted bs)

-- nor does what is written of a byte of text begin a tag
written_text : (b : ℕ) → list_all is_text (written Content b) ≡ true
written_text b = by_tests (b == 0x26) (b == 0x3C) (b == 0x3E) (b == 0xD) refl where
  by_tests : (s t u v : Bool) → (b == 60) ≡ t →
      list_all is_text (unwrap_or (if s then Some (codes "&amp;") else if t then Some (codes "&lt;") else if u then Some (codes "&gt;") else if v then Some (codes "&#13;") else None) (b ∷ [])) ≡ true
  by_tests true t u v e = refl
  by_tests false true u v e = refl
  by_tests false false true v e = refl
  by_tests false false false true e = refl
  by_tests false false false false e = rw e refl

pub escaped_text : (bytes : List ℕ) → list_all is_text (escaped Content bytes) ≡ true
escaped_text [] = refl
escaped_text (b ∷ bs) = all_append is_text (written Content b) (escaped Content bs) (written_text b) (escaped_text bs)

-- What a tag has behind its name

abbrev value_of : List ℕ → List ℕ
value_of text = escaped Value (encode_utf8_all text)

abbrev declaration_field : Binding → Field
declaration_field b = record {
  name = if is_empty b.prefix then codes "xmlns" else codes "xmlns:" ++ encode_utf8_all b.prefix;
  value = value_of b.uri;
}

abbrev declaration_fields : List Binding → List Field
declaration_fields [] = []
declaration_fields (b ∷ bs) = declaration_field b ∷ declaration_fields bs

abbrev attribute_fields : List (List ℕ) → List Attr → List Field
attribute_fields [] attrs = []
attribute_fields (p ∷ ps) [] = []
attribute_fields (p ∷ ps) (a ∷ attrs) = record { name = qname p a.name.local; value = value_of a.value } ∷ attribute_fields ps attrs

abbrev pub fields : Dressed → List Attr → List Field
fields d attrs = declaration_fields d.declared ++ attribute_fields d.prefixes attrs

declaration_is : (b : Binding) → declaration b ≡ field (declaration_field b)
declaration_is b = by_empty (is_empty b.prefix) where
  by_empty : (t : Bool) →
      (if t then codes " xmlns" else codes " xmlns:" ++ encode_utf8_all b.prefix) ++ (codes "=\"" ++ value_of b.uri ++ codes "\"")
      ≡ 32 ∷ ((if t then codes "xmlns" else codes "xmlns:" ++ encode_utf8_all b.prefix) ++ 61 ∷ 34 ∷ (value_of b.uri ++ 34 ∷ []))
  by_empty true = refl
  by_empty false = refl

declarations_are : (bs : List Binding) → flat_map declaration bs ≡ flat_map field (declaration_fields bs)
declarations_are [] = refl
declarations_are (b ∷ bs) = ap (λ l. l ++ flat_map declaration bs) (declaration_is b) ∙ ap (λ l. field (declaration_field b) ++ l) (declarations_are bs)

attributes_are : (ps : List (List ℕ)) (attrs : List Attr) → attributes ps attrs ≡ flat_map field (attribute_fields ps attrs)
attributes_are [] attrs = refl
attributes_are (p ∷ ps) [] = refl
attributes_are (p ∷ ps) (a ∷ attrs) = ap (λ l. attribute p a ++ l) (attributes_are ps attrs)

fields-append : (fs gs : List Field) → flat_map field (fs ++ gs) ≡ flat_map field fs ++ flat_map field gs
fields-append [] gs = refl
fields-append (f ∷ fs) gs = ap (λ l. field f ++ l) (fields-append fs gs) ∙ sym (append_assoc (field f) (flat_map field fs) (flat_map field gs))

pub open_tag-is : (tag : HeldTag) (d : Dressed) → open_tag tag d ≡ tag_of (qname tag.name.prefix tag.name.local) (fields d tag.attrs)
open_tag-is tag d =
    let name = qname tag.name.prefix tag.name.local in
    let front = declaration_fields d.declared in
    let back = attribute_fields d.prefixes tag.attrs in
    ap (λ l. 60 ∷ l) (append_assoc name (flat_map declaration d.declared) (attributes d.prefixes tag.attrs)
    ∙ ap (λ l. name ++ (l ++ attributes d.prefixes tag.attrs)) (declarations_are d.declared)
    ∙ ap (λ l. name ++ (flat_map field front ++ l)) (attributes_are d.prefixes tag.attrs)
    ∙ ap (λ l. name ++ l) (sym (fields-append front back)))

declarations_good : (bs : List Binding) → list_all (λ b. is_prefix b.prefix) bs ≡ true → AreFields (declaration_fields bs)
declarations_good [] h = tt
declarations_good (b ∷ bs) h =
    let both = and_parts (is_prefix b.prefix) (list_all (λ b. is_prefix b.prefix) bs) h in
    (by_empty (is_empty b.prefix) both.0, escaped_unquoted (encode_utf8_all b.uri), declarations_good bs both.1) where
      by_empty : (t : Bool) → (t || is_ncname b.prefix) ≡ true → list_all is_inner (if t then codes "xmlns" else codes "xmlns:" ++ encode_utf8_all b.prefix) ≡ true
      by_empty true e = refl
      by_empty false e = all_append is_inner (codes "xmlns:") (encode_utf8_all b.prefix) refl (ncname_inner b.prefix e)

attributes_good : (ps : List (List ℕ)) (attrs : List Attr) → list_all is_prefix ps ≡ true → list_all (λ a. is_good_attribute a.name) attrs ≡ true → AreFields (attribute_fields ps attrs)
attributes_good [] attrs h k = tt
attributes_good (p ∷ ps) [] h k = tt
attributes_good (p ∷ ps) (a ∷ attrs) h k =
    let both = and_parts (is_prefix p) (list_all is_prefix ps) h in
    let good = and_parts (is_good_attribute a.name) (list_all (λ a. is_good_attribute a.name) attrs) k in
    let local = (and_parts _ (is_ncname a.name.local) (and_parts (is_qname a.name) _ (and_parts (is_good_name a.name) _ good.0).0).0).1 in
    ((qname_is p a.name.local both.0 local).inner, escaped_unquoted (encode_utf8_all a.value), attributes_good ps attrs both.1 good.1)

fields_good : (fs gs : List Field) → AreFields fs → AreFields gs → AreFields (fs ++ gs)
fields_good [] gs h k = k
fields_good (f ∷ fs) gs h k = (h.0, h.1, fields_good fs gs h.2 k)

pub dressed-good : (d : Dressed) (attrs : List Attr)
    → list_all (λ b. is_prefix b.prefix) d.declared ≡ true → list_all is_prefix d.prefixes ≡ true → list_all (λ a. is_good_attribute a.name) attrs ≡ true
    → AreFields (fields d attrs)
dressed-good d attrs h k g =
    fields_good (declaration_fields d.declared) (attribute_fields d.prefixes attrs) (declarations_good d.declared h) (attributes_good d.prefixes attrs k g)
