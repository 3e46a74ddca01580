-- Tags are read as they were written.
use Rattle.std.proofs.Common.{◌≡◌, ℕ, Bool, true, false, ◌&&◌, ◌||◌, List, [], ◌∷◌, ◌++◌, Ok, map, refl, sym, ap, ◌∙◌, arith, subst, append_assoc, append-nil}
use Rattle.std.specs.Prelude.{codes, encode_utf8_all, slice_get, if◌then◌else◌}
use Rattle.std.specs.List.{list_all, flat_map}
use Rattle.std.specs.Option.{option_map_or}
use Rattle.std.proofs.lemmas.Bool.{and_parts, and_from}
use Rattle.std.proofs.lemmas.Str.{encode_ascii, encodes-append}
use Rattle.stx_base.specs.Character.{is_name, is_name_char, is_name_start, is_ncname}
use Rattle.stx_base.specs.declared.name.Attr.{Attr}
use Rattle.stx_base.specs.declared.name.Binding.{Binding}
use Rattle.stx_base.specs.declared.name.Name.{Name}
use Rattle.xml_tokens.specs.Judged.{judged}
use Rattle.xml_tokens.specs.Spelling.{Attribute, SpelledLexemesAreRead, Spells, SpellsAttribute, SpellsAttributes, slash, spelled}
use Rattle.xml_tokens.specs.declared.lexeme.Body.TheVariants.{End, Start}
use Rattle.xml_tokens.specs.declared.lexeme.RawAttr.{RawAttr}
use Rattle.xml_tokens.proofs.TagSpelling.{name-chars}
use Rattle.result_writer.specs.Allowed.{are_chars, is_empty, is_good_attribute, is_good_name, is_prefix, is_qname}
use Rattle.result_writer.specs.Escape.{escaped}
use Rattle.result_writer.specs.Tag.{attribute, attributes, declaration, end_tag, open_tag, qname}
use Rattle.result_writer.specs.declared.escape.Context.TheVariants.{Value}
use Rattle.result_writer.specs.declared.tag.Dressed.{Dressed}
use Rattle.result_writer.specs.declared.tag.HeldTag.{HeldTag}
use Rattle.xml_names.specs.Tag.{is_good_binding}
use Rattle.read_back.specs.Laws.{ReadsEndTags, ReadsStartTags}
use Rattle.read_back.specs.Reading.{declaring, raw_attrs, with_prefixes, written_name}
use Rattle.read_back.specs.Sound.{is_sound_attribute, is_sound_binding}
use Rattle.read_back.proofs.Bytes.{IsText, all_append, plain_is, text_append, text_of, text_plain}
use Rattle.read_back.proofs.Escaping.{escaped_text, value_text, value_without}
use Rattle.read_back.proofs.Leaves.{read_as}
use Rattle.read_back.proofs.Leaving.{name_of_ncname}

-- Names

-- a prefix, a colon and a local part are a Name
pub joined_name : (prefix local : List ℕ) → is_name prefix ≡ true → is_name local ≡ true → is_name (prefix ++ 0x3A ∷ local) ≡ true
joined_name [] local h k = absurd cc
joined_name (c ∷ cs) local h k =
    let both = and_parts (is_name_start c) (list_all is_name_char (c ∷ cs)) h in
    let local_parts = and_parts (option_map_or is_name_start (slice_get local 0) false) (list_all is_name_char local) k in
    and_from (is_name_start c) (list_all is_name_char (c ∷ (cs ++ 0x3A ∷ local))) both.0
    (all_append is_name_char (c ∷ cs) (0x3A ∷ local) both.1 (and_from (is_name_char 0x3A) (list_all is_name_char local) refl local_parts.1))

pub name_is : (prefix local : List ℕ) → is_prefix prefix ≡ true → is_ncname local ≡ true → is_name (written_name prefix local) ≡ true
name_is prefix local h k = by_empty (is_empty prefix) h where
  by_empty : (t : Bool) → (t || is_ncname prefix) ≡ true → is_name (if t then local else prefix ++ 0x3A ∷ local) ≡ true
  by_empty true e = name_of_ncname local k
  by_empty false e = joined_name prefix local (name_of_ncname prefix e) (name_of_ncname local k)

pub qname_is : (prefix local : List ℕ) → qname prefix local ≡ encode_utf8_all (written_name prefix local)
qname_is prefix local = by_empty (is_empty prefix) where
  by_empty : (t : Bool) → (if t then encode_utf8_all local else encode_utf8_all prefix ++ codes ":" ++ encode_utf8_all local) ≡ encode_utf8_all (if t then local else prefix ++ 0x3A ∷ local)
  by_empty true = refl
  by_empty false =
      append_assoc (encode_utf8_all prefix) (codes ":") (encode_utf8_all local)
      ∙ ap (λ l. encode_utf8_all prefix ++ (l ++ encode_utf8_all local)) (sym (encode_ascii 0x3A (omega arith)))
      ∙ sym (encodes-append prefix (0x3A ∷ local))

-- What stands behind the name of a start tag

-- a name and a value as they are written
abbrev pub field : RawAttr → List ℕ
field r = 32 ∷ (encode_utf8_all r.name ++ 61 ∷ 34 ∷ (escaped Value (encode_utf8_all r.value) ++ 34 ∷ []))

abbrev pub is_sound_raw : RawAttr → Bool
is_sound_raw r = is_name r.name && are_chars r.value

abbrev spelling : RawAttr → Attribute
spelling r = record { first = 32; space = []; before = []; behind = []; quote = 34; value = escaped Value (encode_utf8_all r.value) }

field_spelled : (r : RawAttr) → is_sound_raw r ≡ true → SpellsAttribute r (spelling r)
field_spelled r h =
    let both = and_parts (is_name r.name) (are_chars r.value) h in
    let without = value_without (encode_utf8_all r.value) in
    record {
      name = both.0;
      quoted = record { space = refl; before = refl; behind = refl; quote = refl; unquoted = without.1 };
      markless = without.0;
      value = value_text r.value both.1;
    }

field_before : (r : RawAttr) (more : List ℕ) → field r ++ more ≡ spelled (encode_utf8_all r.name) (spelling r) more
field_before r more =
    let value = escaped Value (encode_utf8_all r.value) in
    ap (λ l. 32 ∷ l) (append_assoc (encode_utf8_all r.name) (61 ∷ 34 ∷ (value ++ 34 ∷ [])) more
    ∙ ap (λ l. encode_utf8_all r.name ++ 61 ∷ 34 ∷ l) (append_assoc value (34 ∷ []) more))

fields_spelled : (rs : List RawAttr) (empty : Bool) → list_all is_sound_raw rs ≡ true → SpellsAttributes rs empty (flat_map field rs ++ slash empty)
fields_spelled [] empty h = ([], refl, refl)
fields_spelled (r ∷ rs) empty h =
    let both = and_parts (is_sound_raw r) (list_all is_sound_raw rs) h in (
      spelling r,
      flat_map field rs ++ slash empty,
      field_spelled r both.0,
      append_assoc (field r) (flat_map field rs) (slash empty) ∙ field_before r (flat_map field rs ++ slash empty),
      fields_spelled rs empty both.1,
    )

field_text : (r : RawAttr) → is_sound_raw r ≡ true → IsText (field r)
field_text r h =
    let both = and_parts (is_name r.name) (are_chars r.value) h in
    text_append (32 ∷ encode_utf8_all r.name) (61 ∷ 34 ∷ (escaped Value (encode_utf8_all r.value) ++ 34 ∷ []))
    (text_append (32 ∷ []) (encode_utf8_all r.name) (text_plain (32 ∷ []) refl) (text_of r.name (name-chars r.name both.0)))
    (text_append (61 ∷ 34 ∷ escaped Value (encode_utf8_all r.value)) (34 ∷ [])
    (text_append (61 ∷ 34 ∷ []) (escaped Value (encode_utf8_all r.value)) (text_plain (61 ∷ 34 ∷ []) refl) (escaped_text Value r.value both.1))
    (text_plain (34 ∷ []) refl))

fields_text : (rs : List RawAttr) → list_all is_sound_raw rs ≡ true → IsText (flat_map field rs)
fields_text [] h = text_plain [] refl
fields_text (r ∷ rs) h =
    let both = and_parts (is_sound_raw r) (list_all is_sound_raw rs) h in
    text_append (field r) (flat_map field rs) (field_text r both.0) (fields_text rs both.1)

declaration_is : (b : Binding) → declaration b ≡ field (declaring b)
declaration_is b = by_empty (is_empty b.prefix) where
  by_empty : (t : Bool) →
      (if t then codes " xmlns" else codes " xmlns:" ++ encode_utf8_all b.prefix) ++ (codes "=\"" ++ escaped Value (encode_utf8_all b.uri) ++ codes "\"")
      ≡ 32 ∷ (encode_utf8_all (if t then codes "xmlns" else codes "xmlns:" ++ b.prefix) ++ 61 ∷ 34 ∷ (escaped Value (encode_utf8_all b.uri) ++ 34 ∷ []))
  by_empty true = ap (λ l. 32 ∷ (l ++ 61 ∷ 34 ∷ (escaped Value (encode_utf8_all b.uri) ++ 34 ∷ []))) (sym (plain_is (codes "xmlns") refl))
  by_empty false =
      ap (λ l. 32 ∷ (l ++ 61 ∷ 34 ∷ (escaped Value (encode_utf8_all b.uri) ++ 34 ∷ [])))
      (ap (λ l. l ++ encode_utf8_all b.prefix) (sym (plain_is (codes "xmlns:") refl)) ∙ sym (encodes-append (codes "xmlns:") b.prefix))

declarations_are : (bs : List Binding) → flat_map declaration bs ≡ flat_map field (map declaring bs)
declarations_are [] = refl
declarations_are (b ∷ bs) = ap (λ l. l ++ flat_map declaration bs) (declaration_is b) ∙ ap (λ l. field (declaring b) ++ l) (declarations_are bs)

attribute_is : (p : List ℕ) (a : Attr) → attribute p a ≡ field (record { name = written_name p a.name.local; value = a.value })
attribute_is p a = ap (λ l. 32 ∷ (l ++ 61 ∷ 34 ∷ (escaped Value (encode_utf8_all a.value) ++ 34 ∷ []))) (qname_is p a.name.local)

attributes_are : (ps : List (List ℕ)) (attrs : List Attr) → attributes ps attrs ≡ flat_map field (with_prefixes ps attrs)
attributes_are [] attrs = refl
attributes_are (p ∷ ps) [] = refl
attributes_are (p ∷ ps) (a ∷ attrs) =
    ap (λ l. l ++ attributes ps attrs) (attribute_is p a)
    ∙ ap (λ l. field (record { name = written_name p a.name.local; value = a.value }) ++ l) (attributes_are ps attrs)

fields-append : (rs qs : List RawAttr) → flat_map field (rs ++ qs) ≡ flat_map field rs ++ flat_map field qs
fields-append [] qs = refl
fields-append (r ∷ rs) qs = ap (λ l. field r ++ l) (fields-append rs qs) ∙ sym (append_assoc (field r) (flat_map field rs) (flat_map field qs))

pub open_tag-is : (tag : HeldTag) (d : Dressed) → open_tag tag d ≡ 60 ∷ (encode_utf8_all (written_name tag.name.prefix tag.name.local) ++ flat_map field (raw_attrs d tag.attrs))
open_tag-is tag d =
    let name = qname tag.name.prefix tag.name.local in
    let front = map declaring d.declared in
    let back = with_prefixes d.prefixes tag.attrs in
    ap (λ l. 60 ∷ l) (append_assoc name (flat_map declaration d.declared) (attributes d.prefixes tag.attrs)
    ∙ ap (λ l. name ++ (l ++ attributes d.prefixes tag.attrs)) (declarations_are d.declared)
    ∙ ap (λ l. name ++ (flat_map field front ++ l)) (attributes_are d.prefixes tag.attrs)
    ∙ ap (λ l. name ++ l) (sym (fields-append front back))
    ∙ ap (λ l. l ++ flat_map field (front ++ back)) (qname_is tag.name.prefix tag.name.local))

-- Names and values of a tag are sound

declared_sound : (bs : List Binding) → list_all is_sound_binding bs ≡ true → list_all is_sound_raw (map declaring bs) ≡ true
declared_sound [] h = refl
declared_sound (b ∷ bs) h =
    let both = and_parts (is_sound_binding b) (list_all is_sound_binding bs) h in
    let parts = and_parts (is_prefix b.prefix && are_chars b.uri) (is_good_binding b.prefix b.uri) both.0 in
    let two = and_parts (is_prefix b.prefix) (are_chars b.uri) parts.0 in
    and_from (is_sound_raw (declaring b)) (list_all is_sound_raw (map declaring bs)) (and_from (is_name (declaring b).name) (are_chars b.uri) (by_empty (is_empty b.prefix) two.0) two.1) (declared_sound bs both.1) where
      by_empty : (t : Bool) → (t || is_ncname b.prefix) ≡ true → is_name (if t then codes "xmlns" else codes "xmlns:" ++ b.prefix) ≡ true
      by_empty true e = refl
      by_empty false e = joined_name (codes "xmlns") b.prefix refl (name_of_ncname b.prefix e)

pub local_of_good : (n : Name) → is_good_name n ≡ true → (is_prefix n.prefix ≡ true) × (is_ncname n.local ≡ true)
local_of_good n h = and_parts (is_prefix n.prefix) (is_ncname n.local) (and_parts (is_qname n) _ h).0

pub good_of_attribute : (a : Attr) → is_sound_attribute a ≡ true → is_good_name a.name ≡ true
good_of_attribute a h = (and_parts (is_good_name a.name) _ (and_parts (is_good_attribute a.name) _ (and_parts (is_good_attribute a.name && are_chars a.name.uri) (are_chars a.value) h).0).0).0

attributes_sound : (ps : List (List ℕ)) (attrs : List Attr) → list_all is_prefix ps ≡ true → list_all is_sound_attribute attrs ≡ true → list_all is_sound_raw (with_prefixes ps attrs) ≡ true
attributes_sound [] attrs h k = refl
attributes_sound (p ∷ ps) [] h k = refl
attributes_sound (p ∷ ps) (a ∷ attrs) h k =
    let both = and_parts (is_prefix p) (list_all is_prefix ps) h in
    let all = and_parts (is_sound_attribute a) (list_all is_sound_attribute attrs) k in
    let value = (and_parts (is_good_attribute a.name && are_chars a.name.uri) (are_chars a.value) all.0).1 in
    and_from _ (list_all is_sound_raw (with_prefixes ps attrs))
    (and_from (is_name (written_name p a.name.local)) (are_chars a.value) (name_is p a.name.local both.0 (local_of_good a.name (good_of_attribute a all.0)).1) value)
    (attributes_sound ps attrs both.1 all.1)

pub raw_sound : (d : Dressed) (attrs : List Attr) → list_all is_sound_binding d.declared ≡ true → list_all is_prefix d.prefixes ≡ true → list_all is_sound_attribute attrs ≡ true → list_all is_sound_raw (raw_attrs d attrs) ≡ true
raw_sound d attrs h k g = all_append is_sound_raw (map declaring d.declared) (with_prefixes d.prefixes attrs) (declared_sound d.declared h) (attributes_sound d.prefixes attrs k g)

-- Tags

module _ (name : List ℕ) (is : is_name name ≡ true) (rs : List RawAttr) (sound : list_all is_sound_raw rs ≡ true) where
  abbrev front : List ℕ
  front = 60 ∷ (encode_utf8_all name ++ flat_map field rs)

  pub start_spelled : (first : Bool) → Spells first (Start name rs false) (front ++ codes ">")
  start_spelled first =
      (encode_utf8_all name ++ flat_map field rs, (flat_map field rs, is, refl, subst (SpellsAttributes rs false) (append-nil (flat_map field rs)) (fields_spelled rs false sound)), refl)

  pub empty_spelled : (first : Bool) → Spells first (Start name rs true) (front ++ codes "/>")
  empty_spelled first = (
    encode_utf8_all name ++ (flat_map field rs ++ 47 ∷ []),
    (flat_map field rs ++ 47 ∷ [], is, refl, fields_spelled rs true sound),
    ap (λ l. 60 ∷ l) (append_assoc (encode_utf8_all name) (flat_map field rs) (47 ∷ 62 ∷ [])
        ∙ ap (λ l. encode_utf8_all name ++ l) (sym (append_assoc (flat_map field rs) (47 ∷ []) (62 ∷ [])))
        ∙ sym (append_assoc (encode_utf8_all name) (flat_map field rs ++ 47 ∷ []) (62 ∷ []))),
  )

  front_text : IsText front
  front_text =
      text_append (60 ∷ encode_utf8_all name) (flat_map field rs)
      (text_append (60 ∷ []) (encode_utf8_all name) (text_plain (60 ∷ []) refl) (text_of name (name-chars name is))) (fields_text rs sound)

  pub start_text : IsText (front ++ codes ">")
  start_text = text_append front (codes ">") front_text (text_plain (codes ">") refl)

  pub empty_text : IsText (front ++ codes "/>")
  empty_text = text_append front (codes "/>") front_text (text_plain (codes "/>") refl)

abbrev pub end_of : List ℕ → List ℕ
end_of name = 60 ∷ 47 ∷ (encode_utf8_all name ++ 62 ∷ [])

pub end_spelled : (name : List ℕ) → is_name name ≡ true → (first : Bool) → Spells first (End name) (end_of name)
end_spelled name is first = (47 ∷ (encode_utf8_all name ++ []), ([], is, refl, refl), ap (λ l. 60 ∷ 47 ∷ (l ++ 62 ∷ [])) (sym (append-nil (encode_utf8_all name))))

pub end_text : (name : List ℕ) → is_name name ≡ true → IsText (end_of name)
end_text name is =
    text_append (60 ∷ 47 ∷ encode_utf8_all name) (62 ∷ [])
    (text_append (60 ∷ 47 ∷ []) (encode_utf8_all name) (text_plain (60 ∷ 47 ∷ []) refl) (text_of name (name-chars name is))) (text_plain (62 ∷ []) refl)

pub end_tag-is : (n : Name) → end_tag n.prefix n.local ≡ end_of (written_name n.prefix n.local)
end_tag-is n = ap (λ l. 60 ∷ 47 ∷ (l ++ 62 ∷ [])) (qname_is n.prefix n.local)

pub good_name : (n : Name) → is_good_name n ≡ true → is_name (written_name n.prefix n.local) ≡ true
good_name n h = let parts = local_of_good n h in name_is n.prefix n.local parts.0 parts.1

module _ (reads : SpelledLexemesAreRead) where
  pub reads_start_tags : ReadsStartTags
  reads_start_tags first tag d name attrs declared prefixes =
      let word = written_name tag.name.prefix tag.name.local in
      let rs = raw_attrs d tag.attrs in
      let is = good_name tag.name name in
      let sound = raw_sound d tag.attrs declared prefixes attrs in
      let body = λ (empty : Bool). Start word rs empty in (
        subst (λ l. judged first (l ++ codes ">") ≡ Ok (body false)) (sym (open_tag-is tag d))
            (read_as reads first (body false) _ (start_text word is rs sound) (start_spelled word is rs sound first)),
        subst (λ l. judged first (l ++ codes "/>") ≡ Ok (body true)) (sym (open_tag-is tag d))
            (read_as reads first (body true) _ (empty_text word is rs sound) (empty_spelled word is rs sound first)),
      )

  pub reads_end_tags : ReadsEndTags
  reads_end_tags first n good =
      let word = written_name n.prefix n.local in
      subst (λ l. judged first l ≡ Ok (End word)) (sym (end_tag-is n)) (read_as reads first (End word) (end_of word) (end_text word (good_name n good)) (end_spelled word (good_name n good) first))
