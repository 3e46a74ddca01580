-- Tags that are written plainly are spelled so.
use Rattle.std.proofs.Common.{◌≡◌, ℕ, ◌<◌, ◌≤◌, Bool, true, false, not, ◌&&◌, ◌==◌, List, [], ◌∷◌, ◌++◌, Some, Ok, length, length-append, append_assoc, take, refl, sym, ap, ◌∙◌, arith, subst, cond, chars, IsUtf8}
use Rattle.std.specs.List.{list_all, list_any}
use Rattle.std.proofs.lemmas.List.{append-nil}
use Rattle.std.proofs.lemmas.List.Folds.{list_all-append}
use Rattle.std.proofs.lemmas.Str.{encodes-chars}
use Rattle.stx_base.specs.declared.limits.Limits.{Limits}
use Rattle.stx_base.specs.declared.fault.XmlKind.TheVariants.{LexemeTooLong}
use Rattle.xml_tokens.specs.Reader.{at_shape, lexeme_or_fault}
use Rattle.xml_tokens.specs.declared.lexeme.Step.TheVariants as step
use Rattle.xml_tokens.specs.inside.PlainTags.{is_low_char, is_plain_in_value, AreFirst, IsPlainAttribute, SpellFirst, SpellsPlainTag}
use Rattle.xml_tokens.specs.Shape.{shape_len}
use Rattle.xml_tokens.specs.Judged.{judged}
use Rattle.xml_tokens.specs.inside.Simple.{IsBareName}
use Rattle.xml_tokens.specs.inside.Spans.{is_break, is_changed, is_literal}
use Rattle.xml_tokens.specs.Spelling.{slash, SpellsAttribute, SpellsAttributes, SpellsText}
use Rattle.xml_tokens.specs.Texts.{is_ampersand}
use Rattle.xml_tokens.specs.declared.lexeme.Body.TheVariants as body
use Rattle.xml_tokens.specs.declared.lexeme.RawAttr.{RawAttr}
use Rattle.xml_tokens.specs.declared.plain_tag.PlainTag.{PlainTag}
use Rattle.xml_tokens.specs.declared.text.Context.TheVariants.{Value}
use Rattle.xml_tokens.proofs.LexemeSpelling.{lexemes-read}
use Rattle.xml_tokens.proofs.ListLemmas.{all-none}
use Rattle.xml_tokens.proofs.LiteralLemmas.{literal-said}
use Rattle.xml_tokens.proofs.PlainLemmas.{all-both, low-chars, low-utf8}
use Rattle.xml_tokens.proofs.ShapeSpelling.{lexemes-cut}
use Rattle.xml_tokens.proofs.SimpleLemmas.{both_true, name-low, name-utf8, not_less, take-front}
use Rattle.xml_tokens.proofs.TagSpelling.{text-again, text-chars}
use Rattle.xml_tokens.proofs.TextReading.{texts-spelled}

-- a value that is plain says itself
module _ (value : List ℕ) (plain : list_all is_plain_in_value value ≡ true) where
  lows : (list_all is_low_char value ≡ true) × (list_all (λ b. not (b == 34) && (not (b == 60) && (not (b == 38) && not (is_break b)))) value ≡ true)
  lows = all-both is_low_char (λ b. not (b == 34) && (not (b == 60) && (not (b == 38) && not (is_break b)))) value plain

  others : (list_all (λ b. not (b == 34)) value ≡ true) × (list_all (λ b. not (b == 60) && (not (b == 38) && not (is_break b))) value ≡ true)
  others = all-both (λ b. not (b == 34)) (λ b. not (b == 60) && (not (b == 38) && not (is_break b))) value lows.1

  later : (list_all (λ b. not (b == 60)) value ≡ true) × (list_all (λ b. not (b == 38) && not (is_break b)) value ≡ true)
  later = all-both (λ b. not (b == 60)) (λ b. not (b == 38) && not (is_break b)) value others.1

  last : (list_all (λ b. not (b == 38)) value ≡ true) × (list_all (λ b. not (is_break b)) value ≡ true)
  last = all-both (λ b. not (b == 38)) (λ b. not (is_break b)) value later.1

  literal : is_literal Value value ≡ true
  literal = ap (λ t. not t && not (list_any (is_changed Value) value)) (all-none is_ampersand value last.0) ∙ ap not (all-none (is_changed Value) value last.1)

  value-spelled : SpellsText Value (chars value) value
  value-spelled =
      let t = texts-spelled Value value value (low-utf8 value lows.0) (low-chars value lows.0) (literal-said Value value literal) in
      subst (λ text. SpellsText Value text value) (sym (ap chars t.1 ∙ text-again t.0 (text-chars Value t.0 value t.2))) t.2

  pub value-utf8 : IsUtf8 value
  value-utf8 = low-utf8 value lows.0

  attr-spelled : (name : List ℕ) → IsBareName name →
      SpellsAttribute (record { name = chars name; value = chars value }) (record { first = 32; space = []; before = []; behind = []; quote = 34; value = value })
  attr-spelled name is = record {
    name = is.1;
    quoted = record { space = refl; before = refl; behind = refl; quote = refl; unquoted = all-none (λ b. b == 34) value others.0 };
    markless = all-none (λ b. b == 60) value later.0;
    value = value-spelled;
  }

-- an attribute behind a space
abbrev pub written : (name value : List ℕ) → List ℕ
written name value = 32 ∷ (name ++ 61 ∷ 34 ∷ (value ++ 34 ∷ []))

pub attr-first : (name value : List ℕ) → IsBareName name → list_all is_plain_in_value value ≡ true → SpellFirst (record { name = chars name; value = chars value } ∷ []) (written name value)
attr-first name value is plain = (
  list_all-append is_low_char name (61 ∷ 34 ∷ (value ++ 34 ∷ []))
      ∙ both_true (list_all is_low_char name) _ (name-low name is.0) (list_all-append is_low_char value (34 ∷ []) ∙ both_true (list_all is_low_char value) true (lows value plain).0 refl),
  λ others empty more s. (
    record { first = 32; space = []; before = []; behind = []; quote = 34; value = value },
    more,
    attr-spelled value plain name is,
    ap (λ l. 32 ∷ l) (append_assoc name (61 ∷ 34 ∷ (value ++ 34 ∷ [])) more
        ∙ (ap (λ l. name ++ 61 ∷ 34 ∷ l) (append_assoc value (34 ∷ []) more) ∙ ap (λ l. l ++ 61 ∷ 34 ∷ (value ++ 34 ∷ more)) (sym (encodes-chars name (name-utf8 name is))))),
    s,
  ),
)

-- attributes before others
pub none-first : SpellFirst [] []
none-first = (refl, λ others empty more s. s)

pub both-first : (attrs more_attrs : List RawAttr) (front back : List ℕ) → SpellFirst attrs front → SpellFirst more_attrs back → SpellFirst (attrs ++ more_attrs) (front ++ back)
both-first attrs more_attrs front back f g = (
  list_all-append is_low_char front back ∙ both_true (list_all is_low_char front) (list_all is_low_char back) f.0 g.0,
  λ others empty more s.
      subst (λ l. SpellsAttributes l empty ((front ++ back) ++ more)) (sym (append_assoc attrs more_attrs others))
      (subst (SpellsAttributes (attrs ++ (more_attrs ++ others)) empty) (sym (append_assoc front back more)) (f.1 (more_attrs ++ others) empty (back ++ more) (g.1 others empty more s))),
)

-- the attributes so far, and one more
attr-behind : (attrs : List RawAttr) (name value behind rest bytes more : List ℕ) → AreFirst attrs rest bytes → rest ≡ 32 ∷ more → IsPlainAttribute name value behind more →
    AreFirst (attrs ++ record { name = chars name; value = chars value } ∷ []) behind bytes
attr-behind attrs name value behind rest bytes more (front, spells, e) e_rest (is, plain, e_more) = (
  front ++ written name value,
  both-first attrs (record { name = chars name; value = chars value } ∷ []) front (written name value) spells (attr-first name value is plain),
  e ∙ (ap (λ l. front ++ l) (e_rest ∙ (ap (λ l. 32 ∷ l) (e_more ∙ (ap (λ l. name ++ 61 ∷ 34 ∷ l) (sym (append_assoc value (34 ∷ []) behind)) ∙ sym (append_assoc name (61 ∷ 34 ∷ (value ++ 34 ∷ [])) behind)))))
      ∙ sym (append_assoc front (written name value) behind)),
)

pub one-more-first : (attrs : List RawAttr) (name value behind rest bytes more : List ℕ) (attr : RawAttr) → attr.name ≡ chars name → attr.value ≡ chars value →
    AreFirst attrs rest bytes → rest ≡ 32 ∷ more → IsPlainAttribute name value behind more → AreFirst (attrs ++ attr ∷ []) behind bytes
one-more-first attrs name value behind rest bytes more attr e_name e_value so_far e_rest is =
    subst (λ n. AreFirst (attrs ++ record { name = n; value = attr.value } ∷ []) behind bytes) (sym e_name)
    (subst (λ v. AreFirst (attrs ++ record { name = chars name; value = v } ∷ []) behind bytes) (sym e_value) (attr-behind attrs name value behind rest bytes more so_far e_rest is))

pub rest-shorter : (name value behind rest more : List ℕ) → rest ≡ 32 ∷ more → IsPlainAttribute name value behind more → length behind < length rest
rest-shorter name value behind rest more e (is, plain, e_more) =
    omega (arith, ap length e, ap length e_more, length-append name (61 ∷ 34 ∷ (value ++ 34 ∷ behind)), length-append value (34 ∷ behind))

-- the tag's bytes
abbrev pub tag_bytes : (name front : List ℕ) → Bool → List ℕ
tag_bytes name front empty = 60 ∷ ((name ++ (front ++ slash empty)) ++ 62 ∷ [])

slash-low : (empty : Bool) → list_all is_low_char (slash empty) ≡ true
slash-low true = refl
slash-low false = refl

slash-spelled : (empty : Bool) → SpellsAttributes [] empty (slash empty)
slash-spelled empty = ([], refl, refl)

pub tag-spelled : (name front : List ℕ) (attrs : List RawAttr) (empty : Bool) (len : ℕ) → IsBareName name → SpellFirst attrs front → len ≡ length (tag_bytes name front empty) →
    SpellsPlainTag (record { name = chars name; attrs = attrs; empty = empty; len = len }) (tag_bytes name front empty)
tag-spelled name front attrs empty len is spells e_len = (
  e_len,
  list_all-append is_low_char (name ++ (front ++ slash empty)) (62 ∷ [])
      ∙ both_true (list_all is_low_char (name ++ (front ++ slash empty))) true (list_all-append is_low_char name (front ++ slash empty)
      ∙ both_true (list_all is_low_char name) _ (name-low name is.0) (list_all-append is_low_char front (slash empty) ∙ both_true (list_all is_low_char front) _ spells.0 (slash-low empty))) refl,
  λ first. (
    name ++ (front ++ slash empty),
    (
      front ++ slash empty,
      is.1,
      ap (λ l. l ++ (front ++ slash empty)) (sym (encodes-chars name (name-utf8 name is))),
      subst (λ l. SpellsAttributes l empty (front ++ slash empty)) (append-nil attrs) (spells.1 [] empty (slash empty) (slash-spelled empty)),
    ),
    refl,
  ),
)

-- the bytes that begin with it
pub tag-begins : (name front : List ℕ) (empty : Bool) (inside behind rest more bytes : List ℕ) → bytes ≡ 60 ∷ inside → inside ≡ name ++ behind → behind ≡ front ++ rest → rest ≡ slash empty ++ 62 ∷ more →
    bytes ≡ tag_bytes name front empty ++ more
tag-begins name front empty inside behind rest more bytes e_bytes e_inside e_behind e_rest =
    e_bytes ∙ ap (λ l. 60 ∷ l) (e_inside ∙ (ap (λ l. name ++ l) (e_behind ∙ (ap (λ l. front ++ l) e_rest ∙ sym (append_assoc front (slash empty) (62 ∷ more))))
    ∙ (sym (append_assoc name (front ++ slash empty) (62 ∷ more)) ∙ sym (append_assoc (name ++ (front ++ slash empty)) (62 ∷ []) more))))

-- such a tag is a whole shape, and says this
module _ (tag : PlainTag) (front more bytes : List ℕ) (spells : SpellsPlainTag tag front) (e : bytes ≡ front ++ more) where
  pub tag-shape : (ended : Bool) → shape_len ended bytes ≡ Some (length front)
  tag-shape ended = ap (shape_len ended) e ∙ lexemes-cut false ended (body.Start tag.name tag.attrs tag.empty) front more (spells.2 false) tt

  pub tag-front : (length front ≤ length bytes) × (front ≡ take (length front) bytes)
  tag-front = (omega (arith, ap length e, length-append front more), sym (ap (take (length front)) e ∙ take-front front more))

pub tag-judged : (tag : PlainTag) (bytes : List ℕ) → SpellsPlainTag tag bytes → (first : Bool) → judged first bytes ≡ Ok (body.Start tag.name tag.attrs tag.empty)
tag-judged tag bytes spells first =
    lexemes-read first (body.Start tag.name tag.attrs tag.empty) bytes (low-utf8 bytes spells.1) (low-chars bytes spells.1) (spells.2 first)

-- what is due at it, where it isn't too long
module _ (limits : Limits) (tag : PlainTag) (at : ℕ) (first : Bool) (bytes : List ℕ) (spells : SpellsPlainTag tag bytes) where
  pub tag-due : length bytes ≤ limits.lexeme → at_shape limits first bytes at ≡ step.Lexeme (record { offset = at; body = body.Start tag.name tag.attrs tag.empty })
  tag-due h =
      ap (λ t. cond t (step.Bad (record { kind = LexemeTooLong; offset = at })) (lexeme_or_fault (judged first bytes) at)) (not_less (length bytes) limits.lexeme h)
      ∙ ap (λ j. lexeme_or_fault j at) (tag-judged tag bytes spells first)
