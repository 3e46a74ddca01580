-- What lexemes say is spelled so.
use Rattle.std.proofs.Common.{◌≡◌, inl, inr, ℕ, suc, ◌+◌, ◌-◌, ◌<◌, Bool, true, false, not, ◌&&◌, ◌||◌, List, [], ◌∷◌, ◌++◌, Option, Some, None, Result, Ok, Err, IsUtf8, length, length-append, take, drop, refl, sym, ap, ◌∙◌, arith, subst, cond, encode_utf8_all}
use Rattle.std.specs.Prelude.{codes, nat_lt, slice_get, if◌then◌else◌}
use Rattle.std.specs.List.{list_all, list_any, position_or_len, prefix_len}
use Rattle.std.specs.Option.{option_map_or}
use Rattle.std.specs.Result.{result_map_both}
use Rattle.std.specs.Str.{chars, is_utf8}
use Rattle.std.proofs.lemmas.Bool.Decides.{nat_tests}
use Rattle.std.proofs.lemmas.List.{take-append-drop}
use Rattle.std.proofs.lemmas.List.Folds.{list_all-append}
use Rattle.std.proofs.lemmas.Str.{IsUtf8-from_is_utf8, chars-append}
use Rattle.stx_base.specs.Character.{is_char, is_space}
use Rattle.stx_base.specs.declared.fault.XmlKind.{XmlKind}
use Rattle.stx_base.specs.declared.fault.XmlKind.TheVariants as kind
use Rattle.xml_tokens.specs.Places.{begins, first_byte, first_word}
use Rattle.xml_tokens.specs.Shape as Shape
use Rattle.xml_tokens.specs.Shape.{form, is_less, shape_len, end_by, text_end}
use Rattle.xml_tokens.specs.Texts.{lines, said}
use Rattle.xml_tokens.specs.Tags.{after_space, tag}
use Rattle.xml_tokens.specs.Prolog.{declared, is_doctype, is_encoding, is_version}
use Rattle.xml_tokens.specs.Judged.{between, by_form, cdata, comment, declaration, doctype, holds, instruction, instruction_or_declaration, is_declaration, is_target, judged, kind_of, tag_or_fault, text}
use Rattle.xml_tokens.specs.Spelling.{IsSpace, LexemesAreSpelled, Spells, SpellsBehind, SpellsLines, SpellsTag, SpellsText, enclosed}
use Rattle.xml_tokens.specs.declared.form.Form.{Form}
use Rattle.xml_tokens.specs.declared.form.Form.TheVariants as form
use Rattle.xml_tokens.specs.declared.lexeme.Body.{Body}
use Rattle.xml_tokens.specs.declared.lexeme.Body.TheVariants.{Chars, CData, Start, End, Comment, Pi, Doctype, Declaration}
use Rattle.xml_tokens.specs.declared.text.BadText.{BadText}
use Rattle.xml_tokens.specs.declared.text.Context.TheVariants.{Content}
use Rattle.xml_tokens.proofs.CloserLemmas.{none-before}
use Rattle.xml_tokens.proofs.EnclosedLemmas.{begins-is, between-is}
use Rattle.xml_tokens.proofs.LexemeSpelling.{lines-chars}
use Rattle.xml_tokens.proofs.LineSpelling.{lines-spelled}
use Rattle.xml_tokens.proofs.ListLemmas.{two}
use Rattle.xml_tokens.proofs.PrologReading.{declaration-is, doctype-is}
use Rattle.xml_tokens.proofs.TagReading.{IsGood, good-behind, good-cut, again-bytes, tags-spelled}
use Rattle.xml_tokens.proofs.TagSpelling.{text-again, text-chars}
use Rattle.xml_tokens.proofs.TextReading.{texts-spelled}
use Rattle.xml_tokens.proofs.Utf8Lemmas.{utf8-front}
use Rattle.xml_tokens.proofs.WrittenSpelling.{space-is}

-- bytes between words of ASCII
good-front : (front rest : List ℕ) → list_all (λ b. nat_lt b 128) front ≡ true → IsGood (front ++ rest) → IsGood rest
good-front [] rest low good = good
good-front (b ∷ bs) rest low good =
    let parts = two (nat_lt b 128) (list_all (λ x. nat_lt x 128) bs) low in
    good-front bs rest parts.1 (good-cut [] b (bs ++ rest) (less parts.0) good).1 where
      less : {n m : ℕ} → nat_lt n m ≡ true → n < m
      less {n} {m} e = grind (arith, nat_tests)

good-inside : (opener : List ℕ) (c : ℕ) (closer inside : List ℕ) → list_all (λ b. nat_lt b 128) opener ≡ true → c < 128 → IsGood (enclosed opener (c ∷ closer) inside) → IsGood inside
good-inside opener c closer inside o l good = (good-cut inside c closer l (good-front opener (inside ++ c ∷ closer) o good)).0

-- a text without references, by its lines
spells-lines : (inside : List ℕ) → IsGood inside → SpellsLines (chars (lines inside)) inside
spells-lines inside good =
    let l = lines-spelled inside good.utf8 good.chars in
    subst (λ (t : List ℕ). SpellsLines t inside) (sym (ap chars l.1 ∙ text-again l.0 (lines-chars l.0 inside l.2))) l.2

-- what an answer is made of
ok-same : (a b : Body) → ◌≡◌ {A = Result Body XmlKind} (Ok a) (Ok b) → a ≡ b
ok-same a b e = cc

from-between : (f : List ℕ → Result Body XmlKind) (fault : XmlKind) (o : Option (List ℕ)) (body : Body) → option_map_or f o (Err fault) ≡ Ok body → (inside : List ℕ) × (o ≡ Some inside) × (f inside ≡ Ok body)
from-between f fault (Some inside) body h = (inside, refl, h)
from-between f fault None body h = absurd cc

-- a whole text holds no `<`
none-less : (at : ℕ) (bytes : List ℕ) → first_byte is_less at bytes ≡ None → list_any is_less bytes ≡ false
none-less at [] h = refl
none-less at (b ∷ bs) h = by_test (λ k. none-less (at + 1) bs k) (is_less b) h where
  by_test : (first_byte is_less (at + 1) bs ≡ None → list_any is_less bs ≡ false) → (t : Bool) → cond t (Some at) (first_byte is_less (at + 1) bs) ≡ None → (t || list_any is_less bs) ≡ false
  by_test again true k = absurd cc
  by_test again false k = again k

first-inside : (at : ℕ) (bytes : List ℕ) (place : ℕ) → first_byte is_less at bytes ≡ Some place → place < at + length bytes
first-inside at [] place h = absurd cc
first-inside at (b ∷ bs) place h = by_test (λ k. first-inside (at + 1) bs place k) (is_less b) h where
  by_test : (first_byte is_less (at + 1) bs ≡ Some place → place < (at + 1) + length bs) → (t : Bool) → cond t (Some at) (first_byte is_less (at + 1) bs) ≡ Some place → place < at + suc (length bs)
  by_test again true k = let e : at ≡ place = cc in omega (arith, e)
  by_test again false k = omega (arith, again k)

whole-text : (bytes : List ℕ) → text_end true bytes (first_byte is_less 0 bytes) ≡ Some (length bytes) → list_any is_less bytes ≡ false
whole-text bytes h = by_place (first_byte is_less 0 bytes) refl h where
  by_place : (o : Option ℕ) → first_byte is_less 0 bytes ≡ o → text_end true bytes o ≡ Some (length bytes) → list_any is_less bytes ≡ false
  by_place None e k = none-less 0 bytes e
  by_place (Some at) e k = let same : at ≡ length bytes = cc in absurd (omega (arith, first-inside 0 bytes at e, same))

pub spells-text : (first : Bool) (bytes : List ℕ) (body : Body) → IsGood bytes → 0 < length bytes → list_any is_less bytes ≡ false → text bytes ≡ Ok body → Spells first body bytes
spells-text first bytes body good some less h = by_end (holds (codes "]]>") bytes) refl h where
  make : List ℕ → Body
  make t = Chars (chars t) (list_all is_space bytes)

  by_said : holds (codes "]]>") bytes ≡ false → (s : Result (List ℕ) BadText) → said Content bytes ≡ s → result_map_both (λ t. Chars (chars t) (list_all is_space bytes)) kind_of s ≡ Ok body → Spells first body bytes
  by_said ends (Err f) e k = absurd cc
  by_said ends (Ok out) e k =
      let t = texts-spelled Content bytes out good.utf8 good.chars e in
      let again : chars out ≡ t.0 = ap chars t.1 ∙ text-again t.0 (text-chars Content t.0 bytes t.2) in
      let all : Spells first (Chars (chars out) (list_all is_space bytes)) bytes = (subst (λ (l : List ℕ). SpellsText Content l bytes) (sym again) t.2, some, less, ends, refl) in
      subst (λ (b : Body). Spells first b bytes) (ok-same (Chars (chars out) (list_all is_space bytes)) body k) all

  by_end : (t : Bool) → holds (codes "]]>") bytes ≡ t → cond t (Err kind.CdataEnd) (result_map_both (λ t. Chars (chars t) (list_all is_space bytes)) kind_of (said Content bytes)) ≡ Ok body → Spells first body bytes
  by_end true e k = absurd cc
  by_end false e k = by_said e (said Content bytes) refl k

pub spells-comment : (first : Bool) (inside bytes : List ℕ) (body : Body) → IsGood inside → bytes ≡ enclosed (codes "<!--") (codes "-->") inside → comment inside ≡ Ok body → Spells first body bytes
spells-comment first inside bytes body good whole h = by_tests (holds (codes "--") inside) refl (begins (drop (length inside - 1) inside) (codes "-")) refl h where
  by_tests : (d : Bool) → holds (codes "--") inside ≡ d → (e : Bool) → begins (drop (length inside - 1) inside) (codes "-") ≡ e → cond (d || e) (Err kind.BadComment) (Ok (Comment (chars (lines inside)))) ≡ Ok body → Spells first body bytes
  by_tests true a e b k = absurd cc
  by_tests false a true b k = absurd cc
  by_tests false a false b k =
      let all : Spells first (Comment (chars (lines inside))) bytes = (inside, spells-lines inside good, a, b, whole) in
      subst (λ (x : Body). Spells first x bytes) (ok-same (Comment (chars (lines inside))) body k) all

pub spells-cdata : (first : Bool) (inside bytes : List ℕ) (body : Body) → IsGood inside → holds (codes "]]>") inside ≡ false → bytes ≡ enclosed (codes "<![CDATA[") (codes "]]>") inside → cdata inside ≡ Ok body → Spells first body bytes
spells-cdata first inside bytes body good closer whole h =
    let all : Spells first (CData (chars (lines inside))) bytes = (inside, spells-lines inside good, closer, whole) in
    subst (λ (x : Body). Spells first x bytes) (ok-same (CData (chars (lines inside))) body h) all

pub spells-doctype : (first : Bool) (bytes : List ℕ) (body : Body) → IsGood bytes → doctype bytes ≡ Ok body → Spells first body bytes
spells-doctype first bytes body good h = by_subset (begins bytes (codes "<!DOCTYPE") && begins (drop (length bytes - 1) bytes) (codes "[")) h where
  by_doctype : (inside : List ℕ) → between (codes "<!DOCTYPE") (codes ">") bytes ≡ Some inside → (t : Bool) → is_doctype inside ≡ t → cond t (Ok Doctype) (Err kind.BadMarkup) ≡ Ok body → Spells first body bytes
  by_doctype inside e true d k =
      let whole = between-is (codes "<!DOCTYPE") (codes ">") bytes inside e in
      let g = good-inside (codes "<!DOCTYPE") 62 [] inside refl (omega arith) (subst IsGood whole good) in
      let all : Spells first Doctype bytes = (inside, doctype-is inside g d, whole) in
      subst (λ (x : Body). Spells first x bytes) (ok-same Doctype body k) all
  by_doctype inside e false d k = absurd cc

  by_between : (o : Option (List ℕ)) → between (codes "<!DOCTYPE") (codes ">") bytes ≡ o → cond (option_map_or is_doctype o false) (Ok Doctype) (Err kind.BadMarkup) ≡ Ok body → Spells first body bytes
  by_between (Some inside) e k = by_doctype inside e (is_doctype inside) refl k
  by_between None e k = absurd cc

  by_subset : (t : Bool) → cond t (Err kind.InternalSubset) (cond (option_map_or is_doctype (between (codes "<!DOCTYPE") (codes ">") bytes) false) (Ok Doctype) (Err kind.BadMarkup)) ≡ Ok body → Spells first body bytes
  by_subset true k = absurd cc
  by_subset false k = by_between (between (codes "<!DOCTYPE") (codes ">") bytes) refl k

pub spells-declaration : (inside bytes : List ℕ) (body : Body) → begins inside (codes "xml") ≡ true → bytes ≡ enclosed (codes "<?") (codes "?>") inside → declaration (drop 3 inside) ≡ Ok body → Spells true body bytes
spells-declaration inside bytes body begun whole h = by_declared (declared (drop 3 inside)) refl h where
  by_tests : (told : List ℕ × Option (List ℕ)) → declared (drop 3 inside) ≡ Some told → (v : Bool) → is_version told.0 ≡ v → (e : Bool) → option_map_or is_encoding told.1 true ≡ e →
      cond (not v) (Err kind.BadVersion) (cond (not e) (Err kind.Encoding) (Ok Declaration)) ≡ Ok body → Spells true body bytes
  by_tests told d true v true e k =
      let parts : bytes ≡ enclosed (codes "<?xml") (codes "?>") (drop 3 inside) = whole ∙ ap (λ l. codes "<?" ++ (l ++ codes "?>")) (begins-is inside (codes "xml") begun) in
      let all : Spells true Declaration bytes = (refl, (drop 3 inside, declaration-is (drop 3 inside) told d v e, parts)) in
      subst (λ (x : Body). Spells true x bytes) (ok-same Declaration body k) all
  by_tests told d true v false e k = absurd cc
  by_tests told d false v e e2 k = absurd cc

  by_declared : (o : Option (List ℕ × Option (List ℕ))) → declared (drop 3 inside) ≡ o →
      option_map_or (λ told. if not (is_version told.0) then Err kind.BadVersion else if not (option_map_or is_encoding told.1 true) then Err kind.Encoding else Ok Declaration) o (Err kind.BadDeclaration) ≡ Ok body → Spells true body bytes
  by_declared (Some told) e k = by_tests told e (is_version told.0) refl (option_map_or is_encoding told.1 true) refl k
  by_declared None e k = absurd cc

-- what follows a target
not_space-low : (b : ℕ) → not (is_space b) ≡ false → b < 128
not_space-low b h = grind (arith, nat_tests)

step : (b : ℕ) (bs : List ℕ) → is_space b ≡ true → after_space (b ∷ bs) ≡ after_space bs
step b bs e =
    let n : 1 + prefix_len is_space bs ≡ suc (prefix_len is_space bs) = omega arith in
    ap (λ t. drop (cond t (1 + prefix_len is_space bs) 0) (b ∷ bs)) e ∙ ap (λ k. drop k (b ∷ bs)) n

after-stops : (l : List ℕ) → option_map_or is_space (slice_get (after_space l) 0) false ≡ false
after-stops [] = refl
after-stops (b ∷ bs) = by_test (after-stops bs) (is_space b) refl where
  by_test : option_map_or is_space (slice_get (after_space bs) 0) false ≡ false → (t : Bool) → is_space b ≡ t → option_map_or is_space (slice_get (after_space (b ∷ bs)) 0) false ≡ false
  by_test again true e = ap (λ l. option_map_or is_space (slice_get l 0) false) (step b bs e) ∙ again
  by_test again false e = ap (λ t. option_map_or is_space (slice_get (drop (cond t (1 + prefix_len is_space bs) 0) (b ∷ bs)) 0) false) e ∙ e

behind-spelled : (behind : List ℕ) → option_map_or is_space (slice_get behind 0) true ≡ true → SpellsBehind behind (after_space behind)
behind-spelled [] h = inl (refl, refl)
behind-spelled (b ∷ bs) h =
    let s = space-is bs in
    let front = take (prefix_len is_space bs) bs in
    let space : IsSpace (b ∷ front) = both_true (is_space b) (list_all is_space front) h s.0 in
    inr (b, front, space, ap (λ l. b ∷ l) (s.1 ∙ ap (λ l. front ++ l) (sym (step b bs h))), after-stops (b ∷ bs)) where
      both_true : (s t : Bool) → s ≡ true → t ≡ true → (s && t) ≡ true
      both_true s t a b = rw (a, b) refl

-- what follows the word before white space begins with white space, if there is something
word-ends : (l : List ℕ) → option_map_or is_space (slice_get (drop (position_or_len is_space l) l) 0) true ≡ true
word-ends [] = refl
word-ends (b ∷ bs) = by_test (word-ends bs) (is_space b) refl where
  by_test : option_map_or is_space (slice_get (drop (position_or_len is_space bs) bs) 0) true ≡ true → (t : Bool) → is_space b ≡ t → option_map_or is_space (slice_get (drop (position_or_len is_space (b ∷ bs)) (b ∷ bs)) 0) true ≡ true
  by_test again true e = ap (λ t. option_map_or is_space (slice_get (drop (cond (not t) (1 + position_or_len is_space bs) 0) (b ∷ bs)) 0) true) e ∙ e
  by_test again false e =
      let n : 1 + position_or_len is_space bs ≡ suc (position_or_len is_space bs) = omega arith in
      ap (λ t. option_map_or is_space (slice_get (drop (cond (not t) (1 + position_or_len is_space bs) 0) (b ∷ bs)) 0) true) e
      ∙ (ap (λ k. option_map_or is_space (slice_get (drop k (b ∷ bs)) 0) true) n ∙ again)

-- the parts of UTF-8 of Chars, of which the first ends before ASCII
good-parts : (front rest : List ℕ) → IsUtf8 front → IsUtf8 rest → IsGood (front ++ rest) → IsGood front × IsGood rest
good-parts front rest f r good =
    let cs : chars (front ++ rest) ≡ chars front ++ chars rest = chars-append front rest f in
    let parts = two (list_all is_char (chars front)) (list_all is_char (chars rest)) (sym (list_all-append is_char (chars front) (chars rest)) ∙ (ap (list_all is_char) (sym cs) ∙ good.chars)) in
    (record { utf8 = f; chars = parts.0 }, record { utf8 = r; chars = parts.1 })

spells-instruction : (first : Bool) (inside bytes : List ℕ) (body : Body) → (first && is_declaration inside) ≡ false → IsGood inside → holds (codes "?>") inside ≡ false → bytes ≡ enclosed (codes "<?") (codes "?>") inside → instruction inside ≡ Ok body → Spells first body bytes
spells-instruction first inside bytes body declares good closer whole h = by_target (is_target (chars target)) refl h where
  target : List ℕ
  target = take (position_or_len is_space inside) inside

  behind : List ℕ
  behind = drop (position_or_len is_space inside) inside

  by_target : (t : Bool) → is_target (chars target) ≡ t → cond t (Ok (Pi (chars target) (chars (lines (after_space behind))))) (Err kind.BadPi) ≡ Ok body → Spells first body bytes
  by_target false e k = absurd cc
  by_target true e k =
      let cut = utf8-front (λ b. not (is_space b)) not_space-low inside good.utf8 in
      let parts : target ++ behind ≡ inside = take-append-drop (position_or_len is_space inside) inside in
      let g = good-parts target behind cut.0 cut.1 (subst IsGood (sym parts) good) in
      let again : encode_utf8_all (chars target) ≡ target = again-bytes target g.0 in
      let b = behind-spelled behind (word-ends inside) in
      let content = good-behind-space behind g.1 in
      let all_parts : encode_utf8_all (chars target) ++ behind ≡ inside = ap (λ l. l ++ behind) again ∙ parts in
      let all : Spells first (Pi (chars target) (chars (lines (after_space behind)))) bytes =
      (behind, after_space behind, e, b, spells-lines (after_space behind) content, ap (holds (codes "?>")) all_parts ∙ closer, ap (λ l. first && is_declaration l) all_parts ∙ declares, whole ∙ ap (enclosed (codes "<?") (codes "?>")) (sym all_parts)) in
      subst (λ (x : Body). Spells first x bytes) (ok-same (Pi (chars target) (chars (lines (after_space behind)))) body k) all where
        good-behind-space : (l : List ℕ) → IsGood l → IsGood (after_space l)
        good-behind-space l q = good-behind (take (prefix_len is_space l) l) (after_space l) (space-is l).0 (subst IsGood (space-is l).1 q)

-- tags
spells-tag : (first : Bool) (body : Body) (inside bytes : List ℕ) → bytes ≡ enclosed (codes "<") (codes ">") inside → SpellsTag body inside → Spells first body bytes
spells-tag first (Start name attrs empty) inside bytes whole h = (inside, h, whole)
spells-tag first (End name) inside bytes whole h = (inside, h, whole)
spells-tag first (Chars t blank) inside bytes whole h = absurd h
spells-tag first (CData t) inside bytes whole h = absurd h
spells-tag first (Comment t) inside bytes whole h = absurd h
spells-tag first (Pi target t) inside bytes whole h = absurd h
spells-tag first Doctype inside bytes whole h = absurd h
spells-tag first Declaration inside bytes whole h = absurd h

from-tag : (o : Option (Result Body BadText)) (body : Body) → tag_or_fault o ≡ Ok body → o ≡ Some (Ok body)
from-tag (Some (Ok b)) body h = ap (λ x. Some (Ok x)) (ok-same b body h)
from-tag (Some (Err f)) body h = absurd cc
from-tag None body h = absurd cc

-- a whole shape ends with the first of its closing words
end-of : (n m : ℕ) (o : Option ℕ) → Shape.behind n o ≡ Some (m + n) → o ≡ Some m
end-of n m (Some k) h = let e : k + n ≡ m + n = cc in ap (λ i. Some i) (omega (arith, e))
end-of n m None h = absurd cc

cdata-closer : (inside : List ℕ) → let bytes = enclosed (codes "<![CDATA[") (codes "]]>") inside in end_by form.CData true bytes ≡ Some (length bytes) → holds (codes "]]>") inside ≡ false
cdata-closer inside h =
    let bytes = enclosed (codes "<![CDATA[") (codes "]]>") inside in
    none-before (codes "]]") refl inside 9 0 (end-of 3 (9 + length inside) (first_word (codes "]]>") 9 (inside ++ codes "]]>"))
    (h ∙ ap (λ n. Some n) (let e : length (enclosed (codes "<![CDATA[") (codes "]]>") inside) ≡ 9 + length inside + 3 = omega (arith, length-append inside (codes "]]>")) in e)))

instruction-closer : (inside : List ℕ) → let bytes = enclosed (codes "<?") (codes "?>") inside in end_by form.Instruction true bytes ≡ Some (length bytes) → holds (codes "?>") inside ≡ false
instruction-closer inside h =
    none-before (codes "?") refl inside 2 0 (end-of 2 (2 + length inside) (first_word (codes "?>") 2 (inside ++ codes "?>"))
    (h ∙ ap (λ n. Some n) (let e : length (enclosed (codes "<?") (codes "?>") inside) ≡ 2 + length inside + 2 = omega (arith, length-append inside (codes "?>")) in e)))

-- a text isn't empty
text-some : (bytes : List ℕ) → form bytes ≡ form.Text → 0 < length bytes
text-some [] e = absurd cc
text-some (b ∷ bs) e = omega arith

-- all of them
by-form-spelled : (first : Bool) (f : Form) (bytes : List ℕ) (body : Body) → form bytes ≡ f → IsGood bytes → shape_len true bytes ≡ Some (length bytes) → by_form first f bytes ≡ Ok body → Spells first body bytes
by-form-spelled first form.Text bytes body e good whole h = spells-text first bytes body good (text-some bytes e) (whole-text bytes (ap (λ f. end_by f true bytes) (sym e) ∙ whole)) h
by-form-spelled first form.Comment bytes body e good whole h =
    let b = from-between comment kind.BadMarkup (between (codes "<!--") (codes "-->") bytes) body h in
    let parts = between-is (codes "<!--") (codes "-->") bytes b.0 b.1 in
    spells-comment first b.0 bytes body (good-inside (codes "<!--") 45 (45 ∷ 62 ∷ []) b.0 refl (omega arith) (subst IsGood parts good)) parts b.2
by-form-spelled first form.CData bytes body e good whole h =
    let b = from-between cdata kind.BadMarkup (between (codes "<![CDATA[") (codes "]]>") bytes) body h in
    let parts = between-is (codes "<![CDATA[") (codes "]]>") bytes b.0 b.1 in
    let closer = cdata-closer b.0 (subst (λ l. end_by form.CData true l ≡ Some (length l)) parts (ap (λ f. end_by f true bytes) (sym e) ∙ whole)) in
    spells-cdata first b.0 bytes body (good-inside (codes "<![CDATA[") 93 (93 ∷ 62 ∷ []) b.0 refl (omega arith) (subst IsGood parts good)) closer parts b.2
by-form-spelled first form.Instruction bytes body e good whole h =
    let b = from-between (instruction_or_declaration first) kind.BadPi (between (codes "<?") (codes "?>") bytes) body h in
    let parts = between-is (codes "<?") (codes "?>") bytes b.0 b.1 in
    let g = good-inside (codes "<?") 63 (62 ∷ []) b.0 refl (omega arith) (subst IsGood parts good) in
    let closer = instruction-closer b.0 (subst (λ l. end_by form.Instruction true l ≡ Some (length l)) parts (ap (λ f. end_by f true bytes) (sym e) ∙ whole)) in
    by_first b.0 parts g closer first (is_declaration b.0) refl b.2 where
      by_first : (inside : List ℕ) → bytes ≡ enclosed (codes "<?") (codes "?>") inside → IsGood inside → holds (codes "?>") inside ≡ false → (f : Bool) (d : Bool) → is_declaration inside ≡ d → cond (f && d) (declaration (drop 3 inside)) (instruction inside) ≡ Ok body → Spells f body bytes
      by_first inside parts g c true true d k = spells-declaration inside bytes body (two (begins inside (codes "xml")) _ d).0 parts k
      by_first inside parts g c true false d k = spells-instruction true inside bytes body d g c parts k
      by_first inside parts g c false d2 d k = spells-instruction false inside bytes body refl g c parts k
by-form-spelled first form.Declaration bytes body e good whole h = spells-doctype first bytes body good h
by-form-spelled first form.Undecided bytes body e good whole h = absurd cc
by-form-spelled first form.Tag bytes body e good whole h =
    let b = from-between (λ i. tag_or_fault (tag i)) kind.BadTag (between (codes "<") (codes ">") bytes) body h in
    let parts = between-is (codes "<") (codes ">") bytes b.0 b.1 in
    let g = good-inside (codes "<") 62 [] b.0 refl (omega arith) (subst IsGood parts good) in
    spells-tag first body b.0 bytes parts (tags-spelled body b.0 g.utf8 g.chars (from-tag (tag b.0) body b.2))

pub lexemes-spelled : LexemesAreSpelled
unfolding judged
lexemes-spelled first body bytes whole h = by_tests (is_utf8 bytes) refl (list_all is_char (chars bytes)) refl h where
  by_tests : (u : Bool) → is_utf8 bytes ≡ u → (c : Bool) → list_all is_char (chars bytes) ≡ c → cond (not u) (Err kind.BadUtf8) (cond (not c) (Err kind.BadChar) (by_form first (form bytes) bytes)) ≡ Ok body → Spells first body bytes
  by_tests true u true c k = by-form-spelled first (form bytes) bytes body refl (record { utf8 = IsUtf8-from_is_utf8 bytes u; chars = c }) whole k
  by_tests true u false c k = absurd cc
  by_tests false u c c2 k = absurd cc
