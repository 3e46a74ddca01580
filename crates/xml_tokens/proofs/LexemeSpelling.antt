-- Lexemes that are spelled are read so.
use Rattle.std.proofs.Common.{◌≡◌, ℕ, ◌-◌, inl, inr, Bool, true, false, not, ◌&&◌, ◌||◌, ◌==◌, List, [], ◌∷◌, ◌++◌, Ok, Err, length, length-append, take, drop, map, refl, sym, ap, ◌∙◌, arith, encode_utf8_all}
use Rattle.std.specs.Prelude.{bytes_eq, codes, slice_get, if◌then◌else◌}
use Rattle.std.specs.List.{list_all, list_any, position_or_len}
use Rattle.std.specs.Char.{to_ascii_lowercase}
use Rattle.std.specs.Option.{option_map_or}
use Rattle.std.specs.Result.{result_map_both}
use Rattle.std.specs.Str.{chars}
use Rattle.std.proofs.lemmas.Bool.{ne_eqb}
use Rattle.stx_base.specs.Character.{is_char, is_name, is_name_char, is_name_start, is_ncname, is_ncname_char, is_space}
use Rattle.stx_base.specs.declared.fault.XmlKind.TheVariants as kind
use Rattle.xml_tokens.specs.Places.{begins}
use Rattle.xml_tokens.specs.Shape.{form, is_less}
use Rattle.xml_tokens.specs.Texts.{lines, said}
use Rattle.xml_tokens.specs.Tags.{after_space, is_name_byte, tag}
use Rattle.xml_tokens.specs.Prolog.{is_doctype, is_encoding, is_version}
use Rattle.xml_tokens.specs.Judged.{between, by_form, cdata, comment, declaration, holds, instruction, instruction_or_declaration, is_declaration, is_target, kind_of, tag_or_fault, text}
use Rattle.xml_tokens.specs.Spelling.{SpellsBehind, SpellsDeclaration, SpellsDoctype, SpellsLiteral, itself, return_and_feed, return, SpellsLines, SpellsTag, Spells, SpelledLexemesAreRead, enclosed}
use Rattle.xml_tokens.specs.declared.form.Form.TheVariants as form
use Rattle.xml_tokens.specs.declared.lexeme.Body.{Body}
use Rattle.xml_tokens.specs.declared.lexeme.Body.TheVariants.{Chars, CData, Start, End, Comment, Pi, Doctype, Declaration}
use Rattle.xml_tokens.specs.declared.text.Context.TheVariants.{Content}
use Rattle.xml_tokens.proofs.EnclosedLemmas.{between-of}
use Rattle.xml_tokens.proofs.JudgedLemmas.{judged-by_form}
use Rattle.xml_tokens.proofs.LineSpelling.{spelled-lines}
use Rattle.xml_tokens.proofs.ListLemmas.{prefix-append, stops, two}
use Rattle.xml_tokens.proofs.PrologSpelling.{declaration-of, doctype-of}
use Rattle.xml_tokens.proofs.WrittenSpelling.{after_space-of, name-begins, space-no-name}
use Rattle.std.proofs.Math.Seq.{take-append_seam, drop-append_seam}
use Rattle.xml_tokens.proofs.TagSpelling.{name-bytes, name-chars, text-again, text-chars, spelled-tags}
use Rattle.xml_tokens.proofs.TextSpelling.{spelled-said}

-- the characters of a text without references are Chars
pub lines-chars : (text bytes : List ℕ) → SpellsLines text bytes → list_all is_char text ≡ true
lines-chars [] bytes h = refl
lines-chars (c ∷ text) bytes h = both_true (is_char c) (list_all is_char text) (one c h.0 h.1 h.2) (lines-chars text h.1 h.4) where
  both_true : (s t : Bool) → s ≡ true → t ≡ true → (s && t) ≡ true
  both_true s t a b = rw (a, b) refl

  one : (c : ℕ) (front more : List ℕ) → SpellsLiteral c front more → is_char c ≡ true
  one _ _ _ (itself c more char ne) = char
  one _ _ _ (return_and_feed more) = refl
  one _ _ _ (return more other) = refl

pub lines-again : (text bytes : List ℕ) → SpellsLines text bytes → chars (lines bytes) ≡ text
lines-again text bytes h = ap chars (spelled-lines text bytes h) ∙ text-again text (lines-chars text bytes h)

-- bytes that begin with no `<` are text
pub text-form : (b : ℕ) (bs : List ℕ) → (b == 60) ≡ false → form (b ∷ bs) ≡ form.Text
text-form b bs h = rw h refl

read-text : (first : Bool) (t : List ℕ) (blank : Bool) (bytes : List ℕ) → Spells first (Chars t blank) bytes → by_form first (form bytes) bytes ≡ Ok (Chars t blank)
read-text first t blank [] h = absurd (omega (arith, h.1))
read-text first t blank (b ∷ bs) h =
    let bytes = b ∷ bs in
    ap (λ f. by_form first f bytes) (text-form b bs (none_less (is_less b) (list_any is_less bs) h.2))
    ∙ (ap (λ x. if x then Err kind.CdataEnd else result_map_both (λ text. Chars (chars text) (list_all is_space bytes)) kind_of (said Content bytes)) h.3
    ∙ (ap (result_map_both (λ text. Chars (chars text) (list_all is_space bytes)) kind_of) (spelled-said Content t bytes h.0)
    ∙ (λ i. Ok (Chars (text-again t (text-chars Content t bytes h.0) i) (h.4 i))))) where
      none_less : (x y : Bool) → (x || y) ≡ false → x ≡ false
      none_less true y e = absurd cc
      none_less false y e = refl

read-cdata : (first : Bool) (t inside : List ℕ) → SpellsLines t inside → let bytes = enclosed (codes "<![CDATA[") (codes "]]>") inside in by_form first (form bytes) bytes ≡ Ok (CData t)
read-cdata first t inside h =
    ap (λ o. option_map_or cdata o (Err kind.BadMarkup)) (between-of (codes "<![CDATA[") (codes "]]>") inside) ∙ ap (λ l. Ok (CData l)) (lines-again t inside h)

read-comment : (first : Bool) (t inside : List ℕ) → SpellsLines t inside → holds (codes "--") inside ≡ false → begins (drop (length inside - 1) inside) (codes "-") ≡ false →
    let bytes = enclosed (codes "<!--") (codes "-->") inside in by_form first (form bytes) bytes ≡ Ok (Comment t)
read-comment first t inside h two_dashes dash =
    ap (λ o. option_map_or comment o (Err kind.BadMarkup)) (between-of (codes "<!--") (codes "-->") inside)
    ∙ (ap (λ x. if x then Err kind.BadComment else Ok (Comment (chars (lines inside)))) neither ∙ ap (λ l. Ok (Comment l)) (lines-again t inside h)) where
      neither : (holds (codes "--") inside || begins (drop (length inside - 1) inside) (codes "-")) ≡ false
      neither = rw (two_dashes, dash) refl

-- tags
pub tag-form : (c : ℕ) (cs : List ℕ) → (c == 33) ≡ false → (c == 63) ≡ false → form (60 ∷ c ∷ cs) ≡ form.Tag
tag-form c cs mark question = rw (mark, question) refl

-- what a tag begins with behind its `<`
pub tag-begins : (body : Body) (inside : List ℕ) → SpellsTag body inside → (c : ℕ) × (cs : List ℕ) × (inside ≡ c ∷ cs) × ((c == 33) ≡ false) × ((c == 63) ≡ false)
tag-begins (Start name attrs empty) inside (rest, is, whole, more) =
    let n = name-begins (encode_utf8_all name) (name-bytes name is) in
    let other : (k : ℕ) → is_name_byte k ≡ false → (n.0 == k) ≡ false = λ k differs. ne_eqb n.0 k (λ e. let clash = sym n.3 ∙ (ap is_name_byte e ∙ differs) in absurd cc) in
    (n.0, n.1 ++ rest, whole ∙ ap (λ l. l ++ rest) n.2, other 33 refl, other 63 refl)
tag-begins (End name) inside (space, is, s, whole) = (47, encode_utf8_all name ++ space, whole, refl, refl)
tag-begins (Chars text blank) inside h = absurd h
tag-begins (CData text) inside h = absurd h
tag-begins (Comment text) inside h = absurd h
tag-begins (Pi target text) inside h = absurd h
tag-begins Doctype inside h = absurd h
tag-begins Declaration inside h = absurd h

read-tag : (first : Bool) (body : Body) (inside : List ℕ) → SpellsTag body inside → let bytes = enclosed (codes "<") (codes ">") inside in by_form first (form bytes) bytes ≡ Ok body
read-tag first body inside h =
    let bytes = enclosed (codes "<") (codes ">") inside in
    let b = tag-begins body inside h in
    let f : form bytes ≡ form.Tag = ap (λ l. form (60 ∷ (l ++ 62 ∷ []))) b.2 ∙ tag-form b.0 (b.1 ++ 62 ∷ []) b.3 b.4 in
    ap (λ x. by_form first x bytes) f
    ∙ (ap (λ o. option_map_or (λ i. tag_or_fault (tag i)) o (Err kind.BadTag)) (between-of (codes "<") (codes ">") inside) ∙ ap tag_or_fault (spelled-tags body inside h))

-- processing instructions
ncname-name : (name : List ℕ) → is_ncname name ≡ true → is_name name ≡ true
ncname-name name h =
    let parts = two (option_map_or is_name_start (slice_get name 0) false) (list_all is_ncname_char name) h in
    both_true (option_map_or is_name_start (slice_get name 0) false) (list_all is_name_char name) parts.0 (each name parts.1) where
      both_true : (s t : Bool) → s ≡ true → t ≡ true → (s && t) ≡ true
      both_true s t a b = rw (a, b) refl

      each : (cs : List ℕ) → list_all is_ncname_char cs ≡ true → list_all is_name_char cs ≡ true
      each [] k = refl
      each (c ∷ cs) k =
          let parts = two (is_ncname_char c) (list_all is_ncname_char cs) k in
          both_true (is_name_char c) (list_all is_name_char cs) (two (is_name_char c) (not (c == 0x3A)) parts.0).0 (each cs parts.1)

-- a name's bytes hold no white space
no-space : (bytes : List ℕ) → list_all is_name_byte bytes ≡ true → list_all (λ b. not (is_space b)) bytes ≡ true
no-space [] h = refl
no-space (b ∷ bs) h =
    let parts = two (is_name_byte b) (list_all is_name_byte bs) h in
    both_true (not (is_space b)) (list_all (λ x. not (is_space x)) bs) (by_space (is_space b) refl parts.0) (no-space bs parts.1) where
      both_true : (s t : Bool) → s ≡ true → t ≡ true → (s && t) ≡ true
      both_true s t a b = rw (a, b) refl

      by_space : (s : Bool) → is_space b ≡ s → is_name_byte b ≡ true → not s ≡ true
      by_space true e n = let clash = sym n ∙ space-no-name b e in absurd cc
      by_space false e n = refl

behind-stops : (behind inside : List ℕ) → SpellsBehind behind inside → stops (λ b. not (is_space b)) behind ≡ true
behind-stops behind inside (inl (e, i)) = ap (stops (λ b. not (is_space b))) e
behind-stops behind inside (inr (first, space, s, whole, other)) = ap (stops (λ b. not (is_space b))) whole ∙ ap (λ t. not (not t)) (two (is_space first) (list_all is_space space) s).0

behind-after : (behind inside : List ℕ) → SpellsBehind behind inside → after_space behind ≡ inside
behind-after behind inside (inl (e, i)) = ap after_space e ∙ sym i
behind-after behind inside (inr (first, space, s, whole, other)) = ap after_space whole ∙ after_space-of (first ∷ space) inside s (stopped inside other) where
  stopped : (l : List ℕ) → option_map_or is_space (slice_get l 0) false ≡ false → stops is_space l ≡ true
  stopped [] k = refl
  stopped (b ∷ bs) k = ap not k

read-instruction : (first : Bool) (target text behind inside : List ℕ) → is_target target ≡ true → SpellsBehind behind inside →
    SpellsLines text inside → (first && is_declaration (encode_utf8_all target ++ behind)) ≡ false →
    let bytes = enclosed (codes "<?") (codes "?>") (encode_utf8_all target ++ behind) in by_form first (form bytes) bytes ≡ Ok (Pi target text)
read-instruction first target text behind inside good b lines_ declares =
    let t = encode_utf8_all target in
    let all = t ++ behind in
    let is = (two (is_ncname target) (not (bytes_eq (map to_ascii_lowercase t) (codes "xml"))) good).0 in
    let name = ncname-name target is in
    let again : chars t ≡ target = text-again target (name-chars target name) in
    let len : position_or_len is_space all ≡ length t = prefix-append (λ b. not (is_space b)) t behind (no-space t (name-bytes target name).bytes) (behind-stops behind inside b) in
    let front : take (position_or_len is_space all) all ≡ t = ap (λ n. take n all) len ∙ take-append_seam t behind in
    let rest : drop (position_or_len is_space all) all ≡ behind = ap (λ n. drop n all) len ∙ drop-append_seam t behind in
    ap (λ o. option_map_or (instruction_or_declaration first) o (Err kind.BadPi)) (between-of (codes "<?") (codes "?>") all)
    ∙ (ap (λ x. if x then declaration (drop 3 all) else instruction all) declares
    ∙ (ap (λ l. if is_target (chars l) then Ok (Pi (chars l) (chars (lines (after_space (drop (position_or_len is_space all) all))))) else Err kind.BadPi) front
    ∙ (ap (λ x. if x then Ok (Pi (chars t) (chars (lines (after_space (drop (position_or_len is_space all) all))))) else Err kind.BadPi) (ap is_target again ∙ good)
    ∙ (λ i. Ok (Pi (again i) ((ap (λ l. chars (lines (after_space l))) rest ∙ (ap (λ l. chars (lines l)) (behind-after behind inside b) ∙ lines-again text inside lines_)) i))))))

-- document type declarations
last-byte : (front : List ℕ) (b : ℕ) → drop (length (front ++ b ∷ []) - 1) (front ++ b ∷ []) ≡ b ∷ []
last-byte front b =
    let n : length (front ++ b ∷ []) - 1 ≡ length front = omega (arith, length-append front (b ∷ [])) in
    ap (λ k. drop k (front ++ b ∷ [])) n ∙ drop-append_seam front (b ∷ [])

read-doctype : (first : Bool) (inside : List ℕ) → SpellsDoctype inside → let bytes = enclosed (codes "<!DOCTYPE") (codes ">") inside in by_form first (form bytes) bytes ≡ Ok Doctype
read-doctype first inside h =
    let bytes = enclosed (codes "<!DOCTYPE") (codes ">") inside in
    let end : drop (length bytes - 1) bytes ≡ 62 ∷ [] = last-byte (codes "<!DOCTYPE" ++ inside) 62 in
    let no_subset : (begins bytes (codes "<!DOCTYPE") && begins (drop (length bytes - 1) bytes) (codes "[")) ≡ false = ap (λ l. begins bytes (codes "<!DOCTYPE") && begins l (codes "[")) end in
    ap (λ x. if x then Err kind.InternalSubset else if option_map_or is_doctype (between (codes "<!DOCTYPE") (codes ">") bytes) false then Ok Doctype else Err kind.BadMarkup) no_subset
    ∙ (ap (λ o. if option_map_or is_doctype o false then Ok Doctype else Err kind.BadMarkup) (between-of (codes "<!DOCTYPE") (codes ">") inside)
    ∙ ap (λ x. if x then Ok Doctype else Err kind.BadMarkup) (doctype-of inside h))

-- XML declarations
read-declaration : (inside : List ℕ) → SpellsDeclaration inside → let bytes = enclosed (codes "<?xml") (codes "?>") inside in by_form true (form bytes) bytes ≡ Ok Declaration
read-declaration inside h =
    let d = declaration-of inside h in
    let begun : is_declaration (codes "xml" ++ inside) ≡ true = ap (λ l. option_map_or (λ b. is_space b || b == 63) (slice_get l 0) true) h.2.1 ∙ ap (λ t. t || h.0.first == 63) (two (is_space h.0.first) (list_all is_space h.0.space) h.2.0.space).0 in
    ap (λ o. option_map_or (instruction_or_declaration true) o (Err kind.BadPi)) (between-of (codes "<?") (codes "?>") (codes "xml" ++ inside))
    ∙ (ap (λ x. if x then declaration inside else instruction (codes "xml" ++ inside)) begun
    ∙ (ap (λ o. option_map_or (λ told. if not (is_version told.0) then Err kind.BadVersion else if not (option_map_or is_encoding told.1 true) then Err kind.Encoding else Ok Declaration) o (Err kind.BadDeclaration)) d.1
    ∙ (ap (λ x. if not x then Err kind.BadVersion else if not (option_map_or is_encoding d.0.1 true) then Err kind.Encoding else Ok Declaration) d.2
    ∙ ap (λ x. if not x then Err kind.Encoding else Ok Declaration) d.3)))

-- all of them
by-form-read : (first : Bool) (body : Body) (bytes : List ℕ) → Spells first body bytes → by_form first (form bytes) bytes ≡ Ok body
by-form-read first (Chars t blank) bytes h = read-text first t blank bytes h
by-form-read first (CData t) bytes h = ap (λ l. by_form first (form l) l) h.3 ∙ read-cdata first t h.0 h.1
by-form-read first (Comment t) bytes h = ap (λ l. by_form first (form l) l) h.4 ∙ read-comment first t h.0 h.1 h.2 h.3
by-form-read first (Pi target t) bytes (behind, inside, good, b, l, closer, plain, e) = ap (λ x. by_form first (form x) x) e ∙ read-instruction first target t behind inside good b l plain
by-form-read first Doctype bytes h = ap (λ l. by_form first (form l) l) h.2 ∙ read-doctype first h.0 h.1
by-form-read first Declaration bytes h = ap (λ f. by_form f (form bytes) bytes) h.0 ∙ (ap (λ l. by_form true (form l) l) h.1.2 ∙ read-declaration h.1.0 h.1.1)
by-form-read first (Start name attrs empty) bytes h = ap (λ l. by_form first (form l) l) h.2 ∙ read-tag first (Start name attrs empty) h.0 h.1
by-form-read first (End name) bytes h = ap (λ l. by_form first (form l) l) h.2 ∙ read-tag first (End name) h.0 h.1

pub lexemes-read : SpelledLexemesAreRead
lexemes-read first body bytes utf8 all h = judged-by_form first bytes utf8 all ∙ by-form-read first body bytes h
