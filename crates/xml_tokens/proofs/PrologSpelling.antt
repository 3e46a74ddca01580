-- Declarations that are spelled are read so.
use Rattle.std.proofs.Common.{◌≡◌, inl, inr, ℕ, Bool, true, false, not, ◌&&◌, ◌==◌, List, [], ◌∷◌, ◌++◌, Option, Some, None, length, length-append, drop, refl, sym, ap, ◌∙◌, arith, subst, cond, encode_utf8_all}
use Rattle.std.specs.Prelude.{codes, if◌then◌else◌}
use Rattle.std.specs.List.{list_all}
use Rattle.std.specs.Option.{option_and_then, option_map, option_map_or}
use Rattle.std.proofs.lemmas.Bool.{ne_eqb}
use Rattle.std.proofs.lemmas.List.{append-nil}
use Rattle.std.proofs.Math.Seq.{drop-append_seam}
use Rattle.stx_base.specs.Character.{is_space}
use Rattle.xml_tokens.specs.Places.{begins}
use Rattle.xml_tokens.specs.Tags.{after_space, equated, is_name_byte, named, quoted}
use Rattle.xml_tokens.specs.Prolog.{after_word, behind_identifier, behind_literal, behind_space, behind_word, declared, declared_as, is_doctype, is_encoding, is_over, is_standalone, is_version, maybe_declared}
use Rattle.xml_tokens.specs.Spelling.{Attribute, IsSpace, SpellsDeclaration, SpellsDeclared, SpellsDoctype, SpellsEncoding, SpellsIdentifier, SpellsQuoted, SpellsStandalone, SpellsWord}
use Rattle.xml_tokens.proofs.EnclosedLemmas.{begins-of}
use Rattle.xml_tokens.proofs.ListLemmas.{stops, two}
use Rattle.xml_tokens.proofs.TagSpelling.{name-bytes}
use Rattle.xml_tokens.proofs.WrittenSpelling.{after_space-of, equated-of, named-of, quote-no-space, quoted-of, space-no-name, stops-name, stops-space}

-- white space that must come first
pub behind_space-of : (first : ℕ) (space rest : List ℕ) → IsSpace (first ∷ space) → stops is_space rest ≡ true → behind_space ((first ∷ space) ++ rest) ≡ Some rest
behind_space-of first space rest s stop =
    let bytes = (first ∷ space) ++ rest in
    let comes : after_space bytes ≡ rest = after_space-of (first ∷ space) rest s stop in
    let shorter : (length (after_space bytes) == length bytes) ≡ false = ne_eqb (length (after_space bytes)) (length bytes) (λ e. absurd (omega (arith, ap length comes, e, length-append (first ∷ space) rest))) in
    ap (λ t. cond t None (Some (after_space bytes))) shorter ∙ ap (λ l. Some l) comes

-- white space alone
pub space-over : (bytes : List ℕ) → IsSpace bytes → after_space bytes ≡ []
space-over bytes s = ap after_space (sym (append-nil bytes)) ∙ after_space-of bytes [] s refl

pub is-over : (bytes : List ℕ) → IsSpace bytes → is_over bytes ≡ true
is-over bytes s = ap (λ l. length l == 0) (space-over bytes s)

-- no word stands behind white space alone
no-word : (w : ℕ) (ws bytes : List ℕ) → IsSpace bytes → behind_word (w ∷ ws) bytes ≡ None
no-word w ws bytes s = ap (λ l. option_and_then (after_word (w ∷ ws)) (cond (length l == length bytes) None (Some l))) (space-over bytes s) ∙ by_test (0 == length bytes) where
  by_test : (t : Bool) → option_and_then (after_word (w ∷ ws)) (cond t None (Some [])) ≡ None
  by_test true = refl
  by_test false = refl

after_word-of : (word rest : List ℕ) → after_word word (word ++ rest) ≡ Some rest
after_word-of word rest = ap (λ t. cond t (Some (drop (length word) (word ++ rest))) None) (begins-of word rest) ∙ ap (λ l. Some l) (drop-append_seam word rest)

pub behind_word-of : (word bytes more : List ℕ) → stops is_space (word ++ more) ≡ true → SpellsWord word bytes more → behind_word word bytes ≡ Some more
behind_word-of word bytes more stop h =
    ap (behind_word word) h.3 ∙ (ap (option_and_then (after_word word)) (behind_space-of h.0 h.1 (word ++ more) h.2 stop) ∙ after_word-of word more)

-- another word
other-word : (word other bytes more : List ℕ) → stops is_space (other ++ more) ≡ true → begins (other ++ more) word ≡ false → SpellsWord other bytes more → behind_word word bytes ≡ None
other-word word other bytes more stop differs h =
    ap (behind_word word) h.3 ∙ (ap (option_and_then (after_word word)) (behind_space-of h.0 h.1 (other ++ more) h.2 stop) ∙ ap (λ t. cond t (Some (drop (length word) (other ++ more))) None) differs)

pub declared-of : (word bytes more : List ℕ) (a : Attribute) → ((l : List ℕ) → stops is_space (word ++ l) ≡ true) → SpellsDeclared word a bytes more → declared_as word bytes ≡ Some (a.value, more)
unfolding declared_as
declared-of word bytes more a stop h =
    let rest = a.before ++ 61 ∷ (a.behind ++ a.quote ∷ (a.value ++ a.quote ∷ more)) in
    ap (option_and_then equated) (behind_word-of word bytes rest (stop rest) (a.first, a.space, h.0.space, h.1)) ∙ equated-of a.before a.behind a.value more a.quote h.0.before h.0.behind h.0.quote h.0.unquoted

other-declared : (word other bytes more : List ℕ) (a : Attribute) → ((l : List ℕ) → stops is_space (other ++ l) ≡ true) → ((l : List ℕ) → begins (other ++ l) word ≡ false) → SpellsDeclared other a bytes more → declared_as word bytes ≡ None
unfolding declared_as
other-declared word other bytes more a stop differs h =
    let rest = a.before ++ 61 ∷ (a.behind ++ a.quote ∷ (a.value ++ a.quote ∷ more)) in
    ap (option_and_then equated) (other-word word other bytes rest (stop rest) (differs rest) (a.first, a.space, h.0.space, h.1))

none-declared : (w : ℕ) (ws bytes : List ℕ) → IsSpace bytes → declared_as (w ∷ ws) bytes ≡ None
unfolding declared_as
none-declared w ws bytes s = ap (option_and_then equated) (no-word w ws bytes s)

abbrev maybe : Option (List ℕ × List ℕ) → List ℕ → Option (List ℕ) × List ℕ
maybe o bytes = option_map_or (λ found. (Some found.0, found.1)) o (None, bytes)

-- the end of an XML declaration
standalone-of : (bytes : List ℕ) → SpellsStandalone bytes → (is_standalone (maybe_declared (codes "standalone") bytes).0 ≡ true) × (is_over (maybe_declared (codes "standalone") bytes).1 ≡ true)
standalone-of bytes (inl s) =
    let none : maybe_declared (codes "standalone") bytes ≡ (None, bytes) = ap (λ o. maybe o bytes) (none-declared _ _ bytes s) in
    (ap (λ (p : Option (List ℕ) × List ℕ). is_standalone p.0) none, ap (λ (p : Option (List ℕ) × List ℕ). is_over p.1) none ∙ is-over bytes s)
standalone-of bytes (inr h) =
    let some : maybe_declared (codes "standalone") bytes ≡ (Some h.0.value, h.1) = ap (λ o. maybe o bytes) (declared-of (codes "standalone") bytes h.1 h.0 (λ l. refl) h.2) in
    (ap (λ (p : Option (List ℕ) × List ℕ). is_standalone p.0) some ∙ h.3, ap (λ (p : Option (List ℕ) × List ℕ). is_over p.1) some ∙ is-over h.1 h.4)

no-encoding : (bytes : List ℕ) → SpellsStandalone bytes → declared_as (codes "encoding") bytes ≡ None
no-encoding bytes (inl s) = none-declared _ _ bytes s
no-encoding bytes (inr h) = other-declared (codes "encoding") (codes "standalone") bytes h.1 h.0 (λ l. refl) (λ l. refl) h.2

encoding-of : (bytes : List ℕ) → SpellsEncoding bytes →
    (option_map_or is_encoding (maybe_declared (codes "encoding") bytes).0 true ≡ true) × SpellsStandalone (maybe_declared (codes "encoding") bytes).1
encoding-of bytes (inl h) =
    let none : maybe_declared (codes "encoding") bytes ≡ (None, bytes) = ap (λ o. maybe o bytes) (no-encoding bytes h) in
    (ap (λ (p : Option (List ℕ) × List ℕ). option_map_or is_encoding p.0 true) none, subst (λ (p : Option (List ℕ) × List ℕ). SpellsStandalone p.1) (sym none) h)
encoding-of bytes (inr h) =
    let some : maybe_declared (codes "encoding") bytes ≡ (Some h.0.value, h.1) = ap (λ o. maybe o bytes) (declared-of (codes "encoding") bytes h.1 h.0 (λ l. refl) h.2) in
    (ap (λ (p : Option (List ℕ) × List ℕ). option_map_or is_encoding p.0 true) some ∙ h.3, subst (λ (p : Option (List ℕ) × List ℕ). SpellsStandalone p.1) (sym some) h.4)

-- an XML declaration tells its version and its encoding
pub declaration-of : (bytes : List ℕ) → SpellsDeclaration bytes → (told : List ℕ × Option (List ℕ)) × (declared bytes ≡ Some told) × (is_version told.0 ≡ true) × (option_map_or is_encoding told.1 true ≡ true)
unfolding declared
declaration-of bytes h =
    let v = declared-of (codes "version") bytes h.1 h.0 (λ l. refl) h.2 in
    let e = encoding-of h.1 h.4 in
    let encoding = maybe_declared (codes "encoding") h.1 in
    let s = standalone-of encoding.1 e.1 in
    let standalone = maybe_declared (codes "standalone") encoding.1 in
    let ends : (is_standalone standalone.0 && is_over standalone.1) ≡ true = rw (s.0, s.1) refl in (
      (h.0.value, encoding.0),
      ap (option_and_then (λ version.
          let encoding = maybe_declared (codes "encoding") version.1 in
          let standalone = maybe_declared (codes "standalone") encoding.1 in
          if is_standalone standalone.0 && is_over standalone.1 then Some (version.0, encoding.0) else None)) v
          ∙ ap (λ t. if t then Some (h.0.value, encoding.0) else None) ends,
      h.3,
      e.0,
    )

-- literals and identifiers
literal-of : (bytes more : List ℕ) → SpellsQuoted bytes more → behind_literal bytes ≡ Some more
literal-of bytes more (first, space, quote, value, s, q, unquoted, whole) =
    ap behind_literal whole ∙ (ap (option_and_then (λ rest. option_map (λ found. found.1) (quoted rest))) (behind_space-of first space (quote ∷ (value ++ quote ∷ more)) s (quote-no-space quote q))
    ∙ ap (option_map (λ found. found.1)) (quoted-of quote value more q unquoted))

pub identifier-of : (bytes : List ℕ) → SpellsIdentifier bytes → (rest : List ℕ) × (behind_identifier bytes ≡ Some rest) × (is_over rest ≡ true)
unfolding behind_identifier
identifier-of bytes (inl s) = (
  bytes,
  ap (λ o. option_map_or behind_literal o (option_map_or (λ rest. option_and_then behind_literal (behind_literal rest)) (behind_word (codes "PUBLIC") bytes) (Some bytes))) (no-word 83 (codes "YSTEM") bytes s)
      ∙ ap (λ o. option_map_or (λ rest. option_and_then behind_literal (behind_literal rest)) o (Some bytes)) (no-word 80 (codes "UBLIC") bytes s),
  is-over bytes s,
)
identifier-of bytes (inr (inl (more, rest, w, q, s))) = (
  rest,
  ap (λ o. option_map_or behind_literal o (option_map_or (λ rest. option_and_then behind_literal (behind_literal rest)) (behind_word (codes "PUBLIC") bytes) (Some bytes))) (behind_word-of (codes "SYSTEM") bytes more refl w)
      ∙ literal-of more rest q,
  is-over rest s,
)
identifier-of bytes (inr (inr (more, middle, rest, w, p, q, s))) = (
  rest,
  ap (λ o. option_map_or behind_literal o (option_map_or (λ rest. option_and_then behind_literal (behind_literal rest)) (behind_word (codes "PUBLIC") bytes) (Some bytes))) (other-word (codes "SYSTEM") (codes "PUBLIC") bytes more refl refl w)
      ∙ (ap (λ o. option_map_or (λ rest. option_and_then behind_literal (behind_literal rest)) o (Some bytes)) (behind_word-of (codes "PUBLIC") bytes more refl w)
      ∙ (ap (option_and_then behind_literal) (literal-of more middle p) ∙ literal-of middle rest q)),
  is-over rest s,
)

-- no name goes on where an identifier begins
identifier-stops : (bytes : List ℕ) → SpellsIdentifier bytes → stops is_name_byte bytes ≡ true
identifier-stops bytes (inl s) = ap (stops is_name_byte) (sym (append-nil bytes)) ∙ stops-space is_name_byte bytes [] s space-no-name refl
identifier-stops bytes (inr (inl (more, rest, w, q, s))) = ap (stops is_name_byte) w.3 ∙ ap not (space-no-name w.0 (two (is_space w.0) (list_all is_space w.1) w.2).0)
identifier-stops bytes (inr (inr (more, middle, rest, w, p, q, s))) = ap (stops is_name_byte) w.3 ∙ ap not (space-no-name w.0 (two (is_space w.0) (list_all is_space w.1) w.2).0)

pub doctype-of : (bytes : List ℕ) → SpellsDoctype bytes → is_doctype bytes ≡ true
unfolding is_doctype
doctype-of bytes (name, more, is, w, i) =
    let is_bytes = name-bytes name is in
    let n = named-of (encode_utf8_all name) more is_bytes (identifier-stops more i) in
    let o = identifier-of more i in
    let stop : stops is_space (encode_utf8_all name ++ more) ≡ true = stops-name (encode_utf8_all name) more is_bytes in
    ap (λ x. option_map_or is_over (option_and_then (λ found. behind_identifier found.1) (option_and_then named x)) false) (ap behind_space w.3 ∙ behind_space-of w.0 w.1 (encode_utf8_all name ++ more) w.2 stop)
    ∙ (ap (λ x. option_map_or is_over (option_and_then (λ found. behind_identifier found.1) x) false) n ∙ (ap (λ x. option_map_or is_over x false) o.1 ∙ o.2))
