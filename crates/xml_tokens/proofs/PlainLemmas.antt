-- Bytes of ASCII, and texts that say themselves.
use Rattle.std.proofs.Common.{◌≡◌, ℕ, zero, suc, ◌+◌, ◌<◌, ◌≤◌, length, get_or, Bool, true, false, not, ◌&&◌, ◌==◌, nat_lt, List, [], ◌∷◌, Some, None, Ok, Err, is_some, refl, ap, ◌∙◌, arith, cond, chars, IsAscii, IsUtf8}
use Rattle.std.specs.List.{list_all, list_any}
use Rattle.std.specs.Option.{option_map_or}
use Rattle.std.specs.Prelude.{slice_get}
use Rattle.std.specs.Result.{result_map_both}
use Rattle.std.proofs.lemmas.Bool.Decides.{nat_tests}
use Rattle.std.proofs.lemmas.Str.{chars-IsAscii, IsUtf8-from_ascii}
use Rattle.stx_base.specs.Character.{is_char, is_name, is_name_char, is_name_start, is_space}
use Rattle.stx_base.specs.declared.fault.XmlKind.TheVariants as kind
use Rattle.xml_tokens.specs.inside.PlainTags.{is_low_char}
use Rattle.xml_tokens.specs.Places.{begins, first_word}
use Rattle.xml_tokens.specs.Shape.{form}
use Rattle.xml_tokens.specs.Texts.{said, is_ampersand}
use Rattle.xml_tokens.specs.Judged.{by_form, judged, kind_of}
use Rattle.xml_tokens.specs.inside.Spans.{chars_said, is_changed, is_easy, is_easy_byte, is_literal, is_plain, is_plain_byte}
use Rattle.xml_tokens.specs.declared.form.Form.TheVariants as form
use Rattle.xml_tokens.specs.declared.lexeme.Body.TheVariants.{Chars}
use Rattle.xml_tokens.specs.declared.text.Context.TheVariants.{Content}
use Rattle.xml_tokens.proofs.ListLemmas.{all-none, two}
use Rattle.xml_tokens.proofs.LiteralLemmas.{literal-said}
use Rattle.xml_tokens.proofs.JudgedLemmas.{judged-by_form}

pub less : {n m : ℕ} → nat_lt n m ≡ true → n < m
less {n} {m} h = grind (arith, nat_tests)

pub all-both : (p q : ℕ → Bool) (bytes : List ℕ) → list_all (λ b. p b && q b) bytes ≡ true → (list_all p bytes ≡ true) × (list_all q bytes ≡ true)
all-both p q [] h = (refl, refl)
all-both p q (b ∷ bs) h =
    let outer = two (p b && q b) (list_all (λ b. p b && q b) bs) h in
    let here = two (p b) (q b) outer.0 in
    let more = all-both p q bs outer.1 in
    (ap (λ t. t && list_all p bs) here.0 ∙ more.0, ap (λ t. t && list_all q bs) here.1 ∙ more.1)

are_ascii : (bytes : List ℕ) → list_all (λ b. nat_lt b 128) bytes ≡ true → IsAscii bytes
are_ascii [] h i = omega arith
are_ascii (b ∷ bs) h zero = less (two (nat_lt b 128) (list_all (λ b. nat_lt b 128) bs) h).0
are_ascii (b ∷ bs) h (suc i) = are_ascii bs (two (nat_lt b 128) (list_all (λ b. nat_lt b 128) bs) h).1 i

-- Chars of ASCII are UTF-8, and the characters that they spell
module _ (bytes : List ℕ) (low : list_all is_low_char bytes ≡ true) where
  pub low-utf8 : IsUtf8 bytes
  low-utf8 = IsUtf8-from_ascii bytes (are_ascii bytes (all-both (λ b. nat_lt b 128) is_char bytes low).0)

  pub low-chars : list_all is_char (chars bytes) ≡ true
  low-chars =
      let parts = all-both (λ b. nat_lt b 128) is_char bytes low in
      ap (list_all is_char) (chars-IsAscii bytes (are_ascii bytes parts.0)) ∙ parts.1

-- a name of ASCII, by its first byte
pub ascii-name : (b : ℕ) (bs : List ℕ) → list_all (λ x. nat_lt x 128 && is_name_char x) (b ∷ bs) ≡ true → is_name (chars (b ∷ bs)) ≡ is_name_start b
ascii-name b bs low =
    let parts = all-both (λ x. nat_lt x 128) is_name_char (b ∷ bs) low in
    ap is_name (chars-IsAscii (b ∷ bs) (are_ascii (b ∷ bs) parts.0)) ∙ (ap (λ t. is_name_start b && t) parts.1 ∙ with_true (is_name_start b)) where
      with_true : (t : Bool) → (t && true) ≡ t
      with_true true = refl
      with_true false = refl

pub ascii-name_of : (bytes : List ℕ) → 1 ≤ length bytes → list_all (λ x. nat_lt x 128 && is_name_char x) bytes ≡ true → is_name (chars bytes) ≡ is_name_start (get_or bytes 0 0)
ascii-name_of [] some low = absurd (omega (arith, some))
ascii-name_of (b ∷ bs) some low = ascii-name b bs low

is_no : (t : Bool) → not t ≡ true → t ≡ false
is_no true h = absurd cc
is_no false h = refl

no-word : (word : List ℕ) (at : ℕ) (bytes : List ℕ) → list_all (λ b. not (b == 93)) bytes ≡ true → first_word (93 ∷ word) at bytes ≡ None
no-word word at [] h = refl
no-word word at (b ∷ bs) h =
    let parts = two (not (b == 93)) (list_all (λ b. not (b == 93)) bs) h in
    ap (λ t. cond (t && begins bs word) (Some at) (first_word (93 ∷ word) (at + 1) bs)) (is_no (b == 93) parts.0) ∙ no-word word (at + 1) bs parts.1

form-text : (b : ℕ) (bs : List ℕ) → (b == 60) ≡ false → form (b ∷ bs) ≡ form.Text
form-text b bs h = rw h refl

abbrev pub no_less : ℕ → Bool
no_less b = not (b == 60)

abbrev pub no_reference : ℕ → Bool
no_reference b = not (b == 38)

abbrev pub no_bracket : ℕ → Bool
no_bracket b = not (b == 93)

abbrev pub no_return : ℕ → Bool
no_return b = not (b == 13)

-- easy texts, with references or without
module _ (bytes : List ℕ) (easy : is_easy bytes ≡ true) where
  easy-parts : (option_map_or no_less (slice_get bytes 0) false ≡ true) × (list_all is_easy_byte bytes ≡ true)
  easy-parts = two (option_map_or no_less (slice_get bytes 0) false) (list_all is_easy_byte bytes) easy

  easy-lows : (list_all is_low_char bytes ≡ true) × (list_all (λ b. no_bracket b && no_return b) bytes ≡ true)
  easy-lows = all-both is_low_char (λ b. no_bracket b && no_return b) bytes easy-parts.1

  easy-last : (list_all no_bracket bytes ≡ true) × (list_all no_return bytes ≡ true)
  easy-last = all-both no_bracket no_return bytes easy-lows.1

  pub easy-utf8 : IsUtf8 bytes
  easy-utf8 = low-utf8 bytes easy-lows.0

  pub easy-unbroken : list_all no_return bytes ≡ true
  easy-unbroken = easy-last.1

  form-easy : form bytes ≡ form.Text
  form-easy = of_first bytes easy-parts.0 where
    of_first : (bs : List ℕ) → option_map_or no_less (slice_get bs 0) false ≡ true → form bs ≡ form.Text
    of_first [] h = absurd cc
    of_first (b ∷ bs) h = form-text b bs (is_no (b == 60) h)

  text-easy : (first : Bool) → by_form first form.Text bytes ≡ chars_said bytes
  text-easy first = ap (λ t. cond t (Err kind.CdataEnd) (chars_said bytes)) (ap is_some (no-word (93 ∷ 62 ∷ []) 0 bytes easy-last.0))

  pub easy-judged : (first : Bool) → judged first bytes ≡ chars_said bytes
  easy-judged first =
      judged-by_form first bytes easy-utf8 (low-chars bytes easy-lows.0) ∙ (ap (λ f. by_form first f bytes) form-easy ∙ text-easy first)

  pub literal-judged : list_all no_reference bytes ≡ true → (first : Bool) → judged first bytes ≡ Ok (Chars (chars bytes) (list_all is_space bytes))
  literal-judged calm first =
      easy-judged first ∙ ap (result_map_both (λ text. Chars (chars text) (list_all is_space bytes)) kind_of) (literal-said Content bytes itself) where
        itself : is_literal Content bytes ≡ true
        itself =
            ap (λ t. not t && not (list_any (is_changed Content) bytes)) (all-none is_ampersand bytes calm) ∙ ap not (all-none (is_changed Content) bytes easy-last.1)

module _ (bytes : List ℕ) (plain : is_plain bytes ≡ true) where
  all : list_all is_plain_byte bytes ≡ true
  all = (two _ (list_all is_plain_byte bytes) plain).1

  lows : (list_all is_low_char bytes ≡ true) × (list_all (λ b. no_less b && (no_reference b && (no_bracket b && no_return b))) bytes ≡ true)
  lows = all-both is_low_char (λ b. no_less b && (no_reference b && (no_bracket b && no_return b))) bytes all

  pub others : (list_all no_less bytes ≡ true) × (list_all (λ b. no_reference b && (no_bracket b && no_return b)) bytes ≡ true)
  others = all-both no_less (λ b. no_reference b && (no_bracket b && no_return b)) bytes lows.1

  later : (list_all no_reference bytes ≡ true) × (list_all (λ b. no_bracket b && no_return b) bytes ≡ true)
  later = all-both no_reference (λ b. no_bracket b && no_return b) bytes others.1

  last : (list_all no_bracket bytes ≡ true) × (list_all no_return bytes ≡ true)
  last = all-both no_bracket no_return bytes later.1

  pub plain-utf8 : IsUtf8 bytes
  plain-utf8 = low-utf8 bytes lows.0

  literal : is_literal Content bytes ≡ true
  literal =
      ap (λ t. not t && not (list_any (is_changed Content) bytes)) (all-none is_ampersand bytes later.0) ∙ ap not (all-none (is_changed Content) bytes last.1)

  form-plain : form bytes ≡ form.Text
  form-plain = of_first bytes plain others.0 where
    of_first : (bs : List ℕ) → is_plain bs ≡ true → list_all no_less bs ≡ true → form bs ≡ form.Text
    of_first [] h n = absurd cc
    of_first (b ∷ bs) h n = form-text b bs (is_no (b == 60) (two (no_less b) (list_all no_less bs) n).0)

  text-plain : (first : Bool) → by_form first form.Text bytes ≡ Ok (Chars (chars bytes) (list_all is_space bytes))
  text-plain first =
      ap (λ t. cond t (Err kind.CdataEnd) (result_map_both (λ text. Chars (chars text) (list_all is_space bytes)) kind_of (said Content bytes)))
      (ap is_some (no-word (93 ∷ 62 ∷ []) 0 bytes last.0))
      ∙ ap (result_map_both (λ text. Chars (chars text) (list_all is_space bytes)) kind_of) (literal-said Content bytes literal)

  pub plain-judged : (first : Bool) → judged first bytes ≡ Ok (Chars (chars bytes) (list_all is_space bytes))
  plain-judged first =
      judged-by_form first bytes plain-utf8 (low-chars bytes lows.0) ∙ (ap (λ f. by_form first f bytes) form-plain ∙ text-plain first)
