-- What is judged, step by step.
use Rattle.std.proofs.Common.{◌≡◌, ℕ, Bool, true, false, not, List, Err, Some, None, IsUtf8, refl, ap, cond}
use Rattle.std.specs.Prelude.{Result, unwrap_or}
use Rattle.stx_base.specs.declared.fault.XmlKind.{XmlKind}
use Rattle.xml_tokens.specs.declared.lexeme.Body.{Body}
use Rattle.xml_tokens.specs.inside.Spans.{char_fault}
use Rattle.std.specs.List.{list_all}
use Rattle.std.specs.Str.{chars, is_utf8}
use Rattle.std.proofs.lemmas.Str.{IsUtf8-from_is_utf8, is_utf8-from_IsUtf8}
use Rattle.stx_base.specs.Character.{is_char}
use Rattle.stx_base.specs.declared.fault.XmlKind.TheVariants as kind
use Rattle.xml_tokens.specs.Shape.{form}
use Rattle.xml_tokens.specs.Judged.{judged, by_form}

-- what comes of two tests
abbrev told : {A : Type 0} → (utf8 chars : Bool) → A → A → A → A
told utf8 chars bad_utf8 bad_char other = cond (not utf8) bad_utf8 (cond (not chars) bad_char other)

told-fault : (u c : Bool) (k : XmlKind) (other : Result Body XmlKind) → told u c (Some kind.BadUtf8) (Some kind.BadChar) None ≡ Some k →
    told u c (Err kind.BadUtf8) (Err kind.BadChar) other ≡ Err k
told-fault false c k other h = ap (λ o. Err (unwrap_or o k)) h
told-fault true false k other h = ap (λ o. Err (unwrap_or o k)) h
told-fault true true k other h = absurd cc

told-none : (u c : Bool) → told u c (Some kind.BadUtf8) (Some kind.BadChar) None ≡ None → (u ≡ true) × (c ≡ true)
told-none false c h = absurd cc
told-none true false h = absurd cc
told-none true true h = (refl, refl)

fails : (b : Bool) → (b ≡ true → ⊥) → b ≡ false
fails true h = absurd (h refl)
fails false h = refl

module _ (bytes : List ℕ) where
  pub no_utf8 : (IsUtf8 bytes → ⊥) → char_fault bytes ≡ Some kind.BadUtf8
  no_utf8 h = rw (fails (is_utf8 bytes) (λ e. h (IsUtf8-from_is_utf8 bytes e))) refl

  pub of_chars : IsUtf8 bytes → (c : Bool) → list_all is_char (chars bytes) ≡ c → char_fault bytes ≡ cond (not c) (Some kind.BadChar) None
  of_chars utf8 c h = rw (is_utf8-from_IsUtf8 bytes utf8, h) refl

  pub sound-utf8 : char_fault bytes ≡ None → IsUtf8 bytes
  sound-utf8 h = IsUtf8-from_is_utf8 bytes (told-none (is_utf8 bytes) (list_all is_char (chars bytes)) h).0

  pub judged-fault : (first : Bool) (k : XmlKind) → char_fault bytes ≡ Some k → judged first bytes ≡ Err k
  unfolding judged
  judged-fault first k h = told-fault (is_utf8 bytes) (list_all is_char (chars bytes)) k (by_form first (form bytes) bytes) h

  pub judged-sound : (first : Bool) → char_fault bytes ≡ None → judged first bytes ≡ by_form first (form bytes) bytes
  unfolding judged
  judged-sound first h = let both = told-none (is_utf8 bytes) (list_all is_char (chars bytes)) h in rw (both.0, both.1) refl

module _ (first : Bool) (bytes : List ℕ) where
  pub judged-not_utf8 : (IsUtf8 bytes → ⊥) → judged first bytes ≡ Err kind.BadUtf8
  unfolding judged
  judged-not_utf8 h = rw (fails (is_utf8 bytes) (λ e. h (IsUtf8-from_is_utf8 bytes e))) refl where
    fails : (b : Bool) → (b ≡ true → ⊥) → b ≡ false
    fails true h = absurd (h refl)
    fails false h = refl

  pub judged-not_chars : IsUtf8 bytes → list_all is_char (chars bytes) ≡ false → judged first bytes ≡ Err kind.BadChar
  unfolding judged
  judged-not_chars utf8 h = rw (is_utf8-from_IsUtf8 bytes utf8, h) refl

  pub judged-by_form : IsUtf8 bytes → list_all is_char (chars bytes) ≡ true → judged first bytes ≡ by_form first (form bytes) bytes
  unfolding judged
  judged-by_form utf8 h = rw (is_utf8-from_IsUtf8 bytes utf8, h) refl
