-- Bytes that say themselves.
use Rattle.std.proofs.Common.{◌≡◌, ℕ, suc, ◌+◌, Bool, true, false, not, ◌&&◌, ◌||◌, List, [], ◌∷◌, ◌++◌, Ok, length, refl, sym, ap, ◌∙◌, arith, cond}
use Rattle.std.specs.List.{list_all, list_any, position_or_len}
use Rattle.std.proofs.lemmas.List.{append-nil}
use Rattle.xml_tokens.specs.Texts.{both, said, first_part, is_ampersand, literal, all_of}
use Rattle.xml_tokens.specs.inside.Spans.{is_changed, is_literal}
use Rattle.xml_tokens.specs.declared.text.Context.{Context}
use Rattle.xml_tokens.proofs.ListLemmas.{none-all, two}
use Rattle.xml_tokens.proofs.TextLemmas.{cut-none, literal-none, parts-none}

-- where no byte passes, none is the first
none-passes : (test : ℕ → Bool) (bytes : List ℕ) → list_all (λ b. not (test b)) bytes ≡ true → position_or_len test bytes ≡ length bytes
none-passes test [] h = refl
none-passes test (b ∷ bs) h = by_test (λ k. none-passes test bs k) (test b) refl h where
  by_test : (list_all (λ b. not (test b)) bs ≡ true → position_or_len test bs ≡ length bs) → (t : Bool) → test b ≡ t → (not t && list_all (λ b. not (test b)) bs) ≡ true →
      cond (not t) (1 + position_or_len test bs) 0 ≡ suc (length bs)
  by_test again true e k = absurd cc
  by_test again false e k = omega (arith, again k)

is_no : (t : Bool) → not t ≡ true → t ≡ false
is_no true h = absurd cc
is_no false h = refl

pub turned : (s t : Bool) → s ≡ not t → t ≡ not s
turned s true h = ap not (sym h)
turned s false h = ap not (sym h)

pub literal-said : (place : Context) (bytes : List ℕ) → is_literal place bytes ≡ true → said place bytes ≡ Ok bytes
unfolding said
literal-said place bytes h =
    let parts = two (not (list_any is_ampersand bytes)) (not (list_any (is_changed place) bytes)) h in
    let unreferred = none-passes is_ampersand bytes (none-all is_ampersand bytes (is_no _ parts.0)) in
    let unchanged = none-passes (is_changed place) bytes (none-all (is_changed place) bytes (is_no _ parts.1)) in
    let none = parts-none bytes (cut-none is_ampersand bytes unreferred) in
    ap (λ l. both (λ front rest. front ++ rest) (Ok (literal place (first_part is_ampersand bytes))) (all_of place l)) none.1
    ∙ (ap (λ l. both (λ front rest. front ++ rest) (Ok (literal place l)) (Ok [])) none.0
    ∙ (ap (λ l. Ok (l ++ [])) (literal-none place bytes unchanged) ∙ ap (λ l. Ok l) (append-nil bytes)))

-- whether some byte passes one of two tests
pub any-either : (p q : ℕ → Bool) (bytes : List ℕ) → list_any (λ b. p b || q b) bytes ≡ (list_any p bytes || list_any q bytes)
any-either p q [] = refl
any-either p q (b ∷ bs) =
    ap (λ t. (p b || q b) || t) (any-either p q bs) ∙ spread (p b) (q b) (list_any p bs) (list_any q bs) where
      spread : (s t u v : Bool) → ((s || t) || (u || v)) ≡ ((s || u) || (t || v))
      spread true t u v = refl
      spread false true true v = refl
      spread false true false v = refl
      spread false false u v = refl

pub neither-test : (p q : ℕ → Bool) (bytes : List ℕ) (r : Bool) → r ≡ list_any (λ b. p b || q b) bytes → not r ≡ (not (list_any p bytes) && not (list_any q bytes))
neither-test p q bytes r h = ap not (h ∙ any-either p q bytes) ∙ turn (list_any p bytes) (list_any q bytes) where
  turn : (s t : Bool) → not (s || t) ≡ (not s && not t)
  turn true t = refl
  turn false t = refl
