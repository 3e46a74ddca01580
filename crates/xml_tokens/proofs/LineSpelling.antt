-- Texts without references are read exactly where they are spelled so.
use Rattle.std.proofs.Common.{◌≡◌, ◌≢◌, ℕ, zero, suc, ◌<◌, Bool, true, false, ◌==◌, List, [], ◌∷◌, ◌++◌, Some, IsUtf8, length, refl, sym, ap, ◌∙◌, arith, cond, encode_utf8, encode_utf8_all}
use Rattle.std.specs.Prelude.{slice_get}
use Rattle.std.specs.List.{list_all}
use Rattle.std.specs.Str.{chars}
use Rattle.std.proofs.lemmas.Bool.{eqb-true, eqb-false, ne_eqb}
use Rattle.std.proofs.lemmas.Str.{encode_ascii}
use Rattle.stx_base.specs.Character.{is_char}
use Rattle.xml_tokens.specs.Texts.{as_feed, lines, lines_behind}
use Rattle.xml_tokens.specs.Spelling.{SpellsLiteral, itself, return_and_feed, return, SpellsLines, SpelledLinesAreRead, LinesAreSpelled}
use Rattle.xml_tokens.specs.declared.text.Context.TheVariants.{Content}
use Rattle.xml_tokens.proofs.TextSpelling.{itself-calm}
use Rattle.xml_tokens.proofs.TextReading.{Following, following}

-- a character is said first
line-step : (c : ℕ) (front rest : List ℕ) → SpellsLiteral c front rest → lines (front ++ rest) ≡ encode_utf8 c ++ lines rest
line-step _ _ _ (itself c rest char ne) = itself-calm Content c rest ne
line-step _ _ _ (return_and_feed rest) = ap (λ l. l ++ lines rest) (sym (encode_ascii 10 (omega arith)))
line-step _ _ _ (return rest other) = ap (λ l. 10 ∷ l) (no_feed rest other) ∙ ap (λ l. l ++ lines rest) (sym (encode_ascii 10 (omega arith))) where
  no_feed : (rest : List ℕ) → slice_get rest 0 ≢ Some 10 → lines_behind true rest ≡ lines rest
  no_feed [] k = refl
  no_feed (b ∷ bs) k = ap (λ t. cond t [] (as_feed b ∷ []) ++ lines_behind (b == 13) bs) (ne_eqb b 10 (λ e. k (ap (λ x. Some x) e)))

pub spelled-lines : SpelledLinesAreRead
spelled-lines [] bytes h = ap lines h
spelled-lines (c ∷ text) bytes h = ap lines h.3 ∙ (line-step c h.0 h.1 h.2 ∙ ap (λ l. encode_utf8 c ++ l) (spelled-lines text h.1 h.4))

abbrev IsSpelled : List ℕ → Type 0
IsSpelled bytes = (text : List ℕ) × (lines bytes ≡ encode_utf8_all text) × SpellsLines text bytes

first-spelled : (c : ℕ) (front rest bytes : List ℕ) → SpellsLiteral c front rest → bytes ≡ front ++ rest → IsSpelled rest → IsSpelled bytes
first-spelled c front rest bytes one whole later =
    (c ∷ later.0, ap lines whole ∙ (line-step c front rest one ∙ ap (λ l. encode_utf8 c ++ l) later.1), (front, rest, one, whole, later.2))

module _ (bytes : List ℕ) (again : (rest : List ℕ) → length rest < length bytes → IsUtf8 rest → list_all is_char (chars rest) ≡ true → IsSpelled rest) where
  by-return : (rest : List ℕ) → bytes ≡ 13 ∷ rest → IsUtf8 rest → list_all is_char (chars rest) ≡ true → IsSpelled bytes
  by-return [] whole utf8 all = first-spelled 10 (13 ∷ []) [] bytes (return [] (λ e. cc)) whole (again [] (omega (arith, ap length whole)) utf8 all)
  by-return (b ∷ bs) whole utf8 all = by_test (b == 10) refl where
    by_test : (t : Bool) → (b == 10) ≡ t → IsSpelled bytes
    by_test true e =
        let is : b ≡ 10 = eqb-true b 10 e in
        let f = following 10 (b ∷ bs) bs (ap (λ x. x ∷ bs) is ∙ ap (λ l. l ++ bs) (sym (encode_ascii 10 (omega arith)))) utf8 all in
        first-spelled 10 (13 ∷ 10 ∷ []) bs bytes (return_and_feed bs) (whole ∙ ap (λ x. 13 ∷ x ∷ bs) is) (again bs (omega (arith, ap length whole)) f.utf8 f.chars)
    by_test false e =
        first-spelled 10 (13 ∷ []) (b ∷ bs) bytes (return (b ∷ bs) (λ k. eqb-false b 10 e (some_is k))) whole (again (b ∷ bs) (omega (arith, ap length whole)) utf8 all) where
          some_is : slice_get (b ∷ bs) 0 ≡ Some 10 → b ≡ 10
          some_is k = cc

  by-chars : (cs : List ℕ) → encode_utf8_all cs ≡ bytes → IsUtf8 bytes → list_all is_char (chars bytes) ≡ true → IsSpelled bytes
  by-chars [] e utf8 all = ([], ap lines (sym e), sym e)
  by-chars (c ∷ cs) e utf8 all = by_test (c == 13) refl where
    rest : List ℕ
    rest = encode_utf8_all cs

    f : Following c bytes rest
    f = following c bytes rest (sym e) utf8 all

    by_test : (r : Bool) → (c == 13) ≡ r → IsSpelled bytes
    by_test true er = by-return rest (f.whole ∙ (ap (λ x. encode_utf8 x ++ rest) (eqb-true c 13 er) ∙ ap (λ l. l ++ rest) (encode_ascii 13 (omega arith)))) f.utf8 f.chars
    by_test false er = first-spelled c (encode_utf8 c) rest bytes (itself c rest f.char (eqb-false c 13 er)) f.whole (again rest f.shorter f.utf8 f.chars)

lines-spelled-in : (n : ℕ) (bytes : List ℕ) → length bytes < n → IsUtf8 bytes → list_all is_char (chars bytes) ≡ true → IsSpelled bytes
lines-spelled-in zero bytes small utf8 all = absurd (omega (arith, small))
lines-spelled-in (suc n) bytes small utf8 all = by-chars bytes (λ rest less u a. lines-spelled-in n rest (omega (arith, small, less)) u a) utf8.0 utf8.1.1 utf8 all

pub lines-spelled : LinesAreSpelled
lines-spelled bytes utf8 all = lines-spelled-in (suc (length bytes)) bytes (omega arith) utf8 all
