-- Texts, values, sections, comments and instructions are read as they were written.
use Rattle.std.proofs.Common.{◌≡◌, ◌≢◌, ℕ, Bool, true, false, ◌&&◌, ◌==◌, ◌+◌, List, [], ◌∷◌, Some, None, Ok, is_some, refl, ap, ◌∙◌}
use Rattle.std.specs.Prelude.{codes, encode_utf8_all, if◌then◌else◌}
use Rattle.std.specs.List.{list_all, list_any}
use Rattle.std.proofs.lemmas.Bool.{and_left, or_parts}
use Rattle.stx_base.specs.Character.{is_space}
use Rattle.xml_tokens.specs.Judged.{judged}
use Rattle.xml_tokens.specs.Places.{begins, first_word}
use Rattle.xml_tokens.specs.Spelling.{SpelledLexemesAreRead, SpelledTextsAreRead, Spells}
use Rattle.xml_tokens.specs.declared.lexeme.Body.{Body}
use Rattle.xml_tokens.specs.declared.lexeme.Body.TheVariants.{Chars}
use Rattle.xml_tokens.specs.declared.text.Context.TheVariants as place
use Rattle.result_writer.specs.Allowed.{are_chars}
use Rattle.result_writer.specs.Escape.{escaped}
use Rattle.result_writer.specs.declared.escape.Context.TheVariants.{Content, Value}
use Rattle.read_back.specs.Laws.{ReadsComments, ReadsInstructions, ReadsSections, ReadsTexts, ReadsValues}
use Rattle.read_back.proofs.Bytes.{IsText, text_chars, text_utf8}
use Rattle.read_back.proofs.Escaping.{content_some, content_text, content_without, escaped_text, value_text}
use Rattle.read_back.proofs.Leaving.{comment_bytes, comment_is, comment_spelled, instruction_bytes, instruction_is, instruction_spelled, section_spelled, section_text}

-- bytes without `>` don't hold the mark of a section's end
no_mark : (bytes : List ℕ) (at : ℕ) → list_any (λ b. b == 62) bytes ≡ false → first_word (codes "]]>") at bytes ≡ None
no_mark [] at h = refl
no_mark (b ∷ bs) at h =
    let both = or_parts (b == 62) (list_any (λ b. b == 62) bs) h in
    ap (λ t. if (b == 93) && t then Some at else first_word (codes "]]>") (at + 1) bs) (two bs both.1) ∙ by_test (b == 93) ∙ no_mark bs (at + 1) both.1 where
      one : (bs : List ℕ) → list_any (λ b. b == 62) bs ≡ false → begins bs (codes ">") ≡ false
      one [] e = refl
      one (b ∷ bs) e = and_left (b == 62) true (or_parts (b == 62) (list_any (λ b. b == 62) bs) e).0

      and_false : (t : Bool) → (t && false) ≡ false
      and_false true = refl
      and_false false = refl

      two : (bs : List ℕ) → list_any (λ b. b == 62) bs ≡ false → begins bs (codes "]>") ≡ false
      two [] e = refl
      two (b ∷ bs) e = ap (λ t. (b == 93) && t) (one bs (or_parts (b == 62) (list_any (λ b. b == 62) bs) e).1) ∙ and_false (b == 93)

      by_test : (t : Bool) → (if t && false then Some at else first_word (codes "]]>") (at + 1) bs) ≡ first_word (codes "]]>") (at + 1) bs
      by_test true = refl
      by_test false = refl

pub content_spells : (first : Bool) (text : List ℕ) → text ≢ [] → are_chars text ≡ true → Spells first (Chars text (list_all is_space (escaped Content (encode_utf8_all text)))) (escaped Content (encode_utf8_all text))
content_spells first text some h =
    let bytes = escaped Content (encode_utf8_all text) in
    let without = content_without (encode_utf8_all text) in
    (content_text text h, content_some text some, without.0, ap is_some (no_mark bytes 0 without.1), refl)

module _ (reads : SpelledLexemesAreRead) where
  pub read_as : (first : Bool) (body : Body) (bytes : List ℕ) → IsText bytes → Spells first body bytes → judged first bytes ≡ Ok body
  read_as first body bytes text s = reads first body bytes (text_utf8 bytes text) (text_chars bytes text) s

  pub reads_texts : ReadsTexts
  reads_texts first text some h = read_as first _ _ (escaped_text Content text h) (content_spells first text some h)

  pub reads_sections : ReadsSections
  reads_sections first text h = read_as first _ _ (section_text text h) (section_spelled first text h)

  pub reads_comments : ReadsComments
  reads_comments first text h = let is = comment_is text h in read_as first _ _ (comment_bytes text is) (comment_spelled first text is)

  pub reads_instructions : ReadsInstructions
  reads_instructions target text h = let is = instruction_is target text h in read_as false _ _ (instruction_bytes target text is) (instruction_spelled target text is)

pub reads_values : SpelledTextsAreRead → ReadsValues
reads_values reads value h = reads place.Value value (escaped Value (encode_utf8_all value)) (value_text value h)
