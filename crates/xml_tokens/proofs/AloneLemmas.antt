-- A shape that is whole beside what follows it is whole by itself.
use Rattle.std.proofs.Common.{◌≡◌, ◌≢◌, ℕ, ◌+◌, ◌<◌, ◌≤◌, Bool, true, false, ◌&&◌, List, [], ◌∷◌, ◌++◌, Option, Some, None, length, drop, length-drop, refl, sym, ap, ◌∙◌, arith, cond}
use Rattle.std.specs.Prelude.{codes}
use Rattle.std.proofs.lemmas.List.{drop-append-le}
use Rattle.xml_tokens.specs.Places.{begins, first_byte, first_outside, first_word, is_outside, quote_after}
use Rattle.xml_tokens.specs.Shape.{behind, end_by, ends_declaration, ends_tag, form, is_less, shape_len, text_end}
use Rattle.xml_tokens.specs.declared.form.Form.{Form}
use Rattle.xml_tokens.specs.declared.form.Form.TheVariants.{Text, Comment, CData, Instruction, Declaration, Tag, Undecided}
use Rattle.xml_tokens.proofs.FormLemmas.{cdata-length, comment-length, form-more, instruction-length}
use Rattle.xml_tokens.proofs.PlaceLemmas.{begins-longer}
use Rattle.xml_tokens.proofs.WholeLemmas.{first_byte-more, first_byte-within, first_outside-within, first_word-within, behind-is}

same_some : (m n : ℕ) → Some m ≡ Some n → m ≡ n
same_some m n e = cc

-- a word that ends among the first bytes is found there
word-fewer : (word : List ℕ) (at : ℕ) (bytes more : List ℕ) (n : ℕ) → 0 < length word → n + length word ≤ at + length bytes → first_word word at (bytes ++ more) ≡ Some n → first_word word at bytes ≡ Some n
word-fewer word at [] more n some within h = absurd (omega (arith, (first_word-within word at more n h).0))
word-fewer word at (b ∷ bs) more n some within h =
    by_test (λ k. word-fewer word (at + 1) bs more n some (omega arith) k) (begins ((b ∷ bs) ++ more) word) refl h where
      by_test : (first_word word (at + 1) (bs ++ more) ≡ Some n → first_word word (at + 1) bs ≡ Some n) → (t : Bool) → begins ((b ∷ bs) ++ more) word ≡ t
          → cond t (Some at) (first_word word (at + 1) (bs ++ more)) ≡ Some n → first_word word at (b ∷ bs) ≡ Some n
      by_test again true e k =
          let is = same_some at n k in
          let here : begins (b ∷ bs) word ≡ true = sym (begins-longer (b ∷ bs) more word (omega arith)) ∙ e in
          ap (λ t. cond t (Some at) (first_word word (at + 1) bs)) here ∙ k
      by_test again false e k =
          let r = first_word-within word (at + 1) (bs ++ more) n k in
          let here : begins (b ∷ bs) word ≡ false = sym (begins-longer (b ∷ bs) more word (omega (arith, r.0))) ∙ e in
          ap (λ t. cond t (Some at) (first_word word (at + 1) bs)) here ∙ again k

outside-fewer : (test : ℕ → Bool) (quote : Option ℕ) (at : ℕ) (bytes more : List ℕ) (n : ℕ) → n < at + length bytes → first_outside test quote at (bytes ++ more) ≡ Some n → first_outside test quote at bytes ≡ Some n
outside-fewer test quote at [] more n within h = absurd (omega (arith, (first_outside-within test quote at more n h).0))
outside-fewer test quote at (b ∷ bs) more n within h =
    elim (is_outside quote && test b) as (λ t. cond t (Some at) (first_outside test (quote_after quote b) (at + 1) (bs ++ more)) ≡ Some n → cond t (Some at) (first_outside test (quote_after quote b) (at + 1) bs) ≡ Some n)
    [ true ↦ (λ k. k) | false ↦ (λ k. outside-fewer test (quote_after quote b) (at + 1) bs more n (omega arith) k) ] h

behind-same : (k len : ℕ) (o : Option ℕ) (n : ℕ) → o ≡ Some n → n + k ≡ len → behind k o ≡ Some len
behind-same k len o n e h = ap (behind k) e ∙ ap (λ x. Some x) h

word-alone : (word : List ℕ) (k : ℕ) (bytes more : List ℕ) → 0 < length word → k ≤ length bytes
    → behind (length word) (first_word word k (drop k (bytes ++ more))) ≡ Some (length bytes) → behind (length word) (first_word word k (drop k bytes)) ≡ Some (length bytes)
word-alone word k bytes more some low h =
    let parts = behind-is (length word) (first_word word k (drop k (bytes ++ more))) (length bytes) h in
    let found = ap (first_word word k) (sym (drop-append-le k bytes more low)) ∙ parts.1 in
    behind-same (length word) (length bytes) (first_word word k (drop k bytes)) parts.0
    (word-fewer word k (drop k bytes) more parts.0 some (omega (arith, parts.2, length-drop k bytes)) found) parts.2

outside-alone : (test : ℕ → Bool) (bytes more : List ℕ) → behind 1 (first_outside test None 0 (bytes ++ more)) ≡ Some (length bytes) → behind 1 (first_outside test None 0 bytes) ≡ Some (length bytes)
outside-alone test bytes more h =
    let parts = behind-is 1 (first_outside test None 0 (bytes ++ more)) (length bytes) h in
    behind-same 1 (length bytes) (first_outside test None 0 bytes) parts.0 (outside-fewer test None 0 bytes more parts.0 (omega (arith, parts.2)) parts.1) parts.2

text-alone : (ended : Bool) (bytes more : List ℕ) → text_end ended (bytes ++ more) (first_byte is_less 0 (bytes ++ more)) ≡ Some (length bytes) → text_end true bytes (first_byte is_less 0 bytes) ≡ Some (length bytes)
text-alone ended bytes more h = by_first (first_byte is_less 0 bytes) refl where
  by_first : (o : Option ℕ) → first_byte is_less 0 bytes ≡ o → text_end true bytes o ≡ Some (length bytes)
  by_first None e = refl
  by_first (Some n) e =
      let later = first_byte-more is_less 0 bytes more n e in
      let is = same_some n (length bytes) (sym (ap (text_end ended (bytes ++ more)) later) ∙ h) in
      absurd (omega (arith, is, (first_byte-within is_less 0 bytes n e).1))

pub shape_len-alone : (ended : Bool) (bytes more : List ℕ) → form bytes ≢ Undecided → shape_len ended (bytes ++ more) ≡ Some (length bytes) → shape_len true bytes ≡ Some (length bytes)
shape_len-alone ended bytes more decided h = by_form (form bytes) refl (sym (ap (λ f. end_by f ended (bytes ++ more)) (form-more bytes more decided)) ∙ h) where
  by_form : (f : Form) → form bytes ≡ f → end_by f ended (bytes ++ more) ≡ Some (length bytes) → end_by f true bytes ≡ Some (length bytes)
  by_form Text e k = text-alone ended bytes more k
  by_form Comment e k = word-alone (codes "-->") 4 bytes more (omega arith) (comment-length bytes e) k
  by_form CData e k = word-alone (codes "]]>") 9 bytes more (omega arith) (cdata-length bytes e) k
  by_form Instruction e k = word-alone (codes "?>") 2 bytes more (omega arith) (instruction-length bytes e) k
  by_form Declaration e k = outside-alone ends_declaration bytes more k
  by_form Tag e k = outside-alone ends_tag bytes more k
  by_form Undecided e k = absurd (decided e)
