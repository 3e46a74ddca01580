-- A whole shape is as long as its bytes at most.
use Rattle.std.proofs.Common.{◌≡◌, ◌≢◌, ℕ, suc, ◌+◌, ◌<◌, ◌≤◌, Bool, true, false, ◌&&◌, List, [], ◌∷◌, ◌++◌, Option, Some, None, length, drop, refl, sym, ap, ◌∙◌, arith, cond, subst, length-drop, length-append, ⊎_elim}
use Rattle.std.proofs.lemmas.Bool.{cases_lt}
use Rattle.std.proofs.lemmas.List.{drop-append-le}
use Rattle.std.specs.Prelude.{codes}
use Rattle.xml_tokens.specs.Places.{begins, first_byte, first_word, is_outside, quote_after, first_outside}
use Rattle.xml_tokens.specs.Shape.{form, text_end, is_less, behind, shape_len, end_by, ends_tag, ends_declaration}
use Rattle.xml_tokens.specs.declared.form.Form.{Form}
use Rattle.xml_tokens.specs.declared.form.Form.TheVariants.{Text, Comment, CData, Instruction, Declaration, Tag, Undecided}
use Rattle.xml_tokens.proofs.PlaceLemmas.{begins-length, begins-longer}
use Rattle.xml_tokens.proofs.FormLemmas.{form-more, comment-length, cdata-length, instruction-length, less-other}

some_is : {A : Type 0} (x y : A) → Some x ≡ Some y → x ≡ y
some_is x y h = cc

pub first_byte-within : (test : ℕ → Bool) (at : ℕ) (bytes : List ℕ) (n : ℕ) → first_byte test at bytes ≡ Some n → (at ≤ n) × (n < at + length bytes)
first_byte-within test at [] n h = absurd cc
first_byte-within test at (b ∷ bs) n h =
    elim (test b) as (λ t. cond t (Some at) (first_byte test (at + 1) bs) ≡ Some n → (at ≤ n) × (n < at + suc (length bs))) [
      | true ↦ (λ k. let e = some_is at n k in (omega arith, omega arith))
      | false ↦ (λ k. let r = first_byte-within test (at + 1) bs n k in (omega (arith, r.0), omega (arith, r.1)))
    ] h

pub first_outside-within : (test : ℕ → Bool) (quote : Option ℕ) (at : ℕ) (bytes : List ℕ) (n : ℕ) → first_outside test quote at bytes ≡ Some n → (at ≤ n) × (n < at + length bytes)
first_outside-within test quote at [] n h = absurd cc
first_outside-within test quote at (b ∷ bs) n h =
    elim (is_outside quote && test b) as (λ t. cond t (Some at) (first_outside test (quote_after quote b) (at + 1) bs) ≡ Some n → (at ≤ n) × (n < at + suc (length bs))) [
      | true ↦ (λ k. let e = some_is at n k in (omega arith, omega arith))
      | false ↦ (λ k. let r = first_outside-within test (quote_after quote b) (at + 1) bs n k in (omega (arith, r.0), omega (arith, r.1)))
    ] h

pub first_word-within : (word : List ℕ) (at : ℕ) (bytes : List ℕ) (n : ℕ) → first_word word at bytes ≡ Some n → (at ≤ n) × (n + length word ≤ at + length bytes)
first_word-within word at [] n h = absurd cc
first_word-within word at (b ∷ bs) n h =
    elim (begins (b ∷ bs) word) as (λ t. begins (b ∷ bs) word ≡ t → cond t (Some at) (first_word word (at + 1) bs) ≡ Some n → (at ≤ n) × (n + length word ≤ at + suc (length bs))) [
      | true ↦ (λ e k. let is = some_is at n k in let l = begins-length (b ∷ bs) word e in (omega arith, omega (arith, l)))
      | false ↦ (λ e k. let r = first_word-within word (at + 1) bs n k in (omega (arith, r.0), omega (arith, r.1)))
    ] refl h

-- what stands behind a place
pub behind-is : (k : ℕ) (o : Option ℕ) (len : ℕ) → behind k o ≡ Some len → (n : ℕ) × (o ≡ Some n) × (n + k ≡ len)
behind-is k None len h = absurd cc
behind-is k (Some n) len h = (n, refl, some_is (n + k) len h)

word_within : (word : List ℕ) (k : ℕ) (bytes : List ℕ) (len : ℕ) → k ≤ length bytes → behind (length word) (first_word word k (drop k bytes)) ≡ Some len → (k + length word ≤ len) × (len ≤ length bytes)
word_within word k bytes len low h =
    let parts = behind-is (length word) (first_word word k (drop k bytes)) len h in
    let r = first_word-within word k (drop k bytes) parts.0 parts.1 in
    (omega (arith, r.0, parts.2), omega (arith, r.1, parts.2, length-drop k bytes))

outside_within : (test : ℕ → Bool) (bytes : List ℕ) (len : ℕ) → behind 1 (first_outside test None 0 bytes) ≡ Some len → (1 ≤ len) × (len ≤ length bytes)
outside_within test bytes len h =
    let parts = behind-is 1 (first_outside test None 0 bytes) len h in
    let r = first_outside-within test None 0 bytes parts.0 parts.1 in
    (omega (arith, parts.2), omega (arith, r.1, parts.2))

-- a text that begins has a byte that isn't `<`
text_begins : (bytes : List ℕ) → form bytes ≡ Text → (b : ℕ) × (bs : List ℕ) × (bytes ≡ b ∷ bs) × (is_less b ≡ false)
text_begins [] h = absurd cc
text_begins (b ∷ bs) h = elim (is_less b) as (λ t. is_less b ≡ t → (c : ℕ) × (cs : List ℕ) × ((b ∷ bs) ≡ c ∷ cs) × (is_less c ≡ false)) [
  | true ↦ (λ e. absurd (less-other b bs e h))
  | false ↦ (λ e. (b, bs, refl, e))
] refl

text_on : (ended : Bool) (b : ℕ) (bs : List ℕ) (len : ℕ) → is_less b ≡ false → text_end ended (b ∷ bs) (first_byte is_less 0 (b ∷ bs)) ≡ Some len → (1 ≤ len) × (len ≤ suc (length bs))
text_on ended b bs len e h =
    by_option (first_byte is_less 1 bs) refl (ap (text_end ended (b ∷ bs)) (sym skipped) ∙ h) where
      skipped : first_byte is_less 0 (b ∷ bs) ≡ first_byte is_less 1 bs
      skipped = ap (λ t. cond t (Some 0) (first_byte is_less 1 bs)) e

      by_end : (e : Bool) → text_end e (b ∷ bs) None ≡ Some len → (1 ≤ len) × (len ≤ suc (length bs))
      by_end true k = let is = some_is (suc (length bs)) len k in (omega arith, omega arith)
      by_end false k = absurd cc

      by_option : (o : Option ℕ) → first_byte is_less 1 bs ≡ o → text_end ended (b ∷ bs) o ≡ Some len → (1 ≤ len) × (len ≤ suc (length bs))
      by_option (Some n) is k =
          let r = first_byte-within is_less 1 bs n is in
          let same = some_is n len k in
          (omega (arith, r.0), omega (arith, r.1))
      by_option None is k = by_end ended k

text_within : (ended : Bool) (bytes : List ℕ) (len : ℕ) → form bytes ≡ Text → text_end ended bytes (first_byte is_less 0 bytes) ≡ Some len → (1 ≤ len) × (len ≤ length bytes)
text_within ended bytes len f h =
    let parts = text_begins bytes f in
    subst (λ l. (1 ≤ len) × (len ≤ length l)) (sym parts.2)
    (text_on ended parts.0 parts.1 len parts.3 (subst (λ l. text_end ended l (first_byte is_less 0 l) ≡ Some len) parts.2 h))

pub whole-within : (ended : Bool) (bytes : List ℕ) (len : ℕ) → shape_len ended bytes ≡ Some len → (1 ≤ len) × (len ≤ length bytes)
whole-within ended bytes len h = by_form (form bytes) refl h where
  by_form : (f : Form) → form bytes ≡ f → end_by f ended bytes ≡ Some len → (1 ≤ len) × (len ≤ length bytes)
  by_form Text e k = text_within ended bytes len e k
  by_form Comment e k = let r = word_within (codes "-->") 4 bytes len (comment-length bytes e) k in (omega (arith, r.0), r.1)
  by_form CData e k = let r = word_within (codes "]]>") 9 bytes len (cdata-length bytes e) k in (omega (arith, r.0), r.1)
  by_form Instruction e k = let r = word_within (codes "?>") 2 bytes len (instruction-length bytes e) k in (omega (arith, r.0), r.1)
  by_form Declaration e k = outside_within ends_declaration bytes len k
  by_form Tag e k = outside_within ends_tag bytes len k
  by_form Undecided e k = absurd cc

-- what is found stays found, whatever bytes follow
pub first_byte-more : (test : ℕ → Bool) (at : ℕ) (bytes more : List ℕ) (n : ℕ) → first_byte test at bytes ≡ Some n → first_byte test at (bytes ++ more) ≡ Some n
first_byte-more test at [] more n h = absurd cc
first_byte-more test at (b ∷ bs) more n h =
    elim (test b) as (λ t. cond t (Some at) (first_byte test (at + 1) bs) ≡ Some n → cond t (Some at) (first_byte test (at + 1) (bs ++ more)) ≡ Some n)
    [ true ↦ (λ k. k) | false ↦ (λ k. first_byte-more test (at + 1) bs more n k) ] h

pub first_outside-more : (test : ℕ → Bool) (quote : Option ℕ) (at : ℕ) (bytes more : List ℕ) (n : ℕ) → first_outside test quote at bytes ≡ Some n → first_outside test quote at (bytes ++ more) ≡ Some n
first_outside-more test quote at [] more n h = absurd cc
first_outside-more test quote at (b ∷ bs) more n h =
    elim (is_outside quote && test b) as (λ t. cond t (Some at) (first_outside test (quote_after quote b) (at + 1) bs) ≡ Some n → cond t (Some at) (first_outside test (quote_after quote b) (at + 1) (bs ++ more)) ≡ Some n)
    [ true ↦ (λ k. k) | false ↦ (λ k. first_outside-more test (quote_after quote b) (at + 1) bs more n k) ] h

pub first_word-more : (word : List ℕ) (at : ℕ) (bytes more : List ℕ) (n : ℕ) → first_word word at bytes ≡ Some n → first_word word at (bytes ++ more) ≡ Some n
first_word-more word at [] more n h = absurd cc
first_word-more word at (b ∷ bs) more n h =
    by_test (λ k. first_word-more word (at + 1) bs more n k) (begins (b ∷ bs) word) refl h where
      by_test : (first_word word (at + 1) bs ≡ Some n → first_word word (at + 1) (bs ++ more) ≡ Some n) → (t : Bool) → begins (b ∷ bs) word ≡ t → cond t (Some at) (first_word word (at + 1) bs) ≡ Some n → first_word word at ((b ∷ bs) ++ more) ≡ Some n
      by_test again true e k =
          let here : begins ((b ∷ bs) ++ more) word ≡ true = begins-longer (b ∷ bs) more word (begins-length (b ∷ bs) word e) ∙ e in
          ap (λ t. cond t (Some at) (first_word word (at + 1) (bs ++ more))) here ∙ k
      by_test again false e k =
          let r = first_word-within word (at + 1) bs n k in
          let absent : begins ((b ∷ bs) ++ more) word ≡ false = begins-longer (b ∷ bs) more word (omega (arith, r.0, r.1)) ∙ e in
          ap (λ t. cond t (Some at) (first_word word (at + 1) (bs ++ more))) absent ∙ again k

-- what isn't found among the first bytes stands behind them
pub first_byte-later : (test : ℕ → Bool) (at : ℕ) (bytes more : List ℕ) (n : ℕ) → first_byte test at bytes ≡ None → first_byte test at (bytes ++ more) ≡ Some n → at + length bytes ≤ n
first_byte-later test at [] more n none h = omega (arith, (first_byte-within test at more n h).0)
first_byte-later test at (b ∷ bs) more n none h =
    elim (test b) as (λ t. cond t (Some at) (first_byte test (at + 1) bs) ≡ None → cond t (Some at) (first_byte test (at + 1) (bs ++ more)) ≡ Some n → at + suc (length bs) ≤ n)
    [ true ↦ (λ k l. absurd cc) | false ↦ (λ k l. omega (arith, first_byte-later test (at + 1) bs more n k l)) ] none h

pub first_outside-later : (test : ℕ → Bool) (quote : Option ℕ) (at : ℕ) (bytes more : List ℕ) (n : ℕ) → first_outside test quote at bytes ≡ None → first_outside test quote at (bytes ++ more) ≡ Some n → at + length bytes ≤ n
first_outside-later test quote at [] more n none h = omega (arith, (first_outside-within test quote at more n h).0)
first_outside-later test quote at (b ∷ bs) more n none h =
    elim (is_outside quote && test b) as (λ t. cond t (Some at) (first_outside test (quote_after quote b) (at + 1) bs) ≡ None → cond t (Some at) (first_outside test (quote_after quote b) (at + 1) (bs ++ more)) ≡ Some n → at + suc (length bs) ≤ n)
    [ true ↦ (λ k l. absurd cc) | false ↦ (λ k l. omega (arith, first_outside-later test (quote_after quote b) (at + 1) bs more n k l)) ] none h

pub first_word-later : (word : List ℕ) (at : ℕ) (bytes more : List ℕ) (n : ℕ) → first_word word at bytes ≡ None → first_word word at (bytes ++ more) ≡ Some n → at + length bytes ≤ n + length word
first_word-later word at [] more n none h = omega (arith, (first_word-within word at more n h).0)
first_word-later word at (b ∷ bs) more n none h = by_test (λ k l. first_word-later word (at + 1) bs more n k l) (begins (b ∷ bs) word) refl none where
  by_more : (first_word word (at + 1) bs ≡ None → first_word word (at + 1) (bs ++ more) ≡ Some n → (at + 1) + length bs ≤ n + length word) → begins (b ∷ bs) word ≡ false → first_word word (at + 1) bs ≡ None → (t : Bool) → begins ((b ∷ bs) ++ more) word ≡ t → cond t (Some at) (first_word word (at + 1) (bs ++ more)) ≡ Some n → at + suc (length bs) ≤ n + length word
  by_more again absent k true e l =
      let is = some_is at n l in
      ⊎_elim (λ (short : length (b ∷ bs) < length word). let goal : at + suc (length bs) ≤ n + length word = omega arith in goal)
      (λ (long : length word ≤ length (b ∷ bs)). let c = sym e ∙ (begins-longer (b ∷ bs) more word long ∙ absent) in absurd cc)
      (cases_lt (length (b ∷ bs)) (length word))
  by_more again absent k false e l = omega (arith, again k l)

  by_test : (first_word word (at + 1) bs ≡ None → first_word word (at + 1) (bs ++ more) ≡ Some n → (at + 1) + length bs ≤ n + length word) → (t : Bool) → begins (b ∷ bs) word ≡ t → cond t (Some at) (first_word word (at + 1) bs) ≡ None → at + suc (length bs) ≤ n + length word
  by_test again true e k = absurd cc
  by_test again false e k = by_more again e k (begins ((b ∷ bs) ++ more) word) refl h

pub behind-some : (k : ℕ) (o o' : Option ℕ) (len : ℕ) → ((n : ℕ) → o ≡ Some n → o' ≡ Some n) → behind k o ≡ Some len → behind k o' ≡ Some len
behind-some k None o' len same h = absurd cc
behind-some k (Some n) o' len same h = ap (behind k) (same n refl) ∙ h

pub behind-none : (k : ℕ) (o : Option ℕ) → behind k o ≡ None → o ≡ None
behind-none k None h = refl
behind-none k (Some n) h = absurd cc

undecided_none : (ended : Bool) (bytes : List ℕ) (len : ℕ) → shape_len ended bytes ≡ Some len → form bytes ≢ Undecided
undecided_none ended bytes len h u = let none : shape_len ended bytes ≡ None = ap (λ f. end_by f ended bytes) u in absurd cc

text_found : (ended : Bool) (bytes more : List ℕ) (o : Option ℕ) (len : ℕ) → first_byte is_less 0 bytes ≡ o → text_end false bytes o ≡ Some len → text_end ended (bytes ++ more) (first_byte is_less 0 (bytes ++ more)) ≡ Some len
text_found ended bytes more None len e h = absurd cc
text_found ended bytes more (Some n) len e h = ap (text_end ended (bytes ++ more)) (first_byte-more is_less 0 bytes more n e) ∙ h

word_found : (word : List ℕ) (k : ℕ) (bytes more : List ℕ) (len : ℕ) → k ≤ length bytes → behind (length word) (first_word word k (drop k bytes)) ≡ Some len → behind (length word) (first_word word k (drop k (bytes ++ more))) ≡ Some len
word_found word k bytes more len low h =
    behind-some (length word) (first_word word k (drop k bytes)) (first_word word k (drop k (bytes ++ more))) len
    (λ n e. ap (first_word word k) (drop-append-le k bytes more low) ∙ first_word-more word k (drop k bytes) more n e) h

outside_found : (test : ℕ → Bool) (bytes more : List ℕ) (len : ℕ) → behind 1 (first_outside test None 0 bytes) ≡ Some len → behind 1 (first_outside test None 0 (bytes ++ more)) ≡ Some len
outside_found test bytes more len h =
    behind-some 1 (first_outside test None 0 bytes) (first_outside test None 0 (bytes ++ more)) len (λ n e. first_outside-more test None 0 bytes more n e) h

-- a shape that is whole before the input's end stays whole, whatever follows
pub shape_len-more : (ended : Bool) (bytes more : List ℕ) (len : ℕ) → shape_len false bytes ≡ Some len → shape_len ended (bytes ++ more) ≡ Some len
shape_len-more ended bytes more len h = ap (λ f. end_by f ended (bytes ++ more)) (form-more bytes more (undecided_none false bytes len h)) ∙ by_form (form bytes) refl h where
  by_form : (f : Form) → form bytes ≡ f → end_by f false bytes ≡ Some len → end_by f ended (bytes ++ more) ≡ Some len
  by_form Text e k = text_found ended bytes more (first_byte is_less 0 bytes) len refl k
  by_form Comment e k = word_found (codes "-->") 4 bytes more len (comment-length bytes e) k
  by_form CData e k = word_found (codes "]]>") 9 bytes more len (cdata-length bytes e) k
  by_form Instruction e k = word_found (codes "?>") 2 bytes more len (instruction-length bytes e) k
  by_form Declaration e k = outside_found ends_declaration bytes more len k
  by_form Tag e k = outside_found ends_tag bytes more len k
  by_form Undecided e k = absurd cc

word_later : (word : List ℕ) (k : ℕ) (bytes more : List ℕ) (len : ℕ) → k ≤ length bytes → behind (length word) (first_word word k (drop k bytes)) ≡ None → behind (length word) (first_word word k (drop k (bytes ++ more))) ≡ Some len → length bytes ≤ len
word_later word k bytes more len low none h =
    let parts = behind-is (length word) (first_word word k (drop k (bytes ++ more))) len h in
    let found = ap (first_word word k) (sym (drop-append-le k bytes more low)) ∙ parts.1 in
    omega (arith, parts.2, length-drop k bytes, first_word-later word k (drop k bytes) more parts.0 (behind-none (length word) (first_word word k (drop k bytes)) none) found)

outside_later : (test : ℕ → Bool) (bytes more : List ℕ) (len : ℕ) → behind 1 (first_outside test None 0 bytes) ≡ None → behind 1 (first_outside test None 0 (bytes ++ more)) ≡ Some len → length bytes ≤ len
outside_later test bytes more len none h =
    let parts = behind-is 1 (first_outside test None 0 (bytes ++ more)) len h in
    omega (arith, parts.2, first_outside-later test None 0 bytes more parts.0 (behind-none 1 (first_outside test None 0 bytes) none) parts.1)

text_later : (ended : Bool) (bytes more : List ℕ) (len : ℕ) (o o' : Option ℕ) → first_byte is_less 0 bytes ≡ o → first_byte is_less 0 (bytes ++ more) ≡ o' → text_end false bytes o ≡ None → text_end ended (bytes ++ more) o' ≡ Some len → length bytes ≤ len
text_later ended bytes more len (Some n) o' e e' none h = absurd cc
text_later ended bytes more len None (Some n) e e' none h = omega (arith, first_byte-later is_less 0 bytes more n e e', some_is n len h)
text_later ended bytes more len None None e e' none h = by_end ended h where
  by_end : (t : Bool) → text_end t (bytes ++ more) None ≡ Some len → length bytes ≤ len
  by_end true k = omega (arith, length-append bytes more, some_is (length (bytes ++ more)) len k)
  by_end false k = absurd cc

-- a shape that isn't whole is no shorter than its first bytes
pub shape_len-later : (ended : Bool) (bytes more : List ℕ) (len : ℕ) → form bytes ≢ Undecided → shape_len false bytes ≡ None → shape_len ended (bytes ++ more) ≡ Some len → length bytes ≤ len
shape_len-later ended bytes more len decided none h = by_form (form bytes) refl none (sym (ap (λ f. end_by f ended (bytes ++ more)) (form-more bytes more decided)) ∙ h) where
  by_form : (f : Form) → form bytes ≡ f → end_by f false bytes ≡ None → end_by f ended (bytes ++ more) ≡ Some len → length bytes ≤ len
  by_form Text e n k = text_later ended bytes more len (first_byte is_less 0 bytes) (first_byte is_less 0 (bytes ++ more)) refl refl n k
  by_form Comment e n k = word_later (codes "-->") 4 bytes more len (comment-length bytes e) n k
  by_form CData e n k = word_later (codes "]]>") 9 bytes more len (cdata-length bytes e) n k
  by_form Instruction e n k = word_later (codes "?>") 2 bytes more len (instruction-length bytes e) n k
  by_form Declaration e n k = outside_later ends_declaration bytes more len n k
  by_form Tag e n k = outside_later ends_tag bytes more len n k
  by_form Undecided e n k = absurd (decided e)
