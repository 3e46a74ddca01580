-- Laws of searches that go on where they stopped.
use Rattle.std.proofs.Common.{◌≡◌, ◌≢◌, ℕ, ◌+◌, ◌-◌, ◌<◌, ◌≤◌, Bool, true, false, ◌&&◌, ◌==◌, List, [], ◌++◌, Option, Some, None, length, get_or, take, drop, refl, sym, ap, ◌∙◌, arith, cond, drop-cons, length-append, length-drop, max, subst, get_or-drop}
use Rattle.std.proofs.lemmas.Bool.{eq-eqb}
use Rattle.std.proofs.lemmas.List.{drop-append-le, get_or_append_left, append-nil, drop_all, drop-drop, take_all}
use Rattle.memchr.specs.Find.{IsFirstByte}
use Rattle.xml_tokens.specs.Places.{begins, first_byte, first_word, is_outside, quote_after, first_outside}
use Rattle.xml_tokens.specs.Shape.{form, text_end, is_less, behind, shape_len, end_by}
use Rattle.xml_tokens.specs.inside.Resume.{Resumes, AlwaysResumes, IsFound, IsTextFound, IsWordFound, IsOutsideFound, end_from, ending_test}
use Rattle.std.proofs.Math.Seq.{drop-append_seam}
use Rattle.xml_tokens.specs.declared.form.Form.{Form}
use Rattle.xml_tokens.specs.declared.form.Form.TheVariants.{Text, Comment, CData, Instruction, Declaration, Tag, Undecided}
use Rattle.xml_tokens.specs.declared.scan.Scan.{Scan}
use Rattle.xml_tokens.specs.declared.scan.Found.{Found}
use Rattle.xml_tokens.specs.declared.scan.Found.TheVariants.{Whole, Unended}
use Rattle.xml_tokens.proofs.FormLemmas.{form-more}
use Rattle.xml_tokens.proofs.PlaceLemmas.{first_byte-skip, first_byte-here, first_word-skip, first_word-here, first_word-short, begins-other, begins-longer, first_outside-step}

pub no_pass : (t : Bool) → (t ≡ true → ⊥) → t ≡ false
no_pass true h = absurd (h refl)
no_pass false h = refl

module _ (test : ℕ → Bool) (at : ℕ) (hay : List ℕ) where
  pub first_byte-of : (k : ℕ) → IsFirstByte test hay (Some k) → first_byte test at hay ≡ Some (at + k)
  first_byte-of k h =
      let within : k < length hay = h.0.high in
      let here : 0 < length (drop k hay) = simp length-drop (omega arith) in
      let is : get_or (drop k hay) 0 0 ≡ get_or hay k 0 = rw (drop-cons hay k 0 within) refl in
      first_byte-skip test at hay k (omega arith) (λ i l. no_pass _ (h.0.before i (omega arith) l))
      ∙ first_byte-here test (at + k) (drop k hay) here (ap test is ∙ h.1)

  pub first_byte-none : IsFirstByte test hay None → (more : List ℕ) → first_byte test at (hay ++ more) ≡ first_byte test (at + length hay) more
  first_byte-none h more =
      first_byte-skip test at (hay ++ more) (length hay) (omega (arith, length-append hay more))
      (λ i l. ap test (get_or_append_left hay more 0 i l) ∙ no_pass _ (h i (omega arith) l))
      ∙ ap (first_byte test (at + length hay)) (drop-append-le (length hay) hay more (omega arith) ∙ ap (λ l. l ++ more) (drop_all (length hay) hay (omega arith)))

pub text-none : (at : ℕ) (bytes : List ℕ) → at ≤ length bytes → IsFirstByte is_less (drop at bytes) None → (more : List ℕ) → first_byte is_less at (drop at (bytes ++ more)) ≡ first_byte is_less (length bytes) more
text-none at bytes h none more =
    let e : at + length (drop at bytes) ≡ length bytes = omega (arith, length-drop at bytes) in
    ap (first_byte is_less at) (drop-append-le at bytes more h) ∙ (first_byte-none is_less at (drop at bytes) none more ∙ ap (λ n. first_byte is_less n more) e)

pub text-none-here : (at : ℕ) (bytes : List ℕ) → at ≤ length bytes → IsFirstByte is_less (drop at bytes) None → first_byte is_less at (drop at bytes) ≡ None
text-none-here at bytes h none =
    ap (λ l. first_byte is_less at (drop at l)) (sym (append-nil bytes)) ∙ text-none at bytes h none []

-- no place before `to` begins the word
pub word-skip : (word : List ℕ) (at to : ℕ) (all : List ℕ) → at ≤ to → to ≤ length all → ((i : ℕ) → at ≤ i → i < to → begins (drop i all) word ≡ false) → first_word word at (drop at all) ≡ first_word word to (drop to all)
word-skip word at to all low high none =
    let n : at + (to - at) ≡ to = omega arith in
    first_word-skip word at (drop at all) (to - at) (omega (arith, length-drop at all))
    (λ i l. ap (λ c. begins c word) (drop-drop i at all) ∙ none (at + i) (omega arith) (omega arith))
    ∙ (ap (first_word word (at + (to - at))) (drop-drop (to - at) at all) ∙ ap (λ m. first_word word m (drop m all)) n)

-- a byte that isn't the word's first one
pub begins-not : (word : List ℕ) (i : ℕ) (all : List ℕ) → i < length all → 0 < length word → get_or all i 0 ≢ get_or word 0 0 → begins (drop i all) word ≡ false
begins-not word i all h some ne =
    let e : get_or (drop i all) 0 0 ≡ get_or all i 0 = rw (drop-cons all i 0 h) refl in
    begins-other (drop i all) word some (λ same. ne (sym e ∙ same))

-- what `&bytes[n..]` has
pub tail_is : (n : ℕ) (bytes : List ℕ) → take (length bytes - n) (drop n bytes) ≡ drop n bytes
tail_is n bytes = take_all (length bytes - n) (drop n bytes) (omega (arith, length-drop n bytes))

pub tail-first : (test : ℕ → Bool) (n : ℕ) (bytes : List ℕ) (r : Option ℕ) → IsFirstByte test (take (length bytes - n) (drop n bytes)) r → IsFirstByte test (drop n bytes) r
tail-first test n bytes r h = subst (λ hay. IsFirstByte test hay r) (tail_is n bytes) h

-- bytes without the word's first one among them
pub word-pass : (word : List ℕ) (at to : ℕ) (bytes : List ℕ) → 0 < length word → at ≤ to → to ≤ length bytes →
    ((i : ℕ) → i < to - at → (get_or (drop at bytes) i 0 == get_or word 0 0) ≡ true → ⊥) → (more : List ℕ) →
    first_word word at (drop at (bytes ++ more)) ≡ first_word word to (drop to (bytes ++ more))
word-pass word at to bytes some low high none more =
    word-skip word at to (bytes ++ more) low (omega (arith, length-append bytes more)) (λ i l h.
    begins-not word i (bytes ++ more) (omega (arith, length-append bytes more)) some (λ same.
    let n : at + (i - at) ≡ i = omega arith in
    let e : get_or (drop at bytes) (i - at) 0 ≡ get_or bytes i 0 = get_or-drop at bytes (i - at) 0 ∙ ap (λ m. get_or bytes m 0) n in
    let f : get_or (bytes ++ more) i 0 ≡ get_or bytes i 0 = get_or_append_left bytes more 0 i (omega arith) in
    none (i - at) (omega arith) (eq-eqb _ _ (e ∙ (sym f ∙ same)))))

-- a place where the word isn't, and more than enough bytes follow
pub word-one : (word : List ℕ) (at : ℕ) (bytes : List ℕ) → 0 < length word → length word ≤ length bytes - at → begins (drop at bytes) word ≡ false →
    (more : List ℕ) → first_word word at (drop at (bytes ++ more)) ≡ first_word word (at + 1) (drop (at + 1) (bytes ++ more))
word-one word at bytes some room absent more =
    word-skip word at (at + 1) (bytes ++ more) (omega arith) (omega (arith, length-append bytes more)) (λ i l h.
    let e : i ≡ at = omega arith in
    ap (λ k. begins (drop k (bytes ++ more)) word) e
    ∙ (ap (λ c. begins c word) (drop-append-le at bytes more (omega arith)) ∙ (begins-longer (drop at bytes) more word (omega (arith, length-drop at bytes)) ∙ absent)))

module _ (word : List ℕ) (from to : ℕ) (bytes : List ℕ)
    (same : (more : List ℕ) → first_word word from (drop from (bytes ++ more)) ≡ first_word word to (drop to (bytes ++ more))) where
  pub same-now : first_word word from (drop from bytes) ≡ first_word word to (drop to bytes)
  same-now = ap (λ l. first_word word from (drop from l)) (sym (append-nil bytes)) ∙ (same [] ∙ ap (λ l. first_word word to (drop to l)) (append-nil bytes))

  pub word-unended : from ≤ to → to ≤ length bytes → length bytes - to < length word → (found : Found) → found ≡ Unended (record { searched = to; quote = None }) → IsWordFound word from bytes found
  word-unended low high short found e =
      subst (IsWordFound word from bytes) (sym e) (
        same-now ∙ first_word-short word to (drop to bytes) (omega (arith, length-drop to bytes)),
        low,
        high,
        same,
        omega (arith, short),
      )

  pub word-found : 0 < length word → length word ≤ length bytes - to → begins (drop to bytes) word ≡ true → behind (length word) (first_word word from (drop from bytes)) ≡ Some (to + length word)
  word-found some room here =
      ap (behind (length word)) (same-now ∙ first_word-here word to (drop to bytes) (omega (arith, length-drop to bytes)) here)

module _ (test : ℕ → Bool) (first last : Option ℕ) (from to : ℕ) (bytes : List ℕ)
    (same : (more : List ℕ) → first_outside test first from (drop from (bytes ++ more)) ≡ first_outside test last to (drop to (bytes ++ more))) where
  pub outside-now : first_outside test first from (drop from bytes) ≡ first_outside test last to (drop to bytes)
  outside-now = ap (λ l. first_outside test first from (drop from l)) (sym (append-nil bytes)) ∙ (same [] ∙ ap (λ l. first_outside test last to (drop to l)) (append-nil bytes))

  pub outside-found : to < length bytes → is_outside last ≡ true → test (get_or bytes to 0) ≡ true → behind 1 (first_outside test first from (drop from bytes)) ≡ Some (to + 1)
  outside-found h out here =
      let both : (is_outside last && test (get_or bytes to 0)) ≡ true = rw (out, here) refl in
      ap (behind 1) (outside-now ∙ (first_outside-step test last to bytes h ∙ ap (λ t. cond t (Some to) (first_outside test (quote_after last (get_or bytes to 0)) (to + 1) (drop (to + 1) bytes))) both))

  pub outside-none : length bytes ≤ to → first_outside test first from (drop from bytes) ≡ None
  outside-none h = outside-now ∙ rw (drop_all to bytes h) refl

  pub outside-more : to ≡ length bytes → (more : List ℕ) → first_outside test first from (drop from (bytes ++ more)) ≡ first_outside test last (length bytes) more
  outside-more e more =
      same more ∙ (ap (λ n. first_outside test last n (drop n (bytes ++ more))) e
      ∙ ap (first_outside test last (length bytes)) (drop-append-le (length bytes) bytes more (omega arith) ∙ ap (λ l. l ++ more) (drop_all (length bytes) bytes (omega arith))))

module _ (scan : Scan) (ended : Bool) (bytes : List ℕ) (always : AlwaysResumes scan bytes) (f : Form) (is : form bytes ≡ f) where
  pub within-now : scan.searched ≤ length bytes
  within-now = omega (arith, (always []).within, ap length (append-nil bytes))

  pub shape_len-from : shape_len ended bytes ≡ end_from f scan ended bytes
  shape_len-from =
      ap (shape_len ended) (sym (append-nil bytes))
      ∙ (sym ((always []).same ended) ∙ (ap (λ l. end_from (form l) scan ended l) (append-nil bytes) ∙ ap (λ g. end_from g scan ended bytes) is))

  pub always-next : f ≢ Undecided → (next : Scan) → next.searched ≤ length bytes → ((more : List ℕ) (e : Bool) → end_from f next e (bytes ++ more) ≡ end_from f scan e (bytes ++ more)) → AlwaysResumes next bytes
  always-next decided next within same more =
      let stays : form (bytes ++ more) ≡ f = form-more bytes more (λ u. decided (sym is ∙ u)) ∙ is in
      record {
        within = omega (arith, length-append bytes more);
        same = λ e. ap (λ g. end_from g next e (bytes ++ more)) stays
            ∙ (same more e ∙ (ap (λ g. end_from g scan e (bytes ++ more)) (sym stays) ∙ (always more).same e));
      }

  pub found-text : f ≡ Text → (found : Found) → IsTextFound scan.searched ended bytes found → IsFound ended bytes found
  found-text t (Whole len) h = shape_len-from ∙ (ap (λ g. end_from g scan ended bytes) t ∙ h)
  found-text t (Unended next) h = (
    shape_len-from ∙ (ap (λ g. end_from g scan ended bytes) t ∙ h.0),
    always-next (λ u. absurd (text-decided (sym t ∙ u))) next (omega (arith, h.1)) (λ more e.
        ap (λ g. end_from g next e (bytes ++ more)) t
        ∙ (ap (text_end e (bytes ++ more)) (text-from next more (h.1) ∙ sym (h.2 more)) ∙ sym (ap (λ g. end_from g scan e (bytes ++ more)) t))),
  ) where
    text-decided : Text ≡ Undecided → ⊥
    text-decided u = cc

    text-from : (next : Scan) (more : List ℕ) → next.searched ≡ length bytes → first_byte is_less next.searched (drop next.searched (bytes ++ more)) ≡ first_byte is_less (length bytes) more
    text-from next more e =
        ap (λ n. first_byte is_less n (drop n (bytes ++ more))) e ∙ ap (first_byte is_less (length bytes)) (drop-append_seam bytes more)

  pub found-word : f ≢ Undecided → (word : List ℕ) (k : ℕ) → ((s : Scan) (e : Bool) (b : List ℕ) → end_from f s e b ≡ behind (length word) (first_word word (max s.searched k) (drop (max s.searched k) b))) →
      (found : Found) → IsWordFound word (max scan.searched k) bytes found → IsFound ended bytes found
  found-word decided word k by (Whole len) h = shape_len-from ∙ (by scan ended bytes ∙ h)
  found-word decided word k by (Unended next) h =
      let e : max next.searched k ≡ next.searched = omega (arith, h.1) in (
        shape_len-from ∙ (by scan ended bytes ∙ ap (behind (length word)) h.0),
        always-next decided next h.2 (λ more e'. by next e' (bytes ++ more)
            ∙ (ap (behind (length word)) (ap (λ n. first_word word n (drop n (bytes ++ more))) e ∙ sym (h.3 more)) ∙ sym (by scan e' (bytes ++ more)))),
      )

  pub found-outside : f ≢ Undecided → (bracket : Bool) → ((s : Scan) (e : Bool) (b : List ℕ) → end_from f s e b ≡ behind 1 (first_outside (ending_test bracket) s.quote s.searched (drop s.searched b))) →
      (found : Found) → IsOutsideFound (ending_test bracket) scan bytes found → IsFound ended bytes found
  found-outside decided bracket by (Whole len) h = shape_len-from ∙ (by scan ended bytes ∙ h)
  found-outside decided bracket by (Unended next) h = (
    shape_len-from ∙ (by scan ended bytes ∙ ap (behind 1) h.0),
    always-next decided next (omega (arith, h.1)) (λ more e. by next e (bytes ++ more)
        ∙ (ap (behind 1) (ap (λ n. first_outside (ending_test bracket) next.quote n (drop n (bytes ++ more))) h.1
        ∙ (ap (first_outside (ending_test bracket) next.quote (length bytes)) (drop-append_seam bytes more) ∙ sym (h.2 more))) ∙ sym (by scan e (bytes ++ more)))),
  )

-- a search that begins goes on from the beginning
pub starts : (bytes : List ℕ) → Resumes (record { searched = 0; quote = None }) bytes
starts bytes = record { within = omega arith; same = λ ended. from-start (form bytes) ended bytes } where
  from-start : (f : Form) (ended : Bool) (bytes : List ℕ) → end_from f (record { searched = 0; quote = None }) ended bytes ≡ end_by f ended bytes
  from-start Text ended bytes = refl
  from-start Comment ended bytes = refl
  from-start CData ended bytes = refl
  from-start Instruction ended bytes = refl
  from-start Declaration ended bytes = refl
  from-start Tag ended bytes = refl
  from-start Undecided ended bytes = refl
