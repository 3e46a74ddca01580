-- Laws of the first place of a byte or a word.
use Rattle.std.proofs.Common.{◌≡◌, ◌≢◌, ℕ, zero, suc, ◌+◌, ◌<◌, ◌≤◌, Bool, true, false, ◌&&◌, ◌==◌, List, [], ◌∷◌, ◌++◌, Option, Some, None, length, get_or, drop, refl, sym, ap, ◌∙◌, arith, ⊎_elim, cond, add-one, drop-cons, add-zero}
use Rattle.std.proofs.lemmas.Bool.{cases_Bool, eqb-true, eq-eqb, ne_eqb, eqb-false}
use Rattle.std.specs.List.{starts_with}
use Rattle.xml_tokens.specs.Places.{begins, is_part, first_byte, first_word, quote_after, is_outside, first_outside}

pub eqb-sym : (a b : ℕ) → (a == b) ≡ (b == a)
eqb-sym a b = ⊎_elim (λ (t : (a == b) ≡ true). t ∙ sym (eq-eqb b a (sym (eqb-true a b t)))) (λ (f : (a == b) ≡ false). f ∙ sym (ne_eqb b a (λ e. eqb-false a b f (sym e)))) (cases_Bool (a == b))

pub starts_with-begins : (bytes word : List ℕ) → starts_with (λ x y. x == y) bytes word ≡ begins bytes word
starts_with-begins bytes [] = refl
starts_with-begins [] (w ∷ ws) = refl
starts_with-begins (b ∷ bs) (w ∷ ws) = rw (eqb-sym w b) (ap (λ t. (b == w) && t) (starts_with-begins bs ws))

pub begins-length : (bytes word : List ℕ) → begins bytes word ≡ true → length word ≤ length bytes
begins-length bytes [] h = omega arith
begins-length [] (w ∷ ws) h = absurd (cc)
begins-length (b ∷ bs) (w ∷ ws) h =
    elim (b == w) as (λ t. (t && begins bs ws) ≡ true → suc (length ws) ≤ suc (length bs)) [ true ↦ (λ k. omega (arith, begins-length bs ws k)) | false ↦ (λ k. absurd cc) ] h

pub is_part-begins : (bytes word : List ℕ) → length bytes < length word → begins word bytes ≡ is_part bytes word
is_part-begins bytes [] h = absurd (omega arith)
is_part-begins [] (w ∷ ws) h = refl
is_part-begins (b ∷ bs) (w ∷ ws) h = rw (eqb-sym w b) (ap (λ t. (b == w) && t) (is_part-begins bs ws (omega arith)))

pub is_part-length : (bytes word : List ℕ) → length word ≤ length bytes → is_part bytes word ≡ false
is_part-length bytes [] h = refl
is_part-length [] (w ∷ ws) h = absurd (omega arith)
is_part-length (b ∷ bs) (w ∷ ws) h = elim (b == w) as (λ t. (t && is_part bs ws) ≡ false) [ true ↦ is_part-length bs ws (omega arith) | false ↦ refl ]

-- what the bytes begin with stays, once it is decided
pub begins-more : (bytes more word : List ℕ) → is_part bytes word ≡ false → begins (bytes ++ more) word ≡ begins bytes word
begins-more bytes more [] h = refl
begins-more [] more (w ∷ ws) h = absurd cc
begins-more (b ∷ bs) more (w ∷ ws) h =
    elim (b == w) as (λ t. (t && is_part bs ws) ≡ false → (t && begins (bs ++ more) ws) ≡ (t && begins bs ws)) [ true ↦ (λ k. begins-more bs more ws k) | false ↦ (λ k. refl) ] h

pub is_part-more : (bytes more word : List ℕ) → is_part bytes word ≡ false → is_part (bytes ++ more) word ≡ false
is_part-more bytes more [] h = refl
is_part-more [] more (w ∷ ws) h = absurd cc
is_part-more (b ∷ bs) more (w ∷ ws) h =
    elim (b == w) as (λ t. (t && is_part bs ws) ≡ false → (t && is_part (bs ++ more) ws) ≡ false) [ true ↦ (λ k. is_part-more bs more ws k) | false ↦ (λ k. refl) ] h

pub begins-longer : (bytes more word : List ℕ) → length word ≤ length bytes → begins (bytes ++ more) word ≡ begins bytes word
begins-longer bytes more word h = begins-more bytes more word (is_part-length bytes word h)

pub first_byte-skip : (test : ℕ → Bool) (at : ℕ) (bytes : List ℕ) (k : ℕ) → k ≤ length bytes → ((i : ℕ) → i < k → test (get_or bytes i 0) ≡ false) → first_byte test at bytes ≡ first_byte test (at + k) (drop k bytes)
first_byte-skip test at bytes zero h none = ap (λ n. first_byte test n bytes) (sym (add-zero at))
first_byte-skip test at [] (suc k) h none = absurd (omega arith)
first_byte-skip test at (b ∷ bs) (suc k) h none =
    let e : test b ≡ false = none 0 (omega arith) in
    let n : (at + 1) + k ≡ at + suc k = omega arith in
    rw e (first_byte-skip test (at + 1) bs k (omega arith) (λ i l. none (suc i) (omega arith)) ∙ ap (λ m. first_byte test m (drop k bs)) n)

pub first_byte-here : (test : ℕ → Bool) (at : ℕ) (bytes : List ℕ) → 0 < length bytes → test (get_or bytes 0 0) ≡ true → first_byte test at bytes ≡ Some at
first_byte-here test at [] h t = absurd (omega arith)
first_byte-here test at (b ∷ bs) h t = rw t refl

pub first_word-skip : (word : List ℕ) (at : ℕ) (bytes : List ℕ) (k : ℕ) → k ≤ length bytes → ((i : ℕ) → i < k → begins (drop i bytes) word ≡ false) → first_word word at bytes ≡ first_word word (at + k) (drop k bytes)
first_word-skip word at bytes zero h none = ap (λ n. first_word word n bytes) (sym (add-zero at))
first_word-skip word at [] (suc k) h none = absurd (omega arith)
first_word-skip word at (b ∷ bs) (suc k) h none =
    let e : begins (b ∷ bs) word ≡ false = none 0 (omega arith) in
    let n : (at + 1) + k ≡ at + suc k = omega arith in
    rw e (first_word-skip word (at + 1) bs k (omega arith) (λ i l. none (suc i) (omega arith)) ∙ ap (λ m. first_word word m (drop k bs)) n)

pub first_word-here : (word : List ℕ) (at : ℕ) (bytes : List ℕ) → 0 < length bytes → begins bytes word ≡ true → first_word word at bytes ≡ Some at
first_word-here word at [] h t = absurd (omega arith)
first_word-here word at (b ∷ bs) h t = rw t refl

pub first_word-short : (word : List ℕ) (at : ℕ) (bytes : List ℕ) → length bytes < length word → first_word word at bytes ≡ None
first_word-short word at [] h = refl
first_word-short word at (b ∷ bs) h =
    ⊎_elim (λ (t : begins (b ∷ bs) word ≡ true). absurd (omega (arith, begins-length (b ∷ bs) word t)))
    (λ (f : begins (b ∷ bs) word ≡ false). rw f (first_word-short word (at + 1) bs (omega arith))) (cases_Bool (begins (b ∷ bs) word))

-- a word begins with its first byte
pub begins-other : (bytes word : List ℕ) → 0 < length word → get_or bytes 0 0 ≢ get_or word 0 0 → begins bytes word ≡ false
begins-other bytes [] h ne = absurd (omega arith)
begins-other [] (w ∷ ws) h ne = refl
begins-other (b ∷ bs) (w ∷ ws) h ne = rw (ne_eqb b w ne) refl

-- one byte further
pub first_outside-step : (test : ℕ → Bool) (quote : Option ℕ) (at : ℕ) (bytes : List ℕ) → at < length bytes →
    first_outside test quote at (drop at bytes)
    ≡ cond (is_outside quote && test (get_or bytes at 0)) (Some at) (first_outside test (quote_after quote (get_or bytes at 0)) (at + 1) (drop (at + 1) bytes))
first_outside-step test quote at bytes h = rw (drop-cons bytes at 0 h, add-one at) refl

pub is_part-short : (bytes word : List ℕ) → is_part bytes word ≡ true → length bytes < length word
is_part-short bytes [] h = absurd cc
is_part-short [] (w ∷ ws) h = omega arith
is_part-short (b ∷ bs) (w ∷ ws) h =
    elim (b == w) as (λ t. (t && is_part bs ws) ≡ true → suc (length bs) < suc (length ws)) [ true ↦ (λ k. omega (arith, is_part-short bs ws k)) | false ↦ (λ k. absurd cc) ] h
