-- Words with white space between them.
use Rattle.std.proofs.Common.{◌≡◌, ℕ, suc, ◌+◌, Bool, true, false, cond, List, [], ◌∷◌, ◌++◌, take, drop, get_or, Option, Some, None, refl, sym, ap, ◌∙◌, arith, append_assoc, append-nil}
use Rattle.std.specs.Prelude.{if◌then◌else◌}
use Rattle.std.specs.List.{list_any, position, prefix_len}
use Rattle.std.specs.Option.{option_map}
use Rattle.std.proofs.Math.Seq.{drop-cons}
use Rattle.std.proofs.lemmas.Bool.{or_parts}
use Rattle.stx_base.specs.Character.{is_space}
use Rattle.sheet_model.specs.declared.pass.Kinds.{Kinds}
use Rattle.sheet_model.specs.declared.pass.Pass.TheVariants as pass
use Rattle.sheet_loader.specs.Values.{kinds_named, single_spaced, with_kind, words_of}
use Rattle.sheet_loader.proofs.Cutting.{cut, none, nowhere, passes, within}

words-space : (w more acc : List ℕ) (s : ℕ) → list_any is_space w ≡ false → is_space s ≡ true
    → words_of acc (single_spaced false (w ++ s ∷ more)) ≡ (acc ++ w) ∷ words_of [] (single_spaced true more)
words-space [] more acc s free e =
    ap (λ t. words_of acc (s ∷ single_spaced t more)) e
    ∙ ap (λ t. if t then acc ∷ words_of [] (single_spaced true more) else words_of (acc ++ s ∷ []) (single_spaced true more)) e
    ∙ ap (λ l. l ∷ words_of [] (single_spaced true more)) (sym (append-nil acc))
words-space (c ∷ w) more acc s free e =
    let parts = or_parts (is_space c) (list_any is_space w) free in
    ap (λ t. words_of acc (c ∷ single_spaced t (w ++ s ∷ more))) parts.0
    ∙ ap (λ t. if t then acc ∷ words_of [] (single_spaced false (w ++ s ∷ more)) else words_of (acc ++ c ∷ []) (single_spaced false (w ++ s ∷ more))) parts.0
    ∙ words-space w more (acc ++ c ∷ []) s parts.1 e
    ∙ ap (λ l. l ∷ words_of [] (single_spaced true more)) (append_assoc acc (c ∷ []) w)

last-from : (w acc : List ℕ) → list_any is_space w ≡ false → words_of acc (single_spaced false w) ≡ (acc ++ w) ∷ []
last-from [] acc free = ap (λ l. l ∷ []) (sym (append-nil acc))
last-from (c ∷ w) acc free =
    let parts = or_parts (is_space c) (list_any is_space w) free in
    ap (λ t. words_of acc (c ∷ single_spaced t w)) parts.0
    ∙ ap (λ t. if t then acc ∷ words_of [] (single_spaced false w) else words_of (acc ++ c ∷ []) (single_spaced false w)) parts.0
    ∙ last-from w (acc ++ c ∷ []) parts.1
    ∙ ap (λ l. l ∷ []) (append_assoc acc (c ∷ []) w)

behind_by_case : (c : ℕ) (cs : List ℕ) (t : Bool) → is_space c ≡ t
    → single_spaced true cs ≡ single_spaced false (drop (prefix_len is_space cs) cs)
    → single_spaced true (c ∷ cs) ≡ single_spaced false (drop (prefix_len is_space (c ∷ cs)) (c ∷ cs))
behind_by_case c cs true e again =
    let n : 1 + prefix_len is_space cs ≡ suc (prefix_len is_space cs) = omega arith in
    ap (λ t. if t then single_spaced true cs else c ∷ single_spaced (is_space c) cs) e
    ∙ again
    ∙ sym (ap (λ t. single_spaced false (drop (cond t (1 + prefix_len is_space cs) 0) (c ∷ cs))) e ∙ ap (λ m. single_spaced false (drop m (c ∷ cs))) n)
behind_by_case c cs false e again =
    ap (λ t. if t then single_spaced true cs else c ∷ single_spaced (is_space c) cs) e
    ∙ sym (ap (λ t. single_spaced false (drop (cond t (1 + prefix_len is_space cs) 0) (c ∷ cs))) e)

spaced-first : (s : ℕ) (more : List ℕ) → is_space s ≡ true → single_spaced true (s ∷ more) ≡ single_spaced true more
spaced-first s more e = ap (λ t. if t then single_spaced true more else s ∷ single_spaced (is_space s) more) e

spaced-behind : (more : List ℕ) → single_spaced true more ≡ single_spaced false (drop (prefix_len is_space more) more)
spaced-behind [] = refl
spaced-behind (c ∷ cs) = behind_by_case c cs (is_space c) refl (spaced-behind cs)

-- the first word of several, and what stands behind the white space after it
words-step : (rest : List ℕ) (k : ℕ) → Some k ≡ position is_space rest
    → words_of [] (single_spaced false rest) ≡ take k rest ∷ words_of [] (single_spaced false (drop (prefix_len is_space (drop k rest)) (drop k rest)))
words-step rest k e =
    let n : suc k ≡ k + 1 = omega arith in
    let behind : drop k rest ≡ get_or rest k 0 ∷ drop (k + 1) rest =
    drop-cons rest k 0 (within is_space rest k e) ∙ ap (λ m. get_or rest k 0 ∷ drop m rest) n in
    ap (λ l. words_of [] (single_spaced false l)) (cut is_space rest k e)
    ∙ words-space (take k rest) (drop (k + 1) rest) [] (get_or rest k 0) (none is_space rest k e) (passes is_space rest k e)
    ∙ ap (λ l. take k rest ∷ words_of [] l)
    (sym (spaced-first (get_or rest k 0) (drop (k + 1) rest) (passes is_space rest k e)) ∙ spaced-behind (get_or rest k 0 ∷ drop (k + 1) rest))
    ∙ ap (λ l. take k rest ∷ words_of [] (single_spaced false (drop (prefix_len is_space l) l))) (sym behind)

-- one word more
module _ (kinds : Kinds) (rest word : List ℕ) (k : ℕ) (e : Some k ≡ position is_space rest) (w : word ≡ take k rest) where
  pub step-none : None ≡ with_kind word kinds → None ≡ kinds_named (Some kinds) (words_of [] (single_spaced false rest))
  step-none h =
      ap (λ o. kinds_named o (words_of [] (single_spaced false (drop (prefix_len is_space (drop k rest)) (drop k rest))))) h
      ∙ ap (λ l. kinds_named (Some kinds) (l ∷ words_of [] (single_spaced false (drop (prefix_len is_space (drop k rest)) (drop k rest))))) w
      ∙ ap (kinds_named (Some kinds)) (sym (words-step rest k e))

  pub step-some : (r : Kinds) (behind left : List ℕ) → behind ≡ drop k rest → left ≡ drop (prefix_len is_space behind) behind → Some r ≡ with_kind word kinds
      → kinds_named (Some r) (words_of [] (single_spaced false left)) ≡ kinds_named (Some kinds) (words_of [] (single_spaced false rest))
  step-some r behind left b l h =
      ap (λ x. kinds_named (Some r) (words_of [] (single_spaced false x))) (l ∙ ap (λ x. drop (prefix_len is_space x) x) b)
      ∙ ap (λ o. kinds_named o (words_of [] (single_spaced false (drop (prefix_len is_space (drop k rest)) (drop k rest))))) h
      ∙ ap (λ x. kinds_named (Some kinds) (x ∷ words_of [] (single_spaced false (drop (prefix_len is_space (drop k rest)) (drop k rest))))) w
      ∙ ap (kinds_named (Some kinds)) (sym (words-step rest k e))

last-word : (rest : List ℕ) → list_any is_space rest ≡ false → words_of [] (single_spaced false rest) ≡ rest ∷ []
last-word rest free = last-from rest [] free

named-end : (o : Option Kinds) → option_map pass.Kinds o ≡ kinds_named o []
named-end None = refl
named-end (Some kinds) = refl

-- the last word
pub step-end : (kinds : Kinds) (rest : List ℕ) → None ≡ position is_space rest
    → option_map pass.Kinds (with_kind rest kinds) ≡ kinds_named (Some kinds) (words_of [] (single_spaced false rest))
step-end kinds rest e =
    named-end (with_kind rest kinds) ∙ ap (kinds_named (Some kinds)) (sym (last-word rest (nowhere is_space rest e)))
