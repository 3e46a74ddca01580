-- Comments and instructions as they are written are whole shapes.
use Rattle.std.proofs.Common.{◌≡◌, ℕ, suc, ◌+◌, Bool, true, false, not, ◌&&◌, ◌||◌, ◌==◌, List, [], ◌∷◌, ◌++◌, Some, length, refl, ap, ◌∙◌, arith, append_assoc, length-append}
use Rattle.std.specs.Prelude.{codes, encode_utf8_all, if◌then◌else◌}
use Rattle.std.specs.List.{list_all}
use Rattle.std.proofs.lemmas.Bool.{and_parts}
use Rattle.stx_base.specs.Character.{is_ncname}
use Rattle.xml_tokens.specs.Cuts.{IsWhole}
use Rattle.xml_tokens.specs.Places.{begins, first_word}
use Rattle.xml_tokens.specs.Shape.{behind}
use Rattle.result_writer.specs.Allowed.{ends_in, has_pair, is_empty, is_good_comment, is_good_data, is_good_target}
use Rattle.result_writer.specs.Target.{comment_text, instruction_text}
use Rattle.stx_engine.specs.Nesting.{Neither, effect}
use Rattle.stx_engine.proofs.Dressing.{ncname_inner}
use Rattle.stx_engine.proofs.Markup.{inner_is, is_inner, negated}

and_false : (t : Bool) → (t && false) ≡ false
and_false true = refl
and_false false = refl

or_none : (s t : Bool) → (s || t) ≡ false → (s ≡ false) × (t ≡ false)
or_none true t h = absurd cc
or_none false t h = (refl, h)

-- a test that fails still fails beside others
fails : (s t u : Bool) → (s && t) ≡ false → (s && (t && u)) ≡ false
fails true true u h = absurd cc
fails true false u h = refl
fails false t u h = refl

-- `-->` first stands behind bytes without `--`
comment_closed : (bytes more : List ℕ) (at : ℕ) → has_pair 45 45 bytes ≡ false → first_word (codes "-->") at (bytes ++ 45 ∷ 45 ∷ 62 ∷ more) ≡ Some (at + length bytes)
comment_closed [] more at h = let e : at ≡ at + 0 = omega arith in ap (λ n. Some n) e
comment_closed (b ∷ []) more at h =
    let n : at + 1 ≡ at + suc 0 = omega arith in
    ap (λ t. if t then Some at else Some (at + 1)) (and_false (b == 45)) ∙ ap (λ n. Some n) n
comment_closed (b ∷ c ∷ bs) more at h =
    let apart = or_none ((b == 45) && (c == 45)) (has_pair 45 45 (c ∷ bs)) h in
    let n : at + 1 + suc (length bs) ≡ at + suc (suc (length bs)) = omega arith in
    ap (λ t. if t then Some at else first_word (codes "-->") (at + 1) (c ∷ (bs ++ 45 ∷ 45 ∷ 62 ∷ more))) (fails (b == 45) (c == 45) (begins (bs ++ 45 ∷ 45 ∷ 62 ∷ more) (codes ">")) apart.0)
    ∙ comment_closed (c ∷ bs) more (at + 1) apart.1 ∙ ap (λ n. Some n) n

-- `?>` first stands behind bytes without it
instruction_closed : (bytes more : List ℕ) (at : ℕ) → has_pair 63 62 bytes ≡ false → first_word (codes "?>") at (bytes ++ 63 ∷ 62 ∷ more) ≡ Some (at + length bytes)
instruction_closed [] more at h = let e : at ≡ at + 0 = omega arith in ap (λ n. Some n) e
instruction_closed (b ∷ []) more at h =
    let n : at + 1 ≡ at + suc 0 = omega arith in
    ap (λ t. if t then Some at else Some (at + 1)) (and_false (b == 63)) ∙ ap (λ n. Some n) n
instruction_closed (b ∷ c ∷ bs) more at h =
    let apart = or_none ((b == 63) && (c == 62)) (has_pair 63 62 (c ∷ bs)) h in
    let n : at + 1 + suc (length bs) ≡ at + suc (suc (length bs)) = omega arith in
    ap (λ t. if t then Some at else first_word (codes "?>") (at + 1) (c ∷ (bs ++ 63 ∷ 62 ∷ more))) (fails (b == 63) (c == 62) true apart.0)
    ∙ instruction_closed (c ∷ bs) more (at + 1) apart.1 ∙ ap (λ n. Some n) n

pub comment_whole : (text more : List ℕ) → is_good_comment text ≡ true → IsWhole false (comment_text text) more
comment_whole text more h =
    let bytes = encode_utf8_all text in
    let pairs : has_pair 45 45 bytes ≡ false = negated (has_pair 45 45 bytes) (and_parts _ (not (has_pair 45 45 bytes)) (and_parts _ (not (ends_in 45 bytes)) h).0).1 in
    let n : 4 + length bytes + 3 ≡ suc (suc (suc (suc (length (bytes ++ 45 ∷ 45 ∷ 62 ∷ []))))) = omega (arith, length-append bytes (45 ∷ 45 ∷ 62 ∷ [])) in
    ap (λ l. behind 3 (first_word (codes "-->") 4 l)) (append_assoc bytes (45 ∷ 45 ∷ 62 ∷ []) more)
    ∙ ap (behind 3) (comment_closed bytes more 4 pairs) ∙ ap (λ n. Some n) n

pub comment_effect : (text : List ℕ) → effect (comment_text text) ≡ Neither
comment_effect text = refl

-- bytes of a name have no `?`
inner_pair : (bytes more : List ℕ) → list_all is_inner bytes ≡ true → has_pair 63 62 more ≡ false → has_pair 63 62 (bytes ++ more) ≡ false
inner_pair [] more h k = k
inner_pair (b ∷ bs) more h k =
    let both = and_parts (is_inner b) (list_all is_inner bs) h in
    rw (inner_is b both.0).question (inner_pair bs more both.1 k)

-- the data of an instruction, behind a space, or none
abbrev data_text : List ℕ → List ℕ
data_text text = if is_empty text then [] else codes " " ++ encode_utf8_all text

data_pair : (text : List ℕ) → is_good_data text ≡ true → has_pair 63 62 (data_text text) ≡ false
data_pair text h = by_empty (is_empty text) (negated (has_pair 63 62 (encode_utf8_all text)) (and_parts _ (not (has_pair 63 62 (encode_utf8_all text))) h).1) where
  by_empty : (t : Bool) → has_pair 63 62 (encode_utf8_all text) ≡ false → has_pair 63 62 (if t then [] else codes " " ++ encode_utf8_all text) ≡ false
  by_empty true none = refl
  by_empty false none = none

pub instruction_whole : (target text more : List ℕ) → is_good_target target ≡ true → is_good_data text ≡ true → IsWhole false (instruction_text target text) more
instruction_whole target text more h k =
    let inside = encode_utf8_all target ++ data_text text in
    let pairs : has_pair 63 62 inside ≡ false = inner_pair (encode_utf8_all target) (data_text text) (ncname_inner target (and_parts (is_ncname target) _ h).0) (data_pair text k) in
    let n : 2 + length inside + 2 ≡ suc (suc (length (inside ++ 63 ∷ 62 ∷ []))) = omega (arith, length-append inside (63 ∷ 62 ∷ [])) in
    ap (λ l. behind 2 (first_word (codes "?>") 2 l)) (append_assoc inside (63 ∷ 62 ∷ []) more)
    ∙ ap (behind 2) (instruction_closed inside more 2 pairs) ∙ ap (λ n. Some n) n

pub instruction_effect : (target text : List ℕ) → effect (instruction_text target text) ≡ Neither
instruction_effect target text = refl
