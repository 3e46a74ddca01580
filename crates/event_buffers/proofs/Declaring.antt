-- The declared content of a sheet's buffers.
use Rattle.std.proofs.Common.{◌≡◌, ℕ, zero, suc, ◌+◌, ◌<◌, ◌≤◌, List, [], ◌∷◌, length, get_or, arith}
use Rattle.std.specs.List.{sum_by}
use Rattle.std.proofs.lemmas.List.Sums.{sum_by-cons}
use Rattle.sheet_model.specs.declared.sheet.Buffer.{Buffer}

-- each content is part of all
pub content_within : (bs : List Buffer) (i : ℕ) (d : Buffer) → i < length bs → length (get_or bs i d).content ≤ sum_by (λ (b : Buffer). length b.content) bs
content_within [] i d lt = absurd (omega arith)
content_within (b ∷ bs) zero d lt =
    let s : sum_by (λ (b : Buffer). length b.content) (b ∷ bs) ≡ length b.content + sum_by (λ (b : Buffer). length b.content) bs = sum_by-cons (λ (b : Buffer). length b.content) b bs in
    let goal : length b.content ≤ sum_by (λ (b : Buffer). length b.content) (b ∷ bs) = omega (arith, s) in goal
content_within (b ∷ bs) (suc i) d lt =
    let h = content_within bs i d (omega arith) in
    let s : sum_by (λ (b : Buffer). length b.content) (b ∷ bs) ≡ length b.content + sum_by (λ (b : Buffer). length b.content) bs = sum_by-cons (λ (b : Buffer). length b.content) b bs in
    let goal : length (get_or bs i d).content ≤ sum_by (λ (b : Buffer). length b.content) (b ∷ bs) = omega (arith, h, s) in goal
