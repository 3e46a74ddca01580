-- Priorities with a dot.
use Rattle.std.proofs.Common.{◌≡◌, ℕ, ◌+◌, ◌-◌, ◌*◌, ◌≤◌, ◌&&◌, List, length, take, drop, Option, Some, None, sym, ap, ◌∙◌, arith, length-drop}
use Rattle.std.specs.Prelude.{if◌then◌else◌}
use Rattle.std.specs.List.{position, position_or_len, before_first, after_first}
use Rattle.std.proofs.lemmas.List.{take_all}
use Rattle.sheet_loader.specs.Values.{are_digits, hundredths, is_dot, number, unsigned_priority}
use Rattle.sheet_loader.proofs.Cutting.{place, some}

-- what stands before the dot, and what stands behind it
abbrev pub parted : (front back : List ℕ) → Option ℕ
parted front back = if are_digits 1 6 front && are_digits 1 2 back then Some (number 0 front * 100 + hundredths back) else None

module _ (text : List ℕ) (k : ℕ) (e : Some k ≡ position is_dot text) where
  behind : take (length text - (k + 1)) (drop (k + 1) text) ≡ drop (k + 1) text
  behind = let len = length-drop (k + 1) text in let most : length (drop (k + 1) text) ≤ length text - (k + 1) = omega arith in
      take_all (length text - (k + 1)) (drop (k + 1) text) most

  at : position_or_len is_dot text ≡ k
  at = place is_dot text k e

  unsigned-parted : unsigned_priority text ≡ parted (before_first is_dot text) (after_first is_dot text)
  unsigned-parted =
      ap (λ t. if t then parted (before_first is_dot text) (after_first is_dot text)
      else (if are_digits 1 6 text then Some (number 0 text * 100) else None)) (some is_dot text k e)

  pub unsigned-there : parted (take k text) (take (length text - (k + 1)) (drop (k + 1) text)) ≡ unsigned_priority text
  unsigned-there =
      ap (parted (take k text)) behind
      ∙ sym (unsigned-parted ∙ ap (λ n. parted (take n text) (drop (n + 1) text)) at)
