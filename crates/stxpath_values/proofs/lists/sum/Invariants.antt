use Rattle.std.proofs.Common.{◌≡◌, ◌*◌, ◌^◌, drop, ◌+ℤ◌, ◌≤ℤ◌, pos, neg_ℤ}
use Rattle.stxpath_values.specs.Outcome.{and_then, each}
use Rattle.stxpath_values.specs.Conversion.{atom_whole}
use Rattle.stxpath_values.specs.Numeral.{whole}
use Rattle.stxpath_values.specs.Functions.{total}
use Rattle.stxpath_values.proofs.lists.sum.Given as goal

-- each number adds at most 2^63 to what the sum may be
abbrev pub invariant-loop-atom : goal.invariant-loop-atom
invariant-loop-atom l = record {
  value : and_then (each atom_whole (drop l.atom-index l.atoms)) (λ zs. whole (l.sum +ℤ total zs)) ≡ and_then (each atom_whole l.atoms) (λ zs. whole (total zs));
  low : neg_ℤ (pos (l.atom-index * 2 ^ 63)) ≤ℤ l.sum;
  high : l.sum ≤ℤ pos (l.atom-index * 2 ^ 63);
}
