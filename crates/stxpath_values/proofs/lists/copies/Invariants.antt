use Rattle.std.proofs.Common.{◌≡◌, take}
use Rattle.stxpath_values.proofs.lists.copies.Given as goal

abbrev pub invariant-loop-atom : goal.invariant-loop-atom
invariant-loop-atom l = l.made ≡ take l.atom-index l.atoms
