use Rattle.std.proofs.Common.{◌≡◌, flat_map}
use Rattle.stxpath_values.specs.Words.{translated}
use Rattle.stxpath_values.proofs.texts.translation.Given as goal

abbrev pub invariant-loop-c : goal.invariant-loop-c
invariant-loop-c l = l.made ≡ flat_map (translated l.from.items l.to.items) l.yielded
