use Rattle.std.proofs.Common.{◌≡◌, map, take}
use Rattle.stxpath_values.specs.Lent.{sequence_of}
use Rattle.stxpath_values.proofs.functions.lent_lists.Given as goal

abbrev pub invariant-loop-arg : goal.invariant-loop-arg
invariant-loop-arg l = map sequence_of l.lent.items ≡ take l.arg-index l.args
