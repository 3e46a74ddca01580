use Rattle.std.proofs.Common.{◌≡◌, Some, false, [], length}
use Rattle.sheet_loader.specs.Values.{kinds_named, words_of, single_spaced}
use Rattle.sheet_loader.proofs.passing.kinds_named.Given as goal

abbrev pub invariant-loop-end : goal.invariant-loop-end
invariant-loop-end l = kinds_named (Some l.kinds) (words_of [] (single_spaced false l.rest)) ≡ kinds_named (Some l.initial.kinds) (words_of [] (single_spaced false l.text))

abbrev pub decreases-loop-end : goal.decreases-loop-end
decreases-loop-end l = length l.rest
