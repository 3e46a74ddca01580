use Rattle.std.specs.Str.{chars}
use Rattle.sheet_loader.specs.Gathering.{values_in}
use Rattle.sheet_loader.proofs.TakingLemmas.{NoneOf}
use Rattle.sheet_loader.proofs.values.Values.place.Given as goal

abbrev pub invariant-loop-place : goal.invariant-loop-place
invariant-loop-place l = NoneOf (chars l.name) (values_in l.self) l.place
