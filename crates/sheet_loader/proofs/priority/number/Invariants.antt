use Rattle.sheet_loader.proofs.Counting.{Counts}
use Rattle.sheet_loader.proofs.priority.number.Given as goal

abbrev pub invariant-loop-digit : goal.invariant-loop-digit
invariant-loop-digit l = Counts l.digits l.digit-index l.number
