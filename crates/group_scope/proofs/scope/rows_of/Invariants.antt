use Rattle.std.proofs.Common.{take}
use Rattle.group_scope.specs.Filling.{AreFilledBy}
use Rattle.group_scope.proofs.scope.rows_of.Given as goal

-- The rows have the entries so far.
abbrev pub invariant-loop-entry : goal.invariant-loop-entry
invariant-loop-entry l = AreFilledBy l.sheet l.words (take l.entry-index l.entries) l.rows
