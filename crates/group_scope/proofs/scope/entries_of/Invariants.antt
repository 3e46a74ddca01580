use Rattle.std.proofs.Common.{◌≡◌, take}
use Rattle.group_scope.specs.Filling.{entries_from}
use Rattle.group_scope.proofs.scope.entries_of.Given as goal

-- The entries of the templates so far.
abbrev pub invariant-loop-index : goal.invariant-loop-index
invariant-loop-index l = l.entries.items ≡ entries_from 0 (take l.index l.sheet.templates)
