use Rattle.std.proofs.Common.{◌≡◌, ◌++◌, take}
use Rattle.group_scope.specs.Rows.{Key, entered, row}
use Rattle.group_scope.proofs.rows.Rows.push_all.Given as goal

-- The rows of the homes so far have the entry.
abbrev pub invariant-loop-home : goal.invariant-loop-home
invariant-loop-home l = (key : Key) → row l.self key ≡ row l.fn.self key ++ entered (take l.home-index l.homes) l.test key l.entry
