use Rattle.std.proofs.Common.{◌≡◌, ◌++◌, take, map}
use Rattle.group_scope.specs.Choice.{alternatives_from}
use Rattle.group_scope.specs.Filling.{entry_of}
use Rattle.group_scope.specs.declared.rank.Category.TheVariants.{Own}
use Rattle.group_scope.proofs.scope.push_entries.Given as goal

-- The entries of the alternatives so far.
abbrev pub invariant-loop-place : goal.invariant-loop-place
invariant-loop-place l =
    l.entries.items ≡ l.fn.entries.items ++ map entry_of (alternatives_from l.number l.template Own 0 (take l.place l.template.pattern.alternatives))
