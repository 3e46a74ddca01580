use Rattle.std.proofs.Common.{◌≡◌, ◌++◌}
use Rattle.stxpath_eval.proofs.held.push_items.Given as goal

abbrev pub invariant-loop-item : goal.invariant-loop-item
invariant-loop-item l = l.all ≡ l.initial.all ++ l.yielded
