use Rattle.std.proofs.Common.{◌≡◌, take}
use Rattle.result_writer.proofs.steady.are_same.Given as goal

-- those so far are the same
abbrev pub invariant-loop-at : goal.invariant-loop-at
invariant-loop-at l = take l.at l.bindings ≡ take l.at l.others
