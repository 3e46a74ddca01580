use Rattle.std.proofs.Common.{◌≡◌, ◌++◌}
use Rattle.result_writer.proofs.in_force.InForce.append.Given as goal

-- the bindings so far are appended
abbrev pub invariant-loop-binding : goal.invariant-loop-binding
invariant-loop-binding l = l.self ≡ l.initial.self ++ l.yielded
