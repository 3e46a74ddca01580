use Rattle.std.proofs.Common.{◌≡◌, ◌++◌, map}
use Rattle.result_writer.proofs.in_force.InForce.into_list.Given as goal

-- the bindings of the entries so far are appended
abbrev pub invariant-loop-entry : goal.invariant-loop-entry
invariant-loop-entry l = l.bindings ≡ l.initial.bindings ++ map (λ e. e.binding) l.yielded
