use Rattle.std.proofs.Common.{◌≡◌, ℕ, List, length}
use Rattle.result_writer.specs.Table.{bound_from}
use Rattle.result_writer.proofs.in_force.last_uri.Given as goal

-- no binding behind the rest has the prefix
abbrev pub invariant-loop-last : goal.invariant-loop-last
invariant-loop-last l = (u : List ℕ) → bound_from u l.rest l.prefix ≡ bound_from u l.bindings l.prefix

abbrev pub decreases-loop-last : goal.decreases-loop-last
decreases-loop-last l = length l.rest
