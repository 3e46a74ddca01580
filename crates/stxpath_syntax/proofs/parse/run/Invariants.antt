use Rattle.std.proofs.Common.{◌≡◌, List, ◌++◌, Some, length}
use Rattle.stxpath_syntax.specs.declared.token.Placed.{Placed}
use Rattle.stxpath_syntax.specs.Machine.{run}
use Rattle.stxpath_syntax.proofs.parse.run.Given as goal

abbrev pub invariant-tokens : goal.invariant-tokens
invariant-tokens l = (front : List Placed) × (l.fn.tokens ≡ front ++ l.rest) × (run l.dialect l.scope front l.fn.begun ≡ Some l.state)

abbrev pub decreases-tokens : goal.decreases-tokens
decreases-tokens l = length l.rest
