use Rattle.std.proofs.Common.{◌≡◌, ◌++◌, drop}
use Rattle.stxpath_eval.specs.Nodes.{passing_from}
use Rattle.stxpath_eval.proofs.nodes.push_passing.Given as goal

-- what is appended, and what is still to be, is all that passes
abbrev pub invariant-loop-index : goal.invariant-loop-index
invariant-loop-index l = l.items ++ passing_from l.place l.index l.test (drop l.index l.attrs) ≡ l.initial.items ++ passing_from l.place 0 l.test l.attrs
