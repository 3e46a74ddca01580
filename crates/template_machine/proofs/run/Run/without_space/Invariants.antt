use Rattle.std.proofs.Common.{◌≡◌, ℕ, List, ◌++◌}
use Rattle.template_machine.specs.Acting.{without_space}
use Rattle.template_machine.proofs.Targeted.{still_written}
use Rattle.template_machine.proofs.run.Run.without_space.Given as goal

-- whatever follows, what is made and what is still to be written are what is left of the text
abbrev pub invariant-loop-c : goal.invariant-loop-c
invariant-loop-c l = (more : List ℕ) → without_space (l.yielded ++ more) ≡ l.made ++ still_written l.made more
