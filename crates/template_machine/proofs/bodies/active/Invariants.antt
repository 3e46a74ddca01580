use Rattle.std.proofs.Common.{◌≡◌, ◌≤◌, ◌++◌, length, reverse}
use Rattle.template_machine.specs.Bodies.{active_in, below}
use Rattle.template_machine.proofs.bodies.active.Given as goal

abbrev pub invariant-loop-under : goal.invariant-loop-under
invariant-loop-under l = record {
  within : l.top ≤ length l.frames.frames;
  done : l.active ++ active_in l.level (below l.top l.frames.frames) ≡ active_in l.level (reverse l.frames.frames);
}

abbrev pub decreases-loop-under : goal.decreases-loop-under
decreases-loop-under l = l.top
