use Rattle.std.proofs.Common.{◌≡◌, ◌≤◌, length}
use Rattle.template_machine.specs.Bodies.{below, template_in}
use Rattle.template_machine.proofs.bodies.template_below.Given as goal

-- the loops above are passed over
abbrev pub invariant-loop-under : goal.invariant-loop-under
invariant-loop-under l = record {
  within : l.top ≤ length l.frames.frames;
  same : template_in (below l.top l.frames.frames) ≡ template_in (below l.place l.frames.frames);
}

abbrev pub decreases-loop-under : goal.decreases-loop-under
decreases-loop-under l = l.top
