use Rattle.std.proofs.Common.{◌≡◌, ◌≤◌, length, reverse}
use Rattle.template_machine.specs.Bodies.{all_spent}
use Rattle.template_machine.proofs.Below.{done_at}
use Rattle.template_machine.proofs.bodies.spend_children.Given as goal

abbrev pub invariant-loop-under : goal.invariant-loop-under
invariant-loop-under l = record {
  within : l.top ≤ length l.frames.frames;
  done : done_at l.level l.frames.frames l.top ≡ all_spent l.level (reverse l.initial.frames.frames);
}

abbrev pub decreases-loop-under : goal.decreases-loop-under
decreases-loop-under l = l.top
