use Rattle.std.proofs.Common.{ap, ◌∙◌}
use Rattle.frame_stack.specs.Change.{changed, with_turn}
use Rattle.frame_stack.specs.Stack.{with_frames}
use Rattle.frame_stack.proofs.Kept.{keeps_turn}
use Rattle.frame_stack.proofs.Standing.{changed_counted, changed_frames}
use Rattle.frame_stack.proofs.stack.Frames.set_turn.Goals as goal

pub invariant_of-self : goal.invariant_of-self
invariant_of-self c =
    changed_counted (with_turn c.args.bound) (keeps_turn c.args.bound) c.self.inside.entries.items c.args.place c.index_mut.result.now c.set_turn.new.self c.args.self.now.frames
    (ap (λ s. s.frames) c.self.view_is) c.requires c.index_mut.ensures.value c.set_turn.ensures c.self.invariant

pub returns : goal.returns
returns c =
    ap (λ fs. record { frames = fs })
    (changed_frames (with_turn c.args.bound) c.self.inside.entries.items c.args.place c.index_mut.result.now c.set_turn.new.self c.args.self.now.frames
    (ap (λ s. s.frames) c.self.view_is) c.requires c.index_mut.ensures.value c.set_turn.ensures)
    ∙ ap (λ s. with_frames (changed (with_turn c.args.bound) c.args.place c.args.self.now.frames) s) c.self.view_is
