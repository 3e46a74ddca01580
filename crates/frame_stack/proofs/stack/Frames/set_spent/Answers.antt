use Rattle.std.proofs.Common.{ap, ◌∙◌}
use Rattle.frame_stack.specs.Change.{changed, with_spent}
use Rattle.frame_stack.specs.Stack.{with_frames}
use Rattle.frame_stack.proofs.Kept.{keeps_spent}
use Rattle.frame_stack.proofs.Standing.{changed_counted, changed_frames}
use Rattle.frame_stack.proofs.stack.Frames.set_spent.Goals as goal

pub invariant_of-self : goal.invariant_of-self
invariant_of-self c =
    changed_counted (with_spent c.args.gone) (keeps_spent c.args.gone) c.self.inside.entries.items c.args.place c.index_mut.result.now c.set_spent.new.self c.args.self.now.frames
    (ap (λ s. s.frames) c.self.view_is) c.requires c.index_mut.ensures.value c.set_spent.ensures c.self.invariant

pub returns : goal.returns
returns c =
    ap (λ fs. record { frames = fs })
    (changed_frames (with_spent c.args.gone) c.self.inside.entries.items c.args.place c.index_mut.result.now c.set_spent.new.self c.args.self.now.frames
    (ap (λ s. s.frames) c.self.view_is) c.requires c.index_mut.ensures.value c.set_spent.ensures)
    ∙ ap (λ s. with_frames (changed (with_spent c.args.gone) c.args.place c.args.self.now.frames) s) c.self.view_is
