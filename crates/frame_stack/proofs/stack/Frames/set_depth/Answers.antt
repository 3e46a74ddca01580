use Rattle.std.proofs.Common.{ap, ◌∙◌}
use Rattle.frame_stack.specs.Change.{changed, with_depth}
use Rattle.frame_stack.specs.Stack.{with_frames}
use Rattle.frame_stack.proofs.Kept.{keeps_depth}
use Rattle.frame_stack.proofs.Standing.{changed_counted, changed_frames}
use Rattle.frame_stack.proofs.stack.Frames.set_depth.Goals as goal

pub invariant_of-self : goal.invariant_of-self
invariant_of-self c =
    changed_counted (with_depth c.args.nodes) (keeps_depth c.args.nodes) c.self.inside.entries.items c.args.place c.index_mut.result.now c.set_depth.new.self c.args.self.now.frames
    (ap (λ s. s.frames) c.self.view_is) c.requires c.index_mut.ensures.value c.set_depth.ensures c.self.invariant

pub returns : goal.returns
returns c =
    ap (λ fs. record { frames = fs })
    (changed_frames (with_depth c.args.nodes) c.self.inside.entries.items c.args.place c.index_mut.result.now c.set_depth.new.self c.args.self.now.frames
    (ap (λ s. s.frames) c.self.view_is) c.requires c.index_mut.ensures.value c.set_depth.ensures)
    ∙ ap (λ s. with_frames (changed (with_depth c.args.nodes) c.args.place c.args.self.now.frames) s) c.self.view_is
