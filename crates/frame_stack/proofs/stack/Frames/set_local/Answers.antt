use Rattle.std.proofs.Common.{ap, ◌∙◌}
use Rattle.frame_stack.specs.Change.{changed, with_locals}
use Rattle.frame_stack.specs.Locals.{with_value}
use Rattle.frame_stack.specs.Stack.{with_frames}
use Rattle.frame_stack.proofs.Kept.{keeps_locals}
use Rattle.frame_stack.proofs.Standing.{changed_counted, changed_frames}
use Rattle.frame_stack.proofs.stack.Frames.set_local.Goals as goal

pub invariant_of-self : goal.invariant_of-self
invariant_of-self c =
    changed_counted (with_locals (with_value c.args.index c.args.value)) (keeps_locals (with_value c.args.index c.args.value)) c.self.inside.entries.items c.args.place c.index_mut.result.now c.set_local.new.self c.args.self.now.frames
    (ap (λ s. s.frames) c.self.view_is) c.requires.place c.index_mut.ensures.value c.set_local.ensures c.self.invariant

pub returns : goal.returns
returns c =
    ap (λ fs. record { frames = fs })
    (changed_frames (with_locals (with_value c.args.index c.args.value)) c.self.inside.entries.items c.args.place c.index_mut.result.now c.set_local.new.self c.args.self.now.frames
    (ap (λ s. s.frames) c.self.view_is) c.requires.place c.index_mut.ensures.value c.set_local.ensures)
    ∙ ap (λ s. with_frames (changed (with_locals (with_value c.args.index c.args.value)) c.args.place c.args.self.now.frames) s) c.self.view_is
