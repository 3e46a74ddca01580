use Rattle.std.proofs.Common.{ap, ◌∙◌, take}
use Rattle.frame_stack.specs.Change.{changed, with_locals}
use Rattle.frame_stack.specs.Stack.{with_frames}
use Rattle.frame_stack.proofs.Kept.{keeps_locals}
use Rattle.frame_stack.proofs.Standing.{changed_counted, changed_frames}
use Rattle.frame_stack.proofs.stack.Frames.cut_locals.Goals as goal

pub invariant_of-self : goal.invariant_of-self
invariant_of-self c =
    changed_counted (with_locals (take c.args.len)) (keeps_locals (take c.args.len)) c.self.inside.entries.items c.args.place c.index_mut.result.now c.cut_locals.new.self c.args.self.now.frames
    (ap (λ s. s.frames) c.self.view_is) c.requires.place c.index_mut.ensures.value c.cut_locals.ensures c.self.invariant

pub returns : goal.returns
returns c =
    ap (λ fs. record { frames = fs })
    (changed_frames (with_locals (take c.args.len)) c.self.inside.entries.items c.args.place c.index_mut.result.now c.cut_locals.new.self c.args.self.now.frames
    (ap (λ s. s.frames) c.self.view_is) c.requires.place c.index_mut.ensures.value c.cut_locals.ensures)
    ∙ ap (λ s. with_frames (changed (with_locals (take c.args.len)) c.args.place c.args.self.now.frames) s) c.self.view_is
