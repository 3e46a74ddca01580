use Rattle.std.proofs.Common.{slice_set, Some, sym, ap, ◌∙◌}
use Rattle.std.proofs.Math.ListN.{set}
use Rattle.frame_stack.specs.Counted.{frames_of}
use Rattle.frame_stack.specs.Stack.{with_frames}
use Rattle.frame_stack.proofs.Standing.{frame_found, frames-set, replaced_counted}
use Rattle.frame_stack.proofs.stack.Frames.replace.Goals as goal

pub invariant_of-self : goal.invariant_of-self
invariant_of-self c =
    replaced_counted c.self.inside.entries.items c.args.place c.index_mut.result.now c.args.frame c.replace.new.dest c.args.self.now.frames
    (ap (λ s. s.frames) c.self.view_is) c.requires.place c.index_mut.ensures.value c.replace.ensures.after c.requires.shape c.self.invariant

pub returns-clause-new : goal.returns-clause-new
returns-clause-new c =
    let items = c.self.inside.entries.items in
    ap (λ fs. record { frames = fs })
    (frames-set items c.args.place (record c.index_mut.result.now { frame = c.replace.new.dest })
    ∙ ap (λ f. set (frames_of items) c.args.place f) c.replace.ensures.after)
    ∙ ap (λ s. with_frames (slice_set s.frames c.args.place c.args.frame) s) c.self.view_is

pub returns-clause-old : goal.returns-clause-old
returns-clause-old c =
    frame_found c.self.inside.entries.items c.args.place c.index_mut.result.now c.args.self.now.frames
    (ap (λ s. s.frames) c.self.view_is) c.requires.place c.index_mut.ensures.value
    ∙ ap Some (sym c.replace.ensures.value)
