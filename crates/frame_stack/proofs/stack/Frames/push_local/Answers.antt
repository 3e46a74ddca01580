use Rattle.std.proofs.Common.{[], ◌∷◌, ◌++◌, ap, ◌∙◌}
use Rattle.frame_stack.specs.Change.{changed, with_locals}
use Rattle.frame_stack.specs.Locals.{local}
use Rattle.frame_stack.specs.Stack.{with_frames}
use Rattle.frame_stack.proofs.Kept.{keeps_locals}
use Rattle.frame_stack.proofs.Standing.{changed_frames, on_ok, tried_counted}
use Rattle.frame_stack.proofs.stack.Frames.push_local.Goals as goal

pub invariant_of-self : goal.invariant_of-self
invariant_of-self c =
    tried_counted c.push_local.result (with_locals (λ locals. locals ++ local c.args.name c.args.value ∷ [])) (keeps_locals (λ locals. locals ++ local c.args.name c.args.value ∷ [])) c.self.inside.entries.items c.args.place c.index_mut.result.now c.push_local.new.self
    c.args.self.now.frames (ap (λ s. s.frames) c.self.view_is) c.requires c.index_mut.ensures.value c.push_local.ensures.ok c.push_local.ensures.err c.self.invariant

pub returns-clause-ok : goal.returns-clause-ok
returns-clause-ok c =
    on_ok c.push_local.result
    (λ put.
    ap (λ fs. record { frames = fs })
    (changed_frames (with_locals (λ locals. locals ++ local c.args.name c.args.value ∷ [])) c.self.inside.entries.items c.args.place c.index_mut.result.now c.push_local.new.self c.args.self.now.frames
    (ap (λ s. s.frames) c.self.view_is) c.requires c.index_mut.ensures.value put)
    ∙ ap (λ s. with_frames (changed (with_locals (λ locals. locals ++ local c.args.name c.args.value ∷ [])) c.args.place c.args.self.now.frames) s) c.self.view_is)
    c.push_local.ensures.ok
