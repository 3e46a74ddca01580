use Rattle.template_machine.specs.Listed.{AreInOrder}
use Rattle.template_machine.proofs.Composed.{looked_in_order}
use Rattle.std.proofs.Common.{◌≡◌, ◌∙◌, ◌∷◌, true, reverse, ap, sym, subst}
use Rattle.std.specs.Option.{option_copied}
use Rattle.frame_stack.specs.declared.frame.Frame.{Frame}
use Rattle.template_machine.specs.Well.{StandOnRegion}
use Rattle.template_machine.proofs.Slots.{all_ok}
use Rattle.template_machine.proofs.Tops.{top_frame}
use Rattle.template_machine.proofs.run.Run.head_ends_region.Goals as goal

pub returns-in-Some-Region-clause-region : goal.returns-in-Some-Region-clause-region
returns-in-Some-Region-clause-region c =
    let xs = c.args.self.now.frames.frames in
    let t = top_frame xs c.in-Some-Region.field-0.now (sym c.top.ensures ∙ ap option_copied c.in-Some-Region.is) in
    let is = t.1 ∙ ap (λ (x : Frame). x ∷ t.0) c.in-Some-Region.field-0-is in
    all_ok c.ends_region.result (λ over. over ≡ true → StandOnRegion (reverse xs)) (λ b e. subst StandOnRegion (sym is) tt)

pub returns-in-Some-Region-clause-apart : goal.returns-in-Some-Region-clause-apart
returns-in-Some-Region-clause-apart c = λ alone.
    let xs = c.args.self.now.frames.frames in
    let t = top_frame xs c.in-Some-Region.field-0.now (sym c.top.ensures ∙ ap option_copied c.in-Some-Region.is) in
    let is = t.1 ∙ ap (λ (x : Frame). x ∷ t.0) c.in-Some-Region.field-0-is in
    absurd (subst AreInOrder is (looked_in_order c.args.program.now c.args.self.now c.requires alone))
