use Rattle.std.proofs.Common.{◌≡◌}
use Rattle.template_machine.specs.Behind.{list_done}
use Rattle.template_machine.specs.Listed.{AreInOrder}
use Rattle.template_machine.proofs.Composed.{over_in_order, says_nothing}
use Rattle.std.proofs.Common.{ℕ, ◌+◌, ◌≤◌, ◌∙◌, ◌∷◌, true, IsSome, Some, refl, ap, sym, subst, arith}
use Rattle.std.specs.Option.{option_copied}
use Rattle.std.proofs.lemmas.Bool.{false≢true}
use Rattle.frame_stack.specs.declared.frame.Frame.{Frame}
use Rattle.template_machine.specs.Bodies.{is_source_in, level_in, skipped_in, takes_events}
use Rattle.template_machine.specs.Standing.{Over, standing_of}
use Rattle.template_machine.specs.Well.{AreWell, ListFits, StandOnRegion}
use Rattle.template_machine.specs.declared.source.Ahead.TheVariants as ahead
use Rattle.template_machine.proofs.Asking.{loop_level}
use Rattle.template_machine.proofs.Overs.{region_found_over}
use Rattle.template_machine.proofs.Shelved.{stands_still}
use Rattle.template_machine.proofs.Tops.{no_top, top_frame}
use Rattle.template_machine.proofs.Lightened.{begins_shed, load_known}
use Rattle.template_machine.proofs.Falling.{begins_behind}
use Rattle.template_machine.specs.Work.{Begins, Sheds, ahead_work, load}
use Rattle.template_machine.proofs.Operating.{on_ok}
use Rattle.template_machine.proofs.run.Run.list_over.Goals as goal

pub end_region-requires : goal.end_region-requires
end_region-requires g c =
    let xs = c.args.self.now.frames.frames in
    let t = top_frame xs c.in-Some-Region.field-0.now (sym c.top.ensures ∙ ap option_copied c.in-Some-Region.is) in
    let is = t.1 ∙ ap (λ (x : Frame). x ∷ t.0) c.in-Some-Region.field-0-is in
    let r = c.args.self.now in
    let n = record r { source = record r.source { ahead = ahead.Ended } } in
    region_found_over c.args.program.now r n c.requires (subst StandOnRegion (sym is) tt)
    (record { outer = refl; aside = refl; store = refl; putting = stands_still r.putting }) refl refl refl refl refl (refl, refl)

pub end_pass-requires-clause-pass : goal.end_pass-requires-clause-pass
end_pass-requires-clause-pass g c =
    let xs = c.args.self.now.frames.frames in
    let t = top_frame xs c.in-Some-Pass.field-0.now (sym c.top.ensures ∙ ap option_copied c.in-Some-Pass.is) in
    let is = t.1 ∙ ap (λ (x : Frame). x ∷ t.0) c.in-Some-Pass.field-0-is in
    (c.in-Some-Pass.field-0-2, (t.0, is))

pub end_skip-requires-clause-skipped : goal.end_skip-requires-clause-skipped
end_skip-requires-clause-skipped g c =
    let xs = c.args.self.now.frames.frames in
    let t = top_frame xs c.in-Some-Skip.field-0.now (sym c.top.ensures ∙ ap option_copied c.in-Some-Skip.is) in
    let is = t.1 ∙ ap (λ (x : Frame). x ∷ t.0) c.in-Some-Skip.field-0-is in
    subst (λ l. IsSome (skipped_in l)) (sym is) refl

pub leave_source-requires-clause-source : goal.leave_source-requires-clause-source
leave_source-requires-clause-source g c =
    let xs = c.args.self.now.frames.frames in
    let t = top_frame xs c.in-Some-Source.field-0.now (sym c.top.ensures ∙ ap option_copied c.in-Some-Source.is) in
    let is = t.1 ∙ ap (λ (x : Frame). x ∷ t.0) c.in-Some-Source.field-0-is in
    ap is_source_in is

pub end_children-requires-clause-body : goal.end_children-requires-clause-body
end_children-requires-clause-body g c =
    let xs = c.args.self.now.frames.frames in
    let t = top_frame xs c.in-Some-Body.field-0.now (sym c.top.ensures ∙ ap option_copied c.in-Some-Body.is) in
    let is = t.1 ∙ ap (λ (x : Frame). x ∷ t.0) c.in-Some-Body.field-0-is in
    subst (λ l. IsSome (level_in l)) (sym is) refl

pub end_children-requires-in-Some-Call-clause-body : goal.end_children-requires-in-Some-Call-clause-body
end_children-requires-in-Some-Call-clause-body g c =
    let xs = c.args.self.now.frames.frames in
    let t = top_frame xs c.in-Some-Call.field-0.now (sym c.top.ensures ∙ ap option_copied c.in-Some-Call.is) in
    let is = t.1 ∙ ap (λ (x : Frame). x ∷ t.0) c.in-Some-Call.field-0-is in
    subst (λ l. IsSome (level_in l)) (sym is) refl

pub end_children-requires-in-Some-Loop-clause-body : goal.end_children-requires-in-Some-Loop-clause-body
end_children-requires-in-Some-Loop-clause-body g c =
    let xs = c.args.self.now.frames.frames in
    let t = top_frame xs c.in-Some-Loop.field-0.now (sym c.top.ensures ∙ ap option_copied c.in-Some-Loop.is) in
    let is = t.1 ∙ ap (λ (x : Frame). x ∷ t.0) c.in-Some-Loop.field-0-is in
    let h = c.requires in
    let s = standing_of c.args.self.now in
    let w = subst (λ l. AreWell c.args.program.now h.stations 0 true l s) is h.well in
    subst (λ l. IsSome (level_in l)) (sym is) (loop_level c.args.program.now h.stations 0 t.0 s w)

pub unreachable-requires : goal.unreachable-requires
unreachable-requires g c =
    let xs = c.args.self.now.frames.frames in
    let t = top_frame xs c.in-Some-Attributes.field-0.now (sym c.top.ensures ∙ ap option_copied c.in-Some-Attributes.is) in
    let is = t.1 ∙ ap (λ (x : Frame). x ∷ t.0) c.in-Some-Attributes.field-0-is in
    false≢true (sym (ap takes_events is) ∙ c.requires.list)

pub unreachable-requires-in-None : goal.unreachable-requires-in-None
unreachable-requires-in-None g c =
    let r = c.args.self.now in
    let is = no_top r.frames.frames (sym c.top.ensures ∙ ap option_copied c.in-None.is) in
    subst (λ l. ListFits l (standing_of r).source.way r.source.begun Over) is c.requires.fits

pub returns-in-Some-Region-clause-works : goal.returns-in-Some-Region-clause-works
returns-in-Some-Region-clause-works g c =
    let r = c.args.self.now in
    let m = record r { source = record r.source { ahead = ahead.Ended } } in
    let n = c.end_region.new.self in
    let more : load m ≤ load r + 2 = omega (arith, load_known r m ahead.Ended refl refl refl, ap ahead_work c.requires.ahead) in
    on_ok c.end_region.result (Sheds 2 m n) (Begins 0 r n) c.end_region.ensures.works (λ s. begins_shed 2 0 r m n refl more s)

pub returns-in-Some-Source-clause-works : goal.returns-in-Some-Source-clause-works
returns-in-Some-Source-clause-works g c =
    begins_behind 1 0 c.args.self.now c.leave_source.new.self c.end_process.new.self c.leave_source.ensures.works.0 c.leave_source.ensures.works.1 c.end_process.ensures.works 0
    (omega arith)

pub returns-in-Some-Region-clause-steps : goal.returns-in-Some-Region-clause-steps
returns-in-Some-Region-clause-steps g c = λ alone whole.
    let xs = c.args.self.now.frames.frames in
    let t = top_frame xs c.in-Some-Region.field-0.now (sym c.top.ensures ∙ ap option_copied c.in-Some-Region.is) in
    let is = t.1 ∙ ap (λ (x : Frame). x ∷ t.0) c.in-Some-Region.field-0-is in
    absurd (subst AreInOrder is (over_in_order c.args.program.now c.args.self.now c.requires alone))

pub returns-in-Some-Pass-clause-steps : goal.returns-in-Some-Pass-clause-steps
returns-in-Some-Pass-clause-steps g c = λ alone whole. c.end_pass.ensures.steps alone

pub returns-in-Some-Skip-clause-steps : goal.returns-in-Some-Skip-clause-steps
returns-in-Some-Skip-clause-steps g c = λ alone whole.
    let p = c.args.program.now in
    let r = c.args.self.now in
    let xs = r.frames.frames in
    let t = top_frame xs c.in-Some-Skip.field-0.now (sym c.top.ensures ∙ ap option_copied c.in-Some-Skip.is) in
    let is = t.1 ∙ ap (λ (x : Frame). x ∷ t.0) c.in-Some-Skip.field-0-is in
    says_nothing g.S.Sink.output g.S.Sink.told g.met.S.Sink.nothing p (λ given left f. list_done given p r left f) c.end_skip.result c.end_skip.new.self c.args.out.now
    (c.end_skip.ensures.moves alone (ap skipped_in is ∙ ap (λ (d : ℕ). Some d) (whole _ (ap skipped_in is))))

pub returns-in-Some-Source-clause-steps : goal.returns-in-Some-Source-clause-steps
returns-in-Some-Source-clause-steps g c = λ alone whole.
    let xs = c.args.self.now.frames.frames in
    let t = top_frame xs c.in-Some-Source.field-0.now (sym c.top.ensures ∙ ap option_copied c.in-Some-Source.is) in
    let is = t.1 ∙ ap (λ (x : Frame). x ∷ t.0) c.in-Some-Source.field-0-is in
    absurd (subst AreInOrder is (over_in_order c.args.program.now c.args.self.now c.requires alone))

pub returns-in-Some-Body-clause-steps : goal.returns-in-Some-Body-clause-steps
returns-in-Some-Body-clause-steps g c = λ alone whole.
    let p = c.args.program.now in
    let r = c.args.self.now in
    says_nothing g.S.Sink.output g.S.Sink.told g.met.S.Sink.nothing p (λ given left f. list_done given p r left f) c.end_children.result c.end_children.new.self c.args.out.now
    (c.end_children.ensures.moves alone)

pub returns-in-Some-Call-clause-steps : goal.returns-in-Some-Call-clause-steps
returns-in-Some-Call-clause-steps g c = λ alone whole.
    let p = c.args.program.now in
    let r = c.args.self.now in
    says_nothing g.S.Sink.output g.S.Sink.told g.met.S.Sink.nothing p (λ given left f. list_done given p r left f) c.end_children-in-Some-Call.result c.end_children-in-Some-Call.new.self
    c.args.out.now (c.end_children-in-Some-Call.ensures.moves alone)

pub returns-in-Some-Loop-clause-steps : goal.returns-in-Some-Loop-clause-steps
returns-in-Some-Loop-clause-steps g c = λ alone whole.
    let p = c.args.program.now in
    let r = c.args.self.now in
    says_nothing g.S.Sink.output g.S.Sink.told g.met.S.Sink.nothing p (λ given left f. list_done given p r left f) c.end_children-in-Some-Loop.result c.end_children-in-Some-Loop.new.self
    c.args.out.now (c.end_children-in-Some-Loop.ensures.moves alone)
