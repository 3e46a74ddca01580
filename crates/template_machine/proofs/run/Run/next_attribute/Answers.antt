use Rattle.std.proofs.Common.{Err}
use Rattle.template_machine.specs.Onward.{StepsOn}
use Rattle.template_machine.specs.declared.stop.Stop.TheVariants as stop
use Rattle.template_machine.proofs.Finished.{memory_moves}
use Rattle.template_machine.proofs.Saying.{stops_with}
use Rattle.node_stack.specs.Path.{attributes, current}
use Rattle.node_stack.specs.Stack.{path}
use Rattle.template_machine.specs.Behind.{head_taken}
use Rattle.template_machine.specs.Bodies.{skipped_in}
use Rattle.template_machine.specs.Still.{still}
use Rattle.template_machine.proofs.Attributed.{alone_entered, attribute_found, attribute_uncounted, attributes_move, attributes_untouched, entered_untouched, unskipped_asking}
use Rattle.template_machine.proofs.Composed.{says_nothing, steps_by}
use Rattle.template_machine.proofs.Finished.{base_there}
use Rattle.template_machine.proofs.Returning.{alone_left}
use Rattle.std.proofs.Common.{length, ◌≤◌}
use Rattle.std.proofs.Common.{◌≡◌, ◌+◌, ◌-◌, ◌<◌, ◌∙◌, ◌∷◌, reverse, refl, ap, sym, subst, arith, ◌*◌, ◌^◌}
use Rattle.frame_stack.specs.Change.{changed, with_next}
use Rattle.frame_stack.specs.Stack.{FrameStack}
use Rattle.frame_stack.specs.declared.frame.Frame.TheVariants.{Attributes}
use Rattle.template_machine.specs.Asking.{HasAsker}
use Rattle.template_machine.proofs.Based.{are_based}
use Rattle.template_machine.proofs.Looking.{attribute_taken, attributes_asker, attributes_go_on, attributes_over}
use Rattle.template_machine.proofs.Tops.{top_changed}
use Rattle.template_machine.proofs.Lightened.{attribute_less, attributes_weigh, begins_ok, load_off}
use Rattle.template_machine.proofs.Falling.{falls_behind}
use Rattle.template_machine.proofs.Documents.{limit_in, means_kept}
use Rattle.template_machine.proofs.run.Run.next_attribute.Goals as goal
use Rattle.template_machine.proofs.Shelved.{stands_still}

pub asker-asker-requires : goal.asker-asker-requires
asker-asker-requires g c =
    let p = c.args.program.now in
    let r = c.args.self.now in
    let w = c.requires.well in
    let a = attributes_go_on p r w c.args.next c.requires.list c.requires.next in
    let frames : reverse c.set_next.new.self.frames ≡ Attributes (c.args.next + 1) a.asked ∷ a.frames =
    ap (λ (x : FrameStack). reverse x.frames) c.set_next.ensures
    ∙ ap (λ k. reverse (changed (with_next (c.args.next + 1)) (k - 1) r.frames.frames)) c.count-top.ensures
    ∙ top_changed (with_next (c.args.next + 1)) r.frames.frames (Attributes c.args.next a.asked) a.frames a.is in
    subst (HasAsker p) (sym frames) (attributes_asker p r w c.args.next a (are_based p r w.steady) (c.args.next + 1))

pub take-requires-clause-head : goal.take-requires-clause-head
take-requires-clause-head g c =
    let p = c.args.program.now in
    let r = c.args.self.now in
    let w = c.requires.well in
    let a = attributes_go_on p r w c.args.next c.requires.list c.requires.next in
    let frames : reverse c.set_next.new.self.frames ≡ Attributes (c.args.next + 1) a.asked ∷ a.frames =
    ap (λ (x : FrameStack). reverse x.frames) c.set_next.ensures
    ∙ ap (λ k. reverse (changed (with_next (c.args.next + 1)) (k - 1) r.frames.frames)) c.count-top.ensures
    ∙ top_changed (with_next (c.args.next + 1)) r.frames.frames (Attributes c.args.next a.asked) a.frames a.is in
    let there : c.args.next < c.attributes.result = omega arith in
    let n = record r { frames = c.set_next.new.self; source = record r.source { stack = c.enter_attribute.new.self } } in
    attribute_taken p r n w c.args.next a (omega (arith, there, c.attributes.ensures)) (record { outer = refl; aside = refl; store = refl; putting = stands_still _ })
    c.in_ok-enter_attribute.ensures.ok refl frames

pub end_process-requires : goal.end_process-requires
end_process-requires g c =
    let p = c.args.program.now in
    let r = c.args.self.now in
    let w = c.requires.well in
    let a = attributes_go_on p r w c.args.next c.requires.list c.requires.next in
    let gone = c.take_off.ensures (Attributes c.args.next a.asked) a.frames a.is in
    let n = record r { frames = c.take_off.new.frames } in
    attributes_over p r n w c.args.next a (record { outer = refl; aside = refl; store = refl; putting = stands_still _ }) refl gone

pub returns-then-next-attributes-clause-works : goal.returns-then-next-attributes-clause-works
returns-then-next-attributes-clause-works g c =
    let p = c.args.program.now in
    let r = c.args.self.now in
    let w = c.requires.well in
    let a = attributes_go_on p r w c.args.next c.requires.list c.requires.next in
    let frames : reverse c.set_next.new.self.frames ≡ Attributes (c.args.next + 1) a.asked ∷ a.frames =
    ap (λ (x : FrameStack). reverse x.frames) c.set_next.ensures
    ∙ ap (λ k. reverse (changed (with_next (c.args.next + 1)) (k - 1) r.frames.frames)) c.count-top.ensures
    ∙ top_changed (with_next (c.args.next + 1)) r.frames.frames (Attributes c.args.next a.asked) a.frames a.is in
    let small : c.args.next < 2 ^ 64 = omega (arith, c.ranges.next.fits) in
    let n = record r { frames = c.set_next.new.self; source = record r.source { stack = c.enter_attribute.new.self } } in
    begins_ok p 8 5 r n c.take.new.self w.steady.places (means_kept r n refl refl (ap limit_in c.in_ok-enter_attribute.ensures.ok) refl refl)
    (attribute_less r n c.args.next a.asked a.frames a.is frames refl refl small) (omega arith) c.take.result
    c.take.ensures.asks c.take.ensures.works

pub returns-clause-works : goal.returns-clause-works
returns-clause-works g c =
    let p = c.args.program.now in
    let r = c.args.self.now in
    let w = c.requires.well in
    let a = attributes_go_on p r w c.args.next c.requires.list c.requires.next in
    let gone = c.take_off.ensures (Attributes c.args.next a.asked) a.frames a.is in
    let small : c.args.next < 2 ^ 64 = omega (arith, c.ranges.next.fits) in
    let n = record r { frames = c.take_off.new.frames } in
    falls_behind p (8 * (2 ^ 64 - c.args.next)) 0 r n c.end_process.new.self w.steady.places refl
    (load_off r n (Attributes c.args.next a.asked) a.frames a.is gone refl refl) c.end_process.ensures.works (attributes_weigh c.args.next small)

-- What is done.

pub returns-then-next-attributes-clause-steps : goal.returns-then-next-attributes-clause-steps
returns-then-next-attributes-clause-steps g c = λ alone.
    let p = c.args.program.now in
    let r = c.args.self.now in
    let w = c.requires.well in
    let a = attributes_go_on p r w c.args.next c.requires.list c.requires.next in
    let frames : reverse c.set_next.new.self.frames ≡ Attributes (c.args.next + 1) a.asked ∷ a.frames =
    ap (λ (x : FrameStack). reverse x.frames) c.set_next.ensures
    ∙ ap (λ k. reverse (changed (with_next (c.args.next + 1)) (k - 1) r.frames.frames)) c.count-top.ensures
    ∙ top_changed (with_next (c.args.next + 1)) r.frames.frames (Attributes c.args.next a.asked) a.frames a.is in
    let n = record r { frames = c.set_next.new.self; source = record r.source { stack = c.enter_attribute.new.self } } in
    let there : c.args.next < c.attributes.result = omega arith in
    let x = base_there (attributes (current (path r.source.stack))) c.args.next (omega (arith, there, c.attributes.ensures)) in
    steps_by g.S.Sink.output g.S.Sink.told p (λ given left f. still given p r left f) (λ given left f. head_taken given p n left f) c.take.result c.take.new.self c.args.out.now c.take.new.out
    (attribute_found p r n c.args.next a.asked a.frames c.requires.list a.apart a.is frames x.0 x.1 c.in_ok-enter_attribute.ensures.ok refl)
    (c.take.ensures.takes (alone_entered p r n (c.args.next + 1) a.asked a.frames a.apart frames refl (entered_untouched p r n c.args.next a.asked a.frames x.0 x.1 c.in_ok-enter_attribute.ensures.ok a.is frames a.list.fits.0 alone) alone) (attribute_uncounted r n c.args.next x.0 x.1 c.in_ok-enter_attribute.ensures.ok))

pub returns-clause-steps : goal.returns-clause-steps
returns-clause-steps g c = λ alone.
    let p = c.args.program.now in
    let r = c.args.self.now in
    let w = c.requires.well in
    let a = attributes_go_on p r w c.args.next c.requires.list c.requires.next in
    let gone = c.take_off.ensures (Attributes c.args.next a.asked) a.frames a.is in
    let m = record r { frames = c.take_off.new.frames } in
    let past : c.attributes.result ≤ c.args.next = omega arith in
    says_nothing g.S.Sink.output g.S.Sink.told g.met.S.Sink.nothing p (λ given left f. still given p r left f) _ c.end_process.new.self c.args.out.now
    (attributes_move p r m c.end_process.new.self c.args.next a.asked a.frames _ c.requires.list a.apart a.is gone (omega (arith, past, c.attributes.ensures)) refl
    (c.end_process.ensures.moves (alone_left p r m refl (unskipped_asking (reverse m.frames.frames) a.frames a.asked gone a.list.well.1)
    (attributes_untouched p r m c.args.next a.asked a.frames a.is gone a.list.fits.0 a.list.well.1 alone) alone)))

pub returns-in_err-enter_attribute-clause-steps : goal.returns-in_err-enter_attribute-clause-steps
returns-in_err-enter_attribute-clause-steps g c = λ alone.
    let p = c.args.program.now in
    let r = c.args.self.now in
    let n = record r { frames = c.set_next.new.self; source = record r.source { stack = c.enter_attribute.new.self } } in
    subst (λ x. StepsOn g.S.Sink.output g.S.Sink.told p x r n c.args.out.now c.args.out.now) (sym (stops_with c.from_residual.result stop.Memory c.from_residual.ensures.1))
    (says_nothing g.S.Sink.output g.S.Sink.told g.met.S.Sink.nothing p (λ given left f. still given p r left f) (Err stop.Memory) n c.args.out.now (memory_moves p (λ given left f. still given p r left f) n))
