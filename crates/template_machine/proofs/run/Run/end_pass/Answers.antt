use Rattle.template_machine.specs.Behind.{StepsFrom, list_done}
use Rattle.template_machine.proofs.Saying.{stops_with}
use Rattle.std.specs.Prelude.{if◌then◌else◌}
use Rattle.std.proofs.Common.{◌∷◌, Some}
use Rattle.node_stack.specs.Path.{current, is_attribute}
use Rattle.node_stack.specs.Stack.{path}
use Rattle.template_machine.specs.Bodies.{spent_in, takes_events}
use Rattle.template_machine.specs.Ordinary.{IsAlone}
use Rattle.template_machine.specs.Standing.{node_over}
use Rattle.template_machine.specs.declared.source.Ahead.TheVariants as ahead
use Rattle.template_machine.proofs.Finished.{alone_frames, base_there, current_there, first_now, list_node, takes_below}
use Rattle.template_machine.proofs.InOrder.{document_last}
use Rattle.template_machine.proofs.PassedOn.{pass_moves_again, pass_moves_node, pass_stops}
use Rattle.std.proofs.Common.{◌≡◌, ◌∙◌, true, false, reverse, refl, ap, sym, subst, arith}
use Rattle.frame_stack.specs.declared.frame.Frame.TheVariants.{Pass}
use Rattle.template_machine.specs.Standing.{standing_of}
use Rattle.template_machine.specs.declared.run.Run.{Run}
use Rattle.template_machine.specs.Moments.{NodeIsOver}
use Rattle.template_machine.specs.Well.{AreWell, IsWaiting, is_again}
use Rattle.template_machine.proofs.Taken.{pass_leaves, pass_waits}
use Rattle.template_machine.proofs.Lightened.{load_off}
use Rattle.template_machine.proofs.Falling.{begins_behind}
use Rattle.template_machine.specs.Work.{Begins, means_of}
use Rattle.template_machine.specs.Still.{nodes_of}
use Rattle.template_machine.proofs.Operating.{on_ok}
use Rattle.template_machine.proofs.run.Run.end_pass.Goals as goal
use Rattle.template_machine.proofs.Untaken.{again_untouched, below_untouched}
use Rattle.template_machine.proofs.Untouched.{untouched_to}

pub pass_end-requires-clause-base : goal.pass_end-requires-clause-base
pass_end-requires-clause-base g c =
    let h = c.requires.over in
    let i = c.requires.pass in
    (subst (λ l. AreWell c.args.program.now h.stations 0 true l (standing_of c.args.self.now)) i.1.1 h.well).1

pub end_process-requires : goal.end_process-requires
end_process-requires g c =
    let p = c.args.program.now in
    let r = c.args.self.now in
    let i = c.requires.pass in
    let m = c.pass_end.new.self in
    let e = c.pass_end.ensures.run in
    let n = record r { frames = c.take_off.new.frames; putting = m.putting } in
    let gone = c.take_off.ensures (Pass c.args.base c.args.level i.0) i.1.0 i.1.1 in
    let same : reverse m.frames.frames ≡ i.1.0 = ap (λ (x : Run). reverse x.frames.frames) e ∙ gone in
    let again : is_again c.args.level (reverse m.frames.frames) ≡ true = cc in
    subst (IsWaiting p) (sym e)
    (pass_waits p r n c.args.base c.args.level i.0 i.1.0 c.requires.over i.1.1 (record { outer = refl; aside = refl; store = refl; putting = c.pass_end.ensures.puts }) refl gone
    (sym (ap (is_again c.args.level) same) ∙ again))

pub leave_node-requires : goal.leave_node-requires
leave_node-requires g c =
    let p = c.args.program.now in
    let r = c.args.self.now in
    let i = c.requires.pass in
    let m = c.pass_end.new.self in
    let e = c.pass_end.ensures.run in
    let n = record r { frames = c.take_off.new.frames; putting = m.putting } in
    let gone = c.take_off.ensures (Pass c.args.base c.args.level i.0) i.1.0 i.1.1 in
    let same : reverse m.frames.frames ≡ i.1.0 = ap (λ (x : Run). reverse x.frames.frames) e ∙ gone in
    let apart : is_again c.args.level (reverse m.frames.frames) ≡ false = cc in
    subst (NodeIsOver p) (sym e)
    (pass_leaves p r n c.args.base c.args.level i.0 i.1.0 c.requires.over i.1.1 (record { outer = refl; aside = refl; store = refl; putting = c.pass_end.ensures.puts }) refl gone
    (sym (ap (is_again c.args.level) same) ∙ apart))

pub returns-then-is_asked_again-clause-works : goal.returns-then-is_asked_again-clause-works
returns-then-is_asked_again-clause-works g c =
    let r = c.args.self.now in
    let i = c.requires.pass in
    let m = c.pass_end.new.self in
    let e = c.pass_end.ensures.run in
    let frames = ap (λ (x : Run). reverse x.frames.frames) e ∙ c.take_off.ensures (Pass c.args.base c.args.level i.0) i.1.0 i.1.1 in
    let off = load_off r m (Pass c.args.base c.args.level i.0) i.1.0 i.1.1 frames (ap (λ (x : Run). x.source.ahead) e) (ap (λ (x : Run). x.outer.items) e) in
    begins_behind 2 0 r m c.end_process.new.self (ap means_of e) off c.end_process.ensures.works 0 (omega arith)

pub returns-clause-works : goal.returns-clause-works
returns-clause-works g c =
    let r = c.args.self.now in
    let i = c.requires.pass in
    let m = c.pass_end.new.self in
    let n = c.leave_node.new.self in
    let e = c.pass_end.ensures.run in
    let frames = ap (λ (x : Run). reverse x.frames.frames) e ∙ c.take_off.ensures (Pass c.args.base c.args.level i.0) i.1.0 i.1.1 in
    let off = load_off r m (Pass c.args.base c.args.level i.0) i.1.0 i.1.1 frames (ap (λ (x : Run). x.source.ahead) e) (ap (λ (x : Run). x.outer.items) e) in
    on_ok c.leave_node.result (Begins 2 m n) (Begins 0 r n) c.leave_node.ensures.works (λ b. begins_behind 2 2 r m n (ap means_of e) off b 0 (omega arith))

pub returns-then-is_asked_again-clause-steps : goal.returns-then-is_asked_again-clause-steps
returns-then-is_asked_again-clause-steps g c = λ alone.
    let p = c.args.program.now in
    let r = c.args.self.now in
    let h = c.requires.over in
    let i = c.requires.pass in
    let m = c.pass_end.new.self in
    let e = c.pass_end.ensures.run in
    let gone = c.take_off.ensures (Pass c.args.base c.args.level i.0) i.1.0 i.1.1 in
    let same : reverse m.frames.frames ≡ i.1.0 = ap (λ (x : Run). reverse x.frames.frames) e ∙ gone in
    let before = i.1.1 ∙ ap (λ l. Pass c.args.base c.args.level i.0 ∷ l) (sym same) in
    let rest : m ≡ record r { frames = m.frames; putting = m.putting } = e ∙ ap (λ x. record r { frames = x; putting = m.putting }) (sym (ap (λ (x : Run). x.frames) e)) in
    let w = subst (λ l. AreWell p h.stations 0 true l (standing_of r)) i.1.1 h.well in
    let t = current_there r in
    let base = base_there p.sheet.groups c.args.base w.1 in
    let puts_so = c.in_ok-pass_end.ensures.parts base.0 base.1 t.0 t.1 in
    let again : is_again c.args.level (reverse m.frames.frames) ≡ true = cc in
    let below : spent_in i.1.0 ≡ Some true = w.5 (ap (is_again c.args.level) (sym same) ∙ again) in
    let still =
    alone_frames p r m.frames alone (λ x. absurd (let no : ahead.Nothing ≡ ahead.Ended = sym h.ahead ∙ x in cc))
    (untouched_to i.1.0 (reverse m.frames.frames) (nodes_of r.source) (nodes_of r.source) (sym same) refl (again_untouched r i.1.0 below w.3)) in
    let alone_m =
    subst (IsAlone p) (sym rest)
    (record { origin = still.origin; outer = still.outer; aside = still.aside; held = still.held; counted = still.counted; whole = still.whole; untouched = still.untouched; fuel = still.fuel }) in
    pass_moves_again g.S.Sink.output g.S.Sink.told p r m c.args.base c.args.level i.0 base.0 t.0 before rest h.ahead base.1 (first_now r t.0 t.1) c.args.out.now c.pass_end.new.out puts_so _ c.end_process.new.self again
    (ap spent_in same ∙ below) (sym (ap (λ n. is_attribute (Some n)) (first_now r t.0 t.1)) ∙ list_node r w.3) (c.end_process.ensures.moves alone_m)

pub returns-clause-steps : goal.returns-clause-steps
returns-clause-steps g c = λ alone.
    let p = c.args.program.now in
    let r = c.args.self.now in
    let h = c.requires.over in
    let i = c.requires.pass in
    let m = c.pass_end.new.self in
    let e = c.pass_end.ensures.run in
    let gone = c.take_off.ensures (Pass c.args.base c.args.level i.0) i.1.0 i.1.1 in
    let same : reverse m.frames.frames ≡ i.1.0 = ap (λ (x : Run). reverse x.frames.frames) e ∙ gone in
    let before = i.1.1 ∙ ap (λ l. Pass c.args.base c.args.level i.0 ∷ l) (sym same) in
    let rest : m ≡ record r { frames = m.frames; putting = m.putting } = e ∙ ap (λ x. record r { frames = x; putting = m.putting }) (sym (ap (λ (x : Run). x.frames) e)) in
    let w = subst (λ l. AreWell p h.stations 0 true l (standing_of r)) i.1.1 h.well in
    let t = current_there r in
    let base = base_there p.sheet.groups c.args.base w.1 in
    let puts_so = c.in_ok-pass_end.ensures.parts base.0 base.1 t.0 t.1 in
    let apart : is_again c.args.level (reverse m.frames.frames) ≡ false = cc in
    let below : is_again c.args.level i.1.0 ≡ false = ap (is_again c.args.level) (sym same) ∙ apart in
    let still =
    alone_frames p r m.frames alone (λ x. absurd (let no : ahead.Nothing ≡ ahead.Ended = sym h.ahead ∙ x in cc))
    (untouched_to i.1.0 (reverse m.frames.frames) (nodes_of r.source) (nodes_of r.source) (sym same) refl (below_untouched r i.1.0 (w.2 below) w.3)) in
    let alone_m =
    subst (IsAlone p) (sym rest)
    (record { origin = still.origin; outer = still.outer; aside = still.aside; held = still.held; counted = still.counted; whole = still.whole; untouched = still.untouched; fuel = still.fuel }) in
    pass_moves_node g.S.Sink.output g.S.Sink.told p r m c.args.base c.args.level i.0 base.0 t.0 before rest h.ahead base.1 (first_now r t.0 t.1) c.args.out.now c.pass_end.new.out puts_so c.leave_node.result c.leave_node.new.self apart
    (ap takes_events same ∙ takes_below i.1.0 (standing_of r).source.way (w.2 below) w.3)
    (c.leave_node.ensures.moves alone_m
    (λ is. same ∙ document_last p h.stations r i.1.0 (subst (λ b. AreWell p h.stations 0 true i.1.0 (if b then standing_of r else node_over (standing_of r))) below w.6) alone
    (sym (ap (λ (x : Run). current (path x.source.stack)) rest) ∙ is))
    (λ ends. ap takes_events same ∙ takes_below i.1.0 (standing_of r).source.way (w.2 below) w.3))

pub returns-in_err-pass_end-clause-steps : goal.returns-in_err-pass_end-clause-steps
returns-in_err-pass_end-clause-steps g c = λ alone.
    let p = c.args.program.now in
    let r = c.args.self.now in
    let h = c.requires.over in
    let i = c.requires.pass in
    let m = c.pass_end.new.self in
    let ran = c.pass_end.ensures.run in
    let gone = c.take_off.ensures (Pass c.args.base c.args.level i.0) i.1.0 i.1.1 in
    let same : reverse m.frames.frames ≡ i.1.0 = ap (λ (x : Run). reverse x.frames.frames) ran ∙ gone in
    let before = i.1.1 ∙ ap (λ l. Pass c.args.base c.args.level i.0 ∷ l) (sym same) in
    let rest : m ≡ record r { frames = m.frames; putting = m.putting } = ran ∙ ap (λ x. record r { frames = x; putting = m.putting }) (sym (ap (λ (x : Run). x.frames) ran)) in
    let w = subst (λ l. AreWell p h.stations 0 true l (standing_of r)) i.1.1 h.well in
    let t = current_there r in
    let base = base_there p.sheet.groups c.args.base w.1 in
    let e = c.in_err-pass_end.field-0.0 in
    subst (λ x. StepsFrom g.S.Sink.output g.S.Sink.told p (λ given left f. list_done given p r left f) x m c.args.out.now c.pass_end.new.out)
    (sym (stops_with c.from_residual.result e c.from_residual.ensures.1))
    (pass_stops g.S.Sink.output g.S.Sink.told p r m c.args.base c.args.level i.0 base.0 t.0 before rest h.ahead base.1 (first_now r t.0 t.1) e c.args.out.now c.pass_end.new.out
    (c.in_err-pass_end.ensures.parts base.0 base.1 t.0 t.1))
