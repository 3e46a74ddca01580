use Rattle.std.proofs.Common.{◌≡◌, List, ℕ, Err, ap, sym, subst, ◌∙◌}
use Rattle.node_stack.specs.Open.{node_of}
use Rattle.stxpath_values.specs.Outcome.{IsAnswer}
use Rattle.template_machine.specs.Evaluating.{parted_text}
use Rattle.template_machine.specs.Putting.{text_parts}
use Rattle.template_machine.specs.Saying.{Acts, Gave, Puts, sight, value_at}
use Rattle.template_machine.specs.Values.{text_of}
use Rattle.template_machine.proofs.Saying.{gave_by, stops_with, value_acts, value_stops, whole_text}
use Rattle.template_machine.proofs.Texted.{current_text}
use Rattle.template_machine.proofs.run.Run.put_value.Goals as goal

pub returns-then-is_current-clause-acts : goal.returns-then-is_current-clause-acts
returns-then-is_current-clause-acts g c = λ at.
    let p = c.args.program.now in
    let r = c.args.self.now in
    let n = node_of c.current.result in
    let gave : whole_text c.args.select.now c.args.separator.now (sight p r) ≡ _ =
    ap (λ s. whole_text c.args.select.now s (sight p r)) c.in-None.is ∙ current_text p r n c.args.select.now c.current.ensures (c.is_current.ensures c.if-is_current.true) in
    value_acts g.S.Sink.output g.S.Sink.told p c.args.select.now c.args.separator.now c.args.spot.at _ c.text.result r c.text.new.self c.args.out.now c.text.new.out gave
    (subst (λ t. Puts g.S.Sink.output g.S.Sink.told c.args.spot.at (text_parts t) c.text.result r.putting c.text.new.self c.args.out.now c.text.new.out) c.text_of-text.ensures c.text.ensures.puts)

pub returns-in_err-text-in-None-clause-acts : goal.returns-in_err-text-in-None-clause-acts
returns-in_err-text-in-None-clause-acts g c = λ at.
    let p = c.args.program.now in
    let r = c.args.self.now in
    let out = c.args.out.now in
    let s = c.args.select.now in
    let e = c.in_err-text-in-None.field-0.0 in
    let gave = subst (λ x. IsAnswer c.text-in-None.result (text_of s x)) (c.setting.ensures at) c.text-in-None.ensures in
    subst (λ y. Acts g.S.Sink.output g.S.Sink.told p (value_at s c.args.separator.now c.args.spot.at) y r r out out) (sym (stops_with c.from_residual.result e c.from_residual.ensures.1))
    (value_stops g.S.Sink.output g.S.Sink.told _ g.met.S.Sink.nothing p s c.args.separator.now c.args.spot.at e r out
    (subst (λ x. Gave {A = List ℕ} c.args.spot.at (Err e) (whole_text s x (sight p r))) (sym c.in-None.is)
    (subst (λ y. Gave c.args.spot.at y (text_of s (sight p r))) (sym c.in_err-text-in-None.ensures) (gave_by c.args.spot.at c.text-in-None.result (text_of s (sight p r)) gave))))

pub returns-in_ok-text-in-None-clause-acts : goal.returns-in_ok-text-in-None-clause-acts
returns-in_ok-text-in-None-clause-acts g c = λ at.
    let p = c.args.program.now in
    let r = c.args.self.now in
    let s = c.args.select.now in
    let text = c.in_ok-text-in-None.text in
    let gave = subst (λ x. IsAnswer c.text-in-None.result (text_of s x)) (c.setting.ensures at) c.text-in-None.ensures in
    value_acts g.S.Sink.output g.S.Sink.told p s c.args.separator.now c.args.spot.at text c.text-in-None-3.result r c.text-in-None-3.new.self c.args.out.now c.text-in-None-3.new.out
    (ap (λ x. whole_text s x (sight p r)) c.in-None.is
    ∙ subst (λ y. Gave c.args.spot.at y (text_of s (sight p r))) (sym c.in_ok-text-in-None.ensures) (gave_by c.args.spot.at c.text-in-None.result (text_of s (sight p r)) gave))
    c.text-in-None-3.ensures.puts

pub returns-in_err-text-in-Some-clause-acts : goal.returns-in_err-text-in-Some-clause-acts
returns-in_err-text-in-Some-clause-acts g c = λ at.
    let p = c.args.program.now in
    let r = c.args.self.now in
    let out = c.args.out.now in
    let s = c.args.select.now in
    let between = c.in-Some.separator in
    let e = c.in_err-text-in-Some.field-0.0 in
    let gave = subst (λ x. IsAnswer c.parted_text-text.result (parted_text s between x)) (c.setting-in-Some.ensures at) c.parted_text-text.ensures in
    subst (λ y. Acts g.S.Sink.output g.S.Sink.told p (value_at s c.args.separator.now c.args.spot.at) y r r out out)
    (sym (stops_with c.from_residual-in_err-text-in-Some.result e c.from_residual-in_err-text-in-Some.ensures.1))
    (value_stops g.S.Sink.output g.S.Sink.told _ g.met.S.Sink.nothing p s c.args.separator.now c.args.spot.at e r out
    (subst (λ x. Gave {A = List ℕ} c.args.spot.at (Err e) (whole_text s x (sight p r))) (sym c.in-Some.is)
    (subst (λ y. Gave c.args.spot.at y (parted_text s between (sight p r))) (sym c.in_err-text-in-Some.ensures) (gave_by c.args.spot.at c.parted_text-text.result (parted_text s between (sight p r)) gave))))

pub returns-in_ok-text-in-Some-clause-acts : goal.returns-in_ok-text-in-Some-clause-acts
returns-in_ok-text-in-Some-clause-acts g c = λ at.
    let p = c.args.program.now in
    let r = c.args.self.now in
    let s = c.args.select.now in
    let between = c.in-Some.separator in
    let text = c.in_ok-text-in-Some.text in
    let gave = subst (λ x. IsAnswer c.parted_text-text.result (parted_text s between x)) (c.setting-in-Some.ensures at) c.parted_text-text.ensures in
    value_acts g.S.Sink.output g.S.Sink.told p s c.args.separator.now c.args.spot.at text c.text-in-Some-2.result r c.text-in-Some-2.new.self c.args.out.now c.text-in-Some-2.new.out
    (ap (λ x. whole_text s x (sight p r)) c.in-Some.is
    ∙ subst (λ y. Gave c.args.spot.at y (parted_text s between (sight p r))) (sym c.in_ok-text-in-Some.ensures) (gave_by c.args.spot.at c.parted_text-text.result (parted_text s between (sight p r)) gave))
    c.text-in-Some-2.ensures.puts
