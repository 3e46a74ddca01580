use Rattle.std.proofs.Common.{◌+◌, ◌∷◌, [], Ok, Err, reverse, refl, ap, sym, subst, ◌∙◌}
use Rattle.stx_base.specs.declared.part.Part.TheVariants as part
use Rattle.frame_stack.specs.Change.{with_pc}
use Rattle.instr_code.specs.declared.code.Op.TheVariants as op
use Rattle.sheet_model.specs.declared.instr.Instr.TheOpen.{Instr-F}
use Rattle.sheet_model.specs.declared.instr.Instr.TheViews.{rolls-Element, rolls-ResultBuffer}
use Rattle.template_machine.specs.Bodies.{on_body}
use Rattle.template_machine.specs.Opening.{IsElementAt}
use Rattle.template_machine.specs.Saying.{ClosesShown, Steps}
use Rattle.template_machine.specs.Stepwise.{copy_end}
use Rattle.template_machine.specs.declared.run.Run.{Run}
use Rattle.template_machine.proofs.Closes.{copy_closes, literal_closes, moved_and_put, putting_alone}
use Rattle.template_machine.proofs.Formed.{has_number}
use Rattle.template_machine.proofs.Saying.{puts_past, stops_with}
use Rattle.template_machine.proofs.Spelled.{closed_round, is_round, out_is}
use Rattle.template_machine.proofs.Writing.{only_puts, puts_at}
use Rattle.template_machine.proofs.Falling.{falls_put}
use Rattle.template_machine.proofs.run.Run.close_list.Goals as goal
use Rattle.template_machine.proofs.Operated.{rest_there, stays_moved}
use Rattle.template_machine.proofs.Moving.{moves_pc}

pub instr-requires : goal.instr-requires
instr-requires g c =
    let f = closed_round c.args.program.now c.args.self.now c.args.running c.args.number c.requires in
    has_number c.args.program.now.code c.args.number f.0 f.1.0

pub leave_list-requires-clause-op : goal.leave_list-requires-clause-op
leave_list-requires-clause-op g c =
    let r = c.args.self.now in
    puts_at c.args.program.now r (record r { putting = c.end.new.self }) c.args.running (op.Close c.args.number) (only_puts r c.end.new.self c.end.ensures.stands) c.requires

pub leave_list-requires-in-Copy-clause-op : goal.leave_list-requires-in-Copy-clause-op
leave_list-requires-in-Copy-clause-op g c =
    puts_at c.args.program.now c.args.self.now c.close_copy.new.self c.args.running (op.Close c.args.number) c.close_copy.ensures.only c.requires

pub unreachable-requires : goal.unreachable-requires
unreachable-requires g c =
    let p = c.args.program.now in
    is_round p c.args.number c.instr.result.now ⊥ (closed_round p c.args.self.now c.args.running c.args.number c.requires) c.instr.ensures
    (λ name attrs body at e. c.in_default.not-Literal name attrs body at e) (λ attributes body at e. c.in_default.not-Copy attributes body at e)
    (λ name namespace scope body at e. c.in_default.not-Element name namespace scope body at e)
    (λ name clear body at e. c.in_default.not-ResultBuffer name clear body at e)

pub returns-in_ok-close_copy-in-Copy-clause-works : goal.returns-in_ok-close_copy-in-Copy-clause-works
returns-in_ok-close_copy-in-Copy-clause-works g c =
    falls_put c.args.program.now c.args.self.now c.close_copy.new.self c.leave_list-in-Copy.new.self c.close_copy.ensures.only c.leave_list-in-Copy.ensures.works

pub returns-in_ok-end-in-Literal-clause-works : goal.returns-in_ok-end-in-Literal-clause-works
returns-in_ok-end-in-Literal-clause-works g c =
    let l = c.leave_list.ensures.works in record { still = l.still; spared = l.spared; falls = l.falls }

-- What is done.

pub returns-in_err-end-in-Literal-clause-goes : goal.returns-in_err-end-in-Literal-clause-goes
returns-in_err-end-in-Literal-clause-goes g c = λ shown.
    let p = c.args.program.now in
    let r = c.args.self.now in
    let e = c.in_err-end-in-Literal.field-0.0 in
    let new = record r { putting = c.end.new.self } in
    subst (λ x. Steps g.S.Sink.output g.S.Sink.told p x r new c.args.out.now c.end.new.out) (sym (stops_with c.from_residual.result e c.from_residual.ensures.1))
    (literal_closes g.S.Sink.output g.S.Sink.told p (Err e) r new c.args.running c.args.number c.instr.result.now c.in-Literal.name _ _ c.in-Literal.at c.args.out.now c.end.new.out
    c.requires c.instr.ensures c.in-Literal.is c.in_err-end-in-Literal.ensures.puts tt refl)

pub returns-in_ok-end-in-Literal-clause-goes : goal.returns-in_ok-end-in-Literal-clause-goes
returns-in_ok-end-in-Literal-clause-goes g c = λ shown.
    let r = c.args.self.now in
    let new = c.leave_list.new.self in
    literal_closes g.S.Sink.output g.S.Sink.told c.args.program.now (Ok _) r new c.args.running c.args.number c.instr.result.now c.in-Literal.name _ _ c.in-Literal.at c.args.out.now c.end.new.out
    c.requires c.instr.ensures c.in-Literal.is (puts_past g.S.Sink.output g.S.Sink.told c.in-Literal.at (part.End c.in-Literal.name ∷ []) (Ok _) r.putting c.end.new.self new.putting c.args.out.now c.end.new.out
    (sym (ap (λ (n : Run). n.putting.buffers) c.leave_list.ensures.rest)) (sym (ap (λ (n : Run). n.putting.targets) c.leave_list.ensures.rest)) c.in_ok-end-in-Literal.ensures.puts)
    c.leave_list.ensures.behind (moved_and_put r (record r { putting = c.end.new.self }) new c.leave_list.ensures.rest refl)

pub returns-in_err-close_copy-in-Copy-clause-goes : goal.returns-in_err-close_copy-in-Copy-clause-goes
returns-in_err-close_copy-in-Copy-clause-goes g c = λ shown.
    let p = c.args.program.now in
    let r = c.args.self.now in
    let e = c.in_err-close_copy-in-Copy.field-0.0 in
    let new = c.close_copy.new.self in
    let ends = c.in_err-close_copy-in-Copy.ensures.ends in
    subst (λ x. Steps g.S.Sink.output g.S.Sink.told p x r new c.args.out.now c.close_copy.new.out) (sym (stops_with c.from_residual-in_err-close_copy-in-Copy.result e c.from_residual-in_err-close_copy-in-Copy.ensures.1))
    (copy_closes g.S.Sink.output g.S.Sink.told p (Err e) r new c.args.running c.args.number c.instr.result.now _ _ c.in-Copy.at ends.node c.args.out.now c.close_copy.new.out
    c.requires c.instr.ensures c.in-Copy.is ends.there ends.puts tt (putting_alone r new c.close_copy.ensures.only.rest))

pub returns-in_ok-close_copy-in-Copy-clause-goes : goal.returns-in_ok-close_copy-in-Copy-clause-goes
returns-in_ok-close_copy-in-Copy-clause-goes g c = λ shown.
    let p = c.args.program.now in
    let r = c.args.self.now in
    let mid = c.close_copy.new.self in
    let new = c.leave_list-in-Copy.new.self in
    let ends = c.in_ok-close_copy-in-Copy.ensures.ends in
    copy_closes g.S.Sink.output g.S.Sink.told p (Ok _) r new c.args.running c.args.number c.instr.result.now _ _ c.in-Copy.at ends.node c.args.out.now c.close_copy.new.out
    c.requires c.instr.ensures c.in-Copy.is ends.there (puts_past g.S.Sink.output g.S.Sink.told c.in-Copy.at (copy_end ends.node) (Ok _) r.putting mid.putting new.putting c.args.out.now c.close_copy.new.out
    (sym (ap (λ (n : Run). n.putting.buffers) c.leave_list-in-Copy.ensures.rest)) (sym (ap (λ (n : Run). n.putting.targets) c.leave_list-in-Copy.ensures.rest)) ends.puts)
    (c.leave_list-in-Copy.ensures.behind ∙ ap (λ (n : Run). on_body (with_pc (c.args.running.pc + 1)) (reverse n.frames.frames)) c.close_copy.ensures.only.rest)
    (moved_and_put r mid new c.leave_list-in-Copy.ensures.rest c.close_copy.ensures.only.rest)

pub returns-in-Element-clause-goes : goal.returns-in-Element-clause-goes
returns-in-Element-clause-goes g c = λ shown.
    c.leave_tagged.ensures.goes c.instr.result.now c.instr.ensures
    (subst (λ x. IsElementAt x c.in-Element.at) (sym (out_is c.instr.result.now _ (Instr-F.Element _ _ _ _ c.in-Element.at) (rolls-Element _ _ _ _ _) c.in-Element.is)) refl)

pub returns-in-ResultBuffer-clause-goes : goal.returns-in-ResultBuffer-clause-goes
returns-in-ResultBuffer-clause-goes g c = λ shown.
    absurd (subst ClosesShown (out_is c.instr.result.now _ (Instr-F.ResultBuffer _ _ _ _) (rolls-ResultBuffer _ _ _ _) c.in-ResultBuffer.is) (shown c.instr.result.now c.instr.ensures))

-- What stays as it was.

pub returns-in_ok-end-in-Literal-clause-keeps : goal.returns-in_ok-end-in-Literal-clause-keeps
returns-in_ok-end-in-Literal-clause-keeps g c = λ shown.
    let r = c.args.self.now in
    let new = c.leave_list.new.self in
    let next = c.args.running.pc + 1 in
    stays_moved r new (with_pc next) (λ o. next) (λ l. l) (moves_pc next)
    (rest_there r new (record r { frames = new.frames; putting = c.end.new.self }) c.leave_list.ensures.rest refl) c.args.running.pc c.requires.pc c.leave_list.ensures.behind

pub returns-in_ok-close_copy-in-Copy-clause-keeps : goal.returns-in_ok-close_copy-in-Copy-clause-keeps
returns-in_ok-close_copy-in-Copy-clause-keeps g c = λ shown.
    let r = c.args.self.now in
    let mid = c.close_copy.new.self in
    let new = c.leave_list-in-Copy.new.self in
    let next = c.args.running.pc + 1 in
    stays_moved r new (with_pc next) (λ o. next) (λ l. l) (moves_pc next)
    (rest_there r new (record r { frames = new.frames; putting = mid.putting }) (c.leave_list-in-Copy.ensures.rest ∙ ap (λ (x : Run). record x { frames = new.frames }) c.close_copy.ensures.only.rest) refl)
    c.args.running.pc c.requires.pc (c.leave_list-in-Copy.ensures.behind ∙ ap (λ (n : Run). on_body (with_pc next) (reverse n.frames.frames)) c.close_copy.ensures.only.rest)

pub returns-in-Element-clause-keeps : goal.returns-in-Element-clause-keeps
returns-in-Element-clause-keeps g c = λ shown. c.leave_tagged.ensures.keeps

pub returns-in-ResultBuffer-clause-keeps : goal.returns-in-ResultBuffer-clause-keeps
returns-in-ResultBuffer-clause-keeps g c = λ shown.
    absurd (subst ClosesShown (out_is c.instr.result.now _ (Instr-F.ResultBuffer _ _ _ _) (rolls-ResultBuffer _ _ _ _) c.in-ResultBuffer.is) (shown c.instr.result.now c.instr.ensures))
