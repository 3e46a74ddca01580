use Rattle.std.proofs.Common.{All, sym, subst, ◌^◌, arith, ◌≡◌, ◌∙◌, ap, reverse}
use Rattle.instr_code.specs.declared.code.Op.TheVariants as op
use Rattle.sheet_model.specs.declared.instr.Instr.TheOpen.{Instr-F}
use Rattle.sheet_model.specs.declared.instr.Instr.TheViews.{out-Instr, rolls-CallProcedure, rolls-ProcessAttributes, rolls-ProcessBuffer, rolls-ProcessChildren, rolls-ProcessDocument, rolls-ProcessSelf, rolls-ProcessSiblings}
use Rattle.sheet_model.specs.declared.instr.WithParam.{WithParam}
use Rattle.sheet_model.specs.Parts.{handed}
use Rattle.stxpath_syntax.specs.Shape.{CanBeEvaluated}
use Rattle.template_machine.proofs.Formed.{done, has_number}
use Rattle.template_machine.proofs.Fueled.{at_spent}
use Rattle.template_machine.proofs.Instructing.{attributes_single, buffer_single, buffer_there, call_single, called_params, called_procedure, children_single, document_single, href_runs, itself_single, siblings_single, stays_here}
use Rattle.template_machine.proofs.Falling.{spent_ok}
use Rattle.template_machine.proofs.Proceeding.{unit_wanted}
use Rattle.template_machine.proofs.Valued.{act_steps}
use Rattle.template_machine.specs.Onward.{StepsOn}
use Rattle.template_machine.specs.Behind.{instr_acts}
use Rattle.template_machine.specs.Bodies.{pc_in}
use Rattle.template_machine.specs.Reached.{AsksForAttributes, AsksForChildren, AsksForItself, CallsProcedure}
use Rattle.template_machine.proofs.Saying.{stops_with}
use Rattle.template_machine.proofs.run.Run.instruct.Goals as goal
use Rattle.template_machine.proofs.Composed.{says_nothing}
use Rattle.template_machine.proofs.Instructed.{unit_steps}
use Rattle.template_machine.proofs.Operated.{did_steps, gives_stays, in_place, not_ordinary, one_fewer, shown_do, spent_alone, stopped_steps}
use Rattle.template_machine.proofs.Spelled.{out_is}
use Rattle.template_machine.specs.declared.run.Run.{Run}

pub instr-instr-requires : goal.instr-instr-requires
instr-instr-requires g c =
    let d = done c.args.program.now c.args.self.now c.args.running c.args.number c.requires in has_number c.args.program.now.code c.args.number d.0 d.1.0

pub call-requires-clause-form : goal.call-requires-clause-form
call-requires-clause-form g c =
    call_single c.args.program.now c.args.number c.instr-instr.result.now _ _ _ c.instr-instr.ensures c.in-CallProcedure.is

pub call-requires-clause-procedure : goal.call-requires-clause-procedure
call-requires-clause-procedure g c =
    called_procedure c.args.program.now c.args.self.now c.args.running c.args.number c.instr-instr.result.now c.requires c.instr-instr.ensures _ _ _ c.in-CallProcedure.is

pub call-requires-clause-params : goal.call-requires-clause-params
call-requires-clause-params g c =
    subst (All (λ (w : WithParam). CanBeEvaluated w.select)) (sym c.as_slice.ensures)
    (called_params c.args.program.now c.args.self.now c.args.running c.args.number c.instr-instr.result.now c.requires c.instr-instr.ensures _ c.in-CallProcedure.params _
    c.in-CallProcedure.is)

pub process_children-requires-clause-form : goal.process_children-requires-clause-form
process_children-requires-clause-form g c =
    children_single c.args.program.now c.args.number c.instr-instr.result.now _ _ _ c.instr-instr.ensures c.in-ProcessChildren.is

pub process_attributes-requires-clause-form : goal.process_attributes-requires-clause-form
process_attributes-requires-clause-form g c =
    attributes_single c.args.program.now c.args.number c.instr-instr.result.now _ _ _ c.instr-instr.ensures c.in-ProcessAttributes.is

pub process_self-requires-clause-form : goal.process_self-requires-clause-form
process_self-requires-clause-form g c =
    itself_single c.args.program.now c.args.number c.instr-instr.result.now _ _ _ c.instr-instr.ensures c.in-ProcessSelf.is

pub process_siblings-requires-clause-form : goal.process_siblings-requires-clause-form
process_siblings-requires-clause-form g c =
    siblings_single c.args.program.now c.args.number c.instr-instr.result.now _ _ _ _ _ c.instr-instr.ensures c.in-ProcessSiblings.is

pub process_buffer-requires-clause-form : goal.process_buffer-requires-clause-form
process_buffer-requires-clause-form g c =
    buffer_single c.args.program.now c.args.number c.instr-instr.result.now _ _ _ _ c.instr-instr.ensures c.in-ProcessBuffer.is

pub process_buffer-requires-clause-buffer : goal.process_buffer-requires-clause-buffer
process_buffer-requires-clause-buffer g c =
    buffer_there c.args.program.now c.args.self.now c.args.running c.args.number c.instr-instr.result.now c.requires c.instr-instr.ensures _ _ _ _ c.in-ProcessBuffer.is

pub process_document-requires-clause-form : goal.process_document-requires-clause-form
process_document-requires-clause-form g c =
    document_single c.args.program.now c.args.number c.instr-instr.result.now _ _ _ _ c.instr-instr.ensures c.in-ProcessDocument.is

pub process_document-requires-clause-href : goal.process_document-requires-clause-href
process_document-requires-clause-href g c =
    href_runs c.args.program.now c.args.self.now c.args.running c.args.number c.instr-instr.result.now c.requires c.instr-instr.ensures c.in-ProcessDocument.href _ _ _ c.in-ProcessDocument.is

pub process_document-requires-clause-sheet : goal.process_document-requires-clause-sheet
process_document-requires-clause-sheet g c = λ ordinary.
    not_ordinary c.args.program.now c.args.number c.instr-instr.result.now _ (Instr-F.ProcessDocument _ _ _ _) (rolls-ProcessDocument _ _ _ _) c.in-ProcessDocument.is (λ x. x) ordinary c.instr-instr.ensures

pub act-requires-clause-stays : goal.act-requires-clause-stays
act-requires-clause-stays g c =
    stays_here c.instr-instr.result.now
    (λ name params at e. c.in_default.not-CallProcedure name params at e)
    (λ group params at e. c.in_default.not-ProcessChildren group params at e)
    (λ group params at e. c.in_default.not-ProcessAttributes group params at e)
    (λ group params at e. c.in_default.not-ProcessSelf group params at e)
    (λ going until group params at e. c.in_default.not-ProcessSiblings going until group params at e)
    (λ name group params at e. c.in_default.not-ProcessBuffer name group params at e)
    (λ href group params at e. c.in_default.not-ProcessDocument href group params at e)

pub call-requires-clause-op : goal.call-requires-clause-op
call-requires-clause-op g c = at_spent c.args.program.now c.args.self.now c.spend.new.self c.args.running (op.Do c.args.number) c.spend.ensures.same c.requires

pub process_children-requires-clause-op : goal.process_children-requires-clause-op
process_children-requires-clause-op g c = at_spent c.args.program.now c.args.self.now c.spend.new.self c.args.running (op.Do c.args.number) c.spend.ensures.same c.requires

pub process_attributes-requires-clause-op : goal.process_attributes-requires-clause-op
process_attributes-requires-clause-op g c = at_spent c.args.program.now c.args.self.now c.spend.new.self c.args.running (op.Do c.args.number) c.spend.ensures.same c.requires

pub process_self-requires-clause-op : goal.process_self-requires-clause-op
process_self-requires-clause-op g c = at_spent c.args.program.now c.args.self.now c.spend.new.self c.args.running (op.Do c.args.number) c.spend.ensures.same c.requires

pub process_siblings-requires-clause-op : goal.process_siblings-requires-clause-op
process_siblings-requires-clause-op g c = at_spent c.args.program.now c.args.self.now c.spend.new.self c.args.running (op.Do c.args.number) c.spend.ensures.same c.requires

pub process_buffer-requires-clause-op : goal.process_buffer-requires-clause-op
process_buffer-requires-clause-op g c = at_spent c.args.program.now c.args.self.now c.spend.new.self c.args.running (op.Do c.args.number) c.spend.ensures.same c.requires

pub process_document-requires-clause-op : goal.process_document-requires-clause-op
process_document-requires-clause-op g c = at_spent c.args.program.now c.args.self.now c.spend.new.self c.args.running (op.Do c.args.number) c.spend.ensures.same c.requires

pub act-requires-clause-op : goal.act-requires-clause-op
act-requires-clause-op g c = at_spent c.args.program.now c.args.self.now c.spend.new.self c.args.running (op.Do c.args.number) c.spend.ensures.same c.requires

pub returns-in-CallProcedure-clause-works : goal.returns-in-CallProcedure-clause-works
returns-in-CallProcedure-clause-works g c =
    spent_ok c.args.program.now c.args.self.now c.spend.new.self c.call.new.self (2 ^ 68) c.requires.well.steady.places c.spend.ensures.same c.in_ok-spend.ensures.ok (omega arith) c.call.result c.call.ensures.works

pub returns-in-ProcessChildren-clause-works : goal.returns-in-ProcessChildren-clause-works
returns-in-ProcessChildren-clause-works g c =
    spent_ok c.args.program.now c.args.self.now c.spend.new.self c.process_children.new.self (2 ^ 68) c.requires.well.steady.places c.spend.ensures.same c.in_ok-spend.ensures.ok (omega arith) c.process_children.result c.process_children.ensures.works

pub returns-in-ProcessAttributes-clause-works : goal.returns-in-ProcessAttributes-clause-works
returns-in-ProcessAttributes-clause-works g c =
    spent_ok c.args.program.now c.args.self.now c.spend.new.self c.process_attributes.new.self (2 ^ 68) c.requires.well.steady.places c.spend.ensures.same c.in_ok-spend.ensures.ok (omega arith) c.process_attributes.result c.process_attributes.ensures.works

pub returns-in-ProcessSelf-clause-works : goal.returns-in-ProcessSelf-clause-works
returns-in-ProcessSelf-clause-works g c =
    spent_ok c.args.program.now c.args.self.now c.spend.new.self c.process_self.new.self (2 ^ 68) c.requires.well.steady.places c.spend.ensures.same c.in_ok-spend.ensures.ok (omega arith) c.process_self.result c.process_self.ensures.works

pub returns-in-ProcessSiblings-clause-works : goal.returns-in-ProcessSiblings-clause-works
returns-in-ProcessSiblings-clause-works g c =
    spent_ok c.args.program.now c.args.self.now c.spend.new.self c.process_siblings.new.self (2 ^ 68) c.requires.well.steady.places c.spend.ensures.same c.in_ok-spend.ensures.ok (omega arith) c.process_siblings.result c.process_siblings.ensures.works

pub returns-in-ProcessBuffer-clause-works : goal.returns-in-ProcessBuffer-clause-works
returns-in-ProcessBuffer-clause-works g c =
    spent_ok c.args.program.now c.args.self.now c.spend.new.self c.process_buffer.new.self (2 ^ 68) c.requires.well.steady.places c.spend.ensures.same c.in_ok-spend.ensures.ok (omega arith) c.process_buffer.result c.process_buffer.ensures.works

pub returns-in-ProcessDocument-clause-works : goal.returns-in-ProcessDocument-clause-works
returns-in-ProcessDocument-clause-works g c =
    spent_ok c.args.program.now c.args.self.now c.spend.new.self c.process_document.new.self (2 ^ 68) c.requires.well.steady.places c.spend.ensures.same c.in_ok-spend.ensures.ok (omega arith) c.process_document.result c.process_document.ensures.works

pub returns-in_default-clause-works : goal.returns-in_default-clause-works
returns-in_default-clause-works g c =
    spent_ok c.args.program.now c.args.self.now c.spend.new.self c.act.new.self (2 ^ 68) c.requires.well.steady.places c.spend.ensures.same c.in_ok-spend.ensures.ok (omega arith) c.act.result c.act.ensures.works

-- What is done.

pub returns-in_err-spend-clause-steps : goal.returns-in_err-spend-clause-steps
returns-in_err-spend-clause-steps g c = λ alone ordinary.
    let p = c.args.program.now in
    let r = c.args.self.now in
    let s = c.spend.new.self in
    let e = c.in_err-spend.field-0.0 in
    subst (λ x. StepsOn g.S.Sink.output g.S.Sink.told p x r s c.args.out.now c.args.out.now) (sym (stops_with c.from_residual.result e c.from_residual.ensures.1))
    (stopped_steps g.S.Sink.output g.S.Sink.told p r s e c.args.out.now c.args.out.now
    (unit_wanted g.S.Sink.output g.S.Sink.told p g.met.S.Sink.nothing e r s c.args.running c.args.number c.instr-instr.result.now
    c.place_of-at.result c.args.out.now c.requires c.instr-instr.ensures c.place_of-at.ensures c.in_err-spend.ensures.spent c.in_err-spend.ensures.err))

pub returns-in_default-clause-steps : goal.returns-in_default-clause-steps
returns-in_default-clause-steps g c = λ alone ordinary.
    let p = c.args.program.now in
    let r = c.args.self.now in
    let s = c.spend.new.self in
    let new = c.act.new.self in
    let i = c.instr-instr.result.now in
    let pc = c.args.running.pc in
    let units : s ≡ record r { fuel = s.fuel } = c.spend.ensures.same in
    let shown = shown_do p r c.args.running c.args.number i c.requires c.instr-instr.ensures (stays_here i
    (λ name params at e. c.in_default.not-CallProcedure name params at e)
    (λ group params at e. c.in_default.not-ProcessChildren group params at e)
    (λ group params at e. c.in_default.not-ProcessAttributes group params at e)
    (λ group params at e. c.in_default.not-ProcessSelf group params at e)
    (λ going until group params at e. c.in_default.not-ProcessSiblings going until group params at e)
    (λ name group params at e. c.in_default.not-ProcessBuffer name group params at e)
    (λ href group params at e. c.in_default.not-ProcessDocument href group params at e)) in
    did_steps g.S.Sink.output g.S.Sink.told p (2 ^ 68) r s new c.act.result c.args.out.now c.act.new.out
    (act_steps g.S.Sink.output g.S.Sink.told g.met.S.Sink.nothing p c.act.result r s new c.args.running c.args.number i
    c.args.out.now c.act.new.out c.requires c.instr-instr.ensures units c.in_ok-spend.ensures.ok c.act.ensures.acts c.act.ensures.passes c.act.ensures.sets c.act.ensures.same shown)
    (gives_stays p (out-Instr i) s new pc c.act.result (ap (λ (x : Run). pc_in (reverse x.frames.frames)) units ∙ c.requires.pc) c.act.ensures.passes c.act.ensures.sets c.act.ensures.more shown)
    c.act.ensures.works (spent_alone p r s units (one_fewer r.fuel s.fuel c.in_ok-spend.ensures.ok) alone)

pub returns-in-CallProcedure-clause-steps : goal.returns-in-CallProcedure-clause-steps
returns-in-CallProcedure-clause-steps g c = λ alone ordinary.
    let p = c.args.program.now in
    let r = c.args.self.now in
    let s = c.spend.new.self in
    let i = c.instr-instr.result.now in
    let at = c.place_of-at.result in
    let units : s ≡ record r { fuel = s.fuel } = c.spend.ensures.same in
    let out = out_is i _ (Instr-F.CallProcedure _ _ _) (rolls-CallProcedure _ _ _) c.in-CallProcedure.is in
    let asks : CallsProcedure at (out-Instr i) = subst (CallsProcedure at) (sym out) (in_place i _ (Instr-F.CallProcedure _ _ _) at (rolls-CallProcedure _ _ _) c.in-CallProcedure.is c.place_of-at.ensures) in
    unit_steps g.S.Sink.output g.S.Sink.told p c.call.result r s c.call.new.self c.args.running c.args.number i c.args.out.now c.args.out.now c.requires c.instr-instr.ensures units c.in_ok-spend.ensures.ok
    (says_nothing g.S.Sink.output g.S.Sink.told g.met.S.Sink.nothing p (λ given left f. instr_acts given p i c.args.running.pc s left f) c.call.result c.call.new.self c.args.out.now
    (c.call.ensures.moves i c.instr-instr.ensures asks (c.as_slice.ensures ∙ ap handed (sym out)) (spent_alone p r s units (one_fewer r.fuel s.fuel c.in_ok-spend.ensures.ok) alone)))

pub returns-in-ProcessChildren-clause-steps : goal.returns-in-ProcessChildren-clause-steps
returns-in-ProcessChildren-clause-steps g c = λ alone ordinary.
    let p = c.args.program.now in
    let r = c.args.self.now in
    let s = c.spend.new.self in
    let i = c.instr-instr.result.now in
    let at = c.place_of-at.result in
    let units : s ≡ record r { fuel = s.fuel } = c.spend.ensures.same in
    let out = out_is i _ (Instr-F.ProcessChildren _ _ _) (rolls-ProcessChildren _ _ _) c.in-ProcessChildren.is in
    let asks : AsksForChildren at (out-Instr i) = subst (AsksForChildren at) (sym out) (in_place i _ (Instr-F.ProcessChildren _ _ _) at (rolls-ProcessChildren _ _ _) c.in-ProcessChildren.is c.place_of-at.ensures) in
    unit_steps g.S.Sink.output g.S.Sink.told p c.process_children.result r s c.process_children.new.self c.args.running c.args.number i c.args.out.now c.args.out.now c.requires c.instr-instr.ensures units c.in_ok-spend.ensures.ok
    (says_nothing g.S.Sink.output g.S.Sink.told g.met.S.Sink.nothing p (λ given left f. instr_acts given p i c.args.running.pc s left f) c.process_children.result c.process_children.new.self c.args.out.now
    (c.process_children.ensures.moves i c.instr-instr.ensures asks (spent_alone p r s units (one_fewer r.fuel s.fuel c.in_ok-spend.ensures.ok) alone)))

pub returns-in-ProcessAttributes-clause-steps : goal.returns-in-ProcessAttributes-clause-steps
returns-in-ProcessAttributes-clause-steps g c = λ alone ordinary.
    let p = c.args.program.now in
    let r = c.args.self.now in
    let s = c.spend.new.self in
    let i = c.instr-instr.result.now in
    let at = c.place_of-at.result in
    let units : s ≡ record r { fuel = s.fuel } = c.spend.ensures.same in
    let out = out_is i _ (Instr-F.ProcessAttributes _ _ _) (rolls-ProcessAttributes _ _ _) c.in-ProcessAttributes.is in
    let asks : AsksForAttributes at (out-Instr i) = subst (AsksForAttributes at) (sym out) (in_place i _ (Instr-F.ProcessAttributes _ _ _) at (rolls-ProcessAttributes _ _ _) c.in-ProcessAttributes.is c.place_of-at.ensures) in
    unit_steps g.S.Sink.output g.S.Sink.told p c.process_attributes.result r s c.process_attributes.new.self c.args.running c.args.number i c.args.out.now c.args.out.now c.requires c.instr-instr.ensures units c.in_ok-spend.ensures.ok
    (says_nothing g.S.Sink.output g.S.Sink.told g.met.S.Sink.nothing p (λ given left f. instr_acts given p i c.args.running.pc s left f) c.process_attributes.result c.process_attributes.new.self c.args.out.now
    (c.process_attributes.ensures.moves i c.instr-instr.ensures asks (spent_alone p r s units (one_fewer r.fuel s.fuel c.in_ok-spend.ensures.ok) alone)))

pub returns-in-ProcessSelf-clause-steps : goal.returns-in-ProcessSelf-clause-steps
returns-in-ProcessSelf-clause-steps g c = λ alone ordinary.
    let p = c.args.program.now in
    let r = c.args.self.now in
    let s = c.spend.new.self in
    let i = c.instr-instr.result.now in
    let at = c.place_of-at.result in
    let units : s ≡ record r { fuel = s.fuel } = c.spend.ensures.same in
    let out = out_is i _ (Instr-F.ProcessSelf _ _ _) (rolls-ProcessSelf _ _ _) c.in-ProcessSelf.is in
    let asks : AsksForItself at (out-Instr i) = subst (AsksForItself at) (sym out) (in_place i _ (Instr-F.ProcessSelf _ _ _) at (rolls-ProcessSelf _ _ _) c.in-ProcessSelf.is c.place_of-at.ensures) in
    unit_steps g.S.Sink.output g.S.Sink.told p c.process_self.result r s c.process_self.new.self c.args.running c.args.number i c.args.out.now c.process_self.new.out c.requires c.instr-instr.ensures units c.in_ok-spend.ensures.ok
    (c.process_self.ensures.steps i c.instr-instr.ensures asks (spent_alone p r s units (one_fewer r.fuel s.fuel c.in_ok-spend.ensures.ok) alone))

pub returns-in-ProcessSiblings-clause-steps : goal.returns-in-ProcessSiblings-clause-steps
returns-in-ProcessSiblings-clause-steps g c = λ alone ordinary.
    not_ordinary c.args.program.now c.args.number c.instr-instr.result.now _ (Instr-F.ProcessSiblings _ _ _ _ _) (rolls-ProcessSiblings _ _ _ _ _) c.in-ProcessSiblings.is (λ x. x) ordinary c.instr-instr.ensures

pub returns-in-ProcessBuffer-clause-steps : goal.returns-in-ProcessBuffer-clause-steps
returns-in-ProcessBuffer-clause-steps g c = λ alone ordinary.
    not_ordinary c.args.program.now c.args.number c.instr-instr.result.now _ (Instr-F.ProcessBuffer _ _ _ _) (rolls-ProcessBuffer _ _ _ _) c.in-ProcessBuffer.is (λ x. x) ordinary c.instr-instr.ensures

pub returns-in-ProcessDocument-clause-steps : goal.returns-in-ProcessDocument-clause-steps
returns-in-ProcessDocument-clause-steps g c = λ alone ordinary.
    not_ordinary c.args.program.now c.args.number c.instr-instr.result.now _ (Instr-F.ProcessDocument _ _ _ _) (rolls-ProcessDocument _ _ _ _) c.in-ProcessDocument.is (λ x. x) ordinary c.instr-instr.ensures
