use Rattle.std.proofs.Common.{◌+◌, ◌^◌, ◌∙◌, Ok, Err, ap, arith, subst, sym}
use Rattle.frame_stack.specs.Change.{with_pc}
use Rattle.sheet_model.specs.Parts.{place}
use Rattle.sheet_model.specs.declared.instr.Instr.TheOpen.{Instr-F}
use Rattle.sheet_model.specs.declared.instr.Instr.TheViews.{out-Instr, rolls-Assign, rolls-Local}
use Rattle.template_machine.specs.Saying.{Acts}
use Rattle.template_machine.specs.Shifting.{Sets}
use Rattle.template_machine.proofs.Operating.{at_body}
use Rattle.template_machine.proofs.Spelled.{out_is}
use Rattle.template_machine.proofs.Valued.{assign_placed, local_placed, no_value, sets_answered, sets_behind, sets_of, sets_stopped}
use Rattle.template_machine.specs.declared.run.Step.TheVariants as step
use Rattle.template_machine.proofs.Saying.{acts_after, only_texts, passes_by, stops_with}
use Rattle.instr_code.specs.declared.code.Op.TheVariants as op
use Rattle.template_machine.proofs.Arms.{assigned_runs, declares_is, local_evaluable}
use Rattle.template_machine.proofs.Evaluable.{can_run}
use Rattle.template_machine.proofs.Instructing.{assign_single, puts_at, single_at}
use Rattle.template_machine.proofs.Beginning.{begins_after}
use Rattle.template_machine.proofs.Falling.{begins_within}
use Rattle.template_machine.proofs.run.Run.act.Goals as goal

pub declare-requires-clause-form : goal.declare-requires-clause-form
declare-requires-clause-form g c =
    declares_is c.args.program.now.code c.args.number c.args.instr.now c.in-Local.name c.in-Local.select _ c.requires.instr c.in-Local.is

pub declare-requires-clause-select : goal.declare-requires-clause-select
declare-requires-clause-select g c =
    local_evaluable c.args.program.now c.args.self.now c.args.running (op.Do c.args.number) c.args.number c.args.instr.now c.in-Local.name c.in-Local.select _
    c.requires.op c.requires.instr c.in-Local.is

pub pass_on-requires-clause-form : goal.pass_on-requires-clause-form
pass_on-requires-clause-form g c = assign_single c.args.program.now c.args.number c.args.instr.now _ _ _ c.requires.instr c.in-Assign.is

pub assign-requires-clause-select : goal.assign-requires-clause-select
assign-requires-clause-select g c =
    assigned_runs c.args.program.now c.args.self.now c.args.running (op.Do c.args.number) c.args.number c.args.instr.now c.in-Assign.name c.in-Assign.select _
    c.requires.op c.requires.instr c.in-Assign.is

pub pass_on-requires-in_default-clause-form : goal.pass_on-requires-in_default-clause-form
pass_on-requires-in_default-clause-form g c =
    single_at c.args.program.now c.args.self.now c.args.running c.args.number c.args.instr.now c.requires.op c.requires.instr
    (λ name select at e. c.in_default.not-Local name select at e)

pub put-requires-clause-can : goal.put-requires-clause-can
put-requires-clause-can g c =
    can_run c.args.program.now c.args.self.now c.requires.op.well.steady c.args.number c.args.instr.now c.requires.instr

pub put-requires-clause-puts : goal.put-requires-clause-puts
put-requires-clause-puts g c =
    puts_at c.args.program.now c.args.self.now c.args.running c.args.number c.args.instr.now c.requires.op c.requires.instr c.requires.stays
    (λ name select at e. c.in_default.not-Local name select at e) (λ name select at e. c.in_default.not-Assign name select at e)

pub returns-in_ok-declare-in-Local-clause-works : goal.returns-in_ok-declare-in-Local-clause-works
returns-in_ok-declare-in-Local-clause-works g c =
    begins_within 0 (2 ^ 68) c.args.self.now c.declare.new.self (omega arith) c.in_ok-declare-in-Local.ensures.works

pub returns-in_ok-assign-in-Assign-clause-works : goal.returns-in_ok-assign-in-Assign-clause-works
returns-in_ok-assign-in-Assign-clause-works g c =
    begins_after 0 c.args.self.now c.pass_on.new.self c.assign.new.self c.pass_on.ensures.works c.in_ok-assign-in-Assign.ensures.works (omega arith)

pub returns-in_ok-put-in_default-clause-works : goal.returns-in_ok-put-in_default-clause-works
returns-in_ok-put-in_default-clause-works g c =
    begins_after 0 c.args.self.now c.pass_on-in_default.new.self c.put.new.self c.pass_on-in_default.ensures.works c.in_ok-put-in_default.ensures.works (omega arith)

-- What is done.

pub returns-in_ok-declare-in-Local-clause-acts : goal.returns-in_ok-declare-in-Local-clause-acts
returns-in_ok-declare-in-Local-clause-acts g c = λ gives. only_texts c.args.instr.now _ (Instr-F.Local _ _ _) (rolls-Local _ _ _) c.in-Local.is (λ x. x) gives

pub returns-in_err-declare-in-Local-clause-acts : goal.returns-in_err-declare-in-Local-clause-acts
returns-in_err-declare-in-Local-clause-acts g c = λ gives. only_texts c.args.instr.now _ (Instr-F.Local _ _ _) (rolls-Local _ _ _) c.in-Local.is (λ x. x) gives

pub returns-in_ok-declare-in-Local-clause-passes : goal.returns-in_ok-declare-in-Local-clause-passes
returns-in_ok-declare-in-Local-clause-passes g c = λ gives. only_texts c.args.instr.now _ (Instr-F.Local _ _ _) (rolls-Local _ _ _) c.in-Local.is (λ x. x) gives

pub returns-in_err-declare-in-Local-clause-passes : goal.returns-in_err-declare-in-Local-clause-passes
returns-in_err-declare-in-Local-clause-passes g c = λ gives. only_texts c.args.instr.now _ (Instr-F.Local _ _ _) (rolls-Local _ _ _) c.in-Local.is (λ x. x) gives

pub returns-in_ok-assign-in-Assign-clause-acts : goal.returns-in_ok-assign-in-Assign-clause-acts
returns-in_ok-assign-in-Assign-clause-acts g c = λ gives. only_texts c.args.instr.now _ (Instr-F.Assign _ _ _) (rolls-Assign _ _ _) c.in-Assign.is (λ x. x) gives

pub returns-in_err-assign-in-Assign-clause-acts : goal.returns-in_err-assign-in-Assign-clause-acts
returns-in_err-assign-in-Assign-clause-acts g c = λ gives. only_texts c.args.instr.now _ (Instr-F.Assign _ _ _) (rolls-Assign _ _ _) c.in-Assign.is (λ x. x) gives

pub returns-in_ok-assign-in-Assign-clause-passes : goal.returns-in_ok-assign-in-Assign-clause-passes
returns-in_ok-assign-in-Assign-clause-passes g c = λ gives. only_texts c.args.instr.now _ (Instr-F.Assign _ _ _) (rolls-Assign _ _ _) c.in-Assign.is (λ x. x) gives

pub returns-in_err-assign-in-Assign-clause-passes : goal.returns-in_err-assign-in-Assign-clause-passes
returns-in_err-assign-in-Assign-clause-passes g c = λ gives. only_texts c.args.instr.now _ (Instr-F.Assign _ _ _) (rolls-Assign _ _ _) c.in-Assign.is (λ x. x) gives

pub returns-in_ok-put-in_default-clause-acts : goal.returns-in_ok-put-in_default-clause-acts
returns-in_ok-put-in_default-clause-acts g c = λ gives.
    acts_after g.S.Sink.output g.S.Sink.told c.args.program.now (out-Instr c.args.instr.now) (Ok c.in_ok-put-in_default.field-0) step.More (c.args.running.pc + 1) c.args.self.now c.pass_on-in_default.new.self
    c.put.new.self c.args.out.now c.put.new.out c.pass_on-in_default.ensures.behind c.pass_on-in_default.ensures.rest (c.in_ok-put-in_default.ensures.acts c.pass_on-in_default.ensures.stands.place c.place_of.ensures)

pub returns-in_err-put-in_default-clause-acts : goal.returns-in_err-put-in_default-clause-acts
returns-in_err-put-in_default-clause-acts g c = λ gives.
    let e = c.in_err-put-in_default.field-0.0 in
    let x = out-Instr c.args.instr.now in
    subst (λ r. Acts g.S.Sink.output g.S.Sink.told c.args.program.now x r c.args.self.now c.put.new.self c.args.out.now c.put.new.out) (sym (stops_with c.from_residual-in_err-put-in_default.result e c.from_residual-in_err-put-in_default.ensures.1))
    (acts_after g.S.Sink.output g.S.Sink.told c.args.program.now x (Err e) step.More (c.args.running.pc + 1) c.args.self.now c.pass_on-in_default.new.self
    c.put.new.self c.args.out.now c.put.new.out c.pass_on-in_default.ensures.behind c.pass_on-in_default.ensures.rest (c.in_err-put-in_default.ensures.acts c.pass_on-in_default.ensures.stands.place c.place_of.ensures))

pub returns-in_ok-put-in_default-clause-passes : goal.returns-in_ok-put-in_default-clause-passes
returns-in_ok-put-in_default-clause-passes g c = λ gives.
    passes_by c.args.running.pc _ c.args.self.now c.pass_on-in_default.new.self c.put.new.self c.pass_on-in_default.ensures.behind c.pass_on-in_default.ensures.rest c.put.ensures.rest

pub returns-in_err-put-in_default-clause-passes : goal.returns-in_err-put-in_default-clause-passes
returns-in_err-put-in_default-clause-passes g c = λ gives.
    passes_by c.args.running.pc _ c.args.self.now c.pass_on-in_default.new.self c.put.new.self c.pass_on-in_default.ensures.behind c.pass_on-in_default.ensures.rest c.put.ensures.rest

-- Values that are given to variables.

pub returns-in_ok-declare-in-Local-clause-sets : goal.returns-in_ok-declare-in-Local-clause-sets
returns-in_ok-declare-in-Local-clause-sets g c = λ gives.
    let it = c.args.instr.now in
    let out = out_is it _ (Instr-F.Local c.in-Local.name c.in-Local.select _) (rolls-Local _ _ _) c.in-Local.is in
    sets_answered (sets_of it (Instr-F.Local c.in-Local.name c.in-Local.select _) out
    (local_placed c.in-Local.name c.in-Local.select c.place_of.result _ (c.place_of.ensures ∙ ap place out)
    c.in_ok-declare-in-Local.ensures.sets)) _

pub returns-in_err-declare-in-Local-clause-sets : goal.returns-in_err-declare-in-Local-clause-sets
returns-in_err-declare-in-Local-clause-sets g c = λ gives.
    let it = c.args.instr.now in
    let p = c.args.program.now in
    let e = c.in_err-declare-in-Local.field-0.0 in
    let out = out_is it _ (Instr-F.Local c.in-Local.name c.in-Local.select _) (rolls-Local _ _ _) c.in-Local.is in
    subst (λ r. Sets p (out-Instr it) (with_pc (c.args.running.pc + 1)) r c.args.self.now c.declare.new.self) (sym (stops_with c.from_residual.result e c.from_residual.ensures.1))
    (sets_stopped (sets_of it (Instr-F.Local c.in-Local.name c.in-Local.select _) out
    (local_placed c.in-Local.name c.in-Local.select c.place_of.result _ (c.place_of.ensures ∙ ap place out)
    c.in_err-declare-in-Local.ensures.sets)))

pub returns-in_ok-assign-in-Assign-clause-sets : goal.returns-in_ok-assign-in-Assign-clause-sets
returns-in_ok-assign-in-Assign-clause-sets g c = λ gives.
    let it = c.args.instr.now in
    let p = c.args.program.now in
    let r = c.args.self.now in
    let out = out_is it _ (Instr-F.Assign c.in-Assign.name c.in-Assign.select _) (rolls-Assign _ _ _) c.in-Assign.is in
    sets_answered (sets_behind p (out-Instr it) _ r c.pass_on.new.self c.assign.new.self (c.args.running.pc + 1) (at_body p r c.args.running (op.Do c.args.number) c.requires.op).body
    c.pass_on.ensures.behind c.pass_on.ensures.rest
    (sets_of it (Instr-F.Assign c.in-Assign.name c.in-Assign.select _) out
    (assign_placed c.in-Assign.name c.in-Assign.select c.place_of.result _ (c.place_of.ensures ∙ ap place out) c.in_ok-assign-in-Assign.ensures.sets))) _

pub returns-in_err-assign-in-Assign-clause-sets : goal.returns-in_err-assign-in-Assign-clause-sets
returns-in_err-assign-in-Assign-clause-sets g c = λ gives.
    let it = c.args.instr.now in
    let p = c.args.program.now in
    let r = c.args.self.now in
    let e = c.in_err-assign-in-Assign.field-0.0 in
    let out = out_is it _ (Instr-F.Assign c.in-Assign.name c.in-Assign.select _) (rolls-Assign _ _ _) c.in-Assign.is in
    subst (λ x. Sets p (out-Instr it) (with_pc (c.args.running.pc + 1)) x r c.assign.new.self) (sym (stops_with c.from_residual-in_err-assign-in-Assign.result e c.from_residual-in_err-assign-in-Assign.ensures.1))
    (sets_stopped (sets_behind p (out-Instr it) _ r c.pass_on.new.self c.assign.new.self (c.args.running.pc + 1) (at_body p r c.args.running (op.Do c.args.number) c.requires.op).body
    c.pass_on.ensures.behind c.pass_on.ensures.rest
    (sets_of it (Instr-F.Assign c.in-Assign.name c.in-Assign.select _) out
    (assign_placed c.in-Assign.name c.in-Assign.select c.place_of.result _ (c.place_of.ensures ∙ ap place out) c.in_err-assign-in-Assign.ensures.sets))))

pub returns-in_ok-put-in_default-clause-sets : goal.returns-in_ok-put-in_default-clause-sets
returns-in_ok-put-in_default-clause-sets g c = λ gives.
    no_value (out-Instr c.args.instr.now)
    (puts_at c.args.program.now c.args.self.now c.args.running c.args.number c.args.instr.now c.requires.op c.requires.instr c.requires.stays
    (λ name select at e. c.in_default.not-Local name select at e) (λ name select at e. c.in_default.not-Assign name select at e)) gives

pub returns-in_err-put-in_default-clause-sets : goal.returns-in_err-put-in_default-clause-sets
returns-in_err-put-in_default-clause-sets g c = λ gives.
    no_value (out-Instr c.args.instr.now)
    (puts_at c.args.program.now c.args.self.now c.args.running c.args.number c.args.instr.now c.requires.op c.requires.instr c.requires.stays
    (λ name select at e. c.in_default.not-Local name select at e) (λ name select at e. c.in_default.not-Assign name select at e)) gives

pub returns-in_ok-put-in_default-clause-same : goal.returns-in_ok-put-in_default-clause-same
returns-in_ok-put-in_default-clause-same g c = λ gives.
    no_value (out-Instr c.args.instr.now)
    (puts_at c.args.program.now c.args.self.now c.args.running c.args.number c.args.instr.now c.requires.op c.requires.instr c.requires.stays
    (λ name select at e. c.in_default.not-Local name select at e) (λ name select at e. c.in_default.not-Assign name select at e)) gives

pub returns-in_err-put-in_default-clause-same : goal.returns-in_err-put-in_default-clause-same
returns-in_err-put-in_default-clause-same g c = λ gives.
    no_value (out-Instr c.args.instr.now)
    (puts_at c.args.program.now c.args.self.now c.args.running c.args.number c.args.instr.now c.requires.op c.requires.instr c.requires.stays
    (λ name select at e. c.in_default.not-Local name select at e) (λ name select at e. c.in_default.not-Assign name select at e)) gives
