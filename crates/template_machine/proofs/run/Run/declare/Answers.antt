use Rattle.std.proofs.Common.{◌≡◌, ◌+◌, ◌∙◌, Some, inl, reverse, refl, ap, sym, subst}
use Rattle.frame_stack.specs.Change.{with_pc}
use Rattle.stxpath_values.specs.Outcome.{IsAnswer}
use Rattle.template_machine.specs.Bodies.{on_body}
use Rattle.template_machine.specs.Saying.{Gave, sight}
use Rattle.template_machine.specs.Shifting.{Sets, local_at, with_more}
use Rattle.template_machine.specs.Values.{selected}
use Rattle.template_machine.proofs.Naming.{names_spelled}
use Rattle.template_machine.proofs.Saying.{gave_by, stops_with}
use Rattle.template_machine.proofs.Valued.{declare_sets, declare_stops, memory_sets}
use Rattle.template_machine.proofs.Deciding.{all_rest}
use Rattle.template_machine.specs.declared.stop.Stop.TheVariants as stop
use Rattle.instr_code.specs.declared.code.Op.TheVariants as op
use Rattle.template_machine.specs.Contexts.{Declares, HasForm}
use Rattle.template_machine.specs.Steps.{Sees}
use Rattle.template_machine.proofs.Fueled.{runs_at}
use Rattle.template_machine.proofs.Seeing.{sees}
use Rattle.template_machine.proofs.run.Run.declare.Goals as goal

pub setting-setting-requires : goal.setting-setting-requires
setting-setting-requires c =
    let p = c.args.program.now in
    let r = c.args.self.now in
    subst (Sees p r) (sym c.requires.place) (sees p r c.args.running.body (runs_at p r c.args.running (op.Do c.args.number) c.requires.op))

pub pass_declared-requires-clause-form : goal.pass_declared-requires-clause-form
pass_declared-requires-clause-form c =
    subst (λ n. HasForm c.args.program.now.code c.args.number (Declares n)) (sym c.in_ok-name.ensures) c.requires.form

pub returns-in_err-value-clause-sets : goal.returns-in_err-value-clause-sets
returns-in_err-value-clause-sets c =
    let p = c.args.program.now in
    let r = c.args.self.now in
    let e = c.in_err-value.field-0.0 in
    let g = sight p r in
    let select = c.args.select.now in
    let body = c.requires.op.body ∙ ap (λ n. Some n) (sym c.requires.place) in
    let gave =
    (gave_by c.args.spot.at c.value_or_empty.result (selected select g) (subst (λ s. IsAnswer c.value_or_empty.result (selected select s)) (c.setting-setting.ensures body) c.value_or_empty.ensures)) in
    subst (λ x. Sets p (local_at c.args.name.now select c.args.spot.at) (with_pc (c.args.running.pc + 1)) x r r) (sym (stops_with c.from_residual.result e c.from_residual.ensures.1))
    (declare_stops p r r c.args.name.now select c.args.spot.at e (with_pc (c.args.running.pc + 1)) (subst (λ x. Gave c.args.spot.at x (selected select g)) (sym c.in_err-value.ensures) gave) refl)

pub returns-clause-sets : goal.returns-clause-sets
returns-clause-sets c =
    let p = c.args.program.now in
    let r = c.args.self.now in
    let g = sight p r in
    let to = c.args.running.pc + 1 in
    let select = c.args.select.now in
    let value = c.in_ok-value.value in
    let new = c.pass_declared.new.self in
    let body = c.requires.op.body ∙ ap (λ n. Some n) (sym c.requires.place) in
    let gave =
    (gave_by c.args.spot.at c.value_or_empty.result (selected select g) (subst (λ s. IsAnswer c.value_or_empty.result (selected select s)) (c.setting-setting.ensures body) c.value_or_empty.ensures)) in
    declare_sets p r new c.args.name.now select c.args.spot.at value to _
    ((names_spelled p r c.requires.op.well.steady).variables c.args.name.now (c.args.number, inl c.requires.form))
    (subst (λ x. Gave c.args.spot.at x (selected select g)) (sym c.in_ok-value.ensures) gave)
    (subst (λ n. reverse new.frames.frames ≡ on_body (with_more (record { name = n; value = value }) to) (reverse r.frames.frames)) c.in_ok-name.ensures c.in_ok-pass_declared.ensures.behind)
    c.pass_declared.ensures.rest

pub returns-in_err-name-clause-sets : goal.returns-in_err-name-clause-sets
returns-in_err-name-clause-sets c =
    let p = c.args.program.now in
    let r = c.args.self.now in
    let x = local_at c.args.name.now c.args.select.now c.args.spot.at in
    subst (λ y. Sets p x (with_pc (c.args.running.pc + 1)) y r r) (sym (stops_with c.from_residual-in_err-name.result stop.Memory c.from_residual-in_err-name.ensures.1))
    (memory_sets p r r x (with_pc (c.args.running.pc + 1)) refl)

pub returns-in_err-pass_declared-clause-sets : goal.returns-in_err-pass_declared-clause-sets
returns-in_err-pass_declared-clause-sets c =
    let p = c.args.program.now in
    let r = c.args.self.now in
    let new = c.pass_declared.new.self in
    let x = local_at c.args.name.now c.args.select.now c.args.spot.at in
    subst (λ y. Sets p x (with_pc (c.args.running.pc + 1)) y r new) (sym (stops_with c.from_residual-in_err-pass_declared.result stop.Memory c.from_residual-in_err-pass_declared.ensures.1))
    (memory_sets p r new x (with_pc (c.args.running.pc + 1)) (all_rest r new r.fuel c.pass_declared.ensures.rest))
