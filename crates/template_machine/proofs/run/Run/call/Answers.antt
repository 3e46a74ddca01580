use Rattle.std.proofs.Common.{◌≡◌, ◌+◌, ◌<◌, ◌∙◌, ap, get_or, length, refl, sym, subst, arith, ◌++◌, ◌∷◌, ◌⊎◌, [], Err, List}
use Rattle.std.proofs.lemmas.Option.{slice_get_read, slice_get_within}
use Rattle.instr_code.specs.declared.code.Op.TheVariants as op
use Rattle.template_machine.proofs.Arms.{seen_at}
use Rattle.template_machine.proofs.Calling.{call_on, level_runs, procedure_less, procedure_starts, pushed_some, sees_pushed, level_of_running}
use Rattle.template_machine.proofs.Evaluable.{procedure_params}
use Rattle.frame_stack.specs.declared.frame.Frame.TheVariants.{Call}
use Rattle.template_machine.specs.declared.run.Run.{Run}
use Rattle.template_machine.proofs.Beginning.{begins_after, begins_bound, begins_pushed}
use Rattle.template_machine.proofs.Falling.{begins_on}
use Rattle.template_machine.proofs.run.Run.call.Goals as goal
use Rattle.template_machine.proofs.CalledBy.{call_can_bind, call_moves, call_no_room, call_not_bound, call_ungiven}
use Rattle.template_machine.proofs.EntersBody.{procedure_names}
use Rattle.frame_stack.specs.Stack.{IsFull, with_frames}
use Rattle.frame_stack.specs.declared.frame.Frame.{Frame}
use Rattle.frame_stack.specs.declared.locals.Local.{Local}
use Rattle.stx_base.specs.declared.fault.RunCode.TheVariants.{Instances}
use Rattle.stxpath_values.specs.Outcome.{each}
use Rattle.stxpath_values.specs.declared.value.Atom.{Atom}
use Rattle.template_machine.specs.Behind.{MovesFrom, instr_acts}
use Rattle.template_machine.specs.Saying.{Gave, sight}
use Rattle.template_machine.specs.Shifting.{handed_value}
use Rattle.template_machine.specs.Stops.{fault}
use Rattle.template_machine.specs.declared.stop.Stop.TheVariants as stop
use Rattle.template_machine.proofs.Saying.{stops_with}

pub values-requires-clause-sees : goal.values-requires-clause-sees
values-requires-clause-sees c = seen_at c.args.program.now c.args.self.now c.args.running (op.Do c.args.number) c.requires.op

pub level_at-level-requires : goal.level_at-level-requires
level_at-level-requires c = level_runs c.args.program.now c.pass_on.new.self c.args.running.body c.pass_on.ensures.stands

pub link-procedure-requires : goal.link-procedure-requires
link-procedure-requires c = slice_get_within c.args.program.now.links c.args.number c.requires.procedure.0 c.requires.procedure.1.0

pub start_of_procedure-requires : goal.start_of_procedure-requires
start_of_procedure-requires c =
    let p = c.args.program.now in
    let n = c.link-procedure.result.named in
    let s = procedure_starts p c.pass_on.new.self c.args.running.body n c.pass_on.ensures.stands (procedure_less p c.args.number c.link-procedure.result c.requires.procedure c.link-procedure.ensures) in
    slice_get_within p.code.starts (length p.sheet.templates + n) s.1.1 s.1.2

pub bounds-as_slice-procedure : goal.bounds-as_slice-procedure
bounds-as_slice-procedure c =
    subst (λ l. c.link-procedure.result.named < length l) (sym c.as_slice.ensures)
    (procedure_less c.args.program.now c.args.number c.link-procedure.result c.requires.procedure c.link-procedure.ensures)

pub bind_handed-requires-clause-sees : goal.bind_handed-requires-clause-sees
bind_handed-requires-clause-sees c =
    let p = c.args.program.now in
    let r = c.pass_on.new.self in
    let n = c.link-procedure.result.named in
    let s = procedure_starts p r c.args.running.body n c.pass_on.ensures.stands (procedure_less p c.args.number c.link-procedure.result c.requires.procedure c.link-procedure.ensures) in
    sees_pushed p r c.push.new.self c.args.running.body n _ _ _ s.0 c.pass_on.ensures.stands s.1.0 c.in_ok-push.ensures.ok

pub bind_handed-requires-clause-frames : goal.bind_handed-requires-clause-frames
bind_handed-requires-clause-frames c = pushed_some c.pass_on.new.self c.push.new.self _ c.in_ok-push.ensures.ok

pub bind_handed-requires-clause-params : goal.bind_handed-requires-clause-params
bind_handed-requires-clause-params c =
    let p = c.args.program.now in
    let r = c.pass_on.new.self in
    let n = c.link-procedure.result.named in
    let less = procedure_less p c.args.number c.link-procedure.result c.requires.procedure c.link-procedure.ensures in
    let q = c.index-as_slice-procedure.result in
    let is : q ≡ get_or p.sheet.procedures n q = c.index-as_slice-procedure.is ∙ ap (λ l. get_or l n q) c.as_slice.ensures in
    procedure_params p r c.pass_on.ensures.stands.well.steady n q (slice_get_read p.sheet.procedures (length p.sheet.procedures) n q refl less is)

pub returns-clause-stands : goal.returns-clause-stands
returns-clause-stands c =
    let p = c.args.program.now in
    let r = c.pass_on.new.self in
    let n = c.link-procedure.result.named in
    let less = procedure_less p c.args.number c.link-procedure.result c.requires.procedure c.link-procedure.ensures in
    let q = c.index-as_slice-procedure.result in
    let is : q ≡ get_or p.sheet.procedures n q = c.index-as_slice-procedure.is ∙ ap (λ l. get_or l n q) c.as_slice.ensures in
    call_on p r c.push.new.self c.bind_handed.new.self c.args.running.body n c.start_of_procedure.result c.level_at-level.result c.new.result q c.pass_on.ensures.stands
    (slice_get_read p.sheet.procedures (length p.sheet.procedures) n q refl less is) c.start_of_procedure.ensures c.new.ensures c.level_at-level.ensures
    c.in_ok-push.ensures.ok c.in_ok-bind_handed.ensures.binds

pub returns-clause-works : goal.returns-clause-works
returns-clause-works c =
    let m = c.pass_on.new.self in
    let t = c.push.new.self in
    let u = c.bind_handed.new.self in
    let goes = c.pass_on.ensures.stands.doing in
    begins_after 1 c.args.self.now m u c.pass_on.ensures.works
    (begins_on 1 0 m t u
    (begins_pushed 1 (Call c.link-procedure.result.named c.start_of_procedure.result c.new.result c.level_at-level.result) m t goes c.in_ok-push.ensures.ok (omega arith))
    (begins_bound c.index-as_slice-procedure.result.params t u (ap (λ (x : Run). x.doing) c.in_ok-push.ensures.ok ∙ goes) c.in_ok-bind_handed.ensures.binds)) (omega arith)

pub returns-in_err-values-clause-moves : goal.returns-in_err-values-clause-moves
returns-in_err-values-clause-moves c = λ i is asks named alone.
    let p = c.args.program.now in
    let r = c.args.self.now in
    let e = c.in_err-values.field-0.0 in
    subst (λ x. MovesFrom p (λ given left f. instr_acts given p i c.args.running.pc r left f) x r) (sym (stops_with c.from_residual.result e c.from_residual.ensures.1))
    (call_ungiven p r r c.args.running c.args.number i c.args.at c.requires.op is asks e r
    (subst (λ l. Gave {A = List (List Atom)} c.args.at (Err e) (each (handed_value (sight p r)) l)) named (c.in_err-values.ensures.gave c.requires.op.body)))

pub returns-in_err-push-clause-moves : goal.returns-in_err-push-clause-moves
returns-in_err-push-clause-moves c = λ i is asks named alone.
    let p = c.args.program.now in
    let r = c.args.self.now in
    let m = c.pass_on.new.self in
    let l = c.link-procedure.result in
    let start = c.start_of_procedure.result in
    let level = c.level_at-level.result in
    let e = c.in_err-push.field-0.0 in
    let s = procedure_starts p m c.args.running.body l.named c.pass_on.ensures.stands (procedure_less p c.args.number l c.requires.procedure c.link-procedure.ensures) in
    subst (λ x. MovesFrom p (λ given left f. instr_acts given p i c.args.running.pc r left f) x c.push.new.self) (sym (stops_with c.from_residual-in_err-push.result e c.from_residual-in_err-push.ensures.1))
    (call_no_room p r m c.args.running c.args.number i c.args.at c.requires.op is asks c.pass_on.ensures.behind l c.link-procedure.ensures s.0 s.1.0 level start
    (level_of_running p m c.args.running.body level c.pass_on.ensures.stands c.level_at-level.ensures) c.args.params.now named c.in_ok-values.values (c.in_ok-values.ensures.gave c.requires.op.body)
    e c.push.new.self
    (subst (λ ls. (e ≡ stop.Memory) ⊎ ((e ≡ fault Instances c.args.at) × IsFull p.limits.instances (Call l.named start ls level) m.frames.frames)) c.new.ensures c.in_err-push.ensures.full))

pub returns-in_err-bind_handed-clause-moves : goal.returns-in_err-bind_handed-clause-moves
returns-in_err-bind_handed-clause-moves c = λ i is asks named alone.
    let p = c.args.program.now in
    let r = c.args.self.now in
    let m = c.pass_on.new.self in
    let t = c.push.new.self in
    let l = c.link-procedure.result in
    let start = c.start_of_procedure.result in
    let level = c.level_at-level.result in
    let e = c.in_err-bind_handed.field-0.0 in
    let q = c.index-as_slice-procedure.result in
    let less = procedure_less p c.args.number l c.requires.procedure c.link-procedure.ensures in
    let there = slice_get_read p.sheet.procedures (length p.sheet.procedures) l.named q refl less (c.index-as_slice-procedure.is ∙ ap (λ x. get_or x l.named q) c.as_slice.ensures) in
    let frame : List Local → Frame = λ ls. Call l.named start ls level in
    let pushed : t ≡ record m { frames = with_frames (m.frames.frames ++ frame [] ∷ []) m.frames } =
    c.in_ok-push.ensures.ok ∙ ap (λ ls. record m { frames = with_frames (m.frames.frames ++ frame ls ∷ []) m.frames }) c.new.ensures in
    let own = level_of_running p m c.args.running.body level c.pass_on.ensures.stands c.level_at-level.ensures in
    let gave = c.in_ok-values.ensures.gave c.requires.op.body in
    let room = c.in_ok-push.ensures.room level refl in
    let can = call_can_bind p r m c.args.running c.args.number i c.args.at c.requires.op is asks c.pass_on.ensures.behind l c.link-procedure.ensures q there level start own c.args.params.now named c.in_ok-values.values gave
    t c.pass_on.ensures.rest pushed room (procedure_names p r c.requires.op.well.steady l.named q there) in
    subst (λ x. MovesFrom p (λ given left f. instr_acts given p i c.args.running.pc r left f) x c.bind_handed.new.self) (sym (stops_with c.from_residual-in_err-bind_handed.result e c.from_residual-in_err-bind_handed.ensures.1))
    (call_not_bound p r m c.args.running c.args.number i c.args.at c.requires.op is asks c.pass_on.ensures.behind l c.link-procedure.ensures q there level start own c.args.params.now named c.in_ok-values.values gave
    t c.pass_on.ensures.rest pushed room e c.bind_handed.new.self c.bind_handed.new.self (c.in_err-bind_handed.ensures.takes (omega (arith, c.in_ok-values.ensures.many)) can))

pub returns-clause-moves : goal.returns-clause-moves
returns-clause-moves c = λ i is asks named alone.
    let p = c.args.program.now in
    let r = c.args.self.now in
    let m = c.pass_on.new.self in
    let t = c.push.new.self in
    let l = c.link-procedure.result in
    let start = c.start_of_procedure.result in
    let level = c.level_at-level.result in
    let q = c.index-as_slice-procedure.result in
    let less = procedure_less p c.args.number l c.requires.procedure c.link-procedure.ensures in
    let there = slice_get_read p.sheet.procedures (length p.sheet.procedures) l.named q refl less (c.index-as_slice-procedure.is ∙ ap (λ x. get_or x l.named q) c.as_slice.ensures) in
    let frame : List Local → Frame = λ ls. Call l.named start ls level in
    let pushed : t ≡ record m { frames = with_frames (m.frames.frames ++ frame [] ∷ []) m.frames } =
    c.in_ok-push.ensures.ok ∙ ap (λ ls. record m { frames = with_frames (m.frames.frames ++ frame ls ∷ []) m.frames }) c.new.ensures in
    let own = level_of_running p m c.args.running.body level c.pass_on.ensures.stands c.level_at-level.ensures in
    let gave = c.in_ok-values.ensures.gave c.requires.op.body in
    let room = c.in_ok-push.ensures.room level refl in
    let can = call_can_bind p r m c.args.running c.args.number i c.args.at c.requires.op is asks c.pass_on.ensures.behind l c.link-procedure.ensures q there level start own c.args.params.now named c.in_ok-values.values gave
    t c.pass_on.ensures.rest pushed room (procedure_names p r c.requires.op.well.steady l.named q there) in
    call_moves p r m c.args.running c.args.number i c.args.at c.requires.op is asks c.pass_on.ensures.behind l c.link-procedure.ensures q there level start own c.args.params.now named c.in_ok-values.values gave
    t c.pass_on.ensures.rest pushed room c.bind_handed.new.self alone c.start_of_procedure.ensures (c.in_ok-bind_handed.ensures.takes (omega (arith, c.in_ok-values.ensures.many)) can)
