use Rattle.std.proofs.Common.{◌≡◌, ◌-◌, ◌+◌, ◌∷◌, [], Ok, Err, Some, IsSome, length, map, reverse, refl, ap, sym, subst, ◌∙◌, arith, take}
use Rattle.std.specs.List.{slice_get}
use Rattle.std.specs.Option.{option_and_then}
use Rattle.stx_base.specs.declared.part.Part.TheVariants as part
use Rattle.frame_stack.specs.Change.{locals_of, with_locals, with_pc}
use Rattle.frame_stack.specs.declared.frame.Frame.{Frame}
use Rattle.frame_stack.specs.declared.locals.Local.{Local}
use Rattle.instr_code.specs.declared.code.Op.TheVariants as op
use Rattle.template_machine.specs.Bodies.{level_of, on_body}
use Rattle.template_machine.specs.Saying.{Puts, Steps}
use Rattle.template_machine.specs.Stepwise.{tagged}
use Rattle.template_machine.specs.declared.stop.Stop.TheVariants as stop
use Rattle.template_machine.proofs.Copied.{puts_copied}
use Rattle.template_machine.proofs.Deciding.{carried}
use Rattle.template_machine.proofs.Enclosed.{has_tag, leaves_tagged, same_locals}
use Rattle.template_machine.proofs.Operating.{at_place, behind_locals, frame_behind, next_fits}
use Rattle.template_machine.proofs.Rounding.{memory_stops}
use Rattle.template_machine.proofs.Saying.{stops_with}
use Rattle.template_machine.proofs.Shelved.{stands_on}
use Rattle.template_machine.proofs.Tagging.{element_closes, has_those, value_waits, waits_at}
use Rattle.template_machine.proofs.Writing.{only_puts, puts_at}
use Rattle.template_machine.proofs.Falling.{tagged_works}
use Rattle.template_machine.proofs.run.Run.leave_tagged.Goals as goal
use Rattle.template_machine.proofs.Operated.{stays_moved}
use Rattle.template_machine.proofs.Moving.{moves_locals}

pub locals_at-locals-requires : goal.locals_at-locals-requires
locals_at-locals-requires g c =
    let t = has_tag c.args.program.now c.args.self.now c.args.running c.args.number c.requires.op c.requires.form in
    subst (λ o. IsSome (option_and_then level_of o)) (sym t.there) t.level

pub overflow_sub-last : goal.overflow_sub-last
overflow_sub-last g c =
    let t = has_tag c.args.program.now c.args.self.now c.args.running c.args.number c.requires.op c.requires.form in
    let same = same_locals c.args.self.now.frames.frames c.args.running.body t.frame c.locals_at-locals.result.now t.there c.locals_at-locals.ensures in
    omega (arith, t.some, ap length same, c.len-last.ensures)

pub value-requires : goal.value-requires
value-requires g c =
    let t = has_tag c.args.program.now c.args.self.now c.args.running c.args.number c.requires.op c.requires.form in
    let same = same_locals c.args.self.now.frames.frames c.args.running.body t.frame c.locals_at-locals.result.now t.there c.locals_at-locals.ensures in
    omega (arith, t.some, ap length same, c.len-last.ensures)

pub waiting_name-requires : goal.waiting_name-requires
waiting_name-requires g c =
    let t = has_tag c.args.program.now c.args.self.now c.args.running c.args.number c.requires.op c.requires.form in
    let same = same_locals c.args.self.now.frames.frames c.args.running.body t.frame c.locals_at-locals.result.now t.there c.locals_at-locals.ensures in
    let last : c.len-last.result - 1 ≡ length (locals_of t.frame) - 1 = ap (λ n. n - 1) (c.len-last.ensures ∙ ap length (sym same)) in
    t.last c.value.result.now
    (ap (λ n. slice_get (map (λ (x : Local). x.value) (locals_of t.frame)) n) (sym last) ∙ ap (λ ls. slice_get (map (λ (x : Local). x.value) ls) (c.len-last.result - 1)) same ∙ c.value.ensures)

pub overflow_add-running : goal.overflow_add-running
overflow_add-running g c = omega (arith, next_fits c.args.program.now c.args.self.now c.args.running (op.Close c.args.number) c.requires.op)

pub set_pc-requires : goal.set_pc-requires
set_pc-requires g c = (at_place c.args.program.now c.args.self.now c.args.running (op.Close c.args.number) c.requires.op).1.2

pub cut_locals-requires-clause-place : goal.cut_locals-requires-clause-place
cut_locals-requires-clause-place g c =
    (frame_behind c.args.program.now c.args.self.now c.args.running (op.Close c.args.number) c.requires.op (c.args.running.pc + 1) c.set_pc.new.self c.set_pc.ensures).1.1

pub cut_locals-requires-clause-len : goal.cut_locals-requires-clause-len
cut_locals-requires-clause-len g c = λ frame is.
    let p = c.args.program.now in
    let r = c.args.self.now in
    let o = op.Close c.args.number in
    let t = has_tag p r c.args.running c.args.number c.requires.op c.requires.form in
    let same = same_locals r.frames.frames c.args.running.body t.frame c.locals_at-locals.result.now t.there c.locals_at-locals.ensures in
    let b = frame_behind p r c.args.running o c.requires.op (c.args.running.pc + 1) c.set_pc.new.self c.set_pc.ensures in
    let a = at_place p r c.args.running o c.requires.op in
    let behind : b.0 ≡ frame = one b.0 frame (sym b.1.0 ∙ is) in
    let before : a.0 ≡ t.frame = one a.0 t.frame (sym a.1.1 ∙ t.there) in
    omega (arith, b.1.4, ap (λ (x : Frame). length (locals_of x)) behind, ap (λ (x : Frame). length (locals_of x)) before, ap length same, c.len-last.ensures)
  where
    one : (x y : Frame) → Some x ≡ Some y → x ≡ y
    one x y e = cc

pub returns-clause-stands : goal.returns-clause-stands
returns-clause-stands g c =
    let p = c.args.program.now in
    let r = c.args.self.now in
    let n = c.args.number in
    let o = op.Close n in
    let new = c.end.new.self in
    let stands = stands_on r.putting c.waiting_name.new.self new c.waiting_name.ensures.same c.end.ensures.stands in
    let u = record r { putting = new } in
    let at = puts_at p r u c.args.running o (only_puts r new stands) c.requires.op in
    let t = has_tag p u c.args.running n at c.requires.form in
    let same = same_locals r.frames.frames c.args.running.body t.frame c.locals_at-locals.result.now t.there c.locals_at-locals.ensures in
    leaves_tagged p u c.args.running n (c.len-last.result - 1) c.set_pc.new.self c.cut_locals.new.self at c.requires.form t
    (ap (λ k. k - 1) (c.len-last.ensures ∙ ap length (sym same))) c.set_pc.ensures c.cut_locals.ensures

pub returns-clause-works : goal.returns-clause-works
returns-clause-works g c =
    let l =
    tagged_works c.args.program.now c.args.self.now c.args.running c.args.number (take (c.len-last.result - 1)) c.requires.op c.set_pc.new.self c.cut_locals.new.self
    c.set_pc.ensures c.cut_locals.ensures in
    record { still = l.still; spared = l.spared; falls = l.falls }

-- What is done.

pub returns-in_err-name-clause-goes : goal.returns-in_err-name-clause-goes
returns-in_err-name-clause-goes g c = λ i is element.
    let p = c.args.program.now in
    let r = c.args.self.now in
    let new = record r { putting = c.waiting_name.new.self } in
    subst (λ x. Steps g.S.Sink.output g.S.Sink.told p x r new c.args.out.now c.args.out.now) (sym (stops_with c.from_residual.result stop.Memory c.from_residual.ensures.1))
    (carried g.S.Sink.output g.S.Sink.told g.met.S.Sink.nothing p (Err stop.Memory) r new c.args.out.now (memory_stops p r new))

pub returns-in_err-end-clause-goes : goal.returns-in_err-end-clause-goes
returns-in_err-end-clause-goes g c = λ i is element.
    let p = c.args.program.now in
    let r = c.args.self.now in
    let e = c.in_err-end.field-0.0 in
    let locals = c.locals_at-locals.result.now in
    let new = record r { putting = c.end.new.self } in
    let t = waits_at p r c.args.running c.args.number locals c.requires.op c.requires.form c.locals_at-locals.ensures in
    subst (λ x. Steps g.S.Sink.output g.S.Sink.told p x r new c.args.out.now c.end.new.out) (sym (stops_with c.from_residual-in_err-end.result e c.from_residual-in_err-end.ensures.1))
    (element_closes g.S.Sink.output g.S.Sink.told p (Err e) r new c.args.running c.args.number i c.args.at locals t c.args.out.now c.end.new.out c.requires.op is element
    (has_those p r c.args.running c.args.number locals c.requires.op c.locals_at-locals.ensures)
    (puts_copied g.S.Sink.output g.S.Sink.told c.args.at (part.End (tagged t.waiting.value) ∷ []) (Err e) r.putting c.waiting_name.new.self c.end.new.self c.args.out.now c.end.new.out c.waiting_name.ensures.rest
    (subst (λ n. Puts {A = Unit {0}} g.S.Sink.output g.S.Sink.told c.args.at (part.End n ∷ []) (Err e) c.waiting_name.new.self c.end.new.self c.args.out.now c.end.new.out)
    (c.in_ok-name.ensures.name ∙ ap tagged (value_waits locals t (c.len-last.result - 1) c.value.result.now (ap (λ k. k - 1) c.len-last.ensures) c.value.ensures)) c.in_err-end.ensures.puts))
    tt refl)

pub returns-clause-goes : goal.returns-clause-goes
returns-clause-goes g c = λ i is element.
    let p = c.args.program.now in
    let r = c.args.self.now in
    let locals = c.locals_at-locals.result.now in
    let new = record r { frames = c.cut_locals.new.self; putting = c.end.new.self } in
    let t = waits_at p r c.args.running c.args.number locals c.requires.op c.requires.form c.locals_at-locals.ensures in
    element_closes g.S.Sink.output g.S.Sink.told p (Ok _) r new c.args.running c.args.number i c.args.at locals t c.args.out.now c.end.new.out c.requires.op is element
    (has_those p r c.args.running c.args.number locals c.requires.op c.locals_at-locals.ensures)
    (puts_copied g.S.Sink.output g.S.Sink.told c.args.at (part.End (tagged t.waiting.value) ∷ []) (Ok _) r.putting c.waiting_name.new.self c.end.new.self c.args.out.now c.end.new.out c.waiting_name.ensures.rest
    (subst (λ n. Puts {A = Unit {0}} g.S.Sink.output g.S.Sink.told c.args.at (part.End n ∷ []) (Ok _) c.waiting_name.new.self c.end.new.self c.args.out.now c.end.new.out)
    (c.in_ok-name.ensures.name ∙ ap tagged (value_waits locals t (c.len-last.result - 1) c.value.result.now (ap (λ k. k - 1) c.len-last.ensures) c.value.ensures)) c.in_ok-end.ensures.puts))
    (subst (λ k. reverse c.cut_locals.new.self.frames ≡ on_body (λ f. with_locals (take k) (with_pc (c.args.running.pc + 1) f)) (reverse r.frames.frames)) (ap (λ k. k - 1) c.len-last.ensures)
    (behind_locals p r c.args.running (op.Close c.args.number) c.requires.op (c.args.running.pc + 1) (take (c.len-last.result - 1)) c.set_pc.new.self c.cut_locals.new.self c.set_pc.ensures c.cut_locals.ensures))
    refl

pub returns-clause-keeps : goal.returns-clause-keeps
returns-clause-keeps g c =
    let p = c.args.program.now in
    let r = c.args.self.now in
    let last = c.len-last.result - 1 in
    let next = c.args.running.pc + 1 in
    stays_moved r (record r { frames = c.cut_locals.new.self; putting = c.end.new.self }) (λ f. with_locals (take last) (with_pc next f)) (λ o. next) (take last) (moves_locals next (take last)) refl
    c.args.running.pc c.requires.op.pc
    (behind_locals p r c.args.running (op.Close c.args.number) c.requires.op next (take last) c.set_pc.new.self c.cut_locals.new.self c.set_pc.ensures c.cut_locals.ensures)
