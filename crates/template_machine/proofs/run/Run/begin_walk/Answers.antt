use Rattle.std.proofs.Common.{◌+◌, ◌++◌, ◌∷◌, [], ◌∙◌, reverse, refl, ap, arith}
use Rattle.std.proofs.lemmas.List.{reverse-append}
use Rattle.frame_stack.specs.Change.{with_locals, with_pc}
use Rattle.frame_stack.specs.Locals.{local}
use Rattle.frame_stack.specs.Stack.{FrameStack}
use Rattle.frame_stack.specs.declared.frame.Frame.TheVariants.{Loop}
use Rattle.instr_code.specs.declared.code.Op.TheVariants as op
use Rattle.template_machine.specs.Standing.{standing_of}
use Rattle.template_machine.proofs.Moving.{moves_locals}
use Rattle.template_machine.proofs.Operating.{at_body, at_place, behind_locals, frame_behind, on_ok, under_loop}
use Rattle.template_machine.proofs.Walking.{walk_begins}
use Rattle.template_machine.proofs.Rounding.{loop_refused}
use Rattle.template_machine.proofs.Falling.{begins_under, frame_pushed, locals_set, pc_set}
use Rattle.template_machine.proofs.run.Run.begin_walk.Goals as goal

pub set_pc-requires : goal.set_pc-requires
set_pc-requires c = (at_place c.args.program.now c.args.self.now c.args.running (op.Begin c.args.number) c.requires.op).1.2

pub push_local-requires : goal.push_local-requires
push_local-requires c =
    (frame_behind c.args.program.now c.args.self.now c.args.running (op.Begin c.args.number) c.requires.op (c.args.running.pc + 1) c.set_pc.new.self c.set_pc.ensures).1.1

pub returns-clause-stands : goal.returns-clause-stands
returns-clause-stands c =
    let p = c.args.program.now in
    let r = c.args.self.now in
    let at = c.requires.op in
    let w = at.well in
    let o = op.Begin c.args.number in
    let next = c.args.running.pc + 1 in
    let x = local c.no_name-name.result c.args.items in
    on_ok c.push.result _ _ c.push.ensures.ok
    (λ e. under_loop p r w c.push.new.self 0 (λ f. with_locals (λ ls. ls ++ x ∷ []) (with_pc next f)) (λ o. next) (λ ls. ls ++ x ∷ [])
    (moves_locals next (λ ls. ls ++ x ∷ [])) at.doing
    (ap (λ (y : FrameStack). reverse y.frames) e ∙ reverse-append c.push_local.new.self.frames (Loop 0 ∷ [])
    ∙ ap (λ l. Loop 0 ∷ l) (behind_locals p r c.args.running o at next (λ ls. ls ++ x ∷ []) c.set_pc.new.self c.push_local.new.self c.set_pc.ensures c.in_ok-push_local.ensures.ok))
    (walk_begins p w.stations (reverse r.frames.frames) (standing_of r) c.args.running.pc c.args.number 0 c.requires.form.0 x w.stand at.pc at.is c.requires.form.1 c.no_name-name.ensures
    (at_body p r c.args.running o at).well))

pub returns-clause-works : goal.returns-clause-works
returns-clause-works c =
    let r = c.args.self.now in
    let x = local c.no_name-name.result c.args.items in
    on_ok c.push.result _ _ c.push.ensures.ok
    (λ e. begins_under 1 r c.push.new.self c.requires.op.doing
    (omega (
      arith,
      frame_pushed (Loop 0) c.push_local.new.self c.push.new.self e,
      locals_set (λ ls. ls ++ x ∷ []) c.args.running.body c.set_pc.new.self c.push_local.new.self c.in_ok-push_local.ensures.ok,
      pc_set (c.args.running.pc + 1) c.args.running.body r.frames c.set_pc.new.self c.set_pc.ensures,
    )))

pub returns-clause-memory : goal.returns-clause-memory
returns-clause-memory c = loop_refused c.push.result c.args.program.now.limits.instances c.push_local.new.self.frames c.push.ensures.full

pub returns-clause-behind : goal.returns-clause-behind
returns-clause-behind c =
    let p = c.args.program.now in
    let r = c.args.self.now in
    let next = c.args.running.pc + 1 in
    let x = local c.no_name-name.result c.args.items in
    on_ok c.push.result _ _ c.push.ensures.ok
    (λ e. record {
      waiting = x;
      nameless = c.no_name-name.ensures;
      value = refl;
      behind =
          ap (λ (y : FrameStack). reverse y.frames) e ∙ reverse-append c.push_local.new.self.frames (Loop 0 ∷ [])
          ∙ ap (λ l. Loop 0 ∷ l) (behind_locals p r c.args.running (op.Begin c.args.number) c.requires.op next (λ ls. ls ++ x ∷ []) c.set_pc.new.self c.push_local.new.self c.set_pc.ensures c.in_ok-push_local.ensures.ok);
    })
