use Rattle.std.proofs.Common.{◌+◌, ◌++◌, ◌∷◌, [], ◌∙◌, reverse, refl, ap, sym}
use Rattle.frame_stack.specs.Change.{with_locals, with_pc}
use Rattle.frame_stack.specs.Locals.{local}
use Rattle.instr_code.specs.declared.code.Op.TheVariants as op
use Rattle.template_machine.specs.Standing.{standing_of}
use Rattle.template_machine.proofs.Looping.{at_counted, has_turn, open_walk}
use Rattle.template_machine.proofs.Moving.{moves_locals}
use Rattle.template_machine.proofs.Operating.{at_body, at_place, behind_locals, frame_behind, goes_elsewhere, on_ok}
use Rattle.template_machine.proofs.Walking.{item_binds}
use Rattle.template_machine.proofs.Falling.{locals_set, pc_set, same_under}
use Rattle.template_machine.specs.Bodies.{on_body}
use Rattle.template_machine.specs.Shifting.{with_more}
use Rattle.template_machine.specs.Work.{frames_work}
use Rattle.template_machine.proofs.run.Run.bind_item.Goals as goal

pub count_turn-requires : goal.count_turn-requires
count_turn-requires c =
    (has_turn c.args.program.now c.args.self.now c.args.running c.args.number c.args.to c.requires.op (c.args.name, c.requires.form)).1

pub set_pc-requires : goal.set_pc-requires
set_pc-requires c =
    let p = c.args.program.now in
    let r = c.args.self.now in
    let o = op.Turn c.args.number c.args.to in
    let l = open_walk p r c.args.running c.args.number c.args.to c.requires.op (c.args.name, c.requires.form) in
    let at = at_counted p r c.args.running o c.count_turn.new.frames l.0 c.args.turn l.1.0 c.requires.op l.1.1 (c.count_turn.ensures l.0 l.1.0 l.1.1) in
    (at_place p _ c.args.running o at).1.2

pub push_local-requires : goal.push_local-requires
push_local-requires c =
    let p = c.args.program.now in
    let r = c.args.self.now in
    let o = op.Turn c.args.number c.args.to in
    let l = open_walk p r c.args.running c.args.number c.args.to c.requires.op (c.args.name, c.requires.form) in
    let at = at_counted p r c.args.running o c.count_turn.new.frames l.0 c.args.turn l.1.0 c.requires.op l.1.1 (c.count_turn.ensures l.0 l.1.0 l.1.1) in
    (frame_behind p _ c.args.running o at (c.args.running.pc + 1) c.set_pc.new.self c.set_pc.ensures).1.1

pub returns-clause-stands : goal.returns-clause-stands
returns-clause-stands c =
    let p = c.args.program.now in
    let r = c.args.self.now in
    let o = op.Turn c.args.number c.args.to in
    let l = open_walk p r c.args.running c.args.number c.args.to c.requires.op (c.args.name, c.requires.form) in
    let t = record r { frames = c.count_turn.new.frames } in
    let at = at_counted p r c.args.running o c.count_turn.new.frames l.0 c.args.turn l.1.0 c.requires.op l.1.1 (c.count_turn.ensures l.0 l.1.0 l.1.1) in
    let next = c.args.running.pc + 1 in
    let x = local c.args.name c.args.value in
    on_ok c.push_local.result _ _ c.push_local.ensures.ok
    (λ e. goes_elsewhere p t at.well c.push_local.new.self (λ f. with_locals (λ ls. ls ++ x ∷ []) (with_pc next f)) (λ o. next) (λ ls. ls ++ x ∷ [])
    (moves_locals next (λ ls. ls ++ x ∷ [])) at.doing
    (behind_locals p t c.args.running o at next (λ ls. ls ++ x ∷ []) c.set_pc.new.self c.push_local.new.self c.set_pc.ensures e)
    (item_binds p at.well.stations (reverse t.frames.frames) (standing_of t) c.args.running.pc c.args.number c.args.to c.args.name x at.well.stand at.pc at.is c.requires.form refl
    (at_body p t c.args.running o at).well))

pub returns-clause-works : goal.returns-clause-works
returns-clause-works c =
    let p = c.args.program.now in
    let r = c.args.self.now in
    let l = open_walk p r c.args.running c.args.number c.args.to c.requires.op (c.args.name, c.requires.form) in
    let next = c.args.running.pc + 1 in
    let x = local c.args.name c.args.value in
    on_ok c.push_local.result _ _ c.push_local.ensures.ok
    (λ e. same_under r c.push_local.new.self c.requires.op.doing
    (locals_set (λ ls. ls ++ x ∷ []) c.args.running.body c.set_pc.new.self c.push_local.new.self e
    ∙ pc_set next c.args.running.body c.count_turn.new.frames c.set_pc.new.self c.set_pc.ensures
    ∙ ap frames_work (c.count_turn.ensures l.0 l.1.0 l.1.1) ∙ sym (ap frames_work l.1.1)))

pub returns-clause-behind : goal.returns-clause-behind
returns-clause-behind c =
    let p = c.args.program.now in
    let r = c.args.self.now in
    let o = op.Turn c.args.number c.args.to in
    let l = open_walk p r c.args.running c.args.number c.args.to c.requires.op (c.args.name, c.requires.form) in
    let t = record r { frames = c.count_turn.new.frames } in
    let counted = c.count_turn.ensures l.0 l.1.0 l.1.1 in
    let at = at_counted p r c.args.running o c.count_turn.new.frames l.0 c.args.turn l.1.0 c.requires.op l.1.1 counted in
    let next = c.args.running.pc + 1 in
    let x = local c.args.name c.args.value in
    on_ok c.push_local.result _ _ c.push_local.ensures.ok
    (λ e. record {
      before = l.0;
      others = l.1.0;
      top = l.1.1;
      behind =
          behind_locals p t c.args.running o at next (λ ls. ls ++ x ∷ []) c.set_pc.new.self c.push_local.new.self c.set_pc.ensures e
          ∙ ap (on_body (with_more x next)) counted;
    })
