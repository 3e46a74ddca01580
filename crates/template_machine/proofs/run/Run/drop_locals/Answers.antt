use Rattle.std.proofs.Common.{◌≡◌, ◌+◌, ◌-◌, ◌∙◌, Some, IsSome, length, reverse, take, refl, ap, sym, subst, arith}
use Rattle.std.specs.Option.{option_and_then, option_map}
use Rattle.frame_stack.specs.Change.{locals_of, with_locals, with_pc}
use Rattle.instr_code.specs.declared.code.Op.TheVariants as op
use Rattle.template_machine.specs.Bodies.{level_of}
use Rattle.template_machine.specs.Standing.{standing_of}
use Rattle.template_machine.proofs.Moving.{drops, moves_locals}
use Rattle.template_machine.proofs.Naming.{names_spelled}
use Rattle.template_machine.proofs.Operating.{at_body, at_place, behind_locals, enough, frame_behind, goes_elsewhere, some_context}
use Rattle.template_machine.proofs.Falling.{drop_works}
use Rattle.template_machine.proofs.Shifting.{drop_carries}
use Rattle.template_machine.proofs.run.Run.drop_locals.Goals as goal
use Rattle.template_machine.proofs.Operated.{stays_moved}

pub set_pc-requires : goal.set_pc-requires
set_pc-requires c = (at_place c.args.program.now c.args.self.now c.args.running (op.Drop c.args.count) c.requires).1.2

pub locals_at-requires : goal.locals_at-requires
locals_at-requires c =
    let f = frame_behind c.args.program.now c.args.self.now c.args.running (op.Drop c.args.count) c.requires (c.args.running.pc + 1) c.set_pc.new.self c.set_pc.ensures in
    subst (λ o. IsSome (option_and_then level_of o)) (sym f.1.0) f.1.2

pub overflow_sub-len : goal.overflow_sub-len
overflow_sub-len c =
    let f = frame_behind c.args.program.now c.args.self.now c.args.running (op.Drop c.args.count) c.requires (c.args.running.pc + 1) c.set_pc.new.self c.set_pc.ensures in
    let x = some_context c.args.program.now c.args.self.now c.args.running (op.Drop c.args.count) c.requires in
    let same : Some (locals_of f.0) ≡ Some c.locals_at.result.now = sym (ap (option_map locals_of) f.1.0) ∙ c.locals_at.ensures in
    let are : locals_of f.0 ≡ c.locals_at.result.now = cc in
    omega (arith, c.len.ensures, ap length are, f.1.3 x.0 x.1, enough c.args.program.now c.args.self.now c.args.running c.args.count c.requires x.0 x.1)

pub cut_locals-requires-clause-place : goal.cut_locals-requires-clause-place
cut_locals-requires-clause-place c =
    (frame_behind c.args.program.now c.args.self.now c.args.running (op.Drop c.args.count) c.requires (c.args.running.pc + 1) c.set_pc.new.self c.set_pc.ensures).1.1

pub returns-clause-stands : goal.returns-clause-stands
returns-clause-stands c =
    let p = c.args.program.now in
    let r = c.args.self.now in
    let o = op.Drop c.args.count in
    let w = c.requires.well in
    let next = c.args.running.pc + 1 in
    let len = c.len.result - c.args.count in
    let f = frame_behind p r c.args.running o c.requires next c.set_pc.new.self c.set_pc.ensures in
    let same : Some (locals_of f.0) ≡ Some c.locals_at.result.now = sym (ap (option_map locals_of) f.1.0) ∙ c.locals_at.ensures in
    let are : locals_of f.0 ≡ c.locals_at.result.now = cc in
    goes_elsewhere p r w c.cut_locals.new.self (λ f. with_locals (take len) (with_pc next f)) (λ o. next) (take len) (moves_locals next (take len)) c.requires.doing
    (behind_locals p r c.args.running o c.requires next (take len) c.set_pc.new.self c.cut_locals.new.self c.set_pc.ensures c.cut_locals.ensures)
    (drops p w.stations (reverse r.frames.frames) (standing_of r) c.args.running.pc c.args.count len w.stand c.requires.pc c.requires.is
    (λ x b. omega (arith, c.len.ensures, ap length are, f.1.3 x b, enough p r c.args.running c.args.count c.requires x b)) (at_body p r c.args.running o c.requires).well)

pub returns-clause-works : goal.returns-clause-works
returns-clause-works c =
    drop_works c.args.program.now c.args.self.now c.args.running c.args.count (take (c.len.result - c.args.count)) c.requires c.set_pc.new.self c.cut_locals.new.self
    c.set_pc.ensures c.cut_locals.ensures

pub returns-clause-goes : goal.returns-clause-goes
returns-clause-goes c =
    let p = c.args.program.now in
    let r = c.args.self.now in
    let o = op.Drop c.args.count in
    let next = c.args.running.pc + 1 in
    let len = c.len.result - c.args.count in
    let f = frame_behind p r c.args.running o c.requires next c.set_pc.new.self c.set_pc.ensures in
    let same : Some (locals_of f.0) ≡ Some c.locals_at.result.now = sym (ap (option_map locals_of) f.1.0) ∙ c.locals_at.ensures in
    let are : locals_of f.0 ≡ c.locals_at.result.now = cc in
    drop_carries p r (record r { frames = c.cut_locals.new.self }) c.args.running c.args.count len tt c.requires (names_spelled p r c.requires.well.steady)
    (λ x b. omega (arith, c.len.ensures, ap length are, f.1.3 x b, enough p r c.args.running c.args.count c.requires x b))
    (behind_locals p r c.args.running o c.requires next (take len) c.set_pc.new.self c.cut_locals.new.self c.set_pc.ensures c.cut_locals.ensures) refl

pub returns-clause-keeps : goal.returns-clause-keeps
returns-clause-keeps c =
    let p = c.args.program.now in
    let r = c.args.self.now in
    let next = c.args.running.pc + 1 in
    let len = c.len.result - c.args.count in
    stays_moved r (record r { frames = c.cut_locals.new.self }) (λ f. with_locals (take len) (with_pc next f)) (λ o. next) (take len) (moves_locals next (take len)) refl c.args.running.pc c.requires.pc
    (behind_locals p r c.args.running (op.Drop c.args.count) c.requires next (take len) c.set_pc.new.self c.cut_locals.new.self c.set_pc.ensures c.cut_locals.ensures)
