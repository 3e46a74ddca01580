use Rattle.std.proofs.Common.{refl, ◌∙◌, reverse, ap}
use Rattle.frame_stack.specs.Change.{with_pc}
use Rattle.frame_stack.specs.Stack.{FrameStack}
use Rattle.template_machine.specs.Standing.{standing_of}
use Rattle.template_machine.proofs.Moving.{jumps, moves_pc}
use Rattle.instr_code.specs.declared.code.Op.TheVariants as op
use Rattle.template_machine.proofs.Deciding.{jump_carries}
use Rattle.template_machine.proofs.Operating.{behind_pc, body_goes, goes_elsewhere}
use Rattle.template_machine.proofs.Placing.{changed_reversed, placed_in}
use Rattle.template_machine.proofs.Falling.{jump_works}
use Rattle.template_machine.proofs.run.Run.jump.Goals as goal
use Rattle.template_machine.proofs.Operated.{stays_moved}

pub set_pc-requires : goal.set_pc-requires
set_pc-requires c = (placed_in c.args.self.now.frames.frames c.args.running.body c.requires.body).1.2

pub returns-clause-stands : goal.returns-clause-stands
returns-clause-stands c =
    let p = c.args.program.now in
    let r = c.args.self.now in
    let w = c.requires.well in
    let to = c.args.to in
    goes_elsewhere p r w c.set_pc.new.self (with_pc to) (λ o. to) (λ l. l) (moves_pc to) c.requires.doing
    (ap (λ (x : FrameStack). reverse x.frames) c.set_pc.ensures ∙ changed_reversed (with_pc to) r.frames.frames c.args.running.body c.requires.body)
    (jumps p w.stations (reverse r.frames.frames) (standing_of r) c.args.running.pc to w.stand c.requires.pc c.requires.is (body_goes p r w c.requires.doing).well)

pub returns-clause-works : goal.returns-clause-works
returns-clause-works c = jump_works c.args.program.now c.args.self.now c.args.running c.args.to c.requires c.set_pc.new.self c.set_pc.ensures

pub returns-clause-goes : goal.returns-clause-goes
returns-clause-goes c =
    let r = c.args.self.now in
    jump_carries c.args.program.now r (record r { frames = c.set_pc.new.self }) c.args.running c.args.to tt c.requires
    (behind_pc c.args.program.now r c.args.running (op.Jump c.args.to) c.requires c.args.to c.set_pc.new.self c.set_pc.ensures).0 refl

pub returns-clause-keeps : goal.returns-clause-keeps
returns-clause-keeps c =
    let r = c.args.self.now in
    let to = c.args.to in
    stays_moved r (record r { frames = c.set_pc.new.self }) (with_pc to) (λ o. to) (λ l. l) (moves_pc to) refl c.args.running.pc c.requires.pc
    (behind_pc c.args.program.now r c.args.running (op.Jump to) c.requires to c.set_pc.new.self c.set_pc.ensures).0
