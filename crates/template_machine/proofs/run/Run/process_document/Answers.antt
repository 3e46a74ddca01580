use Rattle.std.proofs.Common.{◌^◌, refl, arith}
use Rattle.instr_code.specs.declared.code.Op.TheVariants as op
use Rattle.template_machine.proofs.Arms.{seen_at}
use Rattle.template_machine.proofs.Fueled.{wanting}
use Rattle.template_machine.proofs.Beginning.{begins_same}
use Rattle.template_machine.proofs.Falling.{begins_within}
use Rattle.template_machine.proofs.run.Run.process_document.Goals as goal

pub setting-requires : goal.setting-requires
setting-requires c = seen_at c.args.program.now c.args.self.now c.args.running (op.Do c.args.number) c.requires.op

pub returns-clause-stands : goal.returns-clause-stands
returns-clause-stands c = (wanting c.args.program.now c.hand.new.self _ c.in_ok-hand.ensures.stands.waits, c.requires.sheet)

pub returns-clause-works : goal.returns-clause-works
returns-clause-works c =
    begins_within 0 (2 ^ 68) c.args.self.now _ (omega arith) (begins_same 0 c.args.self.now c.hand.new.self _ refl refl c.in_ok-hand.ensures.works)
