use Rattle.std.proofs.Common.{ap, refl}
use Rattle.fault_report.specs.declared.outcome.Outcome.TheVariants as ended
use Rattle.template_machine.specs.Ending.{Spent}
use Rattle.run_engine.proofs.Asking.{lacks, stopped-so}
use Rattle.run_engine.proofs.Gives.{lack-tells, over-tells, stays-but}
use Rattle.run_engine.proofs.run.Core.spend.Goals as goal

pub returns-in-Ok-clause-answers : goal.returns-in-Ok-clause-answers
returns-in-Ok-clause-answers c =
    stopped-so c.args.self.now c.end.new.self c.end.result (ended.Fuel c.in-Ok.file c.args.at.offset) c.end.ensures.answer c.end.ensures.over tt (c.args.at, (c.in-Ok.ensures, refl))

pub returns-in-Ok-clause-kept : goal.returns-in-Ok-clause-kept
returns-in-Ok-clause-kept c = stays-but c.args.self.now c.end.new.self _ c.end.ensures.over

pub returns-in-Ok-clause-tells : goal.returns-in-Ok-clause-tells
returns-in-Ok-clause-tells c =
    over-tells c.args.self.now c.end.new.self c.args.self.now.files (Spent c.args.at) (ended.Fuel c.in-Ok.file c.args.at.offset) c.end.ensures.over (ap (λ file. ended.Fuel file c.args.at.offset) c.in-Ok.ensures)

pub returns-in-Err-clause-answers : goal.returns-in-Err-clause-answers
returns-in-Err-clause-answers c = lacks c.args.self.now c.lack.new.self c.lack.result c.lack.ensures.answer c.lack.ensures.over

pub returns-in-Err-clause-kept : goal.returns-in-Err-clause-kept
returns-in-Err-clause-kept c = stays-but c.args.self.now c.lack.new.self _ c.lack.ensures.over

pub returns-in-Err-clause-tells : goal.returns-in-Err-clause-tells
returns-in-Err-clause-tells c = lack-tells c.args.self.now c.lack.new.self c.args.self.now.files (Spent c.args.at) c.lack.ensures.over
