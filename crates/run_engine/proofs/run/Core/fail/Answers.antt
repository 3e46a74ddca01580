use Rattle.std.proofs.Common.{ap}
use Rattle.fault_report.specs.declared.outcome.Outcome.TheVariants as ended
use Rattle.template_machine.specs.Ending.{Malformed}
use Rattle.run_engine.proofs.Asking.{faults, lacks, stopped-so}
use Rattle.run_engine.proofs.Gives.{lack-tells, over-tells, stays-but}
use Rattle.run_engine.proofs.run.Core.fail.Goals as goal

pub returns-in-Ok-clause-answers : goal.returns-in-Ok-clause-answers
returns-in-Ok-clause-answers c =
    let s = c.args.self.now in
    let h = c.requires in
    stopped-so s c.end.new.self c.end.result (ended.Xml c.in-Ok.file c.args.fault) c.end.ensures.answer c.end.ensures.over tt
    (faults s c.args.fault c.in-Ok.file h.0 h h.1.0 (c.in-Ok.ensures h.0 h.1.0))

pub returns-in-Ok-clause-kept : goal.returns-in-Ok-clause-kept
returns-in-Ok-clause-kept c = stays-but c.args.self.now c.end.new.self _ c.end.ensures.over

pub returns-in-Ok-clause-tells : goal.returns-in-Ok-clause-tells
returns-in-Ok-clause-tells c = λ d is.
    over-tells c.args.self.now c.end.new.self c.args.self.now.files (Malformed d.name c.args.fault) (ended.Xml c.in-Ok.file c.args.fault) c.end.ensures.over
    (ap (λ file. ended.Xml file c.args.fault) (c.in-Ok.ensures d is))

pub returns-in-Err-clause-answers : goal.returns-in-Err-clause-answers
returns-in-Err-clause-answers c = lacks c.args.self.now c.lack.new.self c.lack.result c.lack.ensures.answer c.lack.ensures.over

pub returns-in-Err-clause-kept : goal.returns-in-Err-clause-kept
returns-in-Err-clause-kept c = stays-but c.args.self.now c.lack.new.self _ c.lack.ensures.over

pub returns-in-Err-clause-tells : goal.returns-in-Err-clause-tells
returns-in-Err-clause-tells c = λ d is. lack-tells c.args.self.now c.lack.new.self c.args.self.now.files (Malformed d.name c.args.fault) c.lack.ensures.over
