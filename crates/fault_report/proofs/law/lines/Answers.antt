use Rattle.fault_report.proofs.Lines.{done_alone, said_by_name}
use Rattle.fault_report.proofs.law.lines.Goals as goal

pub returns-clause-done : goal.returns-clause-done
returns-clause-done c = done_alone

pub returns-clause-said : goal.returns-clause-said
returns-clause-said c = said_by_name
