use Rattle.result_writer.proofs.Texts.{replaces, appends}
use Rattle.result_writer.proofs.law.attributes_of_one_name.Goals as goal

pub returns-clause-replaced : goal.returns-clause-replaced
returns-clause-replaced c = replaces

pub returns-clause-appended : goal.returns-clause-appended
returns-clause-appended c = appends
