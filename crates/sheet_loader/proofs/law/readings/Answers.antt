use Rattle.sheet_loader.proofs.Readers.{in_one_way}
use Rattle.sheet_loader.proofs.law.readings.Goals as goal

pub returns : goal.returns
returns c = in_one_way
