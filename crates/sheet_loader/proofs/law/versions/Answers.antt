use Rattle.sheet_loader.proofs.Versions.{loads_as_before}
use Rattle.sheet_loader.proofs.law.versions.Goals as goal

pub returns : goal.returns
returns c = loads_as_before
