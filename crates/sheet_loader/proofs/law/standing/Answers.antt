use Rattle.sheet_loader.proofs.Standing.{given_stands}
use Rattle.sheet_loader.proofs.law.standing.Goals as goal

pub returns : goal.returns
returns c = given_stands
