use Rattle.sheet_loader.proofs.Ending.{comes_to_one}
use Rattle.sheet_loader.proofs.law.one_answer.Goals as goal

pub returns : goal.returns
returns c = comes_to_one
