use Rattle.sheet_model.proofs.Searches.{all_of-append, all_of-single}
use Rattle.sheet_model.proofs.law.order.Goals as goal

pub returns : goal.returns
returns c = (all_of-append, all_of-single)
