use Rattle.sibling_regions.proofs.Conditions.{code_can_be_asked}
use Rattle.sibling_regions.proofs.Rising.{top_rises}
use Rattle.sibling_regions.proofs.law.standing.Goals as goal

pub returns : goal.returns
returns c = record { levels = top_rises; conditions = code_can_be_asked }
