use Rattle.sibling_regions.proofs.Outermost.{list_hides, none_where_none_ends, outermost_is_first, top_ends_last}
use Rattle.sibling_regions.proofs.law.outermost.Goals as goal

pub returns : goal.returns
returns c = record { first = outermost_is_first; none = none_where_none_ends; list = list_hides; top = top_ends_last }
