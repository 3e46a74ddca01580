use Rattle.sheet_loader.proofs.SortingLemmas.{sorts_next}
use Rattle.sheet_loader.proofs.content.sorted.Goals as goal

pub loop-item-preserved : goal.loop-item-preserved
loop-item-preserved c = sorts_next c.loop-item.yielded c.in-Some.item c.loop-item.sorter c.take.new.self c.loop-item.invariant c.in_ok-take.ensures
