use Rattle.std.proofs.Common.{map}
use Rattle.sheet_loader.specs.Meant.{item_of}
use Rattle.sheet_loader.specs.Sorting.{Sorts}
use Rattle.sheet_loader.proofs.content.sorted.Given as goal

abbrev pub invariant-loop-item : goal.invariant-loop-item
invariant-loop-item l = Sorts (map item_of l.yielded) l.sorter
