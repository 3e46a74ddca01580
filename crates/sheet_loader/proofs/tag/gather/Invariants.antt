use Rattle.std.proofs.Common.{drop, map}
use Rattle.sheet_loader.specs.Gathering.{Gathers}
use Rattle.sheet_loader.specs.Meant.{row_of}
use Rattle.sheet_loader.specs.Values.{Reads}
use Rattle.sheet_loader.proofs.tag.gather.Given as goal

abbrev pub invariant-loop-row : goal.invariant-loop-row
invariant-loop-row l = (reads : Reads) → Gathers reads l.dialect l.scope l.attrs (map row_of l.rows) (map row_of (drop l.row-index l.rows)) l.gathered
