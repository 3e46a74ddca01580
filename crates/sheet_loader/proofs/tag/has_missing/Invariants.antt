use Rattle.std.proofs.Common.{◌≡◌, drop, map}
use Rattle.std.specs.List.{list_any}
use Rattle.sheet_loader.specs.Meant.{row_of}
use Rattle.sheet_loader.specs.Tags.{is_missing}
use Rattle.sheet_loader.proofs.tag.has_missing.Given as goal

abbrev pub invariant-loop-row : goal.invariant-loop-row
invariant-loop-row l = list_any (is_missing l.attrs) (map row_of (drop l.row-index l.rows)) ≡ list_any (is_missing l.attrs) (map row_of l.rows)
