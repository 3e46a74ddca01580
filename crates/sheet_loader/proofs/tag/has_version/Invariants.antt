use Rattle.std.proofs.Common.{◌≡◌, drop, map}
use Rattle.std.specs.List.{list_any}
use Rattle.sheet_loader.specs.Meant.{row_of}
use Rattle.sheet_loader.specs.Judging.{is_version}
use Rattle.sheet_loader.proofs.tag.has_version.Given as goal

abbrev pub invariant-loop-row : goal.invariant-loop-row
invariant-loop-row l = list_any (λ row. is_version row.form) (map row_of (drop l.row-index l.rows)) ≡ list_any (λ row. is_version row.form) (map row_of l.rows)
