use Rattle.std.proofs.Common.{◌≡◌, drop, not, map}
use Rattle.std.specs.Prelude.{bytes_eq}
use Rattle.std.specs.List.{list_all}
use Rattle.sheet_loader.specs.Meant.{row_of}
use Rattle.sheet_loader.proofs.tag.has_row.Given as goal

abbrev pub invariant-loop-row : goal.invariant-loop-row
invariant-loop-row l = list_all (λ row. not (bytes_eq row.name l.name)) (map row_of (drop l.row-index l.rows)) ≡ list_all (λ row. not (bytes_eq row.name l.name)) (map row_of l.rows)
