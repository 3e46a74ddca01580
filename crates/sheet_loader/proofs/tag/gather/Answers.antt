use Rattle.std.proofs.Common.{◌+◌, ap, drop, map, subst}
use Rattle.sheet_loader.specs.Gathering.{Gathers}
use Rattle.sheet_loader.specs.Meant.{row_of}
use Rattle.sheet_loader.proofs.GatheringRows.{gathers-row, row_here}
use Rattle.sheet_loader.proofs.tag.gather.Goals as goal

pub loop-row-preserved : goal.loop-row-preserved
loop-row-preserved c = λ reads.
    let rows = c.args.rows.now in
    let i = c.loop-row.row-index in
    gathers-row reads c.args.dialect c.args.scope.now c.args.attrs.now (map row_of rows) (map row_of (drop (i + 1) rows)) _ c.loop-row.gathered c.add_row.new.self
    (subst (λ l. Gathers reads c.args.dialect c.args.scope.now c.args.attrs.now (map row_of rows) l c.loop-row.gathered)
    (ap (map row_of) (row_here rows i _ c.loop-row-test.true)) (c.loop-row.invariant reads))
    (c.in_ok-add_row.ensures reads)
