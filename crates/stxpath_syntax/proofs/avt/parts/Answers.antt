use Rattle.std.proofs.lemmas.Result.{err_from_is_err_and}
use Rattle.stxpath_syntax.proofs.Cutting.{piece_error, piece_last, pieces_on}
use Rattle.stxpath_syntax.proofs.avt.parts.Goals as goal

pub returns-in_err-cut : goal.returns-in_err-cut
returns-in_err-cut c =
    let p = err_from_is_err_and c.from_residual.result c.from_residual.ensures.1 in
    rw (p.1, p.2) (piece_error c.args.dialect c.args.scope.now c.args.text.now c.parts.parts c.parts.plain c.parts.at c.parts.rest.now c.in-Some.behind.now c.in-Some.c.now c.in_err-cut.field-0.0
    c.parts.invariant.0 c.in-Some.ensures.cases.0 c.in_err-cut.ensures)

pub parts-preserved : goal.parts-preserved
parts-preserved c =
    pieces_on c.args.dialect c.args.scope.now c.args.text.now c.parts.parts c.append.new.parts c.parts.plain c.append.new.plain c.parts.at c.in-Some.c.now c.parts.rest.now c.in-Some.behind.now
    c.skip-rest.result.now c.in_ok-cut.cut c.parts.invariant.0 c.parts.invariant.1 c.in-Some.ensures.cases.0 c.in_ok-cut.ensures c.in_ok-append.ensures c.skip-rest.ensures

pub returns : goal.returns
returns c =
    piece_last c.args.dialect c.args.scope.now c.args.text.now c.parts.parts c.flush.new.parts c.parts.plain c.parts.at c.parts.rest.now c.parts.invariant.0 c.in_default.ensures.cases c.in_ok-flush.ensures.parts
