use Rattle.std.proofs.Common.{ap, Ok}
use Rattle.stxpath_syntax.specs.Template.{IsExpression}
use Rattle.sheet_loader.specs.Values.{An_expression, read}
use Rattle.sheet_loader.proofs.ReadOnce.{only_expression, tells_fault}
use Rattle.sheet_loader.proofs.value.expression.Goals as goal

pub returns-in-Ok : goal.returns-in-Ok
returns-in-Ok c = λ reads.
    ap (read An_expression) (only_expression reads c.args.dialect c.args.scope.now c.args.text.now (Ok c.in-Ok.expression) c.in-Ok.ensures.reads)

pub returns-in-Err : goal.returns-in-Err
returns-in-Err c = λ reads.
    tells_fault (IsExpression c.args.dialect c.args.scope.now 0 c.args.text.now) (reads.expression c.args.dialect c.args.scope.now c.args.text.now) An_expression
    (only_expression reads c.args.dialect c.args.scope.now c.args.text.now) c.in-Err.fault c.from.result c.in-Err.ensures.reads c.from.ensures
