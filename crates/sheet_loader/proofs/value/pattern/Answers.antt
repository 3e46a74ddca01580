use Rattle.std.proofs.Common.{ap, Ok}
use Rattle.stxpath_syntax.specs.Template.{IsPattern}
use Rattle.sheet_loader.specs.Values.{A_pattern, read}
use Rattle.sheet_loader.proofs.ReadOnce.{only_pattern, tells_fault}
use Rattle.sheet_loader.proofs.value.pattern.Goals as goal

pub returns-in-Ok : goal.returns-in-Ok
returns-in-Ok c = λ reads.
    ap (read A_pattern) (only_pattern reads c.args.dialect c.args.scope.now c.args.text.now (Ok c.in-Ok.pattern.alternatives) c.in-Ok.ensures.reads)

pub returns-in-Err : goal.returns-in-Err
returns-in-Err c = λ reads.
    tells_fault (IsPattern c.args.dialect c.args.scope.now c.args.text.now) (reads.pattern c.args.dialect c.args.scope.now c.args.text.now) A_pattern
    (only_pattern reads c.args.dialect c.args.scope.now c.args.text.now) c.in-Err.fault c.from.result c.in-Err.ensures.reads c.from.ensures
