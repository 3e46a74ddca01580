use Rattle.std.proofs.Common.{ap, Ok}
use Rattle.stxpath_syntax.specs.Template.{IsTemplate}
use Rattle.sheet_loader.specs.Values.{A_template, read}
use Rattle.sheet_loader.proofs.ReadOnce.{only_template, tells_fault}
use Rattle.sheet_loader.proofs.value.template.Goals as goal

pub returns-in-Ok : goal.returns-in-Ok
returns-in-Ok c = λ reads.
    ap (read A_template) (only_template reads c.args.dialect c.args.scope.now c.args.text.now (Ok c.in-Ok.template.parts) c.in-Ok.ensures.reads)

pub returns-in-Err : goal.returns-in-Err
returns-in-Err c = λ reads.
    tells_fault (IsTemplate c.args.dialect c.args.scope.now c.args.text.now) (reads.template c.args.dialect c.args.scope.now c.args.text.now) A_template
    (only_template reads c.args.dialect c.args.scope.now c.args.text.now) c.in-Err.fault c.from.result c.in-Err.ensures.reads c.from.ensures
