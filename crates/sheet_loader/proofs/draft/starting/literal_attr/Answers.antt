use Rattle.std.proofs.Common.{ap, refl, Ok}
use Rattle.stxpath_syntax.specs.Template.{IsTemplate}
use Rattle.sheet_loader.proofs.LiteralAttrs.{read_refused}
use Rattle.sheet_loader.proofs.ReadOnce.{only_template, tells_fault}
use Rattle.sheet_loader.specs.Values.{A_template, read}
use Rattle.sheet_loader.proofs.draft.starting.literal_attr.Goals as goal

pub returns-in-Ok : goal.returns-in-Ok
returns-in-Ok c = λ reads.
    (refl, ap (read A_template) (only_template reads c.args.dialect c.args.scope.now c.args.attr.value (Ok c.in-Ok.template.parts) c.in-Ok.ensures.reads))

pub returns : goal.returns
returns c = λ reads.
    read_refused reads c.args.dialect c.args.scope.now c.args.attr c.from.result
    (tells_fault (IsTemplate c.args.dialect c.args.scope.now c.args.attr.value) (reads.template c.args.dialect c.args.scope.now c.args.attr.value) A_template
    (only_template reads c.args.dialect c.args.scope.now c.args.attr.value) c.in-Err.fault c.from.result c.in-Err.ensures.reads c.from.ensures)
