use Rattle.std.proofs.Common.{ap, Option}
use Rattle.sheet_loader.proofs.Rooting.{taken_new, taken_old}
use Rattle.sheet_loader.specs.declared.frame.Version.{Version}
use Rattle.sheet_loader.proofs.draft.Draft.take_version.Goals as goal

pub returns-in-None : goal.returns-in-None
returns-in-None c =
    let d = c.args.self.now in
    ap (λ (w : Option Version). record d { file = record d.file { version = w } }) (taken_new d.file.version c.args.attrs.now c.version_of.result c.in-None.is c.version_of.ensures)

pub returns-in-Some : goal.returns-in-Some
returns-in-Some c =
    let d = c.args.self.now in
    ap (λ (w : Option Version). record d { file = record d.file { version = w } }) (taken_old d.file.version c.args.attrs.now c.in-Some.field-0 c.in-Some.is)
