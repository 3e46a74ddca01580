use Rattle.std.proofs.Common.{◌∙◌, ap}
use Rattle.std.specs.Option.{option_map}
use Rattle.sheet_loader.specs.Meant.{kind_of}
use Rattle.sheet_loader.proofs.ByName.{named}
use Rattle.sheet_loader.proofs.kind.kind_named.Goals as goal

pub returns : goal.returns
returns c = ap (option_map kind_of) c.first_named.ensures ∙ named c.args.local.now c.utf8.local
