use Rattle.std.proofs.Common.{◌∙◌, ap}
use Rattle.sheet_loader.specs.Values.{pass_in}
use Rattle.sheet_loader.proofs.Alike.{pass-alike}
use Rattle.sheet_loader.proofs.passing.pass_in.Goals as goal

pub returns : goal.returns
returns c = c.pass_of.ensures ∙ ap (pass_in c.args.dialect) c.as_str.ensures.bytes ∙ pass-alike c.args.dialect c.args.text.now
