use Rattle.std.proofs.Common.{◌∙◌, ap}
use Rattle.sheet_loader.specs.Values.{priority_of}
use Rattle.sheet_loader.proofs.Alike.{priority-alike}
use Rattle.sheet_loader.proofs.priority.priority_of.Goals as goal

pub returns : goal.returns
returns c = c.signed.ensures ∙ ap priority_of c.as_str.ensures.bytes ∙ priority-alike c.args.text.now
