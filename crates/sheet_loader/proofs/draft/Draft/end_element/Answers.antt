-- Its list is sorted, and then it ends by what that came to.
use Rattle.std.proofs.Common.{map}
use Rattle.sheet_loader.specs.Meant.{item_of}
use Rattle.sheet_loader.proofs.draft.Draft.end_element.Goals as goal

pub returns-in-Ok : goal.returns-in-Ok
returns-in-Ok c = c.close.ensures (map item_of c.args.items) c.in-Ok.ensures
