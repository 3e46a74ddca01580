-- Where memory was not wanting, the event was taken.
use Rattle.sheet_loader.proofs.LoaderSteps.{takes_of}
use Rattle.sheet_loader.proofs.loader.advance.Goals as goal

pub returns-in_default : goal.returns-in_default
returns-in_default c = takes_of c.args.event c.args.draft.now c.take.new.draft c.take.result c.in_default.not-Spent c.take.ensures
