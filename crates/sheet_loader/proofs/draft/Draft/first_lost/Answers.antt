-- What is known of the sheet is what the register looks in.
use Rattle.std.proofs.Common.{refl}
use Rattle.sheet_loader.specs.Drafts.{loading_of}
use Rattle.sheet_loader.proofs.draft.Draft.first_lost.Goals as goal

pub returns-clause-lost : goal.returns-clause-lost
returns-clause-lost c = c.first_lost.ensures (loading_of c.args.self.now).sheet c.requires.declares refl
