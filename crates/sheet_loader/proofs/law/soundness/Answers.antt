use Rattle.sheet_loader.proofs.LoadedSheets.{loaded_sound}
use Rattle.sheet_loader.proofs.law.soundness.Goals as goal

pub returns : goal.returns
returns c = loaded_sound
