use Rattle.std.proofs.Common.{◌∙◌}
use Rattle.sheet_loader.proofs.Numbers.{any_text}
use Rattle.sheet_loader.proofs.draft.Draft.is_kept.Goals as goal

pub returns : goal.returns
returns c = c.contains.ensures ∙ any_text c.args.name.now c.utf8.name c.args.self.now.reading.keys
