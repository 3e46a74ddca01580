use Rattle.std.proofs.Common.{◌∙◌}
use Rattle.sheet_loader.proofs.KeyLemmas.{any_key}
use Rattle.sheet_loader.proofs.names.NameSet.has.Goals as goal

pub returns : goal.returns
returns c = c.contains.ensures ∙ any_key c.args.name.now c.args.self.now.names.keys
