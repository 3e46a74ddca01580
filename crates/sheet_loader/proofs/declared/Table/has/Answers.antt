use Rattle.std.proofs.Common.{◌∙◌}
use Rattle.sheet_loader.proofs.KeyLemmas.{any_own}
use Rattle.sheet_loader.proofs.declared.Table.has.Goals as goal

pub returns : goal.returns
returns c = c.contains.ensures ∙ any_own c.args.own.now c.args.self.now.names.keys
