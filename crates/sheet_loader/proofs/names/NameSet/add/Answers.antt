use Rattle.std.proofs.Common.{◌∙◌, ap, map}
use Rattle.sheet_loader.specs.Keys.{name_of}
use Rattle.sheet_loader.proofs.KeyLemmas.{insert-key}
use Rattle.sheet_loader.proofs.names.NameSet.add.Goals as goal

pub returns : goal.returns
returns c = ap (map name_of) c.in_ok-insert.ensures.keys ∙ insert-key c.args.name c.args.self.now.names.keys
