use Rattle.std.proofs.Common.{◌∙◌, ap, map, sym}
use Rattle.std.proofs.lemmas.List.{take-map}
use Rattle.sheet_loader.specs.Keys.{name_of}
use Rattle.sheet_loader.proofs.names.NameSet.truncate.Goals as goal

pub returns : goal.returns
returns c = ap (map name_of) c.truncate.ensures.keys ∙ sym (take-map name_of c.args.len c.args.self.now.names.keys)
