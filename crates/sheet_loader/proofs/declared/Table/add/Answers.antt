use Rattle.std.proofs.Common.{◌∙◌, ap, map}
use Rattle.sheet_loader.specs.Keys.{own_of}
use Rattle.sheet_loader.proofs.KeyLemmas.{insert-own}
use Rattle.sheet_loader.proofs.declared.Table.add.Goals as goal

pub returns : goal.returns
returns c = ap (map own_of) c.in_ok-insert.ensures.keys ∙ insert-own c.args.own c.args.self.now.names.keys
