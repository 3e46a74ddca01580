use Rattle.std.proofs.lemmas.Nat.{mul-mod_second}
use Rattle.sample_maker.proofs.piece.quantity.Goals as goal

pub returns : goal.returns
returns c = mul-mod_second 7 c.args.number 10
