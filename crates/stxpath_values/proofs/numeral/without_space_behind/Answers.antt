use Rattle.std.proofs.Common.{◌-◌, length, take, ap}
use Rattle.stxpath_values.specs.Numeral.{without_space_behind}
use Rattle.stxpath_values.proofs.numeral.without_space_behind.Goals as goal

pub returns : goal.returns
unfolding without_space_behind
returns c = ap (λ n. take (length c.args.bytes.now - n) c.args.bytes.now) c.space_behind.ensures.value
