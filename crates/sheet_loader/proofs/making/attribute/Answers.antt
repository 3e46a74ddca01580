use Rattle.std.proofs.Common.{codes, refl}
use Rattle.std.specs.Str.{chars}
use Rattle.sheet_loader.specs.Gathering.{values_in}
use Rattle.sheet_loader.specs.Taking.{without}
use Rattle.sheet_loader.proofs.TakingLemmas.{value_at-without}
use Rattle.sheet_loader.proofs.making.attribute.Goals as goal

pub returns : goal.returns
unfolding chars
returns c = cc (value_at-without (codes "name") (codes "namespace") (values_in c.args.values.now) refl, value_at-without (codes "name") (codes "select") (values_in c.args.values.now) refl, value_at-without (codes "namespace") (codes "select") (without (codes "name") (values_in c.args.values.now)) refl)
