use Rattle.std.proofs.Common.{codes, refl}
use Rattle.std.specs.Str.{chars}
use Rattle.sheet_loader.specs.Gathering.{values_in}
use Rattle.sheet_loader.proofs.TakingLemmas.{value_at-without}
use Rattle.sheet_loader.proofs.making.process_buffer.Goals as goal

pub returns : goal.returns
unfolding chars
returns c = cc (value_at-without (codes "name") (codes "group") (values_in c.args.values.now) refl)
