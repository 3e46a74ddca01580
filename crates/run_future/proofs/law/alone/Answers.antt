use Rattle.run_future.proofs.Alone.{anywhere, as_alone}
use Rattle.run_future.proofs.law.alone.Goals as goal

pub returns : goal.returns
returns c = record { asking = as_alone c.asking.ensures; anywhere = anywhere }
