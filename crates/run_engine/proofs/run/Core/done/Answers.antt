use Rattle.std.proofs.Common.{refl}
use Rattle.run_engine.proofs.Asking.{ends}
use Rattle.run_engine.proofs.run.Core.done.Goals as goal

pub returns-clause-answers : goal.returns-clause-answers
returns-clause-answers c = ends c.args.self.now c.requires

pub returns-clause-tells : goal.returns-clause-tells
returns-clause-tells c = refl
