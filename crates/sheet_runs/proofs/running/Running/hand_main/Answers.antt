use Rattle.std.proofs.Common.{refl}
use Rattle.sheet_runs.proofs.Leaving.{main-fed-less, main-fed-more}
use Rattle.sheet_runs.proofs.running.Running.hand_main.Goals as goal

pub returns-clause-more : goal.returns-clause-more
returns-clause-more c = main-fed-more (record c.args.self.now { input = c.saturating_add-self.result }) c.pump.new.self c.requires _ _ refl c.pump.ensures.pumps

pub returns-clause-less : goal.returns-clause-less
returns-clause-less c = λ some. main-fed-less (record c.args.self.now { input = c.saturating_add-self.result }) c.pump.new.self c.requires _ _ refl some c.pump.ensures.pumps
