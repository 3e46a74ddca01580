use Rattle.std.proofs.Common.{refl, sym, ◌∙◌}
use Rattle.run_engine.proofs.Asking.{asks-main, asks-other}
use Rattle.run_engine.proofs.Gives.{not-both}
use Rattle.run_engine.proofs.run.Core.ask.Goals as goal

pub returns-then-reads_main-clause-answers : goal.returns-then-reads_main-clause-answers
returns-then-reads_main-clause-answers c = asks-main c.args.self.now c.requires.reads c.requires.hungry (sym c.reads_main.ensures ∙ c.if-reads_main.true)

pub returns-then-reads_main-clause-main : goal.returns-then-reads_main-clause-main
returns-then-reads_main-clause-main c = λ is. refl

pub returns-else-reads_main-clause-answers : goal.returns-else-reads_main-clause-answers
returns-else-reads_main-clause-answers c = asks-other c.args.self.now c.requires.reads c.requires.hungry (sym c.reads_main.ensures ∙ c.if-reads_main.false)

pub returns-else-reads_main-clause-main : goal.returns-else-reads_main-clause-main
returns-else-reads_main-clause-main c = λ is. not-both _ is (sym c.reads_main.ensures ∙ c.if-reads_main.false)
