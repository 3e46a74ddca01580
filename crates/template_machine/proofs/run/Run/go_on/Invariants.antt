use Rattle.std.proofs.Common.{◌≡◌, ◌≤◌}
use Rattle.template_machine.specs.Documents.{documents}
use Rattle.template_machine.specs.Onward.{ComesTo}
use Rattle.template_machine.specs.Ordinary.{IsAlone, IsOrdinary}
use Rattle.template_machine.specs.Well.{IsWell}
use Rattle.template_machine.specs.Work.{work}
use Rattle.template_machine.proofs.run.Run.go_on.Given as goal

-- it goes on well, in the documents that were open, and no fuel comes; and what it did so far is said
abbrev pub invariant-loop-self : goal.invariant-loop-self
invariant-loop-self g l =
    IsWell l.program l.self × (documents l.self ≡ documents l.initial.self) × (l.self.fuel ≤ l.initial.self.fuel)
    × (IsAlone l.program l.initial.self → IsOrdinary l.program.code → ComesTo g.S.Sink.output g.S.Sink.told l.program l.initial.self l.self l.initial.out l.out)

-- and each step leaves less to do
abbrev pub decreases-loop-self : goal.decreases-loop-self
decreases-loop-self g l = work l.program l.self
