use Rattle.stx_host.specs.Outside.{IsOpen}
use Rattle.stx_host.proofs.tests.reads.Given as goal

-- the document stays open
abbrev pub invariant-loop : goal.invariant-loop
invariant-loop g l = IsOpen (g.H.Host.outside l.host).open_ids l.id
