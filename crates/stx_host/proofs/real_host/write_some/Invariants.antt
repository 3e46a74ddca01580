use Rattle.std.specs.Io.KnownBytes.{Keeps}
use Rattle.stx_host.proofs.real_host.write_some.Given as goal

-- an interrupted write wrote nothing
abbrev pub invariant-loop : goal.invariant-loop
invariant-loop g l = Keeps (g.S.Write.contents l.initial.sink) (g.S.Write.contents l.sink)
