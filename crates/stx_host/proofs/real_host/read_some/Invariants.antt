use Rattle.std.specs.Io.KnownBytes.{Keeps}
use Rattle.stx_host.proofs.real_host.read_some.Given as goal

-- an interrupted read took nothing
abbrev pub invariant-loop : goal.invariant-loop
invariant-loop g l = Keeps (g.S.Read.remaining l.initial.source) (g.S.Read.remaining l.source)
