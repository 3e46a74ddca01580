use Rattle.std.proofs.Common.{◌≡◌, length}
use Rattle.template_machine.proofs.program.unlinked.Given as goal

abbrev pub invariant-links : goal.invariant-links
invariant-links l = length l.links ≡ l._link
