use Rattle.std.proofs.Common.{◌≡◌, ◌+◌, length}
use Rattle.stxpath_syntax.proofs.Cutting.{Rests}
use Rattle.stxpath_syntax.proofs.avt.parts.Given as goal

abbrev pub invariant-parts : goal.invariant-parts
invariant-parts l = Rests l.dialect l.scope l.fn.text l.parts l.plain l.at l.rest × (l.at + length l.rest ≡ length l.fn.text)

abbrev pub decreases-parts : goal.decreases-parts
decreases-parts l = length l.rest
