use Rattle.std.proofs.Common.{◌≡◌, ℕ, List, ◌++◌, ◌≤◌}
use Rattle.stx_base.specs.Character.{has_cdata_end}
use Rattle.stx_base.proofs.CdataLemmas.{brackets}
use Rattle.stx_base.proofs.character.has_cdata_end.Given as goal

-- whatever follows, the brackets that count stand for all that was seen
abbrev pub invariant-loop-c : goal.invariant-loop-c
invariant-loop-c l = (l.brackets ≤ 2) × ((more : List ℕ) → has_cdata_end (l.yielded ++ more) ≡ has_cdata_end (brackets l.brackets more))
