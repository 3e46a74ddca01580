use Rattle.std.proofs.Common.{◌≡◌, drop}
use Rattle.xml_names.specs.Tag.{has_twins, same_expanded}
use Rattle.xml_names.proofs.twins.has_equal_names.Given as goal

-- no attribute so far is like a later one
abbrev pub invariant-loop-at : goal.invariant-loop-at
invariant-loop-at l = has_twins same_expanded (drop l.at l.attrs) ≡ has_twins same_expanded l.attrs
