use Rattle.std.proofs.Common.{◌≡◌, List, ℕ, false, take, Bor}
use Rattle.std.specs.BTreeSet as set
use Rattle.std.specs.Cmp.Lexicographic.{slice_cmp}
use Rattle.std.specs.List.{list_any}
use Rattle.std.specs.Ordering.{nat_cmp}
use Rattle.xml_names.specs.Tag.{has_twins, same_written}
use Rattle.xml_names.proofs.Alike.{is_written}
use Rattle.xml_names.proofs.twins.has_repeated.Given as goal

-- no attribute so far has the name of an earlier one, and the set has just the names so far
abbrev pub invariant-loop-attr : goal.invariant-loop-attr
invariant-loop-attr l =
    (has_twins same_written (take l.attr-index l.attrs) ≡ false)
    × ((q : Bor (List ℕ)) → set.contains (λ x y. slice_cmp nat_cmp x.now y.now) l.names q ≡ list_any (is_written q.now) (take l.attr-index l.attrs))
