use Rattle.std.proofs.Common.{◌≡◌, List, ℕ, false, take, Bor}
use Rattle.std.specs.BTreeSet as set
use Rattle.std.specs.Cmp.Lexicographic.{slice_cmp}
use Rattle.std.specs.List.{list_any}
use Rattle.std.specs.Ordering.{nat_cmp, ordering_then}
use Rattle.xml_names.specs.Tag.{has_twins, same_expanded}
use Rattle.xml_names.proofs.Alike.{is_expanded}
use Rattle.xml_names.proofs.twins.has_repeated_names.Given as goal

-- no attribute so far has the expanded name of an earlier one, and the set has just the names so far
abbrev pub invariant-loop-attr : goal.invariant-loop-attr
invariant-loop-attr l =
    (has_twins same_expanded (take l.attr-index l.attrs) ≡ false)
    × ((q : Bor (List ℕ) × Bor (List ℕ)) → set.contains (λ x y. ordering_then (slice_cmp nat_cmp x.0.now y.0.now) (slice_cmp nat_cmp x.1.now y.1.now)) l.names q
    ≡ list_any (is_expanded q.0.now q.1.now) (take l.attr-index l.attrs))
