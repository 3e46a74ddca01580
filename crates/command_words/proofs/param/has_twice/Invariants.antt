use Rattle.std.proofs.Common.{◌≡◌, List, ℕ, false, take, Bor}
use Rattle.std.specs.BTreeSet as set
use Rattle.std.specs.Cmp.Lexicographic.{slice_cmp}
use Rattle.std.specs.List.{list_any}
use Rattle.std.specs.Ordering.{nat_cmp}
use Rattle.command_words.specs.Words.{has_twice}
use Rattle.command_words.proofs.Twice.{is_named}
use Rattle.command_words.proofs.param.has_twice.Given as goal

-- no parameter so far has the name of an earlier one, and the set has just the names so far
abbrev pub invariant-loop-param : goal.invariant-loop-param
invariant-loop-param l =
    (has_twice (take l.param-index l.params) ≡ false)
    × ((q : Bor (List ℕ)) → set.contains (λ x y. slice_cmp nat_cmp x.now y.now) l.names q ≡ list_any (is_named q.now) (take l.param-index l.params))
