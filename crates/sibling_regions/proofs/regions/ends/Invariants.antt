use Rattle.std.proofs.Common.{◌≡◌, ◌-◌, ◌≤◌, true, not, drop, length}
use Rattle.std.specs.List.{find, list_all, range_with_len}
use Rattle.frame_stack.specs.Frame.{opens_list}
use Rattle.node_stack.specs.Stack.{path}
use Rattle.sibling_regions.specs.Ends.{Look, is_ended}
use Rattle.sibling_regions.proofs.regions.ends.Given as goal

-- No list stands open from the place on, and the outermost region of those from there on is known.

abbrev pub invariant-loop-place : goal.invariant-loop-place
invariant-loop-place g l =
    let look : Look = record { sheet = l.sheet; code = l.code; path = path l.stack; vars = g.G.GroupVars.seen l.vars; limits = l.limits } in
    (l.place ≤ length l.frames.frames) × (list_all (λ f. not (opens_list f)) (drop l.place l.frames.frames) ≡ true)
    × (l.outermost ≡ find (is_ended look l.frames.frames) (range_with_len l.place (length l.frames.frames - l.place)))

abbrev pub decreases-loop-place : goal.decreases-loop-place
decreases-loop-place g l = l.place
