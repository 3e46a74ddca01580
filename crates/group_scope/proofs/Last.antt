-- Where an alternative fits, the node passes the test of its last step.
use Rattle.std.proofs.Common.{◌≡◌, ℕ, ◌+◌, ◌-◌, ◌==◌, true, ◌&&◌, List, [], ◌∷◌, Option, Some, None, ◌≤◌, length, option_map, slice_get, refl, ap, sym, subst, ◌∙◌, arith}
use Rattle.std.proofs.lemmas.Bool.{eqb-true}
use Rattle.std.specs.List.{range_with_len}
use Rattle.node_stack.specs.Path.{Node, Path, PathNode, current, last_of, node_at}
use Rattle.node_stack.specs.Stack.{path}
use Rattle.node_stack.specs.declared.stack.NodeStack.{NodeStack}
use Rattle.stxpath_eval.specs.Setting.{Setting}
use Rattle.stxpath_syntax.specs.declared.expr.Alternative.{Alternative}
use Rattle.stxpath_syntax.specs.declared.expr.Alternative.TheVariants as alternative
use Rattle.stxpath_syntax.specs.declared.expr.PathStep.{PathStep}
use Rattle.match_patterns.specs.Fits.{fits, last_test, may_follow, node_passes, step_fits, steps_fit, test_of}
use Rattle.group_scope.proofs.Among.{any_among}
use Rattle.group_scope.proofs.Ordering.{both}

last_passes : (steps : List PathStep) (s : PathStep) (g : Setting) (before : Option ℕ) → steps_fit (s ∷ steps) g before ≡ true → node_passes (last_test (s ∷ steps)) (node_at g.path g.place) ≡ true
last_passes [] s g before h =
    let (place, among, holds) = any_among (λ place. may_follow s.link before place && step_fits s g place && steps_fit [] g (Some place)) (range_with_len 0 (g.place + 1)) h in
    let parts = both (may_follow s.link before place && step_fits s g place) (place == g.place) holds in
    let fits_here = both (may_follow s.link before place) (step_fits s g place) parts.0 in
    let passes_here = both (node_passes s.test (node_at g.path place)) _ fits_here.1 in
    subst (λ n. node_passes s.test (node_at g.path n) ≡ true) (eqb-true place g.place parts.1) passes_here.0
last_passes (t ∷ steps) s g before h =
    let (place, among, holds) = any_among (λ place. may_follow s.link before place && step_fits s g place && steps_fit (t ∷ steps) g (Some place)) (range_with_len 0 (g.place + 1)) h in
    let parts = both (may_follow s.link before place && step_fits s g place) (steps_fit (t ∷ steps) g (Some place)) holds in
    last_passes steps t g (Some place) parts.1

pub fitting_passes : (a : Alternative) (g : Setting) → fits a g ≡ true → node_passes (test_of a) (node_at g.path g.place) ≡ true
fitting_passes alternative.Root g h = h
fitting_passes (alternative.Steps []) g h = cc
fitting_passes (alternative.Steps (s ∷ steps)) g h = last_passes steps s g None h

pub some_node : (s : NodeStack) → 1 ≤ length (path s).nodes
unfolding path
some_node s = omega arith

last_behind : (x : PathNode) (xs : List PathNode) → last_of (x ∷ xs) ≡ slice_get (x ∷ xs) (length xs)
last_behind x [] = refl
last_behind x (y ∷ xs) = last_behind y xs

last_at : (xs : List PathNode) → last_of xs ≡ slice_get xs (length xs - 1)
last_at [] = refl
last_at (x ∷ xs) = let same : length xs ≡ length (x ∷ xs) - 1 = omega arith in last_behind x xs ∙ ap (slice_get (x ∷ xs)) same

-- the current node is that of the last place
pub current_last : (p : Path) (n : Node) → current p ≡ Some n → node_at p (length p.nodes - 1) ≡ Some n
current_last p n e = ap (option_map (λ (x : PathNode). x.node)) (sym (last_at p.nodes)) ∙ e
