-- Patterns see nodes and positions, and nothing else of a path.
use Rattle.std.proofs.Common.{◌≡◌, ℕ, ◌+◌, Bool, true, false, ◌&&◌, List, [], ◌∷◌, map, filter, Option, Some, None, refl, ap, sym, ◌∙◌}
use Rattle.std.specs.Prelude.{option_map, slice_get}
use Rattle.std.specs.List.{list_all, list_any, range_with_len}
use Rattle.stx_base.proofs.Course.{funext}
use Rattle.stx_base.specs.declared.node.NodeTest.{NodeTest}
use Rattle.stx_base.specs.declared.node.NodeTest.TheVariants as test
use Rattle.group_scope.specs.Choice.{Candidate, chosen, is_free, visible}
use Rattle.group_scope.specs.Rank.{best_of}
use Rattle.group_scope.specs.declared.rank.Rank.{Rank}
use Rattle.match_patterns.specs.Fits.{fits, may_follow, node_passes, step_fits, steps_fit, surely}
use Rattle.node_stack.specs.Path.{Node, Document, Element, Chars, CData, Comment, Pi, Attribute, Path, PathNode, kind_of, node_at, position}
use Rattle.node_stack.specs.Test.{passes}
use Rattle.stxpath_eval.specs.Setting.{Setting, at_step}
use Rattle.stxpath_eval.specs.Steps.{holds, is_reached}
use Rattle.stxpath_eval.specs.Value.{value}
use Rattle.stxpath_syntax.specs.declared.expr.Alternative.{Alternative}
use Rattle.stxpath_syntax.specs.declared.expr.Alternative.TheVariants as alternative
use Rattle.stxpath_syntax.specs.declared.expr.Expr.{Expr}
use Rattle.stxpath_syntax.specs.declared.expr.PathStep.{PathStep}
use Rattle.stxpath_values.specs.Outcome.{and_then}
use Rattle.stxpath_eval.specs.Steps.{holds_by}
use Rattle.template_machine.specs.Alike.{LooksLike, along_path}
use Rattle.template_machine.specs.Patterned.{ChoicesSeeNodes, PassesLike, PatternsSeeNodes, TrailsPassAlike}
use Rattle.template_machine.proofs.Alike.{expressions_see_nodes}
use Rattle.template_machine.proofs.Sighted.{nodes_by, trails_look_alike}

-- a step asks a node, unless it is an attribute, for the test that it passes
passes_reached : (t : NodeTest) (o : Option Node) → is_reached t o ≡ true → node_passes t o ≡ true
passes_reached t None e = absurd (cc)
passes_reached t (Some (Attribute a)) e = absurd (cc)
passes_reached t (Some Document) e = e
passes_reached t (Some (Element name attrs decls first)) e = e
passes_reached t (Some (Chars text)) e = e
passes_reached t (Some (CData text)) e = e
passes_reached t (Some (Comment text)) e = e
passes_reached t (Some (Pi target text)) e = e

both_so : (b x y : Bool) → (b ≡ true → x ≡ y) → (b && x) ≡ (b && y)
both_so true x y e = e refl
both_so false x y e = refl

module _ (g : Setting) (p : Path) (l : PassesLike g p) where
  abbrev h : Setting
  h = along_path p g

  -- at a place whose node passes a test
  looks_there : (place : ℕ) (t : NodeTest) → node_passes t (node_at g.path place) ≡ true → LooksLike (at_step place t g) p
  looks_there place t pass = record {
    nodes = l.nodes;
    positions = λ at u reached. l.positions at u (passes_reached u (node_at g.path at) reached);
    own = l.positions place t pass;
  }

  holds_alike : (place : ℕ) (t : NodeTest) (e : Expr) → node_passes t (node_at g.path place) ≡ true → surely (holds (value e) (at_step place t g)) ≡ surely (holds (value e) (at_step place t h))
  holds_alike place t e pass =
      ap (λ v. surely (and_then v (holds_by (position g.path place t)))) (expressions_see_nodes e (at_step place t g) p (looks_there place t pass))
      ∙ ap (λ n. surely (and_then (value e (at_step place t h)) (holds_by n))) (l.positions place t pass)

  step_alike : (s : PathStep) (place : ℕ) → step_fits s g place ≡ step_fits s h place
  step_alike s place =
      both_so (node_passes s.test (node_at g.path place)) (list_all (λ e. surely (holds (value e) (at_step place s.test g))) s.predicates) (list_all (λ e. surely (holds (value e) (at_step place s.test h))) s.predicates)
      (λ pass. ap (λ f. list_all f s.predicates) (funext (λ e. holds_alike place s.test e pass)))
      ∙ ap (λ o. node_passes s.test o && list_all (λ e. surely (holds (value e) (at_step place s.test h))) s.predicates) (l.nodes place)

  steps_alike : (steps : List PathStep) (before : Option ℕ) → steps_fit steps g before ≡ steps_fit steps h before
  steps_alike [] None = refl
  steps_alike [] (Some place) = refl
  steps_alike (s ∷ steps) before =
      ap (λ f. list_any f (range_with_len 0 (g.place + 1)))
      (funext (λ place.
      ap (λ b. may_follow s.link before place && b && steps_fit steps g (Some place)) (step_alike s place)
      ∙ ap (λ b. may_follow s.link before place && step_fits s h place && b) (steps_alike steps (Some place))))

  fits_alike : (a : Alternative) → fits a g ≡ fits a h
  fits_alike alternative.Root = ap (node_passes test.Document) (l.nodes g.place)
  fits_alike (alternative.Steps steps) = steps_alike steps None

pub patterns_see_nodes : PatternsSeeNodes
patterns_see_nodes a g p l = fits_alike g p l a

pub choices_see_nodes : ChoicesSeeNodes
choices_see_nodes s base active settings p l =
    ap (λ f. best_of (map (λ (c : Candidate). c.rank) (filter f (filter (is_free active) (visible s base)))))
    (funext (λ (c : Candidate). patterns_see_nodes c.pattern (settings c.group) p (l c.group)))

same_pass : (t : NodeTest) (o : Option PathNode) → node_passes t (option_map (λ (x : PathNode). x.node) o) ≡ true → (x : PathNode) → o ≡ Some x → passes t (kind_of x.node) ≡ true
same_pass t None e x is = absurd (cc)
same_pass t (Some y) e x is = let same : y ≡ x = cc in ap (λ (z : PathNode). passes t (kind_of z.node)) (sym same) ∙ e

pub trails_pass_alike : TrailsPassAlike
trails_pass_alike g = record {
  nodes = λ place. nodes_by g place;
  positions = λ place t pass. (trails_look_alike (at_step place t g) (same_pass t (slice_get g.path.nodes place) pass)).own;
}
