-- Where patterns fit, by their last steps.
use Rattle.std.proofs.Common.{◌≡◌, ◌≢◌, ◌↔◌, ℕ, ◌+◌, ◌<◌, Bool, true, false, ◌&&◌, ◌==◌, nat_lt, List, [], ◌∷◌, ◌++◌, Option, None, Some, refl, ap, sym, subst, ◌∙◌, arith}
use Rattle.std.proofs.lemmas.Bool.{eqb-true, eq-eqb}
use Rattle.node_stack.specs.Path.{Node, Document, Element, Chars, CData, Comment, Pi, Attribute, node_at}
use Rattle.stx_base.specs.declared.node.NodeTest.TheVariants as test
use Rattle.stxpath_eval.specs.Setting.{Setting}
use Rattle.stxpath_syntax.specs.declared.expr.Link.{Link}
use Rattle.stxpath_syntax.specs.declared.expr.Link.TheVariants as link
use Rattle.stxpath_syntax.specs.declared.expr.PathStep.{PathStep}
use Rattle.match_patterns.specs.Fits.{may_follow, node_passes, step_fits, steps_fit}
use Rattle.match_patterns.specs.Laws.{FitsByAncestor, FitsByParent, FitsByStep, FitsDocument, at_place}
use Rattle.match_patterns.specs.Walk.{EndsAt, Leads, Stands}
use Rattle.match_patterns.proofs.Bools.{and_both, both, same_truth}
use Rattle.match_patterns.proofs.Fitting.{fits_by, leads_by}
use Rattle.match_patterns.proofs.Walks.{alone, deep_here, deep_last, parts, slash_here, slash_last}

document_only : (n : Option Node) → node_passes test.Document n ≡ true → n ≡ Some Document
document_only None h = cc
document_only (Some Document) h = refl
document_only (Some (Element name attrs decls first)) h = cc
document_only (Some (Chars text)) h = cc
document_only (Some (CData text)) h = cc
document_only (Some (Comment text)) h = cc
document_only (Some (Pi target text)) h = cc
document_only (Some (Attribute a)) h = cc

pub fits_document : FitsDocument
fits_document = λ g. (λ h. document_only (node_at g.path g.place) h, λ is. ap (node_passes test.Document) is)

-- the only step stands at the current node
only : (g : Setting) (s : PathStep) → steps_fit (s ∷ []) g None ≡ true → Stands g s None g.place
only g s h = only_at g s (leads_by g (s ∷ []) None h)
  where
    only_at : (g : Setting) (s : PathStep) → Leads g None (s ∷ []) (Some g.place) → Stands g s None g.place
    only_at g s (p, (stands, is)) = let same : p ≡ g.place = cc in subst (λ k. Stands g s None k) same stands

start_step : (g : Setting) (s : PathStep) → s.link ≡ link.Start → steps_fit (s ∷ []) g None ≡ step_fits s g g.place
start_step g s is =
    same_truth (steps_fit (s ∷ []) g None) (step_fits s g g.place)
    (λ h. (only g s h).fits)
    (λ h. fits_by g (s ∷ []) None (alone g s g.place h (ap (λ l. may_follow l None g.place) is)))

slash_step : (g : Setting) (s : PathStep) → s.link ≡ link.Slash → steps_fit (s ∷ []) g None ≡ (g.place == 1 && step_fits s g g.place)
slash_step g s is =
    same_truth (steps_fit (s ∷ []) g None) (g.place == 1 && step_fits s g g.place)
    (λ h.
    let o = only g s h in
    and_both (g.place == 1) (step_fits s g g.place) (subst (λ l. may_follow l None g.place ≡ true) is o.follows) o.fits)
    (λ h.
    let b = both (g.place == 1) (step_fits s g g.place) h in
    fits_by g (s ∷ []) None (alone g s g.place b.1 (subst (λ l. may_follow l None g.place ≡ true) (sym is) b.0)))

deep_step : (g : Setting) (s : PathStep) → s.link ≡ link.Deep → steps_fit (s ∷ []) g None ≡ (nat_lt 0 g.place && step_fits s g g.place)
deep_step g s is =
    same_truth (steps_fit (s ∷ []) g None) (nat_lt 0 g.place && step_fits s g g.place)
    (λ h.
    let o = only g s h in
    and_both (nat_lt 0 g.place) (step_fits s g g.place) (subst (λ l. may_follow l None g.place ≡ true) is o.follows) o.fits)
    (λ h.
    let b = both (nat_lt 0 g.place) (step_fits s g g.place) h in
    fits_by g (s ∷ []) None (alone g s g.place b.1 (subst (λ l. may_follow l None g.place ≡ true) (sym is) b.0)))

pub fits_by_step : FitsByStep
fits_by_step = λ g s. (start_step g s, slash_step g s, deep_step g s)

-- where steps lead doesn't depend on the current node
moved : (g : Setting) (a b : ℕ) (steps : List PathStep) (before after : Option ℕ) → Leads (at_place a g) before steps after → Leads (at_place b g) before steps after
moved g a b [] before after is = is
moved g a b (s ∷ steps) before after (p, (stands, rest)) = (p, (record { follows = stands.follows; fits = stands.fits }, moved g a b steps (Some p) after rest))

-- steps end at a place where they fit the node there
here : (g : Setting) (steps : List PathStep) (place : ℕ) → steps_fit steps (at_place place g) None ≡ true → EndsAt g steps place
here g steps place h = moved g place g.place steps None (Some place) (leads_by (at_place place g) steps None h)

there : (g : Setting) (steps : List PathStep) (place : ℕ) → EndsAt g steps place → steps_fit steps (at_place place g) None ≡ true
there g steps place ends = fits_by (at_place place g) steps None (moved g g.place place steps None (Some place) ends)

pub fits_by_parent : FitsByParent
fits_by_parent = λ g front s m some is next.
    same_truth (steps_fit (front ++ s ∷ []) g None) (step_fits s g g.place && steps_fit front (at_place m g) None)
    (λ h.
    let ends = leads_by g (front ++ s ∷ []) None h in
    let l = slash_last g front s g.place is some ends in
    let same : l.0 ≡ m = omega (arith, l.1.0) in
    and_both (step_fits s g g.place) (steps_fit front (at_place m g) None) (parts g None front s g.place ends).last.fits
    (there g front m (subst (λ k. EndsAt g front k) same l.1.1)))
    (λ h.
    let b = both (step_fits s g g.place) (steps_fit front (at_place m g) None) h in
    fits_by g (front ++ s ∷ []) None (slash_here g front s m g.place is b.0 next (here g front m b.1)))

pub fits_by_ancestor : FitsByAncestor
fits_by_ancestor = λ g front s some is. (
  λ h.
      let ends = leads_by g (front ++ s ∷ []) None h in
      let l = deep_last g front s g.place is some ends in
      ((parts g None front s g.place ends).last.fits, (l.0, (l.1.0, there g front l.0 l.1.1))),
  λ h. fits_by g (front ++ s ∷ []) None (deep_here g front s h.1.0 g.place is h.0 h.1.1.0 (here g front h.1.0 h.1.1.1)),
)
