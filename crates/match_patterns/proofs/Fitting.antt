-- Steps that lead to the current node are steps that fit it.
use Rattle.std.proofs.Common.{◌≡◌, ℕ, ◌+◌, ◌<◌, ◌≤◌, Bool, true, ◌&&◌, List, [], ◌∷◌, Option, Some, None, ap, sym, subst, arith, zero-add}
use Rattle.std.proofs.lemmas.Bool.{eqb-true, eq-eqb, ltb-true}
use Rattle.std.specs.List.{range_with_len}
use Rattle.stxpath_eval.specs.Setting.{Setting}
use Rattle.stxpath_syntax.specs.declared.expr.Link.{Link}
use Rattle.stxpath_syntax.specs.declared.expr.Link.TheVariants as link
use Rattle.stxpath_syntax.specs.declared.expr.PathStep.{PathStep}
use Rattle.match_patterns.specs.Fits.{may_follow, step_fits, steps_fit}
use Rattle.match_patterns.specs.Walk.{EndsAt, Leads}
use Rattle.match_patterns.proofs.Bools.{and_both, any_in_range, any_some, both, same_truth}

abbrev turn : PathStep → List PathStep → Setting → Option ℕ → ℕ → Bool
turn s steps g before place = may_follow s.link before place && step_fits s g place && steps_fit steps g (Some place)

pub leads_by : (g : Setting) (steps : List PathStep) (before : Option ℕ) → steps_fit steps g before ≡ true → Leads g before steps (Some g.place)
leads_by g [] None h = cc
leads_by g [] (Some p) h = ap (λ k. Some k) (eqb-true p g.place h)
leads_by g (s ∷ steps) before h =
    let found = any_some (turn s steps g before) (range_with_len 0 (g.place + 1)) h in
    let outer = both (may_follow s.link before found.0 && step_fits s g found.0) (steps_fit steps g (Some found.0)) found.1 in
    let inner = both (may_follow s.link before found.0) (step_fits s g found.0) outer.0 in
    (found.0, (record { follows = inner.0; fits = inner.1 }, leads_by g steps (Some found.0) outer.1))

later : (l : Link) (p q : ℕ) → may_follow l (Some p) q ≡ true → p < q
later link.Start p q h = cc
later link.Slash p q h = omega (arith, eqb-true q (p + 1) h)
later link.Deep p q h = ltb-true p q h

-- places rise
rising : (g : Setting) (steps : List PathStep) (p q : ℕ) → Leads g (Some p) steps (Some q) → p ≤ q
rising g [] p q is = let same : p ≡ q = cc in omega arith
rising g (s ∷ steps) p q (m, (stands, rest)) = omega (arith, later s.link p m stands.follows, rising g steps m q rest)

pub fits_by : (g : Setting) (steps : List PathStep) (before : Option ℕ) → Leads g before steps (Some g.place) → steps_fit steps g before ≡ true
fits_by g [] None is = cc
fits_by g [] (Some p) is = let same : p ≡ g.place = cc in eq-eqb p g.place same
fits_by g (s ∷ steps) before (p, (stands, rest)) =
    any_in_range (turn s steps g before) 0 (g.place + 1) p (omega (arith, rising g steps p g.place rest))
    (subst (λ k. turn s steps g before k ≡ true) (sym (zero-add p))
    (and_both (may_follow s.link before p && step_fits s g p) (steps_fit steps g (Some p)) (and_both (may_follow s.link before p) (step_fits s g p) stands.follows stands.fits)
    (fits_by g steps (Some p) rest)))

pub fits_where : (g : Setting) (steps : List PathStep) (b : Bool) → (b ≡ true → EndsAt g steps g.place) → (EndsAt g steps g.place → b ≡ true) → b ≡ steps_fit steps g None
fits_where g steps b here back =
    same_truth b (steps_fit steps g None) (λ h. fits_by g steps None (here h)) (λ h. back (leads_by g steps None h))
