-- Steps by their last one.
use Rattle.std.proofs.Common.{◌≡◌, ◌≢◌, ℕ, ◌+◌, ◌<◌, ◌≤◌, true, false, List, [], ◌∷◌, ◌++◌, Option, Some, None, refl, sym, subst, arith}
use Rattle.std.proofs.lemmas.Bool.{eqb-true, eq-eqb, ltb-true, lt-ltb}
use Rattle.stxpath_eval.specs.Setting.{Setting}
use Rattle.stxpath_syntax.specs.declared.expr.Link.{Link}
use Rattle.stxpath_syntax.specs.declared.expr.Link.TheVariants as link
use Rattle.stxpath_syntax.specs.declared.expr.PathStep.{PathStep}
use Rattle.match_patterns.specs.Fits.{may_follow, step_fits}
use Rattle.match_patterns.specs.Walk.{EndBefore, EndsAt, Leads, Stands}

-- the last step stands behind where those before it lead
pub record Parts (g : Setting) (before : Option ℕ) (steps : List PathStep) (s : PathStep) (q : ℕ) : Type 0 where
  pub mid : Option ℕ
  pub leads : Leads g before steps mid
  pub last : Stands g s mid q

pub parts : (g : Setting) (before : Option ℕ) (steps : List PathStep) (s : PathStep) (q : ℕ) → Leads g before (steps ++ s ∷ []) (Some q) → Parts g before steps s q
parts g before [] s q (p, (stands, is)) =
    let same : p ≡ q = cc in
    record { mid = before; leads = refl; last = subst (λ k. Stands g s before k) same stands }
parts g before (t ∷ steps) s q (p, (stands, rest)) =
    let others = parts g (Some p) steps s q rest in
    record { mid = others.mid; leads = (p, (stands, others.leads)); last = others.last }

pub joined : (g : Setting) (before mid : Option ℕ) (steps : List PathStep) (s : PathStep) (q : ℕ) → Leads g before steps mid → Stands g s mid q
    → Leads g before (steps ++ s ∷ []) (Some q)
joined g before mid [] s q is stands = (q, (subst (λ m. Stands g s m q) (sym is) stands, refl))
joined g before mid (t ∷ steps) s q (p, (here, rest)) stands = (p, (here, joined g (Some p) mid steps s q rest stands))

-- steps lead to some place
pub somewhere : (g : Setting) (p : ℕ) (steps : List PathStep) (mid : Option ℕ) → Leads g (Some p) steps mid → (m : ℕ) × (mid ≡ Some m)
somewhere g p [] mid is = (p, sym is)
somewhere g p (s ∷ steps) mid (q, (stands, rest)) = somewhere g q steps mid rest

pub record Before (g : Setting) (front : List PathStep) (s : PathStep) (q : ℕ) : Type 0 where
  pub m : ℕ
  pub ends : EndsAt g front m
  pub last : Stands g s (Some m) q

before_of : (g : Setting) (front : List PathStep) (s : PathStep) (q : ℕ) (mid : Option ℕ) → Leads g None front mid → Stands g s mid q
    → (m : ℕ) × (mid ≡ Some m) → Before g front s q
before_of g front s q mid leads last (m, is) =
    record { m = m; ends = subst (λ k. Leads g None front k) is leads; last = subst (λ k. Stands g s k q) is last }

-- those before the last step end at some place
pub before : (g : Setting) (front : List PathStep) (s : PathStep) (q : ℕ) → front ≢ [] → EndsAt g (front ++ s ∷ []) q → Before g front s q
before g [] s q some ends = absurd (some refl)
before g (t ∷ front) s q some ends =
    let all = parts g None (t ∷ front) s q ends in
    before_of g (t ∷ front) s q all.mid all.leads all.last (somewhere g all.leads.0 front all.mid all.leads.1.1)

-- The last step doesn't fit the place.
pub misfit : (g : Setting) (front : List PathStep) (s : PathStep) (q : ℕ) → step_fits s g q ≡ false → ¬ EndsAt g (front ++ s ∷ []) q
misfit g front s q not ends = let fits = (parts g None front s q ends).last.fits in cc

-- It is the only one.
pub alone : (g : Setting) (s : PathStep) (q : ℕ) → step_fits s g q ≡ true → may_follow s.link None q ≡ true → EndsAt g (s ∷ []) q
alone g s q fits follows = (q, (record { follows = follows; fits = fits }, refl))

pub alone_not : (g : Setting) (s : PathStep) (q : ℕ) → ¬ (may_follow s.link None q ≡ true) → ¬ EndsAt g (s ∷ []) q
alone_not g s q not (p, (stands, is)) = let same : p ≡ q = cc in not (subst (λ k. may_follow s.link None k ≡ true) same stands.follows)

abbrev follows_by : Link → ℕ → ℕ → Type 0
follows_by l m q = may_follow l (Some m) q ≡ true

-- Without a link it can't stand behind others.
pub unlinked : (g : Setting) (front : List PathStep) (s : PathStep) (q : ℕ) → s.link ≡ link.Start → front ≢ [] → ¬ EndsAt g (front ++ s ∷ []) q
unlinked g front s q is some ends =
    let b = before g front s q some ends in
    let never : follows_by link.Start b.m q = subst (λ l. follows_by l b.m q) is b.last.follows in cc

-- Behind a slash it stands at the next place.
pub slash_last : (g : Setting) (front : List PathStep) (s : PathStep) (q : ℕ) → s.link ≡ link.Slash → front ≢ [] → EndsAt g (front ++ s ∷ []) q
    → (m : ℕ) × ((q ≡ m + 1) × EndsAt g front m)
slash_last g front s q is some ends =
    let b = before g front s q some ends in
    let next : follows_by link.Slash b.m q = subst (λ l. follows_by l b.m q) is b.last.follows in
    (b.m, (eqb-true q (b.m + 1) next, b.ends))

pub slash_here : (g : Setting) (front : List PathStep) (s : PathStep) (m q : ℕ) → s.link ≡ link.Slash → step_fits s g q ≡ true → q ≡ m + 1 → EndsAt g front m
    → EndsAt g (front ++ s ∷ []) q
slash_here g front s m q is fits next ends =
    joined g None (Some m) front s q ends
    (record { follows = subst (λ l. follows_by l m q) (sym is) (eq-eqb q (m + 1) next); fits = fits })

pub slash_elsewhere : (g : Setting) (front : List PathStep) (s : PathStep) (m q : ℕ) → s.link ≡ link.Slash → front ≢ [] → q ≡ m + 1 → ¬ EndsAt g front m
    → ¬ EndsAt g (front ++ s ∷ []) q
slash_elsewhere g front s m q is some next not ends =
    let l = slash_last g front s q is some ends in
    let same : l.0 ≡ m = omega (arith, l.1.0) in
    not (subst (λ k. EndsAt g front k) same l.1.1)

pub slash_not_before : (g : Setting) (front : List PathStep) (s : PathStep) (m : ℕ) → s.link ≡ link.Slash → front ≢ [] → ((p : ℕ) → p ≤ m → ¬ EndsAt g front p)
    → (q : ℕ) → q ≤ m + 1 → ¬ EndsAt g (front ++ s ∷ []) q
slash_not_before g front s m is some none q within ends =
    let l = slash_last g front s q is some ends in none l.0 (omega (arith, l.1.0)) l.1.1

pub slash_not_first : (g : Setting) (front : List PathStep) (s : PathStep) → s.link ≡ link.Slash → front ≢ [] → (q : ℕ) → q ≤ 0 → ¬ EndsAt g (front ++ s ∷ []) q
slash_not_first g front s is some q within ends =
    let l = slash_last g front s q is some ends in absurd (omega (arith, l.1.0))

-- Behind two it stands at any later place.
pub deep_last : (g : Setting) (front : List PathStep) (s : PathStep) (q : ℕ) → s.link ≡ link.Deep → front ≢ [] → EndsAt g (front ++ s ∷ []) q
    → (m : ℕ) × ((m < q) × EndsAt g front m)
deep_last g front s q is some ends =
    let b = before g front s q some ends in
    let later : follows_by link.Deep b.m q = subst (λ l. follows_by l b.m q) is b.last.follows in
    (b.m, (ltb-true b.m q later, b.ends))

pub deep_here : (g : Setting) (front : List PathStep) (s : PathStep) (m q : ℕ) → s.link ≡ link.Deep → step_fits s g q ≡ true → m < q → EndsAt g front m
    → EndsAt g (front ++ s ∷ []) q
deep_here g front s m q is fits later ends =
    joined g None (Some m) front s q ends
    (record { follows = subst (λ l. follows_by l m q) (sym is) (lt-ltb m q later); fits = fits })

pub deep_not_before : (g : Setting) (front : List PathStep) (s : PathStep) (place : ℕ) → s.link ≡ link.Deep → front ≢ []
    → ¬ EndBefore g front place → (q : ℕ) → q ≤ place → ¬ EndsAt g (front ++ s ∷ []) q
deep_not_before g front s place is some none q within ends =
    let l = deep_last g front s q is some ends in none (l.0, (omega (arith, l.1.0), l.1.1))
