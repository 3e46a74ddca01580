use Rattle.std.proofs.Common.{◌≡◌, ℕ, ◌==◌, true, false, List, [], ◌∷◌, get_or, refl, sym, ap, ◌∙◌}
use Rattle.std.specs.Prelude.{codes}
use Rattle.stx_engine.proofs.Matching.{shapes_match}
use Rattle.stx_engine.proofs.law.lone_ends.Goals as goal

apart : (xs ys : List (List ℕ)) → codes "b" ∷ xs ≡ codes "a" ∷ ys → ⊥
apart xs ys e = let same : true ≡ false = ap (λ (names : List (List ℕ)). get_or (get_or names 0 []) 0 0 == 98) e in cc

pub returns-clause-alone : goal.returns-clause-alone
returns-clause-alone c = λ h.
    let m = shapes_match (codes "</a>") (codes "</a>" ∷ []) [] ([], refl, refl, (refl, refl)) h in
    let none = m.1 in
    cc

pub returns-clause-twice : goal.returns-clause-twice
returns-clause-twice c = λ h.
    let m = shapes_match (codes "<a></a></a>") (codes "<a>" ∷ codes "</a>" ∷ codes "</a>" ∷ []) [] (codes "</a></a>", refl, refl, (codes "</a>", refl, refl, ([], refl, refl, (refl, refl)))) h in
    let first = m.1 in
    let second = m.2.1 in
    let none = m.2.2.1 in
    cc

pub returns-clause-empty : goal.returns-clause-empty
returns-clause-empty c = λ h.
    let m = shapes_match (codes "<a/></a>") (codes "<a/>" ∷ codes "</a>" ∷ []) [] (codes "</a>", refl, refl, ([], refl, refl, (refl, refl))) h in
    let first = m.1 in
    let none = m.2.1 in
    cc

pub returns-clause-other : goal.returns-clause-other
returns-clause-other c = λ h.
    let m = shapes_match (codes "<a><b></a>") (codes "<a>" ∷ codes "<b>" ∷ codes "</a>" ∷ []) [] (codes "<b></a>", refl, refl, (codes "</a>", refl, refl, ([], refl, refl, (refl, refl)))) h in
    apart m.0 m.2.2.0 (sym m.2.1 ∙ m.2.2.1)

pub returns-clause-longer : goal.returns-clause-longer
returns-clause-longer c = λ h.
    let m = shapes_match (codes "<a></ab>") (codes "<a>" ∷ codes "</ab>" ∷ []) [] (codes "</ab>", refl, refl, ([], refl, refl, (refl, refl))) h in
    let first = m.1 in
    let none = m.2.1 in
    cc

pub returns-clause-none : goal.returns-clause-none
returns-clause-none c = (
  codes "<a b='</c>'>" ∷ codes "<!--</c>-->" ∷ codes "</a>" ∷ [],
  codes "</c",
  (codes "<!--</c>--></a></c", refl, refl, (codes "</a></c", refl, refl, (codes "</c", refl, refl, (refl, refl)))),
  (codes "a" ∷ [], refl, (codes "a" ∷ [], refl, ([], refl, tt))),
)
