use Rattle.std.proofs.Common.{◌∙◌, sym, ap, refl, ◌++◌, ◌∷◌, [], arith}
use Rattle.std.proofs.lemmas.List.{append-nil}
use Rattle.xml_names.specs.inside.Scopes.{parted, total}
use Rattle.xml_names.proofs.Paths.{parted-more, total-more}
use Rattle.xml_names.proofs.scopes.Scopes.declare_nothing.Goals as goal

pub returns-clause-ok : goal.returns-clause-ok
returns-clause-ok c =
    let ns = c.self.inside.counts in
    let bs = c.self.inside.in_force in
    ap (λ ms. parted ms bs) c.in_ok-push.ensures.ok
    ∙ ap (parted (ns ++ 0 ∷ [])) (sym (append-nil bs))
    ∙ parted-more ns 0 bs [] c.self.invariant.counted refl
    ∙ ap (λ l. l ++ [] ∷ []) c.self.view_is

pub invariant_of-self-2 : goal.invariant_of-self-2
invariant_of-self-2 c =
    let more = ap total c.in_ok-push.ensures.ok ∙ total-more c.self.inside.counts 0 in
    record { counted = omega (arith, more, c.self.invariant.counted) }
