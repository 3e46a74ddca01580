use Rattle.std.proofs.Common.{◌∙◌, sym, ap, length, take, ◌-◌, arith}
use Rattle.std.proofs.lemmas.List.{length-take}
use Rattle.xml_names.specs.inside.Scopes.{parted, total}
use Rattle.xml_names.proofs.Paths.{parted-less, total-more}
use Rattle.xml_names.proofs.scopes.Scopes.leave.Goals as goal

pub returns-in-Some : goal.returns-in-Some
returns-in-Some c =
    let ns = c.pop.new.self in
    let n = c.in-Some.count in
    let bs = c.self.inside.in_force in
    ap (parted ns) (c.truncate.ensures ∙ ap (λ k. take (k - n) bs) c.len.ensures)
    ∙ parted-less ns n bs (ap total (sym c.in-Some.ensures) ∙ c.self.invariant.counted)
    ∙ ap (λ ms. take (length (parted ms bs) - 1) (parted ms bs)) (sym c.in-Some.ensures)
    ∙ ap (λ l. take (length l - 1) l) c.self.view_is

pub overflow_sub-len : goal.overflow_sub-len
overflow_sub-len c =
    let all = ap total (sym c.in-Some.ensures) ∙ c.self.invariant.counted in
    omega (arith, total-more c.pop.new.self c.in-Some.count, all, c.len.ensures)

pub invariant_of-self : goal.invariant_of-self
invariant_of-self c =
    let bs = c.self.inside.in_force in
    let n = c.in-Some.count in
    let all = ap total (sym c.in-Some.ensures) ∙ c.self.invariant.counted in
    let short = ap length (c.truncate.ensures ∙ ap (λ k. take (k - n) bs) c.len.ensures) in
    record { counted = omega (arith, total-more c.pop.new.self n, all, short, length-take (length bs - n) bs) }
