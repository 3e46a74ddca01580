use Rattle.std.proofs.Common.{◌≡◌, get_or, sym, ap, ◌∙◌}
use Rattle.std.proofs.Math.ListN.{set}
use Rattle.var_store.proofs.Finding.{at_slot, replaced, revalued}
use Rattle.var_store.proofs.variables.Variables.assign.Goals as goal

pub returns-clause-ok : goal.returns-clause-ok
returns-clause-ok c =
    let d = c.index_mut-bound.result.now in
    let i = c.in-Some.slot in
    let at = at_slot c.args.name.now c.args.self.now i (sym c.in-Some.ensures.value) in
    let got : get_or c.args.self.now i d ≡ d = ap (λ xs. get_or xs i d) (sym c.self.view_is) ∙ sym c.index_mut-bound.ensures.value in
    ap (λ xs. set xs i (revalued c.args.value d)) c.self.view_is
    ∙ ap (λ b. set c.args.self.now i (revalued c.args.value b)) (sym got)
    ∙ sym (replaced c.args.name.now c.args.value c.args.self.now d i at.0 at.1)
