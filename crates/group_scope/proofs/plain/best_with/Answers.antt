use Rattle.std.proofs.Common.{◌≡◌, ◌<◌, [], ◌∷◌, Some, length, get_or, ap, sym, subst, ◌∙◌}
use Rattle.node_stack.specs.Stack.{path}
use Rattle.group_scope.specs.Choice.{fitting, settings}
use Rattle.group_scope.specs.Rank.{better_of, improved}
use Rattle.group_scope.proofs.Turns.{alternative_more, candidate, fits_none, fits_one}
use Rattle.group_scope.proofs.plain.best_with.Goals as goal
use Rattle.group_scope.proofs.plain.best_with.Goals.{then-branch, else-branch}

pub loop-place-preserved : goal.loop-place-preserved
loop-place-preserved g c =
    let s = settings (g.G.GroupVars.seen c.args.vars.now) c.args.limits.now (path c.args.stack.now) in
    let t = c.args.template.now in
    let i = c.loop-place.place in
    let a = c.alternative-item.result in
    let same = c.as_slice-alternative-items.ensures in
    let within = subst (λ l. i < length l) same c.loop-place-test.true in
    let at = subst (λ l. a ≡ get_or l i a) same c.alternative-item.is in
    let one = candidate c.args.number t c.args.category i a in
    let more = alternative_more s c.args.best c.args.number t c.args.category t.pattern.alternatives i a within at in
    let so_far = ap (λ b. improved b (fitting s (one ∷ []))) c.loop-place.invariant in
    elim c.if-branch.branch [
      | then-branch w ↦
          w.best-is
          ∙ ap (λ r. Some r) (w.better_of.ensures ∙ ap (better_of c.loop-place.best) w.rank_of-rank.ensures)
          ∙ sym (fits_one s c.loop-place.best one (sym c.in_ok-matches.ensures ∙ w.if-branch.true)) ∙ so_far ∙ sym more
      | else-branch w ↦ w.best-is ∙ sym (fits_none s c.loop-place.best one (sym c.in_ok-matches.ensures ∙ w.if-branch.false)) ∙ so_far ∙ sym more
    ]
