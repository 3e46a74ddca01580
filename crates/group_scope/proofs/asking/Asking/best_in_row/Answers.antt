use Rattle.std.proofs.Common.{false, Some, get_or, ap, sym, ◌∙◌}
use Rattle.std.specs.Prelude.{pos}
use Rattle.node_stack.specs.Stack.{path}
use Rattle.group_scope.specs.Asking.{is_better_than_best, question}
use Rattle.group_scope.specs.declared.entry.Entry.{Entry}
use Rattle.group_scope.proofs.Among.{item_again}
use Rattle.group_scope.proofs.Scanning.{found, stopped}
use Rattle.group_scope.proofs.asking.Asking.best_in_row.Goals as goal

-- what stands where a row has no entry
abbrev no_entry : Entry
no_entry = record { priority = pos 0; template = 0; alternative = 0; by_test = false }

pub returns-then-not-is_better_than_best : goal.returns-then-not-is_better_than_best
returns-then-not-is_better_than_best g c =
    let a = c.args.self.now in
    let q = question a.sheet.now a.active.now (g.G.GroupVars.seen a.vars.now) a.limits.now (path a.stack.now) in
    let row = c.args.row.now in
    let i = c.loop-entry.entry-index in
    let h = c.loop-entry-test.true in
    let worse = ap (λ r. is_better_than_best r c.args.best) (sym c.ranked-rank.ensures) ∙ sym c.is_better_than_best.ensures ∙ c.if-not-is_better_than_best.true in
    stopped q c.args.category row i (get_or row i no_entry) c.args.best c.requires.ordered c.loop-entry.invariant h (item_again row i no_entry h) worse

pub returns-then-branch : goal.returns-then-branch
returns-then-branch g c =
    let a = c.args.self.now in
    let q = question a.sheet.now a.active.now (g.G.GroupVars.seen a.vars.now) a.limits.now (path a.stack.now) in
    let row = c.args.row.now in
    let i = c.loop-entry.entry-index in
    let h = c.loop-entry-test.true in
    let better = ap (λ r. is_better_than_best r c.args.best) (sym c.ranked-rank.ensures) ∙ sym c.is_better_than_best.ensures ∙ c.if-not-is_better_than_best.false in
    let can = sym c.in_ok-can_be.ensures ∙ c.if-branch.true in
    ap (λ r. Some r) c.ranked-rank.ensures
    ∙ found q c.args.category row i (get_or row i no_entry) c.args.best c.requires.ordered c.loop-entry.invariant h (item_again row i no_entry h) better can
