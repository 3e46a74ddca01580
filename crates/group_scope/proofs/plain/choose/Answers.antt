use Rattle.std.proofs.Common.{◌≡◌, ◌<◌, None, length, get_or, take, filter, ap, sym, subst, ◌∙◌}
use Rattle.std.proofs.lemmas.List.Elements.{Contains-get_or}
use Rattle.node_stack.specs.Stack.{path}
use Rattle.stxpath_syntax.specs.Readable.{IsReadablePattern}
use Rattle.stxpath_syntax.proofs.Evaluable.{readable_alternative}
use Rattle.sheet_model.specs.declared.sheet.Template.{Template}
use Rattle.group_scope.specs.Choice.{category, fitting, is_free, seen_by, settings, all_from}
use Rattle.group_scope.specs.Rank.{improved}
use Rattle.group_scope.proofs.Turns.{template_more, when_active, when_free}
use Rattle.group_scope.proofs.plain.choose.Goals as goal
use Rattle.group_scope.proofs.plain.choose.Goals.{in-Some+in_ok-best, in_default}

pub best_with-requires-clause-predicates : goal.best_with-requires-clause-predicates
best_with-requires-clause-predicates g c = λ k d h.
    let i = c.loop-index.index in
    let t = c.template-item.result in
    let same = c.as_slice-template-items.ensures in
    let within = subst (λ l. i < length l) same c.loop-index-test.true in
    let at = subst (λ l. t ≡ get_or l i t) same c.template-item.is in
    let readable = subst (λ (u : Template). IsReadablePattern u.pattern.alternatives) (sym at) (c.requires.readable.templates i t within).0 in
    readable_alternative (get_or t.pattern.alternatives k d) (t.pattern.alternatives, readable, Contains-get_or t.pattern.alternatives k d h)

pub loop-index-preserved-then-is_active : goal.loop-index-preserved-then-is_active
loop-index-preserved-then-is_active g c =
    let s = settings (g.G.GroupVars.seen c.args.vars.now) c.args.limits.now (path c.args.stack.now) in
    let active = c.args.active.now in
    let sheet = c.args.sheet.now in
    let i = c.loop-index.index in
    let t = c.template-item.result in
    let same = c.as_slice-template-items.ensures in
    let within = subst (λ l. i < length l) same c.loop-index-test.true in
    let at = subst (λ l. t ≡ get_or l i t) same c.template-item.is in
    let before = improved None (fitting s (filter (is_free active) (all_from (category sheet c.args.base) 0 (take i sheet.templates)))) in
    let none = when_active active i t (category sheet c.args.base t) (sym c.is_active.ensures ∙ c.if-is_active.true) in
    c.loop-index.invariant
    ∙ sym (template_more s active sheet c.args.base sheet.templates i t within at ∙ ap (λ l. improved before (fitting s l)) none)

pub loop-index-preserved : goal.loop-index-preserved
loop-index-preserved g c =
    let s = settings (g.G.GroupVars.seen c.args.vars.now) c.args.limits.now (path c.args.stack.now) in
    let active = c.args.active.now in
    let sheet = c.args.sheet.now in
    let i = c.loop-index.index in
    let t = c.template-item.result in
    let same = c.as_slice-template-items.ensures in
    let within = subst (λ l. i < length l) same c.loop-index-test.true in
    let at = subst (λ l. t ≡ get_or l i t) same c.template-item.is in
    let before = improved None (fitting s (filter (is_free active) (all_from (category sheet c.args.base) 0 (take i sheet.templates)))) in
    let free = when_free active i t (category sheet c.args.base t) (sym c.is_active.ensures ∙ c.if-is_active.false) in
    let all = sym (template_more s active sheet c.args.base sheet.templates i t within at ∙ ap (λ l. improved before (fitting s l)) free) in
    elim c.match-category.branch [
      | in-Some+in_ok-best w ↦
          w.best-is ∙ w.in_ok-best.ensures ∙ ap (λ o. improved c.loop-index.best (fitting s (seen_by i t o))) w.in-Some.ensures
          ∙ ap (λ b. improved b (fitting s (seen_by i t (category sheet c.args.base t)))) c.loop-index.invariant ∙ all
      | in_default w ↦ w.best-is ∙ c.loop-index.invariant ∙ ap (λ o. improved before (fitting s (seen_by i t o))) w.in_default.ensures ∙ all
    ]
