use Rattle.std.proofs.Common.{◌≡◌, ◌<◌, ◌++◌, ap, sym, subst, ◌∙◌, get_or, length}
use Rattle.group_scope.specs.Filling.{entries_of}
use Rattle.group_scope.proofs.Gathering.{template_more}
use Rattle.group_scope.proofs.scope.entries_of.Goals as goal

pub loop-index-preserved : goal.loop-index-preserved
loop-index-preserved c =
    let sheet = c.args.sheet.now in
    let i = c.loop-index.index in
    let t = c.template-item.result in
    let same = c.as_slice-template-items.ensures in
    let within = subst (λ l. i < length l) same c.loop-index-test.true in
    let at = subst (λ l. t ≡ get_or l i t) same c.template-item.is in
    c.in_ok-push_entries.ensures ∙ ap (λ l. l ++ entries_of i t) c.loop-index.invariant ∙ sym (template_more sheet.templates i t within at)
