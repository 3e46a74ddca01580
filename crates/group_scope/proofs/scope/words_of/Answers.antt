use Rattle.std.proofs.Common.{◌≡◌, ◌<◌, get_or, length, subst}
use Rattle.group_scope.proofs.Numbering.{template_more}
use Rattle.group_scope.proofs.scope.words_of.Goals as goal

pub loop-template-preserved : goal.loop-template-preserved
loop-template-preserved c =
    let i = c.loop-template.template-index in
    let t = c.template-item.result in
    let same = c.as_slice-template-items.ensures in
    let within = subst (λ l. i < length l) same c.loop-template-test.true in
    let at = subst (λ l. t ≡ get_or l i t) same c.template-item.is in
    template_more c.loop-template.words c.note_template.new.words c.args.sheet.now.templates i t within at c.in_ok-note_template.ensures.kept c.loop-template.invariant c.in_ok-note_template.ensures.numbered
