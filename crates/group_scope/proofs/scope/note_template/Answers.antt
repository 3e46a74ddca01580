use Rattle.std.proofs.Common.{◌≡◌, ◌<◌, get_or, length, subst}
use Rattle.group_scope.proofs.Numbering.{alternative_more}
use Rattle.group_scope.proofs.scope.note_template.Goals as goal

pub loop-alternative-preserved : goal.loop-alternative-preserved
loop-alternative-preserved c =
    let i = c.loop-alternative.alternative-index in
    let a = c.alternative-item.result in
    let same = c.as_slice-alternative-items.ensures in
    let within = subst (λ l. i < length l) same c.loop-alternative-test.true in
    let at = subst (λ l. a ≡ get_or l i a) same c.alternative-item.is in (
      alternative_more c.loop-alternative.words c.note.new.words c.args.template.now.pattern.alternatives i a within at c.in_ok-note.ensures.kept c.loop-alternative.invariant.0
          c.in_ok-note.ensures.numbered,
      λ text h. c.in_ok-note.ensures.kept text (c.loop-alternative.invariant.1 text h),
    )
