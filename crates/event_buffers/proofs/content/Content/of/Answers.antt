use Rattle.std.proofs.Common.{◌≡◌, ◌<◌, List, get_or, length, sym, ap, subst, ◌∙◌}
use Rattle.stx_base.specs.declared.part.Part.{Part}
use Rattle.event_buffers.proofs.Contents.{next_kept}
use Rattle.event_buffers.proofs.content.Content.of.Goals as goal

pub loop-part-preserved : goal.loop-part-preserved
loop-part-preserved c =
    let ps = c.args.parts.now in
    let place = c.loop-part.part-index in
    let p = c.in_ok-part.part in
    let same : p ≡ c.part-item.result = c.in_ok-part.ensures in
    let is : p ≡ get_or ps place p =
    same ∙ c.part-item.is ∙ ap (λ (l : List Part). get_or l place c.part-item.result) c.as_slice-part-items.ensures ∙ ap (get_or ps place) (sym same) in
    let lt : place < length ps = subst (λ (l : List Part). place < length l) c.as_slice-part-items.ensures c.loop-part-test.true in
    next_kept ps place c.loop-part.kept.items c.keep.new.items.items c.loop-part.target c.keep.new.target p lt is c.loop-part.invariant
    c.in_ok-keep.ensures.ok c.in_ok-keep.ensures.left
