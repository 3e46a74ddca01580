use Rattle.std.proofs.Common.{◌++◌}
use Rattle.event_buffers.proofs.Joining.{no_text_stands, text_stands, told_from}
use Rattle.event_buffers.proofs.told.told_at.Goals as goal

pub returns-then-not-is_empty : goal.returns-then-not-is_empty
returns-then-not-is_empty c =
    let ks = c.args.declared.now ++ c.args.own.now in
    text_stands ks c.args.place c.in_ok-text.next c.in_ok-text.text c.is_empty.result c.is_empty.ensures c.if-not-is_empty.true
    c.in_ok-text.ensures.joined c.in_ok-text.ensures.behind

pub returns : goal.returns
returns c =
    let ks = c.args.declared.now ++ c.args.own.now in
    told_from ks c.args.place c.in_ok-text.next
    (no_text_stands ks c.args.place c.in_ok-text.next c.in_ok-text.text c.is_empty.result c.is_empty.ensures c.if-not-is_empty.false c.in_ok-text.ensures.joined)
    c.item_told.result c.item_told.ensures
