use Rattle.std.proofs.Common.{◌+◌, ◌++◌, drop, sym, ap, ◌∙◌}
use Rattle.event_buffers.specs.Told.{text_before, told}
use Rattle.event_buffers.proofs.Joining.{text_twice, told_text}
use Rattle.event_buffers.proofs.told.joined_text.Goals as goal

pub loop-more-preserved : goal.loop-more-preserved
loop-more-preserved c =
    let ks = c.args.declared.now ++ c.args.own.now in
    let joined = c.loop-more.joined in
    let more = c.in-Some.more.now in
    c.loop-more.invariant
    ∙ ap (text_before joined) (told_text ks c.loop-more.next more (sym c.in-Some.ensures.text))
    ∙ text_twice joined more (told (drop (c.loop-more.next + 1) ks))
    ∙ ap (λ t. text_before t (told (drop (c.loop-more.next + 1) ks))) (sym (c.in_ok-push_str.ensures.ok ∙ ap (λ l. joined ++ l) c.as_str.ensures.chars))
