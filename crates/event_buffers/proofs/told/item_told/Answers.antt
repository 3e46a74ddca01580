use Rattle.std.proofs.Common.{◌+◌, ◌∷◌, ◌++◌, drop, sym, ap, ◌∙◌}
use Rattle.event_buffers.specs.Told.{told}
use Rattle.event_buffers.proofs.Joining.{told_end, told_item}
use Rattle.event_buffers.proofs.told.item_told.Goals as goal

pub returns-in-None : goal.returns-in-None
returns-in-None c = told_end (c.args.declared.now ++ c.args.own.now) c.args.place (sym c.in-None.ensures.item)

pub returns-in_ok-event-in-Some : goal.returns-in_ok-event-in-Some
returns-in_ok-event-in-Some c =
    let ks = c.args.declared.now ++ c.args.own.now in
    told_item ks c.args.place c.in-Some.item.now c.requires.text (sym c.in-Some.ensures.item)
    ∙ ap (λ e. e ∷ told (drop (c.args.place + 1) ks)) (sym c.in_ok-event-in-Some.ensures)
