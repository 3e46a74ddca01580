use Rattle.std.proofs.Common.{◌≡◌, ◌++◌, drop, sym, ap, subst, ◌∙◌}
use Rattle.std.specs.Prelude.{IfOk}
use Rattle.std.specs.Option.{option_copied}
use Rattle.stx_base.specs.declared.node.First.{First}
use Rattle.event_buffers.specs.Told.{first_in, first_of, told}
use Rattle.event_buffers.proofs.Joining.{first_told, no_text_stands, text_stands}
use Rattle.event_buffers.proofs.told.first_at.Goals as goal

pub returns-then-not-is_empty : goal.returns-then-not-is_empty
returns-then-not-is_empty c =
    let ks = c.args.declared.now ++ c.args.own.now in
    sym (ap first_in (text_stands ks c.args.place c.in_ok-text.next c.in_ok-text.text c.is_empty.result c.is_empty.ensures c.if-not-is_empty.true
    c.in_ok-text.ensures.joined c.in_ok-text.ensures.behind))

pub returns : goal.returns
returns c =
    let ks = c.args.declared.now ++ c.args.own.now in
    let same : first_in (told (drop c.args.place ks)) ≡ first_of (option_copied c.item.result) =
    ap first_in (no_text_stands ks c.args.place c.in_ok-text.next c.in_ok-text.text c.is_empty.result c.is_empty.ensures c.if-not-is_empty.false c.in_ok-text.ensures.joined)
    ∙ first_told ks c.in_ok-text.next c.in_ok-text.ensures.behind ∙ ap first_of (sym c.item.ensures.item) in
    subst (λ (x : First). IfOk c.first_of.result (λ first. first ≡ x)) (sym same) c.first_of.ensures
