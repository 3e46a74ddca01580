use Rattle.std.proofs.Common.{◌≡◌, List, Some, drop, sym, ap, subst, ◌∙◌}
use Rattle.std.specs.Prelude.{IfOk, position}
use Rattle.event_buffers.specs.Buffers.{Buffer, held_by, is_read, read}
use Rattle.event_buffers.specs.Layer.{contents}
use Rattle.event_buffers.specs.Told.{IsToldAt, told}
use Rattle.event_buffers.specs.declared.kept.Kept.{Kept}
use Rattle.event_buffers.proofs.Copies.{found_at, found_nowhere}
use Rattle.event_buffers.proofs.Joining.{nothing_told}
use Rattle.event_buffers.proofs.buffer.Buffer.event.Goals as goal

pub returns-in-Some : goal.returns-in-Some
returns-in-Some c =
    let b = c.self.inside in
    let same : held_by c.args.self.now.declared (read c.args.self.now.copies) ≡ contents b.declared c.index.result.now =
    ap (λ (x : Buffer). held_by x.declared (read x.copies)) (sym c.self.view_is)
    ∙ ap (held_by b.declared) (found_at is_read b.copies.items c.in-Some.copy c.index.result.now
    (ap (λ (x : Buffer). position is_read x.copies) c.self.view_is ∙ sym c.in-Some.ensures) ∙ ap (λ x. Some x) (sym c.index.ensures)) in
    subst (λ (ks : List Kept). IfOk c.event.result (IsToldAt ks c.args.place)) (sym same) c.event.ensures

pub returns-in-None : goal.returns-in-None
returns-in-None c =
    ap (λ o. told (drop c.args.place (held_by c.args.self.now.declared o))) (found_nowhere is_read c.args.self.now.copies (sym c.in-None.ensures))
    ∙ nothing_told c.args.place
