use Rattle.std.proofs.Common.{◌≡◌, ◌∷◌, ◌++◌, drop, map, take, sym, ap, ◌∙◌}
use Rattle.std.proofs.Math.ListN.{set}
use Rattle.event_buffers.specs.Buffers.{in_group, taken_off}
use Rattle.event_buffers.specs.Layer.{laid}
use Rattle.event_buffers.proofs.Copies.{all_undone, laid_and_taken, step, when_err, when_ok}
use Rattle.event_buffers.proofs.buffers.lay.Goals as goal

pub loop-place-preserved : goal.loop-place-preserved
loop-place-preserved c =
    step (in_group (λ copies. laid ∷ copies) c.args.group) c.args.buffers.now c.loop-place.buffers c.loop-place.place c.index-buffers-place.result c.lay.new.self
    c.loop-place-test.true c.loop-place.invariant c.index-buffers-place.is
    (when_ok c.lay.result _ (sym c.is_err.ensures.value ∙ c.if-is_err.false) c.lay.ensures.ok
    ∙ ap (in_group (λ copies. laid ∷ copies) c.args.group) (sym c.index-buffers-place.is))

pub returns-then-is_err-clause-err : goal.returns-then-is_err-clause-err
returns-then-is_err-clause-err c =
    let place = c.loop-place.place in
    let xs = c.loop-place.buffers in
    let same : c.lay.new.self ≡ c.index-buffers-place.result = when_err c.lay.result _ (sym c.is_err.ensures.value ∙ c.if-is_err.true) c.lay.ensures.err ∙ sym c.index-buffers-place.is in
    ap (λ l. l ++ drop place (set xs place c.lay.new.self)) c.take_off.ensures
    ∙ ap (λ b. map (in_group taken_off c.args.group) (take place (set xs place b)) ++ drop place (set xs place b)) same
    ∙ all_undone (in_group (λ copies. laid ∷ copies) c.args.group) (in_group taken_off c.args.group) (laid_and_taken c.args.group)
    c.args.buffers.now xs place c.index-buffers-place.result c.loop-place-test.true c.loop-place.invariant c.index-buffers-place.is
