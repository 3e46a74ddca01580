use Rattle.run_engine.proofs.Pumping.{emptied-at}
use Rattle.run_engine.proofs.engine.Engine.new.Goals as goal

pub invariant_of-result : goal.invariant_of-result
invariant_of-result c =
    let core = c.in_ok-new.field-0 in (c.in_ok-new.ensures.sound, emptied-at core.stage _ (c.new-2.ensures.items, c.new-3.ensures.items, c.in_ok-new.ensures.bytes, c.in_ok-new.ensures.notes))

pub returns : goal.returns
returns c = c.in_ok-new.ensures.run
