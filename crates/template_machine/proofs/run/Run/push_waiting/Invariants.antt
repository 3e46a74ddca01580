use Rattle.std.proofs.Common.{◌≡◌, ◌++◌}
use Rattle.std.specs.Vec.Iter.{into_iter_items}
use Rattle.template_machine.specs.Working.{PushesWaiting}
use Rattle.template_machine.proofs.run.Run.push_waiting.Given as goal

abbrev pub invariant-loop-value : goal.invariant-loop-value
invariant-loop-value l = PushesWaiting l.yielded l.body l.initial.self l.self × (l.yielded ++ into_iter_items l.value-iterator ≡ l.fn.values)
