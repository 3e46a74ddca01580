use Rattle.std.proofs.Common.{drop, take}
use Rattle.template_machine.specs.Made.{BindsParams}
use Rattle.template_machine.specs.Parameters.{CanBind, HasBound, handed_by}
use Rattle.template_machine.proofs.run.Run.bind_waiting.Given as goal

-- the parameters so far are locals, as the definition binds them
abbrev pub invariant-loop-param : goal.invariant-loop-param
invariant-loop-param l = record {
  binds : BindsParams (take l.param-index l.params) l.initial.self l.self;
  takes : CanBind l.program l.params l.initial.self → HasBound l.program l.params (drop l.param-index l.params) (λ given. handed_by given l.program l.initial.self l.asker) l.initial.self l.self;
}
