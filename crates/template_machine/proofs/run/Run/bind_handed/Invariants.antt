use Rattle.std.proofs.Common.{◌≤◌, drop, length, take}
use Rattle.template_machine.specs.Made.{BindsParams}
use Rattle.template_machine.specs.Parameters.{CanBind, HasBound, named_values}
use Rattle.template_machine.proofs.run.Run.bind_handed.Given as goal

-- the parameters so far are locals, as the definition binds them
abbrev pub invariant-loop-param : goal.invariant-loop-param
invariant-loop-param l = record {
  binds : BindsParams (take l.param-index l.params) l.initial.self l.self;
  takes : length l.names ≤ length l.values → CanBind l.program l.params l.initial.self → HasBound l.program l.params (drop l.param-index l.params) (λ given. named_values l.names l.values) l.initial.self l.self;
}
