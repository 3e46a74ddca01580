use Rattle.std.proofs.Common.{◌≡◌, ◌++◌, drop, filter, not}
use Rattle.result_writer.specs.Table.{has_prefix}
use Rattle.template_machine.proofs.scope.scope_within.Given as goal

-- those that are kept, and those that are left and will be
abbrev pub invariant-loop-binding : goal.invariant-loop-binding
invariant-loop-binding l =
    l.within.items ++ filter (λ b. not (has_prefix l.decls b.prefix)) (drop l.binding-index l.scope)
    ≡ filter (λ b. not (has_prefix l.decls b.prefix)) l.scope
