use Rattle.std.proofs.Common.{◌≡◌, drop, filter, not}
use Rattle.result_writer.specs.Allowed.{is_empty}
use Rattle.result_writer.specs.Table.{in_order}
use Rattle.template_machine.proofs.scope.enter_all.Given as goal

-- those that are left make of those so far what all make
abbrev pub invariant-loop-binding : goal.invariant-loop-binding
invariant-loop-binding l =
    in_order l.within.items (filter (λ b. not (is_empty b.uri)) (drop l.binding-index l.decls))
    ≡ in_order l.initial.within.items (filter (λ b. not (is_empty b.uri)) l.decls)
