use Rattle.std.proofs.Common.{◌≡◌, ◌++◌, take, drop}
use Rattle.stx_base.specs.declared.name.Binding.{Binding}
use Rattle.result_writer.specs.Table.{placed}
use Rattle.template_machine.proofs.scope.place.Given as goal

-- the binding belongs behind those so far
abbrev pub invariant-loop-at : goal.invariant-loop-at
invariant-loop-at l =
    (b : Binding) → b.prefix ≡ l.prefix → placed b l.sorted ≡ take l.at l.sorted ++ placed b (drop l.at l.sorted)
