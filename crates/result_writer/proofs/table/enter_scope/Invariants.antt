use Rattle.std.proofs.Common.{◌≡◌, drop}
use Rattle.result_writer.specs.Table.{with_scope}
use Rattle.result_writer.proofs.table.enter_scope.Given as goal

-- the bindings that are left make of the table what all make of the first one
abbrev pub invariant-loop-binding : goal.invariant-loop-binding
invariant-loop-binding l = with_scope l.table (drop l.binding-index l.scope) ≡ with_scope l.fn.table l.scope
