use Rattle.std.proofs.Common.{◌≡◌, ◌<◌, ℕ, Some, false}
use Rattle.std.specs.Prelude.{slice_get}
use Rattle.template_machine.specs.Seen.{bounds_of}
use Rattle.var_store.specs.Variables.{is_called}
use Rattle.var_store.specs.declared.bound.Bound.{Bound}
use Rattle.template_machine.proofs.vars.first_called.Given as goal

-- none so far has the name
abbrev pub invariant-loop-index : goal.invariant-loop-index
invariant-loop-index l = (k : ℕ) → k < l.index → (b : Bound) → slice_get (bounds_of l.locals) k ≡ Some b → is_called l.name b ≡ false
