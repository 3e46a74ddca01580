use Rattle.std.proofs.Common.{◌≡◌, [], ◌∷◌, replicate}
use Rattle.var_store.proofs.store.Store.new.Given as goal

abbrev pub invariant-groups : goal.invariant-groups
invariant-groups l = l.copies.items ≡ replicate l._group ([] ∷ [])
