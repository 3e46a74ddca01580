use Rattle.std.proofs.Common.{ℕ, ◌+◌, ◌*◌, ◌≡◌, length}
use Rattle.stx_base.specs.Spare.{Gains}
use Rattle.stx_base.proofs.spare.Spare.keep_attrs.Given as goal

-- each attribute that was taken gave four texts at most
abbrev pub invariant-loop-attr : goal.invariant-loop-attr
invariant-loop-attr l = (taken : ℕ) × (taken + length l.attrs ≡ length l.initial.attrs) × Gains (4 * taken) 0 l.initial.self l.self

-- each turn takes one attribute
abbrev pub decreases-loop-attr : goal.decreases-loop-attr
decreases-loop-attr l = length l.attrs
