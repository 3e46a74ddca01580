-- What operators give of whole numbers.
use Rattle.std.specs.Prelude.{ℤ, pos, ◌+ℤ◌, ◌-ℤ◌, ◌*ℤ◌, int_div, int_rem, List, Result, Ok, Err, if◌then◌else◌}
use Rattle.std.specs.Ordering.{int_eq}
use Rattle.stx_base.specs.declared.expression.Op.{Op}
use Rattle.stx_base.specs.declared.expression.Op.TheVariants.{Add, Sub, Mul, Idiv, Mod}
use Rattle.stxpath_values.specs.Outcome.{and_then}
use Rattle.stxpath_values.specs.Numeral.{whole}
use Rattle.stxpath_values.specs.Conversion.{as_whole}
use Rattle.stxpath_values.specs.declared.value.Atom.{Atom}
use Rattle.stxpath_values.specs.declared.value.Atom.TheVariants.{Whole}
use Rattle.stxpath_values.specs.declared.fault.EvalFault.{EvalFault}
use Rattle.stxpath_values.specs.declared.fault.EvalFault.TheVariants.{ZeroDivisor}

-- z, unless it comes of a division by 0
abbrev pub unless_zero : ℤ → ℤ → Result ℤ EvalFault
unless_zero divisor z = if int_eq divisor (pos 0) then Err ZeroDivisor else Ok z

-- the exact result: a quotient is cut towards zero, and a remainder has the sign of the left operand
abbrev pub exact : Op → ℤ → ℤ → Result ℤ EvalFault
exact Add x y = Ok (x +ℤ y)
exact Sub x y = Ok (x -ℤ y)
exact Mul x y = Ok (x *ℤ y)
exact Idiv x y = unless_zero y (int_div x y)
exact Mod x y = unless_zero y (int_rem x y)

-- the result within 64 bits
abbrev pub computed : Op → ℤ → ℤ → Result ℤ EvalFault
computed op x y = and_then (exact op x y) whole

-- the left operand is converted first
abbrev pub arithmetic : Op → List Atom → List Atom → Result Atom EvalFault
arithmetic op left right =
    and_then (as_whole left) (λ x. and_then (as_whole right) (λ y. and_then (computed op x y) (λ z. Ok (Whole z))))
