use Rattle.std.proofs.Common.{sym, ap}
use Rattle.std.specs.Str.{chars}
use Rattle.stxpath_syntax.specs.Printing.{arithmetic_sign}
use Rattle.stxpath_syntax.proofs.print.arithmetic_sign.Goals as goal

pub returns-in-Add : goal.returns-in-Add
unfolding chars
returns-in-Add c = ap arithmetic_sign (sym c.in-Add.is)

pub returns-in-Sub : goal.returns-in-Sub
unfolding chars
returns-in-Sub c = ap arithmetic_sign (sym c.in-Sub.is)

pub returns-in-Mul : goal.returns-in-Mul
unfolding chars
returns-in-Mul c = ap arithmetic_sign (sym c.in-Mul.is)

pub returns-in-Idiv : goal.returns-in-Idiv
unfolding chars
returns-in-Idiv c = ap arithmetic_sign (sym c.in-Idiv.is)

pub returns-in-Mod : goal.returns-in-Mod
unfolding chars
returns-in-Mod c = ap arithmetic_sign (sym c.in-Mod.is)
