use Rattle.std.proofs.Common.{sym, ap}
use Rattle.std.specs.Str.{chars}
use Rattle.stxpath_syntax.specs.Printing.{sign_of}
use Rattle.stxpath_syntax.proofs.print.sign_of.Goals as goal

pub returns-in-Or : goal.returns-in-Or
unfolding chars
returns-in-Or c = ap sign_of (sym c.in-Or.is)

pub returns-in-And : goal.returns-in-And
unfolding chars
returns-in-And c = ap sign_of (sym c.in-And.is)
