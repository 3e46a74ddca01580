use Rattle.std.proofs.Common.{sym, ap}
use Rattle.std.specs.Str.{chars}
use Rattle.stxpath_syntax.specs.Printing.{comparison_sign}
use Rattle.stxpath_syntax.proofs.print.comparison_sign.Goals as goal

pub returns-in-Eq : goal.returns-in-Eq
unfolding chars
returns-in-Eq c = ap comparison_sign (sym c.in-Eq.is)

pub returns-in-Ne : goal.returns-in-Ne
unfolding chars
returns-in-Ne c = ap comparison_sign (sym c.in-Ne.is)

pub returns-in-Lt : goal.returns-in-Lt
unfolding chars
returns-in-Lt c = ap comparison_sign (sym c.in-Lt.is)

pub returns-in-Le : goal.returns-in-Le
unfolding chars
returns-in-Le c = ap comparison_sign (sym c.in-Le.is)

pub returns-in-Gt : goal.returns-in-Gt
unfolding chars
returns-in-Gt c = ap comparison_sign (sym c.in-Gt.is)

pub returns-in-Ge : goal.returns-in-Ge
unfolding chars
returns-in-Ge c = ap comparison_sign (sym c.in-Ge.is)
