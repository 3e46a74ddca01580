use Rattle.std.proofs.Common.{sym, ap}
use Rattle.std.specs.Str.{chars}
use Rattle.stxpath_syntax.specs.Printing.{link_text}
use Rattle.stxpath_syntax.proofs.print.link_text.Goals as goal

pub returns-in-Start : goal.returns-in-Start
unfolding chars
returns-in-Start c = ap link_text (sym c.in-Start.is)

pub returns-in-Slash : goal.returns-in-Slash
unfolding chars
returns-in-Slash c = ap link_text (sym c.in-Slash.is)

pub returns-in-Deep : goal.returns-in-Deep
unfolding chars
returns-in-Deep c = ap link_text (sym c.in-Deep.is)
