use Rattle.std.proofs.Common.{sym}
use Rattle.std.specs.Str.{chars}
use Rattle.xml_names.proofs.QNames.{prefix_of-none}
use Rattle.xml_names.proofs.parts.parts_of.Goals as goal

pub returns-in-None-clause-prefix : goal.returns-in-None-clause-prefix
unfolding chars
returns-in-None-clause-prefix c = sym (prefix_of-none (chars c.args.name.now) c.in-None.ensures)
