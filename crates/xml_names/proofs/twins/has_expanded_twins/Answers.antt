use Rattle.std.proofs.Common.{arith}
use Rattle.xml_names.specs.Tag.{same_expanded}
use Rattle.xml_names.proofs.Alike.{no-twins}
use Rattle.xml_names.proofs.twins.has_expanded_twins.Goals as goal

pub returns-then-attrs-lt2 : goal.returns-then-attrs-lt2
returns-then-attrs-lt2 c = no-twins same_expanded c.args.attrs.now (omega (arith, c.if-attrs-lt2.true))
