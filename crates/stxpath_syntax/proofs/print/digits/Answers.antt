use Rattle.std.proofs.Common.{ap, rules, ◌∙◌}
use Rattle.std.specs.Fmt.{signed_decimal}
use Rattle.std.specs.Int.{w64}
use Rattle.std.proofs.Math.Facts.{to_z-of_z}
use Rattle.std.proofs.lemmas.Str.{chars-IsAscii}
use Rattle.stxpath_syntax.proofs.print.digits.Goals as goal

pub returns : goal.returns
returns c = chars-IsAscii _ c.format.ensures.ascii ∙ c.format.ensures.text ∙ ap signed_decimal (to_z-of_z {w = w64} {z = c.args.value} (search rules))
