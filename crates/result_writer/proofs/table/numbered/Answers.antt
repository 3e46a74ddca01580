use Rattle.std.proofs.Common.{ap, ◌∙◌, ◌∷◌, arith}
use Rattle.std.specs.Fmt.{decimal}
use Rattle.std.specs.Str.{chars}
use Rattle.std.proofs.lemmas.Fmt.{IsAscii-decimal}
use Rattle.std.proofs.lemmas.Str.{chars-IsAscii}
use Rattle.std.proofs.lemmas.Str.Ascii.{IsAscii-cons}
use Rattle.result_writer.proofs.table.numbered.Goals as goal

pub returns : goal.returns
returns c =
    let digits = IsAscii-decimal c.args.number c.ranges.number.fits in
    c.from_string.ensures ∙ ap chars c.in_ok-prefix.ensures.ok
    ∙ chars-IsAscii _ (IsAscii-cons 110 (115 ∷ decimal c.args.number) (omega arith) (IsAscii-cons 115 (decimal c.args.number) (omega arith) digits))
