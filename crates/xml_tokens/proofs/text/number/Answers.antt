use Rattle.std.proofs.Common.{◌<◌, ◌^◌, sym, subst}
use Rattle.std.specs.Str.Parse.{IsNumeral, digits_value, without_leading_plus}
use Rattle.xml_tokens.proofs.NumberLemmas.{too-large}
use Rattle.xml_tokens.proofs.text.number.Goals as goal

pub returns-in-Err : goal.returns-in-Err
returns-in-Err c = too-large c.args.radix c.args.digits.now c.requires.radix.1 c.requires.some c.requires.digits (λ told. c.in-Err.ensures.value (subst (λ l. IsNumeral c.args.radix (without_leading_plus l) × (digits_value c.args.radix (without_leading_plus l) < 2 ^ 32)) (sym c.str_of.ensures) told))
