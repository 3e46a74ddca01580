use Rattle.std.proofs.Common.{◌≡◌, List, ℕ, true, Ok, sym, subst, ap, ◌∙◌, rules}
use Rattle.std.specs.Int.{w64}
use Rattle.std.proofs.Math.Facts.{to_z-of_z}
use Rattle.std.proofs.lemmas.Str.{IsUtf8-from_ascii}
use Rattle.stxpath_values.specs.Numeral.{number, whole, is_numeral}
use Rattle.stxpath_values.proofs.NumeralLemmas.{number_read, number_refused}
use Rattle.stxpath_values.proofs.numeral.number.Goals as goal

pub unreachable-requires : goal.unreachable-requires
unreachable-requires c = c.in_default.ensures.cases.0 (IsUtf8-from_ascii c.args.bytes.now c.requires.ascii)

pub returns-in-Ok-from_str_radix : goal.returns-in-Ok-from_str_radix
returns-in-Ok-from_str_radix c =
    let same = c.in-Ok.ensures.cases.0 in
    let read = c.in-Ok-from_str_radix.ensures.value in
    ap Ok (to_z-of_z {w = w64} {z = c.in-Ok-from_str_radix.n} (search rules)) ∙ sym (number_read c.in-Ok.text.now _ read) ∙ ap (λ l. whole (number l)) same

pub returns-in-Err : goal.returns-in-Err
returns-in-Err c =
    let same = c.in-Ok.ensures.cases.0 in
    sym (ap (λ l. whole (number l)) (sym same) ∙ number_refused c.in-Ok.text.now (subst (λ (l : List ℕ). is_numeral l ≡ true) (sym same) c.requires.numeral) c.in-Err.ensures.value)
