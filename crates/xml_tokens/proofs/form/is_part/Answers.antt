use Rattle.std.proofs.Common.{◌∙◌, ◌≡◌, length, false, sym, nat_lt, arith}
use Rattle.std.proofs.lemmas.Bool.Decides.{nat_tests}
use Rattle.xml_tokens.specs.Places.{is_part}
use Rattle.xml_tokens.proofs.PlaceLemmas.{starts_with-begins, is_part-begins, is_part-length}
use Rattle.xml_tokens.proofs.form.is_part.Goals as goal

pub returns-then-bytes-word : goal.returns-then-bytes-word
returns-then-bytes-word c =
    c.starts_with.ensures.value ∙ (starts_with-begins c.args.word.now c.args.bytes.now ∙ is_part-begins c.args.bytes.now c.args.word.now c.if-bytes-word.true)

pub returns-else-bytes-word : goal.returns-else-bytes-word
returns-else-bytes-word c =
    let none : is_part c.args.bytes.now c.args.word.now ≡ false = is_part-length c.args.bytes.now c.args.word.now c.if-bytes-word.false in
    let no : nat_lt (length c.args.bytes.now) (length c.args.word.now) ≡ false = grind (arith, nat_tests) in
    no ∙ sym none
