use Rattle.std.proofs.Common.{sym, ap, ◌∙◌, arith, take, drop}
use Rattle.std.specs.List.{prefix_len}
use Rattle.xml_tokens.specs.inside.Spans.{is_plain_byte}
use Rattle.xml_tokens.proofs.SimpleLemmas.{text-found}
use Rattle.xml_tokens.proofs.simple.plain_text.Goals as goal

pub returns-in-Some : goal.returns-in-Some
returns-in-Some c =
    let bytes = c.args.bytes.now in
    let len = c.plain_len-len.ensures.value ∙ ap (prefix_len is_plain_byte) c.head.ensures in
    text-found c.min.result bytes c.split_at.result.0.now c.split_at.result.1.now c.in-Some.field-0.now (omega (arith, c.if-len-gt0.true, c.split_at.ensures.front_len))
    (c.split_at.ensures.front ∙ ap (λ n. take n bytes) len) (c.split_at.ensures.back ∙ ap (λ n. drop n bytes) len) (sym c.in-Some.ensures)
