use Rattle.std.proofs.Common.{◌<◌, sym, ap, ◌∙◌, subst, arith}
use Rattle.std.specs.List.{prefix_len}
use Rattle.xml_tokens.specs.inside.Spans.{cut_name, is_ascii_name_byte}
use Rattle.xml_tokens.proofs.SimpleLemmas.{name-cut}
use Rattle.xml_tokens.proofs.tag.bare_named.Goals as goal

pub returns-then-len-gt0 : goal.returns-then-len-gt0
returns-then-len-gt0 c =
    let bytes = c.args.bytes.now in
    let some : 0 < prefix_len is_ascii_name_byte bytes = subst (λ n. 0 < n) c.ascii_name_len-len.ensures.value (omega (arith, c.if-len-gt0.true)) in
    name-cut bytes c.in_ok-found.found.0.now c.in_ok-found.found.1.now (ap (λ n. cut_name n bytes) (sym c.ascii_name_len-len.ensures.value) ∙ sym c.in_ok-found.ensures) some
