use Rattle.std.proofs.Common.{sym, ap, ◌∙◌}
use Rattle.xml_tokens.specs.inside.Spans.{cut_name, is_wide_at}
use Rattle.xml_tokens.proofs.NameLemmas.{ascii-named}
use Rattle.xml_tokens.proofs.tag.named.Goals as goal

pub returns-else-is_wide_at : goal.returns-else-is_wide_at
returns-else-is_wide_at c =
    let bytes = c.args.bytes.now in
    let len = c.ascii_name_len-len.ensures.value in
    c.ascii_named.ensures ∙ (ap (λ n. cut_name n bytes) len ∙ ascii-named bytes (ap (λ n. is_wide_at n bytes) (sym len) ∙ sym c.if-is_wide_at.ensures))
