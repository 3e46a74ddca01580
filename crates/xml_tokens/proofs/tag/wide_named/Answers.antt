use Rattle.std.proofs.Common.{IsUtf8, take, sym, ap, ◌∙◌, subst}
use Rattle.xml_tokens.specs.Tags.{is_name_byte}
use Rattle.xml_tokens.proofs.AttributeLemmas.{name_end-ascii}
use Rattle.xml_tokens.proofs.Utf8Lemmas.{utf8-front}
use Rattle.xml_tokens.proofs.tag.wide_named.Goals as goal

pub is_name_of-requires : goal.is_name_of-requires
is_name_of-requires c =
    subst IsUtf8 (sym (c.split_at.ensures.front ∙ ap (λ n. take n c.args.bytes.now) c.name_len.ensures.value)) (utf8-front is_name_byte name_end-ascii c.args.bytes.now c.requires).0
