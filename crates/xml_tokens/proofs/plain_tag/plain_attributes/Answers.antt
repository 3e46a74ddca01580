use Rattle.std.proofs.Common.{sym, subst}
use Rattle.xml_tokens.specs.inside.PlainTags.{AreFirst}
use Rattle.xml_tokens.proofs.AttributeLemmas.{after_byte-same}
use Rattle.xml_tokens.proofs.SimpleLemmas.{name-utf8}
use Rattle.xml_tokens.proofs.PlainTagLemmas.{one-more-first, value-utf8}
use Rattle.xml_tokens.proofs.plain_tag.plain_attributes.Goals as goal

pub text_from_spare-requires : goal.text_from_spare-requires
text_from_spare-requires c = name-utf8 c.in-Some-plain_attribute.name.now c.in-Some-plain_attribute.ensures.0

pub text_from_spare-requires-in-more_attrs : goal.text_from_spare-requires-in-more_attrs
text_from_spare-requires-in-more_attrs c = value-utf8 c.in-Some-plain_attribute.value.now c.in-Some-plain_attribute.ensures.1

pub more_attrs-preserved : goal.more_attrs-preserved
more_attrs-preserved c =
    let name = c.in-Some-plain_attribute.name.now in
    let value = c.in-Some-plain_attribute.value.now in
    let behind = c.in-Some-plain_attribute.behind.now in
    let rest = c.more_attrs.rest.now in
    let more = c.in-Some.more.now in
    subst (λ l. AreFirst l behind c.args.bytes.now) (sym c.in_ok-push.ensures.ok)
    (one-more-first c.more_attrs.attrs name value behind rest c.args.bytes.now more (record { name = c.in_ok-text_from_spare.field-0; value = c.in_ok-text_from_spare-2.field-0 }) c.in_ok-text_from_spare.ensures c.in_ok-text_from_spare-2.ensures c.more_attrs.invariant (after_byte-same 32 rest more (sym c.in-Some.ensures)) c.in-Some-plain_attribute.ensures)
