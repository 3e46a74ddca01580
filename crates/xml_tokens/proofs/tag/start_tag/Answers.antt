use Rattle.std.proofs.Common.{sym}
use Rattle.xml_tokens.proofs.AttributeLemmas.{named-utf8}
use Rattle.xml_tokens.proofs.tag.start_tag.Goals as goal

pub attributes-requires : goal.attributes-requires
attributes-requires c = (named-utf8 c.args.bytes.now c.in-Some.name.now c.in-Some.rest.now (sym c.in-Some.ensures) c.requires).1

pub text_of-requires : goal.text_of-requires
text_of-requires c = (named-utf8 c.args.bytes.now c.in-Some.name.now c.in-Some.rest.now (sym c.in-Some.ensures) c.requires).0
