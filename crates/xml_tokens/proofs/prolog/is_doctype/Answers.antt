use Rattle.std.proofs.Common.{sym}
use Rattle.xml_tokens.proofs.PrologLemmas.{behind_space-utf8}
use Rattle.xml_tokens.proofs.prolog.is_doctype.Goals as goal

pub named-requires : goal.named-requires
named-requires c = behind_space-utf8 c.args.bytes.now c.in-Some.rest.now (sym c.in-Some.ensures) c.requires
