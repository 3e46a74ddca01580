use Rattle.std.proofs.Common.{sym, arith}
use Rattle.xml_tokens.proofs.AttributeLemmas.{after_byte-utf8}
use Rattle.xml_tokens.proofs.tag.tag.Goals as goal

pub end_tag-requires : goal.end_tag-requires
end_tag-requires c = after_byte-utf8 47 c.args.inside.now c.in-Some.inside.now (omega arith) (sym c.in-Some.ensures) c.requires
