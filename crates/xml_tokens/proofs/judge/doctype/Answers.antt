use Rattle.std.proofs.Common.{rules, sym, arith}
use Rattle.std.specs.Prelude.{codes}
use Rattle.xml_tokens.proofs.PrologLemmas.{between-utf8}
use Rattle.xml_tokens.proofs.judge.doctype.Goals as goal

pub is_doctype-requires : goal.is_doctype-requires
is_doctype-requires c = between-utf8 (codes "<!DOCTYPE") (codes ">") c.args.bytes.now c.in-Some.inside.now (search rules) (search rules) (omega arith) (sym c.in-Some.ensures) c.requires
