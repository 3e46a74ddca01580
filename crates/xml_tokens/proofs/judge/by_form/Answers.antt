use Rattle.std.proofs.Common.{rules, sym, arith}
use Rattle.std.specs.Prelude.{codes}
use Rattle.xml_tokens.proofs.PrologLemmas.{between-utf8}
use Rattle.xml_tokens.proofs.judge.by_form.Goals as goal

pub comment-requires : goal.comment-requires
comment-requires c = between-utf8 (codes "<!--") (codes "-->") c.args.bytes.now c.in-Some.inside.now (search rules) (search rules) (omega arith) (sym c.in-Some.ensures) c.requires

pub cdata-requires : goal.cdata-requires
cdata-requires c = between-utf8 (codes "<![CDATA[") (codes "]]>") c.args.bytes.now c.in-Some-between.inside.now (search rules) (search rules) (omega arith) (sym c.in-Some-between.ensures) c.requires

pub instruction_or_declaration-requires : goal.instruction_or_declaration-requires
instruction_or_declaration-requires c = between-utf8 (codes "<?") (codes "?>") c.args.bytes.now c.in-Some-between-2.inside.now (search rules) (search rules) (omega arith) (sym c.in-Some-between-2.ensures) c.requires

pub tag_or_fault-requires : goal.tag_or_fault-requires
tag_or_fault-requires c = between-utf8 (codes "<") (codes ">") c.args.bytes.now c.in-Some-between-3.inside.now (search rules) (search rules) (omega arith) (sym c.in-Some-between-3.ensures) c.requires
