use Rattle.std.proofs.Common.{◌≡◌, refl, arith}
use Rattle.xml_tokens.specs.inside.Spans.{is_plain_byte}
use Rattle.xml_tokens.specs.declared.tables.TheConstants.{PLAIN_BYTES}
use Rattle.stx_base.proofs.TableLemmas.{read, table_of}
use Rattle.xml_tokens.proofs.tables.is_plain_byte.Goals as goal

-- the table is held against the definition at each of the 256 bytes, by computing
table_is : PLAIN_BYTES ≡ table_of is_plain_byte 60
table_is = refl

pub returns : goal.returns
returns c = read is_plain_byte 60 refl PLAIN_BYTES table_is c.args.byte (omega arith)
