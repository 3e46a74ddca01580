use Rattle.std.proofs.Common.{◌≡◌, refl, arith}
use Rattle.xml_tokens.specs.inside.PlainTags.{is_plain_in_value}
use Rattle.xml_tokens.specs.declared.tables.TheConstants.{VALUE_BYTES}
use Rattle.stx_base.proofs.TableLemmas.{read, table_of}
use Rattle.xml_tokens.proofs.tables.is_plain_in_value.Goals as goal

-- the table is held against the definition at each of the 256 bytes, by computing
table_is : VALUE_BYTES ≡ table_of is_plain_in_value 60
table_is = refl

pub returns : goal.returns
returns c = read is_plain_in_value 60 refl VALUE_BYTES table_is c.args.byte (omega arith)
