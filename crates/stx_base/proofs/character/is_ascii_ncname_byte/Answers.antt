use Rattle.std.proofs.Common.{◌≡◌, ℕ, Bool, ◌&&◌, refl, arith}
use Rattle.std.specs.Prelude.{nat_lt}
use Rattle.stx_base.specs.Character.{is_ncname_char}
use Rattle.stx_base.specs.declared.character.TheConstants.{NCNAME_BYTES}
use Rattle.stx_base.proofs.TableLemmas.{read, table_of}
use Rattle.stx_base.proofs.character.is_ascii_ncname_byte.Goals as goal

abbrev of_ascii : ℕ → Bool
of_ascii b = nat_lt b 128 && is_ncname_char b

-- the table is held against the definition at each of the 256 bytes, by computing
table_is : NCNAME_BYTES ≡ table_of of_ascii 44
table_is = refl

pub returns : goal.returns
returns c = read of_ascii 44 refl NCNAME_BYTES table_is c.args.byte (omega arith)
