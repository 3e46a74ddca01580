use Rattle.std.proofs.Common.{◌≡◌, ◌++◌, ◌&&◌, length, true}
use Rattle.std.specs.Prelude.{nat_lt}
use Rattle.std.specs.List.{list_all}
use Rattle.stx_base.specs.Character.{is_char}
use Rattle.stx_base.specs.Course.{Begins}
use Rattle.result_writer.specs.Escape.{escaped}
use Rattle.result_writer.specs.declared.escape.Context.TheVariants.{Content}
use Rattle.result_writer.proofs.chars.append_chars.Given as goal

-- what was appended so far, and then what the rest gives, is the whole; where the rest is ASCII all is
abbrev pub invariant-loop-byte : goal.invariant-loop-byte
invariant-loop-byte l = record {
  written : l.out.items ++ escaped Content l.rest ≡ l.fn.out.items ++ escaped Content l.text;
  kept : Begins l.fn.out.items l.out.items;
  ascii : list_all (λ b. nat_lt b 128 && is_char b) l.rest ≡ true → list_all (λ b. nat_lt b 128 && is_char b) l.text ≡ true;
}

abbrev pub decreases-loop-byte : goal.decreases-loop-byte
decreases-loop-byte l = length l.rest
