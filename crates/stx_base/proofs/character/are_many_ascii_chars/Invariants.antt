use Rattle.std.proofs.Common.{◌≡◌, ◌&&◌, nat_lt, take}
use Rattle.std.specs.List.{list_all}
use Rattle.stx_base.specs.Character.{is_char}
use Rattle.stx_base.proofs.character.are_many_ascii_chars.Given as goal

-- those so far
abbrev pub invariant-loop-b : goal.invariant-loop-b
invariant-loop-b l = l.chars ≡ list_all (λ b. nat_lt b 128 && is_char b) (take l.b-index l.bytes)
