use Rattle.std.proofs.Common.{◌≡◌, ◌≤◌, min, take, true}
use Rattle.std.specs.List.{list_all}
use Rattle.result_writer.specs.Escape.{is_plain_ascii}
use Rattle.result_writer.proofs.chars.front_len.Given as goal

-- of the bytes so far those before the first other one
abbrev pub invariant-loop-at : goal.invariant-loop-at
invariant-loop-at l = record {
  within : l.len ≤ 64;
  plain : list_all is_plain_ascii (take (min l.len l.at) l.bytes) ≡ true;
}
