use Rattle.std.proofs.Common.{◌≡◌, ◌≤◌, ◌-◌, ◌++◌, ℕ, List, length, drop}
use Rattle.xml_tokens.specs.Places.{first_word}
use Rattle.xml_tokens.proofs.scan.search_word.Given as goal

abbrev pub invariant-loop-at : goal.invariant-loop-at
invariant-loop-at l = record {
  low : l.from ≤ l.at;
  high : l.at ≤ length l.bytes;
  same : (more : List ℕ) → first_word l.word l.from (drop l.from (l.bytes ++ more)) ≡ first_word l.word l.at (drop l.at (l.bytes ++ more));
}

abbrev pub decreases-loop-at : goal.decreases-loop-at
decreases-loop-at l = length l.bytes - l.at
