use Rattle.std.proofs.Common.{◌≡◌, ◌≤◌, ◌-◌, ◌++◌, ℕ, List, length, drop}
use Rattle.xml_tokens.specs.Places.{first_outside}
use Rattle.xml_tokens.specs.inside.Resume.{ending_test}
use Rattle.xml_tokens.proofs.scan.search_outside.Given as goal

abbrev pub invariant-loop-at : goal.invariant-loop-at
invariant-loop-at l = record {
  high : l.at ≤ length l.bytes;
  same : (more : List ℕ) → first_outside (ending_test l.bracket) l.fn.scan.quote l.fn.scan.searched (drop l.fn.scan.searched (l.bytes ++ more))
      ≡ first_outside (ending_test l.bracket) l.quote l.at (drop l.at (l.bytes ++ more));
}

abbrev pub decreases-loop-at : goal.decreases-loop-at
decreases-loop-at l = length l.bytes - l.at
