use Rattle.std.proofs.Common.{◌≡◌, encode_utf8_all, min, take}
use Rattle.node_stack.specs.Few.{few_within}
use Rattle.node_stack.proofs.names.few_within.Given as goal

-- those so far are counted
abbrev pub invariant-loop-named : goal.invariant-loop-named
invariant-loop-named l = l.elements ≡ min 18446744073709551615 (few_within (take l.named-index l.few) (encode_utf8_all l.uri))
