use Rattle.std.proofs.Common.{◌≡◌, encode_utf8_all, min, take}
use Rattle.node_stack.specs.Few.{few_times}
use Rattle.node_stack.proofs.names.few_times.Given as goal

-- those so far are counted
abbrev pub invariant-loop-named : goal.invariant-loop-named
invariant-loop-named l = l.times ≡ min 18446744073709551615 (few_times (take l.named-index l.few) (encode_utf8_all l.name.uri) (encode_utf8_all l.name.local))
