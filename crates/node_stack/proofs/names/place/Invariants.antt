use Rattle.std.proofs.Common.{◌≡◌, encode_utf8_all, take}
use Rattle.node_stack.specs.Few.{few_times}
use Rattle.node_stack.proofs.names.place.Given as goal

-- none so far has the name
abbrev pub invariant-loop-at : goal.invariant-loop-at
invariant-loop-at l = few_times (take l.at l.few) (encode_utf8_all l.name.uri) (encode_utf8_all l.name.local) ≡ 0
