use Rattle.std.proofs.Common.{◌≡◌, ◌++◌, take, vec_capacity}
use Rattle.stx_host.proofs.mem_host.add_bytes.Given as goal

-- the first bytes were added, and the room is as it was
abbrev pub invariant-loop-byte : goal.invariant-loop-byte
invariant-loop-byte l = (l.taken.items ≡ l.initial.taken.items ++ take l.byte-index l.bytes) × (vec_capacity l.taken ≡ vec_capacity l.initial.taken)
