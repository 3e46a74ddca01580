use Rattle.std.proofs.Common.{◌≡◌, filter, not, ◌==◌, vec_len, vec_capacity}
use Rattle.stx_host.proofs.table.Table.remove.Given as goal

-- what is to be kept stays, and so does the room
abbrev pub invariant-loop-at : goal.invariant-loop-at
invariant-loop-at g l = record {
  kept : filter (λ slot. not (slot.id == l.id)) l.self.slots.items ≡ filter (λ slot. not (slot.id == l.id)) l.initial.self.slots.items;
  room : vec_capacity l.self.slots ≡ vec_capacity l.initial.self.slots;
}

abbrev pub decreases-loop-at : goal.decreases-loop-at
decreases-loop-at g l = vec_len l.self.slots
