use Rattle.std.proofs.Common.{◌^◌, ◌-◌, Some, min, ap, ◌∙◌, inl, inr}
use Rattle.stx_host.specs.MemHost.{outside_of, all_to_come, room_of, unless_listed}
use Rattle.stx_host.specs.Table.{ids_of}
use Rattle.stx_host.proofs.ToCome.{to_come-removed, ids_of-filter}
use Rattle.stx_host.proofs.mem_host.MemHostHost.close.Goals as goal

pub returns-then-not-is_full-clause-change : goal.returns-then-not-is_full-clause-change
returns-then-not-is_full-clause-change c =
    let host = c.args.self.now in
    let rest = ap (all_to_come host.main host.main_at host.docs) c.remove.ensures.removed ∙ to_come-removed host.main host.main_at host.docs host.table.slots.items c.args.id c.requires.above_zero in
    let ids = ap ids_of c.remove.ensures.removed ∙ ids_of-filter c.args.id host.table.slots.items in
    inl (λ i. record (outside_of host) { log = Some (c.add_act.ensures.added i); to_come = rest i; open_ids = Some (ids i); room = unless_listed host.fails (record (room_of host) { acts = c.add_act.ensures.room i; ids = min (c.remove.ensures.room i) (2 ^ 32 - 1) }) })

pub returns-else-not-is_full-clause-change : goal.returns-else-not-is_full-clause-change
returns-else-not-is_full-clause-change c =
    let host = c.args.self.now in
    let rest = ap (all_to_come host.main host.main_at host.docs) c.remove.ensures.removed ∙ to_come-removed host.main host.main_at host.docs host.table.slots.items c.args.id c.requires.above_zero in
    let ids = ap ids_of c.remove.ensures.removed ∙ ids_of-filter c.args.id host.table.slots.items in
    inr (λ i. record (outside_of host) { to_come = rest i; open_ids = Some (ids i); room = unless_listed host.fails (record (room_of host) { ids = min (c.remove.ensures.room i) (2 ^ 32 - 1) }) })
