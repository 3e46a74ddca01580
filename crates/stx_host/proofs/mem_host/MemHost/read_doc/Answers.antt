use Rattle.std.proofs.Common.{◌<◌, ◌^◌, ◌-◌, min, [], ◌∷◌, ◌++◌, Some, ap, ◌∙◌}
use Rattle.stx_host.specs.declared.act.Act.TheVariants.{Read}
use Rattle.stx_host.specs.MemHost.{outside_of, room_of, unless_listed}
use Rattle.stx_host.proofs.ToCome.{to_come-read, to_come-end}
use Rattle.stx_host.proofs.mem_host.MemHost.read_doc.Goals as goal

pub returns-then-count-eq0-clause-change : goal.returns-then-count-eq0-clause-change
returns-then-count-eq0-clause-change c =
    let host = c.args.self.now in
    let rest = to_come-end host.main host.main_at host.docs host.table.slots.items c.give_open-count.new.table.slots.items c.args.id c.give_open-count.result c.if-count-eq0.true c.give_open-count.ensures.moved in
    let log = c.add_act.ensures.added ∙ ap (λ n. host.log.items ++ Read c.args.id n ∷ []) c.if-count-eq0.true in
    λ i. record (outside_of host) { log = Some (log i); to_come = rest i; open_ids = Some (c.give_open-count.ensures.ids i); room = unless_listed host.fails (record (room_of host) { acts = c.add_act.ensures.room i; ids = min (c.give_open-count.ensures.room i) (2 ^ 32 - 1) }) }

pub returns-clause-change : goal.returns-clause-change
returns-clause-change c =
    let host = c.args.self.now in
    let above : 0 < c.args.id = c.requires.id in
    let rest = to_come-read host.main host.main_at host.docs host.table.slots.items c.give_open-count.new.table.slots.items c.args.id c.give_open-count.result above c.give_open-count.ensures.moved in
    λ i. record (outside_of host) { log = Some (c.add_act.ensures.added i); to_come = rest i; open_ids = Some (c.give_open-count.ensures.ids i); room = unless_listed host.fails (record (room_of host) { acts = c.add_act.ensures.room i; ids = min (c.give_open-count.ensures.room i) (2 ^ 32 - 1) }) }
