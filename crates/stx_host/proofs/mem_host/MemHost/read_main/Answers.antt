use Rattle.std.proofs.Common.{Some}
use Rattle.stx_host.specs.MemHost.{outside_of, room_of, unless_listed}
use Rattle.stx_host.proofs.ToCome.{to_come-main}
use Rattle.stx_host.proofs.mem_host.MemHost.read_main.Goals as goal

pub returns-clause-change : goal.returns-clause-change
returns-clause-change c =
    let host = c.args.self.now in
    let rest = to_come-main host.main host.main_at c.give-count.result host.docs host.table.slots.items in
    λ i. record (outside_of host) { log = Some (c.add_act.ensures.added i); to_come = rest i; room = unless_listed host.fails (record (room_of host) { acts = c.add_act.ensures.room i }) }
