use Rattle.std.proofs.Common.{ap, sym, subst}
use Rattle.std.proofs.Math.Seq.{map-set_same}
use Rattle.stx_host.specs.Table.{AreDifferent}
use Rattle.stx_host.proofs.real_host.read_open.Goals as goal

pub returns-clause-ids : goal.returns-clause-ids
returns-clause-ids g c =
    map-set_same (λ slot. slot.id) c.args.table.now.slots.items c.in-Some.at (record { id = c.index_mut-slot.result.now.id; held = c.read_some.new.source })
    c.index_mut-slot.result.now (ap (λ slot. slot.id) c.index_mut-slot.ensures.value)

pub invariant_of-table : goal.invariant_of-table
invariant_of-table g c =
    let slots = c.args.table.now.slots.items in
    let slot = c.index_mut-slot.result.now in
    let same = map-set_same (λ slot. slot.id) slots c.in-Some.at (record { id = slot.id; held = c.read_some.new.source }) slot (ap (λ slot. slot.id) c.index_mut-slot.ensures.value) in
    record { different = subst AreDifferent (sym same) c.args.table.now.different }
