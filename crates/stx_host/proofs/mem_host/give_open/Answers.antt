use Rattle.std.proofs.Common.{◌≡◌, None, ap, sym, ◌∙◌, subst, arith}
use Rattle.std.proofs.Math.Seq.{map-set_same}
use Rattle.stx_host.specs.MemHost.{Gives, rest_of_id}
use Rattle.stx_host.specs.Table.{AreDifferent}
use Rattle.stx_host.proofs.ToCome.{rest-read, rest_here, not_found}
use Rattle.stx_host.proofs.mem_host.give_open.Goals as goal

pub returns-in_default-clause-given : goal.returns-in_default-clause-given
returns-in_default-clause-given c =
    let none : rest_of_id c.args.docs.now c.args.table.now.slots.items c.args.id ≡ None =
    not_found c.args.docs.now c.args.table.now.slots.items c.args.id (sym c.position.ensures ∙ c.in_default.is) in
    subst (λ rest. Gives rest 0 c.args.room.now) (sym none) (record { count = omega arith; bytes = tt })

pub returns-clause-given : goal.returns-clause-given
returns-clause-given c =
    subst (λ rest. Gives rest c.give_doc.result c.give_doc.new.room)
    (sym (rest_here c.args.docs.now c.args.table.now.slots.items c.args.id c.in-Some.at c.index_mut-slot.result.now (sym c.position.ensures ∙ c.in-Some.is) c.index_mut-slot.ensures.value))
    c.give_doc.ensures.given

pub returns-clause-moved : goal.returns-clause-moved
returns-clause-moved c =
    rest-read c.args.docs.now c.args.table.now.slots.items c.args.id c.in-Some.at c.index_mut-slot.result.now (sym c.position.ensures ∙ c.in-Some.is) c.index_mut-slot.ensures.value
    c.give_doc.result c.give_doc.new.reading c.give_doc.ensures.moved

pub returns-clause-ids : goal.returns-clause-ids
returns-clause-ids c =
    map-set_same (λ slot. slot.id) c.args.table.now.slots.items c.in-Some.at (record { id = c.index_mut-slot.result.now.id; held = c.give_doc.new.reading })
    c.index_mut-slot.result.now (ap (λ slot. slot.id) c.index_mut-slot.ensures.value)

pub invariant_of-table : goal.invariant_of-table
invariant_of-table c =
    let slots = c.args.table.now.slots.items in
    let slot = c.index_mut-slot.result.now in
    let same = map-set_same (λ slot. slot.id) slots c.in-Some.at (record { id = slot.id; held = c.give_doc.new.reading }) slot (ap (λ slot. slot.id) c.index_mut-slot.ensures.value) in
    record { different = subst AreDifferent (sym same) c.args.table.now.different }
