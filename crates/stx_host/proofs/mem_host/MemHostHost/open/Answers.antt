use Rattle.std.proofs.Common.{◌^◌, ◌-◌, min, ◌∷◌, [], ◌++◌, Some, ap, sym, subst, refl, ◌∙◌, slice_get, IsSome, inr}
use Rattle.std.specs.Option.{option_map, option_and_then}
use Rattle.std.proofs.lemmas.List.{map-append}
use Rattle.stx_host.specs.declared.act.Act.TheVariants.{Open}
use Rattle.stx_host.specs.Outside.{with_bytes}
use Rattle.stx_host.specs.MemHost.{outside_of, all_to_come, room_of, unless_listed}
use Rattle.stx_host.specs.Table.{ids_of}
use Rattle.stx_host.proofs.Rooms.{open_lacks}
use Rattle.stx_host.proofs.ToCome.{to_come-added}
use Rattle.stx_host.proofs.mem_host.MemHostHost.open.Goals as goal

pub returns-clause-change : goal.returns-clause-change
returns-clause-change c =
    let host = c.args.self.now in
    let id = c.in-Some-take.id in
    let slots = host.table.slots.items in
    let added = c.in-Some-take.ensures.taken in
    let place = sym c.in-Some.is ∙ c.find_doc.ensures in
    let rest = ap (all_to_come host.main host.main_at host.docs) added.added
    ∙ to_come-added host.main host.main_at host.docs slots id (record { doc = c.in-Some.doc; at = 0 }) added.least.above_zero added.least.not_open
    ∙ ap (λ o. with_bytes (all_to_come host.main host.main_at host.docs slots) id (option_and_then (λ at. option_map (λ doc. doc.bytes) (slice_get host.docs at)) o)) place in
    let ids = ap ids_of added.added ∙ map-append (λ slot. slot.id) slots (record { id = id; held = record { doc = c.in-Some.doc; at = 0 } } ∷ []) in
    let log = c.add_act-2.ensures.added ∙ ap (λ doc. host.log.items ++ Open doc id ∷ []) place in
    λ i. record (outside_of host) { log = Some (log i); to_come = rest i; open_ids = Some (ids i); room = unless_listed host.fails (record (room_of host) { acts = c.add_act-2.ensures.room i; ids = min (c.in-Some-take.ensures.kept i) (2 ^ 32 - 1) }) }

pub returns-in_default-take-clause-answer : goal.returns-in_default-take-clause-answer
returns-in_default-take-clause-answer c =
    let some : IsSome (Some c.in-Some.doc) = refl in
    open_lacks c.args.self.now c.args.name.now (inr (subst IsSome (sym c.in-Some.is ∙ c.find_doc.ensures) some, c.in_default-take.ensures.none))
