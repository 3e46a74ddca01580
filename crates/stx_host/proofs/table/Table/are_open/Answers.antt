use Rattle.std.proofs.Common.{◌≡◌, ◌-◌, sym, ◌∙◌}
use Rattle.std.proofs.lemmas.Bool.{OnTrue_from, OnFalse_from, eqb-true, eqb-false}
use Rattle.stx_host.specs.Table.{ids_of, count_between}
use Rattle.stx_host.proofs.Counted.{all_open, some_free, count_slots}
use Rattle.stx_host.proofs.table.Table.are_open.Goals as goal

pub returns-clause-all : goal.returns-clause-all
returns-clause-all g c =
    let table = c.args.self.now in
    let counted = sym (count_slots c.args.low c.args.high table.slots.items) ∙ sym c.count_between.ensures in
    OnTrue_from _ _ (λ yes. all_open (ids_of table.slots.items) table.different c.args.low c.args.high c.requires (counted ∙ eqb-true _ _ yes))

pub returns-clause-counted : goal.returns-clause-counted
returns-clause-counted g c =
    let slots = c.args.self.now.slots.items in
    let left = c.args.high - c.args.low in
    OnTrue_from _ (count_between c.args.low c.args.high (ids_of slots) ≡ left)
    (λ yes. sym (count_slots c.args.low c.args.high slots) ∙ sym c.count_between.ensures ∙ eqb-true c.count_between.result left yes)

pub returns-clause-some : goal.returns-clause-some
returns-clause-some g c =
    let table = c.args.self.now in
    let counted = c.count_between.ensures ∙ count_slots c.args.low c.args.high table.slots.items in
    OnFalse_from _ _ (λ no. some_free (ids_of table.slots.items) table.different c.args.low c.args.high c.requires (λ e. eqb-false _ _ no (counted ∙ e)))
