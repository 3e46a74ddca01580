use Rattle.std.proofs.Common.{◌≡◌, ◌==◌, false, ◌∙◌, sym, ap, is_some}
use Rattle.std.specs.List.{list_any}
use Rattle.std.proofs.lemmas.List.Quantifiers.{position-Some}
use Rattle.stx_host.proofs.Tables.{filter-remove, filter-none, is_some-position}
use Rattle.stx_host.proofs.Counted.{removed_different}
use Rattle.stx_host.proofs.table.Table.remove.Goals as goal

pub loop-at-preserved : goal.loop-at-preserved
loop-at-preserved g c =
    let slots = c.loop-at.self.slots.items in
    let found = position-Some (λ slot. slot.id == c.args.id) slots c.in-Some.at c.remove.result (sym c.in-Some.ensures) in
    record {
      kept = rw c.remove.ensures.items (filter-remove (λ slot. slot.id == c.args.id) slots c.in-Some.at c.remove.result found.0 found.1 ∙ c.loop-at.invariant.kept);
      room = c.remove.ensures.capacity ∙ c.loop-at.invariant.room;
    }

pub invariant_of-self : goal.invariant_of-self
invariant_of-self g c =
    let slots = c.loop-at.self.slots.items in
    let found = position-Some (λ slot. slot.id == c.args.id) slots c.in-Some.at c.remove.result (sym c.in-Some.ensures) in
    record { different = rw c.remove.ensures.items (removed_different slots c.in-Some.at found.0 c.loop-at.self.different) }

pub returns-clause-removed : goal.returns-clause-removed
returns-clause-removed g c =
    let slots = c.loop-at.self.slots.items in
    let none : list_any (λ slot. slot.id == c.args.id) slots ≡ false =
    sym (is_some-position (λ slot. slot.id == c.args.id) slots) ∙ sym (ap is_some c.position.ensures) ∙ ap is_some c.in_default.is in
    sym (filter-none (λ slot. slot.id == c.args.id) slots none) ∙ c.loop-at.invariant.kept
