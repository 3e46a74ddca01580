use Rattle.std.proofs.Common.{◌≡◌, ◌≤◌, ◌∙◌, ⊎_elim, ℕ, [], List, Option, Some, None, false, true, is_some, if◌then◌else◌, length, slice_get, sym, ap, arith}
use Rattle.std.specs.Prelude.{unwrap_or}
use Rattle.std.specs.Option.{option_and_then}
use Rattle.std.proofs.lemmas.Option.{slice_get_cases, slice_get_past}
use Rattle.sheet_model.specs.Groups.{around, around_parent}
use Rattle.sheet_model.specs.declared.sheet.Group.{Group}
use Rattle.var_store.specs.Copies as copies
use Rattle.var_store.specs.Variables.{slot_of}
use Rattle.template_machine.specs.Variables.{first_some, holder_in, newest}
use Rattle.template_machine.proofs.Around.{found_here, found_outwards}
use Rattle.template_machine.proofs.run.Run.holder.Goals as goal

pub loop-group-init : goal.loop-group-init
loop-group-init c =
    ap (λ o. holder_in (around c.args.program.now.sheet.groups (unwrap_or o 0)) c.args.self.now.store c.args.name.now) c.group_of.ensures

pub loop-group-preserved : goal.loop-group-preserved
loop-group-preserved c =
    let groups = c.args.program.now.sheet.groups in
    let store = c.args.self.now.store in
    let name = c.args.name.now in
    let f : ℕ → Option ℕ = λ g. if is_some (slot_of name (newest store g)) then Some g else None in
    let none : is_some (slot_of name (newest store c.in-Some.number)) ≡ false = ap is_some (sym c.slot.ensures) ∙ sym c.is_some.ensures ∙ c.if-is_some.false in
    c.loop-group.invariant
    ∙ ap (λ o. first_some f (around_parent (around groups) o)) c.in-Some.is
    ∙ found_outwards f groups c.requires.parents c.in-Some.number (ap (λ b. if b then Some c.in-Some.number else None) none)
    ∙ ap (λ o. first_some f (around_parent (around groups) o)) (sym (ap (option_and_then (λ (x : Group). x.parent)) c.in_ok-there.ensures.value))

pub returns-then-is_some-clause-first : goal.returns-then-is_some-clause-first
returns-then-is_some-clause-first c =
    let groups = c.args.program.now.sheet.groups in
    let store = c.args.self.now.store in
    let name = c.args.name.now in
    let f : ℕ → Option ℕ = λ g. if is_some (slot_of name (newest store g)) then Some g else None in
    let some : is_some (slot_of name (newest store c.in-Some.number)) ≡ true = ap is_some (sym c.slot.ensures) ∙ sym c.is_some.ensures ∙ c.if-is_some.true in
    sym (c.loop-group.invariant
    ∙ ap (λ o. first_some f (around_parent (around groups) o)) c.in-Some.is
    ∙ found_here f groups c.requires.parents c.in-Some.number c.in-Some.number (ap (λ b. if b then Some c.in-Some.number else None) some))

-- where nothing is found the place is past the end
beyond : {A : Type 0} (xs : List A) (i : ℕ) → slice_get xs i ≡ None → length xs ≤ i
beyond xs i none = ⊎_elim (λ p. let no : Some p.0 ≡ None = sym p.2 ∙ none in absurd (cc)) (λ p. p.0) (slice_get_cases xs i).1

pub returns-in_err-there-clause-first : goal.returns-in_err-there-clause-first
returns-in_err-there-clause-first c =
    let groups = c.args.program.now.sheet.groups in
    let store = c.args.self.now.store in
    let name = c.args.name.now in
    let number = c.in-Some.number in
    let f : ℕ → Option ℕ = λ g. if is_some (slot_of name (newest store g)) then Some g else None in
    let past : length groups ≤ number = beyond groups number (sym c.in_err-there.ensures.value) in
    let empty = slice_get_past store number (omega (arith, past, c.requires.sized)) in
    let none : f number ≡ None = ap (λ o. if is_some (slot_of name (copies.newest (unwrap_or o []))) then Some number else None) empty in
    c.from_residual.ensures
    ∙ sym (c.loop-group.invariant
    ∙ ap (λ o. first_some f (around_parent (around groups) o)) c.in-Some.is
    ∙ found_outwards f groups c.requires.parents number none
    ∙ ap (λ o. first_some f (around_parent (around groups) o)) (sym (ap (option_and_then (λ (x : Group). x.parent)) c.in_err-there.ensures.value)))
