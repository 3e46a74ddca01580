use Rattle.std.proofs.Common.{◌≡◌, ◌∙◌, Some, None, sym, ap}
use Rattle.std.specs.Prelude.{unwrap_or}
use Rattle.sheet_model.specs.Groups.{around}
use Rattle.template_machine.specs.Variables.{holder_in}
use Rattle.template_machine.proofs.Saying.{none_there}
use Rattle.template_machine.proofs.Valued.{assigned_there, none_holds}
use Rattle.template_machine.proofs.Assigned.{assign_stores, stores_well}
use Rattle.template_machine.proofs.Seeing.{sees}
use Rattle.template_machine.proofs.Falling.{stores_begin, still_begins}
use Rattle.template_machine.proofs.run.Run.set_in_groups.Goals as goal
use Rattle.var_store.specs.Variables.{with_value}

pub holder-requires : goal.holder-requires
holder-requires c = sees c.args.program.now c.args.self.now c.args.body c.requires

pub returns-clause-stands : goal.returns-clause-stands
returns-clause-stands c =
    let r = c.args.self.now in
    let t = record r { store = c.assign.new.self } in
    stores_well c.args.program.now r t
    (assign_stores r c.assign.new.self c.in-Some.number (with_value c.args.name.now c.args.value) c.assign.result c.assign.ensures.ok c.assign.ensures.err) c.requires.well

pub returns-clause-works : goal.returns-clause-works
returns-clause-works c = stores_begin c.args.self.now c.assign.new.self c.requires.doing

pub returns-in_default-clause-works : goal.returns-in_default-clause-works
returns-in_default-clause-works c = still_begins c.args.self.now c.requires.doing

pub returns-clause-store : goal.returns-clause-store
returns-clause-store c = λ group in_group.
    let r = c.args.self.now in
    let name = c.args.name.now in
    let gs = around c.args.program.now.sheet.groups group in
    let first : holder_in gs r.store name ≡ Some c.in-Some.number = ap (λ o. holder_in (around c.args.program.now.sheet.groups (unwrap_or o 0)) r.store name) (sym in_group) ∙ sym c.holder.ensures.first ∙ c.in-Some.is in
    ap (λ s. record r { store = s })
    (assigned_there c.assign.result c.assign.new.self name c.args.value r.store gs c.in-Some.number first c.assign.ensures.ok c.assign.ensures.absent)

pub returns-in_default-clause-store : goal.returns-in_default-clause-store
returns-in_default-clause-store c = λ group in_group.
    let r = c.args.self.now in
    let name = c.args.name.now in
    let gs = around c.args.program.now.sheet.groups group in
    let none : holder_in gs r.store name ≡ None = ap (λ o. holder_in (around c.args.program.now.sheet.groups (unwrap_or o 0)) r.store name) (sym in_group) ∙ sym c.holder.ensures.first ∙ none_there c.holder.result (λ x e. c.in_default.not-Some x e) in
    ap (λ s. record r { store = s }) (sym (none_holds name c.args.value r.store gs none))
