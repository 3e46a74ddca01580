use Rattle.std.proofs.Common.{refl}
use Rattle.template_machine.proofs.Operating.{on_ok}
use Rattle.template_machine.proofs.Varying.{scope_made}
use Rattle.template_machine.proofs.Making.{laid_standing, laid_steady, lays_scope}
use Rattle.template_machine.proofs.run.Run.enter_scope.Goals as goal
use Rattle.template_machine.proofs.Holds.{group_laid}

pub make_group-requires-clause-steady : goal.make_group-requires-clause-steady
make_group-requires-clause-steady c =
    let r = c.args.self.now in
    let store = c.enter_group.new.self in
    let new = record r.putting { buffers = c.shadow.new.self } in
    laid_steady c.args.program.now r c.args.group store new
    (laid_standing r c.args.group store new c.in_ok-enter_group.ensures.ok refl c.in_ok-shadow.ensures.ok)
    (group_laid r.putting.buffers c.shadow.new.self c.args.group c.in_ok-shadow.ensures.ok) c.requires.steady

pub returns-clause-lays : goal.returns-clause-lays
returns-clause-lays c =
    let r = c.args.self.now in
    let store = c.enter_group.new.self in
    let new = record r.putting { buffers = c.shadow.new.self } in
    on_ok c.make_group.result _ _ c.make_group.ensures.stores
    (λ o. lays_scope c.args.group r (record r { store = store; putting = new }) c.make_group.new.self refl
    (laid_standing r c.args.group store new c.in_ok-enter_group.ensures.ok refl c.in_ok-shadow.ensures.ok)
    (group_laid r.putting.buffers c.shadow.new.self c.args.group c.in_ok-shadow.ensures.ok) o)

pub returns-clause-makes : goal.returns-clause-makes
returns-clause-makes c = λ t tests passes_it.
    let p = c.args.program.now in
    let r = c.args.self.now in
    scope_made p c.args.group t r c.make_group.new.self c.enter_group.new.self c.shadow.new.self c.in_ok-enter_group.ensures.ok c.in_ok-shadow.ensures.ok c.make_group.result
    (c.make_group.ensures.makes t tests passes_it)
