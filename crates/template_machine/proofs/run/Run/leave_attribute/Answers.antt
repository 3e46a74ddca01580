use Rattle.template_machine.proofs.Finished.{node_moves, not_held}
use Rattle.template_machine.proofs.Untaken.{attribute_untouched}
use Rattle.std.proofs.Common.{refl, sym, subst, ap}
use Rattle.template_machine.specs.declared.run.Doing.TheVariants as doing
use Rattle.template_machine.specs.Well.{IsWell}
use Rattle.node_stack.specs.Path.{current}
use Rattle.node_stack.specs.Stack.{path}
use Rattle.template_machine.proofs.Overs.{goes_or_waits, node_left, some_attribute}
use Rattle.template_machine.proofs.Lightened.{goes_on_list}
use Rattle.template_machine.proofs.Documents.{limit_in, means_kept}
use Rattle.template_machine.proofs.Spared.{goes_asks}
use Rattle.template_machine.proofs.run.Run.leave_attribute.Goals as goal
use Rattle.template_machine.proofs.Shelved.{stands_still}

pub returns-clause-stands : goal.returns-clause-stands
returns-clause-stands c =
    let p = c.args.program.now in
    let r = c.args.self.now in
    let a = some_attribute (current (path r.source.stack)) c.requires.attribute in
    let m = record r { source = record r.source { stack = c.leave_attribute.new.self } } in
    let w = node_left p r (record m { doing = doing.List }) a.0 c.requires.over a.1.1 a.1.0 (record { outer = refl; aside = refl; store = refl; putting = stands_still _ }) refl
    c.leave_attribute.ensures (sym (a.1.2 r.source.bindings)) refl refl refl (refl, refl) refl in
    goes_or_waits p c.list_goes_on.result m c.list_goes_on.new.self c.list_goes_on.ensures.run c.list_goes_on.ensures.step (subst (IsWell p) (sym c.list_goes_on.ensures.run) w)

pub returns-clause-works : goal.returns-clause-works
returns-clause-works c =
    let r = c.args.self.now in
    let m = record r { source = record r.source { stack = c.leave_attribute.new.self } } in
    goes_on_list r m c.list_goes_on.new.self c.list_goes_on.ensures.run (means_kept r m refl refl (ap limit_in c.leave_attribute.ensures) refl refl) refl

pub returns-clause-asks : goal.returns-clause-asks
returns-clause-asks c = goes_asks c.list_goes_on.result _ c.list_goes_on.ensures.step

pub returns-clause-moves : goal.returns-clause-moves
returns-clause-moves c = λ alone.
    let p = c.args.program.now in
    let r = c.args.self.now in
    let m = record r { source = record r.source { stack = c.leave_attribute.new.self } } in
    node_moves p r c.list_goes_on.new.self m (record r.source { stack = c.leave_attribute.new.self }) r.putting c.list_goes_on.result alone
    (attribute_untouched p r c.requires.over c.requires.attribute alone) c.requires.over.apart
    (not_held r.source c.requires.over.steady.source.held alone.held) c.list_goes_on.ensures.step c.leave_attribute.ensures refl refl refl c.list_goes_on.ensures.run refl refl
