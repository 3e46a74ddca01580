use Rattle.std.proofs.Common.{◌≡◌, ◌∙◌, ◌∷◌, Some, None, refl, ap, sym}
use Rattle.node_stack.specs.Path.{PathNode, can_end, last_of}
use Rattle.node_stack.specs.Stack.{path, path_node}
use Rattle.template_machine.specs.Lists.{rest_of}
use Rattle.template_machine.specs.declared.run.Doing.TheVariants as doing
use Rattle.template_machine.proofs.Overs.{puts_aside}
use Rattle.template_machine.proofs.Slots.{aside_of, slot_filled, slot_there, waiting_from}
use Rattle.template_machine.proofs.Sourcing.{has_scopes}
use Rattle.template_machine.proofs.Ways.{way_here}
use Rattle.template_machine.proofs.Lightened.{goes_on_list, load_same}
use Rattle.template_machine.proofs.Documents.{limit_in, means_kept}
use Rattle.template_machine.proofs.run.Run.put_aside.Goals as goal

pub park-node-requires-clause-end : goal.park-node-requires-clause-end
park-node-requires-clause-end c = sym (ap can_end (way_here (path c.args.self.now.source.stack))) ∙ c.requires.end

pub park-node-requires-clause-scope : goal.park-node-requires-clause-scope
park-node-requires-clause-scope c = has_scopes c.args.self.now.source c.requires.steady.source

pub fill-requires : goal.fill-requires
fill-requires c = slot_there c.args.self.now.aside.items None c.requires.slot

pub returns-clause-stands : goal.returns-clause-stands
returns-clause-stands c =
    let p = c.args.program.now in
    let r = c.args.self.now in
    let k = c.park-node.ensures in
    let q = c.park-node.result.0 in
    let x = waiting_from (last_of (path r.source.stack).nodes) (path_node q) k.node in
    let n = record r { putting = c.see.new.self; source = c.park-node.new.self; aside = c.fill.new.aside; doing = doing.List } in
    let more = slot_there r.aside.items None c.requires.slot in
    let filled : aside_of c.fill.new.aside.items ≡ Some x.0.node ∷ rest_of (aside_of r.aside.items) =
    slot_filled r.aside.items c.fill.new.aside.items q more c.fill.ensures
    ∙ ap (λ (y : PathNode). Some y.node ∷ rest_of (aside_of r.aside.items)) (sym x.1.1) in
    puts_aside p r n x.0 c.requires refl filled x.1.0 refl c.see.ensures.stands refl k.parked.path_is k.parked.scopes_are k.parked.ahead_is k.parked.held_is k.parked.origin_is
    k.counts refl

pub returns-clause-works : goal.returns-clause-works
returns-clause-works c =
    let r = c.args.self.now in
    let m = record r { putting = c.see.new.self; source = c.park-node.new.self; aside = c.fill.new.aside } in
    let k = c.park-node.ensures in
    goes_on_list r m (record m { doing = doing.List }) refl (means_kept r m refl k.parked.origin_is (ap limit_in k.parked.path_is) k.counts.0 refl)
    (load_same r m refl k.parked.ahead_is refl)
