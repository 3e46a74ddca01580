use Rattle.std.proofs.Common.{false}
use Rattle.template_machine.proofs.Composed.{ended_by, not_stopped}
use Rattle.std.proofs.Common.{◌≡◌, ◌+◌, ◌≤◌, ◌∙◌, true, IsSome, refl, ap, sym, subst, arith}
use Rattle.std.specs.Option.{option_map}
use Rattle.node_stack.specs.Path.{can_end, last_of, parked}
use Rattle.node_stack.specs.Stack.{path}
use Rattle.template_machine.proofs.Based.{are_based, has_root}
use Rattle.template_machine.proofs.Looking.{head_asker, head_held, looked_head}
use Rattle.template_machine.proofs.Slots.{some_last}
use Rattle.template_machine.proofs.Sourcing.{has_scopes}
use Rattle.template_machine.proofs.Ways.{way_here}
use Rattle.template_machine.proofs.Lightened.{begins_shed, load_known}
use Rattle.template_machine.specs.Work.{Begins, Sheds, load}
use Rattle.template_machine.proofs.Operating.{on_ok}
use Rattle.template_machine.specs.declared.source.Ahead.TheVariants as ahead
use Rattle.template_machine.proofs.Documents.{limit_in, means_kept}
use Rattle.template_machine.proofs.run.Run.head.Goals as goal

pub hold-change-requires-clause-end : goal.hold-change-requires-clause-end
hold-change-requires-clause-end g c = sym (ap can_end (way_here (path c.args.self.now.source.stack))) ∙ c.requires.head.end

pub hold-change-requires-clause-scope : goal.hold-change-requires-clause-scope
hold-change-requires-clause-scope g c = has_scopes c.args.self.now.source c.requires.steady.source

pub end_region-requires : goal.end_region-requires
end_region-requires g c =
    let p = c.args.program.now in
    let r = c.args.self.now in
    let over : c.in_ok-over.over ≡ true = cc in
    let k = c.hold-change.ensures in
    let x = some_last (last_of (path r.source.stack).nodes) (subst (λ o. IsSome o) (way_here (path r.source.stack)) c.requires.head.there.head) in
    let n = record r { source = c.hold-change.new.self; putting = c.see.new.self } in
    head_held p r n x.0 c.requires (c.in_ok-over.ensures.region over) x.1 (record { outer = refl; aside = refl; store = refl; putting = c.see.ensures.stands }) refl
    k.held.path_is k.held.scopes_are k.held.ahead_is (k.held.held_is ∙ ap (option_map parked) x.1) k.held.origin_is k.counts

pub asker-asker-requires : goal.asker-asker-requires
asker-asker-requires g c =
    let p = c.args.program.now in
    let r = c.args.self.now in
    head_asker p r c.requires (are_based p r c.requires.steady) (has_root p r c.requires.steady)

pub take-requires-clause-head : goal.take-requires-clause-head
take-requires-clause-head g c = looked_head c.args.program.now c.args.self.now c.requires

pub returns-then-over-clause-works : goal.returns-then-over-clause-works
returns-then-over-clause-works g c =
    let r = c.args.self.now in
    let m = record r { source = c.hold-change.new.self; putting = c.see.new.self } in
    let n = c.end_region.new.self in
    let k = c.hold-change.ensures in
    let more : load m ≤ load r + (5 + 2) = omega (arith, load_known r m ahead.Held refl k.held.ahead_is refl) in
    on_ok c.end_region.result (Sheds 2 m n) (Begins 5 r n) c.end_region.ensures.works (λ s. begins_shed 2 5 r m n (means_kept r m refl k.held.origin_is (ap limit_in k.held.path_is) k.counts.0 refl) more s)

pub returns-then-over-clause-takes : goal.returns-then-over-clause-takes
returns-then-over-clause-takes g c = λ alone uncounted.
    let over : c.in_ok-over.over ≡ true = cc in
    absurd (let no : true ≡ false = sym over ∙ ended_by (c.in_ok-over.ensures.apart alone) in cc)

pub returns-clause-takes : goal.returns-clause-takes
returns-clause-takes g c = c.take.ensures.takes

pub returns-in_err-over-clause-takes : goal.returns-in_err-over-clause-takes
returns-in_err-over-clause-takes g c = λ alone uncounted. absurd (not_stopped (c.in_err-over.ensures.apart alone))
