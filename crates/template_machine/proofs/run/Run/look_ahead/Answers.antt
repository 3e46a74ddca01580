use Rattle.template_machine.specs.Behind.{head_taken, list_done}
use Rattle.template_machine.specs.Still.{still}
use Rattle.template_machine.proofs.Composed.{alone_known, head_found, head_uncounted, list_found, says_nothing, steps_by}
use Rattle.template_machine.proofs.Finished.{not_held}
use Rattle.std.proofs.Common.{◌∙◌, refl, ap, sym, subst, arith}
use Rattle.node_stack.specs.Path.{can_have_children}
use Rattle.node_stack.specs.Stack.{path, path_node}
use Rattle.std.specs.Option.{option_map}
use Rattle.template_machine.specs.Sources.{FindsRoom, resumed_by, within_held, held_node}
use Rattle.template_machine.proofs.Looking.{head_looked, head_resumed, holds_head, list_ended}
use Rattle.template_machine.proofs.Ways.{way_depth, way_here}
use Rattle.template_machine.proofs.Lightened.{begins_ok, known_less, resumed_falls}
use Rattle.template_machine.specs.declared.source.Ahead.TheVariants as ahead
use Rattle.template_machine.proofs.Documents.{limit_in, means_kept, resumed_limit}
use Rattle.template_machine.proofs.run.Run.look_ahead.Goals as goal

pub head-requires : goal.head-requires
head-requires g c = head_looked c.args.program.now c.args.self.now c.requires.well c.requires.list c.in-Here.is

pub list_over-requires : goal.list_over-requires
list_over-requires g c = list_ended c.args.program.now c.args.self.now c.requires.well c.requires.list c.in-Ended.is c.requires.events

pub resume_held-requires-clause-children : goal.resume_held-requires-clause-children
resume_held-requires-clause-children g c =
    let r = c.args.self.now in
    let h = holds_head c.args.program.now r c.requires.well c.requires.list c.in-Held.is c.requires.events in
    sym (ap can_have_children (way_here (path r.source.stack))) ∙ h.list

pub resume_held-requires-clause-room : goal.resume_held-requires-clause-room
resume_held-requires-clause-room g c =
    let r = c.args.self.now in
    let h = holds_head c.args.program.now r c.requires.well c.requires.list c.in-Held.is c.requires.events in
    subst (λ o. FindsRoom (option_map path_node o) (path r.source.stack)) (sym h.is) (λ e. omega (arith, h.can.room e, way_depth (path r.source.stack)))

pub returns-in_ok-change-in-Held-clause-stands : goal.returns-in_ok-change-in-Held-clause-stands
returns-in_ok-change-in-Held-clause-stands g c =
    let p = c.args.program.now in
    let r = c.args.self.now in
    let h = holds_head p r c.requires.well c.requires.list c.in-Held.is c.requires.events in
    let k = c.in_ok-change-in-Held.ensures in
    let n = record r { putting = c.see.new.self; source = c.resume_held.new.self } in
    head_resumed p r n c.requires.well h (record { outer = refl; aside = refl; store = refl; putting = c.see.ensures.stands }) refl
    (k.ok.path_is ∙ ap (λ o. resumed_by (option_map path_node o) (path r.source.stack)) h.is)
    (k.ok.scopes_are ∙ ap (λ o. within_held (option_map path_node o) r.source.bindings) h.is) k.ok.ahead_is k.ok.origin_is k.counts c.requires.list

pub returns-in-Here-clause-works : goal.returns-in-Here-clause-works
returns-in-Here-clause-works g c =
    let r = c.args.self.now in
    let m = record r { source = record r.source { ahead = ahead.Nothing } } in
    begins_ok c.args.program.now 6 5 r m c.head.new.self c.requires.well.steady.places refl
    (known_less r m ahead.Here ahead.Nothing 6 c.in-Here.is refl refl refl refl) (omega arith) c.head.result c.head.ensures.asks c.head.ensures.works

pub returns-in_ok-change-in-Held-clause-works : goal.returns-in_ok-change-in-Held-clause-works
returns-in_ok-change-in-Held-clause-works g c =
    let r = c.args.self.now in
    let n = record r { putting = c.see.new.self; source = c.resume_held.new.self } in
    let k = c.in_ok-change-in-Held.ensures in
    resumed_falls c.args.program.now r n c.requires.well.steady.places
    (means_kept r n refl k.ok.origin_is (ap limit_in k.ok.path_is ∙ resumed_limit (held_node r.source) (path r.source.stack)) k.counts.0 refl) c.in-Held.is refl
    k.ok.ahead_is refl c.requires.list

pub returns-in-Ended-clause-works : goal.returns-in-Ended-clause-works
returns-in-Ended-clause-works g c =
    let r = c.args.self.now in
    let m = record r { source = record r.source { ahead = ahead.Nothing } } in
    begins_ok c.args.program.now 1 0 r m c.list_over.new.self c.requires.well.steady.places refl
    (known_less r m ahead.Ended ahead.Nothing 1 c.in-Ended.is refl refl refl refl) (omega arith) c.list_over.result c.list_over.ensures.asks c.list_over.ensures.works

-- What is done.

pub returns-in-Nothing-clause-steps : goal.returns-in-Nothing-clause-steps
returns-in-Nothing-clause-steps g c = λ alone.
    let p = c.args.program.now in
    let r = c.args.self.now in
    says_nothing g.S.Sink.output g.S.Sink.told g.met.S.Sink.nothing p (λ given left f. still given p r left f) c.want.result c.want.new.self c.args.out.now (c.want.ensures.moves alone)

pub returns-in-Here-clause-steps : goal.returns-in-Here-clause-steps
returns-in-Here-clause-steps g c = λ alone.
    let p = c.args.program.now in
    let r = c.args.self.now in
    let m = record r { source = record r.source { ahead = ahead.Nothing } } in
    steps_by g.S.Sink.output g.S.Sink.told p (λ given left f. still given p r left f) (λ given left f. head_taken given p m left f) c.head.result c.head.new.self c.args.out.now c.head.new.out
    (λ given program left f. head_found p r c.requires.well c.requires.list c.in-Here.is alone given left f) (c.head.ensures.takes (alone_known p r alone) (head_uncounted p r c.in-Here.is alone))

pub returns-in_ok-change-in-Held-clause-steps : goal.returns-in_ok-change-in-Held-clause-steps
returns-in_ok-change-in-Held-clause-steps g c = λ alone.
    let r = c.args.self.now in
    absurd (not_held r.source c.requires.well.steady.source.held alone.held c.in-Held.is)

pub returns-in_err-change-in-Held-clause-steps : goal.returns-in_err-change-in-Held-clause-steps
returns-in_err-change-in-Held-clause-steps g c = λ alone.
    let r = c.args.self.now in
    absurd (not_held r.source c.requires.well.steady.source.held alone.held c.in-Held.is)

pub returns-in-Ended-clause-steps : goal.returns-in-Ended-clause-steps
returns-in-Ended-clause-steps g c = λ alone.
    let p = c.args.program.now in
    let r = c.args.self.now in
    let m = record r { source = record r.source { ahead = ahead.Nothing } } in
    steps_by g.S.Sink.output g.S.Sink.told p (λ given left f. still given p r left f) (λ given left f. list_done given p m left f) c.list_over.result c.list_over.new.self c.args.out.now c.list_over.new.out
    (λ given program left f. list_found p r c.requires.list c.in-Ended.is c.requires.events given left f) (c.list_over.ensures.steps (alone_known p r alone) (alone.whole c.in-Ended.is))
