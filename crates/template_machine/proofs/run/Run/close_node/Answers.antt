use Rattle.template_machine.proofs.Finished.{node_moves, not_held}
use Rattle.template_machine.proofs.Untaken.{closes_untouched}
use Rattle.template_machine.specs.declared.putting.Putting.{Putting}
use Rattle.std.proofs.Common.{refl, sym, subst, ap}
use Rattle.template_machine.specs.declared.run.Doing.TheVariants as doing
use Rattle.template_machine.specs.Well.{IsWell}
use Rattle.node_stack.specs.Path.{current}
use Rattle.node_stack.specs.Stack.{path}
use Rattle.template_machine.proofs.Overs.{goes_or_waits, node_left, some_end}
use Rattle.template_machine.proofs.Sourcing.{has_scopes}
use Rattle.template_machine.proofs.Lightened.{goes_on_list, load_same}
use Rattle.template_machine.proofs.Documents.{limit_in, means_kept}
use Rattle.template_machine.proofs.Spared.{goes_asks}
use Rattle.template_machine.proofs.run.Run.close_node.Goals as goal

pub close-change-requires-clause-scope : goal.close-change-requires-clause-scope
close-change-requires-clause-scope c = has_scopes c.args.self.now.source c.requires.over.steady.source

pub returns-clause-stands : goal.returns-clause-stands
returns-clause-stands c =
    let p = c.args.program.now in
    let r = c.args.self.now in
    let a = some_end (current (path r.source.stack)) c.requires.end in
    let st = c.close-change.ensures.closed in
    let m = record r { source = c.close-change.new.self; putting = c.see.new.self } in
    let w = node_left p r (record m { doing = doing.List }) a.0 c.requires.over a.1.1 a.1.0
    (record { outer = refl; aside = refl; store = refl; putting = record { targets = c.see.ensures.stands.targets; shelves = c.see.ensures.stands.shelves; holds = c.see.ensures.stands.holds } }) refl
    st.path_is st.scopes_are st.ahead_is st.held_is st.origin_is c.close-change.ensures.counts refl in
    goes_or_waits p c.list_goes_on.result m c.list_goes_on.new.self c.list_goes_on.ensures.run c.list_goes_on.ensures.step (subst (IsWell p) (sym c.list_goes_on.ensures.run) w)

pub returns-clause-works : goal.returns-clause-works
returns-clause-works c =
    let r = c.args.self.now in
    let m = record r { source = c.close-change.new.self; putting = c.see.new.self } in
    let st = c.close-change.ensures.closed in
    goes_on_list r m c.list_goes_on.new.self c.list_goes_on.ensures.run (means_kept r m refl st.origin_is (ap limit_in st.path_is) c.close-change.ensures.counts.0 refl) (load_same r m refl st.ahead_is refl)

pub returns-clause-asks : goal.returns-clause-asks
returns-clause-asks c = goes_asks c.list_goes_on.result _ c.list_goes_on.ensures.step

pub returns-clause-moves : goal.returns-clause-moves
returns-clause-moves c = λ alone listed.
    let p = c.args.program.now in
    let r = c.args.self.now in
    let st = c.close-change.ensures.closed in
    let m = record r { source = c.close-change.new.self; putting = c.see.new.self } in
    node_moves p r c.list_goes_on.new.self m c.close-change.new.self c.see.new.self c.list_goes_on.result alone (closes_untouched p r c.requires.over c.requires.end (listed c.requires.end)) c.requires.over.apart
    (not_held r.source c.requires.over.steady.source.held alone.held) c.list_goes_on.ensures.step st.path_is st.ahead_is st.held_is st.origin_is c.list_goes_on.ensures.run
    (ap (λ (x : Putting). x.buffers) c.see.ensures.rest) (ap (λ (x : Putting). x.targets) c.see.ensures.rest)
