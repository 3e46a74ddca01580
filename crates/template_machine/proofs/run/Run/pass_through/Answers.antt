use Rattle.std.proofs.Common.{refl, sym, subst, arith, false, ap, ◌∙◌, ◌≡◌}
use Rattle.template_machine.specs.Moments.{NodeIsOver}
use Rattle.template_machine.proofs.Taken.{head_over, head_still}
use Rattle.template_machine.specs.Work.{Begins}
use Rattle.template_machine.proofs.Beginning.{begins_put}
use Rattle.template_machine.proofs.Operating.{on_ok}
use Rattle.node_stack.specs.Path.{can_have_children, current}
use Rattle.node_stack.specs.Stack.{path}
use Rattle.template_machine.specs.Standing.{standing_of}
use Rattle.template_machine.specs.Ways.{here}
use Rattle.template_machine.proofs.Ways.{way_here}
use Rattle.template_machine.specs.declared.run.Run.{Run}
use Rattle.std.proofs.Common.{true, Some}
use Rattle.template_machine.specs.Behind.{StepsFrom}
use Rattle.template_machine.specs.Entering.{head_passed}
use Rattle.template_machine.specs.Scopes.{in_force}
use Rattle.template_machine.proofs.Finished.{base_there, body_moves_done, current_there}
use Rattle.template_machine.proofs.PassedThrough.{alone_put, leaf_shut, no_document, passes_left, passes_opened, passes_stopped, scope_there, uncounted_put}
use Rattle.template_machine.proofs.Saying.{stops_with}
use Rattle.template_machine.proofs.run.Run.pass_through.Goals as goal
use Rattle.template_machine.proofs.Untaken.{in_list}

pub open_pass-requires-clause-head : goal.open_pass-requires-clause-head
open_pass-requires-clause-head g c =
    let p = c.args.program.now in
    let r = c.args.self.now in
    let m = c.pass.new.self in
    head_still p r m m.putting c.pass.ensures.run c.pass.ensures.puts c.requires.head

pub leave_node-requires : goal.leave_node-requires
leave_node-requires g c =
    let p = c.args.program.now in
    let r = c.args.self.now in
    let m = c.pass.new.self in
    let n = record r { putting = m.putting } in
    let none : can_have_children (here (standing_of r).source.way) ≡ false =
    ap can_have_children (way_here (path r.source.stack)) ∙ sym (ap (λ (x : Run). can_have_children (current (path x.source.stack))) c.pass.ensures.run)
    ∙ sym c.has_list.ensures ∙ c.if-has_list.false in
    subst (NodeIsOver p) (sym c.pass.ensures.run)
    (head_over p r n c.requires.head (record { outer = refl; aside = refl; store = refl; putting = c.pass.ensures.puts }) refl refl none)

pub returns-then-has_list-clause-works : goal.returns-then-has_list-clause-works
returns-then-has_list-clause-works g c =
    on_ok c.open_pass.result (Begins 5 c.pass.new.self c.open_pass.new.self) (Begins 5 c.args.self.now c.open_pass.new.self) c.open_pass.ensures.works
    (λ b. begins_put 5 5 c.args.self.now c.pass.new.self c.open_pass.new.self c.pass.new.self.putting c.pass.ensures.run b (omega arith))

pub returns-clause-works : goal.returns-clause-works
returns-clause-works g c =
    on_ok c.leave_node.result (Begins 2 c.pass.new.self c.leave_node.new.self) (Begins 5 c.args.self.now c.leave_node.new.self) c.leave_node.ensures.works
    (λ b. begins_put 2 5 c.args.self.now c.pass.new.self c.leave_node.new.self c.pass.new.self.putting c.pass.ensures.run b (omega arith))

pub returns-then-has_list-clause-passes : goal.returns-then-has_list-clause-passes
returns-then-has_list-clause-passes g c = λ alone fresh twice.
    let p = c.args.program.now in
    let r = c.args.self.now in
    let m = c.pass.new.self in
    let rest = c.pass.ensures.run in
    let t = current_there r in
    let group = base_there p.sheet.groups c.args.base c.requires.base in
    let list : can_have_children (Some t.0) ≡ true =
    sym (ap can_have_children t.1) ∙ sym (ap (λ (x : Run). can_have_children (current (path x.source.stack))) rest) ∙ sym c.has_list.ensures ∙ c.if-has_list.true in
    passes_opened p r m c.args.base twice group.0 group.1 c.requires.head t.0 t.1 (in_force r.source.bindings) (scope_there r c.requires.head.steady.source) g.S.Sink.output g.S.Sink.told m rest c.args.out.now c.pass.new.out
    list c.open_pass.result c.open_pass.new.self (c.in_ok-pass.ensures.parts group.0 group.1 t.0 t.1)
    (c.open_pass.ensures.opens (alone_put p r m rest alone) (uncounted_put r m rest fresh) twice)

pub returns-clause-passes : goal.returns-clause-passes
returns-clause-passes g c = λ alone fresh twice.
    let p = c.args.program.now in
    let r = c.args.self.now in
    let m = c.pass.new.self in
    let rest = c.pass.ensures.run in
    let t = current_there r in
    let group = base_there p.sheet.groups c.args.base c.requires.base in
    let leaf : can_have_children (Some t.0) ≡ false =
    sym (ap can_have_children t.1) ∙ sym (ap (λ (x : Run). can_have_children (current (path x.source.stack))) rest) ∙ sym c.has_list.ensures ∙ c.if-has_list.false in
    let head = head_still p r m m.putting rest c.pass.ensures.puts c.requires.head in
    passes_left p r m c.args.base twice group.0 group.1 c.requires.head t.0 t.1 (in_force r.source.bindings) (scope_there r c.requires.head.steady.source) g.S.Sink.output g.S.Sink.told m rest c.args.out.now c.pass.new.out
    leaf c.leave_node.result c.leave_node.new.self (c.in_ok-pass.ensures.parts group.0 group.1 t.0 t.1)
    (body_moves_done p m c.leave_node.new.self false c.leave_node.result head.head.take head.apart (leaf_shut m c.has_list.result c.has_list.ensures c.if-has_list.false)
    (c.leave_node.ensures.moves (alone_put p r m rest alone)
    (λ is. absurd (no_document m is (sym c.has_list.ensures ∙ c.if-has_list.false))) (in_list m head.head.take)))

pub returns-in_err-pass-clause-passes : goal.returns-in_err-pass-clause-passes
returns-in_err-pass-clause-passes g c = λ alone fresh twice.
    let p = c.args.program.now in
    let r = c.args.self.now in
    let m = c.pass.new.self in
    let t = current_there r in
    let group = base_there p.sheet.groups c.args.base c.requires.base in
    let e = c.in_err-pass.field-0.0 in
    subst (λ x. StepsFrom g.S.Sink.output g.S.Sink.told p (λ given left f. head_passed given p twice c.args.base r left f) x m c.args.out.now c.pass.new.out)
    (sym (stops_with c.from_residual.result e c.from_residual.ensures.1))
    (passes_stopped p r m c.args.base twice group.0 group.1 c.requires.head t.0 t.1 (in_force r.source.bindings) (scope_there r c.requires.head.steady.source) g.S.Sink.output g.S.Sink.told m c.pass.ensures.run c.args.out.now c.pass.new.out
    e (c.in_err-pass.ensures.parts group.0 group.1 t.0 t.1))
