use Rattle.std.proofs.Common.{◌+◌, Bool, if◌then◌else◌, [], ◌∷◌, Ok, Err, reverse, refl, ap, sym, subst, ◌∙◌, arith, ◌++◌}
use Rattle.std.specs.Prelude.{All}
use Rattle.frame_stack.specs.Change.{with_pc}
use Rattle.frame_stack.specs.Locals.{local}
use Rattle.instr_code.specs.Steps.{Holds}
use Rattle.instr_code.specs.declared.code.Op.TheVariants as op
use Rattle.sheet_model.specs.declared.instr.Instr.TheOpen.{Instr-F}
use Rattle.sheet_model.specs.declared.instr.Instr.TheViews.{rolls-ResultBuffer}
use Rattle.sheet_model.specs.declared.instr.LiteralAttr.{LiteralAttr}
use Rattle.template_machine.specs.Bodies.{body_in, on_body}
use Rattle.template_machine.specs.Evaluating.{TemplateCanBeEvaluated}
use Rattle.template_machine.specs.Opening.{BeginsCopy, Opens, literal_at}
use Rattle.template_machine.specs.Saying.{OpensShown, Steps}
use Rattle.template_machine.specs.Shifting.{with_more}
use Rattle.template_machine.specs.Stepwise.{Working, puts_aside, tag_of}
use Rattle.template_machine.specs.declared.run.Run.{Run}
use Rattle.template_machine.specs.declared.stop.Stop.TheVariants as stop
use Rattle.template_machine.proofs.Opened.{element_on, element_opens_so, element_stops, fuel_and_put, opens_for, opens_on, opens_memory, round_spent}
use Rattle.template_machine.proofs.Opening.{copy_on, literal_for}
use Rattle.template_machine.proofs.Deciding.{steps_answered}
use Rattle.template_machine.proofs.Saying.{stops_with}
use Rattle.template_machine.proofs.Evaluable.{can_run}
use Rattle.template_machine.proofs.Formed.{has_number}
use Rattle.template_machine.proofs.Fueled.{at_spent, runs_at}
use Rattle.template_machine.proofs.Seeing.{sees}
use Rattle.template_machine.proofs.Spelled.{element_runs, is_round, literal_runs, opened_round, out_is}
use Rattle.template_machine.proofs.Writing.{puts_at}
use Rattle.template_machine.proofs.Falling.{puts_falls, spent_on}
use Rattle.template_machine.proofs.run.Run.open_list.Goals as goal
use Rattle.template_machine.proofs.Operated.{rest_there, stays_moved}
use Rattle.template_machine.proofs.Moving.{moves_locals, moves_pc}

pub instr-instr-requires : goal.instr-instr-requires
instr-instr-requires g c =
    let f = opened_round c.args.program.now c.args.self.now c.args.running c.args.number c.args.to c.requires in
    has_number c.args.program.now.code c.args.number f.0 f.1.0

pub open_literal-requires-clause-sees : goal.open_literal-requires-clause-sees
open_literal-requires-clause-sees g c =
    let o = op.Open c.args.number c.args.to in
    let p = c.args.program.now in
    let t = c.spend.new.self in
    sees p t c.args.running.body (runs_at p t c.args.running o (at_spent p c.args.self.now t c.args.running o c.spend.ensures.same c.requires))

pub open_literal-requires-clause-attrs : goal.open_literal-requires-clause-attrs
open_literal-requires-clause-attrs g c =
    let p = c.args.program.now in
    let i = c.instr-instr.result.now in
    subst (All (λ (a : LiteralAttr). TemplateCanBeEvaluated a.value)) (sym c.as_slice.ensures)
    (literal_runs i c.in-Literal.name c.in-Literal.attrs _ _ (can_run p c.args.self.now c.requires.well.steady c.args.number i c.instr-instr.ensures) c.in-Literal.is)

pub enter_list-requires-clause-op : goal.enter_list-requires-clause-op
enter_list-requires-clause-op g c =
    let o = op.Open c.args.number c.args.to in
    let p = c.args.program.now in
    let t = c.spend.new.self in
    puts_at p t c.open_literal.new.self c.args.running o c.open_literal.ensures.only (at_spent p c.args.self.now t c.args.running o c.spend.ensures.same c.requires)

pub enter_or_pass-requires-clause-op : goal.enter_or_pass-requires-clause-op
enter_or_pass-requires-clause-op g c =
    let o = op.Open c.args.number c.args.to in
    let p = c.args.program.now in
    let t = c.spend.new.self in
    puts_at p t c.open_copy.new.self c.args.running o c.open_copy.ensures.only (at_spent p c.args.self.now t c.args.running o c.spend.ensures.same c.requires)

pub element_name-requires-clause-sees : goal.element_name-requires-clause-sees
element_name-requires-clause-sees g c =
    let o = op.Open c.args.number c.args.to in
    let p = c.args.program.now in
    let t = c.spend.new.self in
    sees p t c.args.running.body (runs_at p t c.args.running o (at_spent p c.args.self.now t c.args.running o c.spend.ensures.same c.requires))

pub element_name-requires-clause-name : goal.element_name-requires-clause-name
element_name-requires-clause-name g c =
    let p = c.args.program.now in
    let i = c.instr-instr.result.now in
    (element_runs i c.in-Element.name c.in-Element.namespace c.in-Element.scope _ _ (can_run p c.args.self.now c.requires.well.steady c.args.number i c.instr-instr.ensures)
    c.in-Element.is).0

pub element_name-requires-clause-namespace : goal.element_name-requires-clause-namespace
element_name-requires-clause-namespace g c =
    let p = c.args.program.now in
    let i = c.instr-instr.result.now in
    (element_runs i c.in-Element.name c.in-Element.namespace c.in-Element.scope _ _ (can_run p c.args.self.now c.requires.well.steady c.args.number i c.instr-instr.ensures)
    c.in-Element.is).1

pub enter_tagged-requires-clause-op : goal.enter_tagged-requires-clause-op
enter_tagged-requires-clause-op g c =
    let o = op.Open c.args.number c.args.to in
    let p = c.args.program.now in
    let t = c.spend.new.self in
    puts_at p t c.open_element.new.self c.args.running o c.open_element.ensures.only (at_spent p c.args.self.now t c.args.running o c.spend.ensures.same c.requires)

pub unreachable-requires : goal.unreachable-requires
unreachable-requires g c =
    let p = c.args.program.now in
    is_round p c.args.number c.instr-instr.result.now ⊥ (opened_round p c.args.self.now c.args.running c.args.number c.args.to c.requires) c.instr-instr.ensures
    (λ name attrs body at e. c.in_default.not-Literal name attrs body at e) (λ attributes body at e. c.in_default.not-Copy attributes body at e)
    (λ name namespace scope body at e. c.in_default.not-Element name namespace scope body at e)
    (λ name clear body at e. c.in_default.not-ResultBuffer name clear body at e)

pub returns-in_ok-open_literal-in-Literal-clause-works : goal.returns-in_ok-open_literal-in-Literal-clause-works
returns-in_ok-open_literal-in-Literal-clause-works g c =
    puts_falls c.args.program.now c.args.self.now c.spend.new.self c.open_literal.new.self c.enter_list.new.self c.requires.well.steady.places c.spend.ensures.same
    c.in_ok-spend.ensures.ok c.open_literal.ensures.only c.requires.doing c.enter_list.ensures.works

pub returns-in_ok-enter_tagged-in-Element-clause-works : goal.returns-in_ok-enter_tagged-in-Element-clause-works
returns-in_ok-enter_tagged-in-Element-clause-works g c =
    puts_falls c.args.program.now c.args.self.now c.spend.new.self c.open_element.new.self c.enter_tagged.new.self c.requires.well.steady.places c.spend.ensures.same
    c.in_ok-spend.ensures.ok c.open_element.ensures.only c.requires.doing c.in_ok-enter_tagged-in-Element.ensures.works

pub returns-in-ResultBuffer-clause-works : goal.returns-in-ResultBuffer-clause-works
returns-in-ResultBuffer-clause-works g c =
    spent_on c.args.program.now c.args.self.now c.spend.new.self c.enter_buffer.new.self 0 c.requires.well.steady.places c.spend.ensures.same c.in_ok-spend.ensures.ok
    (omega arith) c.enter_buffer.result c.enter_buffer.ensures.works

pub returns-in_ok-inside-in-Copy-clause-works : goal.returns-in_ok-inside-in-Copy-clause-works
returns-in_ok-inside-in-Copy-clause-works g c =
    puts_falls c.args.program.now c.args.self.now c.spend.new.self c.open_copy.new.self c.enter_or_pass.new.self c.requires.well.steady.places c.spend.ensures.same
    c.in_ok-spend.ensures.ok c.open_copy.ensures.only c.requires.doing c.enter_or_pass.ensures.works

-- What is done.

pub returns-in_err-spend-clause-goes : goal.returns-in_err-spend-clause-goes
returns-in_err-spend-clause-goes g c = λ shown.
    let p = c.args.program.now in
    let r = c.args.self.now in
    let e = c.in_err-spend.field-0.0 in
    subst (λ x. Steps g.S.Sink.output g.S.Sink.told p x r c.spend.new.self c.args.out.now c.args.out.now) (sym (stops_with c.from_residual.result e c.from_residual.ensures.1))
    (round_spent g.S.Sink.output g.S.Sink.told p g.met.S.Sink.nothing e r c.spend.new.self c.args.running c.args.number c.args.to c.instr-instr.result.now c.place_of.result c.args.out.now
    c.requires c.instr-instr.ensures c.place_of.ensures c.in_err-spend.ensures.spent c.in_err-spend.ensures.err c.spend.ensures.same)

pub returns-in_err-open_literal-in-Literal-clause-goes : goal.returns-in_err-open_literal-in-Literal-clause-goes
returns-in_err-open_literal-in-Literal-clause-goes g c = λ shown.
    let p = c.args.program.now in
    let r = c.args.self.now in
    let s = c.spend.new.self in
    let i = c.instr-instr.result.now in
    let at = c.place_of.result in
    let body = ap (λ (x : Run). body_in (reverse x.frames.frames)) c.spend.ensures.same ∙ c.requires.body in
    let e = c.in_err-open_literal-in-Literal.field-0.0 in
    let name = c.in-Literal.name in
    let out = c.args.out.now in
    let now = c.open_literal.new.out in
    let mid = c.open_literal.new.self in
    let verdict = λ (w : Working). Holds [] w in
    subst (λ x. Steps g.S.Sink.output g.S.Sink.told p x r mid out now) (sym (stops_with c.from_residual-in_err-open_literal-in-Literal.result e c.from_residual-in_err-open_literal-in-Literal.ensures.1))
    (opens_on g.S.Sink.output g.S.Sink.told p (Err e) r mid mid c.args.running c.args.number c.args.to (c.args.running.pc + 1) s.fuel i verdict out now c.requires c.instr-instr.ensures c.in_ok-spend.ensures.ok
    (literal_for g.S.Sink.output g.S.Sink.told p i name c.in-Literal.attrs c.in-Literal.body _ at (Err e) (record r { fuel = s.fuel }) s mid out now c.in-Literal.is c.place_of.ensures c.spend.ensures.same
    (subst (λ l. Opens {A = Unit {0}} g.S.Sink.output g.S.Sink.told p (literal_at name l c.in-Literal.body at) verdict (Err e) s mid out now) c.as_slice.ensures (c.in_err-open_literal-in-Literal.ensures.opens c.in-Literal.body body)))
    (λ given w. refl) tt refl (c.open_literal.ensures.only.rest ∙ ap (λ (x : Run). record x { putting = mid.putting }) c.spend.ensures.same))

pub returns-in_ok-open_literal-in-Literal-clause-goes : goal.returns-in_ok-open_literal-in-Literal-clause-goes
returns-in_ok-open_literal-in-Literal-clause-goes g c = λ shown.
    let p = c.args.program.now in
    let r = c.args.self.now in
    let s = c.spend.new.self in
    let i = c.instr-instr.result.now in
    let at = c.place_of.result in
    let body = ap (λ (x : Run). body_in (reverse x.frames.frames)) c.spend.ensures.same ∙ c.requires.body in
    let name = c.in-Literal.name in
    let out = c.args.out.now in
    let now = c.open_literal.new.out in
    let mid = c.open_literal.new.self in
    let verdict = λ (w : Working). Holds [] w in
    let puts_alone = c.open_literal.ensures.only.rest ∙ ap (λ (x : Run). record x { putting = mid.putting }) c.spend.ensures.same in
    opens_on g.S.Sink.output g.S.Sink.told p (Ok _) r mid c.enter_list.new.self c.args.running c.args.number c.args.to (c.args.running.pc + 1) s.fuel i verdict out now c.requires c.instr-instr.ensures c.in_ok-spend.ensures.ok
    (literal_for g.S.Sink.output g.S.Sink.told p i name c.in-Literal.attrs c.in-Literal.body _ at (Ok tt) (record r { fuel = s.fuel }) s mid out now c.in-Literal.is c.place_of.ensures c.spend.ensures.same
    (subst (λ l. Opens {A = Unit {0}} g.S.Sink.output g.S.Sink.told p (literal_at name l c.in-Literal.body at) verdict (Ok tt) s mid out now) c.as_slice.ensures (c.in_ok-open_literal-in-Literal.ensures.opens c.in-Literal.body body)))
    (λ given w. refl) (c.enter_list.ensures.behind ∙ ap (λ (x : Run). on_body (with_pc (c.args.running.pc + 1)) (reverse x.frames.frames)) puts_alone) c.enter_list.ensures.rest puts_alone

pub returns-in_err-inside-in-Copy-clause-goes : goal.returns-in_err-inside-in-Copy-clause-goes
returns-in_err-inside-in-Copy-clause-goes g c = λ shown.
    let p = c.args.program.now in
    let r = c.args.self.now in
    let s = c.spend.new.self in
    let i = c.instr-instr.result.now in
    let at = c.place_of.result in
    let e = c.in_err-inside-in-Copy.field-0.0 in
    let attributes = c.in-Copy.attributes in
    let out = c.args.out.now in
    let now = c.open_copy.new.out in
    let mid = c.open_copy.new.self in
    let begins = subst (λ (x : Run). BeginsCopy g.S.Sink.output g.S.Sink.told attributes at (Err e) x mid out now) c.spend.ensures.same c.in_err-inside-in-Copy.ensures.begins in
    subst (λ x. Steps g.S.Sink.output g.S.Sink.told p x r mid out now) (sym (stops_with c.from_residual-in_err-inside-in-Copy.result e c.from_residual-in_err-inside-in-Copy.ensures.1))
    (steps_answered {A = Bool} g.S.Sink.output g.S.Sink.told p (Err e) tt r mid out now
    (copy_on g.S.Sink.output g.S.Sink.told p (Err e) r mid mid c.args.running c.args.number c.args.to s.fuel i attributes _ _ at begins.node out now c.requires c.instr-instr.ensures c.in_ok-spend.ensures.ok
    c.in-Copy.is c.place_of.ensures begins.there begins.puts tt refl (c.open_copy.ensures.only.rest ∙ ap (λ (x : Run). record x { putting = mid.putting }) c.spend.ensures.same)))

pub returns-in_ok-inside-in-Copy-clause-goes : goal.returns-in_ok-inside-in-Copy-clause-goes
returns-in_ok-inside-in-Copy-clause-goes g c = λ shown.
    let p = c.args.program.now in
    let r = c.args.self.now in
    let s = c.spend.new.self in
    let i = c.instr-instr.result.now in
    let at = c.place_of.result in
    let inside = c.in_ok-inside-in-Copy.inside in
    let attributes = c.in-Copy.attributes in
    let out = c.args.out.now in
    let now = c.open_copy.new.out in
    let mid = c.open_copy.new.self in
    let new = c.enter_or_pass.new.self in
    let pc = c.args.running.pc + 1 in
    let puts_alone = c.open_copy.ensures.only.rest ∙ ap (λ (x : Run). record x { putting = mid.putting }) c.spend.ensures.same in
    let begins = subst (λ (x : Run). BeginsCopy g.S.Sink.output g.S.Sink.told attributes at (Ok inside) x mid out now) c.spend.ensures.same c.in_ok-inside-in-Copy.ensures.begins in
    steps_answered g.S.Sink.output g.S.Sink.told p (Ok inside) tt r new out now
    (copy_on g.S.Sink.output g.S.Sink.told p (Ok inside) r mid new c.args.running c.args.number c.args.to s.fuel i attributes _ _ at begins.node out now c.requires c.instr-instr.ensures c.in_ok-spend.ensures.ok
    c.in-Copy.is c.place_of.ensures begins.there begins.puts
    (c.enter_or_pass.ensures.behind ∙ ap (λ (x : Run). on_body (with_pc (if inside then pc else c.args.to)) (reverse x.frames.frames)) puts_alone
    ∙ ap (λ b. on_body (with_pc (if b then pc else c.args.to)) (reverse r.frames.frames)) begins.inside)
    c.enter_or_pass.ensures.rest puts_alone)

pub returns-in-ResultBuffer-clause-goes : goal.returns-in-ResultBuffer-clause-goes
returns-in-ResultBuffer-clause-goes g c = λ shown.
    absurd (subst OpensShown (out_is c.instr-instr.result.now _ (Instr-F.ResultBuffer _ _ _ _) (rolls-ResultBuffer _ _ _ _) c.in-ResultBuffer.is) (shown c.instr-instr.result.now c.instr-instr.ensures))

pub returns-in_err-name-in-Element-clause-goes : goal.returns-in_err-name-in-Element-clause-goes
returns-in_err-name-in-Element-clause-goes g c = λ shown.
    let p = c.args.program.now in
    let r = c.args.self.now in
    let s = c.spend.new.self in
    let i = c.instr-instr.result.now in
    let at = c.place_of.result in
    let body = ap (λ (x : Run). body_in (reverse x.frames.frames)) c.spend.ensures.same ∙ c.requires.body in
    let e = c.in_err-name-in-Element.field-0.0 in
    let out = c.args.out.now in
    let verdict = λ (w : Working). Holds [] w in
    subst (λ x. Steps g.S.Sink.output g.S.Sink.told p x r s out out) (sym (stops_with c.from_residual-in_err-name-in-Element.result e c.from_residual-in_err-name-in-Element.ensures.1))
    (opens_on g.S.Sink.output g.S.Sink.told p (Err e) r s s c.args.running c.args.number c.args.to (c.args.running.pc + 1) s.fuel i verdict out out c.requires c.instr-instr.ensures c.in_ok-spend.ensures.ok
    (opens_for g.S.Sink.output g.S.Sink.told p i c.in-Element.name c.in-Element.namespace c.in-Element.scope _ _ at verdict (Err e) (record r { fuel = s.fuel }) s s s out out c.in-Element.is c.place_of.ensures
    c.spend.ensures.same refl
    (element_stops g.S.Sink.output g.S.Sink.told p _ g.met.S.Sink.nothing c.in-Element.name c.in-Element.namespace c.in-Element.scope _ at verdict e s out (c.in_err-name-in-Element.ensures body)))
    (λ given w. refl) tt refl (fuel_and_put r s c.spend.ensures.same))

pub returns-in_err-open_element-in-Element-clause-goes : goal.returns-in_err-open_element-in-Element-clause-goes
returns-in_err-open_element-in-Element-clause-goes g c = λ shown.
    let p = c.args.program.now in
    let r = c.args.self.now in
    let s = c.spend.new.self in
    let i = c.instr-instr.result.now in
    let at = c.place_of.result in
    let body = ap (λ (x : Run). body_in (reverse x.frames.frames)) c.spend.ensures.same ∙ c.requires.body in
    let e = c.in_err-open_element-in-Element.field-0.0 in
    let name = c.in_ok-name-in-Element.name in
    let out = c.args.out.now in
    let now = c.open_element.new.out in
    let mid = c.open_element.new.self in
    let verdict = λ (w : Working). Holds [] (puts_aside (tag_of name) w) in
    subst (λ x. Steps g.S.Sink.output g.S.Sink.told p x r mid out now) (sym (stops_with c.from_residual-in_err-open_element-in-Element.result e c.from_residual-in_err-open_element-in-Element.ensures.1))
    (element_on g.S.Sink.output g.S.Sink.told p (Err e) r mid mid c.args.running c.args.number c.args.to s.fuel i (tag_of name) (local (record { uri = []; local = []; prefix = [] }) (tag_of name)) out now
    c.requires c.instr-instr.ensures c.in_ok-spend.ensures.ok refl refl
    (opens_for g.S.Sink.output g.S.Sink.told p i c.in-Element.name c.in-Element.namespace c.in-Element.scope _ _ at verdict (Err e) (record r { fuel = s.fuel }) s (record s { putting = mid.putting }) mid out now
    c.in-Element.is c.place_of.ensures c.spend.ensures.same c.open_element.ensures.only.rest
    (element_opens_so g.S.Sink.output g.S.Sink.told p c.in-Element.name c.in-Element.namespace c.in-Element.scope _ at name (Err e) s mid.putting out now (c.in_ok-name-in-Element.ensures body)
    c.in_err-open_element-in-Element.ensures.puts))
    tt refl (c.open_element.ensures.only.rest ∙ ap (λ (x : Run). record x { putting = mid.putting }) c.spend.ensures.same))

pub returns-in_ok-enter_tagged-in-Element-clause-goes : goal.returns-in_ok-enter_tagged-in-Element-clause-goes
returns-in_ok-enter_tagged-in-Element-clause-goes g c = λ shown.
    let p = c.args.program.now in
    let r = c.args.self.now in
    let s = c.spend.new.self in
    let i = c.instr-instr.result.now in
    let at = c.place_of.result in
    let body = ap (λ (x : Run). body_in (reverse x.frames.frames)) c.spend.ensures.same ∙ c.requires.body in
    let name = c.in_ok-name-in-Element.name in
    let out = c.args.out.now in
    let now = c.open_element.new.out in
    let mid = c.open_element.new.self in
    let new = c.enter_tagged.new.self in
    let waits = c.in_ok-enter_tagged-in-Element.ensures.behind in
    let verdict = λ (w : Working). Holds [] (puts_aside (tag_of name) w) in
    let puts_alone = c.open_element.ensures.only.rest ∙ ap (λ (x : Run). record x { putting = mid.putting }) c.spend.ensures.same in
    element_on g.S.Sink.output g.S.Sink.told p (Ok _) r mid new c.args.running c.args.number c.args.to s.fuel i (tag_of name) waits.waiting out now
    c.requires c.instr-instr.ensures c.in_ok-spend.ensures.ok waits.nameless waits.is
    (opens_for g.S.Sink.output g.S.Sink.told p i c.in-Element.name c.in-Element.namespace c.in-Element.scope _ _ at verdict (Ok _) (record r { fuel = s.fuel }) s (record s { putting = mid.putting }) mid out now
    c.in-Element.is c.place_of.ensures c.spend.ensures.same c.open_element.ensures.only.rest
    (element_opens_so g.S.Sink.output g.S.Sink.told p c.in-Element.name c.in-Element.namespace c.in-Element.scope _ at name (Ok _) s mid.putting out now (c.in_ok-name-in-Element.ensures body)
    c.in_ok-open_element-in-Element.ensures.puts))
    (waits.behind ∙ ap (λ (x : Run). on_body (with_more waits.waiting (c.args.running.pc + 1)) (reverse x.frames.frames)) puts_alone) c.enter_tagged.ensures.rest puts_alone

pub returns-in_err-enter_tagged-in-Element-clause-goes : goal.returns-in_err-enter_tagged-in-Element-clause-goes
returns-in_err-enter_tagged-in-Element-clause-goes g c = λ shown.
    let p = c.args.program.now in
    let r = c.args.self.now in
    let s = c.spend.new.self in
    let i = c.instr-instr.result.now in
    let at = c.place_of.result in
    let body = ap (λ (x : Run). body_in (reverse x.frames.frames)) c.spend.ensures.same ∙ c.requires.body in
    let name = c.in_ok-name-in-Element.name in
    let out = c.args.out.now in
    let now = c.open_element.new.out in
    let mid = c.open_element.new.self in
    let new = c.enter_tagged.new.self in
    let waiting = local (record { uri = []; local = []; prefix = [] }) (tag_of name) in
    let verdict = λ (w : Working). Holds [] (puts_aside (tag_of name) w) in
    let puts_alone = c.open_element.ensures.only.rest ∙ ap (λ (x : Run). record x { putting = mid.putting }) c.spend.ensures.same in
    subst (λ x. Steps g.S.Sink.output g.S.Sink.told p x r new out now) (sym (stops_with c.from_residual-in_err-enter_tagged-in-Element.result stop.Memory c.from_residual-in_err-enter_tagged-in-Element.ensures.1))
    (element_on g.S.Sink.output g.S.Sink.told p (Err stop.Memory) r mid new c.args.running c.args.number c.args.to s.fuel i (tag_of name) waiting out now
    c.requires c.instr-instr.ensures c.in_ok-spend.ensures.ok refl refl
    (opens_for g.S.Sink.output g.S.Sink.told p i c.in-Element.name c.in-Element.namespace c.in-Element.scope _ _ at verdict (Err stop.Memory) (record r { fuel = s.fuel }) s (record s { putting = mid.putting }) mid out now
    c.in-Element.is c.place_of.ensures c.spend.ensures.same c.open_element.ensures.only.rest
    (opens_memory g.S.Sink.output g.S.Sink.told p _ _ verdict _ s (record s { putting = mid.putting }) out now
    (element_opens_so g.S.Sink.output g.S.Sink.told p c.in-Element.name c.in-Element.namespace c.in-Element.scope _ at name (Ok _) s mid.putting out now (c.in_ok-name-in-Element.ensures body)
    c.in_ok-open_element-in-Element.ensures.puts)))
    tt c.enter_tagged.ensures.rest puts_alone)

-- What stays as it was.

pub returns-in_ok-open_literal-in-Literal-clause-keeps : goal.returns-in_ok-open_literal-in-Literal-clause-keeps
returns-in_ok-open_literal-in-Literal-clause-keeps g c = λ shown.
    let r = c.args.self.now in
    let s = c.spend.new.self in
    let mid = c.open_literal.new.self in
    let new = c.enter_list.new.self in
    let next = c.args.running.pc + 1 in
    let puts_alone = c.open_literal.ensures.only.rest ∙ ap (λ (x : Run). record x { putting = mid.putting }) c.spend.ensures.same in
    stays_moved r new (with_pc next) (λ o. next) (λ l. l) (moves_pc next)
    (rest_there r new (record r { frames = new.frames; putting = mid.putting; fuel = s.fuel }) (c.enter_list.ensures.rest ∙ ap (λ (x : Run). record x { frames = new.frames }) puts_alone) refl)
    c.args.running.pc c.requires.pc (c.enter_list.ensures.behind ∙ ap (λ (x : Run). on_body (with_pc next) (reverse x.frames.frames)) puts_alone)

pub returns-in_ok-inside-in-Copy-clause-keeps : goal.returns-in_ok-inside-in-Copy-clause-keeps
returns-in_ok-inside-in-Copy-clause-keeps g c = λ shown.
    let r = c.args.self.now in
    let s = c.spend.new.self in
    let mid = c.open_copy.new.self in
    let new = c.enter_or_pass.new.self in
    let to = if c.in_ok-inside-in-Copy.inside then c.args.running.pc + 1 else c.args.to in
    let puts_alone = c.open_copy.ensures.only.rest ∙ ap (λ (x : Run). record x { putting = mid.putting }) c.spend.ensures.same in
    stays_moved r new (with_pc to) (λ o. to) (λ l. l) (moves_pc to)
    (rest_there r new (record r { frames = new.frames; putting = mid.putting; fuel = s.fuel }) (c.enter_or_pass.ensures.rest ∙ ap (λ (x : Run). record x { frames = new.frames }) puts_alone) refl)
    c.args.running.pc c.requires.pc (c.enter_or_pass.ensures.behind ∙ ap (λ (x : Run). on_body (with_pc to) (reverse x.frames.frames)) puts_alone)

pub returns-in_ok-enter_tagged-in-Element-clause-keeps : goal.returns-in_ok-enter_tagged-in-Element-clause-keeps
returns-in_ok-enter_tagged-in-Element-clause-keeps g c = λ shown.
    let r = c.args.self.now in
    let s = c.spend.new.self in
    let mid = c.open_element.new.self in
    let new = c.enter_tagged.new.self in
    let next = c.args.running.pc + 1 in
    let waits = c.in_ok-enter_tagged-in-Element.ensures.behind in
    let puts_alone = c.open_element.ensures.only.rest ∙ ap (λ (x : Run). record x { putting = mid.putting }) c.spend.ensures.same in
    stays_moved r new (with_more waits.waiting next) (λ o. next) (λ ls. ls ++ waits.waiting ∷ []) (moves_locals next (λ ls. ls ++ waits.waiting ∷ []))
    (rest_there r new (record r { frames = new.frames; putting = mid.putting; fuel = s.fuel }) (c.enter_tagged.ensures.rest ∙ ap (λ (x : Run). record x { frames = new.frames }) puts_alone) refl)
    c.args.running.pc c.requires.pc (waits.behind ∙ ap (λ (x : Run). on_body (with_more waits.waiting next) (reverse x.frames.frames)) puts_alone)

pub returns-in-ResultBuffer-clause-keeps : goal.returns-in-ResultBuffer-clause-keeps
returns-in-ResultBuffer-clause-keeps g c = λ shown.
    absurd (subst OpensShown (out_is c.instr-instr.result.now _ (Instr-F.ResultBuffer _ _ _ _) (rolls-ResultBuffer _ _ _ _) c.in-ResultBuffer.is) (shown c.instr-instr.result.now c.instr-instr.ensures))
