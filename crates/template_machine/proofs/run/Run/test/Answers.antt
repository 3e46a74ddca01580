use Rattle.std.proofs.Common.{◌≡◌, ◌<◌, ◌+◌, ◌∙◌, Ok, Err, false, true, if◌then◌else◌, ap, get_or, length, refl, reverse, sym, subst, arith}
use Rattle.std.proofs.lemmas.Option.{slice_get_read}
use Rattle.frame_stack.specs.Change.{with_pc}
use Rattle.instr_code.specs.declared.code.Op.TheVariants as op
use Rattle.sheet_model.specs.Parts.{place}
use Rattle.sheet_model.specs.declared.instr.Instr.TheOpen.{Instr-F}
use Rattle.sheet_model.specs.declared.instr.Instr.TheViews.{rolls-Choose, rolls-If, rolls-While}
use Rattle.template_machine.specs.Bodies.{body_in, on_body}
use Rattle.template_machine.specs.Saying.{Carries, Gave, sight}
use Rattle.template_machine.specs.Values.{truth_of}
use Rattle.template_machine.specs.declared.run.Run.{Run}
use Rattle.template_machine.specs.declared.stop.Stop.TheVariants as stop
use Rattle.template_machine.proofs.Arms.{arm_runs, arm_within, branches, if_is, if_runs, seen_at, seen_spent, while_is, while_runs, chooses}
use Rattle.template_machine.proofs.Formed.{has_number, test_is, tested}
use Rattle.template_machine.proofs.Fueled.{at_spent}
use Rattle.template_machine.proofs.Deciding.{branch_carries, branch_stops, fuel_alone, if_carries, if_spent, if_stops}
use Rattle.template_machine.proofs.Falling.{spent_falls}
use Rattle.template_machine.proofs.Rounding.{loop_ends, loop_goes, loop_spent, loop_stops}
use Rattle.template_machine.proofs.Saying.{stops_with}
use Rattle.template_machine.proofs.Spelled.{out_is}
use Rattle.template_machine.proofs.run.Run.test.Goals as goal
use Rattle.template_machine.proofs.Operated.{rest_there, stays_moved, stays_out_of_loop}
use Rattle.template_machine.proofs.Moving.{moves_pc}

pub instr-instr-requires : goal.instr-instr-requires
instr-instr-requires c =
    let t = tested c.args.program.now c.args.self.now c.args.running c.args.number c.args.arm c.args.to c.requires in
    has_number c.args.program.now.code c.args.number t.0 t.1.0

pub holds-requires-clause-sees : goal.holds-requires-clause-sees
holds-requires-clause-sees c =
    seen_spent c.args.program.now c.args.self.now c.spend.new.self c.args.running (op.Test c.args.number c.args.arm c.args.to) c.spend.ensures.same c.requires

pub holds-requires-clause-test : goal.holds-requires-clause-test
holds-requires-clause-test c =
    if_runs c.args.program.now c.args.self.now c.args.running (op.Test c.args.number c.args.arm c.args.to) c.requires c.args.number c.instr-instr.result.now
    c.instr-instr.ensures c.in-If.test _ _ _ c.in-If.is

pub branch-self-requires-clause-form : goal.branch-self-requires-clause-form
branch-self-requires-clause-form c = if_is c.args.program.now.code c.args.number c.instr-instr.result.now _ _ _ _ c.instr-instr.ensures c.in-If.is

pub bounds-as_slice-arm : goal.bounds-as_slice-arm
bounds-as_slice-arm c =
    subst (λ l. c.args.arm < length l) (sym c.as_slice.ensures)
    (arm_within c.args.program.now c.args.self.now c.args.running c.args.number c.args.arm c.args.to c.instr-instr.result.now c.in-Choose.whens _ _ c.requires
    c.instr-instr.ensures c.in-Choose.is)

pub holds-requires-in-Choose-clause-sees : goal.holds-requires-in-Choose-clause-sees
holds-requires-in-Choose-clause-sees c =
    seen_at c.args.program.now c.args.self.now c.args.running (op.Test c.args.number c.args.arm c.args.to) c.requires

pub holds-requires-in-Choose-clause-test : goal.holds-requires-in-Choose-clause-test
holds-requires-in-Choose-clause-test c =
    let whens = c.in-Choose.whens in
    let w = c.index-as_slice-arm.result in
    let less = arm_within c.args.program.now c.args.self.now c.args.running c.args.number c.args.arm c.args.to c.instr-instr.result.now whens _ _ c.requires c.instr-instr.ensures
    c.in-Choose.is in
    let is : w ≡ get_or whens c.args.arm w = c.index-as_slice-arm.is ∙ ap (λ l. get_or l c.args.arm w) c.as_slice.ensures in
    arm_runs c.args.program.now c.args.self.now c.args.running (op.Test c.args.number c.args.arm c.args.to) c.requires c.args.number c.instr-instr.result.now
    c.instr-instr.ensures whens _ _ c.args.arm w c.in-Choose.is (slice_get_read whens (length whens) c.args.arm w refl less is)

pub branch-self-requires-in-Choose-clause-form : goal.branch-self-requires-in-Choose-clause-form
branch-self-requires-in-Choose-clause-form c =
    branches c.args.program.now.code c.args.number c.instr-instr.result.now _ _ _ c.instr-instr.ensures c.in-Choose.is

pub holds-requires-in-While-clause-sees : goal.holds-requires-in-While-clause-sees
holds-requires-in-While-clause-sees c =
    seen_at c.args.program.now c.args.self.now c.args.running (op.Test c.args.number c.args.arm c.args.to) c.requires

pub holds-requires-in-While-clause-test : goal.holds-requires-in-While-clause-test
holds-requires-in-While-clause-test c =
    while_runs c.args.program.now c.args.self.now c.args.running (op.Test c.args.number c.args.arm c.args.to) c.requires c.args.number c.instr-instr.result.now
    c.instr-instr.ensures c.in-While.test _ _ c.in-While.is

pub unreachable-requires : goal.unreachable-requires
unreachable-requires c =
    test_is c.args.program.now c.args.self.now c.args.running c.args.number c.args.arm c.args.to c.instr-instr.result.now ⊥ c.requires c.instr-instr.ensures
    (λ test body other at e. c.in_default.not-If test body other at e)
    (λ whens other at e. c.in_default.not-Choose whens other at e)
    (λ test body at e. c.in_default.not-While test body at e)

pub branch-self-requires-clause-op : goal.branch-self-requires-clause-op
branch-self-requires-clause-op c = at_spent c.args.program.now c.args.self.now c.spend.new.self c.args.running (op.Test c.args.number c.args.arm c.args.to) c.spend.ensures.same c.requires

pub begin_turn-requires-clause-form : goal.begin_turn-requires-clause-form
begin_turn-requires-clause-form c = while_is c.args.program.now.code c.args.number c.instr-instr.result.now _ _ _ c.instr-instr.ensures c.in-While.is

pub end_loop-requires-clause-form : goal.end_loop-requires-clause-form
end_loop-requires-clause-form c = while_is c.args.program.now.code c.args.number c.instr-instr.result.now _ _ _ c.instr-instr.ensures c.in-While.is

pub returns-in_ok-holds-in-If-clause-works : goal.returns-in_ok-holds-in-If-clause-works
returns-in_ok-holds-in-If-clause-works c =
    spent_falls c.args.program.now c.args.self.now c.spend.new.self c.branch-self.new.self 0 c.requires.well.steady.places c.spend.ensures.same c.in_ok-spend-in-If.ensures.ok (omega arith) c.branch-self.ensures.works

pub returns-in_ok-holds-in-Choose-clause-works : goal.returns-in_ok-holds-in-Choose-clause-works
returns-in_ok-holds-in-Choose-clause-works c =
    c.branch-self-in-Choose.ensures.chooses (chooses c.args.program.now.code c.args.number c.instr-instr.result.now _ _ _ c.instr-instr.ensures c.in-Choose.is)

pub returns-then-holds-clause-works : goal.returns-then-holds-clause-works
returns-then-holds-clause-works c =
    spent_falls c.args.program.now c.args.self.now c.spend-then-holds.new.self c.begin_turn.new.self 0 c.requires.well.steady.places c.spend-then-holds.ensures.same c.in_ok-spend-in-While.ensures.ok (omega arith) c.begin_turn.ensures.works

-- What is done.

pub returns-in_err-spend-in-If-clause-goes : goal.returns-in_err-spend-in-If-clause-goes
returns-in_err-spend-in-If-clause-goes c =
    let it = c.instr-instr.result.now in
    let e = c.in_err-spend-in-If.field-0.0 in
    let out = out_is it _ (Instr-F.If c.in-If.test _ _ _) (rolls-If _ _ _ _) c.in-If.is in
    subst (λ r. Carries c.args.program.now r c.args.self.now c.spend.new.self) (sym (stops_with c.from_residual.result e c.from_residual.ensures.1 ∙ ap Err (c.in_err-spend-in-If.ensures.spent ∙ ap (λ x. stop.Spent x) (c.place_of.ensures ∙ ap place out))))
    (if_spent c.args.program.now c.args.self.now c.spend.new.self c.args.running c.args.number c.args.arm c.args.to it c.in-If.test _ _ _ c.requires c.instr-instr.ensures out
    c.in_err-spend-in-If.ensures.err c.spend.ensures.same)

pub returns-in_err-holds-in-If-clause-goes : goal.returns-in_err-holds-in-If-clause-goes
returns-in_err-holds-in-If-clause-goes c =
    let it = c.instr-instr.result.now in
    let p = c.args.program.now in
    let r = c.args.self.now in
    let s = c.spend.new.self in
    let e = c.in_err-holds-in-If.field-0.0 in
    let out = out_is it _ (Instr-F.If c.in-If.test _ _ _) (rolls-If _ _ _ _) c.in-If.is in
    let body = ap (λ (x : Run). body_in (reverse x.frames.frames)) c.spend.ensures.same ∙ c.requires.body in
    subst (λ x. Carries p x r s) (sym (stops_with c.from_residual-in_err-holds-in-If.result e c.from_residual-in_err-holds-in-If.ensures.1))
    (if_stops p r s c.args.running c.args.number c.args.arm c.args.to s.fuel it c.in-If.test _ _ _ e c.requires c.instr-instr.ensures out c.in_ok-spend-in-If.ensures.ok
    (subst (λ k. Gave k (Err e) (truth_of c.in-If.test (sight p r))) (c.place_of.ensures ∙ ap place out)
    (subst (λ x. Gave c.place_of.result (Err e) (truth_of c.in-If.test x)) (ap (sight p) c.spend.ensures.same) (c.in_err-holds-in-If.ensures body)))
    (fuel_alone r s c.spend.ensures.same))

pub returns-in_ok-holds-in-If-clause-goes : goal.returns-in_ok-holds-in-If-clause-goes
returns-in_ok-holds-in-If-clause-goes c =
    let it = c.instr-instr.result.now in
    let p = c.args.program.now in
    let r = c.args.self.now in
    let s = c.spend.new.self in
    let new = c.branch-self.new.self in
    let holds = c.in_ok-holds-in-If.holds in
    let out = out_is it _ (Instr-F.If c.in-If.test _ _ _) (rolls-If _ _ _ _) c.in-If.is in
    let body = ap (λ (x : Run). body_in (reverse x.frames.frames)) c.spend.ensures.same ∙ c.requires.body in
    if_carries p r new c.args.running c.args.number c.args.arm c.args.to s.fuel it c.in-If.test _ _ _ holds _ c.requires c.instr-instr.ensures out c.in_ok-spend-in-If.ensures.ok
    (subst (λ x. truth_of c.in-If.test x ≡ Ok holds) (ap (sight p) c.spend.ensures.same) (c.in_ok-holds-in-If.ensures body))
    (c.branch-self.ensures.behind ∙ ap (λ (x : Run). on_body (with_pc (if holds then c.args.running.pc + 1 else c.args.to)) (reverse x.frames.frames)) c.spend.ensures.same)
    (c.branch-self.ensures.rest ∙ ap (λ (x : Run). record x { frames = new.frames }) c.spend.ensures.same)

pub returns-in_err-holds-in-Choose-clause-goes : goal.returns-in_err-holds-in-Choose-clause-goes
returns-in_err-holds-in-Choose-clause-goes c =
    let it = c.instr-instr.result.now in
    let p = c.args.program.now in
    let r = c.args.self.now in
    let e = c.in_err-holds-in-Choose.field-0.0 in
    let whens = c.in-Choose.whens in
    let w = c.index-as_slice-arm.result in
    let out = out_is it _ (Instr-F.Choose whens _ _) (rolls-Choose _ _ _) c.in-Choose.is in
    let less = arm_within p r c.args.running c.args.number c.args.arm c.args.to it whens _ _ c.requires c.instr-instr.ensures c.in-Choose.is in
    let there : w ≡ get_or whens c.args.arm w = c.index-as_slice-arm.is ∙ ap (λ l. get_or l c.args.arm w) c.as_slice.ensures in
    subst (λ x. Carries p x r r) (sym (stops_with c.from_residual-in_err-holds-in-Choose.result e c.from_residual-in_err-holds-in-Choose.ensures.1))
    (branch_stops p r c.args.running c.args.number c.args.arm c.args.to it whens _ _ w e c.requires c.instr-instr.ensures out (slice_get_read whens (length whens) c.args.arm w refl less there)
    (subst (λ k. Gave k (Err e) (truth_of w.test (sight p r))) (c.place_of.ensures ∙ ap place out) (c.in_err-holds-in-Choose.ensures c.requires.body)))

pub returns-in_ok-holds-in-Choose-clause-goes : goal.returns-in_ok-holds-in-Choose-clause-goes
returns-in_ok-holds-in-Choose-clause-goes c =
    let it = c.instr-instr.result.now in
    let p = c.args.program.now in
    let r = c.args.self.now in
    let holds = c.in_ok-holds-in-Choose.holds in
    let whens = c.in-Choose.whens in
    let w = c.index-as_slice-arm.result in
    let out = out_is it _ (Instr-F.Choose whens _ _) (rolls-Choose _ _ _) c.in-Choose.is in
    let less = arm_within p r c.args.running c.args.number c.args.arm c.args.to it whens _ _ c.requires c.instr-instr.ensures c.in-Choose.is in
    let there : w ≡ get_or whens c.args.arm w = c.index-as_slice-arm.is ∙ ap (λ l. get_or l c.args.arm w) c.as_slice.ensures in
    branch_carries p r c.branch-self-in-Choose.new.self c.args.running c.args.number c.args.arm c.args.to it whens _ _ w holds _ c.requires c.instr-instr.ensures out
    (slice_get_read whens (length whens) c.args.arm w refl less there) (c.in_ok-holds-in-Choose.ensures c.requires.body) c.branch-self-in-Choose.ensures.behind c.branch-self-in-Choose.ensures.rest

pub returns-in_err-holds-in-While-clause-goes : goal.returns-in_err-holds-in-While-clause-goes
returns-in_err-holds-in-While-clause-goes c =
    let it = c.instr-instr.result.now in
    let p = c.args.program.now in
    let r = c.args.self.now in
    let e = c.in_err-holds-in-While.field-0.0 in
    let out = out_is it _ (Instr-F.While c.in-While.test _ _) (rolls-While _ _ _) c.in-While.is in
    subst (λ x. Carries p x r r) (sym (stops_with c.from_residual-in_err-holds-in-While.result e c.from_residual-in_err-holds-in-While.ensures.1))
    (loop_stops p r c.args.running c.args.number c.args.arm c.args.to it c.in-While.test _ _ e c.requires c.instr-instr.ensures out
    (subst (λ k. Gave k (Err e) (truth_of c.in-While.test (sight p r))) (c.place_of.ensures ∙ ap place out) (c.in_err-holds-in-While.ensures c.requires.body)))

pub returns-in_err-spend-in-While-clause-goes : goal.returns-in_err-spend-in-While-clause-goes
returns-in_err-spend-in-While-clause-goes c =
    let it = c.instr-instr.result.now in
    let p = c.args.program.now in
    let r = c.args.self.now in
    let e = c.in_err-spend-in-While.field-0.0 in
    let out = out_is it _ (Instr-F.While c.in-While.test _ _) (rolls-While _ _ _) c.in-While.is in
    let truth : truth_of c.in-While.test (sight p r) ≡ Ok true = c.in_ok-holds-in-While.ensures c.requires.body ∙ ap Ok c.if-holds.true in
    subst (λ x. Carries p x r c.spend-then-holds.new.self) (sym (stops_with c.from_residual-in_err-spend-in-While.result e c.from_residual-in_err-spend-in-While.ensures.1 ∙ ap Err (c.in_err-spend-in-While.ensures.spent ∙ ap (λ x. stop.Spent x) (c.place_of.ensures ∙ ap place out))))
    (loop_spent p r c.spend-then-holds.new.self c.args.running c.args.number c.args.arm c.args.to it c.in-While.test _ _ c.requires c.instr-instr.ensures out truth
    c.in_err-spend-in-While.ensures.err c.spend-then-holds.ensures.same)

pub returns-then-holds-clause-goes : goal.returns-then-holds-clause-goes
returns-then-holds-clause-goes c =
    let it = c.instr-instr.result.now in
    let p = c.args.program.now in
    let r = c.args.self.now in
    let s = c.spend-then-holds.new.self in
    let new = c.begin_turn.new.self in
    let out = out_is it _ (Instr-F.While c.in-While.test _ _) (rolls-While _ _ _) c.in-While.is in
    let truth : truth_of c.in-While.test (sight p r) ≡ Ok true = c.in_ok-holds-in-While.ensures c.requires.body ∙ ap Ok c.if-holds.true in
    loop_goes p r new c.args.running c.args.number c.args.arm c.args.to s.fuel it c.in-While.test _ _ _ c.requires c.instr-instr.ensures out truth c.in_ok-spend-in-While.ensures.ok
    (c.begin_turn.ensures.behind ∙ ap (λ (x : Run). on_body (with_pc (c.args.running.pc + 1)) (reverse x.frames.frames)) c.spend-then-holds.ensures.same)
    (c.begin_turn.ensures.rest ∙ ap (λ (x : Run). record x { frames = new.frames }) c.spend-then-holds.ensures.same)

pub returns-else-holds-clause-goes : goal.returns-else-holds-clause-goes
returns-else-holds-clause-goes c =
    let it = c.instr-instr.result.now in
    let p = c.args.program.now in
    let r = c.args.self.now in
    let l = c.end_loop.ensures.behind in
    let out = out_is it _ (Instr-F.While c.in-While.test _ _) (rolls-While _ _ _) c.in-While.is in
    let truth : truth_of c.in-While.test (sight p r) ≡ Ok false = c.in_ok-holds-in-While.ensures c.requires.body ∙ ap Ok c.if-holds.false in
    loop_ends p r c.end_loop.new.self c.args.running c.args.number c.args.arm c.args.to l.turn l.others it c.in-While.test _ _ _ c.requires c.instr-instr.ensures out truth l.top l.behind c.end_loop.ensures.rest

-- What stays as it was.

pub returns-in_ok-holds-in-If-clause-keeps : goal.returns-in_ok-holds-in-If-clause-keeps
returns-in_ok-holds-in-If-clause-keeps c =
    let r = c.args.self.now in
    let s = c.spend.new.self in
    let new = c.branch-self.new.self in
    let to = if c.in_ok-holds-in-If.holds then c.args.running.pc + 1 else c.args.to in (
      refl,
      stays_moved r new (with_pc to) (λ o. to) (λ l. l) (moves_pc to)
          (rest_there r new (record r { frames = new.frames; fuel = s.fuel }) (c.branch-self.ensures.rest ∙ ap (λ (x : Run). record x { frames = new.frames }) c.spend.ensures.same) refl)
          c.args.running.pc c.requires.pc (c.branch-self.ensures.behind ∙ ap (λ (x : Run). on_body (with_pc to) (reverse x.frames.frames)) c.spend.ensures.same),
    )

pub returns-in_ok-holds-in-Choose-clause-keeps : goal.returns-in_ok-holds-in-Choose-clause-keeps
returns-in_ok-holds-in-Choose-clause-keeps c =
    let r = c.args.self.now in
    let new = c.branch-self-in-Choose.new.self in
    let to = if c.in_ok-holds-in-Choose.holds then c.args.running.pc + 1 else c.args.to in (
      refl,
      stays_moved r new (with_pc to) (λ o. to) (λ l. l) (moves_pc to) (rest_there r new (record r { frames = new.frames }) c.branch-self-in-Choose.ensures.rest refl) c.args.running.pc c.requires.pc
          c.branch-self-in-Choose.ensures.behind,
    )

pub returns-then-holds-clause-keeps : goal.returns-then-holds-clause-keeps
returns-then-holds-clause-keeps c =
    let r = c.args.self.now in
    let s = c.spend-then-holds.new.self in
    let new = c.begin_turn.new.self in
    let next = c.args.running.pc + 1 in (
      refl,
      stays_moved r new (with_pc next) (λ o. next) (λ l. l) (moves_pc next)
          (rest_there r new (record r { frames = new.frames; fuel = s.fuel }) (c.begin_turn.ensures.rest ∙ ap (λ (x : Run). record x { frames = new.frames }) c.spend-then-holds.ensures.same) refl)
          c.args.running.pc c.requires.pc (c.begin_turn.ensures.behind ∙ ap (λ (x : Run). on_body (with_pc next) (reverse x.frames.frames)) c.spend-then-holds.ensures.same),
    )

pub returns-else-holds-clause-keeps : goal.returns-else-holds-clause-keeps
returns-else-holds-clause-keeps c =
    let r = c.args.self.now in
    let new = c.end_loop.new.self in
    let l = c.end_loop.ensures.behind in
    let to = c.args.to in (
      refl,
      stays_out_of_loop r new (with_pc to) (λ o. to) (λ l. l) (moves_pc to) (rest_there r new (record r { frames = new.frames }) c.end_loop.ensures.rest refl) c.args.running.pc l.turn l.others c.requires.pc
          l.top l.behind,
    )
