use Rattle.std.proofs.Common.{◌≡◌, ◌∷◌, ◌++◌, ◌+◌, ◌∙◌, refl, [], Ok, Err, ap, arith, reverse, subst, sym}
use Rattle.frame_stack.specs.Change.{with_pc}
use Rattle.frame_stack.specs.declared.frame.Frame.TheVariants.{Loop}
use Rattle.instr_code.specs.declared.code.Op.TheVariants as op
use Rattle.sheet_model.specs.Parts.{place}
use Rattle.sheet_model.specs.declared.instr.Instr.TheOpen.{Instr-F}
use Rattle.sheet_model.specs.declared.instr.Instr.TheViews.{rolls-Choose, rolls-ForEachItem, rolls-While}
use Rattle.template_machine.specs.Bodies.{body_in, on_body}
use Rattle.template_machine.specs.Saying.{Carries, Gave, sight}
use Rattle.template_machine.specs.Shifting.{OpensWalk, with_more}
use Rattle.template_machine.specs.Values.{atoms_of}
use Rattle.template_machine.specs.declared.run.Run.{Run}
use Rattle.template_machine.specs.declared.stop.Stop.TheVariants as stop
use Rattle.template_machine.proofs.Arms.{chooses, seen_spent, walk_runs, walks, while_is}
use Rattle.template_machine.proofs.Formed.{begin_is, begins, has_number}
use Rattle.template_machine.proofs.Fueled.{at_spent}
use Rattle.template_machine.proofs.Falling.{spent_falls}
use Rattle.template_machine.proofs.Shelved.{ok_given}
use Rattle.template_machine.proofs.Rounding.{begin_stops, choice_begins, loop_begins, loop_memory, memory_stops}
use Rattle.template_machine.proofs.Deciding.{fuel_alone}
use Rattle.template_machine.proofs.Itemized.{walk_opens, walk_stops}
use Rattle.template_machine.proofs.Saying.{stops_with}
use Rattle.template_machine.proofs.Spelled.{out_is}
use Rattle.template_machine.proofs.run.Run.begin_round.Goals as goal
use Rattle.template_machine.proofs.Operated.{rest_there, stays_in_loop, stays_moved}
use Rattle.template_machine.proofs.Moving.{moves_locals, moves_pc}

pub instr-instr-requires : goal.instr-instr-requires
instr-instr-requires c =
    let b = begins c.args.program.now c.args.self.now c.args.running c.args.number c.requires in
    has_number c.args.program.now.code c.args.number b.0 b.1.0

pub begin_choice-requires-clause-form : goal.begin_choice-requires-clause-form
begin_choice-requires-clause-form c = chooses c.args.program.now.code c.args.number c.instr-instr.result.now _ _ _ c.instr-instr.ensures c.in-Choose.is

pub value-requires-clause-sees : goal.value-requires-clause-sees
value-requires-clause-sees c =
    seen_spent c.args.program.now c.args.self.now c.spend.new.self c.args.running (op.Begin c.args.number) c.spend.ensures.same c.requires

pub value-requires-clause-select : goal.value-requires-clause-select
value-requires-clause-select c =
    walk_runs c.args.program.now c.args.self.now c.args.running (op.Begin c.args.number) c.requires c.args.number c.instr-instr.result.now c.instr-instr.ensures
    _ c.in-ForEachItem.select _ _ c.in-ForEachItem.is

pub unreachable-requires : goal.unreachable-requires
unreachable-requires c =
    begin_is c.args.program.now c.args.self.now c.args.running c.args.number c.instr-instr.result.now ⊥ c.requires c.instr-instr.ensures
    (λ whens other at e. c.in_default.not-Choose whens other at e)
    (λ test body at e. c.in_default.not-While test body at e)
    (λ name select body at e. c.in_default.not-ForEachItem name select body at e)

pub begin_choice-requires-clause-op : goal.begin_choice-requires-clause-op
begin_choice-requires-clause-op c = at_spent c.args.program.now c.args.self.now c.spend.new.self c.args.running (op.Begin c.args.number) c.spend.ensures.same c.requires

pub begin_loop-requires-clause-op : goal.begin_loop-requires-clause-op
begin_loop-requires-clause-op c = at_spent c.args.program.now c.args.self.now c.spend.new.self c.args.running (op.Begin c.args.number) c.spend.ensures.same c.requires

pub begin_loop-requires-clause-form : goal.begin_loop-requires-clause-form
begin_loop-requires-clause-form c = while_is c.args.program.now.code c.args.number c.instr-instr.result.now _ _ _ c.instr-instr.ensures c.in-While.is

pub begin_walk-requires-clause-op : goal.begin_walk-requires-clause-op
begin_walk-requires-clause-op c = at_spent c.args.program.now c.args.self.now c.spend.new.self c.args.running (op.Begin c.args.number) c.spend.ensures.same c.requires

pub begin_walk-requires-clause-form : goal.begin_walk-requires-clause-form
begin_walk-requires-clause-form c =
    walks c.args.program.now.code c.args.number c.instr-instr.result.now _ _ _ _ c.instr-instr.ensures c.in-ForEachItem.is

pub returns-in-Choose-clause-works : goal.returns-in-Choose-clause-works
returns-in-Choose-clause-works c =
    spent_falls c.args.program.now c.args.self.now c.spend.new.self c.begin_choice.new.self 0 c.requires.well.steady.places c.spend.ensures.same c.in_ok-spend.ensures.ok (omega arith) c.begin_choice.ensures.works

pub returns-in_ok-pushed-in-While-clause-works : goal.returns-in_ok-pushed-in-While-clause-works
returns-in_ok-pushed-in-While-clause-works c =
    spent_falls c.args.program.now c.args.self.now c.spend.new.self c.begin_loop.new.self 1 c.requires.well.steady.places c.spend.ensures.same c.in_ok-spend.ensures.ok (omega arith)
    (ok_given c.begin_loop.result _ _ _ c.in_ok-pushed-in-While.ensures _ c.begin_loop.ensures.works)

pub returns-in_ok-pushed-in-ForEachItem-clause-works : goal.returns-in_ok-pushed-in-ForEachItem-clause-works
returns-in_ok-pushed-in-ForEachItem-clause-works c =
    spent_falls c.args.program.now c.args.self.now c.spend.new.self c.begin_walk.new.self 1 c.requires.well.steady.places c.spend.ensures.same c.in_ok-spend.ensures.ok (omega arith)
    (ok_given c.begin_walk.result _ _ _ c.in_ok-pushed-in-ForEachItem.ensures _ c.begin_walk.ensures.works)

-- What is done.

pub returns-in_err-spend-clause-goes : goal.returns-in_err-spend-clause-goes
returns-in_err-spend-clause-goes c =
    let it = c.instr-instr.result.now in
    let p = c.args.program.now in
    let r = c.args.self.now in
    let e = c.in_err-spend.field-0.0 in
    subst (λ x. Carries p x r c.spend.new.self) (sym (stops_with c.from_residual.result e c.from_residual.ensures.1 ∙ ap Err (c.in_err-spend.ensures.spent ∙ ap (λ x. stop.Spent x) c.place_of-at.ensures)))
    (begin_stops p r c.spend.new.self c.args.running c.args.number it c.requires c.instr-instr.ensures c.in_err-spend.ensures.err c.spend.ensures.same)

pub returns-in-Choose-clause-goes : goal.returns-in-Choose-clause-goes
returns-in-Choose-clause-goes c =
    let it = c.instr-instr.result.now in
    let p = c.args.program.now in
    let r = c.args.self.now in
    let s = c.spend.new.self in
    let new = c.begin_choice.new.self in
    let out = out_is it _ (Instr-F.Choose c.in-Choose.whens _ _) (rolls-Choose _ _ _) c.in-Choose.is in
    choice_begins p r new c.args.running c.args.number s.fuel it c.in-Choose.whens _ _ _ c.requires c.instr-instr.ensures out c.in_ok-spend.ensures.ok
    (c.begin_choice.ensures.behind ∙ ap (λ (x : Run). on_body (with_pc (c.args.running.pc + 1)) (reverse x.frames.frames)) c.spend.ensures.same)
    (c.begin_choice.ensures.rest ∙ ap (λ (x : Run). record x { frames = new.frames }) c.spend.ensures.same)

pub returns-in_ok-pushed-in-While-clause-goes : goal.returns-in_ok-pushed-in-While-clause-goes
returns-in_ok-pushed-in-While-clause-goes c =
    let it = c.instr-instr.result.now in
    let p = c.args.program.now in
    let r = c.args.self.now in
    let s = c.spend.new.self in
    let new = c.begin_loop.new.self in
    let out = out_is it _ (Instr-F.While c.in-While.test _ _) (rolls-While _ _ _) c.in-While.is in
    loop_begins p r new c.args.running c.args.number s.fuel it c.in-While.test _ _ _ c.requires c.instr-instr.ensures out c.in_ok-spend.ensures.ok
    (ok_given c.begin_loop.result _ _ _ c.in_ok-pushed-in-While.ensures _ c.begin_loop.ensures.behind ∙ ap (λ (x : Run). Loop 0 ∷ on_body (with_pc (c.args.running.pc + 1)) (reverse x.frames.frames)) c.spend.ensures.same)
    (c.begin_loop.ensures.rest ∙ ap (λ (x : Run). record x { frames = new.frames }) c.spend.ensures.same)

pub returns-in_err-pushed-in-While-clause-goes : goal.returns-in_err-pushed-in-While-clause-goes
returns-in_err-pushed-in-While-clause-goes c =
    let p = c.args.program.now in
    let e = c.in_err-pushed-in-While.field-0.0 in
    subst (λ x. Carries p x c.args.self.now c.begin_loop.new.self)
    (sym (stops_with c.from_residual-in_err-pushed-in-While.result e c.from_residual-in_err-pushed-in-While.ensures.1 ∙ ap Err (loop_memory _ c.begin_loop.result e c.in_err-pushed-in-While.ensures c.begin_loop.ensures.memory)))
    (memory_stops p c.args.self.now c.begin_loop.new.self)

pub returns-in_err-items-in-ForEachItem-clause-goes : goal.returns-in_err-items-in-ForEachItem-clause-goes
returns-in_err-items-in-ForEachItem-clause-goes c =
    let it = c.instr-instr.result.now in
    let p = c.args.program.now in
    let r = c.args.self.now in
    let s = c.spend.new.self in
    let e = c.in_err-items-in-ForEachItem.field-0.0 in
    let select = c.in-ForEachItem.select in
    let out = out_is it _ (Instr-F.ForEachItem c.in-ForEachItem.name select _ _) (rolls-ForEachItem _ _ _ _) c.in-ForEachItem.is in
    let body = ap (λ (x : Run). body_in (reverse x.frames.frames)) c.spend.ensures.same ∙ c.requires.body in
    subst (λ x. Carries p x r s) (sym (stops_with c.from_residual-in_err-items-in-ForEachItem.result e c.from_residual-in_err-items-in-ForEachItem.ensures.1))
    (walk_stops p r s c.args.running c.args.number s.fuel it c.in-ForEachItem.name select _ _ e c.requires c.instr-instr.ensures out c.in_ok-spend.ensures.ok
    (subst (λ k. Gave k (Err e) (atoms_of select (sight p r))) (c.place_of-at.ensures ∙ ap place out)
    (subst (λ x. Gave c.place_of-at.result (Err e) (atoms_of select x)) (ap (sight p) c.spend.ensures.same) (c.in_err-items-in-ForEachItem.ensures body)))
    (fuel_alone r s c.spend.ensures.same))

pub returns-in_err-pushed-in-ForEachItem-clause-goes : goal.returns-in_err-pushed-in-ForEachItem-clause-goes
returns-in_err-pushed-in-ForEachItem-clause-goes c =
    let p = c.args.program.now in
    let e = c.in_err-pushed-in-ForEachItem.field-0.0 in
    subst (λ x. Carries p x c.args.self.now c.begin_walk.new.self)
    (sym (stops_with c.from_residual-in_err-pushed-in-ForEachItem.result e c.from_residual-in_err-pushed-in-ForEachItem.ensures.1 ∙ ap Err (loop_memory _ c.begin_walk.result e c.in_err-pushed-in-ForEachItem.ensures c.begin_walk.ensures.memory)))
    (memory_stops p c.args.self.now c.begin_walk.new.self)

pub returns-in_ok-pushed-in-ForEachItem-clause-goes : goal.returns-in_ok-pushed-in-ForEachItem-clause-goes
returns-in_ok-pushed-in-ForEachItem-clause-goes c =
    let it = c.instr-instr.result.now in
    let p = c.args.program.now in
    let r = c.args.self.now in
    let s = c.spend.new.self in
    let new = c.begin_walk.new.self in
    let items = c.in_ok-items-in-ForEachItem.items in
    let select = c.in-ForEachItem.select in
    let out = out_is it _ (Instr-F.ForEachItem c.in-ForEachItem.name select _ _) (rolls-ForEachItem _ _ _ _) c.in-ForEachItem.is in
    let body = ap (λ (x : Run). body_in (reverse x.frames.frames)) c.spend.ensures.same ∙ c.requires.body in
    let opens : OpensWalk items (c.args.running.pc + 1) s new = ok_given c.begin_walk.result _ _ _ c.in_ok-pushed-in-ForEachItem.ensures _ c.begin_walk.ensures.behind in
    walk_opens p r new c.args.running c.args.number s.fuel it c.in-ForEachItem.name select _ _ items _ c.requires c.instr-instr.ensures out c.in_ok-spend.ensures.ok
    (subst (λ x. atoms_of select x ≡ Ok items) (ap (sight p) c.spend.ensures.same) (c.in_ok-items-in-ForEachItem.ensures body))
    (record {
      waiting = opens.waiting;
      nameless = opens.nameless;
      value = opens.value;
      behind = opens.behind ∙ ap (λ (x : Run). Loop 0 ∷ on_body (with_more opens.waiting (c.args.running.pc + 1)) (reverse x.frames.frames)) c.spend.ensures.same;
    })
    (c.begin_walk.ensures.rest ∙ ap (λ (x : Run). record x { frames = new.frames }) c.spend.ensures.same)

-- What stays as it was.

pub returns-in-Choose-clause-keeps : goal.returns-in-Choose-clause-keeps
returns-in-Choose-clause-keeps c =
    let r = c.args.self.now in
    let s = c.spend.new.self in
    let new = c.begin_choice.new.self in
    let next = c.args.running.pc + 1 in (
      refl,
      stays_moved r new (with_pc next) (λ o. next) (λ l. l) (moves_pc next)
          (rest_there r new (record r { frames = new.frames; fuel = s.fuel }) (c.begin_choice.ensures.rest ∙ ap (λ (x : Run). record x { frames = new.frames }) c.spend.ensures.same) refl)
          c.args.running.pc c.requires.pc (c.begin_choice.ensures.behind ∙ ap (λ (x : Run). on_body (with_pc next) (reverse x.frames.frames)) c.spend.ensures.same),
    )

pub returns-in_ok-pushed-in-While-clause-keeps : goal.returns-in_ok-pushed-in-While-clause-keeps
returns-in_ok-pushed-in-While-clause-keeps c =
    let r = c.args.self.now in
    let s = c.spend.new.self in
    let new = c.begin_loop.new.self in
    let next = c.args.running.pc + 1 in (
      refl,
      stays_in_loop r new (with_pc next) (λ o. next) (λ l. l) (moves_pc next)
          (rest_there r new (record r { frames = new.frames; fuel = s.fuel }) (c.begin_loop.ensures.rest ∙ ap (λ (x : Run). record x { frames = new.frames }) c.spend.ensures.same) refl)
          c.args.running.pc 0 c.requires.pc
          (ok_given c.begin_loop.result _ _ _ c.in_ok-pushed-in-While.ensures _ c.begin_loop.ensures.behind ∙ ap (λ (x : Run). Loop 0 ∷ on_body (with_pc next) (reverse x.frames.frames)) c.spend.ensures.same),
    )

pub returns-in_ok-pushed-in-ForEachItem-clause-keeps : goal.returns-in_ok-pushed-in-ForEachItem-clause-keeps
returns-in_ok-pushed-in-ForEachItem-clause-keeps c =
    let r = c.args.self.now in
    let s = c.spend.new.self in
    let new = c.begin_walk.new.self in
    let next = c.args.running.pc + 1 in
    let opens : OpensWalk c.in_ok-items-in-ForEachItem.items next s new = ok_given c.begin_walk.result _ _ _ c.in_ok-pushed-in-ForEachItem.ensures _ c.begin_walk.ensures.behind in (
      refl,
      stays_in_loop r new (with_more opens.waiting next) (λ o. next) (λ ls. ls ++ opens.waiting ∷ []) (moves_locals next (λ ls. ls ++ opens.waiting ∷ []))
          (rest_there r new (record r { frames = new.frames; fuel = s.fuel }) (c.begin_walk.ensures.rest ∙ ap (λ (x : Run). record x { frames = new.frames }) c.spend.ensures.same) refl)
          c.args.running.pc 0 c.requires.pc (opens.behind ∙ ap (λ (x : Run). Loop 0 ∷ on_body (with_more opens.waiting next) (reverse x.frames.frames)) c.spend.ensures.same),
    )
