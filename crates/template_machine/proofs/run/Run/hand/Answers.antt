use Rattle.std.proofs.Common.{◌≡◌, ◌+◌, ◌++◌, ◌∙◌, [], List, All, Some, Ok, Err, length, map, reverse, refl, ap, sym, subst}
use Rattle.std.proofs.lemmas.List.Elements.{All-nil}
use Rattle.frame_stack.specs.Change.{changed, with_locals}
use Rattle.frame_stack.specs.Stack.{with_frames}
use Rattle.frame_stack.specs.declared.locals.Local.{Local}
use Rattle.sheet_model.specs.Parts.{handed}
use Rattle.sheet_model.specs.declared.instr.Instr.{Instr}
use Rattle.sheet_model.specs.declared.instr.Instr.TheViews.{out-Instr}
use Rattle.stxpath_values.specs.Outcome.{each}
use Rattle.stxpath_values.specs.declared.value.Atom.{Atom}
use Rattle.template_machine.specs.Saying.{Gave, sight}
use Rattle.template_machine.specs.Shifting.{Hands, handed_value}
use Rattle.template_machine.specs.declared.run.Run.{Run}
use Rattle.template_machine.specs.declared.stop.Stop.TheVariants as stop
use Rattle.template_machine.proofs.Saying.{stops_with}
use Rattle.instr_code.specs.declared.code.Op.TheVariants as op
use Rattle.sheet_model.specs.declared.instr.WithParam.{WithParam}
use Rattle.stxpath_syntax.specs.Shape.{CanBeEvaluated}
use Rattle.template_machine.specs.Contexts.{Single}
use Rattle.template_machine.proofs.Arms.{seen_at}
use Rattle.template_machine.proofs.Evaluable.{can_run}
use Rattle.template_machine.proofs.Formed.{handed_runs, has_number}
use Rattle.template_machine.proofs.Handing.{handed_on}
use Rattle.template_machine.proofs.Operating.{at_place, behind_locals, frame_behind}
use Rattle.template_machine.proofs.Beginning.{begins_handed}
use Rattle.template_machine.proofs.run.Run.hand.Goals as goal

pub instr-requires : goal.instr-requires
instr-requires c = has_number c.args.program.now.code c.args.number Single c.requires.form

pub values-requires-clause-sees : goal.values-requires-clause-sees
values-requires-clause-sees c = seen_at c.args.program.now c.args.self.now c.args.running (op.Do c.args.number) c.requires.op

pub values-requires-clause-params : goal.values-requires-clause-params
values-requires-clause-params c =
    subst (All (λ (p : WithParam). CanBeEvaluated p.select)) (sym c.handed.ensures)
    (handed_runs c.instr.result.now (can_run c.args.program.now c.args.self.now c.requires.op.well.steady c.args.number c.instr.result.now c.instr.ensures))

pub set_pc-requires : goal.set_pc-requires
set_pc-requires c = (at_place c.args.program.now c.args.self.now c.args.running (op.Do c.args.number) c.requires.op).1.2

pub push_waiting-requires : goal.push_waiting-requires
push_waiting-requires c =
    (frame_behind c.args.program.now c.args.self.now c.args.running (op.Do c.args.number) c.requires.op (c.args.running.pc + 1) c.set_pc.new.self c.set_pc.ensures).1.1

pub returns-clause-stands : goal.returns-clause-stands
returns-clause-stands c =
    handed_on c.args.program.now c.args.self.now c.args.running c.args.number c.instr.result.now c.in_ok-values.values c.set_pc.new.self c.push_waiting.new.self
    c.requires.op c.requires.form c.instr.ensures (c.in_ok-values.ensures.many ∙ ap length c.handed.ensures) c.set_pc.ensures c.in_ok-push_waiting.ensures.pushes

pub returns-clause-works : goal.returns-clause-works
returns-clause-works c =
    begins_handed c.args.self.now c.push_waiting.new.self (c.args.running.pc + 1) c.args.running.body c.in_ok-values.values c.set_pc.new.self c.requires.op.doing
    c.set_pc.ensures c.in_ok-push_waiting.ensures.pushes

pub returns-in_err-values-clause-hands : goal.returns-in_err-values-clause-hands
returns-in_err-values-clause-hands c = λ i is.
    let p = c.args.program.now in
    let r = c.args.self.now in
    let e = c.in_err-values.field-0.0 in
    let g = sight p r in
    let params : c.handed.result.now ≡ handed (out-Instr i) = c.handed.ensures ∙ ap (λ (x : Instr). handed (out-Instr x)) (one (sym c.instr.ensures ∙ is)) in
    subst (λ x. Hands p i c.args.at c.args.running.pc x r r) (sym (stops_with c.from_residual.result e c.from_residual.ensures.1))
    (record {
      waiting = [];
      nameless = All-nil (λ (x : Local). x.name.local ≡ []);
      rest = refl;
      behind = tt;
      gave = subst (λ l. Gave {A = List (List Atom)} c.args.at (Err e) (each (handed_value g) l)) params (c.in_err-values.ensures.gave c.requires.op.body);
    })
  where
    one : {A : Type 0} {x y : A} → Some x ≡ Some y → x ≡ y
    one e = cc

pub returns-in_err-push_waiting-clause-hands : goal.returns-in_err-push_waiting-clause-hands
returns-in_err-push_waiting-clause-hands c = λ i is.
    let p = c.args.program.now in
    let r = c.args.self.now in
    let new = c.push_waiting.new.self in
    subst (λ x. Hands p i c.args.at c.args.running.pc x r new) (sym (stops_with c.from_residual-in_err-push_waiting.result stop.Memory c.from_residual-in_err-push_waiting.ensures.1))
    (record {
      waiting = [];
      nameless = All-nil (λ (x : Local). x.name.local ≡ []);
      rest = c.push_waiting.ensures.rest;
      behind = tt;
      gave = tt;
    })

pub returns-clause-hands : goal.returns-clause-hands
returns-clause-hands c = λ i is.
    let p = c.args.program.now in
    let r = c.args.self.now in
    let new = c.push_waiting.new.self in
    let g = sight p r in
    let params : c.handed.result.now ≡ handed (out-Instr i) = c.handed.ensures ∙ ap (λ (x : Instr). handed (out-Instr x)) (one (sym c.instr.ensures ∙ is)) in
    let pushed = c.in_ok-push_waiting.ensures.pushes in
    let waiting = pushed.0 in
    let h : List Local → List Local = λ ls. ls ++ waiting in
    record {
      waiting = waiting;
      nameless = pushed.1.0.nameless;
      rest = pushed.1.1 ∙ sym (ap (λ (x : Run). record r { frames = x.frames }) pushed.1.1);
      behind =
          ap (λ (x : Run). reverse x.frames.frames) pushed.1.1
          ∙ behind_locals p r c.args.running (op.Do c.args.number) c.requires.op (c.args.running.pc + 1) h c.set_pc.new.self
          (with_frames (changed (with_locals h) c.args.running.body c.set_pc.new.self.frames) c.set_pc.new.self) c.set_pc.ensures refl;
      gave = subst (λ l. each (handed_value g) l ≡ Ok (map (λ (x : Local). x.value) waiting)) params (c.in_ok-values.ensures.gave c.requires.op.body ∙ ap (λ vs. Ok vs) (sym pushed.1.0.values_are));
    }
  where
    one : {A : Type 0} {x y : A} → Some x ≡ Some y → x ≡ y
    one e = cc
