use Rattle.std.proofs.Common.{◌≡◌, ◌<◌, ◌-◌, ◌+◌, ◌∷◌, ◌∙◌, [], Err, Ok, drop, get_or, length, refl, take, ap, sym, subst, arith}
use Rattle.std.proofs.lemmas.List.{at_drop_all}
use Rattle.sheet_model.specs.declared.sheet.Variable.{Variable}
use Rattle.var_store.specs.Variables.{value_of}
use Rattle.template_machine.specs.Called.{HasName, HasNames}
use Rattle.template_machine.specs.Declaring.{parameter_value}
use Rattle.template_machine.specs.Made.{BindsParams}
use Rattle.template_machine.specs.Parameters.{Binds, HasBound, handed_by}
use Rattle.template_machine.specs.Saying.{Gave, sight}
use Rattle.template_machine.specs.declared.stop.Stop.TheVariants as stop
use Rattle.template_machine.proofs.Binding.{body_on_top, bound_memory, bound_next, bound_none, bound_stops, handed_same}
use Rattle.template_machine.proofs.Joining.{dropped_is}
use Rattle.template_machine.proofs.Saying.{stops_with}
use Rattle.template_machine.proofs.Taking.{binds_next, binds_none, param_runs, sees_next, take_none, waits_still}
use Rattle.template_machine.proofs.run.Run.bind_waiting.Goals as goal

pub loop-param-init : goal.loop-param-init
loop-param-init c =
    let r = c.args.self.now in
    let vs = c.args.params.now in
    record {
      binds = subst (λ vs. BindsParams vs r r) (sym (take_none vs)) (binds_none r);
      takes = λ can. bound_none c.args.program.now vs vs (λ given. handed_by given c.args.program.now r c.args.asker) r refl;
    }

pub param_value-requires-clause-sees : goal.param_value-requires-clause-sees
param_value-requires-clause-sees c =
    sees_next c.args.program.now (take c.loop-param.param-index c.args.params.now) c.args.self.now c.loop-param.self c.loop-param.invariant.binds c.requires.sees

pub param_value-requires-clause-param : goal.param_value-requires-clause-param
param_value-requires-clause-param c =
    let items = c.as_slice-param-items.result.now in
    let i = c.loop-param.param-index in
    let less : i < length items = omega arith in
    param_runs c.args.params.now items i c.param-item.result c.as_slice-param-items.ensures less c.param-item.is c.requires.params

pub param_value-requires-clause-waits : goal.param_value-requires-clause-waits
param_value-requires-clause-waits c =
    waits_still c.args.program.now (take c.loop-param.param-index c.args.params.now) c.args.self.now c.loop-param.self c.args.asker c.loop-param.invariant.binds c.requires.waits

pub loop-param-preserved : goal.loop-param-preserved
loop-param-preserved c =
    let p = c.args.program.now in
    let items = c.as_slice-param-items.result.now in
    let i = c.loop-param.param-index in
    let less : i < length items = omega arith in
    let vs = c.args.params.now in
    let old = c.args.self.now in
    let mid = c.loop-param.self in
    let v = c.param-item.result in
    let x = c.args.asker in
    let same = c.as_slice-param-items.ensures in
    let within : i < length vs = subst (λ l. i < length l) same less in
    let is : v ≡ get_or vs i v = c.param-item.is ∙ ap (λ l. get_or l i v) same in
    let sees = sees_next p (take i vs) old mid c.loop-param.invariant.binds c.requires.sees in
    let top = body_on_top mid.frames.frames sees.level sees.level_is in
    record {
      binds = binds_next vs items i v old mid c.bind.new.self same less c.param-item.is c.loop-param.invariant.binds c.in_ok-bind.ensures.binds;
      takes = λ can.
          bound_next p vs v (drop (i + 1) vs) (λ given. handed_by given p old x) old mid c.bind.new.self
          (subst (λ l. HasBound p vs l (λ given. handed_by given p old x) old mid) (dropped_is vs i v within is) (c.loop-param.invariant.takes can)) can
          c.in_ok-value.value c.in_ok-bind.ensures.pushes c.bind.ensures.rest
          (subst (λ (y : Variable). HasName y.name) (sym is) (can.names i v within))
          (λ given.
          subst (λ h. Gave v.at (Ok c.in_ok-value.value) (parameter_value given (value_of v.name h) v (sight p mid))) (handed_same given p (take i vs) old mid x c.loop-param.invariant.binds c.requires.waits)
          (c.in_ok-value.ensures given top));
    }

pub returns-clause-takes : goal.returns-clause-takes
returns-clause-takes c = λ can.
    let p = c.args.program.now in
    let vs = c.args.params.now in
    let old = c.args.self.now in
    subst (λ l. HasBound p vs l (λ given. handed_by given p old c.args.asker) old c.loop-param.self)
    (at_drop_all (λ l. l) vs c.loop-param.param-index (omega (arith, c.loop-param-test.false, ap length c.as_slice-param-items.ensures))) (c.loop-param.invariant.takes can)

pub returns-in_err-value-clause-takes : goal.returns-in_err-value-clause-takes
returns-in_err-value-clause-takes c = λ can.
    let p = c.args.program.now in
    let items = c.as_slice-param-items.result.now in
    let i = c.loop-param.param-index in
    let less : i < length items = omega arith in
    let vs = c.args.params.now in
    let old = c.args.self.now in
    let mid = c.loop-param.self in
    let v = c.param-item.result in
    let x = c.args.asker in
    let same = c.as_slice-param-items.ensures in
    let within : i < length vs = subst (λ l. i < length l) same less in
    let is : v ≡ get_or vs i v = c.param-item.is ∙ ap (λ l. get_or l i v) same in
    let sees = sees_next p (take i vs) old mid c.loop-param.invariant.binds c.requires.sees in
    let top = body_on_top mid.frames.frames sees.level sees.level_is in
    let e = c.in_err-value.field-0.0 in
    subst (λ y. Binds p vs (λ given. handed_by given p old x) y old mid) (sym (stops_with c.from_residual.result e c.from_residual.ensures.1))
    (bound_stops p vs v (drop (i + 1) vs) (λ given. handed_by given p old x) old mid mid
    (subst (λ l. HasBound p vs l (λ given. handed_by given p old x) old mid) (dropped_is vs i v within is) (c.loop-param.invariant.takes can)) can e
    (λ given.
    subst (λ h. Gave v.at (Err e) (parameter_value given (value_of v.name h) v (sight p mid))) (handed_same given p (take i vs) old mid x c.loop-param.invariant.binds c.requires.waits)
    (c.in_err-value.ensures given top)))

pub returns-in_err-bind-clause-takes : goal.returns-in_err-bind-clause-takes
returns-in_err-bind-clause-takes c = λ can.
    let p = c.args.program.now in
    let vs = c.args.params.now in
    let old = c.args.self.now in
    let x = c.args.asker in
    let e = c.in_err-bind.field-0.0 in
    subst (λ y. Binds p vs (λ given. handed_by given p old x) y old c.bind.new.self) (sym (stops_with c.from_residual-in_err-bind.result e c.from_residual-in_err-bind.ensures.1))
    (subst (λ s. Binds p vs (λ given. handed_by given p old x) (Err s) old c.bind.new.self) (sym c.in_err-bind.ensures.memory)
    (bound_memory p vs (λ given. handed_by given p old x) old c.bind.new.self))
