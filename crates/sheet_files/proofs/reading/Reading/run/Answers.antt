use Rattle.std.proofs.Common.{◌≡◌, ◌∙◌, Err, Ok, ap, Result, false, refl, subst, sym}
use Rattle.std.specs.Prelude.{IsErrAnd}
use Rattle.sheet_loader.specs.Loaders.{is_over}
use Rattle.sheet_files.specs.Steps.{StepsTo}
use Rattle.sheet_files.specs.declared.reading.Halt.{Halt}
use Rattle.sheet_files.proofs.Stepping.{steps_begin, steps_then, still_read}
use Rattle.sheet_files.proofs.reading.Reading.run.Goals as goal

pub loop-self-init : goal.loop-self-init
loop-self-init g c =
    record {
      held = c.requires.held;
      some = c.requires.read;
      steps = λ name read. steps_begin name (g.H.Host.outside c.args.host.now) c.args.self.now read c.requires.none;
      limits = refl;
      none = c.requires.none;
    }

pub loop-self-preserved : goal.loop-self-preserved
loop-self-preserved g c =
    let o = g.H.Host.outside c.args.host.now in
    let q = g.H.Host.outside c.loop-self.host in
    let p = g.H.Host.outside c.step.new.host in
    let self = c.args.self.now in
    let mid = c.loop-self.self in
    let new = c.step.new.self in
    let before = c.loop-self.invariant in
    let on : is_over mid.loader.progress ≡ false = sym c.loop-self-test.ensures in
    let some = before.some in
    let now = c.in_ok-step.ensures.steps some.0 (still_read some.0 o q self mid on (before.steps some.0 some.1)) in
    record {
      held = c.step.ensures.held;
      some = some;
      steps = λ name read. steps_then name o q p self mid new (Ok tt) on (before.steps name read) (λ mid_read. c.in_ok-step.ensures.steps name mid_read);
      limits = now.4 ∙ before.limits;
      none = now.2;
    }

-- a failure is told as it is
err_is : (r : Result (Unit {0}) Halt) (e : Halt) → IsErrAnd r (λ m. m ≡ e) → r ≡ Err e
err_is (Ok done) e is = absurd is
err_is (Err m) e is = ap Err is

pub returns-in_err-step-clause-steps : goal.returns-in_err-step-clause-steps
returns-in_err-step-clause-steps g c name read =
    let o = g.H.Host.outside c.args.host.now in
    let q = g.H.Host.outside c.loop-self.host in
    let p = g.H.Host.outside c.step.new.host in
    let self = c.args.self.now in
    let mid = c.loop-self.self in
    let on : is_over mid.loader.progress ≡ false = sym c.loop-self-test.ensures in
    let why = c.in_err-step.field-0.0 in
    subst (λ (r : Result (Unit {0}) Halt). StepsTo name o p self c.step.new.self r) (sym (err_is c.from_residual.result why c.from_residual.ensures.1))
    (steps_then name o q p self mid c.step.new.self (Err why) on (c.loop-self.invariant.steps name read) (λ mid_read. c.in_err-step.ensures.steps name mid_read))
