use Rattle.std.proofs.Common.{◌≡◌, ◌≤◌, ◌+◌, ◌++◌, ◌∷◌, ◌∙◌, [], List, Ok, Err, drop, length, refl, ap, sym, subst, arith, append-nil, length-append}
use Rattle.std.proofs.lemmas.List.{at_drop_all}
use Rattle.stxpath_values.specs.Outcome.{and_then, each}
use Rattle.stxpath_values.specs.declared.value.Atom.{Atom}
use Rattle.template_machine.specs.Saying.{Gave, sight}
use Rattle.template_machine.specs.Shifting.{handed_value}
use Rattle.template_machine.proofs.Handed.{all_so_far, each_more, stops_each, with_rest}
use Rattle.template_machine.proofs.Joining.{dropped_is}
use Rattle.template_machine.proofs.Saying.{stops_with}
use Rattle.template_machine.proofs.run.Run.values.Goals as goal

pub loop-param-init : goal.loop-param-init
loop-param-init c =
    let f = handed_value (sight c.args.program.now c.args.self.now) in
    (ap length c.new-values.ensures, omega arith, λ at. sym (all_so_far (each f c.args.params.now)) ∙ ap (with_rest f c.args.params.now) (sym c.new-values.ensures))

pub loop-param-preserved : goal.loop-param-preserved
loop-param-preserved c =
    let f = handed_value (sight c.args.program.now c.args.self.now) in
    let values = c.loop-param.values in
    let value = c.in_ok-value.value in
    let now = c.in_ok-push.ensures.ok in (
      omega (arith, ap length now, length-append values (value ∷ []), c.loop-param.invariant.0),
      omega (arith, c.loop-param-test.true),
      λ at.
          c.loop-param.invariant.2 at
          ∙ ap (λ l. with_rest f l values) (dropped_is c.args.params.now c.loop-param.param-index c.param-item.result c.loop-param-test.true c.param-item.is)
          ∙ each_more f c.param-item.result (drop (c.loop-param.param-index + 1) c.args.params.now) value values (c.in_ok-value.ensures at)
          ∙ ap (with_rest f (drop (c.loop-param.param-index + 1) c.args.params.now)) (sym now),
    )

pub returns-clause-gave : goal.returns-clause-gave
returns-clause-gave c = λ at.
    let f = handed_value (sight c.args.program.now c.args.self.now) in
    c.loop-param.invariant.2 at
    ∙ ap (λ l. with_rest f l c.loop-param.values) (at_drop_all (λ l. l) c.args.params.now c.loop-param.param-index (omega (arith, c.loop-param-test.false)))
    ∙ ap (λ l. Ok l) (append-nil c.loop-param.values)

pub returns-in_err-value-clause-gave : goal.returns-in_err-value-clause-gave
returns-in_err-value-clause-gave c = λ at.
    let f = handed_value (sight c.args.program.now c.args.self.now) in
    let params = c.args.params.now in
    let e = c.in_err-value.field-0.0 in
    subst (λ r. Gave c.args.spot.at r (each f params)) (sym (stops_with c.from_residual.result e c.from_residual.ensures.1))
    (stops_each f c.args.spot.at e params (drop (c.loop-param.param-index + 1) params) c.param-item.result c.loop-param.values
    (c.loop-param.invariant.2 at ∙ ap (λ l. with_rest f l c.loop-param.values) (dropped_is params c.loop-param.param-index c.param-item.result c.loop-param-test.true c.param-item.is)) (c.in_err-value.ensures at))
