use Rattle.std.proofs.Common.{◌≡◌, ◌+◌, ◌++◌, [], ℕ, List, Ok, Err, drop, sym, ap, subst, ◌∙◌, rules}
use Rattle.stxpath_values.specs.Outcome.{and_then, each, IsAnswer}
use Rattle.stxpath_values.specs.Words.{joined}
use Rattle.template_machine.specs.Evaluating.{seen}
use Rattle.template_machine.specs.Values.{part_text}
use Rattle.template_machine.proofs.Joining.{dropped_is, more_in_row, stops_in_row}
use Rattle.template_machine.proofs.setting.Setting.in_a_row.Goals as goal

pub returns-in_err-push_part : goal.returns-in_err-push_part
returns-in_err-push_part g c =
    let f = part_text (seen g.V.Vars.value_of c.args.self.now) in
    let parts = c.args.parts.now in
    let part = c.part-item.result in
    let rest = drop (c.loop-part.part-index + 1) parts in
    let e = c.in_err-push_part.field-0.0 in
    let is : c.from_residual.result ≡ Err e = (let r = c.from_residual.ensures in search rules) in
    let so_far = c.loop-part.invariant ∙ ap (λ ps. and_then (each f ps) (λ texts. Ok (c.loop-part.whole ++ joined [] texts))) (dropped_is parts c.loop-part.part-index part c.loop-part-test.true c.part-item.is) in
    subst (λ r. IsAnswer r (and_then (each f parts) (λ texts. Ok (joined [] texts)))) (sym is)
    (subst (IsAnswer {A = List ℕ} (Err e)) (sym so_far) (stops_in_row e (f part) (each f rest) c.loop-part.whole c.in_err-push_part.ensures))

pub loop-part-preserved : goal.loop-part-preserved
loop-part-preserved g c =
    let f = part_text (seen g.V.Vars.value_of c.args.self.now) in
    let parts = c.args.parts.now in
    let part = c.part-item.result in
    let rest = drop (c.loop-part.part-index + 1) parts in
    c.loop-part.invariant
    ∙ ap (λ ps. and_then (each f ps) (λ texts. Ok (c.loop-part.whole ++ joined [] texts))) (dropped_is parts c.loop-part.part-index part c.loop-part-test.true c.part-item.is)
    ∙ more_in_row (f part) (each f rest) c.loop-part.whole c.push_part.new.whole c.in_ok-push_part.ensures
