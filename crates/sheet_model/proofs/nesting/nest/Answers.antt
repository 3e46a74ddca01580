use Rattle.std.proofs.Common.{◌≡◌, ℕ, take, map, max, ap, sym, ◌∙◌, arith}
use Rattle.std.proofs.lemmas.Grind.{common_steps}
use Rattle.std.proofs.lemmas.List.{take_all}
use Rattle.stxpath_syntax.specs.Shape.{greatest}
use Rattle.sheet_model.specs.Body.{body_nesting}
use Rattle.sheet_model.specs.declared.sheet.Procedure.{Procedure}
use Rattle.sheet_model.specs.declared.sheet.Template.{Template}
use Rattle.sheet_model.proofs.Lists.{greatest_at, greatest_more}
use Rattle.sheet_model.proofs.Nests.{sheet_nesting_is}
use Rattle.sheet_model.proofs.nesting.nest.Goals as goal

abbrev of_template : Template → ℕ
of_template t = body_nesting t.body

abbrev of_procedure : Procedure → ℕ
of_procedure p = body_nesting p.body

pub nesting_of_body-requires : goal.nesting_of_body-requires
nesting_of_body-requires c =
    let within = greatest_at of_template c.as_slice-template-items.result.now c.loop-template.template-index c.template-item.result c.loop-template-test.true c.template-item.is in
    let whole = sheet_nesting_is c.args.sheet.now in
    let same = ap (λ l. greatest (map of_template l)) c.as_slice-template-items.ensures in
    omega arith

pub loop-template-preserved : goal.loop-template-preserved
loop-template-preserved c =
    let more = greatest_more of_template c.as_slice-template-items.result.now c.loop-template.template-index c.template-item.result c.loop-template-test.true c.template-item.is in
    let so_far : c.loop-template.deepest ≡ greatest (map of_template (take c.loop-template.template-index c.as_slice-template-items.result.now)) = c.loop-template.invariant in
    let one : c.nesting_of_body.result ≡ of_template c.template-item.result = c.nesting_of_body.ensures in
    grind (arith, common_steps, more, so_far, one)

pub nesting_of_body-requires-in-loop-procedure : goal.nesting_of_body-requires-in-loop-procedure
nesting_of_body-requires-in-loop-procedure c =
    let within = greatest_at of_procedure c.as_slice-procedure-items.result.now c.loop-procedure.procedure-index c.procedure-item.result c.loop-procedure-test.true c.procedure-item.is in
    let whole = sheet_nesting_is c.args.sheet.now in
    let same = ap (λ l. greatest (map of_procedure l)) c.as_slice-procedure-items.ensures in
    omega arith

pub loop-procedure-preserved : goal.loop-procedure-preserved
loop-procedure-preserved c =
    let more = greatest_more of_procedure c.as_slice-procedure-items.result.now c.loop-procedure.procedure-index c.procedure-item.result c.loop-procedure-test.true c.procedure-item.is in
    let so_far : c.loop-procedure.deepest ≡ max (greatest (map of_template c.args.sheet.now.templates)) (greatest (map of_procedure (take c.loop-procedure.procedure-index c.as_slice-procedure-items.result.now))) = c.loop-procedure.invariant in
    let one : c.nesting_of_body-in-loop-procedure.result ≡ of_procedure c.procedure-item.result = c.nesting_of_body-in-loop-procedure.ensures in
    grind (arith, common_steps, more, so_far, one)

pub returns : goal.returns
returns c =
    let all = ap (λ l. greatest (map of_procedure l)) (take_all c.loop-procedure.procedure-index c.as_slice-procedure-items.result.now (omega arith) ∙ c.as_slice-procedure-items.ensures) in
    let so_far : c.loop-procedure.deepest ≡ max (greatest (map of_template c.args.sheet.now.templates)) (greatest (map of_procedure (take c.loop-procedure.procedure-index c.as_slice-procedure-items.result.now))) = c.loop-procedure.invariant in
    so_far ∙ ap (λ n. max (greatest (map of_template c.args.sheet.now.templates)) n) all ∙ sym (sheet_nesting_is c.args.sheet.now)
