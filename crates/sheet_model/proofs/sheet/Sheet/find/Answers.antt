use Rattle.std.proofs.Common.{◌≡◌, ℕ, ◌+◌, ◌≤◌, List, ◌++◌, length, take, map, Some, refl, ap, sym, subst, ◌∙◌, arith, length-append}
use Rattle.std.proofs.lemmas.List.{take_all}
use Rattle.std.proofs.lemmas.Option.{slice_get_past}
use Rattle.std.specs.List.{flat_map, slice_get}
use Rattle.stxpath_syntax.specs.Shape.{greatest}
use Rattle.sheet_model.specs.Body.{body_nesting, in_order, instructions, sheet_nesting}
use Rattle.sheet_model.specs.declared.instr.Instr.{Instr}
use Rattle.sheet_model.specs.declared.sheet.Procedure.{Procedure}
use Rattle.sheet_model.specs.declared.sheet.Sheet.{Sheet}
use Rattle.sheet_model.specs.declared.sheet.Template.{Template}
use Rattle.sheet_model.proofs.Lists.{greatest_at, got_before, got_behind}
use Rattle.sheet_model.proofs.Nests.{sheet_nesting_is}
use Rattle.sheet_model.proofs.Searches.{found_behind_body, found_in_body, in_order-append, in_order-flat}
use Rattle.sheet_model.proofs.sheet.Sheet.find.Goals as goal

abbrev of_template : Template → List Instr
of_template t = t.body

abbrev of_procedure : Procedure → List Instr
of_procedure p = p.body

abbrev by_templates : ℕ → List Template → List Instr
by_templates n ts = flat_map (λ t. in_order n (of_template t)) ts

abbrev by_procedures : ℕ → List Procedure → List Instr
by_procedures n ps = flat_map (λ p. in_order n (of_procedure p)) ps

instructions_are : (s : Sheet) → instructions s ≡ by_templates (sheet_nesting s) s.templates ++ by_procedures (sheet_nesting s) s.procedures
instructions_are s =
    in_order-append (sheet_nesting s) (flat_map of_template s.templates) (flat_map of_procedure s.procedures)
    ∙ ap (λ l. l ++ in_order (sheet_nesting s) (flat_map of_procedure s.procedures)) (in_order-flat (sheet_nesting s) of_template s.templates)
    ∙ ap (λ l. by_templates (sheet_nesting s) s.templates ++ l) (in_order-flat (sheet_nesting s) of_procedure s.procedures)

pub returns-in-Found : goal.returns-in-Found
returns-in-Found c =
    let s = c.args.self.now in
    let n = sheet_nesting s in
    let x = c.in-Found.instr.now in
    let within = greatest_at (λ (t : Template). body_nesting t.body) c.as_slice-template-items.result.now c.loop-template.template-index c.template-item.result c.loop-template-test.true c.template-item.is in
    let whole = sheet_nesting_is s in
    let same = ap (λ l. greatest (map (λ (t : Template). body_nesting t.body) l)) c.as_slice-template-items.ensures in
    let deep : body_nesting c.template-item.result.body ≤ n = omega arith in
    let found = found_in_body n of_template c.as_slice-template-items.result.now c.loop-template.template-index c.template-item.result c.args.number c.loop-template.left x
    c.loop-template-test.true c.template-item.is c.loop-template.invariant (c.in-Found.ensures n deep) in
    let here = subst (λ l. slice_get (by_templates n l) c.args.number ≡ Some x) c.as_slice-template-items.ensures found in
    sym (ap (λ l. slice_get l c.args.number) (instructions_are s) ∙ got_before (by_templates n s.templates) (by_procedures n s.procedures) c.args.number x here)

pub loop-template-preserved : goal.loop-template-preserved
loop-template-preserved c =
    let s = c.args.self.now in
    let n = sheet_nesting s in
    let within = greatest_at (λ (t : Template). body_nesting t.body) c.as_slice-template-items.result.now c.loop-template.template-index c.template-item.result c.loop-template-test.true c.template-item.is in
    let whole = sheet_nesting_is s in
    let same = ap (λ l. greatest (map (λ (t : Template). body_nesting t.body) l)) c.as_slice-template-items.ensures in
    let deep : body_nesting c.template-item.result.body ≤ n = omega arith in
    found_behind_body n of_template c.as_slice-template-items.result.now c.loop-template.template-index c.template-item.result c.args.number c.loop-template.left c.in-Behind.behind
    c.loop-template-test.true c.template-item.is c.loop-template.invariant (c.in-Behind.ensures n deep)

pub loop-procedure-init : goal.loop-procedure-init
loop-procedure-init c =
    let s = c.args.self.now in
    let n = sheet_nesting s in
    let all = ap (λ l. length (by_templates n l)) (take_all c.loop-template.template-index c.as_slice-template-items.result.now (omega arith) ∙ c.as_slice-template-items.ensures) in
    let so : length (by_templates n (take c.loop-template.template-index c.as_slice-template-items.result.now)) + c.loop-template.left ≡ c.args.number = c.loop-template.invariant in
    omega (arith, all, so)

pub returns-in-Found-search : goal.returns-in-Found-search
returns-in-Found-search c =
    let s = c.args.self.now in
    let n = sheet_nesting s in
    let x = c.in-Found-search.instr.now in
    let items = c.as_slice-procedure-items.result.now in
    let i = c.loop-procedure.procedure-index in
    let within = greatest_at (λ (p : Procedure). body_nesting p.body) items i c.procedure-item.result c.loop-procedure-test.true c.procedure-item.is in
    let whole = sheet_nesting_is s in
    let same = ap (λ l. greatest (map (λ (p : Procedure). body_nesting p.body) l)) c.as_slice-procedure-items.ensures in
    let deep : body_nesting c.procedure-item.result.body ≤ n = omega arith in
    let number = length (by_procedures n (take i items)) + c.loop-procedure.left in
    let found = found_in_body n of_procedure items i c.procedure-item.result number c.loop-procedure.left x c.loop-procedure-test.true c.procedure-item.is refl (c.in-Found-search.ensures n deep) in
    let here = subst (λ l. slice_get (by_procedures n l) number ≡ Some x) c.as_slice-procedure-items.ensures found in
    let so : length (by_templates n s.templates) + length (by_procedures n (take i items)) + c.loop-procedure.left ≡ c.args.number = c.loop-procedure.invariant in
    let at : length (by_templates n s.templates) + number ≡ c.args.number = omega arith in
    sym (ap (λ l. slice_get l c.args.number) (instructions_are s)
    ∙ subst (λ k. slice_get (by_templates n s.templates ++ by_procedures n s.procedures) k ≡ Some x) at
    (got_behind (by_templates n s.templates) (by_procedures n s.procedures) number x here))

pub loop-procedure-preserved : goal.loop-procedure-preserved
loop-procedure-preserved c =
    let s = c.args.self.now in
    let n = sheet_nesting s in
    let items = c.as_slice-procedure-items.result.now in
    let i = c.loop-procedure.procedure-index in
    let within = greatest_at (λ (p : Procedure). body_nesting p.body) items i c.procedure-item.result c.loop-procedure-test.true c.procedure-item.is in
    let whole = sheet_nesting_is s in
    let same = ap (λ l. greatest (map (λ (p : Procedure). body_nesting p.body) l)) c.as_slice-procedure-items.ensures in
    let deep : body_nesting c.procedure-item.result.body ≤ n = omega arith in
    let number = length (by_procedures n (take i items)) + c.loop-procedure.left in
    let on = found_behind_body n of_procedure items i c.procedure-item.result number c.loop-procedure.left c.in-Behind-search.behind c.loop-procedure-test.true c.procedure-item.is refl (c.in-Behind-search.ensures n deep) in
    let so : length (by_templates n s.templates) + length (by_procedures n (take i items)) + c.loop-procedure.left ≡ c.args.number = c.loop-procedure.invariant in
    omega (arith, on, so)

pub returns : goal.returns
returns c =
    let s = c.args.self.now in
    let n = sheet_nesting s in
    let all = ap (λ l. length (by_procedures n l)) (take_all c.loop-procedure.procedure-index c.as_slice-procedure-items.result.now (omega arith) ∙ c.as_slice-procedure-items.ensures) in
    let so : length (by_templates n s.templates) + length (by_procedures n (take c.loop-procedure.procedure-index c.as_slice-procedure-items.result.now)) + c.loop-procedure.left ≡ c.args.number = c.loop-procedure.invariant in
    sym (slice_get_past (instructions s) c.args.number
    (omega (arith, ap length (instructions_are s), length-append (by_templates n s.templates) (by_procedures n s.procedures), all, so)))
