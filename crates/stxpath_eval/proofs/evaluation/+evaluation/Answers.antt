use Rattle.std.proofs.Common.{◌≡◌, ℕ, suc, ◌+◌, ◌-◌, Bool, true, false, Some, None, Vec, Global, Result, Ok, Err, List, [], ◌∷◌, ◌++◌, map, drop, ap, sym, subst, ◌∙◌, rules, arith}
use Rattle.std.proofs.lemmas.List.{append-nil, length-map, map-append}
use Rattle.std.specs.Result.{result_map_both}
use Rattle.std.specs.Int.{w64}
use Rattle.std.proofs.Math.Facts.{to_z-of_z}
use Rattle.stxpath_eval.specs.Env.{setting}
use Rattle.stxpath_eval.specs.Held.{IsHeld, held_answer, held_items}
use Rattle.stxpath_eval.specs.declared.held.Held.{Held}
use Rattle.stxpath_eval.specs.Nodes.{atoms}
use Rattle.stx_base.specs.Functions.{permits}
use Rattle.stxpath_syntax.specs.Shape.{is_called_well}
use Rattle.stxpath_eval.specs.Steps.{all_hold, along, ends_at, holds, holds_by}
use Rattle.stxpath_eval.specs.Value.{absolute, applied, binary, in_a_row, meant, negated, nodes_at, one, operated, reaching, value, variable}
use Rattle.stxpath_syntax.specs.declared.expr.Expr.{Expr, the_lemmas}
use Rattle.stxpath_values.specs.Functions.{limited_list}
use Rattle.stxpath_values.specs.Outcome.{and_then, each, IsAnswer}
use Rattle.stxpath_values.specs.declared.value.Atom.TheVariants as atom
use Rattle.stxpath_values.specs.declared.value.Item.{Item}
use Rattle.stxpath_values.specs.declared.fault.EvalStop.{EvalStop}
use Rattle.stxpath_values.specs.declared.fault.EvalStop.TheVariants as stop
use Rattle.node_stack.specs.Path.{position}
use Rattle.node_stack.specs.Stack.{path}
use Rattle.stxpath_eval.proofs.Answers.{arm, binary_at, goes_on, stops, stops_at}
use Rattle.stxpath_eval.proofs.Folds.{reaching_step, value_abs, value_attr, value_binary, value_call, value_literal, value_neg, value_root, value_seq, value_up, value_var, value_whole}
use Rattle.stxpath_eval.proofs.Loops.{along_at, along_more, each_length, each_map, each_more, each_stops, hold_at, hold_more, joined_at, joined_here, joined_more, joined_on, kept_first, kept_last, kept_more, kept_past, kept_stops, none_left, not_led, stops_in, turn, with_kept, with_rest}
use Rattle.stxpath_eval.proofs.Reached.{reached_told, reaches}
use Rattle.stxpath_eval.proofs.Shapes.{called_well, left_called_well, operand_called_well, parts_called_well, predicates_called_well, right_called_well, steps_called_well}
use Rattle.stxpath_eval.proofs.evaluation.+evaluation.Goals as goal
use Rattle.stxpath_eval.proofs.evaluation.+evaluation.Goals.{step_from-else-loop-place-test, step_from-then-loop-place-test+in_ok-ends_at+else-place-place-end, step_from-then-branch+in_ok-push, step_from-else-branch}

pub evaluate-returns-in-Whole : goal.evaluate-returns-in-Whole
evaluate-returns-in-Whole g t c =
    let same = to_z-of_z {w = w64} {z = c.in-Whole.number} (search rules) in
    arm (Ok c.one.result) _ _ _ (setting g.V.Vars.value_of c.args.stack.now c.args.env.now) c.in-Whole.is (value_whole _) (sym (subst (λ z. Ok (held_items c.one.result) ≡ one (atom.Whole z)) same c.one.ensures))

pub evaluate-returns-in-Literal : goal.evaluate-returns-in-Literal
evaluate-returns-in-Literal g t c =
    arm (Ok c.text_lent.result) _ _ _ (setting g.V.Vars.value_of c.args.stack.now c.args.env.now) c.in-Literal.is (value_literal _) (sym c.text_lent.ensures)

pub evaluate-returns-in-Var : goal.evaluate-returns-in-Var
evaluate-returns-in-Var g t c =
    arm c.variable.result _ _ _ (setting g.V.Vars.value_of c.args.stack.now c.args.env.now) c.in-Var.is (value_var _) (subst (λ o. IsHeld c.variable.result (variable o)) c.get.ensures c.variable.ensures)

pub evaluate-returns-in_err-args-in-Call : goal.evaluate-returns-in_err-args-in-Call
evaluate-returns-in_err-args-in-Call g t c =
    let s = setting g.V.Vars.value_of c.args.stack.now c.args.env.now in
    let answer = c.from_residual.result in
    let e = c.in_err-args-in-Call.field-0.0 in
    let is : answer ≡ Err e = (let f = c.from_residual.ensures in search rules) in
    arm answer _ _ _ s c.in-Call.is (value_call _ _) (stops_at (held_answer answer) e _ (applied s c.in-Call.fun) (ap held_answer is) c.in_err-args-in-Call.ensures)

pub evaluate-returns-in_ok-args-in-Call : goal.evaluate-returns-in_ok-args-in-Call
evaluate-returns-in_ok-args-in-Call g t c =
    let s = setting g.V.Vars.value_of c.args.stack.now c.args.env.now in
    arm c.applied.result _ _ _ s c.in-Call.is (value_call _ _)
    (goes_on _ (map held_items c.in_ok-args-in-Call.args.items) (applied s c.in-Call.fun) (held_answer c.applied.result) c.in_ok-args-in-Call.ensures c.applied.ensures)

pub evaluate-returns-in-Seq : goal.evaluate-returns-in-Seq
evaluate-returns-in-Seq g t c =
    let s = setting g.V.Vars.value_of c.args.stack.now c.args.env.now in
    arm c.listed.result _ _ _ s c.in-Seq.is (value_seq _) (subst (λ a. IsAnswer {A = List Item} a (in_a_row s [] (map value c.in-Seq.parts))) (sym c.listed.ensures) c.parts_joined.ensures)

pub evaluate-returns-in_err-held-in-Neg : goal.evaluate-returns-in_err-held-in-Neg
evaluate-returns-in_err-held-in-Neg g t c =
    let s = setting g.V.Vars.value_of c.args.stack.now c.args.env.now in
    let answer = c.from_residual-in_err-held-in-Neg.result in
    let e = c.in_err-held-in-Neg.field-0.0 in
    let is : answer ≡ Err e = (let f = c.from_residual-in_err-held-in-Neg.ensures in search rules) in
    let h = subst (λ x. IsAnswer {A = List Item} (Err e) (value x s)) c.get-in-Neg.ensures c.in_err-held-in-Neg.ensures in
    arm answer _ _ _ s c.in-Neg.is (value_neg _) (stops_at (held_answer answer) e _ (λ items. negated (atoms s.path items)) (ap held_answer is) h)

pub evaluate-returns-in_ok-held-in-Neg : goal.evaluate-returns-in_ok-held-in-Neg
evaluate-returns-in_ok-held-in-Neg g t c =
    let s = setting g.V.Vars.value_of c.args.stack.now c.args.env.now in
    arm c.negated.result _ _ _ s c.in-Neg.is (value_neg _)
    (goes_on _ (held_items c.in_ok-held-in-Neg.held) (λ items. negated (atoms s.path items)) (held_answer c.negated.result) (ap (λ x. value x s) (sym c.get-in-Neg.ensures) ∙ c.in_ok-held-in-Neg.ensures) c.negated.ensures)

pub evaluate-returns-in-Root : goal.evaluate-returns-in-Root
evaluate-returns-in-Root g t c =
    arm (Ok c.place_item.result) _ _ _ (setting g.V.Vars.value_of c.args.stack.now c.args.env.now) c.in-Root.is value_root (ap (λ l. Ok l) (sym c.place_item.ensures))

pub evaluate-returns-in-Abs : goal.evaluate-returns-in-Abs
evaluate-returns-in-Abs g t c =
    let s = setting g.V.Vars.value_of c.args.stack.now c.args.env.now in
    arm c.listed-in-Abs.result _ _ _ s c.in-Abs.is (value_abs _ _) (subst (λ a. IsAnswer {A = List Item} a (absolute s (map reaching c.in-Abs.steps) c.in-Abs.attrs)) (sym c.listed-in-Abs.ensures) c.along.ensures)

pub evaluate-returns-in-Up : goal.evaluate-returns-in-Up
evaluate-returns-in-Up g t c =
    arm c.up.result _ _ _ (setting g.V.Vars.value_of c.args.stack.now c.args.env.now) c.in-Up.is (value_up _ _) c.up.ensures

pub evaluate-returns-in-Attr : goal.evaluate-returns-in-Attr
evaluate-returns-in-Attr g t c =
    arm c.attributes.result _ _ _ (setting g.V.Vars.value_of c.args.stack.now c.args.env.now) c.in-Attr.is (value_attr _) c.attributes.ensures

pub evaluate-applied-requires : goal.evaluate-applied-requires
evaluate-applied-requires g t c =
    let s = setting g.V.Vars.value_of c.args.stack.now c.args.env.now in
    let well = called_well _ _ (sym (ap is_called_well c.in-Call.is) ∙ c.requires.arguments) in
    let values = c.in_ok-args-in-Call.args.items in
    let many = sym (length-map values held_items) ∙ each_length (λ e. value e s) c.in-Call.args (map held_items values) (sym (each_map (λ m. m s) value c.in-Call.args) ∙ c.in_ok-args-in-Call.ensures) in
    record { place = c.requires.place; told = c.requires.told; arguments = ap (permits c.in-Call.fun) many ∙ well.0 }

pub evaluate-arguments-requires : goal.evaluate-arguments-requires
evaluate-arguments-requires g t c ks within =
    (search (rules, the_lemmas), (within, (c.requires.place, (c.requires.told, (called_well _ _ (sym (ap is_called_well c.in-Call.is) ∙ c.requires.arguments)).1))))

pub evaluate-parts_joined-requires : goal.evaluate-parts_joined-requires
evaluate-parts_joined-requires g t c ks within =
    (search (rules, the_lemmas), (within, (c.requires.place, (c.requires.told, parts_called_well _ (sym (ap is_called_well c.in-Seq.is) ∙ c.requires.arguments)))))

pub evaluate-along-requires : goal.evaluate-along-requires
evaluate-along-requires g t c ks within =
    (search (rules, the_lemmas), (within, (c.requires.place, steps_called_well _ _ (sym (ap is_called_well c.in-Abs.is) ∙ c.requires.arguments))))

pub evaluate-evaluate-requires : goal.evaluate-evaluate-requires
evaluate-evaluate-requires g t c ks within =
    (search (rules, the_lemmas), (within, (c.requires.place, (c.requires.told, ap is_called_well c.get-in-Neg.ensures ∙ operand_called_well _ (sym (ap is_called_well c.in-Neg.is) ∙ c.requires.arguments)))))

pub evaluate-evaluate-requires-in-Binary : goal.evaluate-evaluate-requires-in-Binary
evaluate-evaluate-requires-in-Binary g t c ks within =
    (search (rules, the_lemmas), (within, (c.requires.place, (c.requires.told, ap is_called_well c.get-in-Binary.ensures ∙ left_called_well _ _ _ (sym (ap is_called_well c.in-Binary.is) ∙ c.requires.arguments)))))

pub evaluate-evaluate-requires-in-Binary-2 : goal.evaluate-evaluate-requires-in-Binary-2
evaluate-evaluate-requires-in-Binary-2 g t c ks within =
    (search (rules, the_lemmas), (within, (c.requires.place, (c.requires.told, ap is_called_well c.get-in-Binary-2.ensures ∙ right_called_well _ _ _ (sym (ap is_called_well c.in-Binary.is) ∙ c.requires.arguments)))))

pub evaluate-returns-in_err-first-in-Binary : goal.evaluate-returns-in_err-first-in-Binary
evaluate-returns-in_err-first-in-Binary g t c =
    let s = setting g.V.Vars.value_of c.args.stack.now c.args.env.now in
    let answer = c.from_residual-in_err-first-in-Binary.result in
    let e = c.in_err-first-in-Binary.field-0.0 in
    let is : answer ≡ Err e = (let f = c.from_residual-in_err-first-in-Binary.ensures in search rules) in
    let h = subst (λ x. IsAnswer {A = List Item} (Err e) (value x s)) c.get-in-Binary.ensures c.in_err-first-in-Binary.ensures in
    arm answer _ _ _ s c.in-Binary.is (value_binary _ _ _) (stops_at (held_answer answer) e _ _ (ap held_answer is) h)

pub evaluate-returns-in_err-truth-in-Binary : goal.evaluate-returns-in_err-truth-in-Binary
evaluate-returns-in_err-truth-in-Binary g t c =
    let s = setting g.V.Vars.value_of c.args.stack.now c.args.env.now in
    let answer = c.from_residual-in_err-truth-in-Binary.result in
    let is : answer ≡ Err (stop.Fault c.in_err-truth-in-Binary.field-0.0) = (let f = c.from_residual-in_err-truth-in-Binary.ensures in search rules) in
    let left = ap (λ e. value e s) (sym c.get-in-Binary.ensures) ∙ c.in_ok-first-in-Binary.ensures in
    let whole = binary_at s c.in-Binary.bin (value c.in-Binary.left) (value c.in-Binary.right) (held_items c.in_ok-first-in-Binary.first) (Err c.in_err-truth-in-Binary.field-0.0) left c.in_err-truth-in-Binary.ensures in
    arm answer _ _ _ s c.in-Binary.is (value_binary _ _ _)
    (subst (λ a. IsHeld a (binary s c.in-Binary.bin (value c.in-Binary.left) (value c.in-Binary.right))) (sym is) whole)

pub evaluate-returns-in-Some : goal.evaluate-returns-in-Some
evaluate-returns-in-Some g t c =
    let s = setting g.V.Vars.value_of c.args.stack.now c.args.env.now in
    let left = ap (λ e. value e s) (sym c.get-in-Binary.ensures) ∙ c.in_ok-first-in-Binary.ensures in
    let whole = binary_at s c.in-Binary.bin (value c.in-Binary.left) (value c.in-Binary.right) (held_items c.in_ok-first-in-Binary.first) (Ok (Some c.in-Some.truth)) left (ap (λ o. Ok o) (sym c.in-Some.is) ∙ c.in_ok-truth-in-Binary.ensures) in
    arm (Ok c.truth_item.result) _ _ _ s c.in-Binary.is (value_binary _ _ _) (whole ∙ sym c.truth_item.ensures)

pub evaluate-returns-in_err-second-in-Binary : goal.evaluate-returns-in_err-second-in-Binary
evaluate-returns-in_err-second-in-Binary g t c =
    let s = setting g.V.Vars.value_of c.args.stack.now c.args.env.now in
    let first = held_items c.in_ok-first-in-Binary.first in
    let left = ap (λ e. value e s) (sym c.get-in-Binary.ensures) ∙ c.in_ok-first-in-Binary.ensures in
    let whole = binary_at s c.in-Binary.bin (value c.in-Binary.left) (value c.in-Binary.right) first (Ok None) left (ap (λ o. Ok o) (sym c.in_default.is) ∙ c.in_ok-truth-in-Binary.ensures) in
    let answer = c.from_residual-in_err-second-in-Binary.result in
    let e = c.in_err-second-in-Binary.field-0.0 in
    let is : answer ≡ Err e = (let f = c.from_residual-in_err-second-in-Binary.ensures in search rules) in
    let h = subst (λ x. IsAnswer {A = List Item} (Err e) (value x s)) c.get-in-Binary-2.ensures c.in_err-second-in-Binary.ensures in
    arm answer _ _ _ s c.in-Binary.is (value_binary _ _ _)
    (subst (λ v. IsHeld answer v) (sym whole) (stops_at (held_answer answer) e (value c.in-Binary.right s) (operated s.path c.in-Binary.bin first) (ap held_answer is) h))

pub evaluate-returns-in_ok-second-in-Binary : goal.evaluate-returns-in_ok-second-in-Binary
evaluate-returns-in_ok-second-in-Binary g t c =
    let s = setting g.V.Vars.value_of c.args.stack.now c.args.env.now in
    let first = held_items c.in_ok-first-in-Binary.first in
    let left = ap (λ e. value e s) (sym c.get-in-Binary.ensures) ∙ c.in_ok-first-in-Binary.ensures in
    let whole = binary_at s c.in-Binary.bin (value c.in-Binary.left) (value c.in-Binary.right) first (Ok None) left (ap (λ o. Ok o) (sym c.in_default.is) ∙ c.in_ok-truth-in-Binary.ensures) in
    arm c.operated.result _ _ _ s c.in-Binary.is (value_binary _ _ _)
    (subst (λ v. IsHeld c.operated.result v) (sym whole)
    (goes_on (value c.in-Binary.right s) (held_items c.in_ok-second-in-Binary.second) (operated s.path c.in-Binary.bin first) (held_answer c.operated.result)
    (ap (λ x. value x s) (sym c.get-in-Binary-2.ensures) ∙ c.in_ok-second-in-Binary.ensures) c.operated.ensures))

pub arguments-returns-in_err-held : goal.arguments-returns-in_err-held
arguments-returns-in_err-held g t c =
    let s = setting g.V.Vars.value_of c.args.stack.now c.args.env.now in
    let f = λ (e : Expr). value e s in
    let all = λ (r : Result (Vec Held Global) EvalStop). result_map_both (λ v. map held_items v.items) (λ e. e) r in
    let is : c.from_residual.result ≡ Err c.in_err-held.field-0.0 = (let f = c.from_residual.ensures in search rules) in
    subst (λ r. IsAnswer (all c.from_residual.result) r) (sym (each_map (λ m. m s) value c.args.args.now ∙ ap (each f) (sym c.as_slice-arg-items.ensures) ∙ c.loop-arg.invariant))
    (each_stops f c.as_slice-arg-items.result.now c.loop-arg.arg-index c.arg-item.result (map held_items c.loop-arg.values.items) (all c.from_residual.result) c.in_err-held.field-0.0 c.loop-arg-test.true c.arg-item.is (ap all is) c.in_err-held.ensures)

pub arguments-loop-arg-preserved : goal.arguments-loop-arg-preserved
arguments-loop-arg-preserved g t c =
    let s = setting g.V.Vars.value_of c.args.stack.now c.args.env.now in
    let f = λ (e : Expr). value e s in
    let held = c.in_ok-held.held in
    let values = c.loop-arg.values.items in
    c.loop-arg.invariant
    ∙ each_more f c.as_slice-arg-items.result.now c.loop-arg.arg-index c.arg-item.result (held_items held) (map held_items values) c.loop-arg-test.true c.arg-item.is c.in_ok-held.ensures
    ∙ ap (λ l. with_rest f (drop (c.loop-arg.arg-index + 1) c.as_slice-arg-items.result.now) l) (sym (map-append held_items values (held ∷ [])) ∙ ap (map held_items) (sym c.in_ok-push.ensures.items))

pub arguments-returns : goal.arguments-returns
arguments-returns g t c =
    let s = setting g.V.Vars.value_of c.args.stack.now c.args.env.now in
    let f = λ (e : Expr). value e s in
    let none = none_left c.as_slice-arg-items.result.now c.loop-arg.arg-index c.loop-arg-test.false in
    let values = map held_items c.loop-arg.values.items in
    each_map (λ m. m s) value c.args.args.now ∙ ap (each f) (sym c.as_slice-arg-items.ensures) ∙ c.loop-arg.invariant ∙ ap (λ l. with_rest f l values) none ∙ ap (λ l. Ok l) (append-nil values)

pub parts_joined-returns-in_err-held : goal.parts_joined-returns-in_err-held
parts_joined-returns-in_err-held g t c =
    let s = setting g.V.Vars.value_of c.args.stack.now c.args.env.now in
    let is : c.from_residual.result ≡ Err c.in_err-held.field-0.0 = (let f = c.from_residual.ensures in search rules) in
    stops_in c.from_residual.result c.in_err-held.field-0.0 _ (value c.part-item.result s) (joined_on s c.loop-part.all (drop (c.loop-part.part-index + 1) c.as_slice-part-items.result.now)) is
    (ap (λ l. in_a_row s [] (map value l)) (sym c.as_slice-part-items.ensures) ∙ c.loop-part.invariant ∙ joined_at s c.as_slice-part-items.result.now c.loop-part.part-index c.part-item.result c.loop-part.all c.loop-part-test.true c.part-item.is)
    c.in_err-held.ensures

pub parts_joined-returns-in_err-all : goal.parts_joined-returns-in_err-all
parts_joined-returns-in_err-all g t c =
    let s = setting g.V.Vars.value_of c.args.stack.now c.args.env.now in
    let is : c.from_residual-in_err-all.result ≡ Err c.in_err-all.field-0.0 = (let f = c.from_residual-in_err-all.ensures in search rules) in
    stops_in c.from_residual-in_err-all.result c.in_err-all.field-0.0 _ (limited_list s.limits (c.loop-part.all ++ (held_items c.in_ok-held.held))) (λ all. in_a_row s all (map value (drop (c.loop-part.part-index + 1) c.as_slice-part-items.result.now))) is
    (ap (λ l. in_a_row s [] (map value l)) (sym c.as_slice-part-items.ensures) ∙ c.loop-part.invariant ∙ joined_here s c.as_slice-part-items.result.now c.loop-part.part-index c.part-item.result c.loop-part.all (held_items c.in_ok-held.held) c.loop-part-test.true c.part-item.is c.in_ok-held.ensures)
    c.in_err-all.ensures

pub parts_joined-loop-part-preserved : goal.parts_joined-loop-part-preserved
parts_joined-loop-part-preserved g t c =
    let s = setting g.V.Vars.value_of c.args.stack.now c.args.env.now in
    c.loop-part.invariant ∙ joined_more s c.as_slice-part-items.result.now c.loop-part.part-index c.part-item.result c.loop-part.all (held_items c.in_ok-held.held) c.in_ok-all.all c.loop-part-test.true c.part-item.is c.in_ok-held.ensures c.in_ok-all.ensures

pub along-returns-in_err-places : goal.along-returns-in_err-places
along-returns-in_err-places g t c =
    let s = setting g.V.Vars.value_of c.args.stack.now c.args.env.now in
    let xs = c.as_slice-step-items.result.now in
    let is : c.from_residual-in_err-places.result ≡ Err c.in_err-places.field-0.0 = (let f = c.from_residual-in_err-places.ensures in search rules) in
    let places = subst (λ l. IsAnswer {A = List ℕ} (Err c.in_err-places.field-0.0) (reaching c.step-item.result s l)) c.deref.ensures.value c.in_err-places.ensures in
    let next = along_at s xs c.loop-step.step-index c.step-item.result c.loop-step.places.items c.loop-step-test.true c.step-item.is in
    let whole = ap (λ l. along (map reaching l) s (0 ∷ [])) (sym c.as_slice-step-items.ensures) ∙ c.loop-step.invariant ∙ next in
    subst (λ r. IsAnswer c.from_residual-in_err-places.result (and_then r (λ places. limited_list s.limits (nodes_at s.path c.args.attrs.now places)))) (sym whole)
    (stops_at c.from_residual-in_err-places.result c.in_err-places.field-0.0 (and_then (reaching c.step-item.result s c.loop-step.places.items) (along (map reaching (drop (c.loop-step.step-index + 1) xs)) s)) (λ places. limited_list s.limits (nodes_at s.path c.args.attrs.now places)) is
    (stops c.in_err-places.field-0.0 (reaching c.step-item.result s c.loop-step.places.items) (along (map reaching (drop (c.loop-step.step-index + 1) xs)) s) places))

pub along-loop-step-preserved : goal.along-loop-step-preserved
along-loop-step-preserved g t c =
    let s = setting g.V.Vars.value_of c.args.stack.now c.args.env.now in
    c.loop-step.invariant
    ∙ along_more s c.as_slice-step-items.result.now c.loop-step.step-index c.step-item.result c.loop-step.places.items c.in_ok-places.places.items c.loop-step-test.true c.step-item.is
    (ap (λ l. reaching c.step-item.result s l) (sym c.deref.ensures.value) ∙ c.in_ok-places.ensures)

pub step_from-loop-place-init : goal.step_from-loop-place-init
step_from-loop-place-init g t c = λ n h.
    let s = setting g.V.Vars.value_of c.args.stack.now c.args.env.now in
    let ask = ends_at (meant c.args.step.now) s c.args.places.now in
    let from = c.reachable-within.result.from in
    let all : c.args.env.now.place + 1 ≡ n + from = omega arith in
    ap (λ k. with_kept ask [] 0 k) all
    ∙ kept_past ask [] 0 from n (λ p l u. not_led (meant c.args.step.now) s c.args.places.now p (c.reachable-within.ensures.before p (omega arith)))
    ∙ ap (λ k. with_kept ask [] k n) (let e : 0 + from ≡ from = omega arith in e)
    ∙ ap (λ l. with_kept ask l from n) (sym c.new-reached.ensures.items)

pub step_from-loop-place-preserved : goal.step_from-loop-place-preserved
step_from-loop-place-preserved g t c = λ n h.
    let s = setting g.V.Vars.value_of c.args.stack.now c.args.env.now in
    let ask = ends_at (meant c.args.step.now) s c.args.places.now in
    let before = c.loop-place.invariant (suc n) (omega arith) in
    before ∙ elim c.if-branch.branch [
      | step_from-then-branch+in_ok-push w ↦
          kept_more ask c.loop-place.reached.items c.loop-place.place n true (c.in_ok-ends_at.ensures ∙ ap (λ b. Ok b) w.if-branch.true)
          ∙ ap (λ l. with_kept ask l (c.loop-place.place + 1) n) (sym (ap (λ (v : Vec ℕ Global). v.items) w.reached-is ∙ w.in_ok-push.ensures.items))
      | step_from-else-branch w ↦
          kept_more ask c.loop-place.reached.items c.loop-place.place n false (c.in_ok-ends_at.ensures ∙ ap (λ b. Ok b) w.if-branch.false)
          ∙ ap (λ l. with_kept ask l (c.loop-place.place + 1) n) (sym (ap (λ (v : Vec ℕ Global). v.items) w.reached-is))
    ]

pub step_from-returns-in_err-ends_at : goal.step_from-returns-in_err-ends_at
step_from-returns-in_err-ends_at g t c =
    let s = setting g.V.Vars.value_of c.args.stack.now c.args.env.now in
    let ask = ends_at (meant c.args.step.now) s c.args.places.now in
    let n = c.args.env.now.place - c.loop-place.place in
    let is : c.from_residual.result ≡ Err c.in_err-ends_at.field-0.0 = (let f = c.from_residual.ensures in search rules) in
    let end = c.loop-place-test.true in
    let whole = ap (λ r. r s c.args.places.now) (reaching_step c.args.step.now) ∙ sym (kept_first ask 0 (c.args.env.now.place + 1)) ∙ c.loop-place.invariant (suc n) (omega arith) in
    subst (λ r. IsAnswer (result_map_both (λ v. v.items) (λ e. e) c.from_residual.result) r) (sym whole)
    (kept_stops ask c.loop-place.reached.items c.loop-place.place n (result_map_both (λ v. v.items) (λ e. e) c.from_residual.result) c.in_err-ends_at.field-0.0
    (ap (λ r. result_map_both (λ v. v.items) (λ e. e) r) is) c.in_err-ends_at.ensures)

pub step_from-returns : goal.step_from-returns
step_from-returns g t c =
    let s = setting g.V.Vars.value_of c.args.stack.now c.args.env.now in
    let ask = ends_at (meant c.args.step.now) s c.args.places.now in
    let whole = ap (λ r. r s c.args.places.now) (reaching_step c.args.step.now) ∙ sym (kept_first ask 0 (c.args.env.now.place + 1)) in
    let within = c.loop-place.auto.place-end in
    let place = c.loop-place.place in
    let n = c.args.env.now.place - place in
    elim c.loop-place-test.branch [
      | step_from-else-loop-place-test w ↦ absurd (let out = w.loop-place-test.false in let order = c.reachable-within.ensures.order in omega arith)
      | step_from-then-loop-place-test+in_ok-ends_at+else-place-place-end w ↦
          let rest = λ (ys : List ℕ).
          ap (λ k. with_kept ask ys (place + 1) k) (let e : n ≡ 0 + n = omega arith in e)
          ∙ kept_past ask ys (place + 1) n 0 (λ p l u. not_led (meant c.args.step.now) s c.args.places.now p (c.reachable-within.ensures.behind p (omega arith) (omega arith)))
          ∙ kept_last ask ys ((place + 1) + n) in
          whole ∙ c.loop-place.invariant (suc n) (omega arith) ∙ elim w.if-branch.branch [
            | step_from-then-branch+in_ok-push v ↦
                kept_more ask c.loop-place.reached.items place n true (w.in_ok-ends_at.ensures ∙ ap (λ b. Ok b) v.if-branch.true)
                ∙ rest (c.loop-place.reached.items ++ place ∷ [])
                ∙ ap (λ l. Ok l) (sym (ap (λ (v : Vec ℕ Global). v.items) (w.reached-is ∙ v.reached-is) ∙ v.in_ok-push.ensures.items))
            | step_from-else-branch v ↦
                kept_more ask c.loop-place.reached.items place n false (w.in_ok-ends_at.ensures ∙ ap (λ b. Ok b) v.if-branch.false)
                ∙ rest c.loop-place.reached.items
                ∙ ap (λ l. Ok l) (sym (ap (λ (v : Vec ℕ Global). v.items) (w.reached-is ∙ v.reached-is)))
          ]
    ]

pub all_hold-returns-in_err-holds : goal.all_hold-returns-in_err-holds
all_hold-returns-in_err-holds g t c =
    let s = setting g.V.Vars.value_of c.args.stack.now c.args.env.now in
    let is : c.from_residual.result ≡ Err c.in_err-holds.field-0.0 = (let f = c.from_residual.ensures in search rules) in
    stops_in c.from_residual.result c.in_err-holds.field-0.0 _ (holds (value c.predicate-item.result) s) (turn s (drop (c.loop-predicate.predicate-index + 1) c.as_slice-predicate-items.result.now)) is
    (ap (λ l. all_hold (map value l) s) (sym c.as_slice-predicate-items.ensures) ∙ c.loop-predicate.invariant ∙ hold_at s c.as_slice-predicate-items.result.now c.loop-predicate.predicate-index c.predicate-item.result c.loop-predicate-test.true c.predicate-item.is)
    c.in_err-holds.ensures

pub all_hold-returns-then-not-branch : goal.all_hold-returns-then-not-branch
all_hold-returns-then-not-branch g t c =
    let s = setting g.V.Vars.value_of c.args.stack.now c.args.env.now in
    let not : c.in_ok-holds.field-0 ≡ false = (let f = c.if-not-branch.true in search rules) in
    ap (λ l. all_hold (map value l) s) (sym c.as_slice-predicate-items.ensures) ∙ c.loop-predicate.invariant
    ∙ hold_more s c.as_slice-predicate-items.result.now c.loop-predicate.predicate-index c.predicate-item.result false c.loop-predicate-test.true c.predicate-item.is (c.in_ok-holds.ensures ∙ ap (λ b. Ok b) not)

pub all_hold-loop-predicate-preserved : goal.all_hold-loop-predicate-preserved
all_hold-loop-predicate-preserved g t c =
    let s = setting g.V.Vars.value_of c.args.stack.now c.args.env.now in
    let so : c.in_ok-holds.field-0 ≡ true = (let f = c.if-not-branch.false in search rules) in
    c.loop-predicate.invariant
    ∙ hold_more s c.as_slice-predicate-items.result.now c.loop-predicate.predicate-index c.predicate-item.result true c.loop-predicate-test.true c.predicate-item.is (c.in_ok-holds.ensures ∙ ap (λ b. Ok b) so)

pub holds-returns-in_err-held : goal.holds-returns-in_err-held
holds-returns-in_err-held g t c =
    let s = setting g.V.Vars.value_of c.args.stack.now c.args.env.now in
    let is : c.from_residual.result ≡ Err c.in_err-held.field-0.0 = (let f = c.from_residual.ensures in search rules) in
    stops_at c.from_residual.result c.in_err-held.field-0.0 (value c.args.predicate.now s) (holds_by (position s.path s.place s.test)) is c.in_err-held.ensures

pub holds-returns-in_err-held_holds : goal.holds-returns-in_err-held_holds
holds-returns-in_err-held_holds g t c =
    let s = setting g.V.Vars.value_of c.args.stack.now c.args.env.now in
    let is : c.from_residual-in_err-held_holds.result ≡ Err (stop.Fault c.in_err-held_holds.field-0.0) = (let f = c.from_residual-in_err-held_holds.ensures in search rules) in
    subst (λ a. IsAnswer {A = Bool} a (holds (value c.args.predicate.now) s)) (sym is)
    (ap (λ r. and_then r (holds_by (position s.path s.place s.test))) c.in_ok-held.ensures ∙ ap (λ n. holds_by n (held_items c.in_ok-held.held)) (sym c.position-position.ensures.value) ∙ sym c.in_err-held_holds.ensures)

pub holds-returns : goal.holds-returns
holds-returns g t c =
    let s = setting g.V.Vars.value_of c.args.stack.now c.args.env.now in
    ap (λ r. and_then r (holds_by (position s.path s.place s.test))) c.in_ok-held.ensures ∙ ap (λ n. holds_by n (held_items c.in_ok-held.held)) (sym c.position-position.ensures.value) ∙ sym c.in_ok-held_holds.ensures

pub ends_at-all_hold-requires : goal.ends_at-all_hold-requires
ends_at-all_hold-requires g t c ks within =
    let p = path c.args.stack.now in
    let reached = reaches _ _ (sym c.leads_to.ensures ∙ c.if-not-leads_to.false) in
    (search (rules, the_lemmas), (within, (c.requires.place, (reached_told c.args.step.now.test p c.args.place reached, predicates_called_well c.args.step.now c.requires.arguments))))
