use Rattle.std.proofs.Common.{◌≡◌, ◌+◌, [], ◌∷◌, ◌++◌, length, map, refl, ap, sym, subst, ◌∙◌, arith, length-append}
use Rattle.std.specs.Vec.Iter.{into_iter_items}
use Rattle.instr_code.specs.Bare.{bare}
use Rattle.instr_code.specs.Bodies.{joined}
use Rattle.instr_code.specs.Emitting.{HasRoom, Puts, inner_locals, inner_of, inner_ops, listed}
use Rattle.instr_code.specs.Layout.{branches, choice_ops, choices_ops, list_piece}
use Rattle.instr_code.specs.Piece.{Piece, alone}
use Rattle.instr_code.specs.declared.code.Op.TheVariants as op
use Rattle.instr_code.specs.declared.emit.Emitter.{Emitter}
use Rattle.instr_code.proofs.Forms.{children_are, puts_instruction, room_inside, unrolled}
use Rattle.instr_code.proofs.Laying.{filled_at, laid_branch, laid_choice, laid_choices, laid_loop, laid_round}
use Rattle.instr_code.proofs.Pieces.{branches-numbers, branches-size}
use Rattle.instr_code.proofs.Putting.{next_number}
use Rattle.instr_code.proofs.Turns.{arms_fit, branch_nests_in, count_fits, laid, locals-append, locals_fit_more, nests_in, puts_branch_more, puts_one_more, room_for_branch, room_for_one, taken_more}
use Rattle.sheet_model.specs.Body.{all_of, body_nesting, children}
use Rattle.sheet_model.proofs.Nests.{body_nesting-append, nesting_is}
use Rattle.sheet_model.proofs.Searches.{all_of-append}
use Rattle.instr_code.proofs.emit.Emitter.+emit.Goals as goal

pub put-put_ops-requires : goal.put-put_ops-requires
put-put_ops-requires t c =
    let i = c.args.instr in
    let s = c.args.self.now in
    let next : Emitter = record s { instrs = c.push.new.self } in
    let more : c.push.new.self ≡ s.instrs ++ bare i ∷ [] = c.in_ok-push.ensures.ok ∙ ap (λ b. s.instrs ++ b ∷ []) c.in_ok-inner.ensures.bare in
    let deep : body_nesting (listed c.in_ok-inner.inner) ≡ body_nesting (children i) =
    ap (λ x. body_nesting (listed x)) c.in_ok-inner.ensures.inner ∙ ap body_nesting (sym (children_are i)) in
    let is = nesting_is i in (
      omega arith,
      subst (λ x. HasRoom (inner_ops x c.len-number.result (length s.ops)) next) (sym c.in_ok-inner.ensures.inner)
          (subst (λ n. HasRoom (inner_ops (inner_of i) n (length s.ops)) next) (sym c.len-number.ensures.value) (room_inside i s next c.requires refl more)),
    )

pub put-returns-clause-ok : goal.put-returns-clause-ok
put-returns-clause-ok t c =
    let i = c.args.instr in
    let s = c.args.self.now in
    let u = c.put_ops.new.self in
    let next : Emitter = record s { instrs = c.push.new.self } in
    let more : c.push.new.self ≡ s.instrs ++ bare i ∷ [] = c.in_ok-push.ensures.ok ∙ ap (λ b. s.instrs ++ b ∷ []) c.in_ok-inner.ensures.bare in
    puts_instruction i s next u refl more
    (subst (λ x. Puts (inner_ops x (length s.instrs) (length s.ops)) (all_of (listed x)) next u) c.in_ok-inner.ensures.inner
    (subst (λ n. Puts (inner_ops c.in_ok-inner.inner n (length s.ops)) (all_of (listed c.in_ok-inner.inner)) next u) c.len-number.ensures.value c.in_ok-put_ops.ensures))

pub put-returns-clause-locals : goal.put-returns-clause-locals
put-returns-clause-locals t c =
    c.locals-locals.ensures ∙ ap inner_locals c.in_ok-inner.ensures.inner ∙ sym (ap (λ (x : Piece). x.locals) (unrolled c.args.instr))

pub put_all-put-requires : goal.put_all-put-requires
put_all-put-requires t c =
    let ys = c.loop-instr.yielded in
    let x = c.in-Some.instr in
    let rest = into_iter_items c.next.new.self in
    let is : ys ++ x ∷ rest ≡ c.args.list = ap (λ l. ys ++ l) (sym c.in-Some.ensures.steps.0) ∙ c.loop-instr.invariant.2 in
    let deep = nests_in c.args.list ys rest x is in
    (omega arith, room_for_one c.args.list ys rest x c.args.self.now c.loop-instr.self is c.requires c.loop-instr.invariant.0)

pub put_all-overflow_add-left : goal.put_all-overflow_add-left
put_all-overflow_add-left t c =
    let ys = c.loop-instr.yielded in
    let x = c.in-Some.instr in
    let rest = into_iter_items c.next.new.self in
    let is : ys ++ x ∷ rest ≡ c.args.list = ap (λ l. ys ++ l) (sym c.in-Some.ensures.steps.0) ∙ c.loop-instr.invariant.2 in
    omega (arith, locals_fit_more c.args.list ys rest x c.args.self.now is c.requires, c.loop-instr.invariant.1, c.in_ok-left.ensures.locals)

pub put_all-loop-instr-preserved : goal.put_all-loop-instr-preserved
put_all-loop-instr-preserved t c =
    let ys = c.loop-instr.yielded in
    let x = c.in-Some.instr in
    let rest = into_iter_items c.next.new.self in
    let is : ys ++ x ∷ rest ≡ c.args.list = ap (λ l. ys ++ l) (sym c.in-Some.ensures.steps.0) ∙ c.loop-instr.invariant.2 in (
      puts_one_more ys x c.args.self.now c.loop-instr.self c.put.new.self c.loop-instr.invariant.0 c.in_ok-left.ensures.ok,
      omega (arith, locals-append ys (x ∷ []), c.loop-instr.invariant.1, c.in_ok-left.ensures.locals),
      taken_more ys rest x c.args.list is,
    )

pub put_branch-returns : goal.put_branch-returns
put_branch-returns t c =
    let s = c.args.self.now in
    laid_branch c.args.instr c.args.arm c.args.out (list_piece 0 c.args.body) (all_of c.args.body) s c.reserve.new.self c.put_list.new.self c.emit.new.self c.fill.new.self
    c.in_ok-test.ensures.ok c.in_ok-put_list.ensures c.in_ok-emit.ensures
    (filled_at _ _ _ _ c.emit.new.self c.fill.new.self c.in_ok-test.ensures.place (ap (op.Test c.args.instr c.args.arm) c.place-to.ensures) c.fill.ensures)

pub put_branches-put_branch-requires : goal.put_branches-put_branch-requires
put_branches-put_branch-requires t c =
    let ys = c.loop-body.yielded in
    let x = c.in-Some.body in
    let rest = into_iter_items c.next.new.self in
    let is : ys ++ x ∷ rest ≡ c.args.bodies = ap (λ l. ys ++ l) (sym c.in-Some.ensures.steps.0) ∙ c.loop-body.invariant.2 in
    let deep = branch_nests_in c.args.bodies ys rest x is in
    (omega arith, room_for_branch c.args.instr c.args.out c.loop-body.arm c.args.bodies ys rest x c.args.self.now c.loop-body.self is c.requires c.loop-body.invariant.0)

pub put_branches-overflow_add-arm : goal.put_branches-overflow_add-arm
put_branches-overflow_add-arm t c =
    let ys = c.loop-body.yielded in
    let x = c.in-Some.body in
    let rest = into_iter_items c.next.new.self in
    let is : ys ++ x ∷ rest ≡ c.args.bodies = ap (λ l. ys ++ l) (sym c.in-Some.ensures.steps.0) ∙ c.loop-body.invariant.2 in
    omega (arith, arms_fit c.args.instr c.args.out c.args.bodies ys rest x c.args.self.now is c.requires, c.loop-body.invariant.1)

pub put_branches-loop-body-preserved : goal.put_branches-loop-body-preserved
put_branches-loop-body-preserved t c =
    let ys = c.loop-body.yielded in
    let x = c.in-Some.body in
    let rest = into_iter_items c.next.new.self in
    let is : ys ++ x ∷ rest ≡ c.args.bodies = ap (λ l. ys ++ l) (sym c.in-Some.ensures.steps.0) ∙ c.loop-body.invariant.2 in (
      puts_branch_more c.args.instr c.args.out c.loop-body.arm ys x c.args.self.now c.loop-body.self c.put_branch.new.self c.loop-body.invariant.1
          c.loop-body.invariant.0 c.in_ok-put_branch.ensures,
      omega (arith, length-append ys (x ∷ []), c.loop-body.invariant.1),
      taken_more ys rest x c.args.bodies is,
    )

pub put_choice-put_list-requires : goal.put_choice-put_list-requires
put_choice-put_list-requires t c =
    let deep = body_nesting-append c.args.body c.args.other in
    let s = c.args.self.now in
    let n1 = next_number (alone op.Return) [] s c.reserve.new.self c.in_ok-test.ensures.ok in
    (omega arith, (record { places = omega (arith, c.in_ok-test.ensures.ok.place, c.requires.places); numbers = omega (arith, c.requires.numbers) }, omega arith))

pub put_choice-put_list-requires-2 : goal.put_choice-put_list-requires-2
put_choice-put_list-requires-2 t c =
    let deep = body_nesting-append c.args.body c.args.other in
    let s = c.args.self.now in
    let n1 = next_number (alone op.Return) [] s c.reserve.new.self c.in_ok-test.ensures.ok in
    let n2 = next_number (list_piece 0 c.args.body) (all_of c.args.body) c.reserve.new.self c.put_list.new.self c.in_ok-put_list.ensures in
    let n3 = next_number (alone op.Return) [] c.put_list.new.self c.reserve-2.new.self c.in_ok-jump.ensures.ok in (
      omega arith,
      (
        record {
          places = omega (arith, c.in_ok-test.ensures.ok.place, c.in_ok-put_list.ensures.place, c.in_ok-jump.ensures.ok.place, c.requires.places);
          numbers = omega (arith, c.requires.numbers);
        },
        omega arith,
      ),
    )

pub put_choice-returns : goal.put_choice-returns
put_choice-returns t c =
    let s = c.args.self.now in
    let body = c.args.body in
    let other = c.args.other in
    let u = c.fill-2.new.self in
    subst (λ l. Puts (choice_ops (list_piece 0 body) (list_piece 0 other) c.args.instr (length s.ops)) l s u) (sym (all_of-append body other))
    (laid_choice c.args.instr (list_piece 0 body) (list_piece 0 other) (all_of body) (all_of other) s c.reserve.new.self c.put_list.new.self c.reserve-2.new.self
    c.put_list-2.new.self c.fill.new.self u c.in_ok-test.ensures.ok c.in_ok-put_list.ensures c.in_ok-jump.ensures.ok c.in_ok-put_list-2.ensures
    (filled_at _ _ _ _ c.put_list-2.new.self c.fill.new.self c.in_ok-jump.ensures.place (ap op.Jump c.place-end.ensures) c.fill.ensures)
    (filled_at _ _ _ _ c.fill.new.self u c.in_ok-test.ensures.place (ap (op.Test c.args.instr 0) c.place-to.ensures) c.fill-2.ensures))

pub put_choices-put_branches-requires : goal.put_choices-put_branches-requires
put_choices-put_branches-requires t c =
    let s = c.args.self.now in
    let p = length s.ops in
    let lists = c.args.bodies in
    let deep = body_nesting-append (joined lists) c.args.other in
    let n1 = next_number (alone (op.Begin c.args.instr)) [] s c.emit.new.self c.in_ok-emit.ensures in
    let n2 = next_number (alone _) [] c.emit.new.self c.emit-2.new.self c.in_ok-emit-2.ensures in
    let n3 = next_number (alone op.Return) [] c.emit-2.new.self c.reserve.new.self c.in_ok-out.ensures.ok in
    let size = branches-size c.args.instr c.args.instr 0 0 c.in_ok-out.out (p + 2) (length c.reserve.new.self.ops) (p + 3) (map (list_piece 0) lists) in
    let numbers = branches-numbers c.args.instr c.args.instr 0 0 c.in_ok-out.out (p + 2) (length c.reserve.new.self.ops) (p + 3) (map (list_piece 0) lists) in
    (omega arith, record { places = omega (arith, c.in_ok-emit.ensures.place, c.in_ok-emit-2.ensures.place, c.in_ok-out.ensures.ok.place, c.requires.places, size); numbers = omega (arith, c.requires.numbers) })

pub put_choices-put_list-requires : goal.put_choices-put_list-requires
put_choices-put_list-requires t c =
    let s = c.args.self.now in
    let p = length s.ops in
    let lists = c.args.bodies in
    let deep = body_nesting-append (joined lists) c.args.other in
    let n1 = next_number (alone (op.Begin c.args.instr)) [] s c.emit.new.self c.in_ok-emit.ensures in
    let n2 = next_number (alone _) [] c.emit.new.self c.emit-2.new.self c.in_ok-emit-2.ensures in
    let n3 = next_number (alone op.Return) [] c.emit-2.new.self c.reserve.new.self c.in_ok-out.ensures.ok in
    let n4 = next_number (laid c.args.instr c.in_ok-out.out (length c.reserve.new.self.ops) lists) (all_of (joined lists)) c.reserve.new.self c.put_branches.new.self c.in_ok-put_branches.ensures in
    let size = branches-size c.args.instr c.args.instr 0 0 c.in_ok-out.out (p + 2) (length c.reserve.new.self.ops) (p + 3) (map (list_piece 0) lists) in
    let numbers = branches-numbers c.args.instr c.args.instr 0 0 c.in_ok-out.out (p + 2) (length c.reserve.new.self.ops) (p + 3) (map (list_piece 0) lists) in
    (omega arith, (record { places = omega (arith, c.in_ok-put_branches.ensures.place, c.in_ok-emit.ensures.place, c.in_ok-emit-2.ensures.place, c.in_ok-out.ensures.ok.place, c.requires.places, size); numbers = omega (arith, c.requires.numbers) }, omega arith))

pub put_choices-returns : goal.put_choices-returns
put_choices-returns t c =
    let s = c.args.self.now in
    let lists = c.args.bodies in
    let other = c.args.other in
    let u = c.fill.new.self in
    let bs = map (list_piece 0) lists in
    let n = c.args.instr in
    let first : Puts (alone (op.Jump (length c.emit.new.self.ops + 2))) [] c.emit.new.self c.emit-2.new.self =
    subst (λ k. Puts (alone (op.Jump (k + 2))) [] c.emit.new.self c.emit-2.new.self) c.place-first.ensures c.in_ok-emit-2.ensures in
    let whens : Puts (branches n 0 (length c.emit-2.new.self.ops) (length c.reserve.new.self.ops) bs) (all_of (joined lists)) c.reserve.new.self c.put_branches.new.self =
    subst (λ k. Puts (branches n 0 k (length c.reserve.new.self.ops) bs) (all_of (joined lists)) c.reserve.new.self c.put_branches.new.self) c.in_ok-out.ensures.place
    c.in_ok-put_branches.ensures in
    subst (λ l. Puts (choices_ops bs (list_piece 0 other) n (length s.ops)) l s u) (sym (all_of-append (joined lists) other))
    (laid_choices n bs (list_piece 0 other) (all_of (joined lists)) (all_of other) s c.emit.new.self c.emit-2.new.self c.reserve.new.self c.put_branches.new.self
    c.put_list.new.self u c.in_ok-emit.ensures first c.in_ok-out.ensures.ok whens c.in_ok-put_list.ensures
    (filled_at _ _ _ _ c.put_list.new.self u c.in_ok-out.ensures.place (ap op.Jump c.place-to.ensures) c.fill.ensures))

pub put_for_each-returns : goal.put_for_each-returns
put_for_each-returns t c =
    let s = c.args.self.now in
    let back : Puts (alone (op.Jump (length c.emit.new.self.ops))) [] c.put_list.new.self c.emit-2.new.self =
    subst (λ k. Puts (alone (op.Jump k)) [] c.put_list.new.self c.emit-2.new.self) c.place-again.ensures c.in_ok-emit-2.ensures in
    laid_loop c.args.instr (op.Turn c.args.instr) (list_piece 1 c.args.body) (all_of c.args.body) s c.emit.new.self c.reserve.new.self c.put_list.new.self c.emit-2.new.self c.fill.new.self
    c.in_ok-emit.ensures c.in_ok-turn.ensures.ok c.in_ok-put_list.ensures back
    (filled_at _ _ _ _ c.emit-2.new.self c.fill.new.self c.in_ok-turn.ensures.place (ap (op.Turn c.args.instr) c.place-to.ensures) c.fill.ensures)

pub put_list-overflow_add-count : goal.put_list-overflow_add-count
put_list-overflow_add-count t c =
    omega (arith, count_fits c.args.own c.args.list c.args.self.now c.requires.room c.requires.own, c.in_ok-count.ensures.locals)

pub put_round-returns : goal.put_round-returns
put_round-returns t c =
    let s = c.args.self.now in
    laid_round c.args.instr (list_piece 0 c.args.body) (all_of c.args.body) s c.reserve.new.self c.put_list.new.self c.emit.new.self c.fill.new.self
    c.in_ok-open.ensures.ok c.in_ok-put_list.ensures c.in_ok-emit.ensures
    (filled_at _ _ _ _ c.emit.new.self c.fill.new.self c.in_ok-open.ensures.place (ap (op.Open c.args.instr) c.place-to.ensures) c.fill.ensures)

pub put_while-returns : goal.put_while-returns
put_while-returns t c =
    let s = c.args.self.now in
    let back : Puts (alone (op.Jump (length c.emit.new.self.ops))) [] c.put_list.new.self c.emit-2.new.self =
    subst (λ k. Puts (alone (op.Jump k)) [] c.put_list.new.self c.emit-2.new.self) c.place-again.ensures c.in_ok-emit-2.ensures in
    laid_loop c.args.instr (op.Test c.args.instr 0) (list_piece 0 c.args.body) (all_of c.args.body) s c.emit.new.self c.reserve.new.self c.put_list.new.self c.emit-2.new.self c.fill.new.self
    c.in_ok-emit.ensures c.in_ok-test.ensures.ok c.in_ok-put_list.ensures back
    (filled_at _ _ _ _ c.emit-2.new.self c.fill.new.self c.in_ok-test.ensures.place (ap (op.Test c.args.instr 0) c.place-to.ensures) c.fill.ensures)
