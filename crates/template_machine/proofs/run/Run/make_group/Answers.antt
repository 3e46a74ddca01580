use Rattle.std.proofs.Common.{◌≡◌, ◌≢◌, ◌==◌, ◌+◌, ◌<◌, Bool, Err, Ok, suc, Some, get_or, length, map, reverse, sym, ap, subst, ◌∙◌, arith, eq-eqb, ne_eqb}
use Rattle.sheet_model.specs.declared.sheet.Variable.{Variable}
use Rattle.std.specs.List.{slice_get}
use Rattle.template_machine.specs.Made.{OnlyStores}
use Rattle.template_machine.specs.declared.run.Run.{Run}
use Rattle.template_machine.proofs.Assigned.{stores_steady, stores_still}
use Rattle.template_machine.proofs.Making.{can_declare, declared_before, made_stores, names_in, names_next, names_past, none_before, same_variable, stores_on, variable_at, variables_apart, variables_few}
use Rattle.template_machine.specs.Steps.{test_in}
use Rattle.template_machine.specs.Varying.{HasMade, Makes, PassesTest}
use Rattle.template_machine.proofs.Joining.{dropped_is}
use Rattle.template_machine.proofs.Saying.{stops_with}
use Rattle.template_machine.proofs.Varying.{got_here, made_next, made_none, made_past, made_stops, top_test}
use Rattle.template_machine.proofs.run.Run.make_group.Goals as goal
use Rattle.template_machine.proofs.run.Run.make_group.Goals.{then-as_slice-place+in_ok-make, else-as_slice-place}

pub loop-place-init : goal.loop-place-init
loop-place-init c = record {
  only = stores_still c.args.self.now;
  names = ap (map (λ b. b.name)) c.requires.none ∙ sym (none_before c.args.program.now.sheet.variables c.args.group);
  takes = λ is passes_it. made_none c.args.program.now (λ (v : Variable). v.group == c.args.group) c.test_of-test.result.now c.args.self.now;
}

pub make-requires-clause-steady : goal.make-requires-clause-steady
make-requires-clause-steady c = stores_steady c.args.program.now c.args.self.now c.loop-place.self c.loop-place.invariant.only c.requires.steady

pub make-requires-clause-new : goal.make-requires-clause-new
make-requires-clause-new c = λ v at.
    let p = c.args.program.now in
    let b = c.loop-place.self in
    let vs = p.sheet.variables in
    let k = c.loop-place.place in
    let w = c.index-as_slice-place.result in
    let s = stores_steady p c.args.self.now b c.loop-place.invariant.only c.requires.steady in
    let within : k < length vs = omega arith in
    let own : v.group ≡ c.args.group =
    ap (λ (x : Variable). x.group) (sym (same_variable vs c.as_slice.result.now k v w c.as_slice.ensures within c.index-as_slice-place.is at))
    ∙ ap (λ (x : Variable). x.group) c.index-as_slice-place.is ∙ c.if-as_slice-place.true in
    can_declare vs k v b.store (variables_apart p b s) (variables_few p b s) at
    (subst (λ g. names_in b.store g ≡ declared_before vs k g) (sym own) c.loop-place.invariant.names)

pub loop-place-preserved : goal.loop-place-preserved
loop-place-preserved c =
    let p = c.args.program.now in
    let a = c.args.self.now in
    let b = c.loop-place.self in
    let d = c.if-as_slice-place.self in
    let g = c.args.group in
    let vs = p.sheet.variables in
    let k = c.loop-place.place in
    let w = c.index-as_slice-place.result in
    let s = stores_steady p a b c.loop-place.invariant.only c.requires.steady in
    let within : k < length vs = omega arith in
    let next : suc k ≡ k + 1 = omega arith in
    let at : slice_get vs k ≡ Some w = variable_at vs c.as_slice.result.now k w c.as_slice.ensures within c.index-as_slice-place.is in
    let t = c.test_of-test.result.now in
    let asked : Variable → Bool = λ v. v.group == g in
    let left = dropped_is vs k w within (got_here vs k w at) in
    let more : (OnlyStores a d) × (names_in d.store g ≡ declared_before vs (suc k) g) × (test_in p.sheet (reverse a.frames.frames) ≡ Some t → PassesTest t a → HasMade p asked (k + 1) t a d) =
    elim c.if-as_slice-place.branch [
      | then-as_slice-place+in_ok-make x ↦
          let n = x.make.new.self in
          let m = x.in_ok-make.ensures.made w at in
          subst (λ (r : Run). (OnlyStores a r) × (names_in r.store g ≡ declared_before vs (suc k) g) × (test_in p.sheet (reverse a.frames.frames) ≡ Some t → PassesTest t a → HasMade p asked (k + 1) t a r)) (sym x.self-is) (
            stores_on a b n c.loop-place.invariant.only (made_stores w b n m),
            names_next p b n k w g s at m c.loop-place.invariant.names,
            λ tests passes_it.
                made_next p asked k t w a b n (c.loop-place.invariant.takes tests passes_it) at left (eq-eqb w.group g (ap (λ (y : Variable). y.group) c.index-as_slice-place.is ∙ x.if-as_slice-place.true)) passes_it
                (x.in_ok-make.ensures.makes w at),
          )
      | else-as_slice-place x ↦
          let other : w.group ≢ g = λ e. x.if-as_slice-place.false (sym (ap (λ (y : Variable). y.group) c.index-as_slice-place.is) ∙ e) in
          subst (λ (r : Run). (OnlyStores a r) × (names_in r.store g ≡ declared_before vs (suc k) g) × (test_in p.sheet (reverse a.frames.frames) ≡ Some t → PassesTest t a → HasMade p asked (k + 1) t a r)) (sym x.self-is) (
            c.loop-place.invariant.only,
            names_past vs b.store k w g at other c.loop-place.invariant.names,
            λ tests passes_it. made_past p asked k t w a b b (c.loop-place.invariant.takes tests passes_it) at left (ne_eqb w.group g other),
          )
    ] in
    record {
      only = more.0;
      names = subst (λ n. names_in d.store g ≡ declared_before vs n g) next more.1;
      takes = more.2;
    }

pub returns-clause-makes : goal.returns-clause-makes
returns-clause-makes c = λ t tests passes_it.
    let p = c.args.program.now in
    let a = c.args.self.now in
    let vs = p.sheet.variables in
    let asked : Variable → Bool = λ v. v.group == c.args.group in
    let u = c.test_of-test.result.now in
    let all : c.loop-place.place ≡ length vs = omega arith in
    let same : t ≡ u = top_test p.sheet a.frames.frames c.count.result t u c.count.ensures c.requires.frames tests c.test_of-test.ensures in
    subst (λ x. HasMade p asked (length vs) x a c.loop-place.self) (sym same)
    (subst (λ n. HasMade p asked n u a c.loop-place.self) all
    (c.loop-place.invariant.takes (tests ∙ ap (λ x. Some x) same) (subst (λ x. PassesTest x a) same passes_it)))

pub returns-in_err-make-clause-makes : goal.returns-in_err-make-clause-makes
returns-in_err-make-clause-makes c = λ t tests passes_it.
    let p = c.args.program.now in
    let a = c.args.self.now in
    let b = c.loop-place.self in
    let n = c.make.new.self in
    let g = c.args.group in
    let vs = p.sheet.variables in
    let k = c.loop-place.place in
    let w = c.index-as_slice-place.result in
    let asked : Variable → Bool = λ v. v.group == g in
    let u = c.test_of-test.result.now in
    let within : k < length vs = omega arith in
    let at : slice_get vs k ≡ Some w = variable_at vs c.as_slice.result.now k w c.as_slice.ensures within c.index-as_slice-place.is in
    let left = dropped_is vs k w within (got_here vs k w at) in
    let same : t ≡ u = top_test p.sheet a.frames.frames c.count.result t u c.count.ensures c.requires.frames tests c.test_of-test.ensures in
    let passes_u = subst (λ x. PassesTest x a) same passes_it in
    let e = c.in_err-make.field-0.0 in
    subst (λ y. Makes p asked t y a n) (sym (stops_with c.from_residual.result e c.from_residual.ensures.1))
    (subst (λ x. Makes p asked x (Err e) a n) (sym same)
    (made_stops p asked k u w a b n (c.loop-place.invariant.takes (tests ∙ ap (λ x. Some x) same) passes_u) at left
    (eq-eqb w.group g (ap (λ (y : Variable). y.group) c.index-as_slice-place.is ∙ c.if-as_slice-place.true)) passes_u e (c.in_err-make.ensures.makes w at)))
