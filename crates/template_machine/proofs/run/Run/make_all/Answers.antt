use Rattle.std.proofs.Common.{◌≡◌, ◌≤◌, ◌+◌, ◌-◌, ◌<◌, ◌∷◌, Err, Ok, ap, drop, refl, suc, true, length, sym, subst, arith, ◌∙◌}
use Rattle.sheet_model.specs.declared.sheet.Variable.{Variable}
use Rattle.template_machine.specs.Varying.{Makes, MakesOne}
use Rattle.template_machine.proofs.Attributed.{split_at}
use Rattle.template_machine.proofs.FromStart.{made_whole}
use Rattle.template_machine.proofs.Saying.{stops_with}
use Rattle.template_machine.proofs.Varying.{made_next, made_none, made_stops}
use Rattle.node_stack.specs.Path.{is_told}
use Rattle.node_stack.specs.Stack.{path}
use Rattle.template_machine.specs.declared.run.Run.{Run}
use Rattle.template_machine.proofs.Assigned.{got_within, stores_steady, stores_still}
use Rattle.template_machine.proofs.Making.{can_declare, declared_before, made_stores, names_in, names_next, names_none, store_long, stores_on, variable_stands, variables_apart, variables_few}
use Rattle.template_machine.proofs.run.Run.make_all.Goals as goal

pub loop-place-init : goal.loop-place-init
loop-place-init c = record {
  only = stores_still c.args.self.now;
  made = λ fits. made_none c.args.program.now (λ (v : Variable). true) c.args.program.now.test_of_root c.args.self.now;
  names = λ g less. names_none c.args.self.now.store g c.args.program.now.sheet.variables c.requires.none less;
}

pub make-requires-clause-steady : goal.make-requires-clause-steady
make-requires-clause-steady c = stores_steady c.args.program.now c.args.self.now c.loop-place.self c.loop-place.invariant.only c.requires.steady

pub make-requires-clause-told : goal.make-requires-clause-told
make-requires-clause-told c =
    subst (λ t. is_told (path c.loop-place.self.source.stack) (length (path c.loop-place.self.source.stack).nodes - 1) t ≡ true) (sym c.root_test.ensures)
    (subst (λ (r : Run). is_told (path r.source.stack) (length (path r.source.stack).nodes - 1) c.args.program.now.test_of_root ≡ true) (sym c.loop-place.invariant.only.rest) c.requires.told)

pub make-requires-clause-new : goal.make-requires-clause-new
make-requires-clause-new c = λ v at.
    let p = c.args.program.now in
    let a = c.args.self.now in
    let b = c.loop-place.self in
    let s = stores_steady p a b c.loop-place.invariant.only c.requires.steady in
    can_declare p.sheet.variables c.loop-place.place v b.store (variables_apart p b s) (variables_few p b s) at
    (c.loop-place.invariant.names v.group (variable_stands p b s c.loop-place.place v at))

pub loop-place-preserved : goal.loop-place-preserved
loop-place-preserved c =
    let p = c.args.program.now in
    let a = c.args.self.now in
    let b = c.loop-place.self in
    let d = c.make.new.self in
    let k = c.loop-place.place in
    let s = stores_steady p a b c.loop-place.invariant.only c.requires.steady in
    let within : k < length p.sheet.variables = omega arith in
    let v = got_within p.sheet.variables k within in
    let m = c.in_ok-make.ensures.made v.0 v.1 in
    let next : suc k ≡ k + 1 = omega arith in
    record {
      only = stores_on a b d c.loop-place.invariant.only (made_stores v.0 b d m);
      made = λ fits.
          made_next p (λ (x : Variable). true) k p.test_of_root v.0 a b d (c.loop-place.invariant.made fits) v.1 ((split_at p.sheet.variables k v.0 v.1).0 ∙ ap (λ n. v.0 ∷ drop n p.sheet.variables) next) refl fits
          (subst (λ t. MakesOne p k v.0 t (Ok tt) b d) c.root_test.ensures (c.in_ok-make.ensures.makes v.0 v.1));
      names = λ g less.
          subst (λ n. names_in d.store g ≡ declared_before p.sheet.variables n g) next
          (names_next p b d k v.0 g s v.1 m (c.loop-place.invariant.names g (omega (arith, less, store_long b d (made_stores v.0 b d m)))));
    }

pub returns-clause-makes : goal.returns-clause-makes
returns-clause-makes c = λ fits.
    let p = c.args.program.now in
    made_whole p (λ (v : Variable). true) p.test_of_root c.args.self.now c.loop-place.self c.loop-place.place (omega (arith, c.loop-place-test.false, c.len-place-end.ensures)) (c.loop-place.invariant.made fits)

pub returns-in_err-make-clause-makes : goal.returns-in_err-make-clause-makes
returns-in_err-make-clause-makes c = λ fits.
    let p = c.args.program.now in
    let a = c.args.self.now in
    let b = c.loop-place.self in
    let k = c.loop-place.place in
    let within : k < length p.sheet.variables = omega arith in
    let v = got_within p.sheet.variables k within in
    let next : suc k ≡ k + 1 = omega arith in
    let e = c.in_err-make.field-0.0 in
    subst (λ x. Makes p (λ (v : Variable). true) p.test_of_root x a c.make.new.self) (sym (stops_with c.from_residual.result e c.from_residual.ensures.1))
    (made_stops p (λ (x : Variable). true) k p.test_of_root v.0 a b c.make.new.self (c.loop-place.invariant.made fits) v.1 ((split_at p.sheet.variables k v.0 v.1).0 ∙ ap (λ n. v.0 ∷ drop n p.sheet.variables) next) refl fits e
    (subst (λ t. MakesOne p k v.0 t (Err e) b c.make.new.self) c.root_test.ensures (c.in_err-make.ensures.makes v.0 v.1)))
