use Rattle.std.proofs.Common.{◌++◌, ◌∷◌, [], Err, Ok, ap, sym, subst, ◌∙◌}
use Rattle.sheet_model.specs.declared.sheet.Variable.{Variable}
use Rattle.var_store.specs.Copies.{on_group, on_newest}
use Rattle.var_store.specs.Variables.{bound}
use Rattle.template_machine.specs.Varying.{GaveNew, MakesOne}
use Rattle.template_machine.proofs.Saying.{stops_with}
use Rattle.template_machine.proofs.Making.{is_made, same_variable}
use Rattle.template_machine.proofs.run.Run.make.Goals as goal

pub returns-clause-made : goal.returns-clause-made
returns-clause-made c = λ v at.
    let w = c.index-as_slice-place.result in
    is_made c.args.self.now c.declare.new.self v w _ _
    (same_variable c.args.program.now.sheet.variables c.as_slice.result.now c.args.place v w c.as_slice.ensures c.requires.place c.index-as_slice-place.is at)
    c.in_ok-name.ensures c.in_ok-declare.ensures.ok

pub returns-clause-makes : goal.returns-clause-makes
returns-clause-makes c = λ v at.
    let p = c.args.program.now in
    let r = c.args.self.now in
    let w = c.index-as_slice-place.result in
    let value = c.in_ok-value.value in
    let new = record r { store = c.declare.new.self } in
    let same = same_variable p.sheet.variables c.as_slice.result.now c.args.place v w c.as_slice.ensures c.requires.place c.index-as_slice-place.is at in
    subst (λ (x : Variable). MakesOne p c.args.place x c.args.test.now (Ok tt) r new) same (
      value,
      (
        c.in_ok-value.ensures,
        ap (λ st. record r { store = st }) (c.in_ok-declare.ensures.ok ∙ ap (λ n. on_group (on_newest (λ bs. bs ++ bound n value ∷ [])) w.group r.store) c.in_ok-name.ensures),
      ),
    )

pub returns-in_err-value-clause-makes : goal.returns-in_err-value-clause-makes
returns-in_err-value-clause-makes c = λ v at.
    let p = c.args.program.now in
    let r = c.args.self.now in
    let w = c.index-as_slice-place.result in
    let e = c.in_err-value.field-0.0 in
    let same = same_variable p.sheet.variables c.as_slice.result.now c.args.place v w c.as_slice.ensures c.requires.place c.index-as_slice-place.is at in
    subst (λ y. MakesOne p c.args.place v c.args.test.now y r r) (sym (stops_with c.from_residual.result e c.from_residual.ensures.1))
    (subst (λ (x : Variable). GaveNew p r c.args.place x c.args.test.now (Err e)) same c.in_err-value.ensures)
