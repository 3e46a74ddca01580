use Rattle.std.proofs.Common.{◌∷◌, [], Bool, if◌then◌else◌, Ok, Err, map, ap, sym, subst, ◌∙◌}
use Rattle.std.proofs.lemmas.Bool.{not-false, not-true}
use Rattle.stx_base.specs.declared.part.Part.TheVariants as part
use Rattle.sheet_model.specs.declared.pass.Kinds.{Kinds}
use Rattle.template_machine.specs.Passing.{parts_if}
use Rattle.template_machine.specs.Putting.{attribute_part}
use Rattle.template_machine.specs.Saying.{Puts}
use Rattle.template_machine.specs.Scopes.{in_force}
use Rattle.template_machine.specs.Starts.{start_in}
use Rattle.template_machine.proofs.InTurn.{puts_stopped, puts_then}
use Rattle.template_machine.proofs.Saying.{puts_nothing, stops_with}
use Rattle.template_machine.proofs.Shelved.{stands_on}
use Rattle.template_machine.proofs.putting.Putting.pass_start.Goals as goal

pub returns-clause-stands : goal.returns-clause-stands
returns-clause-stands g c = stands_on _ _ _ c.start_there.ensures.stands c.attributes_of.ensures.stands

pub returns-then-not-kinds-clause-puts : goal.returns-then-not-kinds-clause-puts
returns-then-not-kinds-clause-puts g c =
    let parts = start_in (in_force c.args.bindings.now) c.args.name.now (if c.args.kinds.attributes then c.args.attrs.now else []) in
    puts_nothing g.S.Sink.output g.S.Sink.told g.met.S.Sink.nothing c.args.at (parts_if c.args.kinds.elements parts) _ c.args.self.now c.args.out.now
    (ap (λ (b : Bool). parts_if b parts) (not-true c.args.kinds.elements c.if-not-kinds.true))

pub returns-in_err-start_there-clause-puts : goal.returns-in_err-start_there-clause-puts
returns-in_err-start_there-clause-puts g c =
    let old = c.args.self.now in
    let new = c.start_there.new.self in
    let e = c.in_err-start_there.field-0.0 in
    let scope = in_force c.args.bindings.now in
    let attrs = if c.args.kinds.attributes then c.args.attrs.now else [] in
    let all = start_in scope c.args.name.now attrs in
    subst (λ r. Puts {A = Unit {0}} g.S.Sink.output g.S.Sink.told c.args.at (parts_if c.args.kinds.elements all) r old new c.args.out.now c.start_there.new.out) (sym (stops_with c.from_residual.result e c.from_residual.ensures.1))
    (subst (λ (b : Bool). Puts {A = Unit {0}} g.S.Sink.output g.S.Sink.told c.args.at (parts_if b all) (Err e) old new c.args.out.now c.start_there.new.out) (sym (not-false c.args.kinds.elements c.if-not-kinds.false))
    (puts_stopped g.S.Sink.output g.S.Sink.told c.args.at (part.Start c.args.name.now scope ∷ []) (map attribute_part attrs) e old new new c.args.out.now c.start_there.new.out c.in_err-start_there.ensures.puts))

pub returns-then-not-kinds-2-clause-puts : goal.returns-then-not-kinds-2-clause-puts
returns-then-not-kinds-2-clause-puts g c =
    let old = c.args.self.now in
    let new = c.start_there.new.self in
    let scope = in_force c.args.bindings.now in
    subst (λ (b : Bool). Puts {A = Unit {0}} g.S.Sink.output g.S.Sink.told c.args.at (parts_if b (start_in scope c.args.name.now (if c.args.kinds.attributes then c.args.attrs.now else []))) (Ok (tt {0})) old new c.args.out.now c.start_there.new.out)
    (sym (not-false c.args.kinds.elements c.if-not-kinds.false))
    (subst (λ (b : Bool). Puts {A = Unit {0}} g.S.Sink.output g.S.Sink.told c.args.at (start_in scope c.args.name.now (if b then c.args.attrs.now else [])) (Ok (tt {0})) old new c.args.out.now c.start_there.new.out) (sym (not-true c.args.kinds.attributes c.if-not-kinds-2.true))
    c.in_ok-start_there.ensures.puts)

pub returns-clause-puts : goal.returns-clause-puts
returns-clause-puts g c =
    let old = c.args.self.now in
    let new = c.attributes_of.new.self in
    let now = c.attributes_of.new.out in
    let scope = in_force c.args.bindings.now in
    subst (λ (b : Bool). Puts {A = Unit {0}} g.S.Sink.output g.S.Sink.told c.args.at (parts_if b (start_in scope c.args.name.now (if c.args.kinds.attributes then c.args.attrs.now else []))) c.attributes_of.result old new c.args.out.now now)
    (sym (not-false c.args.kinds.elements c.if-not-kinds.false))
    (subst (λ (b : Bool). Puts {A = Unit {0}} g.S.Sink.output g.S.Sink.told c.args.at (start_in scope c.args.name.now (if b then c.args.attrs.now else [])) c.attributes_of.result old new c.args.out.now now) (sym (not-false c.args.kinds.attributes c.if-not-kinds-2.false))
    (puts_then g.S.Sink.output g.S.Sink.told g.met.S.Sink.leaves g.met.S.Sink.further c.args.at (part.Start c.args.name.now scope ∷ []) (map attribute_part c.args.attrs.now) _ c.attributes_of.result
    old c.start_there.new.self new c.args.out.now c.start_there.new.out now c.in_ok-start_there.ensures.puts c.attributes_of.ensures.puts))
