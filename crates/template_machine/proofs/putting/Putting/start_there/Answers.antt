use Rattle.std.proofs.Common.{◌∷◌, [], true, Ok, Err, refl, sym, subst, ap, ◌∙◌}
use Rattle.stx_base.specs.declared.name.Name.{Name}
use Rattle.stx_base.specs.declared.part.Part.TheVariants as part
use Rattle.template_machine.specs.Saying.{Puts}
use Rattle.template_machine.specs.Scopes.{in_force}
use Rattle.template_machine.specs.declared.stop.Stop.TheVariants as stop
use Rattle.template_machine.proofs.Copied.{puts_copied}
use Rattle.template_machine.proofs.Saying.{none_there, puts_in, puts_not, puts_out, puts_past, stops_with}
use Rattle.template_machine.proofs.Shelved.{same_buffers, stands_on}
use Rattle.template_machine.proofs.putting.Putting.start_there.Goals as goal

pub returns-in-Some-clause-stands : goal.returns-in-Some-clause-stands
returns-in-Some-clause-stands g c = stands_on _ _ _ c.copied_name.ensures.same c.keep.ensures.stands

pub returns-then-is_last_scope-clause-stands : goal.returns-then-is_last_scope-clause-stands
returns-then-is_last_scope-clause-stands g c = stands_on _ _ _ c.copied_name.ensures.same (same_buffers _ _ refl refl)

pub returns-in_err-written-clause-stands : goal.returns-in_err-written-clause-stands
returns-in_err-written-clause-stands g c = stands_on _ _ _ c.copied_name.ensures.same (same_buffers _ _ refl refl)

pub returns-clause-stands : goal.returns-clause-stands
returns-clause-stands g c = stands_on _ _ _ c.copied_name.ensures.same (same_buffers _ _ refl refl)

pub returns-in_err-name-clause-puts : goal.returns-in_err-name-clause-puts
returns-in_err-name-clause-puts g c =
    let parts = part.Start c.args.name.now (in_force c.args.bindings.now) ∷ [] in
    subst (λ r. Puts g.S.Sink.output g.S.Sink.told c.args.at parts r c.args.self.now c.copied_name.new.self c.args.out.now c.args.out.now)
    (sym (stops_with c.from_residual.result stop.Memory c.from_residual.ensures.1))
    (puts_not g.S.Sink.output g.S.Sink.told g.met.S.Sink.nothing c.args.at parts c.args.self.now c.copied_name.new.self c.args.out.now)

pub returns-in_err-scope-clause-puts : goal.returns-in_err-scope-clause-puts
returns-in_err-scope-clause-puts g c =
    let parts = part.Start c.args.name.now (in_force c.args.bindings.now) ∷ [] in
    subst (λ r. Puts g.S.Sink.output g.S.Sink.told c.args.at parts r c.args.self.now c.copied_name.new.self c.args.out.now c.args.out.now)
    (sym (stops_with c.from_residual-in_err-scope.result stop.Memory c.from_residual-in_err-scope.ensures.1))
    (puts_not g.S.Sink.output g.S.Sink.told g.met.S.Sink.nothing c.args.at parts c.args.self.now c.copied_name.new.self c.args.out.now)

pub returns-in-Some-clause-puts : goal.returns-in-Some-clause-puts
returns-in-Some-clause-puts g c =
    let old = c.args.self.now in
    let mid = c.copied_name.new.self in
    let new = c.keep.new.self in
    let out = c.args.out.now in
    let scope = c.in_ok-scope.scope in
    let name = c.in_ok-name.name in
    subst (λ n. Puts g.S.Sink.output g.S.Sink.told c.args.at (part.Start n (in_force c.args.bindings.now) ∷ []) c.keep.result old new out out) c.in_ok-name.ensures.copy
    (subst (λ l. Puts g.S.Sink.output g.S.Sink.told c.args.at (part.Start name l ∷ []) c.keep.result old new out out) (c.in_ok-scope.ensures ∙ c.in_force.ensures)
    (puts_copied g.S.Sink.output g.S.Sink.told c.args.at (part.Start name scope ∷ []) c.keep.result old mid new out out c.copied_name.ensures.rest
    (puts_in g.S.Sink.output g.S.Sink.told g.met.S.Sink.nothing c.in-Some.buffer c.args.at (part.Start name scope) c.keep.result mid new out
    (sym c.in-Some.ensures) c.keep.ensures.keeps)))

-- a start in the scope of the start before
pub returns-then-is_last_scope-clause-puts : goal.returns-then-is_last_scope-clause-puts
returns-then-is_last_scope-clause-puts g c =
    let old = c.args.self.now in
    let mid = c.copied_name.new.self in
    let new = record mid { spare = c.start_again.new.spare } in
    let out = c.args.out.now in
    let now = c.start_again.new.self in
    let name = c.in_ok-name.name in
    let last = (g.S.Sink.output out).last in
    let scope_is = sym (c.is_last_scope.ensures.0 c.if-is_last_scope.true) ∙ c.in_force-then-self.ensures in
    subst (λ n. Puts g.S.Sink.output g.S.Sink.told c.args.at (part.Start n (in_force c.args.bindings.now) ∷ []) c.written.result old new out now) c.in_ok-name.ensures.copy
    (subst (λ l. Puts g.S.Sink.output g.S.Sink.told c.args.at (part.Start name l ∷ []) c.written.result old new out now) scope_is
    (subst (λ r. Puts g.S.Sink.output g.S.Sink.told c.args.at (part.Start name last ∷ []) r old new out now) (sym c.written.ensures)
    (puts_copied g.S.Sink.output g.S.Sink.told c.args.at (part.Start name last ∷ []) _ old mid new out now c.copied_name.ensures.rest
    (puts_past g.S.Sink.output g.S.Sink.told c.args.at (part.Start name last ∷ []) _ mid mid new out now refl refl
    (puts_out g.S.Sink.output g.S.Sink.told g.met.S.Sink.leaves c.args.at (part.Start name last) c.start_again.result mid out now c.start_again.ensures
    (sym c.target.ensures ∙ none_there c.target.result (λ x e. c.in_default.not-Some x e)))))))

-- a start in a scope that is told

pub returns-in_err-written-clause-puts : goal.returns-in_err-written-clause-puts
returns-in_err-written-clause-puts g c =
    let old = c.args.self.now in
    let mid = c.copied_name.new.self in
    let new = record mid { spare = c.start.new.spare } in
    let out = c.args.out.now in
    let now = c.start.new.self in
    let name = c.in_ok-name.name in
    let e = c.in_err-written.field-0.0 in
    let scope = c.in_force-2.result.now in
    subst (λ r. Puts {A = Unit {0}} g.S.Sink.output g.S.Sink.told c.args.at (part.Start c.args.name.now (in_force c.args.bindings.now) ∷ []) r old new out now)
    (sym (stops_with c.from_residual-in_err-written.result e c.from_residual-in_err-written.ensures.1))
    (subst (λ n. Puts {A = Unit {0}} g.S.Sink.output g.S.Sink.told c.args.at (part.Start n (in_force c.args.bindings.now) ∷ []) (Err e) old new out now) c.in_ok-name.ensures.copy
    (subst (λ l. Puts {A = Unit {0}} g.S.Sink.output g.S.Sink.told c.args.at (part.Start name l ∷ []) (Err e) old new out now) c.in_force-2.ensures
    (subst (λ r. Puts {A = Unit {0}} g.S.Sink.output g.S.Sink.told c.args.at (part.Start name scope ∷ []) r old new out now) (sym c.in_err-written.ensures)
    (puts_copied g.S.Sink.output g.S.Sink.told c.args.at (part.Start name scope ∷ []) _ old mid new out now c.copied_name.ensures.rest
    (puts_past g.S.Sink.output g.S.Sink.told c.args.at (part.Start name scope ∷ []) _ mid mid new out now refl refl
    (puts_out g.S.Sink.output g.S.Sink.told g.met.S.Sink.leaves c.args.at (part.Start name scope) c.start.result mid out now c.start.ensures
    (sym c.target.ensures ∙ none_there c.target.result (λ x e. c.in_default.not-Some x e))))))))

pub returns-clause-puts : goal.returns-clause-puts
returns-clause-puts g c =
    let old = c.args.self.now in
    let mid = c.copied_name.new.self in
    let new = record mid { is_told = true; spare = c.start.new.spare } in
    let out = c.args.out.now in
    let now = c.start.new.self in
    let name = c.in_ok-name.name in
    let done = c.in_ok-written.field-0 in
    let scope = c.in_force-2.result.now in
    subst (λ n. Puts {A = Unit {0}} g.S.Sink.output g.S.Sink.told c.args.at (part.Start n (in_force c.args.bindings.now) ∷ []) (Ok done) old new out now) c.in_ok-name.ensures.copy
    (subst (λ l. Puts {A = Unit {0}} g.S.Sink.output g.S.Sink.told c.args.at (part.Start name l ∷ []) (Ok done) old new out now) c.in_force-2.ensures
    (subst (λ r. Puts {A = Unit {0}} g.S.Sink.output g.S.Sink.told c.args.at (part.Start name scope ∷ []) r old new out now) (sym c.in_ok-written.ensures)
    (puts_copied g.S.Sink.output g.S.Sink.told c.args.at (part.Start name scope ∷ []) _ old mid new out now c.copied_name.ensures.rest
    (puts_past g.S.Sink.output g.S.Sink.told c.args.at (part.Start name scope ∷ []) _ mid mid new out now refl refl
    (puts_out g.S.Sink.output g.S.Sink.told g.met.S.Sink.leaves c.args.at (part.Start name scope) c.start.result mid out now c.start.ensures
    (sym c.target.ensures ∙ none_there c.target.result (λ x e. c.in_default.not-Some x e)))))))
