use Rattle.std.proofs.Common.{◌≡◌, [], ◌∷◌, ◌++◌, Some, ap, ◌∙◌, rules}
use Rattle.template_machine.specs.Trail.{scope_within}
use Rattle.template_machine.proofs.Scoped.{opened_with, opened_without, told_same}
use Rattle.template_machine.proofs.bindings.Bindings.enter.Goals as goal

pub returns-then-is_empty-clause-ok : goal.returns-then-is_empty-clause-ok
returns-then-is_empty-clause-ok c =
    let none : c.args.decls.now ≡ [] = search rules in
    opened_without c.self.inside.around.items c.push.new.self.items c.self.inside.in_force c.args.self.now c.self.view_is c.args.decls.now c.in_ok-push.ensures.items none

pub returns-then-is_empty-clause-told : goal.returns-then-is_empty-clause-told
returns-then-is_empty-clause-told c =
    λ same. told_same c.self.inside.around.items c.push.new.self.items c.self.inside.in_force c.args.self.now c.self.view_is

pub returns-clause-ok : goal.returns-clause-ok
returns-clause-ok c =
    let old = c.self.inside.around.items in
    let scope = c.self.inside.in_force in
    let within : c.replace-outer.new.dest ≡ scope_within scope c.args.decls.now = c.replace-outer.ensures.after ∙ c.in_ok-within.ensures in
    let pushed : c.push-2.new.self.items ≡ old ++ Some scope ∷ [] =
    c.in_ok-push-2.ensures.items ∙ ap (λ xs. xs ++ Some c.replace-outer.result ∷ []) c.in_ok-reserve.ensures.items
    ∙ ap (λ x. old ++ Some x ∷ []) c.replace-outer.ensures.value in
    opened_with old c.push-2.new.self.items scope c.args.self.now c.self.view_is c.args.decls.now c.replace-outer.new.dest pushed within
