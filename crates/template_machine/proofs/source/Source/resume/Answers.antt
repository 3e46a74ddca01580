use Rattle.std.proofs.Common.{◌≡◌, None, Some, refl, sym, ap, ◌∙◌}
use Rattle.node_stack.specs.Stack.{path, path_node}
use Rattle.template_machine.specs.Sources.{declared_in, within_declared}
use Rattle.template_machine.proofs.Current.{resumed_node}
use Rattle.template_machine.proofs.source.Source.resume.Goals as goal

pub returns-in_ok-enter-in-Some-clause-ok : goal.returns-in_ok-enter-in-Some-clause-ok
returns-in_ok-enter-in-Some-clause-ok c =
    let x = path_node c.args.node in
    let shown = resumed_node x (path c.args.self.now.stack) (path c.resume.new.self) c.current.result c.in_ok-resume.ensures.ok c.current.ensures in
    let decls : declared_in x.node ≡ Some c.in-Some.decls.now = ap declared_in shown ∙ sym c.in-Some.ensures in
    record {
      path_is = c.in_ok-resume.ensures.ok;
      scopes_are = c.in_ok-enter-in-Some.ensures.ok ∙ sym (ap (λ d. within_declared d c.args.self.now.bindings) decls);
      ahead_is = refl;
      held_is = refl;
      origin_is = refl;
    }

pub returns-in-None : goal.returns-in-None
returns-in-None c =
    let x = path_node c.args.node in
    let shown = resumed_node x (path c.args.self.now.stack) (path c.resume.new.self) c.current.result c.in_ok-resume.ensures.ok c.current.ensures in
    let none : declared_in x.node ≡ None = ap declared_in shown ∙ sym c.in-None.ensures in
    record {
      ok = record {
        path_is = c.in_ok-resume.ensures.ok;
        scopes_are = sym (ap (λ d. within_declared d c.args.self.now.bindings) none);
        ahead_is = refl;
        held_is = refl;
        origin_is = refl;
      };
      told = λ same. refl;
      err = tt;
      counts = (refl, refl);
    }
