use Rattle.std.proofs.Common.{◌≡◌, refl, ap, sym, subst}
use Rattle.node_stack.specs.Open.{node_of}
use Rattle.node_stack.specs.declared.node.NodeView.{NodeView}
use Rattle.node_stack.specs.declared.node.NodeView.TheVariants as view
use Rattle.template_machine.specs.Saying.{Puts}
use Rattle.template_machine.specs.Stepwise.{copy_end}
use Rattle.template_machine.proofs.Closes.{IsNoElement, ends_nothing}
use Rattle.template_machine.proofs.Saying.{puts_nothing}
use Rattle.template_machine.proofs.run.Run.close_copy.Goals as goal

pub returns-in-Element-clause-ends : goal.returns-in-Element-clause-ends
returns-in-Element-clause-ends g c =
    let r = c.args.self.now in
    record {
      node = node_of c.current.result;
      there = c.current.ensures;
      puts =
          subst (λ v. Puts g.S.Sink.output g.S.Sink.told c.args.at (copy_end (node_of v)) c.end.result r.putting c.end.new.self c.args.out.now c.end.new.out) (sym c.in-Element.is)
          c.end.ensures.puts;
    }

pub returns-in_default-clause-ends : goal.returns-in_default-clause-ends
returns-in_default-clause-ends g c =
    let r = c.args.self.now in
    let other = elim c.current.result as (λ v. v ≡ c.current.result → IsNoElement v) [
      | (view.Element name attrs decls first) ↦ λ e. c.in_default.not-Element name attrs decls first (sym e)
      | v ↦ λ e. tt
    ] in
    record {
      node = node_of c.current.result;
      there = c.current.ensures;
      puts =
          puts_nothing g.S.Sink.output g.S.Sink.told g.met.S.Sink.nothing c.args.at (copy_end (node_of c.current.result)) _ r.putting c.args.out.now
          (ends_nothing c.current.result (other refl));
    }
