use Rattle.std.proofs.Common.{◌≡◌, ◌∷◌, [], Bool, true, false, Ok, Err, map, refl, ap, sym, subst, ◌∙◌}
use Rattle.stx_base.specs.declared.part.Part.TheVariants as part
use Rattle.node_stack.specs.Open.{node_of}
use Rattle.node_stack.specs.declared.node.NodeView.{NodeView}
use Rattle.template_machine.specs.Finding.{passing}
use Rattle.template_machine.specs.Putting.{attribute_part}
use Rattle.template_machine.specs.Saying.{Puts}
use Rattle.template_machine.specs.Scopes.{in_force}
use Rattle.template_machine.specs.Starts.{copy_start}
use Rattle.template_machine.proofs.InTurn.{puts_answered, puts_stopped, puts_then}
use Rattle.template_machine.proofs.Saying.{puts_nothing, stops_with}
use Rattle.template_machine.proofs.Shelved.{stands_on}
use Rattle.template_machine.proofs.putting.Putting.open_copy.Goals as goal

pub returns-in_err-passing_attributes-in-Element-clause-stands : goal.returns-in_err-passing_attributes-in-Element-clause-stands
returns-in_err-passing_attributes-in-Element-clause-stands g c = stands_on _ _ _ c.start_there.ensures.stands c.passing_attributes.ensures.stands

pub returns-in_ok-passing_attributes-in-Element-clause-stands : goal.returns-in_ok-passing_attributes-in-Element-clause-stands
returns-in_ok-passing_attributes-in-Element-clause-stands g c = stands_on _ _ _ c.start_there.ensures.stands c.passing_attributes.ensures.stands

-- What is put.

pub returns-in-Document-clause-puts : goal.returns-in-Document-clause-puts
returns-in-Document-clause-puts g c =
    let scope = in_force c.args.bindings.now in
    puts_nothing g.S.Sink.output g.S.Sink.told g.met.S.Sink.nothing c.args.at (copy_start scope c.args.attributes.now (node_of c.args.node)) true c.args.self.now c.args.out.now
    (ap (λ (v : NodeView). copy_start scope c.args.attributes.now (node_of v)) c.in-Document.is)

pub returns-in_err-start_there-in-Element-clause-puts : goal.returns-in_err-start_there-in-Element-clause-puts
returns-in_err-start_there-in-Element-clause-puts g c =
    let scope = in_force c.args.bindings.now in
    let old = c.args.self.now in
    let new = c.start_there.new.self in
    let e = c.in_err-start_there-in-Element.field-0.0 in
    let name = c.in-Element.name.now in
    let attrs = c.in-Element.attrs.now in
    subst (λ r. Puts g.S.Sink.output g.S.Sink.told c.args.at (copy_start scope c.args.attributes.now (node_of c.args.node)) r old new c.args.out.now c.start_there.new.out) (sym (stops_with c.from_residual.result e c.from_residual.ensures.1))
    (subst (λ (v : NodeView). Puts g.S.Sink.output g.S.Sink.told c.args.at (copy_start scope c.args.attributes.now (node_of v)) (Err e) old new c.args.out.now c.start_there.new.out) (sym c.in-Element.is)
    (puts_stopped g.S.Sink.output g.S.Sink.told c.args.at (part.Start name scope ∷ []) (map attribute_part (passing c.args.attributes.now attrs)) e old new new c.args.out.now c.start_there.new.out
    c.in_err-start_there-in-Element.ensures.puts))

pub returns-in_err-passing_attributes-in-Element-clause-puts : goal.returns-in_err-passing_attributes-in-Element-clause-puts
returns-in_err-passing_attributes-in-Element-clause-puts g c =
    let scope = in_force c.args.bindings.now in
    let old = c.args.self.now in
    let new = c.passing_attributes.new.self in
    let now = c.passing_attributes.new.out in
    let e = c.in_err-passing_attributes-in-Element.field-0.0 in
    let name = c.in-Element.name.now in
    let attrs = c.in-Element.attrs.now in
    subst (λ r. Puts g.S.Sink.output g.S.Sink.told c.args.at (copy_start scope c.args.attributes.now (node_of c.args.node)) r old new c.args.out.now now)
    (sym (stops_with c.from_residual-in_err-passing_attributes-in-Element.result e c.from_residual-in_err-passing_attributes-in-Element.ensures.1))
    (subst (λ (v : NodeView). Puts g.S.Sink.output g.S.Sink.told c.args.at (copy_start scope c.args.attributes.now (node_of v)) (Err e) old new c.args.out.now now) (sym c.in-Element.is)
    (puts_answered g.S.Sink.output g.S.Sink.told c.args.at (part.Start name scope ∷ map attribute_part (passing c.args.attributes.now attrs)) (Err e) true old new c.args.out.now now
    (puts_then g.S.Sink.output g.S.Sink.told g.met.S.Sink.leaves g.met.S.Sink.further c.args.at (part.Start name scope ∷ []) (map attribute_part (passing c.args.attributes.now attrs)) _ (Err e)
    old c.start_there.new.self new c.args.out.now c.start_there.new.out now c.in_ok-start_there-in-Element.ensures.puts c.in_err-passing_attributes-in-Element.ensures.puts)))

pub returns-in_ok-passing_attributes-in-Element-clause-puts : goal.returns-in_ok-passing_attributes-in-Element-clause-puts
returns-in_ok-passing_attributes-in-Element-clause-puts g c =
    let scope = in_force c.args.bindings.now in
    let old = c.args.self.now in
    let new = c.passing_attributes.new.self in
    let now = c.passing_attributes.new.out in
    let name = c.in-Element.name.now in
    let attrs = c.in-Element.attrs.now in
    subst (λ (v : NodeView). Puts g.S.Sink.output g.S.Sink.told c.args.at (copy_start scope c.args.attributes.now (node_of v)) (Ok true) old new c.args.out.now now) (sym c.in-Element.is)
    (puts_answered g.S.Sink.output g.S.Sink.told c.args.at (part.Start name scope ∷ map attribute_part (passing c.args.attributes.now attrs)) (Ok _) true old new c.args.out.now now
    (puts_then g.S.Sink.output g.S.Sink.told g.met.S.Sink.leaves g.met.S.Sink.further c.args.at (part.Start name scope ∷ []) (map attribute_part (passing c.args.attributes.now attrs)) _ (Ok _)
    old c.start_there.new.self new c.args.out.now c.start_there.new.out now c.in_ok-start_there-in-Element.ensures.puts c.in_ok-passing_attributes-in-Element.ensures.puts))

pub returns-in_err-text-in-Chars-clause-puts : goal.returns-in_err-text-in-Chars-clause-puts
returns-in_err-text-in-Chars-clause-puts g c =
    let scope = in_force c.args.bindings.now in
    let old = c.args.self.now in
    let new = c.text.new.self in
    let now = c.text.new.out in
    let e = c.in_err-text-in-Chars.field-0.0 in
    subst (λ r. Puts g.S.Sink.output g.S.Sink.told c.args.at (copy_start scope c.args.attributes.now (node_of c.args.node)) r old new c.args.out.now now)
    (sym (stops_with c.from_residual-in_err-text-in-Chars.result e c.from_residual-in_err-text-in-Chars.ensures.1))
    (subst (λ (v : NodeView). Puts g.S.Sink.output g.S.Sink.told c.args.at (copy_start scope c.args.attributes.now (node_of v)) (Err e) old new c.args.out.now now) (sym c.in-Chars.is)
    (puts_answered g.S.Sink.output g.S.Sink.told c.args.at _ (Err e) false old new c.args.out.now now c.in_err-text-in-Chars.ensures.puts))

pub returns-in_ok-text-in-Chars-clause-puts : goal.returns-in_ok-text-in-Chars-clause-puts
returns-in_ok-text-in-Chars-clause-puts g c =
    let scope = in_force c.args.bindings.now in
    let old = c.args.self.now in
    let new = c.text.new.self in
    let now = c.text.new.out in
    subst (λ (v : NodeView). Puts g.S.Sink.output g.S.Sink.told c.args.at (copy_start scope c.args.attributes.now (node_of v)) (Ok false) old new c.args.out.now now) (sym c.in-Chars.is)
    (puts_answered g.S.Sink.output g.S.Sink.told c.args.at _ (Ok _) false old new c.args.out.now now c.in_ok-text-in-Chars.ensures.puts)

pub returns-in_err-cdata-in-CData-clause-puts : goal.returns-in_err-cdata-in-CData-clause-puts
returns-in_err-cdata-in-CData-clause-puts g c =
    let scope = in_force c.args.bindings.now in
    let old = c.args.self.now in
    let new = c.cdata.new.self in
    let now = c.cdata.new.out in
    let e = c.in_err-cdata-in-CData.field-0.0 in
    subst (λ r. Puts g.S.Sink.output g.S.Sink.told c.args.at (copy_start scope c.args.attributes.now (node_of c.args.node)) r old new c.args.out.now now)
    (sym (stops_with c.from_residual-in_err-cdata-in-CData.result e c.from_residual-in_err-cdata-in-CData.ensures.1))
    (subst (λ (v : NodeView). Puts g.S.Sink.output g.S.Sink.told c.args.at (copy_start scope c.args.attributes.now (node_of v)) (Err e) old new c.args.out.now now) (sym c.in-CData.is)
    (puts_answered g.S.Sink.output g.S.Sink.told c.args.at _ (Err e) false old new c.args.out.now now c.in_err-cdata-in-CData.ensures.puts))

pub returns-in_ok-cdata-in-CData-clause-puts : goal.returns-in_ok-cdata-in-CData-clause-puts
returns-in_ok-cdata-in-CData-clause-puts g c =
    let scope = in_force c.args.bindings.now in
    let old = c.args.self.now in
    let new = c.cdata.new.self in
    let now = c.cdata.new.out in
    subst (λ (v : NodeView). Puts g.S.Sink.output g.S.Sink.told c.args.at (copy_start scope c.args.attributes.now (node_of v)) (Ok false) old new c.args.out.now now) (sym c.in-CData.is)
    (puts_answered g.S.Sink.output g.S.Sink.told c.args.at _ (Ok _) false old new c.args.out.now now c.in_ok-cdata-in-CData.ensures.puts)

pub returns-in_err-comment-in-Comment-clause-puts : goal.returns-in_err-comment-in-Comment-clause-puts
returns-in_err-comment-in-Comment-clause-puts g c =
    let scope = in_force c.args.bindings.now in
    let old = c.args.self.now in
    let new = c.comment.new.self in
    let now = c.comment.new.out in
    let e = c.in_err-comment-in-Comment.field-0.0 in
    subst (λ r. Puts g.S.Sink.output g.S.Sink.told c.args.at (copy_start scope c.args.attributes.now (node_of c.args.node)) r old new c.args.out.now now)
    (sym (stops_with c.from_residual-in_err-comment-in-Comment.result e c.from_residual-in_err-comment-in-Comment.ensures.1))
    (subst (λ (v : NodeView). Puts g.S.Sink.output g.S.Sink.told c.args.at (copy_start scope c.args.attributes.now (node_of v)) (Err e) old new c.args.out.now now) (sym c.in-Comment.is)
    (puts_answered g.S.Sink.output g.S.Sink.told c.args.at _ (Err e) false old new c.args.out.now now c.in_err-comment-in-Comment.ensures.puts))

pub returns-in_ok-comment-in-Comment-clause-puts : goal.returns-in_ok-comment-in-Comment-clause-puts
returns-in_ok-comment-in-Comment-clause-puts g c =
    let scope = in_force c.args.bindings.now in
    let old = c.args.self.now in
    let new = c.comment.new.self in
    let now = c.comment.new.out in
    subst (λ (v : NodeView). Puts g.S.Sink.output g.S.Sink.told c.args.at (copy_start scope c.args.attributes.now (node_of v)) (Ok false) old new c.args.out.now now) (sym c.in-Comment.is)
    (puts_answered g.S.Sink.output g.S.Sink.told c.args.at _ (Ok _) false old new c.args.out.now now c.in_ok-comment-in-Comment.ensures.puts)

pub returns-in_err-instruction-in-Pi-clause-puts : goal.returns-in_err-instruction-in-Pi-clause-puts
returns-in_err-instruction-in-Pi-clause-puts g c =
    let scope = in_force c.args.bindings.now in
    let old = c.args.self.now in
    let new = c.instruction.new.self in
    let now = c.instruction.new.out in
    let e = c.in_err-instruction-in-Pi.field-0.0 in
    subst (λ r. Puts g.S.Sink.output g.S.Sink.told c.args.at (copy_start scope c.args.attributes.now (node_of c.args.node)) r old new c.args.out.now now)
    (sym (stops_with c.from_residual-in_err-instruction-in-Pi.result e c.from_residual-in_err-instruction-in-Pi.ensures.1))
    (subst (λ (v : NodeView). Puts g.S.Sink.output g.S.Sink.told c.args.at (copy_start scope c.args.attributes.now (node_of v)) (Err e) old new c.args.out.now now) (sym c.in-Pi.is)
    (puts_answered g.S.Sink.output g.S.Sink.told c.args.at _ (Err e) false old new c.args.out.now now c.in_err-instruction-in-Pi.ensures.puts))

pub returns-in_ok-instruction-in-Pi-clause-puts : goal.returns-in_ok-instruction-in-Pi-clause-puts
returns-in_ok-instruction-in-Pi-clause-puts g c =
    let scope = in_force c.args.bindings.now in
    let old = c.args.self.now in
    let new = c.instruction.new.self in
    let now = c.instruction.new.out in
    subst (λ (v : NodeView). Puts g.S.Sink.output g.S.Sink.told c.args.at (copy_start scope c.args.attributes.now (node_of v)) (Ok false) old new c.args.out.now now) (sym c.in-Pi.is)
    (puts_answered g.S.Sink.output g.S.Sink.told c.args.at _ (Ok _) false old new c.args.out.now now c.in_ok-instruction-in-Pi.ensures.puts)

pub returns-in_err-attribute_of-in-Attribute-clause-puts : goal.returns-in_err-attribute_of-in-Attribute-clause-puts
returns-in_err-attribute_of-in-Attribute-clause-puts g c =
    let scope = in_force c.args.bindings.now in
    let old = c.args.self.now in
    let new = c.attribute_of.new.self in
    let now = c.attribute_of.new.out in
    let e = c.in_err-attribute_of-in-Attribute.field-0.0 in
    subst (λ r. Puts g.S.Sink.output g.S.Sink.told c.args.at (copy_start scope c.args.attributes.now (node_of c.args.node)) r old new c.args.out.now now)
    (sym (stops_with c.from_residual-in_err-attribute_of-in-Attribute.result e c.from_residual-in_err-attribute_of-in-Attribute.ensures.1))
    (subst (λ (v : NodeView). Puts g.S.Sink.output g.S.Sink.told c.args.at (copy_start scope c.args.attributes.now (node_of v)) (Err e) old new c.args.out.now now) (sym c.in-Attribute.is)
    (puts_answered g.S.Sink.output g.S.Sink.told c.args.at _ (Err e) false old new c.args.out.now now c.in_err-attribute_of-in-Attribute.ensures.puts))

pub returns-in_ok-attribute_of-in-Attribute-clause-puts : goal.returns-in_ok-attribute_of-in-Attribute-clause-puts
returns-in_ok-attribute_of-in-Attribute-clause-puts g c =
    let scope = in_force c.args.bindings.now in
    let old = c.args.self.now in
    let new = c.attribute_of.new.self in
    let now = c.attribute_of.new.out in
    subst (λ (v : NodeView). Puts g.S.Sink.output g.S.Sink.told c.args.at (copy_start scope c.args.attributes.now (node_of v)) (Ok false) old new c.args.out.now now) (sym c.in-Attribute.is)
    (puts_answered g.S.Sink.output g.S.Sink.told c.args.at _ (Ok _) false old new c.args.out.now now c.in_ok-attribute_of-in-Attribute.ensures.puts)
