use Rattle.std.proofs.Common.{◌∙◌, ◌<◌, Some, ap, sym, subst, slice_get, length, arith}
use Rattle.node_stack.specs.Open.{at_tip}
use Rattle.node_stack.specs.Path.{position_at}
use Rattle.node_stack.proofs.Stacking.{attribute_position_is, index_within}
use Rattle.node_stack.proofs.open.standing_position.Goals as goal

pub attribute_position-requires : goal.attribute_position-requires
attribute_position-requires c =
    let within = index_within c.args.attrs.now c.in-Attribute.index (subst (λ o. 0 < length (at_tip c.args.siblings.now c.args.attrs.now (Some o))) c.in-Attribute.is c.requires.there) in
    omega arith

pub returns-in-Attribute-clause-value : goal.returns-in-Attribute-clause-value
returns-in-Attribute-clause-value c =
    c.attribute_position.ensures.value
    ∙ attribute_position_is c.args.test.now c.args.attrs.now c.in-Attribute.index (slice_get c.args.attrs.now c.in-Attribute.index)
    (subst (λ o. 0 < length (at_tip c.args.siblings.now c.args.attrs.now (Some o))) c.in-Attribute.is c.requires.there)
    ∙ ap (λ o. position_at c.args.test.now (slice_get (at_tip c.args.siblings.now c.args.attrs.now (Some o)) 0)) (sym c.in-Attribute.is)
