use Rattle.std.proofs.Common.{◌∙◌, sym}
use Rattle.std.specs.Str.{chars}
use Rattle.xml_names.proofs.Places.{uri-last, uri-before}
use Rattle.xml_names.proofs.in_force.InForce.searched_uri.Goals as goal

pub returns-then-is_spelled : goal.returns-then-is_spelled
returns-then-is_spelled c =
    let is_it = sym c.is_spelled.ensures ∙ c.if-is_spelled.true in
    sym (uri-last c.loop-last.rest.now c.in-Some.others.now c.in-Some.last.now (chars c.args.prefix.now) c.in-Some.ensures.cases.0 is_it) ∙ c.loop-last.invariant

pub loop-last-preserved : goal.loop-last-preserved
loop-last-preserved c =
    let is_other = sym c.is_spelled.ensures ∙ c.if-is_spelled.false in
    sym (uri-before c.loop-last.rest.now c.in-Some.others.now c.in-Some.last.now (chars c.args.prefix.now) c.in-Some.ensures.cases.0 is_other) ∙ c.loop-last.invariant
