use Rattle.std.proofs.Common.{◌++◌, ◌∷◌, [], List, ap, sym, ◌∙◌, append_assoc, append-nil}
use Rattle.xml_tokens.specs.declared.lexeme.Ending.TheVariants as ending
use Rattle.xml_events.specs.declared.event.Event.{Event}
use Rattle.xml_events.proofs.Running.{given-nothing, given-more, given-over, given-need}
use Rattle.xml_events.proofs.run.drain.Goals as goal

pub giving-init : goal.giving-init
giving-init c = ([], sym (append-nil c.args.events.now), given-nothing c.args.reader.now)

pub giving-preserved : goal.giving-preserved
giving-preserved c =
    let g = c.giving.invariant in
    let d = c.in-Event.ensures in (
      g.0 ++ c.in-Event.event ∷ [],
      c.in_ok-push-in-Event.ensures.ok ∙ ap (λ (l : List Event). l ++ c.in-Event.event ∷ []) g.1 ∙ append_assoc c.args.events.now g.0 (c.in-Event.event ∷ []),
      given-more c.args.reader.now c.giving.reader c.next.new.self g.0 c.in-Event.event g.2 d.answer d.leaves d.ended,
    )

pub returns-in-Need : goal.returns-in-Need
returns-in-Need c =
    let g = c.giving.invariant in
    let d = c.in-Need.ensures in
    (g.0, g.1, given-need c.args.reader.now c.giving.reader c.next.new.self g.0 g.2 d.leaves d.ended, sym g.2.ended ∙ d.answer.1)

pub returns-in-End : goal.returns-in-End
returns-in-End c =
    let g = c.giving.invariant in
    (g.0, g.1, given-over c.args.reader.now c.giving.reader g.0 ending.End g.2 c.in-End.ensures.answer)

pub returns-in-Bad : goal.returns-in-Bad
returns-in-Bad c =
    let g = c.giving.invariant in
    (g.0, g.1, given-over c.args.reader.now c.giving.reader g.0 (ending.Bad c.in-Bad.fault) g.2 c.in-Bad.ensures.answer)
