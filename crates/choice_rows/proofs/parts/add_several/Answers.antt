use Rattle.std.proofs.Common.{All, sym, subst}
use Rattle.std.proofs.lemmas.List.Elements.{All-push}
use Rattle.choice_rows.specs.Bare.{IsBare}
use Rattle.choice_rows.proofs.parts.add_several.Goals as goal

pub loop-pattern-preserved : goal.loop-pattern-preserved
loop-pattern-preserved c =
    subst (All (IsBare c.args.groups)) (sym c.in_ok-push.ensures.ok)
    (All-push (IsBare c.args.groups) c.loop-pattern.templates c.in_ok-template.template c.loop-pattern.invariant c.in_ok-template.ensures)
