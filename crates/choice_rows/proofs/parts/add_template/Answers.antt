use Rattle.std.proofs.Common.{All, sym, subst}
use Rattle.std.proofs.lemmas.List.Elements.{All-push}
use Rattle.choice_rows.specs.Bare.{IsBare}
use Rattle.choice_rows.proofs.parts.add_template.Goals as goal

pub returns : goal.returns
returns c =
    subst (All (IsBare c.args.groups)) (sym c.in_ok-push.ensures.ok)
    (All-push (IsBare c.args.groups) c.args.templates.now c.in_ok-template.template c.requires c.in_ok-template.ensures)
