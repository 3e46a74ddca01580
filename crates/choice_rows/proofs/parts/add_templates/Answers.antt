use Rattle.std.proofs.Common.{All, sym, subst}
use Rattle.choice_rows.specs.Bare.{IsBare}
use Rattle.choice_rows.proofs.parts.add_templates.Goals as goal
use Rattle.choice_rows.proofs.parts.add_templates.Goals.{in-template+in_ok-add_template-in-template, in-templates+in_ok-add_several-in-templates, in_default}

pub loop-setting-preserved : goal.loop-setting-preserved
loop-setting-preserved c =
    elim c.match-as_str.branch [
      | in-template+in_ok-add_template-in-template w ↦ subst (All (IsBare c.args.groups)) (sym w.templates-is) w.in_ok-add_template-in-template.ensures
      | in-templates+in_ok-add_several-in-templates w ↦ subst (All (IsBare c.args.groups)) (sym w.templates-is) w.in_ok-add_several-in-templates.ensures
      | in_default w ↦ subst (All (IsBare c.args.groups)) (sym w.templates-is) c.loop-setting.invariant
    ]
