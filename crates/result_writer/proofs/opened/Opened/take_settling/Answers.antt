use Rattle.std.proofs.Common.{ap, sym, ◌∙◌}
use Rattle.stx_base.specs.declared.part.Part.TheVariants.{End}
use Rattle.result_writer.specs.Target.{Target, behind, fault}
use Rattle.result_writer.proofs.Opening.{end-settled, good_start}
use Rattle.result_writer.proofs.opened.Opened.take_settling.Goals as goal

pub hold-requires-clause-good : goal.hold-requires-clause-good
hold-requires-clause-good c =
    let t = c.args.self.now in
    good_start t.limit t.left c.in-Start.name (ap (fault t.limit t.left) (sym c.in-Start.is) ∙ c.requires)

pub returns-in_ok-tag-in-End-clause-ok : goal.returns-in_ok-tag-in-End-clause-ok
returns-in_ok-tag-in-End-clause-ok c =
    let t = c.args.self.now in
    c.end-ended.ensures c.in-End.name
    ∙ ap (λ (t : Target). behind t (End c.in-End.name)) c.in_ok-tag-in-End.ensures.ok
    ∙ end-settled t c.in-End.name ∙ ap (behind t) (sym c.in-End.is)
