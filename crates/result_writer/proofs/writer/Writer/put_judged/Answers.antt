use Rattle.std.proofs.Common.{◌≡◌, ap, sym, subst, ◌∙◌}
use Rattle.std.specs.Prelude.{OnOk}
use Rattle.stx_base.specs.declared.part.Part.{Part}
use Rattle.result_writer.specs.Target.{behind, fault}
use Rattle.result_writer.proofs.Opening.{good_start}
use Rattle.result_writer.proofs.writer.Writer.put_judged.Goals as goal

pub write_start-requires : goal.write_start-requires
write_start-requires c =
    let t = c.args.self.now in
    good_start t.limit t.left c.in-Start.name (ap (fault t.limit t.left) (sym c.in-Start.is) ∙ c.requires.judged)

pub returns-in-End-clause-ok : goal.returns-in-End-clause-ok
returns-in-End-clause-ok c =
    subst (λ (p : Part). OnOk c.write_end.result (c.write_end.new.self ≡ behind c.args.self.now p)) (sym c.in-End.is) (c.write_end.ensures.ok c.in-End._name)
