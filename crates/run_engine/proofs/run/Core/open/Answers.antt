use Rattle.std.proofs.Common.{[], ◌∷◌, Some, refl, ap, ◌∙◌}
use Rattle.std.proofs.lemmas.Result.{on_ok_weaker}
use Rattle.xml_events.specs.Document.{doc_for}
use Rattle.xml_events.specs.Source.{source_for}
use Rattle.run_engine.specs.declared.run.Core.{Core}
use Rattle.run_engine.specs.declared.document.Document.{Document}
use Rattle.run_engine.proofs.Standing.{opens-so}
use Rattle.run_engine.proofs.run.Core.open.Goals as goal

pub returns-clause-opens : goal.returns-clause-opens
returns-clause-opens c =
    let d : Document = record { name = Some c.take_wanted.result; reader = c.for_sheet-reader.result } in
    let others = c.take_wanted.ensures.others in
    on_ok_weaker c.add.result
    (λ adds. opens-so c.args.self.now c.take_wanted.new.self c.add.new.self c.take_wanted.result d c.take_wanted.ensures.name others adds refl
    (c.for_sheet-reader.ensures.source ∙ ap (λ (x : Core). source_for x.limits x.strip x.cdata) others)
    (λ bytes ended. c.for_sheet-reader.ensures.document bytes ended ∙ ap (λ (x : Core). doc_for x.limits x.strip x.cdata bytes ended ∷ []) others) c.documents.ensures) c.add.ensures.adds
