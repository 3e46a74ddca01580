use Rattle.std.proofs.Common.{◌≡◌, [], ◌∷◌, true, subst}
use Rattle.std.specs.Prelude.{IfOk}
use Rattle.std.specs.List.{flat_map}
use Rattle.std.proofs.lemmas.Result.{IfOk-weaker}
use Rattle.xml_events.specs.Document.{doc_for}
use Rattle.xml_events.specs.Run.{Tells, stop_of}
use Rattle.xml_events.specs.Source.{Source}
use Rattle.xml_events.specs.Telling.{events_of, stop_in}
use Rattle.xml_events.specs.declared.run.Run.{Run}
use Rattle.xml_events.proofs.Ending.{events-are, ending-is}
use Rattle.xml_events.proofs.run.read.Goals as goal

pub returns-clause-tells : goal.returns-clause-tells
returns-clause-tells c =
    let bytes = flat_map (λ piece. piece.items) c.args.pieces.now in
    subst (λ (s : Source). IfOk c.read_pieces.result (λ run. Tells (doc_for s.limits s.strip s.before.cdata bytes true ∷ []) run.events run.ending)) c.for_sheet-reader.ensures.source c.read_pieces.ensures

pub returns-clause-events : goal.returns-clause-events
returns-clause-events c =
    let bytes = flat_map (λ piece. piece.items) c.args.pieces.now in
    IfOk-weaker c.read_pieces.result (λ run. Tells (doc_for c.args.limits c.args.strip c.args.cdata bytes true ∷ []) run.events run.ending) (λ run. run.events ≡ events_of (doc_for c.args.limits c.args.strip c.args.cdata bytes true))
    (λ (run : Run) t. events-are c.args.limits c.args.strip c.args.cdata bytes run.events run.ending t) (returns-clause-tells c)

pub returns-clause-ending : goal.returns-clause-ending
returns-clause-ending c =
    let bytes = flat_map (λ piece. piece.items) c.args.pieces.now in
    IfOk-weaker c.read_pieces.result (λ run. Tells (doc_for c.args.limits c.args.strip c.args.cdata bytes true ∷ []) run.events run.ending) (λ run. stop_in (doc_for c.args.limits c.args.strip c.args.cdata bytes true) ≡ stop_of run.ending)
    (λ (run : Run) t. ending-is c.args.limits c.args.strip c.args.cdata bytes run.events run.ending t) (returns-clause-tells c)
