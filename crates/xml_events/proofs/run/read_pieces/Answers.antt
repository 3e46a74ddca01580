use Rattle.std.proofs.Common.{◌≡◌, ◌++◌, ◌∷◌, [], ◌+◌, List, ℕ, Option, Some, None, true, ap, sym, ◌∙◌, subst, take, drop}
use Rattle.std.proofs.lemmas.List.{take_all}
use Rattle.std.specs.List.{flat_map}
use Rattle.xml_tokens.specs.declared.lexeme.Ending.{Ending}
use Rattle.xml_tokens.proofs.RunLemmas.{joined-next, joined-all}
use Rattle.xml_events.specs.Document.{doc_for}
use Rattle.xml_events.specs.Run.{Tells, IsDrained}
use Rattle.xml_events.specs.Source.{fed_with, ended_there, Source}
use Rattle.xml_events.proofs.Running.{IsRead, read-fed, read-drained, read-over, read-ended}
use Rattle.xml_events.proofs.run.read_pieces.Goals as goal

pub loop-piece-preserved : goal.loop-piece-preserved
loop-piece-preserved c =
    let pieces = c.args.pieces.now in
    let i = c.loop-piece.piece-index in
    let joined = flat_map (λ piece. piece.items) (take i pieces) in
    let piece = c.piece-item.result.items in
    let fed : c.feed.new.self ≡ fed_with c.loop-piece.reader piece = c.in_ok-feed.ensures.ok ∙ ap (fed_with c.loop-piece.reader) c.deref.ensures.value in
    let read : IsRead c.args.reader.now.limits c.args.reader.now.strip c.args.reader.now.before.cdata (joined ++ piece) c.loop-piece.events c.feed.new.self =
    subst (λ (s : Source). IsRead c.args.reader.now.limits c.args.reader.now.strip c.args.reader.now.before.cdata (joined ++ piece) c.loop-piece.events s) (sym fed) (read-fed c.args.reader.now.limits c.args.reader.now.strip c.args.reader.now.before.cdata joined piece c.loop-piece.events c.loop-piece.reader c.loop-piece.invariant) in
    let drained : IsDrained c.feed.new.self c.loop-piece.events c.drain.new.reader c.drain.new.events None =
    subst (λ (o : Option Ending). IsDrained c.feed.new.self c.loop-piece.events c.drain.new.reader c.drain.new.events o) c.in_default.is c.in_ok-ending.ensures in
    subst (λ (l : List ℕ). IsRead c.args.reader.now.limits c.args.reader.now.strip c.args.reader.now.before.cdata l c.drain.new.events c.drain.new.reader)
    (sym (joined-next (λ piece. piece.items) pieces i c.piece-item.result c.loop-piece-test.true c.piece-item.is))
    (read-drained c.args.reader.now.limits c.args.reader.now.strip c.args.reader.now.before.cdata (joined ++ piece) c.loop-piece.events c.drain.new.events c.feed.new.self c.drain.new.reader read drained)

pub returns-in-Some : goal.returns-in-Some
returns-in-Some c =
    let pieces = c.args.pieces.now in
    let i = c.loop-piece.piece-index in
    let joined = flat_map (λ piece. piece.items) (take i pieces) in
    let piece = c.piece-item.result.items in
    let left = flat_map (λ piece. piece.items) (drop (i + 1) pieces) in
    let fed : c.feed.new.self ≡ fed_with c.loop-piece.reader piece = c.in_ok-feed.ensures.ok ∙ ap (fed_with c.loop-piece.reader) c.deref.ensures.value in
    let read : IsRead c.args.reader.now.limits c.args.reader.now.strip c.args.reader.now.before.cdata (joined ++ piece) c.loop-piece.events c.feed.new.self =
    subst (λ (s : Source). IsRead c.args.reader.now.limits c.args.reader.now.strip c.args.reader.now.before.cdata (joined ++ piece) c.loop-piece.events s) (sym fed) (read-fed c.args.reader.now.limits c.args.reader.now.strip c.args.reader.now.before.cdata joined piece c.loop-piece.events c.loop-piece.reader c.loop-piece.invariant) in
    let drained : IsDrained c.feed.new.self c.loop-piece.events c.drain.new.reader c.drain.new.events (Some c.in-Some.ending) =
    subst (λ (o : Option Ending). IsDrained c.feed.new.self c.loop-piece.events c.drain.new.reader c.drain.new.events o) c.in-Some.is c.in_ok-ending.ensures in
    let all : (joined ++ piece) ++ left ≡ flat_map (λ piece. piece.items) pieces =
    ap (λ l. l ++ left) (sym (joined-next (λ piece. piece.items) pieces i c.piece-item.result c.loop-piece-test.true c.piece-item.is)) ∙ joined-all (λ piece. piece.items) pieces (i + 1) in
    subst (λ (l : List ℕ). Tells (doc_for c.args.reader.now.limits c.args.reader.now.strip c.args.reader.now.before.cdata l true ∷ []) c.drain.new.events c.in-Some.ending) all
    (read-over c.args.reader.now.limits c.args.reader.now.strip c.args.reader.now.before.cdata (joined ++ piece) left c.loop-piece.events c.drain.new.events c.feed.new.self c.drain.new.reader c.in-Some.ending read drained)

pub returns : goal.returns
returns c =
    let pieces = c.args.pieces.now in
    let joined = flat_map (λ piece. piece.items) (take c.loop-piece.piece-index pieces) in
    let all : joined ≡ flat_map (λ piece. piece.items) pieces = ap (flat_map (λ piece. piece.items)) (take_all c.loop-piece.piece-index pieces c.loop-piece-test.false) in
    let drained : IsDrained (ended_there c.loop-piece.reader) c.loop-piece.events c.drain-2.new.reader c.drain-2.new.events (Some c.in-Some-2.ending) =
    subst (λ (s : Source). IsDrained s c.loop-piece.events c.drain-2.new.reader c.drain-2.new.events (Some c.in-Some-2.ending)) c.finish.ensures.source
    (subst (λ (o : Option Ending). IsDrained c.finish.new.self c.loop-piece.events c.drain-2.new.reader c.drain-2.new.events o) c.in-Some-2.is c.in_ok-ending-2.ensures) in
    subst (λ (l : List ℕ). Tells (doc_for c.args.reader.now.limits c.args.reader.now.strip c.args.reader.now.before.cdata l true ∷ []) c.drain-2.new.events c.in-Some-2.ending) all
    (read-ended c.args.reader.now.limits c.args.reader.now.strip c.args.reader.now.before.cdata joined c.loop-piece.events c.drain-2.new.events c.loop-piece.reader c.drain-2.new.reader c.in-Some-2.ending c.loop-piece.invariant drained)
