use Rattle.std.proofs.Common.{◌≡◌, ◌++◌, ◌+◌, List, ℕ, Option, Some, None, ap, sym, ◌∙◌, refl, subst, take, drop}
use Rattle.std.proofs.lemmas.List.{take_all}
use Rattle.std.specs.List.{flat_map}
use Rattle.xml_tokens.specs.Run.{Taken, Lexes, IsDrained, document}
use Rattle.xml_tokens.specs.declared.lexeme.Ending.{Ending}
use Rattle.xml_tokens.proofs.RunLemmas.{beginning, run-fed, run-finished, run-drained, run-over, run-ends, run-no-need, lexes-one, taken-fresh, taken-ended, joined-next, joined-all}
use Rattle.xml_tokens.proofs.run.lex.Goals as goal

pub loop-piece-preserved : goal.loop-piece-preserved
loop-piece-preserved c =
    let limits = c.args.limits in
    let pieces = c.args.pieces.now in
    let i = c.loop-piece.piece-index in
    let joined = flat_map (λ piece. piece.items) (take i pieces) in
    let piece = c.piece-item.result.items in
    let fed : Taken (beginning limits (joined ++ piece)) c.loop-piece.lexemes c.feed.new.self =
    run-fed limits joined c.loop-piece.lexemes c.loop-piece.lexer piece c.feed.new.self c.loop-piece.invariant.taken
    (c.in_ok-feed.ensures.ok ∙ ap (λ (l : List ℕ). record c.loop-piece.lexer { unread = c.loop-piece.lexer.unread ++ l }) c.deref.ensures.value) in
    let drained : IsDrained c.feed.new.self c.loop-piece.lexemes c.drain.new.lexer c.drain.new.lexemes None =
    subst (λ (o : Option Ending). IsDrained c.feed.new.self c.loop-piece.lexemes c.drain.new.lexer c.drain.new.lexemes o) c.in_default.is c.in_ok-ending.ensures in
    let taken = run-drained (beginning limits (joined ++ piece)) c.feed.new.self c.drain.new.lexer c.loop-piece.lexemes c.drain.new.lexemes fed drained in
    record {
      fresh = taken-fresh (beginning limits (joined ++ piece)) c.drain.new.lexer c.drain.new.lexemes taken refl;
      going = taken-ended (beginning limits (joined ++ piece)) c.drain.new.lexer c.drain.new.lexemes taken;
      taken = subst (λ (l : List ℕ). Taken (beginning limits l) c.drain.new.lexemes c.drain.new.lexer)
          (sym (joined-next (λ piece. piece.items) pieces i c.piece-item.result c.loop-piece-test.true c.piece-item.is)) taken;
    }

pub returns-in-Some-clause-lexemes : goal.returns-in-Some-clause-lexemes
returns-in-Some-clause-lexemes c =
    let limits = c.args.limits in
    let pieces = c.args.pieces.now in
    let i = c.loop-piece.piece-index in
    let joined = flat_map (λ piece. piece.items) (take i pieces) in
    let piece = c.piece-item.result.items in
    let left = flat_map (λ piece. piece.items) (drop (i + 1) pieces) in
    let fed : Taken (beginning limits (joined ++ piece)) c.loop-piece.lexemes c.feed.new.self =
    run-fed limits joined c.loop-piece.lexemes c.loop-piece.lexer piece c.feed.new.self c.loop-piece.invariant.taken
    (c.in_ok-feed.ensures.ok ∙ ap (λ (l : List ℕ). record c.loop-piece.lexer { unread = c.loop-piece.lexer.unread ++ l }) c.deref.ensures.value) in
    let drained : IsDrained c.feed.new.self c.loop-piece.lexemes c.drain.new.lexer c.drain.new.lexemes (Some c.in-Some.ending) =
    subst (λ (o : Option Ending). IsDrained c.feed.new.self c.loop-piece.lexemes c.drain.new.lexer c.drain.new.lexemes o) c.in-Some.is c.in_ok-ending.ensures in
    let all : (joined ++ piece) ++ left ≡ flat_map (λ piece. piece.items) pieces =
    ap (λ l. l ++ left) (sym (joined-next (λ piece. piece.items) pieces i c.piece-item.result c.loop-piece-test.true c.piece-item.is)) ∙ joined-all (λ piece. piece.items) pieces (i + 1) in
    subst (λ (l : List ℕ). Lexes (document limits l) c.drain.new.lexemes c.in-Some.ending) all
    (run-over limits (joined ++ piece) left c.feed.new.self c.drain.new.lexer c.loop-piece.lexemes c.drain.new.lexemes c.in-Some.ending fed drained)

pub returns-in-Some-clause-only : goal.returns-in-Some-clause-only
returns-in-Some-clause-only c = λ others over h. lexes-one (document c.args.limits (flat_map (λ piece. piece.items) c.args.pieces.now)) c.drain.new.lexemes others c.in-Some.ending over
    (returns-in-Some-clause-lexemes c) h

pub unreachable-requires : goal.unreachable-requires
unreachable-requires c =
    let limits = c.args.limits in
    let pieces = c.args.pieces.now in
    let joined = flat_map (λ piece. piece.items) (take c.loop-piece.piece-index pieces) in
    let drained : IsDrained c.finish.new.self c.loop-piece.lexemes c.drain-2.new.lexer c.drain-2.new.lexemes None =
    subst (λ (o : Option Ending). IsDrained c.finish.new.self c.loop-piece.lexemes c.drain-2.new.lexer c.drain-2.new.lexemes o) c.in-None.is c.in_ok-ending-2.ensures in
    let ended = run-finished limits joined c.loop-piece.lexemes c.loop-piece.lexer c.finish.new.self c.loop-piece.invariant.taken c.finish.ensures in
    run-no-need limits joined c.finish.new.self c.drain-2.new.lexer c.loop-piece.lexemes c.drain-2.new.lexemes ended drained

pub returns-clause-lexemes : goal.returns-clause-lexemes
returns-clause-lexemes c =
    let limits = c.args.limits in
    let pieces = c.args.pieces.now in
    let joined = flat_map (λ piece. piece.items) (take c.loop-piece.piece-index pieces) in
    let all : joined ≡ flat_map (λ piece. piece.items) pieces = ap (flat_map (λ piece. piece.items)) (take_all c.loop-piece.piece-index pieces c.loop-piece-test.false) in
    let drained : IsDrained c.finish.new.self c.loop-piece.lexemes c.drain-2.new.lexer c.drain-2.new.lexemes (Some c.in-Some-2.ending) =
    subst (λ (o : Option Ending). IsDrained c.finish.new.self c.loop-piece.lexemes c.drain-2.new.lexer c.drain-2.new.lexemes o) c.in-Some-2.is c.in_ok-ending-2.ensures in
    let ended = run-finished limits joined c.loop-piece.lexemes c.loop-piece.lexer c.finish.new.self c.loop-piece.invariant.taken c.finish.ensures in
    subst (λ (l : List ℕ). Lexes (document limits l) c.drain-2.new.lexemes c.in-Some-2.ending) all
    (run-ends (document limits joined) c.finish.new.self c.drain-2.new.lexer c.loop-piece.lexemes c.drain-2.new.lexemes c.in-Some-2.ending ended drained)

pub returns-clause-only : goal.returns-clause-only
returns-clause-only c = λ others over h. lexes-one (document c.args.limits (flat_map (λ piece. piece.items) c.args.pieces.now)) c.drain-2.new.lexemes others c.in-Some-2.ending over
    (returns-clause-lexemes c) h
