use Rattle.std.proofs.Common.{◌∙◌, refl, ap, arith, length}
use Rattle.xml_tokens.specs.Reader.{Reader}
use Rattle.xml_events.proofs.Fronts.{unsettled-known}
use Rattle.xml_events.proofs.Lexing.{after-end}
use Rattle.xml_events.proofs.Stepping.{received, step-bad, step-waits, step-ends}
use Rattle.xml_events.proofs.reader.Core.read_any.Goals as goal

pub returns-in-Lexeme-clause-turns : goal.returns-in-Lexeme-clause-turns
returns-in-Lexeme-clause-turns c =
    let d = c.in-Lexeme.ensures in
    received c.args.self.now c.requires.reads c.requires.going (unsettled-known c.args.self.now.front c.requires.none)
    (record { lexer = c.next.new.self; place = c.args.self.now.place; front = c.args.self.now.front; over = c.args.self.now.over }) c.take.new.self c.in-Lexeme.lexeme
    refl refl refl d.answer d.after (record { ended = d.ended; fed_is = d.fed; limits = d.limits }) d.shrinks c.take.result c.take.ensures.receives

pub returns-in-Need-clause-turns : goal.returns-in-Need-clause-turns
returns-in-Need-clause-turns c =
    let d = c.in-Need.ensures in
    step-waits c.args.self.now c.requires.reads c.requires.going (unsettled-known c.args.self.now.front c.requires.none) c.next.new.self d.answer d.after d.wants.0 d.wants.1 (record { ended = d.ended; fed_is = d.fed; limits = d.limits })

pub returns-in-End-clause-turns : goal.returns-in-End-clause-turns
returns-in-End-clause-turns c =
    let d = c.in-End.ensures in
    let e = d.wants c.requires.reads.fresh in
    step-ends c.args.self.now c.requires.reads c.requires.going (unsettled-known c.args.self.now.front c.requires.none) c.end.new.self c.next.new.self d.answer e.0 (record { ended = d.ended; fed_is = d.fed; limits = d.limits })
    (let n = ap (λ (r : Reader). length r.unread) (d.after ∙ after-end c.args.self.now.lexer) in omega (arith, n)) c.end.result
    (c.end.ensures.ends (omega (arith, e.1, d.fed, c.requires.reads.limit)))

pub returns-in-Bad-clause-turns : goal.returns-in-Bad-clause-turns
returns-in-Bad-clause-turns c =
    let d = c.in-Bad.ensures in
    step-bad c.args.self.now c.requires.reads c.requires.going (unsettled-known c.args.self.now.front c.requires.none) c.fail.new.self c.next.new.self c.in-Bad.fault d.answer (record { ended = d.ended; fed_is = d.fed; limits = d.limits }) c.fail.ensures.fails c.fail.result c.fail.ensures.turn
