use Rattle.std.proofs.Common.{◌∙◌, ap}
use Rattle.xml_events.specs.Before.{is_innermost}
use Rattle.xml_events.specs.inside.Cores.{end_lexeme}
use Rattle.xml_events.specs.inside.Taking.{names_of}
use Rattle.xml_events.proofs.Fronts.{unsettled-known}
use Rattle.xml_events.proofs.Stepping.{received}
use Rattle.xml_events.proofs.reader.Core.read.Goals as goal

pub returns-in-Some-clause-turns : goal.returns-in-Some-clause-turns
returns-in-Some-clause-turns c =
    let t = c.in-Some.ensures in
    received c.args.self.now c.requires.reads c.requires.going (unsettled-known c.args.self.now.front c.requires.none)
    c.take_end.new.self c.close.new.self (end_lexeme c.in-Some.offset t.name) t.place t.front t.over t.answer t.lexer t.same t.shorter c.close.result
    (c.close.ensures.receives t.name (ap (λ p. is_innermost t.name (names_of p)) t.place ∙ t.innermost))
