use Rattle.std.proofs.Common.{◌∙◌, [], true, ap}
use Rattle.xml_tokens.specs.Reader.{Reader}
use Rattle.xml_events.specs.inside.Cores.{source_of}
use Rattle.xml_events.specs.Source.{Source, future}
use Rattle.xml_events.proofs.Feeding.{ends-there}
use Rattle.xml_events.proofs.reader.EventReader.finish.Goals as goal

pub returns-clause-future : goal.returns-clause-future
returns-clause-future c = λ going more ended.
    let core = c.self.inside.core in
    ap (λ (r : Reader). future (source_of (record core { lexer = r })) more ended) c.finish.ensures
    ∙ ends-there (source_of core) more ended (ap (λ (s : Source). s.lexer.ended) c.self.view_is ∙ going)
    ∙ ap (λ (s : Source). future s [] true) c.self.view_is
