use Rattle.std.proofs.Common.{◌++◌, ◌∙◌, ap}
use Rattle.std.proofs.lemmas.Result.{on_ok_weaker}
use Rattle.xml_tokens.specs.Reader.{Reader}
use Rattle.xml_events.specs.inside.Cores.{source_of}
use Rattle.xml_events.specs.Source.{Source, future}
use Rattle.xml_events.proofs.Feeding.{goes-on-fed}
use Rattle.xml_events.proofs.reader.EventReader.feed.Goals as goal

pub returns-clause-future : goal.returns-clause-future
returns-clause-future c =
    let core = c.self.inside.core in
    on_ok_weaker c.feed.result
    (λ e. λ more ended.
    ap (λ (r : Reader). future (source_of (record core { lexer = r })) more ended) e
    ∙ goes-on-fed (source_of core) c.args.piece.now more ended (ap (λ (s : Source). s.lexer.ended) c.self.view_is ∙ c.requires)
    ∙ ap (λ (s : Source). future s (c.args.piece.now ++ more) ended) c.self.view_is)
    c.feed.ensures.ok
