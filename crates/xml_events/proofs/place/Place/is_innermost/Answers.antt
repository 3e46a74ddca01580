use Rattle.xml_events.proofs.Names.{innermost-same}
use Rattle.xml_events.proofs.place.Place.is_innermost.Goals as goal

pub returns-in-Some : goal.returns-in-Some
returns-in-Some c =
    let e = c.in-Some.ensures.last in
    innermost-same c.args.self.now.names e.0 c.in-Some.innermost.now c.as_str.result.now c.args.name.now c.eq.result e.1 c.in-Some.ensures.utf8 c.as_str.utf8 c.as_str.ensures.chars c.eq.ensures
