use Rattle.std.specs.Str.{chars}
use Rattle.xml_events.proofs.Names.{innermost-named}
use Rattle.xml_events.proofs.reader.Core.take_end.Goals as goal

pub take_end-requires : goal.take_end-requires
take_end-requires c =
    let e = c.in_ok-name.ensures in
    innermost-named c.args.self.now.place.names e.0 (chars c.in_ok-name.name.now) c.requires.named e.1
