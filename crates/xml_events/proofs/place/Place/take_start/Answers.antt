use Rattle.std.proofs.Common.{◌∷◌, ◌++◌, [], ◌∙◌, ap, refl}
use Rattle.xml_events.proofs.Elements.{opened}
use Rattle.xml_events.proofs.Names.{room-left}
use Rattle.xml_events.proofs.place.Place.take_start.Goals as goal

pub returns-clause-ok : goal.returns-clause-ok
returns-clause-ok c =
    let t = c.in-Ok.ensures in
    let old = c.args.self.now in
    let pushed = c.in_ok-push.ensures.ok ∙ ap (λ n. old.names ++ n ∷ []) c.as_str.ensures.chars in
    let room = room-left old.names c.push.new.self c.args.name old.limits.depth pushed c.if-is_overfull.ensures in
    opened old _ c.args.name c.args.attrs c.in-Ok.tag t.taken room t.value pushed t.ok refl refl refl refl refl c.requires c.args.empty c.if-empty.false
