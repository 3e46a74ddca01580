use Rattle.std.proofs.Common.{flat_map, sym, ap, ◌∙◌, map-id}
use Rattle.std.specs.Str.{chars}
use Rattle.std.proofs.lemmas.Iterator.{YieldsList-from_chars}
use Rattle.std.proofs.lemmas.Iterator.Consumers.{YieldsList-end}
use Rattle.stxpath_values.specs.Words.{translated}
use Rattle.stxpath_values.proofs.texts.translation.Goals as goal

pub returns : goal.returns
returns c =
    let end = YieldsList-end (YieldsList-from_chars c.args.text.now c.utf8.text cc) c.loop-c.yielded _ c.loop-c.yielded_by _ _ c.in-None.is c.next.ensures.steps in
    c.loop-c.invariant
    ∙ ap (λ l. flat_map (translated l c.in_ok-to.to.items) c.loop-c.yielded) c.in_ok-from.ensures
    ∙ ap (λ l. flat_map (translated (chars c.args.from.now) l) c.loop-c.yielded) c.in_ok-to.ensures
    ∙ ap (flat_map (translated (chars c.args.from.now) (chars c.args.to.now))) (sym (map-id c.loop-c.yielded) ∙ end.0)
