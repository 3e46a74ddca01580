use Rattle.std.proofs.Common.{◌∙◌, ap, map, sym}
use Rattle.sheet_loader.proofs.TakingLemmas.{entry_of, others-are}
use Rattle.sheet_loader.proofs.values.Values.take.Goals as goal

pub returns-clause-others : goal.returns-clause-others
returns-clause-others c =
    ap (map entry_of) c.remove-value.ensures.items ∙ others-are entry_of c.args.self.now.entries.items c.in_ok-place.place ∙ sym c.in_ok-place.ensures.2
