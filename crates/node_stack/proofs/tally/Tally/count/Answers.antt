use Rattle.std.proofs.Common.{◌∙◌, ap, sym, min}
use Rattle.std.specs.BTreeMap.{get_by_text}
use Rattle.node_stack.specs.Tally.{count_of}
use Rattle.node_stack.specs.Times.{times}
use Rattle.node_stack.proofs.tally.Tally.count.Goals as goal

pub returns-in-Pi : goal.returns-in-Pi
returns-in-Pi c =
    c.times-in-Pi.ensures ∙ ap (λ o. min 18446744073709551615 (times o)) (c.get.ensures.value ∙ ap (get_by_text c.args.self.now.targets) c.as_str.ensures.bytes)
    ∙ ap (λ t. min 18446744073709551615 (count_of c.args.self.now t)) (sym c.in-Pi.is)
