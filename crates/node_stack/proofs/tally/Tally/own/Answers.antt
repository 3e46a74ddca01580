use Rattle.std.proofs.Common.{◌∙◌, ◌-◌, ap, sym, subst, min, None}
use Rattle.std.specs.BTreeMap.{get_by_text}
use Rattle.node_stack.specs.Counts.{capped}
use Rattle.node_stack.specs.Open.{node_of, KeepsOwn}
use Rattle.node_stack.specs.Times.{times}
use Rattle.node_stack.proofs.Keeping.{element_kept, instruction_kept}
use Rattle.node_stack.proofs.tally.Tally.own.Goals as goal

pub returns-in-Element : goal.returns-in-Element
returns-in-Element c =
    let o = c.beside_one.ensures in
    subst (λ n. KeepsOwn c.args.self.now None (node_of n) c.beside_one.result) (sym c.in-Element.is)
    (element_kept c.args.self.now c.in-Element.name.now c.in-Element.attrs.now c.in-Element.decls.now c.in-Element.first.now c.beside_one.result
    (o.alike ∙ ap (λ n. capped (n - 1)) c.times.ensures) (o.of_namespace ∙ ap (λ n. capped (n - 1)) c.within.ensures) o.of_kind o.nodes)

pub returns-in-Pi : goal.returns-in-Pi
returns-in-Pi c =
    let o = c.beside_one-in-Pi.ensures in
    let looked = c.times-in-Pi.ensures ∙ ap (λ o. min 18446744073709551615 (times o)) (c.get.ensures.value ∙ ap (get_by_text c.args.self.now.targets) c.as_str.ensures.bytes) in
    subst (λ n. KeepsOwn c.args.self.now None (node_of n) c.beside_one-in-Pi.result) (sym c.in-Pi.is)
    (instruction_kept c.args.self.now c.in-Pi.target.now c.in-Pi.text.now c.beside_one-in-Pi.result (o.alike ∙ ap (λ n. capped (n - 1)) looked) o.of_kind o.nodes)
