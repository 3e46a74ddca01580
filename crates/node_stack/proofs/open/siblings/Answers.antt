use Rattle.std.proofs.Common.{◌≡◌, ◌+◌, ◌<◌, ap, sym, ◌∙◌, length, take, arith}
use Rattle.std.proofs.lemmas.List.{take_more}
use Rattle.node_stack.specs.Open.{tally_in}
use Rattle.node_stack.proofs.Opening.{tally_snoc}
use Rattle.node_stack.proofs.open.siblings.Goals as goal

pub returns-in-Some : goal.returns-in-Some
returns-in-Some c =
    let parent = c.in-Some.parent in
    let next : c.args.outer ≡ parent + 1 = omega arith in
    let within : parent < length c.args.elements.now = omega arith in
    sym (ap (λ n. tally_in c.args.document.now (take n c.args.elements.now)) next
    ∙ ap (tally_in c.args.document.now) (take_more c.args.elements.now parent c.index-elements-parent.result within)
    ∙ tally_snoc c.args.document.now (take parent c.args.elements.now) _)
