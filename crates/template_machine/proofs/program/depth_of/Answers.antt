use Rattle.std.proofs.Common.{◌≡◌, ◌+◌, ◌<◌, ◌∷◌, max, drop, get_or, length, ap, sym, subst, ◌∙◌, arith}
use Rattle.template_machine.specs.Programs.{deepest_from, open_behind}
use Rattle.template_machine.proofs.Deepest.{deeper, one_more}
use Rattle.template_machine.proofs.Joining.{dropped_is}
use Rattle.template_machine.proofs.program.depth_of.Goals as goal

pub loop-part-preserved : goal.loop-part-preserved
loop-part-preserved c =
    let parts = c.args.parts.now in
    let i = c.loop-part.part-index in
    let p = c.part-item.result in
    let opened_ones = c.loop-part.open in
    let deep = c.loop-part.deepest in
    let ps = drop (i + 1) parts in
    let within : i < length parts = omega (arith, ap length c.as_slice-part-items.ensures) in
    let rest : drop i parts ≡ p ∷ ps = dropped_is parts i p within (subst (λ l. p ≡ get_or l i p) c.as_slice-part-items.ensures c.part-item.is) in
    let opened : c.open_behind-open.result ≡ open_behind opened_ones p = c.open_behind-open.ensures in
    let deeper_is : c.max-deepest.result ≡ max deep c.open_behind-open.result = c.max-deepest.ensures in
    record {
      whole =
          ap (λ n. max n (deepest_from c.open_behind-open.result ps)) deeper_is ∙ ap (λ n. max (max deep n) (deepest_from n ps)) opened
          ∙ deeper opened_ones deep p ps c.loop-part.invariant.open_within ∙ ap (λ l. max deep (deepest_from opened_ones l)) (sym rest) ∙ c.loop-part.invariant.whole;
      open_within = omega (arith, deeper_is);
      open_few = omega (arith, opened, one_more opened_ones p, c.loop-part.invariant.open_few);
    }
