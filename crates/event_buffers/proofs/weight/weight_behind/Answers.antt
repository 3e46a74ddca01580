use Rattle.std.proofs.Common.{arith}
use Rattle.event_buffers.proofs.Growing.{replaced_fits}
use Rattle.event_buffers.proofs.weight.weight_behind.Goals as goal

pub overflow_sub-result : goal.overflow_sub-result
overflow_sub-result c =
    let f = replaced_fits c.args.target.now.left c.args.part.now in omega (arith, f, c.in_ok-replaced.ensures, c.part_weight.ensures.count, c.requires)

pub returns-clause-count : goal.returns-clause-count
returns-clause-count c =
    let f = replaced_fits c.args.target.now.left c.args.part.now in omega (arith, f, c.in_ok-replaced.ensures, c.part_weight.ensures.count, c.requires)
