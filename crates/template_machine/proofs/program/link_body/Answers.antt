use Rattle.std.proofs.Common.{◌<◌, length, ap, arith}
use Rattle.template_machine.specs.Programs.{end_of}
use Rattle.template_machine.proofs.Linking.{linked_at, others_at}
use Rattle.template_machine.proofs.program.link_body.Goals as goal

pub places-preserved : goal.places-preserved
places-preserved c =
    let code = c.args.code.now in
    let place = c.places.place in
    let ops = c.as_slice.result.now in
    let to : place < end_of code c.args.body = omega (arith, c.places-test.true, c.end_of-end.ensures) in
    let less : place < length ops = omega (arith, to, c.requires.laid_out.within c.args.body, ap length c.as_slice.ensures) in
    record {
      all = c.link_op.ensures.all;
      linked =
          linked_at c.args.sheet.now code c.places.links c.link_op.new.links c.group_of_body-group.result c.start_of-start.result place ops _ c.as_slice.ensures less
          c.link_op.ensures.linked c.link_op.ensures.others c.places.invariant.linked;
      others =
          others_at code c.args.links.now c.places.links c.link_op.new.links c.args.body c.start_of-start.result place ops _ c.as_slice.ensures less
          c.start_of-start.ensures c.places.auto.place to c.link_op.ensures.others c.places.invariant.others;
    }
