use Rattle.std.proofs.Common.{◌≡◌, ◌∙◌, Some, Option, ap, sym}
use Rattle.std.specs.Prelude.{slice_get}
use Rattle.std.specs.Option.{option_map}
use Rattle.frame_stack.specs.Change.{locals_of}
use Rattle.frame_stack.specs.declared.frame.Frame.{Frame}
use Rattle.template_machine.specs.Seen.{place_of}
use Rattle.template_machine.proofs.Assigned.{named_local_at}
use Rattle.template_machine.proofs.Valued.{placed_of}
use Rattle.template_machine.proofs.run.Run.local_set.Goals as goal

pub returns-clause-named : goal.returns-clause-named
returns-clause-named c =
    named_local_at c.args.self.now c.args.body c.locals_at.result.now c.args.name.now c.local_named.result c.locals_at.ensures c.local_named.ensures.value

pub returns-clause-place : goal.returns-clause-place
returns-clause-place c = placed_of c.args.name.now c.locals_at.result.now c.local_named.result (slice_get c.args.self.now.frames.frames c.args.body) c.locals_at.ensures c.local_named.ensures.value
