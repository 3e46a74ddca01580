use Rattle.std.proofs.Common.{sym, ◌∙◌}
use Rattle.frame_stack.specs.Counted.{frames_of}
use Rattle.frame_stack.proofs.Standing.{other_entry}
use Rattle.frame_stack.proofs.counted.uncounted.Goals as goal

pub returns-clause-counted : goal.returns-clause-counted
returns-clause-counted c =
    other_entry (frames_of c.args.entries.now) c.args.frame c.below.result c.requires.none
    (sym c.opens_list.ensures ∙ c.if-opens_list.false) c.below.ensures
