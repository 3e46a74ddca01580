use Rattle.frame_stack.proofs.Setting.{put_there}
use Rattle.frame_stack.proofs.locals.Locals.set.Goals as goal

pub returns : goal.returns
returns c =
    put_there c.self.inside.entries.items c.args.self.now c.args.index c.index_mut-entry.result.now c.args.value
    c.self.view_is c.requires c.index_mut-entry.ensures.value
