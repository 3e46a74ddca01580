use Rattle.template_machine.proofs.Shelved.{begins_writing, ok_given}
use Rattle.template_machine.proofs.putting.Putting.begin_writing.Goals as goal

pub returns : goal.returns
returns c =
    let a = c.args.self.now in
    begins_writing a (record a { buffers = c.open_write.new.self; targets = c.push.new.self }) c.args.clear c.args.buffer c.in_ok-push.ensures.ok
    (ok_given c.open_write.result _ _ _ c.in_ok-buffered.ensures _ c.open_write.ensures.ok)
    (ok_given c.open_write.result _ _ _ c.in_ok-buffered.ensures _ c.open_write.ensures.opened) c.requires.copy
