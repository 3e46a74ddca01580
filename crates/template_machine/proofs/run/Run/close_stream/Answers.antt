use Rattle.std.proofs.Common.{subst}
use Rattle.template_machine.specs.Closing.{IsOpenStream}
use Rattle.template_machine.specs.Standing.{standing_of}
use Rattle.template_machine.proofs.Buffered.{buffer_there, closes_buffer, copy_read}
use Rattle.template_machine.proofs.run.Run.close_stream.Goals as goal

pub close_read-requires-clause-id : goal.close_read-requires-clause-id
close_read-requires-clause-id c =
    let r = c.args.self.now in
    buffer_there r.putting.buffers.buffers c.in-Buffer.id (subst (λ o. IsOpenStream o (standing_of r).shelves) c.in-Buffer.is c.requires).0

pub close_read-requires-clause-read : goal.close_read-requires-clause-read
close_read-requires-clause-read c =
    let r = c.args.self.now in
    copy_read r.putting.buffers.buffers c.in-Buffer.id (subst (λ o. IsOpenStream o (standing_of r).shelves) c.in-Buffer.is c.requires).1

pub returns-in-Buffer-clause-closed : goal.returns-in-Buffer-clause-closed
returns-in-Buffer-clause-closed c = closes_buffer c.args.self.now c.in-Buffer.id c.in-Buffer.at c.close_read.new.self c.in-Buffer.is c.close_read.ensures
