use Rattle.event_buffers.proofs.Laying.{laid_over_and_taken_off, older_takes_parts, other_buffers_stay}
use Rattle.event_buffers.proofs.law.copies.Goals as goal

pub returns-clause-laid : goal.returns-clause-laid
returns-clause-laid c = laid_over_and_taken_off

pub returns-clause-others : goal.returns-clause-others
returns-clause-others c = other_buffers_stay

pub returns-clause-older : goal.returns-clause-older
returns-clause-older c = older_takes_parts
