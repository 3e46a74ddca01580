use Rattle.event_buffers.proofs.Parts.{kept_is_what_was_put, put_is_kept}
use Rattle.event_buffers.proofs.law.put_is_kept.Goals as goal

pub returns-clause-put : goal.returns-clause-put
returns-clause-put c = put_is_kept

pub returns-clause-nodes : goal.returns-clause-nodes
returns-clause-nodes c = kept_is_what_was_put
