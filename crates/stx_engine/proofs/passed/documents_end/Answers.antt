use Rattle.stx_engine.proofs.Stopped.{beginning-is-open, whole-is-over}
use Rattle.stx_engine.proofs.passed.documents_end.Goals as goal

pub returns-clause-whole : goal.returns-clause-whole
returns-clause-whole c = whole-is-over c.ending.ensures.whole

pub returns-clause-beginning : goal.returns-clause-beginning
returns-clause-beginning c = beginning-is-open c.ending.ensures.beginning
