use Rattle.event_buffers.proofs.Sections.{sections_are_told, sections_stay}
use Rattle.event_buffers.proofs.law.sections.Goals as goal

pub returns-clause-put : goal.returns-clause-put
returns-clause-put c = sections_stay

pub returns-clause-told : goal.returns-clause-told
returns-clause-told c = sections_are_told
