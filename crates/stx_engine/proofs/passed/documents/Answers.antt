use Rattle.stx_engine.proofs.Sound.{documents-are-taken, documents-nest}
use Rattle.stx_engine.proofs.passed.documents.Goals as goal

pub returns-clause-taken : goal.returns-clause-taken
returns-clause-taken c = documents-are-taken c.said.ensures

pub returns-clause-nested : goal.returns-clause-nested
returns-clause-nested c = documents-nest c.said.ensures c.prefixes_are_names.ensures
