use Rattle.run_engine.proofs.Documents.{documents-fit}
use Rattle.run_engine.proofs.law.documents.Goals as goal

pub returns : goal.returns
returns c = documents-fit c.sections.ensures
