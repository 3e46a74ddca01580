use Rattle.stx_engine.proofs.Parts.{parts-nest}
use Rattle.stx_engine.proofs.law.parts_nest.Goals as goal

pub returns : goal.returns
returns c = parts-nest c.prefixes_are_names.ensures
