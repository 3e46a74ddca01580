use Rattle.read_back.proofs.Naming.{resolves_names}
use Rattle.read_back.proofs.law.names.Goals as goal

pub returns : goal.returns
returns c = resolves_names c.qnames.ensures.read c.prefixes_are_bound.ensures.element c.prefixes_are_bound.ensures.attributes c.names_are_written_once.ensures.attributes c.names_are_written_once.ensures.declarations c.declarations.ensures
