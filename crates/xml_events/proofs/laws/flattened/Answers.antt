use Rattle.xml_events.proofs.Flattening.{flattened}
use Rattle.xml_events.proofs.Treeing.{is-cut-tree}
use Rattle.xml_events.proofs.Unflattening.{only-tree}
use Rattle.xml_events.proofs.laws.flattened.Goals as goal

pub returns-clause-tree : goal.returns-clause-tree
returns-clause-tree c = is-cut-tree

pub returns-clause-lexemes : goal.returns-clause-lexemes
returns-clause-lexemes c = flattened

pub returns-clause-only : goal.returns-clause-only
returns-clause-only c = only-tree
