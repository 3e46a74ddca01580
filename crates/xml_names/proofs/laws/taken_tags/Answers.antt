use Rattle.xml_names.proofs.Taken.{binds-element, binds-attributes, names-once, declares-once}
use Rattle.xml_names.proofs.laws.taken_tags.Goals as goal

pub returns-clause-element : goal.returns-clause-element
returns-clause-element c = binds-element

pub returns-clause-attributes : goal.returns-clause-attributes
returns-clause-attributes c = binds-attributes

pub returns-clause-names : goal.returns-clause-names
returns-clause-names c = names-once

pub returns-clause-declarations : goal.returns-clause-declarations
returns-clause-declarations c = declares-once
