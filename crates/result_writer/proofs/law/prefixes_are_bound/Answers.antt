use Rattle.result_writer.proofs.Bound.{binds-attributes, binds-element, binds-scope}
use Rattle.result_writer.proofs.law.prefixes_are_bound.Goals as goal

pub returns-clause-element : goal.returns-clause-element
returns-clause-element c = binds-element

pub returns-clause-attributes : goal.returns-clause-attributes
returns-clause-attributes c = binds-attributes

pub returns-clause-scope : goal.returns-clause-scope
returns-clause-scope c = binds-scope
