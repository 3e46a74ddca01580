use Rattle.xml_names.proofs.Nearest.{binds-nearest, takes-away, binds-nothing}
use Rattle.xml_names.proofs.Reserved.{binds-xml, binds-no-xmlns}
use Rattle.xml_names.proofs.laws.scope.Goals as goal

pub returns-clause-nearest : goal.returns-clause-nearest
returns-clause-nearest c = binds-nearest

pub returns-clause-taken_away : goal.returns-clause-taken_away
returns-clause-taken_away c = takes-away

pub returns-clause-nothing : goal.returns-clause-nothing
returns-clause-nothing c = binds-nothing

pub returns-clause-xml : goal.returns-clause-xml
returns-clause-xml c = binds-xml

pub returns-clause-xmlns : goal.returns-clause-xmlns
returns-clause-xmlns c = binds-no-xmlns
