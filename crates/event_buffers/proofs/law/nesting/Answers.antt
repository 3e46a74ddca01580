use Rattle.event_buffers.proofs.Nests.{closing_is_shallow, declared_is_shallow, laying_is_shallow, opening_is_shallow, putting_is_shallow, told_is_shallow}
use Rattle.event_buffers.proofs.law.nesting.Goals as goal

pub returns-clause-declared : goal.returns-clause-declared
returns-clause-declared c = declared_is_shallow

pub returns-clause-laying : goal.returns-clause-laying
returns-clause-laying c = laying_is_shallow

pub returns-clause-opening : goal.returns-clause-opening
returns-clause-opening c = opening_is_shallow

pub returns-clause-putting : goal.returns-clause-putting
returns-clause-putting c = putting_is_shallow

pub returns-clause-closing : goal.returns-clause-closing
returns-clause-closing c = closing_is_shallow

pub returns-clause-told : goal.returns-clause-told
returns-clause-told c = told_is_shallow
