use Rattle.frame_stack.proofs.Counting.{instance_counts, list_begins, none_counts, others_stay}
use Rattle.frame_stack.proofs.Shaped.{told_by_shapes}
use Rattle.frame_stack.proofs.law.levels.Goals as goal

pub returns-clause-instance : goal.returns-clause-instance
returns-clause-instance c = instance_counts

pub returns-clause-others : goal.returns-clause-others
returns-clause-others c = others_stay

pub returns-clause-list : goal.returns-clause-list
returns-clause-list c = list_begins

pub returns-clause-none : goal.returns-clause-none
returns-clause-none c = none_counts

pub returns-clause-shapes : goal.returns-clause-shapes
returns-clause-shapes c = told_by_shapes
