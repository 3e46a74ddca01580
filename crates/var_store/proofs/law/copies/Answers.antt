use Rattle.var_store.proofs.Laying.{laid_over_and_taken_off, older_stays, other_groups_stay}
use Rattle.var_store.proofs.law.copies.Goals as goal

pub returns-clause-laid : goal.returns-clause-laid
returns-clause-laid c = laid_over_and_taken_off

pub returns-clause-older : goal.returns-clause-older
returns-clause-older c = older_stays

pub returns-clause-others : goal.returns-clause-others
returns-clause-others c = other_groups_stay
