use Rattle.stx_base.proofs.Course.{one_end, one_result, result_or_end}
use Rattle.stx_base.proofs.course_law.one_outcome.Goals as goal

pub returns-clause-end : goal.returns-clause-end
returns-clause-end g c = λ code x os ps e f a b. one_end a b

pub returns-clause-result : goal.returns-clause-result
returns-clause-result g c = λ code x os ps r s a b. one_result a b

pub returns-clause-not_both : goal.returns-clause-not_both
returns-clause-not_both g c = λ code x os ps r e a b. result_or_end a b
