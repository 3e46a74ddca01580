use Rattle.std.proofs.Common.{subst}
use Rattle.stx_base.specs.Course.{and_then, Ends}
use Rattle.stx_base.proofs.Course.{first_ends, second_ends, then_ends}
use Rattle.stx_base.proofs.course_law.one_then_another.Goals as goal

pub returns-clause-first : goal.returns-clause-first
returns-clause-first g c = λ code x k os e a. first_ends k a

pub returns-clause-second : goal.returns-clause-second
returns-clause-second g c =
    λ code x k os e a. subst (λ l. Ends code (and_then x k) l e) a.joined (second_ends k a.gives a.ends)

pub returns-clause-no_other : goal.returns-clause-no_other
returns-clause-no_other g c = λ code x k os e a. then_ends x k a
