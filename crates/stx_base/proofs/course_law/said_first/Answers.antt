use Rattle.std.proofs.Common.{subst}
use Rattle.std.proofs.lemmas.List.{append_cancel_left}
use Rattle.stx_base.specs.Course.{Ends}
use Rattle.stx_base.proofs.Course.{said_first, said_ends, ends_said}
use Rattle.stx_base.proofs.course_law.said_first.Goals as goal

pub returns-clause-begins : goal.returns-clause-begins
returns-clause-begins g c = λ code os ps x e a. said_first os x a

pub returns-clause-rest : goal.returns-clause-rest
returns-clause-rest g c = λ code os ps x e. (λ a. let s = said_ends os x a in subst (λ l. Ends code x l e) (append_cancel_left os s.0 ps s.2) s.1, λ a. ends_said os a)
