use Rattle.std.proofs.Common.{sym, subst, IsTrue, [], ◌∷◌}
use Rattle.stx_base.specs.Course.{Halt, Say, Ends}
use Rattle.stx_base.proofs.Course.{said_ends, ends_said, stopped, unfolded, ends_ind}
use Rattle.stx_base.proofs.course_law.end_by_cases.Goals as goal

pub returns-clause-ret : goal.returns-clause-ret
returns-clause-ret g c = λ code r os e a. let p = a.comes in cc

pub returns-clause-halt : goal.returns-clause-halt
returns-clause-halt g c =
    λ code e f os. (λ a. let p = a.comes in (cc, cc), λ p. subst (λ l. Ends code (Halt e) l f) (sym p.0) (subst (λ f. Ends code (Halt e) [] f) (sym p.1) (stopped code [] e)))

pub returns-clause-say : goal.returns-clause-say
returns-clause-say g c =
    λ code o x os e. (λ a. let s = said_ends (o ∷ []) x a in (s.0, sym s.2, s.1), λ s. subst (λ l. Ends code (Say o x) l e) (sym s.1) (ends_said (o ∷ []) s.2))

pub returns-clause-ask : goal.returns-clause-ask
returns-clause-ask g c = λ code q k os e. ((unfolded code q k).to os e, (unfolded code q k).from os e)

pub returns-clause-no_other : goal.returns-clause-no_other
returns-clause-no_other g c =
    λ code so stops speaks calls x os e a. ends_ind code (λ x os e. IsTrue (so x os e)) stops speaks calls a
