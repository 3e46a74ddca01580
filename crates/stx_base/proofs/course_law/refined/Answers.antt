use Rattle.stx_base.proofs.Refinement.{ends_too, ends_back}
use Rattle.stx_base.proofs.course_law.refined.Goals as goal

pub returns-clause-to : goal.returns-clause-to
returns-clause-to g c = λ code other x y h os e a. ends_too h a

pub returns-clause-back : goal.returns-clause-back
returns-clause-back g c = λ code other x y h os ps e f a b. ends_back h a b
