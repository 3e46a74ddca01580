use Rattle.std.proofs.Common.{IsTrue}
use Rattle.stx_base.proofs.Termination.{has_end}
use Rattle.stx_base.proofs.course_law.has_end.Goals as goal

pub returns : goal.returns
returns g c =
    λ code weight may fits safe w x h. has_end weight (λ q. IsTrue (may q)) (λ q r. IsTrue (fits q r)) code safe w x h
