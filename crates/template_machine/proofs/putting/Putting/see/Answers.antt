use Rattle.std.proofs.Common.{refl}
use Rattle.template_machine.proofs.Shelved.{same_buffers}
use Rattle.template_machine.proofs.putting.Putting.see.Goals as goal

pub returns-clause-stands : goal.returns-clause-stands
returns-clause-stands c = same_buffers _ _ refl refl
