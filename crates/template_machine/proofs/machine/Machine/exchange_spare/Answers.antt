use Rattle.template_machine.proofs.Hearing.{still_spare}
use Rattle.std.proofs.Common.{refl}
use Rattle.template_machine.proofs.Machines.{put_asks}
use Rattle.template_machine.proofs.Shelved.{same_buffers}
use Rattle.template_machine.proofs.machine.Machine.exchange_spare.Goals as goal

pub returns-clause-asking : goal.returns-clause-asking
returns-clause-asking c = λ asks. put_asks c.args.self.now _ (same_buffers _ _ refl refl) asks

pub returns-clause-rest : goal.returns-clause-rest
returns-clause-rest c = λ given left f. still_spare given c.args.self.now.program c.args.self.now.run _ left f

pub returns-clause-order : goal.returns-clause-order
returns-clause-order c = (
  λ ordinary. ordinary,
  λ order.
      record {
        sheet = order.sheet;
        alone =
            record { origin = order.alone.origin; outer = order.alone.outer; aside = order.alone.aside; held = order.alone.held; counted = order.alone.counted; whole = order.alone.whole; untouched = order.alone.untouched; fuel = order.alone.fuel };
      },
)
