use Rattle.run_parts.proofs.Kept.{ends_whole, puts_accepted, settles_parts}
use Rattle.run_parts.proofs.law.accepted.Goals as goal

pub returns : goal.returns
returns c = record { settled = settles_parts; accepted = puts_accepted c.order.ensures; whole = ends_whole c.order.ensures }
