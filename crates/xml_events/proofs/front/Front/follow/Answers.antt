use Rattle.xml_events.proofs.Fronts.{takes-after}
use Rattle.xml_events.proofs.front.Front.follow.Goals as goal

pub returns : goal.returns
returns c = takes-after c.args.self.now c.settle.new.self c.args.first c.requires.unsettled c.in_ok-settle.ensures c.args.after c.requires.follows
