use Rattle.xml_events.proofs.Fronts.{takes-next}
use Rattle.xml_events.proofs.front.Front.open.Goals as goal

pub returns : goal.returns
returns c = takes-next c.args.self.now c.settle.new.self c.requires c.in_ok-settle.ensures c.args.tag
