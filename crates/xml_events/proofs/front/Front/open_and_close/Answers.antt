use Rattle.xml_events.proofs.Fronts.{takes-empty-next}
use Rattle.xml_events.proofs.front.Front.open_and_close.Goals as goal

pub returns : goal.returns
returns c = takes-empty-next c.args.self.now c.settle.new.self c.requires c.in_ok-settle.ensures c.args.tag
