use Rattle.template_machine.proofs.Moved.{order_matters_among_equals}
use Rattle.template_machine.proofs.law.order.Goals as goal

pub returns : goal.returns
returns c = order_matters_among_equals c.best.ensures.chosen c.best.ensures.ordered
