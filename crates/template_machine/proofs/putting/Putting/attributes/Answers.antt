use Rattle.std.proofs.Common.{map, sym, subst}
use Rattle.template_machine.specs.Putting.{attribute_part}
use Rattle.template_machine.specs.Saying.{Puts}
use Rattle.template_machine.proofs.InTurn.{puts_all_in, puts_in_turn}
use Rattle.template_machine.proofs.putting.Putting.attributes.Goals as goal

pub returns-in-Some-clause-puts : goal.returns-in-Some-clause-puts
returns-in-Some-clause-puts g c =
    puts_all_in g.S.Sink.output g.S.Sink.told g.met.S.Sink.nothing c.args.at (map attribute_part c.args.attrs) c.keep_attributes.result c.args.self.now c.keep_attributes.new.self c.args.out.now
    c.keep_attributes.ensures.keeps

pub returns-in-None-clause-puts : goal.returns-in-None-clause-puts
returns-in-None-clause-puts g c =
    let parts = map attribute_part c.args.attrs in
    subst (λ r. Puts g.S.Sink.output g.S.Sink.told c.args.at parts r c.args.self.now c.args.self.now c.args.out.now c.attributes.new.self) (sym c.written.ensures)
    (puts_in_turn g.S.Sink.output g.S.Sink.told g.met.S.Sink.leaves c.args.at parts c.attributes.result c.args.self.now c.args.out.now c.attributes.new.self c.attributes.ensures
    (sym c.in-None.ensures))
