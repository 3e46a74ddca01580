use Rattle.std.proofs.Common.{ap, sym, subst, ◌∙◌}
use Rattle.std.proofs.lemmas.Bool.{false≢true}
use Rattle.template_machine.specs.Putting.{text_parts}
use Rattle.template_machine.specs.Saying.{Puts}
use Rattle.template_machine.proofs.Saying.{puts_nothing, text_is}
use Rattle.template_machine.proofs.putting.Putting.text.Goals as goal

pub returns-then-is_empty-clause-puts : goal.returns-then-is_empty-clause-puts
returns-then-is_empty-clause-puts g c =
    puts_nothing g.S.Sink.output g.S.Sink.told g.met.S.Sink.nothing c.args.at (text_parts c.args.text.now) _ c.args.self.now c.args.out.now
    (ap text_parts (c.is_empty.ensures.0 c.if-is_empty.true))

pub returns-clause-puts : goal.returns-clause-puts
returns-clause-puts g c =
    subst (λ l. Puts g.S.Sink.output g.S.Sink.told c.args.at l c.chars.result c.args.self.now c.chars.new.self c.args.out.now c.chars.new.out)
    (sym (text_is c.args.text.now (λ none. false≢true (sym c.if-is_empty.false ∙ c.is_empty.ensures.1 none)))) c.chars.ensures.puts
