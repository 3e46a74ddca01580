use Rattle.std.proofs.Common.{refl}
use Rattle.xml_events.specs.declared.place.Word.TheVariants as word
use Rattle.xml_events.proofs.Elements.{closed-takes}
use Rattle.xml_events.proofs.reader.Core.close.Goals as goal

pub returns-in-Ok-clause-receives : goal.returns-in-Ok-clause-receives
returns-in-Ok-clause-receives c = λ name innermost. record {
  word = word.Close;
  place = closed-takes c.args.self.now.place c.close.new.self name innermost c.close.ensures.closed;
  front = c.in-Ok.ensures;
  limits = c.close.ensures.limits;
  lexer = refl;
  over = refl;
}
