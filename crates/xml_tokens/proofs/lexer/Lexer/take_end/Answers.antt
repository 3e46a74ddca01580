use Rattle.xml_tokens.proofs.EndLemmas.{end-kept, end-shrinks}
use Rattle.xml_tokens.proofs.lexer.Lexer.take_end.Goals as goal

pub returns-clause-ended : goal.returns-clause-ended
returns-clause-ended c = (end-kept c.args.self.now c.take_end_of.new.self c.as_bytes.result.now c.take_end_of.result c.take_end_of.ensures.taken c.take_end_of.ensures.none).0

pub returns-clause-shrinks : goal.returns-clause-shrinks
returns-clause-shrinks c = end-shrinks c.args.self.now c.take_end_of.new.self c.as_bytes.result.now c.take_end_of.result c.take_end_of.ensures.taken

pub returns-clause-fed : goal.returns-clause-fed
returns-clause-fed c = (end-kept c.args.self.now c.take_end_of.new.self c.as_bytes.result.now c.take_end_of.result c.take_end_of.ensures.taken c.take_end_of.ensures.none).1

pub returns-clause-limits : goal.returns-clause-limits
returns-clause-limits c = (end-kept c.args.self.now c.take_end_of.new.self c.as_bytes.result.now c.take_end_of.result c.take_end_of.ensures.taken c.take_end_of.ensures.none).2
