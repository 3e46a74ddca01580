use Rattle.std.proofs.Common.{length}
use Rattle.xml_events.specs.inside.Cores.{Reaches}
use Rattle.xml_events.proofs.reader.Core.pull.Given as goal

-- what is to come is as it was when the loop began
abbrev pub invariant-loop-event : goal.invariant-loop-event
invariant-loop-event l = Reaches l.initial.self l.self

-- each lexeme takes bytes
abbrev pub decreases-loop-event : goal.decreases-loop-event
decreases-loop-event l = length l.self.lexer.unread
