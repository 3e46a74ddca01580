use Rattle.std.proofs.Common.{take}
use Rattle.std.specs.List.{flat_map}
use Rattle.xml_events.proofs.Running.{IsRead}
use Rattle.xml_events.proofs.run.read_pieces.Given as goal

abbrev pub invariant-loop-piece : goal.invariant-loop-piece
invariant-loop-piece l = IsRead l.fn.reader.limits l.fn.reader.strip l.fn.reader.before.cdata (flat_map (λ piece. piece.items) (take l.piece-index l.pieces)) l.events l.reader
