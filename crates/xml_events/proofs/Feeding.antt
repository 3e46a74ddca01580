-- Bytes that are fed are the first that are still to come.
use Rattle.std.proofs.Common.{◌≡◌, ℕ, Bool, true, false, List, [], ◌++◌, append_assoc, append-nil, map, sym, ap}
use Rattle.std.specs.Prelude.{if◌then◌else◌}
use Rattle.xml_tokens.specs.Reader.{Reader}
use Rattle.xml_events.specs.Document.{reading_from, lists_of, with_items, finished}
use Rattle.xml_events.specs.Source.{Source, fed_with, ended_there, later, unless_over, future}
use Rattle.xml_events.specs.Telling.{told}
use Rattle.xml_events.specs.Tree.{Future}

-- what is to come by what the lexer has before it
abbrev pub from_lexer : Source → Reader → Future
from_lexer s r = told s.known (map (finished s.strip) (with_items s.front (lists_of (unless_over s.over s.before (reading_from s.limits s.before r)))))

later-later : (r : Reader) (piece more : List ℕ) (ended : Bool) → r.ended ≡ false → later (record r { unread = r.unread ++ piece }) more ended ≡ later r (piece ++ more) ended
later-later r piece more ended going = by_ended r.ended going where
  by_ended : (t : Bool) → t ≡ false →
      (if t then record r { unread = r.unread ++ piece } else record r { unread = (r.unread ++ piece) ++ more; ended = ended })
      ≡ (if t then r else record r { unread = r.unread ++ (piece ++ more); ended = ended })
  by_ended false e = ap (λ u. record r { unread = u; ended = ended }) (append_assoc r.unread piece more)
  by_ended true e = absurd cc

later-ended : (r : Reader) (more : List ℕ) (ended : Bool) → r.ended ≡ false → later (record r { ended = true }) more ended ≡ later r [] true
later-ended r more ended going = by_ended r.ended going where
  by_ended : (t : Bool) → t ≡ false → record r { ended = true } ≡ (if t then r else record r { unread = r.unread ++ []; ended = true })
  by_ended false e = ap (λ u. record r { unread = u; ended = true }) (sym (append-nil r.unread))
  by_ended true e = absurd cc

pub goes-on-fed : (s : Source) (piece more : List ℕ) (ended : Bool) → s.lexer.ended ≡ false → future (fed_with s piece) more ended ≡ future s (piece ++ more) ended
goes-on-fed s piece more ended going = ap (from_lexer s) (later-later s.lexer piece more ended going)

pub ends-there : (s : Source) (more : List ℕ) (ended : Bool) → s.lexer.ended ≡ false → future (ended_there s) more ended ≡ future s [] true
ends-there s more ended going = ap (from_lexer s) (later-ended s.lexer more ended going)
