-- What the lexer's fields mean.
use Rattle.std.specs.Prelude.{◌+◌, ◌≤◌, length, drop}
use Rattle.xml_tokens.specs.Reader.{Reader}
use Rattle.xml_tokens.specs.inside.Look.{GoesOn}
use Rattle.xml_tokens.specs.declared.lexer.Lexer.TheInside.{Inside}

abbrev pub reader_of : Inside → Reader
reader_of l = record {
  limits = l.limits;
  unread = drop l.start l.buffer.items;
  offset = l.offset;
  ended = l.ended;
  over = l.over;
}

-- the unread bytes lie in the buffer, behind no more bytes that were read than they are, within the limit on the input, and the search for the next lexeme's end can
-- go on from where it stopped, whatever bytes follow
pub record IsSound (l : Inside) : Type 0 where
  pub start : l.start + l.start ≤ length l.buffer.items
  pub offset : l.offset ≤ l.limits.input
  pub scan : GoesOn l.scan (reader_of l)
