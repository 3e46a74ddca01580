use Rattle.std.proofs.Common.{◌≡◌, ◌++◌, length, IsUtf8}
use Rattle.xml_tokens.specs.Texts.{literal}
use Rattle.xml_tokens.proofs.text.push_literal.Given as goal

-- what is said so far and what the rest says
abbrev pub invariant-loop-at : goal.invariant-loop-at
invariant-loop-at l = record {
  said : l.out.items ++ literal l.context l.rest ≡ l.initial.out.items ++ literal l.context l.bytes;
  rest : IsUtf8 l.rest;
  utf8 : IsUtf8 l.initial.out.items → IsUtf8 l.out.items;
}

abbrev pub decreases-loop-at : goal.decreases-loop-at
decreases-loop-at l = length l.rest
