use Rattle.std.proofs.Common.{◌≡◌, not, take}
use Rattle.std.specs.List.{list_all}
use Rattle.xml_tokens.specs.inside.Spans.{is_easy_byte}
use Rattle.xml_tokens.specs.Texts.{is_ampersand}
use Rattle.xml_tokens.proofs.judge.ease_of_text.Given as goal

abbrev pub invariant-loop-b : goal.invariant-loop-b
invariant-loop-b l = record {
  easy : l.easy ≡ list_all is_easy_byte (take l.b-index l.bytes);
  literal : l.literal ≡ list_all (λ b. not (is_ampersand b)) (take l.b-index l.bytes);
}
