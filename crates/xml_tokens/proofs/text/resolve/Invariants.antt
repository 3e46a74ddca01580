use Rattle.std.proofs.Common.{◌≡◌, ◌+◌, ◌++◌, IsUtf8, IfSome, length}
use Rattle.std.specs.Option.{option_copied, option_map_or}
use Rattle.xml_tokens.specs.Texts.{all_of, both, said}
use Rattle.xml_tokens.specs.inside.Spans.{parts_of, IsKept}
use Rattle.xml_tokens.proofs.PartLemmas.{so_far}
use Rattle.xml_tokens.proofs.text.resolve.Given as goal

-- what the parts so far and those that follow say is what all say
abbrev pub invariant-loop-next : goal.invariant-loop-next
invariant-loop-next l = record {
  said : both (λ front rest. front ++ rest) (so_far l.is_known l.out.items) (all_of l.context (parts_of (option_copied l.next))) ≡ said l.context l.bytes;
  out : IsUtf8 l.out.items;
  next : IfSome l.next (λ later. IsUtf8 later.now);
  kept : IfSome l.next (λ later. IsKept l.broken l.context later.now);
}

abbrev pub decreases-loop-next : goal.decreases-loop-next
decreases-loop-next l = option_map_or (λ later. length later.now + 1) l.next 0
