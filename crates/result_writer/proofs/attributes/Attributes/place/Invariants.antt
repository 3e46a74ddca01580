use Rattle.std.proofs.Common.{◌≡◌, false, take}
use Rattle.std.specs.List.{list_any}
use Rattle.result_writer.specs.Target.{same_name}
use Rattle.result_writer.proofs.attributes.Attributes.place.Given as goal

-- none so far has the name
abbrev pub invariant-loop-at : goal.invariant-loop-at
invariant-loop-at l = list_any (λ a. same_name a.name l.name) (take l.at l.attr-items) ≡ false
