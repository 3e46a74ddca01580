use Rattle.std.proofs.Common.{◌≡◌, ◌+◌, drop, None}
use Rattle.std.specs.Option.{option_map}
use Rattle.stxpath_syntax.specs.Template.{closing}
use Rattle.stxpath_syntax.proofs.avt.closing.Given as goal

abbrev pub invariant-loop-place : goal.invariant-loop-place
invariant-loop-place l = option_map (λ n. n + l.place) (closing l.quote (drop l.place l.text)) ≡ closing None l.text
