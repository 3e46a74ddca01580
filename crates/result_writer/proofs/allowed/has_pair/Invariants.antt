use Rattle.std.proofs.Common.{◌≡◌, ◌&&◌, ◌||◌, ◌==◌, false, drop}
use Rattle.std.specs.Prelude.{slice_get}
use Rattle.std.specs.Option.{option_map_or}
use Rattle.result_writer.specs.Allowed.{has_pair}
use Rattle.result_writer.proofs.allowed.has_pair.Given as goal

-- what is left decides, beside whether the byte before it was the first one
abbrev pub invariant-loop-byte : goal.invariant-loop-byte
invariant-loop-byte l =
    let rest = drop l.byte-index l.bytes in
    ((l.behind_first && option_map_or (λ next. next == l.second) (slice_get rest 0) false) || has_pair l.first l.second rest)
    ≡ has_pair l.first l.second l.bytes
