-- What writing to a lane does to the outside.
use Rattle.std.specs.Prelude.{◌≡◌, ℕ, ◌<◌, ◌-◌, ◌^◌, min, List, length, take, sum, Ok, Err}
use Rattle.std.specs.declared.result.Result.{Result}
use Rattle.stx_host.specs.Outside.{LacksRoom, LaneFault, Outside, for_writes, wrote}
use Rattle.stx_host.specs.declared.act.Lane.{Lane}
use Rattle.sheet_runs.specs.declared.writing.Refused.{Refused}

-- all bytes were taken, in some number of writes; or some first ones were, and then a write failed, for want of room where that is told
abbrev pub WritesOn : (old : Outside) → Lane → List ℕ → Result (Unit {0}) Refused → (new : Outside) → Type 0
WritesOn old lane bytes (Ok done) new = (lens : List ℕ) × (sum lens ≡ length bytes) × (new ≡ wrote old lane lens bytes)
WritesOn old lane bytes (Err refused) new =
    (lens : List ℕ) × (sum lens ≡ refused.taken) × (refused.taken < length bytes) × LaneFault lane (wrote old lane lens (take refused.taken bytes)) new
    × LacksRoom old (for_writes lane lens (length bytes))

-- a number of bytes, as it is counted: up to the last value of u64
abbrev pub counted : ℕ → ℕ
counted n = min n (2 ^ 64 - 1)
