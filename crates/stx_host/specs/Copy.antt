-- What code over any host wrote.
use Rattle.std.specs.Prelude.{◌≡◌, ℕ, ◌<◌, Bool, true, false, List, [], length, take, sum}
use Rattle.stx_host.specs.declared.act.Lane.{Lane}
use Rattle.stx_host.specs.declared.copy.Copying.{Copying}
use Rattle.stx_host.specs.declared.copy.Copying.TheVariants.{Whole, Unread, Unwritten}
use Rattle.stx_host.specs.Outside.{LacksRoom, LaneFault, Outside, Rose, for_writes, wrote}
use Rattle.stx_host.specs.Before.{AtMainReads, since}

-- all bytes were taken, in some number of writes; or some first ones were, and then a write failed, for want of room where that is told
abbrev pub WritesAll : Outside → Lane → List ℕ → Bool → Outside → Type 0
WritesAll old lane bytes true new = (lens : List ℕ) × (sum lens ≡ length bytes) × (new ≡ wrote old lane lens bytes)
WritesAll old lane bytes false new = (lens : List ℕ) × (sum lens < length bytes) × LaneFault lane (wrote old lane lens (take (sum lens) bytes)) new × LacksRoom old (for_writes lane lens (length bytes))

-- at each read of the main document all that was read had been written to `Out`, and nothing to `Note`
abbrev pub CopiesAtReads : Outside → Outside → List ℕ → Type 0
CopiesAtReads old new main = AtMainReads (since old.log new.log) (since old.out new.out) (since old.note new.note)
    (λ taken. (taken.out ≡ take taken.main_read main) × (taken.note ≡ []))

-- what was written in the end: all of it, or the first bytes
abbrev pub CopiesInAll : List ℕ → Copying → List ℕ → Type 0
CopiesInAll main Whole out = out ≡ main
CopiesInAll main answer out = (n : ℕ) × (out ≡ take n main)

-- a copy of a main document: what was written at each read, and in the end
pub record Copies (old new : Outside) (main : List ℕ) (answer : Copying) : Type 0 where
  pub at_reads : CopiesAtReads old new main
  pub in_all : CopiesInAll main answer (since old.out new.out)
  pub no_note : since old.note new.note ≡ []

-- the count that rose, by the answer
abbrev pub CopyFault : Outside → Copying → Outside → Type 0
CopyFault old Unread new = Rose old.main_faults new.main_faults
CopyFault old Unwritten new = Rose old.out_faults new.out_faults
CopyFault old answer new = Unit {0}
