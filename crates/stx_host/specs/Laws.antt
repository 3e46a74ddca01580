-- What follows of the calls of a host, for loops that make many of them.
use Rattle.std.specs.Prelude.{◌≡◌, ◌≢◌, ℕ, ◌+◌, ◌<◌, ◌≤◌, ◌^◌, ◌⊎◌, List, [], ◌∷◌, ◌++◌, length, sum, None}
use Rattle.std.specs.Option.{option_and_then}
use Rattle.stx_host.specs.declared.act.Act.{Act}
use Rattle.stx_host.specs.declared.act.Act.TheVariants.{Open, Read, Close}
use Rattle.stx_host.specs.declared.act.Got.{Got}
use Rattle.stx_host.specs.declared.act.Got.TheVariants.{Bytes, End, Failed as Unread}
use Rattle.stx_host.specs.declared.act.Lane.{Lane}
use Rattle.stx_host.specs.declared.act.Lane.TheVariants.{Out, Note}
use Rattle.stx_host.specs.declared.act.Put.{Put}
use Rattle.stx_host.specs.declared.act.Opened.{Opened}
use Rattle.stx_host.specs.declared.act.Opened.TheVariants.{Id, Absent, Failed, Memory}
use Rattle.stx_host.specs.Outside.{Outside, and_more, IsOpen, Rose, LaneFault, MayOpen, Opens, Reads, Closes, Writes, place, writes, wrote}
use Rattle.stx_host.specs.Before.{Between, Taken}

-- between a moment and itself there is nothing
abbrev pub NothingBetween : Type 0
NothingBetween = (o : Outside) → Between o o [] [] []

-- two stretches of time are one
abbrev pub BetweenJoins : Type 0
BetweenJoins = (a b c : Outside) (acts acts' : List Act) (out out' note note' : List ℕ)
    → Between a b acts out note → Between b c acts' out' note' → Between a c (acts ++ acts') (out ++ out') (note ++ note')

-- the acts of one call of `open`, by its answer
abbrev pub open_acts : Outside → List ℕ → Opened → List Act
open_acts old name (Id id) = Open (option_and_then (λ docs. place docs name) old.documents) id ∷ []
open_acts old name Absent = Open None 0 ∷ []
open_acts old name Failed = []
open_acts old name Memory = []

-- a call of `open` does its acts, and gives the lanes nothing
abbrev pub BetweenOpen : Type 0
BetweenOpen = (old new : Outside) (name : List ℕ) (answer : Opened)
    → MayOpen old name answer → Opens old name answer new → Between old new (open_acts old name answer) [] []

-- the acts of one call of `read`, by its answer
abbrev pub read_acts : ℕ → Got → List Act
read_acts id (Bytes n) = Read id n ∷ []
read_acts id End = Read id 0 ∷ []
read_acts id Unread = []

-- a call of `read` does its acts, and takes what it read of the main document
abbrev pub BetweenRead : Type 0
BetweenRead = (old new : Outside) (id : ℕ) (answer : Got) → Reads old id answer new → Between old new (read_acts id answer) [] []

-- a call of `close` does one act or none
abbrev pub BetweenClose : Type 0
BetweenClose = (old new : Outside) (id : ℕ) → 0 < id → Closes old id new → Between old new (Close id ∷ []) [] [] ⊎ Between old new [] [] []

-- the bytes for one lane, of those for another
abbrev pub for_lane : Lane → Lane → List ℕ → List ℕ
for_lane Out Out bytes = bytes
for_lane Note Note bytes = bytes
for_lane lane other bytes = []

-- writes give the lane their bytes
abbrev pub BetweenWrites : Type 0
BetweenWrites = (old new : Outside) (lane : Lane) (lens bytes : List ℕ) → sum lens ≡ length bytes → new ≡ wrote old lane lens bytes
    → Between old new (writes lane lens) (for_lane Out lane bytes) (for_lane Note lane bytes)

-- a write that fails does nothing
abbrev pub BetweenFault : Type 0
BetweenFault = (old new : Outside) (lane : Lane) → LaneFault lane old new → Between old new [] [] []

-- what two stretches of time took
abbrev pub and_then : Taken → Taken → Taken
and_then a b = record { out = a.out ++ b.out; note = a.note ++ b.note; main_read = a.main_read + b.main_read }

-- an id that was given is open
abbrev pub GivenIsOpen : Type 0
GivenIsOpen = (old new : Outside) (name : List ℕ) (id : ℕ) → MayOpen old name (Id id) → Opens old name (Id id) new → IsOpen new.open_ids id

-- what is open stays so when another id is given, or another given back
abbrev pub StaysOpen : Type 0
StaysOpen = (old new : Outside) (id other : ℕ) → IsOpen old.open_ids id
    → ((name : List ℕ) → Opens old name (Id other) new → IsOpen new.open_ids id) × (id ≢ other → Closes old other new → IsOpen new.open_ids id)

-- an id that was given, and then given back, leaves the ids that were open before
abbrev pub GivenBack : Type 0
GivenBack = (old mid new : Outside) (name : List ℕ) (id : ℕ) → MayOpen old name (Id id) → mid.open_ids ≡ and_more old.open_ids (id ∷ []) → Closes mid id new → new.open_ids ≡ old.open_ids

-- a count, from one moment to a later one
abbrev pub Later : ℕ → ℕ → Type 0
Later before now = (before ≤ now) × ((now ≡ before) ⊎ (now < 2 ^ 64))

-- the four counts, from one moment to a later one
pub record CountsLater (old new : Outside) : Type 0 where
  pub doc : Later old.doc_faults new.doc_faults
  pub main : Later old.main_faults new.main_faults
  pub out : Later old.out_faults new.out_faults
  pub note : Later old.note_faults new.note_faults

-- counts go on over two stretches of time
abbrev pub CountsJoin : Type 0
CountsJoin = (a b c : Outside) → CountsLater a b → CountsLater b c → CountsLater a c

-- no call lowers a count: `open`
abbrev pub CountsAtOpen : Type 0
CountsAtOpen = (old new : Outside) (name : List ℕ) (answer : Opened) → Opens old name answer new → CountsLater old new

-- `read`
abbrev pub CountsAtRead : Type 0
CountsAtRead = (old new : Outside) (id : ℕ) (answer : Got) → Reads old id answer new → CountsLater old new

-- `close`
abbrev pub CountsAtClose : Type 0
CountsAtClose = (old new : Outside) (id : ℕ) → Closes old id new → CountsLater old new

-- `write`
abbrev pub CountsAtWrite : Type 0
CountsAtWrite = (old new : Outside) (lane : Lane) (bytes : List ℕ) (answer : Put) → Writes old lane bytes answer new → CountsLater old new

-- what rose has risen later on
abbrev pub RoseAndLater : Type 0
RoseAndLater = (a b c : ℕ) → Rose a b → Later b c → Rose a c

-- what rose has risen since earlier
abbrev pub LaterAndRose : Type 0
LaterAndRose = (a b c : ℕ) → Later a b → Rose b c → Rose a c
