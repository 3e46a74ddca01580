-- What a log of acts says of the lanes and of the main document.
use Rattle.std.specs.Prelude.{◌≡◌, ℕ, ◌+◌, Bool, false, ◌==◌, IsTrue, List, [], ◌∷◌, length, take, drop, slice_get, Option, Some, option_map, if◌then◌else◌}
use Rattle.std.specs.Option.{option_map_or}
use Rattle.stx_host.specs.declared.act.Act.{Act}
use Rattle.stx_host.specs.declared.act.Act.TheVariants.{Read, Write}
use Rattle.stx_host.specs.declared.act.Lane.{Lane}
use Rattle.stx_host.specs.declared.act.Lane.TheVariants.{Out, Note}
use Rattle.stx_host.specs.Outside.{Outside, and_more}

-- how many bytes an act gave to a lane
abbrev pub act_wrote : Lane → Act → ℕ
act_wrote Out (Write Out len) = len
act_wrote Note (Write Note len) = len
act_wrote lane act = 0

-- how many bytes acts gave to a lane
abbrev pub written : Lane → List Act → ℕ
written lane [] = 0
written lane (act ∷ acts) = act_wrote lane act + written lane acts

-- how many bytes of the main document an act read
abbrev pub act_read : Act → ℕ
act_read (Read id got) = if id == 0 then got else 0
act_read act = 0

-- how many bytes of the main document acts read
abbrev pub main_read : List Act → ℕ
main_read [] = 0
main_read (act ∷ acts) = act_read act + main_read acts

-- whether an act is a read of the main document
abbrev pub is_main_read : Act → Bool
is_main_read (Read id got) = id == 0
is_main_read act = false

-- what each lane took, and how many bytes of the main document were read
pub record Taken : Type 0 where
  pub out : List ℕ
  pub note : List ℕ
  pub main_read : ℕ

-- that in the first k acts of a log, where out and note are all that the lanes took
abbrev pub before : List Act → List ℕ → List ℕ → ℕ → Taken
before log out note k = record {
  out = take (written Out (take k log)) out;
  note = take (written Note (take k log)) note;
  main_read = main_read (take k log);
}

-- at each read of the main document P holds of what was before it
abbrev pub AtMainReads : List Act → List ℕ → List ℕ → (Taken → Type 0) → Type 0
AtMainReads log out note P = (k : ℕ) → IsTrue (option_map_or is_main_read (slice_get log k) false) → P (before log out note k)

-- what was added to a told list; nothing where it isn't told
abbrev pub since : {X : Type 0} → Option (List X) → Option (List X) → List X
since (Some before) (Some now) = drop (length before) now
since told now = []

-- From one moment to another there were these acts, and the lanes took these bytes.
pub record Between (old new : Outside) (acts : List Act) (out note : List ℕ) : Type 0 where
  pub documents : new.documents ≡ old.documents
  pub main : new.to_come 0 ≡ option_map (λ bytes. drop (main_read acts) bytes) (old.to_come 0)
  pub log : new.log ≡ and_more old.log acts
  pub out_lane : new.out ≡ and_more old.out out
  pub note_lane : new.note ≡ and_more old.note note
  pub room : new.room ≡ old.room
  pub out_written : length out ≡ written Out acts
  pub note_written : length note ≡ written Note acts
