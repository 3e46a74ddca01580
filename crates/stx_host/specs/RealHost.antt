-- What the real host tells: which ids are open, and no bytes.
use Rattle.std.specs.Prelude.{ℕ, ◌<◌, ◌≤◌, List, [], length, take, Option, Some, None}
use Rattle.std.specs.Io.KnownBytes.{Keeps, Appends, Consumes, IsAtEnd}
use Rattle.stx_host.specs.declared.act.Got.{Got}
use Rattle.stx_host.specs.declared.act.Got.TheVariants.{Bytes, End, Failed}
use Rattle.stx_host.specs.declared.act.Put.{Put}
use Rattle.stx_host.specs.declared.act.Put.TheVariants.{Took, Failed as Unwritten}
use Rattle.stx_host.specs.declared.faults.Faults.{Faults}
use Rattle.stx_host.specs.declared.table.Slot.{Slot}
use Rattle.stx_host.specs.Outside.{Outside}
use Rattle.stx_host.specs.Table.{ids_of}

-- which ids are open, how often it failed, and nothing else
abbrev pub outside_of : {T : Type 0} → List (Slot T) → Faults → Outside
outside_of slots faults = record {
  documents = None;
  to_come = λ id. None;
  open_ids = Some (ids_of slots);
  log = None;
  out = None;
  note = None;
  room = None;
  doc_faults = faults.doc;
  main_faults = faults.main;
  out_faults = faults.out;
  note_faults = faults.note;
}

-- what a new one tells: that no id is open, and that nothing failed
abbrev pub nothing_told : Outside
nothing_told = record {
  documents = None;
  to_come = λ id. None;
  open_ids = Some [];
  log = None;
  out = None;
  note = None;
  room = None;
  doc_faults = 0;
  main_faults = 0;
  out_faults = 0;
  note_faults = 0;
}

-- what one read gives: bytes that fit, the end, or a failure
abbrev pub IsGot : Got → List ℕ → Type 0
IsGot (Bytes n) room = (0 < n) × (n ≤ length room)
IsGot End room = Unit {0}
IsGot Failed room = Unit {0}

-- the same of a source, where the bytes that it has left are known: the next ones, its end, or none
abbrev pub ReadsSome : Option (List ℕ) → Option (List ℕ) → Got → List ℕ → Type 0
ReadsSome old new (Bytes n) room = (0 < n) × (n ≤ length room) × Consumes old new (take n room)
ReadsSome old new End room = IsAtEnd old
ReadsSome old new Failed room = Keeps old new

-- what one write to a sink does, where the bytes that it holds are known: it took the first ones, or none
abbrev pub WritesSome : Option (List ℕ) → Option (List ℕ) → List ℕ → Put → Type 0
WritesSome old new bytes (Took n) = (0 < n) × (n ≤ length bytes) × Appends old new (take n bytes)
WritesSome old new bytes Unwritten = Keeps old new
