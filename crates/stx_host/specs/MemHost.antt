-- What a host in memory tells, and where its calls fail.
use Rattle.std.specs.Prelude.{◌≡◌, ◌≢◌, ◌+◌, ◌-◌, ◌^◌, ◌<◌, ◌≤◌, ◌⊎◌, max, IsSome, Contains, vec_len, vec_capacity, [], ◌∷◌, ◌++◌, length, ℕ, ◌==◌, List, take, drop, find, min, IfSome, slice_get, Option, Some, None, option_map, if◌then◌else◌}
use Rattle.std.specs.Option.{option_and_then, option_map_or}
use Rattle.stx_host.specs.declared.act.Act.{Act}
use Rattle.stx_host.specs.declared.act.Act.TheVariants.{Close, Write}
use Rattle.stx_host.specs.declared.act.Call.{Call}
use Rattle.stx_host.specs.declared.act.Call.TheVariants.{Open, ReadDoc, ReadMain, Write as WriteCall}
use Rattle.stx_host.specs.declared.act.Got.{Got}
use Rattle.stx_host.specs.declared.act.Got.TheVariants.{Bytes}
use Rattle.stx_host.specs.declared.act.Lane.{Lane}
use Rattle.stx_host.specs.declared.act.Lane.TheVariants.{Out, Note}
use Rattle.stx_host.specs.declared.act.Put.{Put}
use Rattle.stx_host.specs.declared.act.Put.TheVariants.{Took, Failed}
use Rattle.stx_host.specs.declared.act.Doc.{Doc}
use Rattle.stx_host.specs.declared.act.Fail.{Fail}
use Rattle.stx_host.specs.declared.table.Slot.{Slot}
use Rattle.stx_host.specs.declared.mem_host.Reading.{Reading}
use Rattle.stx_host.specs.declared.mem_host.MemHost.{MemHost}
use Rattle.std.specs.declared.alloc.Global.{Global}
use Rattle.std.specs.declared.vec.Vec.{Vec}
use Rattle.stx_host.specs.Outside.{Outside, Raises, Room, one_more, place}
use Rattle.stx_host.specs.Table.{ids_of, IsEachOpen}

-- the bytes that an open document has left
abbrev pub rest_of : List Doc → Reading → Option (List ℕ)
rest_of docs reading = option_map (λ doc. drop reading.at doc.bytes) (slice_get docs reading.doc)

-- the same of an id
abbrev pub rest_of_id : List Doc → List (Slot Reading) → ℕ → Option (List ℕ)
rest_of_id docs slots id = option_and_then (λ slot. rest_of docs slot.held) (find (λ slot. slot.id == id) slots)

-- n bytes of the rest stand at the front of the room: as many as there are and as fit
pub record Gives (rest : Option (List ℕ)) (n : ℕ) (room : List ℕ) : Type 0 where
  pub count : n ≡ min (length room) (option_map_or length rest 0)
  pub bytes : IfSome rest (λ bytes. take n room ≡ take n bytes)

-- all of it: id 0 is the main document
abbrev pub all_to_come : List ℕ → ℕ → List Doc → List (Slot Reading) → ℕ → Option (List ℕ)
all_to_come main at docs slots id = if id == 0 then Some (drop at main) else rest_of_id docs slots id

-- what it has room for: as much as its vectors hold, and no more ids than there are numbers above 0
abbrev pub room_of : MemHost → Room
room_of host = record {
  acts = vec_capacity host.log;
  ids = min (vec_capacity host.table.slots) (2 ^ 32 - 1);
  out = vec_capacity host.out;
  note = vec_capacity host.note;
}

-- that is told where no call is listed as one that is to fail
abbrev pub unless_listed : List Fail → Room → Option Room
unless_listed [] room = Some room
unless_listed (fail ∷ fails) room = None

-- what a host in memory tells: everything, and its room unless a call is to fail
abbrev pub outside_of : MemHost → Outside
outside_of host = record {
  documents = Some host.docs;
  to_come = all_to_come host.main host.main_at host.docs host.table.slots.items;
  open_ids = Some (ids_of host.table.slots.items);
  log = Some host.log.items;
  out = Some host.out.items;
  note = Some host.note.items;
  room = unless_listed host.fails (room_of host);
  doc_faults = host.faults.doc;
  main_faults = host.faults.main;
  out_faults = host.faults.out;
  note_faults = host.faults.note;
}

-- what a new one tells: all of its documents to come, no acts, room for so many acts and bytes, and no faults
abbrev pub start_of : List ℕ → List Doc → List Fail → (acts bytes : ℕ) → Outside
start_of main docs fails acts bytes = record {
  documents = Some docs;
  to_come = λ id. if id == 0 then Some main else None;
  open_ids = Some [];
  log = Some [];
  out = Some [];
  note = Some [];
  room = unless_listed fails (record { acts = acts; ids = min acts (2 ^ 32 - 1); out = bytes; note = bytes });
  doc_faults = 0;
  main_faults = 0;
  out_faults = 0;
  note_faults = 0;
}

-- how many calls of a kind there were, up to the last value of u64
abbrev pub calls_so_far : MemHost → Call → ℕ
calls_so_far host Open = host.calls.«open»
calls_so_far host ReadDoc = host.calls.read_doc
calls_so_far host ReadMain = host.calls.read_main
calls_so_far host WriteCall = host.calls.write

-- the number of the next call, counted from 1
abbrev pub next_call : ℕ → ℕ
next_call so_far = one_more so_far

-- the next call of this kind is one that is to fail
abbrev pub IsListed : MemHost → Call → Type 0
IsListed host call = Contains host.fails (record { call = call; nth = next_call (calls_so_far host call) })

-- the vector has no room for one more
abbrev pub IsFull : {T : Type 0} → Vec T Global → Type 0
IsFull items = vec_capacity items ≤ vec_len items

-- the room that a lane has left
abbrev pub lane_room : MemHost → Lane → ℕ
lane_room host Out = vec_capacity host.out - vec_len host.out
lane_room host Note = vec_capacity host.note - vec_len host.note

-- room for exactly this many acts, as many ids, and this many bytes in each lane
pub record HasRoom (host : MemHost) (acts bytes : ℕ) : Type 0 where
  pub for_acts : vec_capacity host.log ≡ vec_len host.log + acts
  pub for_ids : vec_capacity host.table.slots ≡ vec_len host.table.slots + acts
  pub for_out : lane_room host Out ≡ bytes
  pub for_note : lane_room host Note ≡ bytes

-- no id can be given: there is no room for one more, or every number above 0 is open
abbrev pub LacksId : MemHost → Type 0
LacksId host = IsFull host.table.slots ⊎ IsEachOpen (ids_of host.table.slots.items)

-- the kind of a read of an id
abbrev pub read_call : ℕ → Call
read_call id = if id == 0 then ReadMain else ReadDoc

-- where a call fails: it is listed, or the log has no room
abbrev pub CallFails : MemHost → Call → Type 0
CallFails host call = IsListed host call ⊎ IsFull host.log

-- where `open` fails: also where it needs an id and none can be given
abbrev pub OpenFails : MemHost → List ℕ → Type 0
OpenFails host name = CallFails host Open ⊎ (IsSome (place host.docs name) × LacksId host)

-- where `read` fails
abbrev pub ReadFails : MemHost → ℕ → Type 0
ReadFails host id = CallFails host (read_call id)

-- where `write` fails: also where the lane has too little room
abbrev pub WriteFails : MemHost → Lane → List ℕ → Type 0
WriteFails host lane bytes = CallFails host WriteCall ⊎ (lane_room host lane < length bytes)

-- how often a read of this id failed: of the main document, or of the others
abbrev pub read_faults : Outside → ℕ → ℕ
read_faults o id = if id == 0 then o.main_faults else o.doc_faults

-- how often a write to this lane failed
abbrev pub write_faults : Outside → Lane → ℕ
write_faults o Out = o.out_faults
write_faults o Note = o.note_faults

-- the most that the nth read of the main document gives, where this much fits
abbrev pub cut_at : List ℕ → ℕ → ℕ → ℕ
cut_at cuts nth fits = option_map_or (λ most. max most 1) (slice_get cuts (nth - 1)) fits

-- the most that the next read gives
abbrev pub most_of : MemHost → ℕ → ℕ → ℕ
most_of host id fits = if id == 0 then cut_at host.cuts (next_call host.calls.read_main) fits else fits

-- how many bytes a read gives: as many as the cut, the room and the rest allow
abbrev pub GivesMost : MemHost → ℕ → Got → ℕ → Type 0
GivesMost host id (Bytes n) fits = IfSome ((outside_of host).to_come id) (λ bytes. n ≡ min (most_of host id fits) (min fits (length bytes)))
GivesMost host id answer fits = Unit {0}

-- `close` leaves an act where the log has room for it, and else none
abbrev pub LeavesAct : MemHost → ℕ → MemHost → Type 0
LeavesAct old id new = (IsFull old.log → new.log.items ≡ old.log.items) × (vec_len old.log < vec_capacity old.log → new.log.items ≡ old.log.items ++ Close id ∷ [])

-- what no call changes: the documents, and what is to be cut or to fail; and no room is lost
pub record KeepsPlan (old new : MemHost) : Type 0 where
  pub main : new.main ≡ old.main
  pub docs : new.docs ≡ old.docs
  pub cuts : new.cuts ≡ old.cuts
  pub fails : new.fails ≡ old.fails
  pub log_room : vec_capacity old.log ≤ vec_capacity new.log
  pub out_room : vec_capacity old.out ≤ vec_capacity new.out
  pub note_room : vec_capacity old.note ≤ vec_capacity new.note
  pub id_room : vec_capacity old.table.slots ≤ vec_capacity new.table.slots

-- a call of this kind more, and none of another
abbrev pub IsCounted : Call → MemHost → MemHost → Type 0
IsCounted call old new = (calls_so_far new call ≡ next_call (calls_so_far old call)) × ((other : Call) → other ≢ call → calls_so_far new other ≡ calls_so_far old other)

-- what a write to a lane does to the log, the lane and its count, by its answer
abbrev pub Puts : List Act → List ℕ → ℕ → Lane → List ℕ → Put → List Act → List ℕ → ℕ → Type 0
Puts log taken faults lane bytes (Took n) log' taken' faults' = (n ≡ length bytes) × (log' ≡ log ++ Write lane n ∷ []) × (taken' ≡ taken ++ bytes) × (faults' ≡ faults)
Puts log taken faults lane bytes Failed log' taken' faults' = (log' ≡ log) × (taken' ≡ taken) × (faults' ≡ one_more faults) × Raises faults faults'
