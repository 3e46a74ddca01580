-- What a host tells of the outside, and what its four calls do to that.
use Rattle.std.specs.Prelude.{◌≡◌, ℕ, ◌+◌, ◌-◌, ◌^◌, ◌<◌, ◌≤◌, min, Bool, false, not, ◌==◌, IsTrue, ◌⊎◌, List, [], ◌∷◌, ◌++◌, length, map, take, drop, filter, position, bytes_eq, slice_get, Option, None, Some, IsSome, IfSome, option_map, if◌then◌else◌}
use Rattle.std.specs.List.{list_any}
use Rattle.std.specs.Option.{option_and_then}
use Rattle.stx_host.specs.declared.act.Act.{Act}
use Rattle.stx_host.specs.declared.act.Act.TheVariants.{Open, Read, Close, Write}
use Rattle.stx_host.specs.declared.act.Doc.{Doc}
use Rattle.stx_host.specs.declared.act.Lane.{Lane}
use Rattle.stx_host.specs.declared.act.Lane.TheVariants.{Out, Note}
use Rattle.stx_host.specs.declared.act.Opened.{Opened}
use Rattle.stx_host.specs.declared.act.Opened.TheVariants.{Id, Absent, Failed, Memory}
use Rattle.stx_host.specs.declared.act.Got.{Got}
use Rattle.stx_host.specs.declared.act.Got.TheVariants.{Bytes, End, Failed as Unread}
use Rattle.stx_host.specs.declared.act.Put.{Put}
use Rattle.stx_host.specs.declared.act.Put.TheVariants.{Took, Failed as Unwritten}

-- an amount of what a host may have room for: acts in its log, ids that are open at once, and bytes in each lane
pub record Room : Type 0 where
  pub acts : ℕ
  pub ids : ℕ
  pub out : ℕ
  pub note : ℕ

-- What a host tells. Each meaning is told (`Some`) or not; the four counts of faults always are.
pub record Outside : Type 0 where
  -- the documents; of two with one name the first counts
  pub documents : Option (List Doc)
  -- the bytes still to come of each open id; id 0 is the main document
  pub to_come : ℕ → Option (List ℕ)
  -- the ids that were given out and not given back
  pub open_ids : Option (List ℕ)
  -- the acts so far, in order
  pub log : Option (List Act)
  -- the bytes that each lane took so far
  pub out : Option (List ℕ)
  pub note : Option (List ℕ)
  -- what it has room for in all, told by a host whose calls fail for want of room alone
  pub room : Option Room
  pub doc_faults : ℕ
  pub main_faults : ℕ
  pub out_faults : ℕ
  pub note_faults : ℕ

-- the host tells this main document, its log and its lanes
pub record TellsMain (o : Outside) (main : List ℕ) : Type 0 where
  pub main_document : o.to_come 0 ≡ Some main
  pub log : IsSome o.log
  pub out : IsSome o.out
  pub note : IsSome o.note

-- the place of the first document of a name
abbrev pub place : List Doc → List ℕ → Option ℕ
place docs name = position (λ doc. bytes_eq doc.name name) docs

-- its bytes
abbrev pub document : List Doc → List ℕ → Option (List ℕ)
document docs name = option_and_then (λ at. option_map (λ doc. doc.bytes) (slice_get docs at)) (place docs name)

-- whether an id is one of these
abbrev pub is_among : List ℕ → ℕ → Bool
is_among ids id = list_any (λ k. k == id) ids

-- an id of a document, and open as far as the host tells
pub record IsOpen (open_ids : Option (List ℕ)) (id : ℕ) : Type 0 where
  pub above_zero : 0 < id
  pub told : IfSome open_ids (λ ids. IsTrue (is_among ids id))

-- the main document can always be read, and a document while it is open
abbrev pub IsReadable : Option (List ℕ) → ℕ → Type 0
IsReadable open_ids id = (id ≡ 0) ⊎ IsOpen open_ids id

-- a told list, and these after it
abbrev pub and_more : {X : Type 0} → Option (List X) → List X → Option (List X)
and_more told more = option_map (λ so_far. so_far ++ more) told

-- what is to come, but other bytes for one id
abbrev pub with_bytes : (ℕ → Option (List ℕ)) → ℕ → Option (List ℕ) → ℕ → Option (List ℕ)
with_bytes to_come id bytes k = if k == id then bytes else to_come k

-- A host that has room for so much lacks room for more than it holds: for acts in its log, for ids, or for bytes in a lane.
abbrev pub Lacks : Outside → (all more : Room) → Type 0
Lacks o all more =
    IfSome o.log (λ log. all.acts < length log + more.acts)
    ⊎ (IfSome o.open_ids (λ ids. all.ids < length ids + more.ids)
    ⊎ (IfSome o.out (λ taken. all.out < length taken + more.out)
    ⊎ IfSome o.note (λ taken. all.note < length taken + more.note)))

-- the host doesn't tell what it has room for, or lacks room for so much
abbrev pub LacksRoom : Outside → (more : Room) → Type 0
LacksRoom o more = IfSome o.room (λ all. Lacks o all more)

-- what an act needs; one that gives an id; and one that gives a lane so many bytes
abbrev pub for_act : Room
for_act = record { acts = 1; ids = 0; out = 0; note = 0 }

abbrev pub for_id : Room
for_id = record { acts = 1; ids = 1; out = 0; note = 0 }

abbrev pub for_bytes : Lane → ℕ → Room
for_bytes Out n = record { acts = 1; ids = 0; out = n; note = 0 }
for_bytes Note n = record { acts = 1; ids = 0; out = 0; note = n }

-- and one more write after others, where it and they give so many bytes
abbrev pub for_writes : Lane → (before : List ℕ) → ℕ → Room
for_writes lane before n = record (for_bytes lane n) { acts = length before + 1 }

-- a count rose: it is greater, or stands at the last value of u64
abbrev pub Rose : ℕ → ℕ → Type 0
Rose before now = (before < now) ⊎ (now ≡ 2 ^ 64 - 1)

-- no count of faults changed
pub record SameCounts (old new : Outside) : Type 0 where
  pub doc : new.doc_faults ≡ old.doc_faults
  pub main : new.main_faults ≡ old.main_faults
  pub out : new.out_faults ≡ old.out_faults
  pub note : new.note_faults ≡ old.note_faults

-- one more, up to the last value of u64
abbrev pub one_more : ℕ → ℕ
one_more count = min (count + 1) (2 ^ 64 - 1)

-- what a failing call does to its count
pub record Raises (before now : ℕ) : Type 0 where
  pub no_fall : before ≤ now
  pub rose : Rose before now
  pub is_u64 : now < 2 ^ 64

-- nothing changed but the count of documents, and that rose
pub record DocFault (old new : Outside) : Type 0 where
  pub alone : new ≡ record old { doc_faults = new.doc_faults }
  pub count : Raises old.doc_faults new.doc_faults

-- the same of the count of the main document
pub record MainFault (old new : Outside) : Type 0 where
  pub alone : new ≡ record old { main_faults = new.main_faults }
  pub count : Raises old.main_faults new.main_faults

-- the same of the count of `Out`
pub record OutFault (old new : Outside) : Type 0 where
  pub alone : new ≡ record old { out_faults = new.out_faults }
  pub count : Raises old.out_faults new.out_faults

-- the same of the count of `Note`
pub record NoteFault (old new : Outside) : Type 0 where
  pub alone : new ≡ record old { note_faults = new.note_faults }
  pub count : Raises old.note_faults new.note_faults

-- an id that `open` may give: above 0, not open, and of a name that the told documents have
pub record IsNewId (old : Outside) (name : List ℕ) (id : ℕ) : Type 0 where
  pub above_zero : 0 < id
  pub not_open : IfSome old.open_ids (λ ids. is_among ids id ≡ false)
  pub known : IfSome old.documents (λ docs. IsSome (place docs name))

-- the answers that `open` may give; it fails for want of room alone where that is told
abbrev pub MayOpen : Outside → List ℕ → Opened → Type 0
MayOpen old name (Id id) = IsNewId old name id
MayOpen old name Absent = IfSome old.documents (λ docs. place docs name ≡ None)
MayOpen old name Failed = LacksRoom old for_id
MayOpen old name Memory = Unit {0}

-- after `Id`: an act more, an id more, and all bytes of the document to come
abbrev pub opened : Outside → List ℕ → ℕ → Outside
opened old name id = record old {
  log = and_more old.log (Open (option_and_then (λ docs. place docs name) old.documents) id ∷ []);
  open_ids = and_more old.open_ids (id ∷ []);
  to_come = with_bytes old.to_come id (option_and_then (λ docs. document docs name) old.documents);
}

-- what `open` changes, by its answer
abbrev pub Opens : Outside → List ℕ → Opened → Outside → Type 0
Opens old name (Id id) new = new ≡ opened old name id
Opens old name Absent new = new ≡ record old { log = and_more old.log (Open None 0 ∷ []) }
Opens old name Failed new = DocFault old new
Opens old name Memory new = new ≡ old

-- the next n bytes stand at the front of the room
pub record GivesBytes (to_come : Option (List ℕ)) (n : ℕ) (room : List ℕ) : Type 0 where
  pub some : 0 < n
  pub fits : n ≤ length room
  pub next : IfSome to_come (λ bytes. bytes ≡ take n room ++ drop n bytes)

-- the answers that `read` may give, with the room as it then is
abbrev pub MayRead : Outside → ℕ → Got → List ℕ → Type 0
MayRead old id (Bytes n) room = GivesBytes (old.to_come id) n room
MayRead old id End room = IfSome (old.to_come id) (λ bytes. bytes ≡ [])
MayRead old id Unread room = LacksRoom old for_act

-- a failing read: for id 0 the count of the main document, else that of documents
pub record ReadFault (id : ℕ) (old new : Outside) : Type 0 where
  pub main : id ≡ 0 → MainFault old new
  pub doc : 0 < id → DocFault old new

-- what `read` changes, by its answer
abbrev pub Reads : Outside → ℕ → Got → Outside → Type 0
Reads old id (Bytes n) new = new ≡ record old {
  log = and_more old.log (Read id n ∷ []);
  to_come = with_bytes old.to_come id (option_map (λ bytes. drop n bytes) (old.to_come id));
}
Reads old id End new = new ≡ record old { log = and_more old.log (Read id 0 ∷ []) }
Reads old id Unread new = ReadFault id old new

-- after `close`: an id less
abbrev pub closed : Outside → ℕ → Outside
closed old id = record old {
  open_ids = option_map (λ ids. filter (λ k. not (k == id)) ids) old.open_ids;
  to_come = with_bytes old.to_come id None;
}

-- what `close` changes; it adds an act or none
abbrev pub Closes : Outside → ℕ → Outside → Type 0
Closes old id new = (new ≡ record (closed old id) { log = and_more old.log (Close id ∷ []) }) ⊎ (new ≡ closed old id)

-- the answers that `write` may give
abbrev pub MayWrite : Outside → Lane → List ℕ → Put → Type 0
MayWrite old lane bytes (Took n) = (0 < n) × (n ≤ length bytes)
MayWrite old lane bytes Unwritten = LacksRoom old (for_bytes lane (length bytes))

-- writes to a lane, of these lengths
abbrev pub writes : Lane → List ℕ → List Act
writes lane lens = map (λ len. Write lane len) lens

-- after a lane took these bytes, in writes of these lengths
abbrev pub wrote : Outside → Lane → List ℕ → List ℕ → Outside
wrote old Out lens bytes = record old { log = and_more old.log (writes Out lens); out = and_more old.out bytes }
wrote old Note lens bytes = record old { log = and_more old.log (writes Note lens); note = and_more old.note bytes }

-- a failing write: the lane's count
abbrev pub LaneFault : Lane → Outside → Outside → Type 0
LaneFault Out old new = OutFault old new
LaneFault Note old new = NoteFault old new

-- what `write` changes, by its answer
abbrev pub Writes : Outside → Lane → List ℕ → Put → Outside → Type 0
Writes old lane bytes (Took n) new = new ≡ wrote old lane (n ∷ []) (take n bytes)
Writes old lane bytes Unwritten new = LaneFault lane old new
