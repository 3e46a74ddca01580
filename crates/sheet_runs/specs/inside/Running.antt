-- What is so of a run over a host while it goes on.
use Rattle.std.specs.Prelude.{◌≡◌, ℕ, ◌+◌, ◌≤◌, ◌<◌, ◌^◌, ◌||◌, Bool, true, false, if◌then◌else◌, List, [], ◌∷◌, ◌++◌, length, map, reverse, Option, Some, None, IfSome, Ok, Err, encode_utf8_all}
use Rattle.std.specs.List.{concat, list_any}
use Rattle.std.specs.Option.{option_and_then}
use Rattle.std.specs.declared.result.Result.{Result}
use Rattle.stx_base.specs.declared.limits.Limits.{Limits}
use Rattle.stx_host.specs.Before.{AtMainReads, Between, is_main_read}
use Rattle.stx_host.specs.Outside.{LacksRoom, MayOpen, Opens, Outside, SameCounts, and_more, document, is_among, place}
use Rattle.stx_host.specs.Rooms.{needed}
use Rattle.stx_host.specs.declared.act.Opened.TheVariants.{Id}
use Rattle.stx_host.specs.declared.act.Act.{Act}
use Rattle.stx_host.specs.declared.act.Doc.{Doc}
use Rattle.xml_tokens.specs.Reader.{fed}
use Rattle.fault_report.specs.declared.outcome.Outcome.{Outcome}
use Rattle.fault_report.specs.declared.outcome.Outcome.TheVariants as ended
use Rattle.run_engine.specs.Run.{MayCome, Open, Over, Run, Says, Stage, Stands}
use Rattle.run_engine.specs.Taking.{handed}
use Rattle.run_engine.specs.declared.piece.Piece.{Piece}
use Rattle.run_engine.specs.declared.piece.Piece.TheVariants as piece
use Rattle.run_engine.specs.declared.piece.Pumped.{Pumped}
use Rattle.run_engine.specs.declared.piece.Pumped.TheVariants as pumped
use Rattle.sheet_files.specs.Acts.{opens}
use Rattle.sheet_runs.specs.Counts.{CountsAt, IfFailed}
use Rattle.sheet_runs.specs.Reading.{ReadsOpened}
use Rattle.sheet_runs.specs.Runs.{AreAbsent, AreWhole, EndsBy, HandsMain, HandsOthers, IsAsked, OpensNames, Writes}
use Rattle.sheet_runs.specs.Talk.{Besides, Exchange, Leads, Part, beside_in, beside_with, bytes_in, is_main_end, main_bytes, main_ends, main_in, name_asked, names_in, none_beside, notes_in}
use Rattle.sheet_runs.specs.Writing.{counted}
use Rattle.sheet_runs.specs.declared.main_document.Main.{Main}
use Rattle.sheet_runs.specs.declared.main_document.Main.TheVariants.{Host as OfHost, Sample}
use Rattle.sheet_runs.specs.declared.other.Other.{Other}
use Rattle.sheet_runs.specs.declared.run.End.{End}
use Rattle.sheet_runs.specs.declared.run.End.TheVariants.{Told, Unnoted}
use Rattle.sheet_runs.specs.declared.running.Halt.{Halt}
use Rattle.sheet_runs.specs.declared.running.Halt.TheVariants as halt
use Rattle.sheet_runs.specs.declared.running.Running.{Running}

-- Which documents go on

-- a document that goes on: its name, which the main one has not, and how many of its bytes were handed in
pub record Going : Type 0 where
  pub name : Option (List ℕ)
  pub read : ℕ

-- those of a run, the newest first
abbrev pub going_in : List Open → List Going
going_in [] = []
going_in (d ∷ ds) = if d.source.lexer.ended then going_in ds else record { name = d.name; read = fed d.source.lexer } ∷ going_in ds

abbrev pub going_of : Other → Going
going_of o = record { name = Some o.name; read = o.read }

-- the main document, unless it has ended
abbrev pub main_going : (ended : Bool) → (read : ℕ) → List Going
main_going true read = []
main_going false read = record { name = None; read = read } ∷ []

-- those that are read, the newest last, and behind them the main one
abbrev pub all_going : List Other → (ended : Bool) → (read : ℕ) → List Going
all_going others ended read = map going_of (reverse others) ++ main_going ended read

-- what holds of a run, unless memory was wanting
abbrev pub UnlessLacking : Stage → Type 0 → Type 0
UnlessLacking (Over ended.Memory) P = Unit {0}
UnlessLacking stage P = P

-- each document is read under these limits
abbrev pub AreLimited : Limits → List Open → Type 0
AreLimited limits [] = Unit {0}
AreLimited limits (d ∷ ds) = (d.source.lexer.limits ≡ limits) × AreLimited limits ds

-- the engine goes on with the documents that are read, and they may be no larger than can be counted
pub record IsTied (run : Run) (documents : List Open) (others : List Other) (ended : Bool) (read : ℕ) : Type 0 where
  pub going : going_in documents ≡ all_going others ended read
  pub limited : AreLimited run.limits documents

-- Which ids are open

abbrev pub ids_of : List Other → List ℕ
ids_of others = map (λ (o : Other). o.id) others

-- ids that were given one after another, each of which wasn't open before
abbrev pub AreNew : (before : Option (List ℕ)) → (ids : List ℕ) → Type 0
AreNew before [] = Unit {0}
AreNew before (id ∷ ids) = (0 < id) × IfSome before (λ ids. is_among ids id ≡ false) × AreNew (and_more before (id ∷ [])) ids

-- the ids of these documents are open, and those of before
pub record AreHeld (before now : Option (List ℕ)) (others : List Other) : Type 0 where
  pub new : AreNew before (ids_of others)
  pub ids : now ≡ and_more before (ids_of others)

abbrev pub AreOpen : (now : Option (List ℕ)) → List Other → Type 0
AreOpen now others = (before : Option (List ℕ)) × AreHeld before now others

-- What is still to come of the documents beside the main one

-- a document that goes on is this one that is read: what is to come of it is what wasn't handed in yet
pub record IsReadAs (docs : List Doc) (to_come : ℕ → Option (List ℕ)) (p : Part) (o : Other) : Type 0 where
  pub name : p.name ≡ o.name
  pub rest : List ℕ
  pub comes : to_come o.id ≡ Some rest
  pub whole : document docs p.name ≡ Some (p.bytes ++ rest)

abbrev pub AreReadAs : List Doc → (to_come : ℕ → Option (List ℕ)) → List Part → List Other → Type 0
AreReadAs docs to_come [] [] = Unit {0}
AreReadAs docs to_come (p ∷ ps) (o ∷ os) = IsReadAs docs to_come p o × AreReadAs docs to_come ps os
AreReadAs docs to_come ps os = ⊥

-- those that go on are those that are read, the newest last; the others were handed in as they are
pub record AreHandedOn (docs : List Doc) (to_come : ℕ → Option (List ℕ)) (b : Besides) (others : List Other) : Type 0 where
  pub going : AreReadAs docs to_come b.going (reverse others)
  pub whole : AreWhole docs b.whole
  pub absent : AreAbsent docs b.absent

-- so it is where the host told its documents, and which ids were open
abbrev pub HandsOthersOn : (old : Outside) → (to_come : ℕ → Option (List ℕ)) → Besides → List Other → Type 0
HandsOthersOn old to_come b others = IfSome old.documents (λ docs. IfSome old.open_ids (λ ids. AreHandedOn docs to_come b others))

-- How a run goes on

-- where the main document came from, and what is left of it
abbrev pub HandsOn : (was is : Main) → Outside → List Act → (handed : List ℕ) → (ended : Bool) → Type 0
HandsOn OfHost OfHost old acts handed ended = HandsMain OfHost old acts handed ended
HandsOn (Sample pieces) (Sample left) old acts handed ended =
    (list_any is_main_read acts ≡ false) × (handed ++ encode_utf8_all (concat left) ≡ encode_utf8_all (concat pieces)) × (ended ≡ true → left ≡ [])
HandsOn was is old acts handed ended = ⊥

abbrev pub place_in : Outside → List ℕ → Option ℕ
place_in o name = option_and_then (λ docs. place docs name) o.documents

-- What was said and done so far in a run that began so, where the engine answered last, and what is settled may still be to be written.
pub record Driving (start : Run) (main : Main) (old now : Outside) (r : Running) (asked : Pumped) : Type 0 where
  pub acts : List Act
  pub out : List ℕ
  pub note : List ℕ
  pub between : Between old now acts out note
  pub talk : List Exchange
  pub leads : Leads start talk r.engine
  pub says : Says asked r.engine.stage
  pub stands : Stands r.engine
  pub written : out ++ r.out.items ≡ bytes_in talk
  pub noted : note ++ r.notes.items ≡ notes_in talk
  pub reads : AtMainReads acts out note (IsAsked (old.to_come 0) start)
  pub hands : HandsOn main r.main old acts (main_in start talk) (main_ends start talk)
  pub beside : HandsOthersOn old now.to_come (beside_in none_beside start talk) r.others.items
  pub opened : opens acts ≡ map (place_in old) (names_in start talk)
  pub alone : ReadsOpened acts
  pub held : AreHeld old.open_ids now.open_ids r.others.items
  pub few : length r.others.items ≤ length (opens acts)
  pub counts : SameCounts old now
  pub tied : UnlessLacking r.engine.stage (IsTied r.engine r.engine.documents r.others.items (main_ends start talk) (length (main_in start talk)))
  pub most : r.engine.limits.input ≤ 2 ^ 50
  pub input : r.input ≡ counted (length (main_in start talk))
  pub output : r.output ≡ counted (length out)

-- a piece of these bytes
abbrev pub IsBytes : Piece → List ℕ → Type 0
IsBytes (piece.Bytes given) bytes = given.now ≡ bytes
IsBytes other bytes = ⊥

-- A piece is handed in next: all that was settled before is written, and what it says of the documents is so.
pub record Handing (start : Run) (main : Main) (old now : Outside) (r : Running) (p : Piece) : Type 0 where
  pub acts : List Act
  pub out : List ℕ
  pub note : List ℕ
  pub between : Between old now acts out note
  pub talk : List Exchange
  pub leads : Leads start talk r.engine
  pub may : MayCome r.engine.stage p
  pub nothing : r.out.items ≡ []
  pub no_notes : r.notes.items ≡ []
  pub written : out ≡ bytes_in talk
  pub noted : note ≡ notes_in talk
  pub reads : AtMainReads acts out note (IsAsked (old.to_come 0) start)
  pub handed_in : List ℕ
  pub handed_is : handed_in ≡ main_in start talk ++ main_bytes r.engine.stage p
  pub ended : Bool
  pub ended_is : ended ≡ (main_ends start talk || is_main_end r.engine.stage p)
  pub hands : HandsOn main r.main old acts handed_in ended
  pub beside : HandsOthersOn old now.to_come (beside_with r.engine.stage p (beside_in none_beside start talk)) r.others.items
  pub opened : opens acts ≡ map (place_in old) (names_in start talk ++ name_asked r.engine.stage)
  pub alone : ReadsOpened acts
  pub held : AreHeld old.open_ids now.open_ids r.others.items
  pub few : length r.others.items ≤ length (opens acts)
  pub counts : SameCounts old now
  pub tied : IsTied r.engine (handed r.engine p) r.others.items ended (length handed_in)
  pub most : r.engine.limits.input ≤ 2 ^ 50
  pub input : r.input ≡ counted (length handed_in)
  pub output : r.output ≡ counted (length out)

-- the same of whichever piece has these bytes, where they are still to be counted
abbrev pub HandingBytes : (start : Run) → (main : Main) → (old now : Outside) → Running → (bytes : List ℕ) → Type 0
HandingBytes start main old now r bytes =
    (p : Piece) → IsBytes p bytes → Handing start main old now (record r { input = counted (r.input + length bytes) }) p

-- the same of what comes next of the sample, which its end is behind its last piece
abbrev pub HandingChunk : (start : Run) → (main : Main) → (old now : Outside) → Running → Option (List ℕ) → Type 0
HandingChunk start main old now r None = Handing start main old now r piece.End
HandingChunk start main old now r (Some chunk) = HandingBytes start main old now r (encode_utf8_all chunk)

-- a run so far, whatever it began with
abbrev pub IsDriven : (now : Outside) → Running → Pumped → Type 0
IsDriven now r asked = (start : Run) × (main : Main) × (old : Outside) × Driving start main old now r asked

-- a document was just opened that the engine asked for
abbrev pub IsOpened : (now : Outside) → Running → (id : ℕ) → (name : List ℕ) → Type 0
IsOpened now r id name =
    (start : Run) × (main : Main) × (old : Outside) × (before : Outside) × Driving start main old before r (pumped.Open name)
    × MayOpen before name (Id id) × Opens before name (Id id) now

-- all that was settled is written
abbrev pub IsWritten : Running → Type 0
IsWritten r = (r.out.items ≡ []) × (r.notes.items ≡ [])

-- how a run ends where nothing more is read
abbrev pub HaltsAs : Run → Halt → End → Type 0
HaltsAs run halt.Over end = (o : Outcome) × (run.stage ≡ Over o) × (end ≡ Told o)
HaltsAs run (halt.Failed outcome) end = end ≡ Told outcome
HaltsAs run halt.Unnoted end = end ≡ Unnoted

-- What was said and done in a run of which nothing more is read; documents may still be open.
pub record Halted (start : Run) (main : Main) (old now : Outside) (r : Running) (why : Halt) : Type 0 where
  pub end : End
  pub halts : HaltsAs r.engine why end
  pub acts : List Act
  pub out : List ℕ
  pub note : List ℕ
  pub between : Between old now acts out note
  pub talk : List Exchange
  pub leads : Leads start talk r.engine
  pub writes : Writes end talk out note
  pub unnoted : end ≡ Unnoted → length note < length (notes_in talk)
  pub reads : AtMainReads acts out note (IsAsked (old.to_come 0) start)
  pub hands : HandsMain main old acts (main_in start talk) (main_ends start talk)
  pub whole : end ≡ Told ended.Done → main_ends start talk ≡ true
  pub beside : HandsOthers old (beside_in none_beside start talk)
  pub opened : OpensNames (place_in old) r.engine (names_in start talk) acts
  pub alone : ReadsOpened acts
  pub held : AreHeld old.open_ids now.open_ids r.others.items
  pub counts : CountsAt end old now
  pub room : IfFailed end old now (LacksRoom old (needed acts (bytes_in talk) (notes_in talk)))
  pub ends : EndsBy r.engine acts out end
  pub input : r.input ≡ counted (length (main_in start talk))
  pub output : r.output ≡ counted (length out)

-- what a step comes to: the engine answered, or nothing more is read
abbrev pub StepsTo : Run → Main → (old now : Outside) → Running → Result Pumped Halt → Type 0
StepsTo start main old now r (Ok asked) = Driving start main old now r asked
StepsTo start main old now r (Err why) = Halted start main old now r why

-- what writing comes to
abbrev pub WroteTo : Run → Main → (old now : Outside) → Running → Pumped → (P : Type 0) → Result (Unit {0}) Halt → Type 0
WroteTo start main old now r asked P (Ok done) = Driving start main old now r asked × P
WroteTo start main old now r asked P (Err why) = Halted start main old now r why

-- a run that hasn't begun
pub record IsFresh (engine : Run) (main : Main) (r : Running) : Type 0 where
  pub engine_is : r.engine ≡ engine
  pub main_is : r.main ≡ main
  pub others : r.others.items ≡ []
  pub out : r.out.items ≡ []
  pub notes : r.notes.items ≡ []
  pub input : r.input ≡ 0
  pub output : r.output ≡ 0
