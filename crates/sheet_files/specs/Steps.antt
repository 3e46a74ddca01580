-- What the steps of reading a sheet's files do.
use Rattle.std.specs.Prelude.{◌≡◌, ℕ, Bool, ◌+◌, ◌<◌, ◌≤◌, ◌⊎◌, false, List, [], ◌∷◌, ◌++◌, length, drop, slice_index, Option, Some, None, IfSome, Result, Ok, Err}
use Rattle.stx_base.specs.declared.limits.Limits.{Limits}
use Rattle.stx_base.specs.declared.memory.Memory.{Memory}
use Rattle.stx_host.specs.Laws.{Later}
use Rattle.stx_host.specs.Outside.{Closes, LacksRoom, MayOpen, Opens, Outside, ReadFault, Reads as HostReads, Rose, SameCounts, and_more, document, for_act, is_among}
use Rattle.stx_host.specs.Rooms.{needed}
use Rattle.stx_host.specs.declared.act.Act.{Act}
use Rattle.stx_host.specs.declared.act.Act.TheVariants.{Close, Read}
use Rattle.stx_host.specs.declared.act.Doc.{Doc}
use Rattle.stx_host.specs.declared.act.Got.TheVariants.{Bytes, End}
use Rattle.stx_host.specs.declared.act.Opened.TheVariants.{Id}
use Rattle.fault_report.specs.declared.outcome.HostFault.TheVariants as host_fault
use Rattle.fault_report.specs.declared.outcome.Outcome.{Outcome}
use Rattle.fault_report.specs.declared.outcome.Outcome.TheVariants as outcome
use Rattle.xml_events.specs.Answering.{Counts, EndsWhole, Goes, answer_of}
use Rattle.xml_events.specs.Document.{doc}
use Rattle.xml_events.specs.Source as xml
use Rattle.xml_events.specs.Source.{IsAnswer, fed_with, future, source}
use Rattle.xml_events.specs.declared.event.Event.{Event}
use Rattle.xml_events.specs.declared.event.Pull.TheVariants as pull
use Rattle.xml_tokens.specs.declared.lexeme.Ending.{Ending}
use Rattle.sheet_loader.specs.Files.{changed, load}
use Rattle.sheet_loader.specs.Levels.{name_at}
use Rattle.sheet_loader.specs.Lists.{OpensList}
use Rattle.sheet_loader.specs.Loaders.{EndsInFault, GivesSheet, OpensIt, OpensName, is_over, wanted_in}
use Rattle.sheet_loader.specs.Load.{sheet_of}
use Rattle.sheet_loader.specs.Reading.{File}
use Rattle.sheet_loader.specs.Remaining.{beginning, remaining}
use Rattle.sheet_loader.specs.Values.{Reads}
use Rattle.sheet_loader.specs.Versions.{language, version_of}
use Rattle.stx_base.specs.Course.{Begins, Say}
use Rattle.sheet_files.specs.Acts.{NoneBehindEnd, given_for, opens, read_since_open}
use Rattle.sheet_files.specs.Held.{HaveDone, IsWithin, ids_of, names_of, turns_of}
use Rattle.sheet_files.specs.Opened.{Seen, documents_told, place_told, places}
use Rattle.sheet_files.specs.Reading.{HasLast, IsRead}
use Rattle.sheet_files.specs.Undecided.{IsUndecided}
use Rattle.sheet_files.specs.declared.going.Going.{Going}
use Rattle.sheet_files.specs.declared.load.Loaded.{Loaded}
use Rattle.sheet_files.specs.declared.going.Next.{Next}
use Rattle.sheet_files.specs.declared.going.Next.TheVariants as next
use Rattle.sheet_files.specs.declared.reading.Halt.{Halt}
use Rattle.sheet_files.specs.declared.reading.Halt.TheVariants as halt
use Rattle.sheet_files.specs.declared.reading.Reading.{Reading}

-- A look at a file: nothing is read where bytes are left of what was, and else the next piece of at most 4,096 bytes, or the end.
pub record Gets (old new : Outside) (g h : Going) : Type 0 where
  pub acts : List Act
  pub piece : List ℕ
  pub done : ((acts ≡ []) × (piece ≡ []) × (new ≡ old)) ⊎ ((acts ≡ Read g.id (length piece) ∷ []) × (length g.bytes.items ≤ g.taken) × (0 < length piece) × HostReads old g.id (Bytes (length piece)) new × (length piece ≤ 4096))
  pub next : IfSome (old.to_come g.id) (λ bytes. bytes ≡ piece ++ drop (length piece) bytes)
  pub bytes : h.bytes.items ≡ g.bytes.items ++ piece
  pub others : (h.id ≡ g.id) × (h.number ≡ g.number) × (h.reader ≡ g.reader) × (h.taken ≡ g.taken)

abbrev pub Looks : (old new : Outside) → (g h : Going) → Result Next Halt → Type 0
Looks old new g h (Ok next.Byte) = Gets old new g h × (h.taken < length h.bytes.items)
Looks old new g h (Ok next.End) = (h ≡ g) × (length g.bytes.items ≤ g.taken) × IfSome (old.to_come g.id) (λ bytes. bytes ≡ []) × HostReads old g.id End new
Looks old new g h (Err halt.Unread) = (h ≡ g) × ReadFault g.id old new × LacksRoom old for_act
Looks old new g h (Err halt.Memory) = (h.id ≡ g.id) × (h.number ≡ g.number) × (h.reader ≡ g.reader) × (length g.bytes.items ≤ g.taken) × ((got : ℕ) × HostReads old g.id (Bytes got) new × (got ≤ 4096))
Looks old new g h (Err other) = ⊥

-- a file of which nothing is read
pub record IsFresh (limits : Limits) (id number : ℕ) (g : Going) : Type 0 where
  pub given : g.id ≡ id
  pub numbered : g.number ≡ number
  pub begins : g.reader ≡ source limits false
  pub nothing : g.bytes.items ≡ []
  pub none_taken : g.taken ≡ 0
  pub document : (bytes : List ℕ) (ended : Bool) → future g.reader bytes ended ≡ doc limits false bytes ended ∷ []

-- a byte more is handed over
pub record HandsOver (g h : Going) : Type 0 where
  pub byte : ℕ
  pub is_byte : byte ≡ slice_index g.bytes.items g.taken
  pub reader : h.reader ≡ fed_with g.reader (byte ∷ [])
  pub fed : (more : List ℕ) (ended : Bool) → future h.reader more ended ≡ future g.reader (byte ∷ more) ended
  pub taken : h.taken ≡ g.taken + 1
  pub others : (h.id ≡ g.id) × (h.number ≡ g.number) × (h.bytes ≡ g.bytes)

-- nothing is read yet
pub record IsEmpty (within : Limits) (own : List ℕ) (r : Reading) : Type 0 where
  pub limits : r.limits ≡ within
  pub names : r.loader.names ≡ own ∷ []
  pub progress : r.loader.progress ≡ beginning own
  pub going : r.going.items ≡ []
  pub files : r.files.items ≡ []
  pub left : r.left ≡ within.sheet
  -- the sheet is what its own file's nodes come to
  pub sheet : (reads : Reads) (first : File) (others : List (Option File)) → first.version ≡ version_of language first.nodes → sheet_of reads own (Some first ∷ others) ≡ Say own (remaining reads (Some first ∷ others) r.loader.progress (first.nodes ∷ []))

-- A file that was opened is read next. Where memory is wanting the files that are being read are those of before.
abbrev pub Enters : (name : List ℕ) → (id : ℕ) → (old new : Reading) → Result (Unit {0}) Memory → Type 0
Enters name id old new (Ok done) =
    ((g : Going) × IsFresh old.limits id (length old.files.items) g × (new.going.items ≡ old.going.items ++ g ∷ []))
    × (new.files.items ≡ old.files.items ++ record { name = name; bytes = [] } ∷ [])
    × (new.loader ≡ old.loader) × (new.left ≡ old.left) × (new.limits ≡ old.limits)
Enters name id old new (Err error) = (new.going.items ≡ old.going.items) × (length old.files.items ≤ length new.files.items) × (new.limits ≡ old.limits)

-- the same of a file that an include wanted
abbrev pub Includes : (name : List ℕ) → (id : ℕ) → (old new : Reading) → Result (Unit {0}) Memory → Type 0
Includes name id old new (Ok done) =
    OpensIt old.loader new.loader × OpensName (wanted_in old.loader.progress) old.loader.names new.loader.names × OpensList old.loader new.loader
    × Enters name id (record old { loader = new.loader }) new (Ok done)
Includes name id old new (Err error) = Enters name id old new (Err error)

-- the innermost file is given back, and its bytes stand with its name
pub record Leaves (o p : Outside) (old new : Reading) : Type 0 where
  pub front : List Going
  pub last : Going
  pub was : old.going.items ≡ front ++ last ∷ []
  pub now : new.going.items ≡ front
  pub files : new.files.items ≡ changed (λ (d : Doc). record d { bytes = last.bytes.items }) last.number old.files.items
  pub others : (new.loader ≡ old.loader) × (new.left ≡ old.left) × (new.limits ≡ old.limits)
  pub closes : Closes o last.id p

-- acts that give ids back
abbrev pub AreCloses : List Act → Type 0
AreCloses [] = Unit {0}
AreCloses (Close id ∷ acts) = AreCloses acts
AreCloses other = ⊥

-- what each file that was being read came to stands with its name
abbrev pub files_left : List Going → List Doc → List Doc
files_left [] files = files
files_left (g ∷ going) files = changed (λ (d : Doc). record d { bytes = g.bytes.items }) g.number (files_left going files)

-- all files are given back
pub record LeavesAll (o p : Outside) (old new : Reading) : Type 0 where
  pub acts : List Act
  pub closes : AreCloses acts
  pub done : HaveDone o p acts
  pub counts : SameCounts o p
  pub ids : (before : Option (List ℕ)) → o.open_ids ≡ and_more before (ids_of old.going.items) → p.open_ids ≡ before
  pub files : new.files.items ≡ files_left old.going.items old.files.items
  pub loader : new.loader ≡ old.loader

-- the host failed once: the count of documents rose
pub record HasFailed (start o : Outside) : Type 0 where
  pub doc : Rose start.doc_faults o.doc_faults
  pub later : Later start.doc_faults o.doc_faults
  pub main : o.main_faults ≡ start.main_faults
  pub out : o.out_faults ≡ start.out_faults
  pub note : o.note_faults ≡ start.note_faults

-- the counts, by why reading halted
abbrev pub HaltCounts : (start o : Outside) → Halt → Type 0
HaltCounts start o halt.Memory = SameCounts start o
HaltCounts start o other = HasFailed start o

-- the room that the host lacked, where it failed
abbrev pub HaltLacks : (start : Outside) → List Act → Halt → Type 0
HaltLacks start acts halt.Memory = Unit {0}
HaltLacks start acts other = LacksRoom start (needed acts [] [])

-- The file of a failure, where these were opened: the innermost one couldn't be read, of which so many bytes were read since its id was given
-- for it, or another one couldn't be opened.
abbrev pub HaltsAt : (start : Outside) → (opened : List (List ℕ)) → Reading → List Act → Halt → Type 0
HaltsAt start opened r acts (halt.Unopened file) = Unit {0}
HaltsAt start opened r acts halt.Unread =
    (front : List Going) × (g : Going) × (r.going.items ≡ front ++ g ∷ []) × (opened ≡ names_of r.files.items)
    × IfSome start.open_ids (λ ids. (given_for g.id acts ≡ Some (place_told start (name_at opened g.number))) × (read_since_open g.id acts ≡ length g.bytes.items))
HaltsAt start opened r acts halt.Memory = Unit {0}

-- where a host tells its documents these are the names that are opened first
abbrev pub OpensFirst : (start : Outside) → Limits → (name : List ℕ) → (names : List (List ℕ)) → Type 0
OpensFirst start limits name names = IfSome (documents_told start) (λ docs. (reads : Reads) → Begins names (load reads limits (document docs) name).opened)

-- these names, and that of the file that couldn't be opened
abbrev pub names_to : (names : List (List ℕ)) → Halt → List (List ℕ)
names_to names (halt.Unopened file) = names ++ file ∷ []
names_to names other = names

-- Where reading halts nothing that was opened is lost.
pub record IsHalted (name : List ℕ) (start o : Outside) (r : Reading) (why : Halt) : Type 0 where
  pub acts : List Act
  pub done : HaveDone start o acts
  pub names : List (List ℕ)
  pub opened : opens acts ≡ places start names
  pub first : OpensFirst start r.limits name (names_to names why)
  pub ids : o.open_ids ≡ and_more start.open_ids (ids_of r.going.items)
  pub counts : HaltCounts start o why
  pub at : HaltsAt start names r acts why
  pub once : IfSome start.open_ids (λ ids. NoneBehindEnd acts)
  pub lacks : HaltLacks start acts why

-- where the sheet wasn't decided yet at the reads of acts, neither was it at those of all
abbrev pub StayUndecided : Limits → (name : List ℕ) → (start : Outside) → (acts all : List Act) → Type 0
StayUndecided limits name start acts all = IsUndecided start limits name acts → IsUndecided start limits name all

-- What a step comes to, from where so was read: reading goes on, or it halts.
abbrev pub StepsTo : (name : List ℕ) → (o p : Outside) → (old new : Reading) → Result (Unit {0}) Halt → Type 0
StepsTo name o p old new (Ok done) =
    (missing : List Seen) × IsRead name new missing × (wanted_in new.loader.progress ≡ None)
    × ((start : Outside) (acts : List Act) → IsWithin start o old.going.items old.files.items [] acts → (more : List Act) × IsWithin start p new.going.items new.files.items missing more × StayUndecided old.limits name start acts more)
    × (new.limits ≡ old.limits)
StepsTo name o p old new (Err why) = (start : Outside) (acts : List Act) → IsWithin start o old.going.items old.files.items [] acts → (halted : IsHalted name start p new why) × StayUndecided old.limits name start acts halted.acts

-- the limits stay, and files are turned to less often where they are read on
abbrev pub Lessens : (old new : Reading) → (turns : ℕ) → Result (Unit {0}) Halt → Type 0
Lessens old new turns (Ok done) = (new.limits ≡ old.limits) × (is_over new.loader.progress ≡ false → turns_of new < turns)
Lessens old new turns (Err why) = new.limits ≡ old.limits

-- a reader told an event, which its loader takes next
pub record IsTold (event : Event) (before now : Reading) : Type 0 where
  pub front : List Going
  pub was : Going
  pub is : Going
  pub old : before.going.items ≡ front ++ was ∷ []
  pub new : now.going.items ≡ front ++ is ∷ []
  pub files : now.files ≡ before.files
  pub loader : now.loader ≡ before.loader
  pub left : now.left ≡ before.left
  pub limits : now.limits ≡ before.limits
  pub others : (is.id ≡ was.id) × (is.number ≡ was.number) × (is.bytes ≡ was.bytes) × (is.taken ≡ was.taken)
  pub on : is_over before.loader.progress ≡ false
  pub none : wanted_in before.loader.progress ≡ None
  pub answer : IsAnswer was.reader (pull.Event event)
  pub leaves : xml.Leaves was.reader (pull.Event event) is.reader
  pub repeats : (over : Ending) → was.reader.over ≡ Some over → pull.Event event ≡ answer_of over
  pub goes : Goes was.reader (pull.Event event) is.reader
  pub lists : Counts was.reader (pull.Event event) is.reader
  pub whole : EndsWhole was.reader (pull.Event event)
  pub ended : is.reader.lexer.ended ≡ was.reader.lexer.ended

-- the ids of the files and their numbers stay, and no file is lost
abbrev pub KeepsFiles : (old new : Reading) → Type 0
KeepsFiles old new = (new.going ≡ old.going) × (length new.files.items ≡ length old.files.items) × (new.limits ≡ old.limits)

-- the sheet's own file was opened
pub record OpensOwn (start o : Outside) (name : List ℕ) (id : ℕ) : Type 0 where
  pub may : MayOpen start name (Id id)
  pub opens : Opens start name (Id id) o

-- an id is the last that is open
abbrev pub IsLastOpen : Outside → (id : ℕ) → Type 0
IsLastOpen o id = (0 < id) × IfSome o.open_ids (λ ids. (before : List ℕ) × (ids ≡ before ++ id ∷ []) × (is_among before id ≡ false))

-- what a loader that is over gives, with the files that were read
abbrev pub Finishes : Reading → Result Loaded Outcome → Type 0
Finishes r (Ok loaded) = GivesSheet r.loader loaded.sheet × (loaded.files ≡ r.files.items)
Finishes r (Err (outcome.Sheet fault)) = EndsInFault r.loader fault
Finishes r (Err outcome.Memory) = Unit {0}
Finishes r (Err other) = ⊥

-- how a halt is told
abbrev pub FailsAs : Halt → Reading → Outcome → Type 0
FailsAs (halt.Unopened file) r told = told ≡ outcome.Host file host_fault.Doc 0
FailsAs halt.Unread r told = ((told ≡ outcome.Memory) × (r.going.items ≡ [])) ⊎ HasLast r.going.items (λ g. told ≡ outcome.Host (name_at (names_of r.files.items) g.number) host_fault.Doc (length g.bytes.items))
FailsAs halt.Memory r told = told ≡ outcome.Memory
