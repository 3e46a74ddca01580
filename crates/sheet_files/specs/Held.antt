-- What the program keeps of the files that are being read: their ids, numbers and readers, and what was done.
use Rattle.std.specs.Prelude.{◌≡◌, ℕ, suc, ◌+◌, ◌-◌, ◌*◌, ◌<◌, ◌≤◌, Bool, false, ◌==◌, ◌||◌, if◌then◌else◌, List, [], ◌∷◌, ◌++◌, map, length, Some, IfSome}
use Rattle.std.specs.List.{list_any}
use Rattle.stx_base.specs.declared.limits.Limits.{Limits}
use Rattle.stx_host.specs.Before.{Between, is_main_read}
use Rattle.stx_host.specs.Outside.{Outside, SameCounts, and_more, document, is_among}
use Rattle.stx_host.specs.declared.act.Act.{Act}
use Rattle.stx_host.specs.declared.act.Act.TheVariants.{Open, Read}
use Rattle.stx_host.specs.declared.act.Doc.{Doc}
use Rattle.xml_events.specs.Source.{events_left}
use Rattle.sheet_loader.specs.Files.{changed}
use Rattle.sheet_loader.specs.Levels.{name_at}
use Rattle.sheet_files.specs.Acts.{NoneBehindEnd, given_for, is_long_read, is_write, opens, read_since_open}
use Rattle.sheet_files.specs.Opened.{AreOf, Came, Begun, Whole, Seen, documents_told, names_in, place_told, places, whole}
use Rattle.sheet_files.specs.Undecided.{number_of}
use Rattle.sheet_files.specs.declared.going.Going.{Going}
use Rattle.sheet_files.specs.declared.reading.Reading.{Reading}

-- how far a file came that is being read: all of it, where its end was told
abbrev pub came_of : Going → Came
came_of g = if g.reader.lexer.ended then Whole g.bytes.items else Begun g.bytes.items

-- the files that were opened, as far as they came: those that aren't being read were read to their ends
abbrev pub with_going : List Going → List Seen → List Seen
with_going [] seen = seen
with_going (g ∷ going) seen = with_going going (changed (λ (f : Seen). record f { came = came_of g }) g.number seen)

abbrev pub seen_of : List Going → List Doc → List Seen
seen_of going files = with_going going (map whole files)

abbrev pub names_of : List Doc → List (List ℕ)
names_of files = map (λ (d : Doc). d.name) files

abbrev pub ids_of : List Going → List ℕ
ids_of going = map (λ (g : Going). g.id) going

-- each file was opened after the one before it, and all of them among the first n
abbrev pub AreNumbered : (from : ℕ) → List Going → (n : ℕ) → Type 0
AreNumbered from [] n = from ≤ n
AreNumbered from (g ∷ going) n = (from ≤ g.number) × AreNumbered (suc g.number) going n

-- an id is that of a document, and a reader keeps to the limits
abbrev pub AreLimited : Limits → List Going → Type 0
AreLimited limits [] = Unit {0}
AreLimited limits (g ∷ going) = (0 < g.id) × (g.reader.lexer.limits ≡ limits) × AreLimited limits going

-- no id is one of those before it
abbrev pub AreNew : (ids : List ℕ) → List Going → Type 0
AreNew ids [] = Unit {0}
AreNew ids (g ∷ going) = (is_among ids g.id ≡ false) × AreNew (ids ++ g.id ∷ []) going

-- the ids of these files are those that were given last, and no id was given twice
abbrev pub AreLast : (ids : List ℕ) → List Going → Type 0
AreLast ids going = (before : List ℕ) × (ids ≡ before ++ ids_of going) × AreNew before going

-- the files that are being read are open
pub record AreHeld (o : Outside) (limits : Limits) (going : List Going) (n : ℕ) : Type 0 where
  pub numbered : AreNumbered 0 going n
  pub limited : AreLimited limits going
  pub last : IfSome o.open_ids (λ ids. AreLast ids going)

abbrev pub IsHeld : Outside → Reading → Type 0
IsHeld o r = AreHeld o r.limits r.going.items (length r.files.items)

-- the bytes that the host has still to give of each file that is being read are the rest of its document
abbrev pub HasRest : (docs : List Doc) → Outside → (names : List (List ℕ)) → List Going → Type 0
HasRest docs o names [] = Unit {0}
HasRest docs o names (g ∷ going) =
    ((rest : List ℕ) × (o.to_come g.id ≡ Some rest) × (document docs (name_at names g.number) ≡ Some (g.bytes.items ++ rest))) × HasRest docs o names going

-- each id was given for its file, and its bytes are those that were read since
abbrev pub AreGiven : (start : Outside) → List Act → (names : List (List ℕ)) → List Going → Type 0
AreGiven start acts names [] = Unit {0}
AreGiven start acts names (g ∷ going) =
    ((given_for g.id acts ≡ Some (place_told start (name_at names g.number))) × (read_since_open g.id acts ≡ length g.bytes.items)) × AreGiven start acts names going

-- whether a read got nothing of an id since it was given last, where this was said before these acts
abbrev pub ended_behind : (before : Bool) → (id : ℕ) → List Act → Bool
ended_behind before id [] = before
ended_behind before id (Open doc k ∷ acts) = ended_behind (if k == id then false else before) id acts
ended_behind before id (Read k got ∷ acts) = ended_behind (if k == id then before || (got == 0) else before) id acts
ended_behind before id (act ∷ acts) = ended_behind before id acts

-- the end of a file isn't behind it while its reader wants bytes
abbrev pub AreUnended : List Act → List Going → Type 0
AreUnended acts [] = Unit {0}
AreUnended acts (g ∷ going) = (g.reader.lexer.ended ≡ false → ended_behind false g.id acts ≡ false) × AreUnended acts going

-- each id was given for the file of its number
abbrev pub AreOfNumber : List Act → List Going → Type 0
AreOfNumber acts [] = Unit {0}
AreOfNumber acts (g ∷ going) = (number_of g.id acts ≡ Some g.number) × AreOfNumber acts going

-- nothing was read behind an end
pub record AreOnce (acts : List Act) (going : List Going) : Type 0 where
  pub none_behind : NoneBehindEnd acts
  pub unended : AreUnended acts going

-- what acts have done since a moment: nothing was written, nothing of the main document was read, and no read got more than 4,096 bytes
pub record HaveDone (start o : Outside) (acts : List Act) : Type 0 where
  pub between : Between start o acts [] []
  pub no_write : list_any is_write acts ≡ false
  pub no_main_read : list_any is_main_read acts ≡ false
  pub no_long_read : list_any is_long_read acts ≡ false

-- what was done since a moment, and what came of it
pub record IsWithin (start o : Outside) (going : List Going) (files : List Doc) (missing : List Seen) (acts : List Act) : Type 0 where
  pub done : HaveDone start o acts
  -- all that was opened, in order
  pub opened : opens acts ≡ places start (names_of files ++ names_in missing)
  -- the ids of the files that are being read are open, and no others but those of before
  pub ids : o.open_ids ≡ and_more start.open_ids (ids_of going)
  pub told : IfSome (documents_told start) (λ docs. AreOf (document docs) (seen_of going files ++ missing) × HasRest docs o (names_of files) going)
  pub given : IfSome start.open_ids (λ ids. AreGiven start acts (names_of files) going)
  pub once : IfSome start.open_ids (λ ids. AreOnce acts going)
  pub numbers : IfSome start.open_ids (λ ids. AreOfNumber acts going)
  pub counts : SameCounts start o

-- No more events come of what a reader keeps where it wants more bytes.
abbrev pub kept_most : Limits → ℕ
kept_most limits = 5 * (limits.lexeme + 11) + 1

-- how often a file may still be turned to: for each event that it has before it, and once at its end
abbrev pub turns_in : Limits → List Going → ℕ
turns_in limits [] = 0
turns_in limits (g ∷ going) = (1 + events_left g.reader + (if g.reader.lexer.ended then 0 else kept_most limits + 1)) + turns_in limits going

-- how often files may still be turned to, where so many bytes are left, and so many files were opened
abbrev pub turns_left : Limits → (left opened : ℕ) → List Going → ℕ
turns_left limits left opened going =
    (kept_most limits + 6) * left + (kept_most limits + 4) * ((limits.sheet + 3) - opened) + turns_in limits going

abbrev pub turns_of : Reading → ℕ
turns_of r = turns_left r.limits r.left (length r.files.items) r.going.items
