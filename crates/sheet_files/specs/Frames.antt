-- The files of a sheet while it is read: those that are being read, each included by the one around it, and in each those that were read.
use Rattle.std.specs.Prelude.{ℕ, zero, suc, ◌+◌, ◌≤◌, nat_le, List, [], ◌∷◌, ◌++◌, map, length, take, drop, Option, Some}
use Rattle.stx_base.specs.Course.{says}
use Rattle.stx_base.specs.declared.limits.Limits.{Limits}
use Rattle.xml_events.specs.Source.{Source, future}
use Rattle.xml_events.specs.Tree.{Future}
use Rattle.sheet_loader.specs.Files.{Opened, limit_within, nodes_within, share}
use Rattle.sheet_loader.specs.Lists.{Of, Own, Included, Element}
use Rattle.sheet_loader.specs.Load.{sheet_of}
use Rattle.sheet_loader.specs.Reading.{File}
use Rattle.sheet_loader.specs.Remaining.{Progress, remaining}
use Rattle.sheet_loader.specs.Resuming.{SameAnswer}
use Rattle.sheet_loader.specs.Values.{Reads}
use Rattle.sheet_loader.specs.Versions.{language, version_of}

-- A file that was opened and is there: all of its bytes, how many bytes of sheets were read before it, how many its includes took, and how
-- many of its own are read where the last of these is known.
pub record Part : Type 0 where
  pub name : List ℕ
  pub bytes : List ℕ
  pub before : ℕ
  pub inside : ℕ
  pub known : ℕ

-- A file that is being read: how many of its bytes its reader was given, what that has before it, how many of its lists are open, and the
-- files that were opened since and read to their ends.
pub record Frame : Type 0 where
  pub part : Part
  pub taken : ℕ
  pub source : Source
  pub lists : ℕ
  pub done : List Part

abbrev pub as_opened : Part → Opened
as_opened p = record { name = p.name; bytes = Some p.bytes; before = p.before; inside = p.inside; known = p.known }

-- all files in the order of opening, where these are being read, the innermost first
abbrev pub parts_of : List Frame → List Part
parts_of [] = []
parts_of (f ∷ outer) = parts_of outer ++ f.part ∷ f.done

abbrev pub opened_of : List Frame → List Opened
opened_of frames = map as_opened (parts_of frames)

-- a file, of which no more than so many bytes may be read
abbrev pub cut_file : Limits → (bytes : List ℕ) → (most : ℕ) → File
cut_file limits bytes most = record {
  version = version_of language (nodes_within limits bytes most);
  nodes = nodes_within limits bytes most;
  limit = limit_within bytes most;
}

abbrev pub whole_file : Limits → Part → Option File
whole_file limits p = Some (cut_file limits p.bytes (length p.bytes))

-- the files, where those that are being read may be read so far
abbrev pub files_cut : Limits → List Frame → (cuts : List ℕ) → List (Option File)
files_cut limits [] cuts = []
files_cut limits (f ∷ outer) [] = []
files_cut limits (f ∷ outer) (m ∷ cuts) = files_cut limits outer cuts ++ Some (cut_file limits f.part.bytes m) ∷ map (whole_file limits) f.done

-- what a reader has still to tell of a file that may be read so far
abbrev pub lists_at : Source → (taken : ℕ) → (bytes : List ℕ) → (most : ℕ) → Future
lists_at s taken bytes most = future s (drop taken (take most bytes)) (nat_le (length bytes) most)

-- the same of all files that are being read
abbrev pub lists_cut : List Frame → (cuts : List ℕ) → Future
lists_cut [] cuts = []
lists_cut (f ∷ outer) [] = []
lists_cut (f ∷ outer) (m ∷ cuts) = lists_at f.source f.taken f.part.bytes m ++ lists_cut outer cuts

-- so much may be read at least as was
abbrev pub AreCut : List Frame → (cuts : List ℕ) → Type 0
AreCut [] [] = Unit {0}
AreCut (f ∷ outer) (m ∷ cuts) = (f.taken ≤ m) × AreCut outer cuts
AreCut frames cuts = ⊥

-- as much as the limit on sheets lets be read
abbrev pub shares : Limits → List Frame → List ℕ
shares limits frames = map (λ (f : Frame). share limits (as_opened f.part)) frames

-- The sheet of a name comes to what is still to be done, behind the names that were opened, in so far as these files may be read.
abbrev pub ComesTo : Limits → (name : List ℕ) → (names : List (List ℕ)) → List Frame → Progress → (cuts : List ℕ) → Type 0
ComesTo limits name names frames progress cuts =
    (reads : Reads) (others : List (Option File))
    → let files = files_cut limits frames cuts ++ others in
    SameAnswer reads files (sheet_of reads name files) (says names (remaining reads files progress (lists_cut frames cuts)))

-- However far these files may be read, so long as they may be read so far as they were.
abbrev pub GoesOn : Limits → (name : List ℕ) → (names : List (List ℕ)) → List Frame → Progress → Type 0
GoesOn limits name names frames progress = (cuts : List ℕ) → AreCut frames cuts → ComesTo limits name names frames progress cuts

-- whose nodes the list of a file holds that stands in these
abbrev pub list_of : (outer : List Frame) → Of
list_of [] = Own
list_of (f ∷ outer) = Included (length (parts_of (f ∷ outer)))

-- so many open lists of a file, of which its own is the outermost, and those around them
abbrev pub lists_onto : (n : ℕ) → (outer : List Frame) → List Of → List Of
lists_onto zero outer around = around
lists_onto (suc zero) outer around = list_of outer ∷ around
lists_onto (suc (suc n)) outer around = Element ∷ lists_onto (suc n) outer around

-- the open lists of all files that are being read
abbrev pub lists_open : List Frame → List Of
lists_open [] = []
lists_open (f ∷ outer) = lists_onto f.lists outer (lists_open outer)

-- the files that are being read, by their numbers, the innermost first
abbrev pub numbers_of : List Frame → List ℕ
numbers_of [] = []
numbers_of (f ∷ outer) = length (parts_of outer) ∷ numbers_of outer

-- an include's file counts in all files that are being read
abbrev pub grow : (size : ℕ) → List Frame → List Frame
grow size frames = map (λ (f : Frame). record f { part = record f.part { inside = f.part.inside + size } }) frames

-- the innermost file's include is known by the bytes of it that were read
abbrev pub include_known : Frame → Frame
include_known f = record f { part = record f.part { known = f.taken } }

-- all files that were read to their ends may be read to their ends
abbrev pub AllFit : Limits → List Part → Type 0
AllFit limits [] = Unit {0}
AllFit limits (p ∷ parts) = (length p.bytes ≤ share limits (as_opened p)) × AllFit limits parts

abbrev pub FitAll : Limits → List Frame → Type 0
FitAll limits [] = Unit {0}
FitAll limits (f ∷ outer) = AllFit limits f.done × FitAll limits outer
