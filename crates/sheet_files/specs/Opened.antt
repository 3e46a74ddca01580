-- The files that were opened, as far as they came.
use Rattle.std.specs.Prelude.{◌≡◌, ℕ, List, [], ◌∷◌, ◌++◌, map, Option, Some, None}
use Rattle.std.specs.Option.{option_and_then}
use Rattle.stx_host.specs.Outside.{Outside, place}
use Rattle.stx_host.specs.declared.act.Doc.{Doc}
use Rattle.sheet_loader.specs.Files.{Documents}

-- how far a file came: it is absent, it was read to its end, or these are its first bytes
pub data Came : Type 0 where
  Absent : Came
  Whole : (bytes : List ℕ) → Came
  Begun : (bytes : List ℕ) → Came

pub record Seen : Type 0 where
  pub name : List ℕ
  pub came : Came

abbrev pub names_in : List Seen → List (List ℕ)
names_in files = map (λ (f : Seen). f.name) files

-- a document, or its absence, is what came
abbrev pub IsOf : (document : Option (List ℕ)) → Came → Type 0
IsOf document Absent = document ≡ None
IsOf document (Whole bytes) = document ≡ Some bytes
IsOf document (Begun bytes) = (rest : List ℕ) × (document ≡ Some (bytes ++ rest))

-- these are files of these documents
abbrev pub AreOf : Documents → List Seen → Type 0
AreOf docs [] = Unit {0}
AreOf docs (f ∷ files) = IsOf (docs f.name) f.came × AreOf docs files

-- a file that was read to its end
abbrev pub whole : Doc → Seen
whole doc = record { name = doc.name; came = Whole doc.bytes }

-- The documents, of a host that tells them and which ids are open: else an id that is given twice might stand for either of two files.
abbrev pub documents_told : Outside → Option (List Doc)
documents_told o = option_and_then (λ ids. o.documents) o.open_ids

-- the places of documents, as far as they are told
abbrev pub place_told : Outside → List ℕ → Option ℕ
place_told start name = option_and_then (λ docs. place docs name) start.documents

abbrev pub places : Outside → List (List ℕ) → List (Option ℕ)
places start names = map (place_told start) names
