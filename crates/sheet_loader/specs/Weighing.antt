-- What the files of a sheet weigh, and that the sheet has few entries beside that.
use Rattle.std.specs.Prelude.{ℕ, ◌+◌, ◌*◌, ◌≤◌, Bool, false, List, ◌∷◌, Option, Some, None, length, sum_by}
use Rattle.stx_base.specs.Course.{Gives}
use Rattle.stx_base.specs.declared.limits.Limits.{Limits}
use Rattle.stx_base.specs.declared.name.Attr.{Attr}
use Rattle.sheet_model.specs.Entries.{entries}
use Rattle.xml_events.specs.Document.{doc}
use Rattle.xml_events.specs.Tree.{Forest, Element, End, Cut, Single, Nested}
use Rattle.sheet_loader.specs.Load.{sheet_of}
use Rattle.sheet_loader.specs.Read.{code_of_job}
use Rattle.sheet_loader.specs.Reading.{File, Listed}
use Rattle.sheet_loader.specs.Values.{Reads}

-- an element without its list, with the characters of its attributes' values
abbrev pub tag_weight : Element → ℕ
tag_weight e = 1 + sum_by (λ (a : Attr). length a.value + 1) e.attrs

-- a list: its nodes, and those within them
abbrev pub weight : Forest → ℕ
weight (End mark offset) = 0
weight (Cut why) = 0
weight (Single mark leaf next) = 1 + weight next
weight (Nested stage e kids next) = tag_weight e + weight kids + weight next

abbrev pub file_weight : Option File → ℕ
file_weight None = 0
file_weight (Some file) = weight file.nodes

abbrev pub files_weight : List (Option File) → ℕ
files_weight files = sum_by file_weight files

-- A sheet that is given has no more entries than three times what its files weigh, and one.
abbrev pub GivenIsFew : Type 0
GivenIsFew =
    (reads : Reads) (name : List ℕ) (file : File) (others : List (Option File)) (names : List (List ℕ)) (r : Listed)
    → Gives (code_of_job reads (Some file ∷ others)) (sheet_of reads name (Some file ∷ others)) names r
    → entries r.loading.sheet ≤ 1 + 3 * files_weight (Some file ∷ others)

-- A document weighs no more than it has bytes.
abbrev pub DocumentsWeighLittle : Type 0
DocumentsWeighLittle = (limits : Limits) (bytes : List ℕ) (ended : Bool) → weight (doc limits false bytes ended) ≤ length bytes
