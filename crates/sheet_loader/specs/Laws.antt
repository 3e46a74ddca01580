-- What is so of all sheets.
use Rattle.std.specs.Prelude.{◌≡◌, ℕ, List, codes, Option, Some, None}
use Rattle.stx_base.specs.Course.{Answer, Given, Over, Unknown, Gives, Ends}
use Rattle.stx_base.specs.declared.limits.Limits.{Limits}
use Rattle.stx_base.specs.declared.name.Attr.{Attr}
use Rattle.stx_base.specs.declared.name.Binding.{Binding}
use Rattle.stxpath_syntax.specs.declared.dialect.Dialect.{Dialect}
use Rattle.sheet_loader.specs.Files.{Documents, load, nodes_within, old_load}
use Rattle.sheet_loader.specs.Load.{outcome, sheet_of}
use Rattle.sheet_loader.specs.Read.{code_of_job}
use Rattle.sheet_loader.specs.Reading.{Ending, File, Listed}
use Rattle.sheet_loader.specs.Tags.{text_at}
use Rattle.sheet_loader.specs.Values.{Reads}
use Rattle.sheet_loader.specs.Versions.{root_attrs}

-- the reading of a sheet's files comes to this: it gives a sheet, or it ends without one
abbrev pub Comes : Reads → (name : List ℕ) → List (Option File) → Answer Listed (List ℕ) Ending → Type 0
Comes reads name files (Given names r) = Gives (code_of_job reads files) (sheet_of reads name files) names r
Comes reads name files (Over names e) = Ends (code_of_job reads files) (sheet_of reads name files) names e
Comes reads name files (Unknown names) = ⊥

-- Files come to what `outcome` says, and to nothing else.
abbrev pub ComesToOne : Type 0
ComesToOne =
    (reads : Reads) (name : List ℕ) (files : List (Option File))
    → Comes reads name files (outcome reads name files)
    × ((answer : Answer Listed (List ℕ) Ending) → Comes reads name files answer → answer ≡ outcome reads name files)

-- the root, if it is known, names version 1.0
abbrev pub SaysOne : Option (List Attr) → Type 0
SaysOne None = Unit {0}
SaysOne (Some attrs) = text_at attrs (codes "version") ≡ Some (codes "1.0")

-- each document, however much of it is read, is of version 1.0
abbrev pub AllSayOne : Limits → Documents → Type 0
AllSayOne limits docs =
    (name bytes : List ℕ) (most : ℕ) → docs name ≡ Some bytes → SaysOne (root_attrs (nodes_within limits bytes most))

-- A sheet all of whose files are of version 1.0 comes to what it came to before there was version 1.1.
abbrev pub LoadsAsBefore : Type 0
LoadsAsBefore =
    (reads : Reads) (limits : Limits) (docs : Documents) (name : List ℕ)
    → AllSayOne limits docs
    → load reads limits docs name ≡ old_load reads limits docs name

-- Texts of the path language are read in one way: there is such a record of readings, and all of them agree.
abbrev pub ReadsInOneWay : Type 0
ReadsInOneWay =
    Reads
    × ((a b : Reads) (dialect : Dialect) (scope : List Binding) (text : List ℕ)
    → (a.expression dialect scope text ≡ b.expression dialect scope text)
    × (a.pattern dialect scope text ≡ b.pattern dialect scope text)
    × (a.template dialect scope text ≡ b.template dialect scope text))
