-- Small sheets and what they come to, whatever texts of the path language are read as, since they have none.
use Rattle.std.specs.Prelude.{◌≡◌, ℕ, List, [], ◌∷◌, map, Option, Some, None, codes}
use Rattle.stx_base.specs.Course.{Answer, Given, Over, Unknown}
use Rattle.stx_base.specs.declared.fault.SheetCode.{SheetCode}
use Rattle.stx_base.specs.declared.fault.SheetCode.TheVariants as code
use Rattle.stx_base.specs.declared.name.Attr.{Attr}
use Rattle.stx_base.specs.declared.node.First.TheVariants as first
use Rattle.xml_events.specs.Tree.{Forest, End, Cut, Single, Nested, Chars, Told, Ready, Need, Waiting}
use Rattle.sheet_loader.specs.Elements.{stx_uri}
use Rattle.sheet_loader.specs.Load.{outcome}
use Rattle.sheet_loader.specs.Reading.{File, Ending, Refused, Wants, Unfinished, Listed}
use Rattle.sheet_loader.specs.Values.{Reads}
use Rattle.sheet_loader.specs.Versions.{language, version_of}

abbrev pub attr : (name value : List ℕ) → Attr
attr name value = record { name = record { uri = []; local = name; prefix = [] }; value = value }

-- an element of the language at a place, what is in it, and what stands behind it
abbrev pub stx : (offset : ℕ) → (local : List ℕ) → List Attr → (kids next : Forest) → Forest
stx offset local attrs kids next =
    Nested (Ready first.Other) (record { offset = offset; name = record { uri = stx_uri; local = local; prefix = codes "stx" }; attrs = attrs; decls = [] }) kids next

abbrev pub literal : (offset : ℕ) → (local : List ℕ) → (kids next : Forest) → Forest
literal offset local kids next =
    Nested (Ready first.Other) (record { offset = offset; name = record { uri = []; local = local; prefix = [] }; attrs = []; decls = [] }) kids next

abbrev pub end : Forest
end = End Told 0

abbrev pub text : (offset : ℕ) → List ℕ → (next : Forest) → Forest
text offset content next = Single Told (Chars offset content) next

-- an element with a name
abbrev pub named : (offset : ℕ) → (local name : List ℕ) → (kids next : Forest) → Forest
named offset local name kids next = stx offset local (attr (codes "name") name ∷ []) kids next

abbrev pub sheet : (version : List ℕ) → List Attr → Forest → Forest
sheet version attrs kids = stx 0 (codes "transform") (attr (codes "version") version ∷ attrs) kids end

abbrev pub include : (offset : ℕ) → (href : List ℕ) → (next : Forest) → Forest
include offset href next = stx offset (codes "include") (attr (codes "href") href ∷ []) end next

-- the sheet is accepted, or has a fault in a file at a byte, or wants a file, or more of one; before it the names that are opened
pub data What : Type 0 where
  Accepted : List (List ℕ) → What
  Fault : List (List ℕ) → (file offset : ℕ) → SheetCode → What
  Opens : List (List ℕ) → (name : List ℕ) → What
  More : List (List ℕ) → What

abbrev pub what : Answer Listed (List ℕ) Ending → What
what (Given names r) = Accepted names
what (Over names (Refused at why)) = Fault names at.file at.offset why
what (Over names (Wants numbers name)) = Opens names name
what (Over names Unfinished) = More names
what (Unknown names) = More names

abbrev pub file_of : Forest → Option File
file_of f = Some (record { version = version_of language f; nodes = f; limit = None })

abbrev pub files_come : List Forest → What → Type 0
files_come files w = (reads : Reads) → what (outcome reads (codes "s") (map file_of files)) ≡ w

-- one file
abbrev pub comes : Forest → What → Type 0
comes nodes w = files_come (nodes ∷ []) w

abbrev pub fault : (offset : ℕ) → SheetCode → What
fault offset why = Fault (codes "s" ∷ []) 0 offset why

abbrev pub accepted : What
accepted = Accepted (codes "s" ∷ [])

-- a sheet of version 1.0
abbrev pub one : Forest → Forest
one kids = sheet (codes "1.0") [] kids

abbrev pub Empty : Type 0
Empty = comes (one end) accepted

abbrev pub NoTransform : Type 0
NoTransform = comes (literal 0 (codes "x") end end) (fault 0 code.NotStx)

abbrev pub NoElement : Type 0
NoElement = comes (one (stx 76 (codes "foo") [] end end)) (fault 76 code.UnknownElement)

abbrev pub OutOfPlace : Type 0
OutOfPlace = comes (one (stx 76 (codes "text") [] end end)) (fault 76 code.Misplaced)

-- a text stands at the element around it
abbrev pub TextOutOfPlace : Type 0
TextOutOfPlace = comes (one (stx 76 (codes "group") [] (text 87 (codes "x") end) end)) (fault 76 code.Misplaced)

abbrev pub SpaceInPlace : Type 0
SpaceInPlace = comes (one (stx 76 (codes "group") [] (text 87 (codes " ") end) end)) accepted

-- of two codes at one tag the first in the order of the codes comes
abbrev pub UnknownBeforeMissing : Type 0
UnknownBeforeMissing = comes (one (stx 76 (codes "procedure") (attr (codes "nam") (codes "1") ∷ []) end end)) (fault 76 code.UnknownAttribute)

abbrev pub Missing : Type 0
Missing = comes (one (stx 76 (codes "procedure") [] end end)) (fault 76 code.MissingAttribute)

abbrev pub NoName : Type 0
NoName = comes (one (named 76 (codes "procedure") (codes "1") end end)) (fault 76 code.BadValue)

abbrev pub OtherVersion : Type 0
OtherVersion = comes (sheet (codes "2.0") [] end) (fault 0 code.Version)

-- in version 1.0 no kinds are passed through
abbrev pub Kinds : Type 0
Kinds =
    comes (sheet (codes "1.0") (attr (codes "pass-through") (codes "elements text") ∷ []) end) (fault 0 code.BadValue)
    × comes (sheet (codes "1.1") (attr (codes "pass-through") (codes "elements text") ∷ []) end) accepted
    × comes (sheet (codes "1.1") (attr (codes "pass-through") (codes "text text") ∷ []) end) (fault 0 code.BadValue)

-- where the version is wrong, what version 1.1 has is known
abbrev pub Sections : Type 0
Sections =
    comes (sheet (codes "1.0") (attr (codes "recognize-cdata") (codes "yes") ∷ []) end) (fault 0 code.UnknownAttribute)
    × comes (sheet (codes "2.0") (attr (codes "recognize-cdata") (codes "yes") ∷ []) end) (fault 0 code.Version)

-- a name stands once in each group
abbrev pub Again : Type 0
Again =
    comes (one (named 76 (codes "buffer") (codes "b") end (named 99 (codes "buffer") (codes "b") end end))) (fault 99 code.DuplicateName)
    × comes (one (named 76 (codes "buffer") (codes "b") end (stx 99 (codes "group") [] (named 110 (codes "buffer") (codes "b") end end) end))) accepted

-- a choose without a when shows at its end
abbrev pub NoBranch : Type 0
NoBranch =
    comes (one (named 76 (codes "procedure") (codes "p") (stx 100 (codes "choose") [] end end) end)) (fault 100 code.Misplaced)
    × comes (one (named 76 (codes "procedure") (codes "p")
    (stx 100 (codes "choose") [] (stx 112 (codes "otherwise") [] (stx 127 (codes "foo") [] end end) end) end) end)) (fault 127 code.UnknownElement)

-- references are looked for in the whole sheet, and only where there is no other fault
abbrev pub Lost : Type 0
Lost =
    comes (one (named 76 (codes "procedure") (codes "p") (named 100 (codes "call-procedure") (codes "q") end end) end)) (fault 100 code.NoProcedure)
    × comes (one (named 76 (codes "procedure") (codes "p") (named 100 (codes "call-procedure") (codes "q") end end)
    (named 140 (codes "procedure") (codes "q") end end))) accepted
    × comes (one (named 76 (codes "procedure") (codes "p") (named 100 (codes "call-procedure") (codes "q") end end)
    (stx 140 (codes "foo") [] end end))) (fault 140 code.UnknownElement)

-- a file that includes itself, one that is not known yet, and one that is absent
abbrev pub Includes : Type 0
Includes =
    comes (one (include 76 (codes "s") end)) (fault 76 code.IncludeLoop)
    × comes (one (include 76 (codes "t") end)) (Opens (codes "s" ∷ codes "t" ∷ []) (codes "t"))
    × ((reads : Reads)
    → what (outcome reads (codes "s") (file_of (one (include 76 (codes "t") end)) ∷ None ∷ []))
    ≡ Fault (codes "s" ∷ codes "t" ∷ []) 0 76 code.NoDocument)

-- a parameter of an included file has no place
abbrev pub Included : Type 0
Included =
    files_come (one (include 76 (codes "t") end) ∷ one (named 76 (codes "param") (codes "p") end end) ∷ [])
    (Fault (codes "s" ∷ codes "t" ∷ []) 1 76 code.Misplaced)
    × files_come (one (include 76 (codes "t") (include 105 (codes "t") end)) ∷ one end ∷ one end ∷ [])
    (Accepted (codes "s" ∷ codes "t" ∷ codes "t" ∷ []))

-- of an element nothing is known before its first child or its end
abbrev pub Waits : Type 0
Waits =
    comes (one (Nested Waiting (record { offset = 76; name = record { uri = stx_uri; local = codes "foo"; prefix = [] }; attrs = []; decls = [] }) (Cut Need) (Cut Need)))
    (More (codes "s" ∷ []))
