-- Small sheets that stop, or try where they would, and what they come to.
use Rattle.std.specs.Prelude.{◌≡◌, ℕ, pos, true, false, if◌then◌else◌, bytes_eq, List, [], ◌∷◌, ◌++◌, Some, None, codes}
use Rattle.stx_base.specs.Course.{Over}
use Rattle.stx_base.specs.declared.fault.RunCode.TheVariants as code
use Rattle.stx_base.specs.declared.fault.XmlFault.{XmlFault}
use Rattle.stx_base.specs.declared.fault.XmlKind.TheVariants as xml
use Rattle.stx_base.specs.declared.part.Part.{Part}
use Rattle.stx_base.specs.declared.part.Part.TheVariants as part
use Rattle.sheet_model.specs.declared.instr.Content.TheVariants as content
use Rattle.sheet_model.specs.declared.instr.Instr.TheVariants as i
use Rattle.sheet_model.specs.declared.pass.Pass.TheVariants as pass
use Rattle.sheet_model.specs.declared.sheet.Buffer.{Buffer}
use Rattle.sheet_model.specs.declared.sheet.Sheet.{Sheet}
use Rattle.sheet_model.specs.declared.sheet.Visibility.TheVariants as visibility
use Rattle.xml_events.specs.Tree as tree
use Rattle.xml_events.specs.Tree.{Need, Bad, Fresh, Forest, Cut, Single}
use Rattle.template_machine.specs.Ending.{Put, Open, Done, Spent, fault_at, Malformed, Needs}
use Rattle.template_machine.specs.Examples.{Gives, Stops, at, chars, element, end, handed, limits, literal, name, named, none, plain, root, sheet, start, template}
use Rattle.template_machine.specs.Job.{Given}
use Rattle.template_machine.specs.Outcome.{outcome}
use Rattle.template_machine.specs.Rows.{bare, empty}

-- a buffer of the root group
abbrev pub buffer : List ℕ → List Part → Buffer
buffer local content = record { group = 0; name = name local; content = content; at = at 0 }

-- the parts of an element without nodes in it
abbrev pub empty_parts : List ℕ → List Part
empty_parts local = part.Start (name local) [] ∷ part.End (name local) ∷ []

-- a buffer that is read can't be written
abbrev pub busy : Sheet
busy =
    record (sheet pass.None
    (template root (i.ProcessBuffer (name (codes "b")) None [] (at 7) ∷ []) ∷ template (named (codes "i")) (i.ResultBuffer (name (codes "b")) false [] (at 8) ∷ []) ∷ []))
    { buffers = buffer (codes "b") (empty_parts (codes "i")) ∷ [] }

abbrev pub Busy : Type 0
Busy = Stops busy (bare (codes "a") none) [] (fault_at code.BufferBusy (at 8))

-- parts go to the copy that is open, and not to a newer one
abbrev pub open_copy : Sheet
open_copy =
    record (sheet pass.All
    (template root (i.ResultBuffer (name (codes "b")) false (i.ProcessChildren None [] (at 7) ∷ []) (at 8) ∷ i.ProcessBuffer (name (codes "b")) None [] (at 9) ∷ [])
    ∷ record (template (named (codes "a")) (literal (codes "k") [] ∷ [])) { new_scope = true } ∷ []))
    { buffers = buffer (codes "b") [] ∷ [] }

abbrev pub OpenCopy : Type 0
OpenCopy = Gives open_copy (bare (codes "a") none) (empty (codes "k"))

-- regions within regions are instances of one level, which may have five
abbrev pub crowded : Sheet
crowded = sheet pass.None (template (named (codes "x")) (literal (codes "r") (i.ProcessSiblings None None None [] (at 7) ∷ []) ∷ []) ∷ [])

abbrev pub x : Forest → Forest
x next = bare (codes "x") next

abbrev pub Crowded : Type 0
Crowded =
    Stops crowded (x (x (x (x (x (x none))))))
    (start (codes "r") ∷ start (codes "r") ∷ start (codes "r") ∷ start (codes "r") ∷ start (codes "r") ∷ []) (fault_at code.Instances (at 7))

-- starts and ends that templates of several nodes put
abbrev pub parted : Sheet
parted =
    sheet pass.Chars
    (template (named (codes "b")) (i.StartElement (plain (codes "s")) None [] (at 7) ∷ [])
    ∷ template (named (codes "e")) (i.EndElement (plain (codes "s")) None [] (at 8) ∷ []) ∷ [])

abbrev pub Parted : Type 0
Parted =
    Gives parted (bare (codes "b") (Single Fresh (tree.Chars 0 (codes "x")) (bare (codes "e") none)))
    (start (codes "s") ∷ chars (codes "x") ∷ end (codes "s") ∷ [])

abbrev pub LeftOpen : Type 0
LeftOpen = Stops parted (bare (codes "b") none) (start (codes "s") ∷ []) (fault_at code.UnclosedResult (at 0))

abbrev pub Unmatched : Type 0
Unmatched = Stops parted (bare (codes "e") none) [] (fault_at code.UnmatchedEnd (at 8))

-- an attribute behind a text
abbrev pub late : Sheet
late =
    sheet pass.None
    (template root (literal (codes "r") (i.LiteralChars (codes "x") (at 7) ∷ i.Attribute (plain (codes "y")) None [] (content.Chars (codes "1")) (at 8) ∷ []) ∷ []) ∷ [])

abbrev pub Late : Type 0
Late = Stops late (bare (codes "a") none) (start (codes "r") ∷ chars (codes "x") ∷ []) (fault_at code.LateAttribute (at 8))

-- another document, of which the nodes are passed through, and one that is absent
abbrev pub other : Sheet
other = sheet pass.All (template (named (codes "a")) (i.ProcessDocument (plain (codes "o")) None [] (at 7) ∷ []) ∷ [])

abbrev pub with_document : Forest → Given
with_document list = record (handed other) { documents = λ wanted. if bytes_eq wanted (codes "o") then Some list else None }

abbrev pub OtherDocument : Type 0
OtherDocument =
    outcome (with_document (element (codes "z") [] (Single Fresh (tree.Chars 0 (codes "1")) none) none)) (bare (codes "a") none)
    ≡ Over (Open (codes "o") ∷ start (codes "z") ∷ chars (codes "1") ∷ end (codes "z") ∷ []) Done

abbrev pub NoDocument : Type 0
NoDocument = Stops other (bare (codes "a") none) (Open (codes "o") ∷ []) (fault_at code.NoDocument (at 7))

-- one unit of fuel for two literal elements
abbrev pub short : Sheet
short = sheet pass.None (template (named (codes "a")) (i.Literal (name (codes "p")) [] [] (at 7) ∷ i.Literal (name (codes "q")) [] [] (at 8) ∷ []) ∷ [])

abbrev pub Short : Type 0
Short = outcome (record (handed short) { limits = record limits { fuel = 1 } }) (bare (codes "a") none) ≡ Over (empty (codes "p")) (Spent (at 8))

-- a template of the base group before one of another group, whatever their priorities
abbrev pub categories : Sheet
categories =
    record (sheet pass.None []) {
      groups = record { parent = None; name = None; pass = pass.None; at = at 0 } ∷ record { parent = Some 0; name = None; pass = pass.None; at = at 1 } ∷ [];
      templates =
          record (template (named (codes "a")) (literal (codes "p") [] ∷ [])) { group = 1; visibility = visibility.Global; priority = Some (pos 500) }
          ∷ template (named (codes "a")) (literal (codes "q") [] ∷ []) ∷ [];
    }

abbrev pub Categories : Type 0
Categories = Gives categories (bare (codes "a") none) (empty (codes "q"))

-- siblings as long as they fit a pattern
abbrev pub going : Sheet
going =
    sheet pass.None
    (template (named (codes "h")) (literal (codes "s") (i.ProcessSiblings (Some (named (codes "p"))) None None [] (at 7) ∷ []) ∷ [])
    ∷ template (named (codes "p")) (literal (codes "q") [] ∷ []) ∷ [])

abbrev pub Going : Type 0
Going =
    Gives going (bare (codes "h") (bare (codes "p") (bare (codes "x") (bare (codes "p") none))))
    (start (codes "s") ∷ (empty (codes "q") ++ end (codes "s") ∷ empty (codes "q")))

-- a sibling that ends an outer region ends the inner one too
abbrev pub outermost : Sheet
outermost =
    sheet pass.None
    (template (named (codes "h")) (literal (codes "s") (i.ProcessSiblings None (Some (named (codes "h"))) None [] (at 7) ∷ []) ∷ [])
    ∷ template (named (codes "k")) (literal (codes "u") (i.ProcessSiblings None (Some (named (codes "k"))) None [] (at 8) ∷ []) ∷ [])
    ∷ template (named (codes "p")) (literal (codes "q") [] ∷ []) ∷ [])

abbrev pub Outermost : Type 0
Outermost =
    Gives outermost (bare (codes "h") (bare (codes "k") (bare (codes "p") (bare (codes "h") (bare (codes "p") none)))))
    (start (codes "s") ∷ start (codes "u") ∷ (empty (codes "q") ++ (end (codes "u") ∷ end (codes "s") ∷ start (codes "s") ∷ (empty (codes "q") ++ end (codes "s") ∷ []))))

-- elements and texts are passed through, and neither attributes nor comments
abbrev pub by_kinds : Sheet
by_kinds =
    sheet (pass.Kinds (record { elements = true; text = true; cdata = false; comments = false; instructions = false; attributes = false })) []

abbrev pub ByKinds : Type 0
ByKinds =
    Gives by_kinds
    (element (codes "a") (record { name = name (codes "b"); value = codes "1" } ∷ [])
    (Single Fresh (tree.Comment 0 (codes "c")) (Single Fresh (tree.Chars 0 (codes "x")) (Single Fresh (tree.CData 0 (codes "y")) none))) none)
    (start (codes "a") ∷ chars (codes "x") ∷ Put (part.CData (codes "y")) ∷ end (codes "a") ∷ [])

-- a node that is passed through once its children are gone: its start is put before that shows
abbrev pub gone : Sheet
gone = sheet pass.All (template (named (codes "a")) (i.ProcessChildren None [] (at 7) ∷ i.ProcessSelf None [] (at 8) ∷ []) ∷ [])

abbrev pub Gone : Type 0
Gone = Stops gone (bare (codes "a") none) (start (codes "a") ∷ []) (fault_at code.ChildrenTwice (at 8))

-- each node of the main document renews the fuel
abbrev pub renewed : Sheet
renewed = sheet pass.None (template (named (codes "b")) (literal (codes "p") [] ∷ []) ∷ [])

abbrev pub Renewed : Type 0
Renewed =
    outcome (record (handed renewed) { limits = record limits { fuel = 1 } }) (bare (codes "b") (bare (codes "b") none))
    ≡ Over (empty (codes "p") ++ empty (codes "p")) Done

-- each node of a buffer costs a unit, at the instruction that reads the buffer
abbrev pub read : Sheet
read =
    record (sheet pass.None (template root (i.ProcessBuffer (name (codes "b")) None [] (at 7) ∷ []) ∷ []))
    { buffers = buffer (codes "b") (empty_parts (codes "i") ++ empty_parts (codes "i")) ∷ [] }

abbrev pub ReadSpent : Type 0
ReadSpent = outcome (record (handed read) { limits = record limits { fuel = 2 } }) (bare (codes "a") none) ≡ Over [] (Spent (at 7))

-- a buffer that would hold too much: an element of one letter weighs three
abbrev pub full : Sheet
full =
    record (sheet pass.None
    (template root (i.ResultBuffer (name (codes "b")) false (literal (codes "i") [] ∷ i.Literal (name (codes "i")) [] [] (at 8) ∷ []) (at 7) ∷ []) ∷ []))
    { buffers = buffer (codes "b") [] ∷ [] }

abbrev pub Full : Type 0
Full = outcome (record (handed full) { limits = record limits { buffer = 3 } }) (bare (codes "a") none) ≡ Over [] (fault_at code.BufferFull (at 8))

-- buffers that are read within one another
abbrev pub sources : Sheet
sources =
    record (sheet pass.None
    (template root (i.ProcessBuffer (name (codes "b")) None [] (at 7) ∷ [])
    ∷ template (named (codes "i")) (i.ProcessBuffer (name (codes "c")) None [] (at 8) ∷ []) ∷ []))
    { buffers = buffer (codes "b") (empty_parts (codes "i")) ∷ buffer (codes "c") (empty_parts (codes "j")) ∷ [] }

abbrev pub TooManySources : Type 0
TooManySources =
    outcome (record (handed sources) { limits = record limits { sources = 1 } }) (bare (codes "a") none) ≡ Over [] (fault_at code.TooManySources (at 8))

abbrev pub EnoughSources : Type 0
EnoughSources = outcome (record (handed sources) { limits = record limits { sources = 2 } }) (bare (codes "a") none) ≡ Over [] Done

-- children that a template leaves are passed over, each for a unit in a buffer
abbrev pub left : Sheet
left =
    record (sheet pass.None
    (template root (i.ProcessBuffer (name (codes "b")) None [] (at 7) ∷ []) ∷ template (named (codes "i")) (literal (codes "p") [] ∷ []) ∷ []))
    { buffers = buffer (codes "b") (part.Start (name (codes "i")) [] ∷ (empty_parts (codes "j") ++ part.End (name (codes "i")) ∷ [])) ∷ [] }

abbrev pub PassedOver : Type 0
PassedOver =
    (outcome (record (handed left) { limits = record limits { fuel = 3 } }) (bare (codes "a") none) ≡ Over (empty (codes "p")) (Spent (at 7)))
    × (outcome (record (handed left) { limits = record limits { fuel = 4 } }) (bare (codes "a") none) ≡ Over (empty (codes "p")) Done)

-- a document of which only the front is known: an element whose list is a cut alone isn't begun
abbrev pub all : Sheet
all = sheet pass.All []

abbrev pub Waits : Type 0
Waits =
    Stops all (element (codes "a") [] (element (codes "b") [] (Cut Need) (Cut Need)) (Cut Need)) (start (codes "a") ∷ []) Needs

-- and one with a fault
abbrev pub fault : XmlFault
fault = record { kind = xml.Mismatch; offset = 6 }

abbrev pub Broken : Type 0
Broken = Stops all (element (codes "a") [] (bare (codes "b") (Cut (Bad fault))) (Cut (Bad fault))) (start (codes "a") ∷ empty (codes "b")) (Malformed None fault)

-- in another document, the fault is that document's
abbrev pub BrokenOther : Type 0
BrokenOther =
    outcome (with_document (element (codes "z") [] (Cut (Bad fault)) (Cut (Bad fault)))) (bare (codes "a") none)
    ≡ Over (Open (codes "o") ∷ []) (Malformed (Some (codes "o")) fault)
