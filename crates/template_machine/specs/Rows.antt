-- What small sheets make of small documents.
use Rattle.std.specs.Prelude.{ℕ, pos, false, List, [], ◌∷◌, ◌++◌, Some, None, codes}
use Rattle.stx_base.specs.declared.fault.RunCode.TheVariants as code
use Rattle.stx_base.specs.declared.node.NodeTest.TheVariants as test
use Rattle.stx_base.specs.declared.part.Part.TheVariants as part
use Rattle.sheet_model.specs.declared.instr.Content.TheVariants as content
use Rattle.sheet_model.specs.declared.instr.Instr.TheVariants as i
use Rattle.sheet_model.specs.declared.pass.Pass.TheVariants as pass
use Rattle.sheet_model.specs.declared.sheet.Sheet.{Sheet}
use Rattle.xml_events.specs.Tree.{Forest}
use Rattle.template_machine.specs.Ending.{Said, Put, fault_at}
use Rattle.template_machine.specs.Examples.{Gives, Stops, a_step, at, chars, element, end, literal, name, named, none, plain, process_children, root, self, sheet, showing, start, template, var, whole}

-- an element of a result without nodes in it
abbrev pub empty : List ℕ → List Said
empty local = start local ∷ end local ∷ []

-- an element without attributes and nodes in it, before others
abbrev pub bare : List ℕ → Forest → Forest
bare local next = element local [] none next

-- of two equal templates the last one is chosen
abbrev pub last_of_two : Sheet
last_of_two = sheet pass.None (template (named (codes "a")) (literal (codes "p") [] ∷ []) ∷ template (named (codes "a")) (literal (codes "q") [] ∷ []) ∷ [])

abbrev pub LastOfTwo : Type 0
LastOfTwo = Gives last_of_two (bare (codes "a") none) (empty (codes "q"))

-- siblings are processed up to the next head, which the next region takes
abbrev pub sections : Sheet
sections =
    sheet pass.None
    (template (named (codes "h")) (literal (codes "s") (i.ProcessSiblings None (Some (named (codes "h"))) None [] (at 7) ∷ []) ∷ [])
    ∷ template (named (codes "p")) (literal (codes "q") [] ∷ []) ∷ [])

abbrev pub Sections : Type 0
Sections =
    Gives sections
    (element (codes "d") [] (bare (codes "h") (bare (codes "p") (bare (codes "p") (bare (codes "h") (bare (codes "p") none))))) none)
    (start (codes "s") ∷ (empty (codes "q") ++ (empty (codes "q") ++ (end (codes "s") ∷ start (codes "s") ∷ (empty (codes "q") ++ end (codes "s") ∷ [])))))

-- a region within a region, on one level
abbrev pub nested : Sheet
nested = sheet pass.None (template (named (codes "x")) (literal (codes "r") (i.ProcessSiblings None None None [] (at 7) ∷ []) ∷ []) ∷ [])

abbrev pub Nested : Type 0
Nested =
    Gives nested (element (codes "d") [] (bare (codes "x") (bare (codes "x") none)) none)
    (start (codes "r") ∷ (empty (codes "r") ++ end (codes "r") ∷ []))

-- the next template of a node, and another node within it
abbrev pub again : Sheet
again =
    sheet pass.None
    (record (template (named (codes "a")) (literal (codes "x") (i.ProcessSelf None [] (at 7) ∷ []) ∷ [])) { priority = Some (pos 100) }
    ∷ template (a_step test.AnyElement) (literal (codes "y") (process_children 8 ∷ []) ∷ []) ∷ [])

abbrev pub Again : Type 0
Again =
    Gives again (element (codes "a") [] (bare (codes "b") none) none)
    (start (codes "x") ∷ start (codes "y") ∷ (empty (codes "y") ++ (end (codes "y") ∷ end (codes "x") ∷ [])))

-- children are processed once
abbrev pub twice : Sheet
twice = sheet pass.None (template (named (codes "a")) (process_children 7 ∷ process_children 8 ∷ []) ∷ [])

abbrev pub Twice : Type 0
Twice = Stops twice (bare (codes "a") none) [] (fault_at code.ChildrenTwice (at 8))

-- attributes one after another, each with its template or passed through
abbrev pub attributes : Sheet
attributes =
    sheet pass.All
    (template (named (codes "a")) (literal (codes "r") (i.ProcessAttributes None [] (at 7) ∷ []) ∷ [])
    ∷ template (a_step (test.AttrName (name (codes "x")))) (i.Attribute (plain (codes "y")) None [] (content.Select self) (at 8) ∷ []) ∷ [])

abbrev pub Attributes : Type 0
Attributes =
    Gives attributes
    (element (codes "a") (record { name = name (codes "w"); value = codes "1" } ∷ record { name = name (codes "x"); value = codes "2" } ∷ []) none none)
    (start (codes "r") ∷ Put (part.Attribute (name (codes "w")) (codes "1")) ∷ Put (part.Attribute (name (codes "y")) (codes "2")) ∷ end (codes "r") ∷ [])

-- an element of a result that shows a value
abbrev pub shows : (local value : List ℕ) → List Said
shows local value = start local ∷ Put (part.Attribute (name (codes "v")) value) ∷ end local ∷ []

-- a variable of the root group that has another value, and a local that is an item
abbrev pub assigned : Sheet
assigned =
    record (sheet pass.None (template root (i.Assign (name (codes "n")) (whole 1) (at 7) ∷ showing (codes "i") (var (codes "n")) ∷ []) ∷ []))
    { variables = record { group = 0; name = name (codes "n"); select = None; keep = false; param = false; at = at 0 } ∷ [] }

abbrev pub Assigned : Type 0
Assigned = Gives assigned (bare (codes "a") none) (shows (codes "i") (codes "1"))

abbrev pub each_item : Sheet
each_item =
    sheet pass.None (template root (i.ForEachItem (name (codes "k")) (whole 1) (showing (codes "i") (var (codes "k")) ∷ []) (at 7) ∷ []) ∷ [])

abbrev pub EachItem : Type 0
EachItem = Gives each_item (bare (codes "a") none) (shows (codes "i") (codes "1"))

-- what is put into a buffer can be processed twice
abbrev pub buffered : Sheet
buffered =
    record (sheet pass.All
    (template root (
    i.ResultBuffer (name (codes "b")) false (literal (codes "i") (i.LiteralChars (codes "1") (at 0) ∷ []) ∷ literal (codes "i") (i.LiteralChars (codes "2") (at 0) ∷ []) ∷ []) (at 7)
    ∷ i.ProcessBuffer (name (codes "b")) None [] (at 8) ∷ i.ProcessBuffer (name (codes "b")) None [] (at 9) ∷ []) ∷ []))
    { buffers = record { group = 0; name = name (codes "b"); content = []; at = at 0 } ∷ [] }

abbrev pub both : List Said
both =
    start (codes "i") ∷ chars (codes "1") ∷ end (codes "i") ∷ start (codes "i") ∷ chars (codes "2") ∷ end (codes "i") ∷ []

abbrev pub Buffered : Type 0
Buffered = Gives buffered (bare (codes "a") none) (both ++ both)
