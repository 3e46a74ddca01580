-- What a sheet without templates makes of a whole document, by each pass-through that has a name.
use Rattle.sheet_model.specs.Passing.{kinds}
use Rattle.std.specs.Prelude.{◌≡◌, ℕ, List, [], ◌∷◌, ◌++◌, encode_utf8_all}
use Rattle.stx_base.specs.Course.{Ends}
use Rattle.stx_base.specs.declared.name.Binding.{Binding}
use Rattle.stx_base.specs.declared.part.Part.{Part}
use Rattle.stx_base.specs.declared.part.Part.TheVariants as part
use Rattle.result_writer.specs.Escape.{escaped}
use Rattle.result_writer.specs.Nodes as nodes
use Rattle.result_writer.specs.Nodes.{Nodes, parts_of, written}
use Rattle.result_writer.specs.Target.{cdata_text, text as written_parts}
use Rattle.result_writer.specs.declared.escape.Context.TheVariants.{Content}
use Rattle.sheet_model.specs.declared.pass.Pass.{Pass}
use Rattle.sheet_model.specs.declared.pass.Pass.TheVariants as pass
use Rattle.xml_events.specs.Tree.{Chars, CData, Comment, Pi, Forest, End, Cut, Single, Nested}
use Rattle.template_machine.specs.Ending.{Done, Ending, Put, Said}
use Rattle.template_machine.specs.Job.{Given}
use Rattle.template_machine.specs.Meaning.{code, meaning}
use Rattle.template_machine.specs.Passed.{passing_run}
use Rattle.template_machine.specs.Passing.{kinds_in}
use Rattle.template_machine.specs.Trail.{scope_within}

-- a tree as nodes of a result, each element with the bindings in force in it
abbrev pub nodes_of : (scope : List Binding) → Forest → Nodes
nodes_of scope (End m offset) = nodes.End
nodes_of scope (Cut why) = nodes.End
nodes_of scope (Single m (Chars offset text) next) = nodes.Chars text (nodes_of scope next)
nodes_of scope (Single m (CData offset text) next) = nodes.CData text (nodes_of scope next)
nodes_of scope (Single m (Comment offset text) next) = nodes.Comment text (nodes_of scope next)
nodes_of scope (Single m (Pi offset target text) next) = nodes.Instruction target text (nodes_of scope next)
nodes_of scope (Nested stage e kids next) =
    let within = scope_within scope e.decls in
    nodes.Nested (record { name = e.name; scope = within; attrs = e.attrs }) (nodes_of within kids) (nodes_of scope next)

-- the texts of a tree, and its CDATA sections, in document order
abbrev pub texts_of : Forest → List Part
texts_of (End m offset) = []
texts_of (Cut why) = []
texts_of (Single m (Chars offset text) next) = part.Chars text ∷ texts_of next
texts_of (Single m (CData offset text) next) = part.CData text ∷ texts_of next
texts_of (Single m (Comment offset text) next) = texts_of next
texts_of (Single m (Pi offset target text) next) = texts_of next
texts_of (Nested stage e kids next) = texts_of kids ++ texts_of next

-- A run that copies all of a tree to its end puts the parts of its nodes.
abbrev pub CopiesAll : Type 0
CopiesAll =
    (given : Given) (list : Forest) → kinds_in given 0 ≡ kinds pass.All → (passing_run given list).ending ≡ Done
    → (passing_run given list).parts ≡ parts_of (nodes_of [] list)

-- One that copies texts puts these alone.
abbrev pub CopiesTexts : Type 0
CopiesTexts =
    (given : Given) (list : Forest) → kinds_in given 0 ≡ kinds pass.Chars → (passing_run given list).ending ≡ Done
    → (passing_run given list).parts ≡ texts_of list

-- Where nothing is copied, no part is put.
abbrev pub CopiesNothing : Type 0
CopiesNothing = (given : Given) (list : Forest) → kinds_in given 0 ≡ kinds pass.None → (passing_run given list).parts ≡ []

-- What is written of a whole run.

-- the parts that are put
abbrev pub parts_put : List Said → List Part
parts_put [] = []
parts_put (Put p ∷ os) = p ∷ parts_put os
parts_put (o ∷ os) = parts_put os

-- the texts of a tree as they are written, and its CDATA sections
abbrev pub texts_written : Forest → List ℕ
texts_written (End m offset) = []
texts_written (Cut why) = []
texts_written (Single m (Chars offset text) next) = escaped Content (encode_utf8_all text) ++ texts_written next
texts_written (Single m (CData offset text) next) = cdata_text text ++ texts_written next
texts_written (Single m (Comment offset text) next) = texts_written next
texts_written (Single m (Pi offset target text) next) = texts_written next
texts_written (Nested stage e kids next) = texts_written kids ++ texts_written next

-- A sheet without templates and variables, whose root group passes something through.
pub record Passes (given : Given) (p : Pass) : Type 0 where
  pub templates : given.sheet.templates ≡ []
  pub variables : given.sheet.variables ≡ []
  pub kinds : kinds_in given 0 ≡ kinds p

-- A document that such a sheet copies to its end is written as its nodes.
abbrev pub WritesDocuments : Type 0
WritesDocuments =
    (given : Given) → Passes given pass.All → (list : Forest) (os : List Said)
    → Ends (code given) (meaning given list) os Done → written_parts (parts_put os) ≡ written [] (nodes_of [] list)

-- One of which such a sheet copies the texts is written as these.
abbrev pub WritesTexts : Type 0
WritesTexts =
    (given : Given) → Passes given pass.Chars → (list : Forest) (os : List Said)
    → Ends (code given) (meaning given list) os Done → written_parts (parts_put os) ≡ texts_written list

-- And one that passes nothing through puts nothing, however it ends.
abbrev pub WritesNothing : Type 0
WritesNothing =
    (given : Given) → Passes given pass.None → (list : Forest) (os : List Said) (e : Ending)
    → Ends (code given) (meaning given list) os e → parts_put os ≡ []
