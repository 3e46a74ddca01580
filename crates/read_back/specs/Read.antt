-- What is read of a result (XML 1.0, 2.1; Namespaces in XML 1.0, 2.1).
use Rattle.std.specs.Prelude.{◌≤◌, ◌<◌, ◌^◌, ℕ, Bool, true, false, if◌then◌else◌, not, ◌&&◌, List, [], codes, length, map, slice_get}
use Rattle.std.specs.Option.{option_map_or}
use Rattle.stx_base.specs.Character.{is_space}
use Rattle.stx_base.specs.declared.limits.Limits.{Limits}
use Rattle.xml_events.specs.Tree as tree
use Rattle.xml_events.specs.Tree.{Forest, Single}
use Rattle.result_writer.specs.Nodes.{Nodes, End, Chars, CData, Comment, Instruction, Nested, expanded_attr, expanded_name, text_before}
use Rattle.read_back.specs.Reading.{read_data}

-- the first line of each result
abbrev pub head : List ℕ
head = codes "<?xml version=\"1.0\" encoding=\"UTF-8\"?>\n"

-- a tree as nodes, without places, prefixes and declarations
abbrev pub nodes_of : Forest → Nodes
nodes_of (tree.End mark offset) = End
nodes_of (tree.Cut why) = End
nodes_of (Single mark (tree.Chars offset text) next) = Chars text (nodes_of next)
nodes_of (Single mark (tree.CData offset text) next) = CData text (nodes_of next)
nodes_of (Single mark (tree.Comment offset text) next) = Comment text (nodes_of next)
nodes_of (Single mark (tree.Pi offset target text) next) = Instruction target text (nodes_of next)
nodes_of (tree.Nested stage element kids next) =
    Nested (record { name = expanded_name element.name; scope = []; attrs = map expanded_attr element.attrs }) (nodes_of kids) (nodes_of next)

-- Nodes as they are read: white space before an instruction's data isn't part of it, and where CDATA sections aren't recognised they are
-- text like other, which is one with that beside it.
abbrev pub as_read : (cdata : Bool) → Nodes → Nodes
as_read cdata End = End
as_read cdata (Chars text next) = text_before text (as_read cdata next)
as_read cdata (CData text next) = if cdata then CData text (as_read cdata next) else text_before text (as_read cdata next)
as_read cdata (Comment text next) = Comment text (as_read cdata next)
as_read cdata (Instruction target text next) = Instruction target (read_data text) (as_read cdata next)
as_read cdata (Nested tag kids next) = Nested tag (as_read cdata kids) (as_read cdata next)

-- no instruction's data begins with white space
abbrev pub is_bare : Nodes → Bool
is_bare End = true
is_bare (Chars text next) = is_bare next
is_bare (CData text next) = is_bare next
is_bare (Comment text next) = is_bare next
is_bare (Instruction target text next) = not (option_map_or is_space (slice_get text 0) false) && is_bare next
is_bare (Nested tag kids next) = is_bare kids && is_bare next

-- nodes in an element `r`
abbrev pub within : Nodes → Nodes
within kids = Nested (record { name = record { uri = []; local = codes "r"; prefix = [] }; scope = []; attrs = [] }) kids End

-- comments and processing instructions alone (Misc; XML 1.0, 2.8)
abbrev pub is_misc : Nodes → Bool
is_misc End = true
is_misc (Comment text next) = is_misc next
is_misc (Instruction target text next) = is_misc next
is_misc nodes = false

-- one element, and comments and processing instructions round it (document; XML 1.0, 2.1)
abbrev pub is_document : Nodes → Bool
is_document (Comment text next) = is_document next
is_document (Instruction target text next) = is_document next
is_document (Nested tag kids next) = is_misc next
is_document nodes = false

-- no limit stops the reading of these bytes, in which no more than so many elements are open at once
pub record Suffices (limits : Limits) (bytes : List ℕ) (depth : ℕ) : Type 0 where
  pub lexeme : length bytes ≤ limits.lexeme
  pub text : length bytes ≤ limits.text
  pub input : length bytes ≤ limits.input
  pub elements : depth ≤ limits.depth
  pub counted : length bytes < 2 ^ 64
