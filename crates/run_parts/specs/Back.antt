-- What was said, read back.
use Rattle.std.specs.Prelude.{◌≡◌, ℕ, ◌+◌, Bool, true, false, List, ◌++◌, codes}
use Rattle.stx_base.specs.declared.limits.Limits.{Limits}
use Rattle.read_back.specs.Read.{Suffices, as_read, head, is_document, nodes_of, within}
use Rattle.result_writer.specs.Nodes.{Nodes, forest}
use Rattle.result_writer.specs.Target.{nothing}
use Rattle.template_machine.specs.Ending.{Said}
use Rattle.template_machine.specs.Written.{settled_by}
use Rattle.xml_events.specs.Document.{doc_for}
use Rattle.xml_events.specs.Flatten.{is_closed}
use Rattle.run_parts.specs.Parts.{parts_of}

-- these bytes are a whole document without a fault, of these nodes
abbrev pub IsReadAs : Limits → (cdata : Bool) → (bytes : List ℕ) → Nodes → Type 0
IsReadAs limits cdata bytes nodes =
    let tree = doc_for limits false cdata bytes true in (is_closed tree ≡ true) × (nodes_of tree ≡ nodes)

-- what is written of what was said, between a start and an end tag, and behind the first line of each result
abbrev pub in_element : List Said → List ℕ
in_element said = codes "<r>" ++ settled_by nothing said ++ codes "</r>"

abbrev pub in_document : List Said → List ℕ
in_document said = head ++ settled_by nothing said

-- By a reader of these limits it is read as the nodes that were put: in an element in any case, and as a document where it is one element with
-- comments and instructions round it.
pub record IsReadBack (limits : Limits) (cdata : Bool) (elements : ℕ) (said : List Said) : Type 0 where
  pub content : Suffices limits (in_element said) (elements + 1) → IsReadAs limits cdata (in_element said) (within (as_read cdata (forest (parts_of said))))
  pub whole : is_document (forest (parts_of said)) ≡ true
      → Suffices limits (in_document said) elements → IsReadAs limits cdata (in_document said) (as_read cdata (forest (parts_of said)))
