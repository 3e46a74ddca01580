-- Nodes in values, and what is told of them.
use Rattle.std.specs.Prelude.{ℕ, ◌+◌, Bool, true, false, if◌then◌else◌, List, [], ◌∷◌, map, slice_get, Option, Some, None, option_map}
use Rattle.stx_base.specs.declared.name.Attr.{Attr}
use Rattle.stx_base.specs.declared.name.Name.{Name}
use Rattle.stx_base.specs.declared.node.First.{First}
use Rattle.stx_base.specs.declared.node.First.TheVariants as first
use Rattle.stx_base.specs.declared.node.NodeTest.{NodeTest}
use Rattle.node_stack.specs.Path.{Node, Document, Element, Pi, Attribute, Path, attributes, node_at, text_of}
use Rattle.node_stack.specs.Test as kind
use Rattle.node_stack.specs.Test.{passes}
use Rattle.stxpath_syntax.specs.Printing.{prefixed}
use Rattle.stxpath_values.specs.declared.value.Atom.{Atom}
use Rattle.stxpath_values.specs.declared.value.Atom.TheVariants as atom
use Rattle.stxpath_values.specs.declared.value.Item.{Item}
use Rattle.stxpath_values.specs.declared.value.Item.TheVariants as item
use Rattle.stxpath_values.specs.declared.value.NodeRef.{NodeRef}

abbrev pub node : (place : ℕ) → Item
node place = item.Node (record { place = place; attr = None })

abbrev pub attribute : (place index : ℕ) → Item
attribute place index = item.Node (record { place = place; attr = Some index })

-- the attributes that pass, where the first of these has the number
abbrev pub passing_from : (place index : ℕ) → NodeTest → List Attr → List Item
passing_from place index t [] = []
passing_from place index t (a ∷ attrs) =
    let behind = passing_from place (index + 1) t attrs in
    if passes t (kind.Attribute a.name) then attribute place index ∷ behind else behind

-- the attributes of the node at a place that pass, in order
abbrev pub attributes_at : Path → NodeTest → (place : ℕ) → List Item
attributes_at p t place = passing_from place 0 t (attributes (node_at p place))

-- a node, or its attribute with a number
abbrev pub referred_at : Option ℕ → Option Node → Option Node
referred_at None n = n
referred_at (Some index) n = option_map (λ a. Attribute a) (slice_get (attributes n) index)

-- the node that is referred to
abbrev pub referred : Path → NodeRef → Option Node
referred p r = referred_at r.attr (node_at p r.place)

-- an item, or the string value in place of a node
abbrev pub atom_of : Path → Item → Atom
atom_of p (item.Atom a) = a
atom_of p (item.Node r) = atom.Chars (text_of (referred p r))

abbrev pub atoms : Path → List Item → List Atom
atoms p items = map (atom_of p) items

-- a name as written
abbrev pub written : Name → List ℕ
written n = prefixed n.prefix n.local

-- a name, or its local part, or its URI, of an element or an attribute; an instruction's target has no URI
abbrev pub name_of : Option Node → List ℕ
name_of (Some (Element name attrs decls f)) = written name
name_of (Some (Attribute a)) = written a.name
name_of (Some (Pi target text)) = target
name_of x = []

abbrev pub local_name_of : Option Node → List ℕ
local_name_of (Some (Element name attrs decls f)) = name.local
local_name_of (Some (Attribute a)) = a.name.local
local_name_of (Some (Pi target text)) = target
local_name_of x = []

abbrev pub uri_of : Option Node → List ℕ
uri_of (Some (Element name attrs decls f)) = name.uri
uri_of (Some (Attribute a)) = a.name.uri
uri_of x = []

abbrev pub is_child : First → Bool
is_child first.Nothing = false
is_child f = true

abbrev pub has_child : Option Node → Bool
has_child (Some Document) = true
has_child (Some (Element name attrs decls f)) = is_child f
has_child x = false
