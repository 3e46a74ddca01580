-- Documents as trees, of which the front may be all that is known yet (XML 1.0, 2 and 3; Namespaces in XML 1.0, 2.1).
use Rattle.std.specs.Prelude.{ℕ, List}
use Rattle.stx_base.specs.declared.fault.XmlFault.{XmlFault}
use Rattle.stx_base.specs.declared.node.First.{First}
use Rattle.stx_base.specs.declared.node.First.TheVariants as child
use Rattle.stx_base.specs.declared.name.Name.{Name}
use Rattle.stx_base.specs.declared.name.Attr.{Attr}
use Rattle.stx_base.specs.declared.name.Binding.{Binding}

-- why a list of nodes goes no further: more of the document is wanted, or the document has a fault
pub data Why : Type 0 where
  Need : Why
  Bad : XmlFault → Why

-- how far a leaf, or the end of a list, has come: it isn't ready for all that is known, it was told or can be, or it was begun
pub data Mark : Type 0 where
  Fresh : Mark
  Told : Mark
  Begun : Mark

-- How far an element has come. What its start tells of its first child stays with it from then on, also where nothing is known of its
-- list any more.
pub data Stage : Type 0 where
  Waiting : Stage
  Ready : First → Stage
  Entered : First → Stage

-- a node that has no list of its own, and where it begins
pub data Leaf : Type 0 where
  Chars : (offset : ℕ) → List ℕ → Leaf
  CData : (offset : ℕ) → List ℕ → Leaf
  Comment : (offset : ℕ) → List ℕ → Leaf
  Pi : (offset : ℕ) → (target text : List ℕ) → Leaf

-- an element without its list: where its start tag begins, its name, its attributes, and its namespace declarations
pub record Element : Type 0 where
  pub offset : ℕ
  pub name : Name
  pub attrs : List Attr
  pub decls : List Binding

-- The nodes of a list, the first one first: a leaf, or an element with its list. The list ends, with an end tag that begins
-- there, or with the document; or it is cut.
pub data Forest : Type 0 where
  End : Mark → (offset : ℕ) → Forest
  Cut : Why → Forest
  Single : Mark → Leaf → (next : Forest) → Forest
  Nested : Stage → Element → (kids next : Forest) → Forest

-- the first child of an element, by the list of its children
abbrev pub first_of : (kids : Forest) → First
first_of (End mark offset) = child.Nothing
first_of (Cut why) = child.Nothing
first_of (Single mark (Chars offset text) next) = child.Chars text
first_of (Single mark (CData offset text) next) = child.Chars text
first_of (Single mark (Comment offset text) next) = child.Other
first_of (Single mark (Pi offset target text) next) = child.Other
first_of (Nested stage element kids next) = child.Other

-- A future: for each open list, from the innermost outwards, the nodes still to come.
abbrev pub Future : Type 0
Future = List Forest
