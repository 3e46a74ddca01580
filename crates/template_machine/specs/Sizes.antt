-- How much a run holds at a moment.
use Rattle.std.specs.Prelude.{ℕ, ◌+◌, List, [], ◌∷◌, Option, Some, None, length, map}
use Rattle.stx_base.specs.declared.name.Attr.{Attr}
use Rattle.stx_base.specs.declared.name.Binding.{Binding}
use Rattle.stx_base.specs.declared.name.Name.{Name}
use Rattle.stx_base.specs.declared.node.First.{First}
use Rattle.stx_base.specs.declared.node.First.TheVariants as child
use Rattle.node_stack.specs.Counts.{distinct}
use Rattle.node_stack.specs.Path.{Node, Document, Element, Chars, CData, Comment, Pi, Attribute, kind_of}
use Rattle.node_stack.specs.Test as kind
use Rattle.node_stack.specs.Test.{Kind}
use Rattle.result_writer.specs.Target.{Left}
use Rattle.result_writer.specs.Target as target
use Rattle.result_writer.specs.declared.tag.HeldTag.{HeldTag}
use Rattle.stxpath_values.specs.declared.value.Atom.{Atom}
use Rattle.stxpath_values.specs.declared.value.Atom.TheVariants as atom
use Rattle.event_buffers.specs.Buffers.{Buffer}
use Rattle.event_buffers.specs.Layer.{Layer, Shut, Writing, Reading, contents}
use Rattle.event_buffers.specs.Layer.{State as Use}
use Rattle.event_buffers.specs.declared.kept.Kept.{Kept}
use Rattle.event_buffers.specs.declared.kept.Kept.TheVariants as kept
use Rattle.template_machine.specs.Job.{State}
use Rattle.template_machine.specs.Trail.{Stand, Trail}
use Rattle.var_store.specs.declared.bound.Bound.{Bound}

-- One is counted for each number, variant, list and text, and one for each character.

abbrev pub all_sizes : {A : Type 0} → (A → ℕ) → List A → ℕ
all_sizes size [] = 0
all_sizes size (x ∷ xs) = size x + all_sizes size xs

abbrev pub list_size : {A : Type 0} → (A → ℕ) → List A → ℕ
list_size size xs = 1 + all_sizes size xs

abbrev pub option_size : {A : Type 0} → (A → ℕ) → Option A → ℕ
option_size size None = 1
option_size size (Some x) = 1 + size x

abbrev pub text_size : List ℕ → ℕ
text_size text = 1 + length text

abbrev pub name_size : Name → ℕ
name_size n = text_size n.uri + text_size n.local + text_size n.prefix

abbrev pub binding_size : Binding → ℕ
binding_size b = text_size b.prefix + text_size b.uri

abbrev pub attr_size : Attr → ℕ
attr_size a = name_size a.name + text_size a.value

abbrev pub first_size : First → ℕ
first_size child.Nothing = 1
first_size child.Other = 1
first_size (child.Chars text) = 1 + text_size text

abbrev pub node_size : Node → ℕ
node_size Document = 1
node_size (Element name attrs decls first) = 1 + name_size name + list_size attr_size attrs + list_size binding_size decls + first_size first
node_size (Chars text) = 1 + text_size text
node_size (CData text) = 1 + text_size text
node_size (Comment text) = 1 + text_size text
node_size (Pi target text) = 1 + text_size target + text_size text
node_size (Attribute a) = 1 + attr_size a

-- an element's name, or an instruction's target
abbrev pub kind_size : Kind → ℕ
kind_size (kind.Element n) = name_size n
kind_size (kind.Pi target) = text_size target
kind_size k = 0

abbrev pub atom_size : Atom → ℕ
atom_size (atom.Whole z) = 2
atom_size (atom.Chars text) = 1 + text_size text
atom_size (atom.Truth b) = 2

abbrev pub bound_size : Bound → ℕ
bound_size b = name_size b.name + list_size atom_size b.value

-- what a buffer keeps: of a start tag its name, its attributes and the declarations that it writes
abbrev pub kept_size : Kept → ℕ
kept_size (kept.Start tag) = 1 + name_size tag.name + list_size attr_size tag.attrs + list_size binding_size tag.declared
kept_size kept.End = 1
kept_size (kept.Chars text) = 1 + text_size text
kept_size (kept.CData text) = 1 + text_size text
kept_size (kept.Comment text) = 1 + text_size text
kept_size (kept.Pi target text) = 1 + text_size target + text_size text

abbrev pub copies_size : Buffer → ℕ
copies_size b = all_sizes (λ c. list_size kept_size (contents b.declared c)) b.copies

abbrev pub open_size : target.Element → ℕ
open_size e = name_size e.name + list_size binding_size e.declared

abbrev pub tag_size : HeldTag → ℕ
tag_size t = name_size t.name + list_size binding_size t.scope + list_size attr_size t.attrs

-- the open elements of a target, with what their tags declare, and the start tag that is held back
abbrev pub left_size : Left → ℕ
left_size l = list_size open_size l.elements + option_size tag_size l.held

-- What is open at a moment: the ways to the current nodes of all sources, and of the bodies that wait for siblings; the heads that were
-- begun and that nothing has taken yet; the earlier nodes of each open list; the locals of each body; the values that each process
-- instruction hands on; the items of each loop; the names that the open `element` instructions computed; and the parameters of the
-- command.
pub record Moment : Type 0 where
  pub trails : List Trail
  pub heads : List Node
  pub lists : List (List Node)
  pub locals : List (List Bound)
  pub handed : List (List Bound)
  pub items : List (List Atom)
  pub names : List Name
  pub params : List Bound
  pub state : State

-- the number of open lists
abbrev pub levels : Moment → ℕ
levels m = length m.lists

abbrev pub written_size : Use → ℕ
written_size Shut = 0
written_size (Writing t) = left_size t.left
written_size Reading = 0

-- the open elements of all targets: the output's, and those of each copy of a buffer that is written
abbrev pub targets_size : State → ℕ
targets_size st = left_size st.result + all_sizes (λ (b : Buffer). all_sizes (λ (c : Layer). written_size c.state) b.copies) st.buffers.buffers

-- all that the run needs of what came before
abbrev pub held : Moment → ℕ
held m =
    all_sizes (all_sizes (λ (s : Stand). node_size s.node)) m.trails
    + all_sizes node_size m.heads
    + all_sizes (λ (list : List Node). all_sizes kind_size (distinct (map kind_of list))) m.lists
    + all_sizes (all_sizes (all_sizes bound_size)) m.state.variables
    + all_sizes (list_size bound_size) m.locals
    + all_sizes (list_size bound_size) m.handed
    + all_sizes (list_size atom_size) m.items
    + all_sizes name_size m.names
    + list_size bound_size m.params
    + all_sizes copies_size m.state.buffers.buffers
    + targets_size m.state
