-- A sheet of version 1.0 means what it meant before there was version 1.1.
use Rattle.sheet_model.specs.Passing.{kinds}
use Rattle.std.specs.Prelude.{◌≡◌, ◌↔◌, ℕ, Bool, true, false, List, Contains, Some}
use Rattle.stx_base.specs.Course.{Ends}
use Rattle.stx_base.specs.declared.part.Part.{Part}
use Rattle.stx_base.specs.declared.part.Part.TheVariants as part
use Rattle.stx_base.specs.declared.node.NodeTest.{NodeTest}
use Rattle.node_stack.specs.Path.{Node, kind_of}
use Rattle.node_stack.specs.Path as node
use Rattle.node_stack.specs.Test.{passes}
use Rattle.sheet_model.specs.declared.pass.Pass.{Pass}
use Rattle.sheet_model.specs.declared.pass.Pass.TheVariants as pass
use Rattle.sheet_model.specs.declared.sheet.Buffer.{Buffer}
use Rattle.sheet_model.specs.declared.sheet.Group.{Group}
use Rattle.xml_events.specs.Tree.{Forest, End, Cut, Single, Nested, CData}
use Rattle.template_machine.specs.Ending.{Ending, Said, Put}
use Rattle.template_machine.specs.Job.{Given}
use Rattle.template_machine.specs.Meaning.{code, meaning}
use Rattle.template_machine.specs.Older.{old_code, old_leaf_parts, old_meaning, old_parts_before, old_parts_behind, old_passes}
use Rattle.template_machine.specs.Passing.{leaf_parts, parts_before, parts_behind}
use Rattle.template_machine.specs.Trail.{Trail}

-- no node of a list, nor of the lists in it, is a CDATA section
abbrev pub HasNoSections : Forest → Type 0
HasNoSections (End m offset) = Unit {0}
HasNoSections (Cut why) = Unit {0}
HasNoSections (Single m (CData offset text) next) = ⊥
HasNoSections (Single m leaf next) = HasNoSections next
HasNoSections (Nested stage e kids next) = HasNoSections kids × HasNoSections next

-- one of the three values of version 1.0
abbrev pub is_old : Pass → Bool
is_old (pass.Kinds kinds) = false
is_old p = true

-- a node that isn't one of a CDATA section
abbrev pub is_old_node : Node → Bool
is_old_node (node.CData text) = false
is_old_node n = true

abbrev pub is_old_part : Part → Bool
is_old_part (part.CData text) = false
is_old_part p = true

abbrev pub is_old_said : Said → Bool
is_old_said (Put p) = is_old_part p
is_old_said o = true

-- A node that isn't one of a CDATA section passes the tests that it passed.
abbrev pub TestsPassAsBefore : Type 0
TestsPassAsBefore = (t : NodeTest) (n : Node) → is_old_node n ≡ true → passes t (kind_of n) ≡ old_passes t (kind_of n)

-- By the newer rule of kinds, each of the three passes through what it passed through.
abbrev pub PassesAsBefore : Type 0
PassesAsBefore =
    (p : Pass) (trail : Trail) (n : Node) → is_old p ≡ true → is_old_node n ≡ true
    → (leaf_parts (kinds p) n ≡ old_leaf_parts p n)
    × (parts_before (kinds p) trail n ≡ old_parts_before p trail n)
    × (parts_behind (kinds p) n ≡ old_parts_behind p n)

-- What a run of a sheet of version 1.0 is given: such a sheet passes through nothing, texts or all, and its buffers hold no CDATA
-- sections, and no document that is read for it has nodes of them.
pub record IsOfOne (given : Given) : Type 0 where
  pub groups : (g : Group) → Contains given.sheet.groups g → is_old g.pass ≡ true
  pub buffers : (b : Buffer) → Contains given.sheet.buffers b → (p : Part) → Contains b.content p → is_old_part p ≡ true
  pub documents : (name : List ℕ) (tree : Forest) → given.documents name ≡ Some tree → HasNoSections tree

-- It means the same by the old definitions.
abbrev pub MeansAsBefore : Type 0
MeansAsBefore =
    (given : Given) → IsOfOne given → (tree : Forest) → HasNoSections tree → (os : List Said) (e : Ending)
    → Ends (code given) (meaning given tree) os e ↔ Ends (old_code given) (old_meaning given tree) os e

-- And it puts no CDATA sections.
abbrev pub PutsNoSections : Type 0
PutsNoSections =
    (given : Given) → IsOfOne given → (tree : Forest) → HasNoSections tree → (os : List Said) (e : Ending)
    → Ends (code given) (meaning given tree) os e → (o : Said) → Contains os o → is_old_said o ≡ true
