-- What is put before a node's children.
use Rattle.std.specs.Prelude.{List, [], ◌∷◌, Option, if◌then◌else◌, map}
use Rattle.stx_base.specs.declared.name.Attr.{Attr}
use Rattle.stx_base.specs.declared.name.Binding.{Binding}
use Rattle.stx_base.specs.declared.name.Name.{Name}
use Rattle.stx_base.specs.declared.part.Part.{Part}
use Rattle.stx_base.specs.declared.part.Part.TheVariants as part
use Rattle.node_stack.specs.Path.{Node, Element}
use Rattle.sheet_model.specs.declared.pass.Kinds.{Kinds}
use Rattle.stxpath_syntax.specs.declared.expr.Pattern.{Pattern}
use Rattle.template_machine.specs.Acting.{copy_parts}
use Rattle.template_machine.specs.Finding.{passing}
use Rattle.template_machine.specs.Passing.{parts_if}
use Rattle.template_machine.specs.Putting.{attribute_part}

-- an element's start in a scope, with attributes
abbrev pub start_in : List Binding → Name → List Attr → List Part
start_in scope name attrs = part.Start name scope ∷ map attribute_part attrs

-- that of an element where elements are passed through, with its attributes where those are
abbrev pub passed_start : Kinds → List Binding → Name → List Attr → List Part
passed_start k scope name attrs = parts_if k.elements (start_in scope name (if k.attributes then attrs else []))

-- what a copy of a node puts before the list inside: an element's start with some of its attributes, or all of another node
abbrev pub copy_start : List Binding → Option Pattern → Node → List Part
copy_start scope attributes (Element name attrs decls first) = start_in scope name (passing attributes attrs)
copy_start scope attributes n = copy_parts n
