-- What a reader of written tags knows to be declared, the outermost tag first (Namespaces in XML 1.0, 6.1).
use Rattle.std.specs.Prelude.{List, [], ◌∷◌, ◌++◌, Option, Some, None}
use Rattle.stx_base.specs.declared.name.Binding.{Binding}
use Rattle.stx_base.specs.declared.part.Part.{Part}
use Rattle.stx_base.specs.declared.part.Part.TheVariants as part
use Rattle.xml_names.specs.Tag.{into}
use Rattle.xml_events.specs.Before.{outer_path}
use Rattle.result_writer.specs.Tag.{dressed}
use Rattle.result_writer.specs.Target.{Element, Left, in_force, next}
use Rattle.result_writer.specs.declared.tag.HeldTag.{HeldTag}
use Rattle.read_back.specs.Reading.{raw_attrs}

-- what open elements declared, by what the writer knows of them
abbrev pub path_of : List Element → List (List Binding)
path_of [] = []
path_of (e ∷ outer) = path_of outer ++ e.declared ∷ []

-- behind a tag that was held back, once it is written
abbrev pub path_into : (path : List (List Binding)) → (outer : List Element) → Option HeldTag → List (List Binding)
path_into path outer None = path
path_into path outer (Some tag) = into path (raw_attrs (dressed (in_force outer) tag) tag.attrs)

-- behind the end of an element, which is one tag where its start was held back
abbrev pub path_out_of : (path : List (List Binding)) → Option HeldTag → List (List Binding)
path_out_of path None = outer_path path
path_out_of path (Some tag) = path

-- behind what a part settles
abbrev pub path_behind : (path : List (List Binding)) → Left → Part → List (List Binding)
path_behind path l (part.Attribute name value) = path
path_behind path l (part.End name) = path_out_of path l.held
path_behind path l p = path_into path l.elements l.held

-- behind what parts settle
abbrev pub path_from : (path : List (List Binding)) → Left → List Part → List (List Binding)
path_from path l [] = path
path_from path l (p ∷ ps) = path_from (path_behind path l p) (next l p) ps
