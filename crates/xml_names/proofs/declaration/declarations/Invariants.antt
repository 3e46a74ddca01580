use Rattle.std.proofs.Common.{◌≡◌, take}
use Rattle.xml_names.specs.Tag as spec
use Rattle.xml_names.proofs.declaration.declarations.Given as goal

-- the declarations of the attributes so far
abbrev pub invariant-loop-attr : goal.invariant-loop-attr
invariant-loop-attr l = l.made ≡ spec.declarations (take l.attr-index l.attrs)
