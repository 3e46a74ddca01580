use Rattle.std.proofs.Common.{◌≡◌, ◌++◌}
use Rattle.std.specs.Prelude.{map}
use Rattle.std.specs.Vec.Iter.{into_iter_items}
use Rattle.xml_names.specs.inside.Plain.{plain_attribute}
use Rattle.xml_names.proofs.scopes.plain_attributes.Given as goal

-- the attributes so far, and those that are left, are all
abbrev pub invariant-loop-attr : goal.invariant-loop-attr
invariant-loop-attr l = l.made ++ map plain_attribute (into_iter_items l.attr-iterator) ≡ map plain_attribute l.fn.attrs
