use Rattle.std.proofs.Common.{◌≡◌, ◌++◌}
use Rattle.std.specs.Vec.Iter.{into_iter_items}
use Rattle.xml_names.specs.Tag as spec
use Rattle.xml_names.proofs.scopes.Scopes.attributes.Given as goal

-- the attributes so far that are no declarations, and those that are left, are all
abbrev pub invariant-loop-attr : goal.invariant-loop-attr
invariant-loop-attr l = l.made ++ spec.attributes l.self (into_iter_items l.attr-iterator) ≡ spec.attributes l.self l.fn.attrs
