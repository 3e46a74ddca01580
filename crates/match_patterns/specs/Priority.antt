-- Default priorities, in hundredths.
use Rattle.std.specs.Prelude.{ℤ, pos, negsuc, Bool, true, false, ◌&&◌, if◌then◌else◌, [], ◌∷◌}
use Rattle.stx_base.specs.declared.node.NodeTest.{NodeTest}
use Rattle.stx_base.specs.declared.node.NodeTest.TheVariants as test
use Rattle.stxpath_syntax.specs.declared.expr.Alternative.{Alternative}
use Rattle.stxpath_syntax.specs.declared.expr.Alternative.TheVariants as alternative
use Rattle.stxpath_syntax.specs.declared.expr.Link.{Link}
use Rattle.stxpath_syntax.specs.declared.expr.Link.TheVariants as link
use Rattle.match_patterns.specs.Fits.{is_bare}

-- 0 for a name or a target, -25 for the names of a namespace, -50 for a kind of nodes
abbrev pub test_priority : NodeTest → ℤ
test_priority (test.Name n) = pos 0
test_priority (test.AttrName n) = pos 0
test_priority (test.Pi target) = pos 0
test_priority (test.Prefix b) = negsuc 24
test_priority (test.AttrPrefix b) = negsuc 24
test_priority t = negsuc 49

abbrev pub is_start : Link → Bool
is_start link.Start = true
is_start link.Slash = false
is_start link.Deep = false

-- a lone step without predicates and without a leading slash goes by its test, anything else has 50
abbrev pub default_priority : Alternative → ℤ
default_priority (alternative.Steps (s ∷ [])) = if is_start s.link && is_bare s then test_priority s.test else pos 50
default_priority a = pos 50
