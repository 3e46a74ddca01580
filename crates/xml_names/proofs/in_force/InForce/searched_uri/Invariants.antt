use Rattle.std.proofs.Common.{◌≡◌, length, map}
use Rattle.std.specs.Str.{chars}
use Rattle.xml_names.specs.Scope.{last_uri}
use Rattle.xml_names.proofs.in_force.InForce.searched_uri.Given as goal

-- no declaration behind the rest is of the prefix
abbrev pub invariant-loop-last : goal.invariant-loop-last
invariant-loop-last l = last_uri (map (λ d. d.binding) l.rest) (chars l.prefix) ≡ last_uri l.self (chars l.prefix)

abbrev pub decreases-loop-last : goal.decreases-loop-last
decreases-loop-last l = length l.rest
