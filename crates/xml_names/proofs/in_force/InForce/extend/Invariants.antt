use Rattle.std.proofs.Common.{◌≡◌, ◌++◌, take}
use Rattle.xml_names.proofs.in_force.InForce.extend.Given as goal

-- the declarations so far are appended
abbrev pub invariant-loop-binding : goal.invariant-loop-binding
invariant-loop-binding l = l.self ≡ l.initial.self ++ take l.binding-index l.bindings
