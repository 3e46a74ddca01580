use Rattle.std.proofs.Common.{◌≡◌, [], map}
use Rattle.sheet_loader.specs.Keys.{name_of}
use Rattle.sheet_loader.specs.Known.{known, refers_to}
use Rattle.sheet_loader.specs.Referring.{to_variables}
use Rattle.sheet_loader.proofs.register.Register.refer_to_variables_of_groups.Given as goal

abbrev pub invariant-loop-name : goal.invariant-loop-name
invariant-loop-name l = known l.self ≡ refers_to (to_variables l.at [] l.group (map name_of l.yielded)) (known l.fn.self)
