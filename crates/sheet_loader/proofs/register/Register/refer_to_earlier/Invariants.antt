use Rattle.std.proofs.Common.{◌≡◌, map}
use Rattle.sheet_model.specs.declared.sheet.Sheet.{Sheet}
use Rattle.sheet_loader.specs.Keys.{name_of}
use Rattle.sheet_loader.specs.Known.{Knows, known, refers_to}
use Rattle.sheet_loader.specs.Referring.{to_earlier}
use Rattle.sheet_loader.proofs.register.Register.refer_to_earlier.Given as goal

abbrev pub invariant-loop-name : goal.invariant-loop-name
invariant-loop-name l =
    (sheet : Sheet) → Knows (known l.fn.self).declares sheet → l.groups ≡ sheet.groups
    → known l.self ≡ refers_to (to_earlier l.at sheet l.group (map name_of l.yielded)) (known l.fn.self)
