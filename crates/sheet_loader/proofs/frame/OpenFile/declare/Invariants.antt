use Rattle.std.proofs.Common.{◌≡◌, ◌++◌}
use Rattle.sheet_loader.proofs.frame.OpenFile.declare.Given as goal

abbrev pub invariant-loop-binding : goal.invariant-loop-binding
invariant-loop-binding l = l.self ≡ record l.fn.self { scope = l.fn.self.scope ++ l.yielded }
