use Rattle.std.proofs.Common.{◌≡◌, ◌++◌}
use Rattle.sheet_loader.proofs.content.Content.add_otherwise.Given as goal

abbrev pub invariant-loop-instr : goal.invariant-loop-instr
invariant-loop-instr l = l.self ≡ record l.fn.self { otherwise = l.fn.self.otherwise ++ l.yielded }
