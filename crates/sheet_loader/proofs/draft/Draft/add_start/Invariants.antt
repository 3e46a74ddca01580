use Rattle.std.proofs.Common.{◌≡◌, ◌++◌}
use Rattle.sheet_loader.specs.Steps.{start_parts}
use Rattle.sheet_loader.proofs.draft.Draft.add_start.Given as goal

abbrev pub invariant-loop-attr : goal.invariant-loop-attr
invariant-loop-attr l = l.self ≡ record l.fn.self { parts = l.fn.self.parts ++ start_parts l.fn.name l.yielded }
