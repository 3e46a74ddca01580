use Rattle.std.proofs.Common.{◌≡◌, take}
use Rattle.frame_stack.proofs.locals.LocalsCopied.copy.Given as goal

abbrev pub invariant-loop-entry : goal.invariant-loop-entry
invariant-loop-entry l = l.entries.items ≡ take l.entry-index l.entry-items
