use Rattle.std.proofs.Common.{◌≡◌, drop}
use Rattle.std.specs.Option.{option_copied, option_or}
use Rattle.stxpath_syntax.specs.Words.{bound_by}
use Rattle.sheet_loader.proofs.named.bound_by.Given as goal

abbrev pub invariant-loop-binding : goal.invariant-loop-binding
invariant-loop-binding l = option_or (bound_by (drop l.binding-index l.scope) l.prefix) (option_copied l.found) ≡ bound_by l.scope l.prefix
