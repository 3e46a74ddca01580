use Rattle.std.proofs.Common.{◌≡◌, drop}
use Rattle.std.specs.Option.{option_copied, option_or}
use Rattle.stxpath_syntax.specs.Words.{bound_by}
use Rattle.template_machine.proofs.names.bound_by.Given as goal

-- the last of those that are left, or else the one so far, is the last of all
abbrev pub invariant-loop-binding : goal.invariant-loop-binding
invariant-loop-binding l = option_or (bound_by (drop l.binding-index l.scope) l.prefix) (option_copied l.found) ≡ bound_by l.scope l.prefix
