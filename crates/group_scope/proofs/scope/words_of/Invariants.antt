use Rattle.std.proofs.Common.{◌≡◌, true, take}
use Rattle.group_scope.specs.Words.{all_are_numbered}
use Rattle.group_scope.proofs.scope.words_of.Given as goal

-- The texts of the templates so far have numbers.
abbrev pub invariant-loop-template : goal.invariant-loop-template
invariant-loop-template l = all_are_numbered l.words (take l.template-index l.sheet.templates) ≡ true
