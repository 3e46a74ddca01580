use Rattle.std.proofs.Common.{◌≡◌, true, take}
use Rattle.std.specs.List.{list_all}
use Rattle.match_patterns.specs.Fits.{test_of}
use Rattle.group_scope.specs.Words.{Keeps, are_numbered}
use Rattle.group_scope.proofs.scope.note_template.Given as goal

-- The texts of the alternatives so far have numbers, and those that had some keep them.
abbrev pub invariant-loop-alternative : goal.invariant-loop-alternative
invariant-loop-alternative l =
    (list_all (λ a. are_numbered l.words (test_of a)) (take l.alternative-index l.template.pattern.alternatives) ≡ true) × Keeps l.fn.words l.words
