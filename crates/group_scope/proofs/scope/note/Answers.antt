use Rattle.std.proofs.Common.{ap, sym, ◌∙◌}
use Rattle.match_patterns.specs.Fits.{test_of}
use Rattle.group_scope.specs.Words.{are_numbered}
use Rattle.group_scope.proofs.Lasting.{last_is, none_last}
use Rattle.group_scope.proofs.scope.note.Goals as goal

pub returns-in_ok-note-clause-numbered : goal.returns-in_ok-note-clause-numbered
returns-in_ok-note-clause-numbered c =
    let words = c.note.new.self in
    ap (λ a. are_numbered words (test_of a)) c.in-Steps.is ∙ ap (are_numbered words) (last_is c.in-Steps.steps c.in-Some.step.now (sym c.in-Some.ensures))
    ∙ c.in_ok-note.ensures.numbered

pub returns-in_default-last-clause-numbered : goal.returns-in_default-last-clause-numbered
returns-in_default-last-clause-numbered c =
    let words = c.args.words.now in
    ap (λ a. are_numbered words (test_of a)) c.in-Steps.is ∙ ap (are_numbered words) (none_last c.in-Steps.steps c.in_default-last.ensures)
