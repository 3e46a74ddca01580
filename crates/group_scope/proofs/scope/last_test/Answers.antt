use Rattle.std.proofs.Common.{ap, sym, ◌∙◌}
use Rattle.match_patterns.specs.Fits.{test_of}
use Rattle.group_scope.specs.Words.{numbered}
use Rattle.group_scope.proofs.Lasting.{last_is, none_last}
use Rattle.group_scope.proofs.scope.last_test.Goals as goal

pub returns-in-Some : goal.returns-in-Some
returns-in-Some c =
    let words = c.args.words.now in
    c.numbered.ensures ∙ ap (numbered words) (sym (last_is c.in-Steps.steps c.in-Some.step.now (sym c.in-Some.ensures)))
    ∙ ap (λ a. numbered words (test_of a)) (sym c.in-Steps.is)

pub returns-in-None : goal.returns-in-None
returns-in-None c =
    let words = c.args.words.now in
    ap (numbered words) (sym (none_last c.in-Steps.steps c.in-None.ensures)) ∙ ap (λ a. numbered words (test_of a)) (sym c.in-Steps.is)
