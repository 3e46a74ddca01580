-- What is to be done, by `--check` and `--sample`.
use Rattle.std.proofs.Common.{◌∙◌, ap, ap₂, arith, sym}
use Rattle.clap.specs.Matches.{found_of}
use Rattle.command_words.specs.Finding.{words_in}
use Rattle.command_words.specs.Said.{sample}
use Rattle.command_words.specs.Words.{mode_by, mode_in, number_in}
use Rattle.command_words.proofs.GivenUses.{lent_checks, lent_number}
use Rattle.command_words.proofs.Wanted.{many_checks, mode_is, no_sample, refused_up}
use Rattle.command_words.proofs.command.read_mode.Goals as goal

pub returns-in_err-sample : goal.returns-in_err-sample
returns-in_err-sample c = λ said tells.
    let f = found_of c.args.matches.now in
    let given = ap (number_in 1 1000000) (lent_number f said sample c.get_strs-2.result tells c.get_strs-2.ensures) in
    refused_up (number_in 1 1000000 (words_in c.get_strs-2.result)) (mode_in said) c.in_err-sample.field-0.0 c.from_residual.result
    c.from_residual.ensures.1 (λ none. no_sample said (sym given ∙ none)) c.in_err-sample.ensures.reads

pub returns-in-0-None : goal.returns-in-0-None
returns-in-0-None c = λ said tells.
    let f = found_of c.args.matches.now in
    let checks = c.count-checks.ensures ∙ lent_checks f said c.get_strs.result tells c.get_strs.ensures in
    let given = ap (number_in 1 1000000) (lent_number f said sample c.get_strs-2.result tells c.get_strs-2.ensures) in
    sym (mode_is said c.count-checks.result c.in_ok-sample.sample checks (sym given ∙ c.in_ok-sample.ensures.reads))
    ∙ ap₂ mode_by c.in-0-None.is-0 c.in-0-None.is-1

pub returns-in-0-Some : goal.returns-in-0-Some
returns-in-0-Some c = λ said tells.
    let f = found_of c.args.matches.now in
    let checks = c.count-checks.ensures ∙ lent_checks f said c.get_strs.result tells c.get_strs.ensures in
    let given = ap (number_in 1 1000000) (lent_number f said sample c.get_strs-2.result tells c.get_strs-2.ensures) in
    sym (mode_is said c.count-checks.result c.in_ok-sample.sample checks (sym given ∙ c.in_ok-sample.ensures.reads))
    ∙ ap₂ mode_by c.in-0-Some.is-0 c.in-0-Some.is-1

pub returns-in-1-None : goal.returns-in-1-None
returns-in-1-None c = λ said tells.
    let f = found_of c.args.matches.now in
    let checks = c.count-checks.ensures ∙ lent_checks f said c.get_strs.result tells c.get_strs.ensures in
    let given = ap (number_in 1 1000000) (lent_number f said sample c.get_strs-2.result tells c.get_strs-2.ensures) in
    sym (mode_is said c.count-checks.result c.in_ok-sample.sample checks (sym given ∙ c.in_ok-sample.ensures.reads))
    ∙ ap₂ mode_by c.in-1-None.is-0 c.in-1-None.is-1

pub returns-in_default : goal.returns-in_default
returns-in_default c = λ said tells.
    let f = found_of c.args.matches.now in
    let checks = c.count-checks.ensures ∙ lent_checks f said c.get_strs.result tells c.get_strs.ensures in
    let given = ap (number_in 1 1000000) (lent_number f said sample c.get_strs-2.result tells c.get_strs-2.ensures) in
    sym (mode_is said c.count-checks.result c.in_ok-sample.sample checks (sym given ∙ c.in_ok-sample.ensures.reads))
    ∙ ap₂ mode_by c.in_default.is-0 c.in_default.is-1

pub returns-in_default-2 : goal.returns-in_default-2
returns-in_default-2 c = λ said tells.
    let f = found_of c.args.matches.now in
    let checks = c.count-checks.ensures ∙ lent_checks f said c.get_strs.result tells c.get_strs.ensures in
    let given = ap (number_in 1 1000000) (lent_number f said sample c.get_strs-2.result tells c.get_strs-2.ensures) in
    sym (mode_is said c.count-checks.result c.in_ok-sample.sample checks (sym given ∙ c.in_ok-sample.ensures.reads))
    ∙ many_checks c.count-checks.result c.in_ok-sample.sample (omega (arith, c.in_default.is-0.0.1, c.in_default.is-0.1))
