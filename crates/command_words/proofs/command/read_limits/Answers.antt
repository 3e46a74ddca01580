-- The limits that are given, one after the other.
use Rattle.std.proofs.Common.{◌∙◌, ap, sym}
use Rattle.std.specs.Prelude.{Some}
use Rattle.clap.specs.Matches.{found_of}
use Rattle.command_words.specs.Finding.{words_in}
use Rattle.command_words.specs.Said.{fuel, lexeme, instances}
use Rattle.command_words.specs.Words.{limits_in, number_in}
use Rattle.command_words.proofs.GivenUses.{lent_number}
use Rattle.command_words.proofs.Wanted.{all_limits, no_fuel, no_instances, no_lexeme, refused_up}
use Rattle.command_words.proofs.command.read_limits.Goals as goal

pub returns-in_err-fuel : goal.returns-in_err-fuel
returns-in_err-fuel c = λ said tells.
    let f = found_of c.args.matches.now in
    let given = ap (number_in 1 1000000000000) (lent_number f said fuel c.get_strs.result tells c.get_strs.ensures) in
    refused_up (number_in 1 1000000000000 (words_in c.get_strs.result)) (limits_in said) c.in_err-fuel.field-0.0 c.from_residual.result
    c.from_residual.ensures.1 (λ none. no_fuel said (sym given ∙ none)) c.in_err-fuel.ensures.reads

pub returns-in_err-lexeme : goal.returns-in_err-lexeme
returns-in_err-lexeme c = λ said tells.
    let f = found_of c.args.matches.now in
    let first = ap (number_in 1 1000000000000) (lent_number f said fuel c.get_strs.result tells c.get_strs.ensures) in
    let second = ap (number_in 16 67108864) (lent_number f said lexeme c.get_strs-2.result tells c.get_strs-2.ensures) in
    refused_up (number_in 16 67108864 (words_in c.get_strs-2.result)) (limits_in said) c.in_err-lexeme.field-0.0 c.from_residual-in_err-lexeme.result
    c.from_residual-in_err-lexeme.ensures.1
    (λ none. no_lexeme said c.in_ok-fuel.fuel (sym first ∙ c.in_ok-fuel.ensures.reads) (sym second ∙ none)) c.in_err-lexeme.ensures.reads

pub returns-in_err-instances : goal.returns-in_err-instances
returns-in_err-instances c = λ said tells.
    let f = found_of c.args.matches.now in
    let first = ap (number_in 1 1000000000000) (lent_number f said fuel c.get_strs.result tells c.get_strs.ensures) in
    let second = ap (number_in 16 67108864) (lent_number f said lexeme c.get_strs-2.result tells c.get_strs-2.ensures) in
    let third = ap (number_in 1 65536) (lent_number f said instances c.get_strs-3.result tells c.get_strs-3.ensures) in
    refused_up (number_in 1 65536 (words_in c.get_strs-3.result)) (limits_in said) c.in_err-instances.field-0.0
    c.from_residual-in_err-instances.result c.from_residual-in_err-instances.ensures.1
    (λ none. no_instances said c.in_ok-fuel.fuel c.in_ok-lexeme.lexeme (sym first ∙ c.in_ok-fuel.ensures.reads)
    (sym second ∙ c.in_ok-lexeme.ensures.reads) (sym third ∙ none))
    c.in_err-instances.ensures.reads

pub returns : goal.returns
returns c = λ said tells.
    let f = found_of c.args.matches.now in
    let first = ap (number_in 1 1000000000000) (lent_number f said fuel c.get_strs.result tells c.get_strs.ensures) in
    let second = ap (number_in 16 67108864) (lent_number f said lexeme c.get_strs-2.result tells c.get_strs-2.ensures) in
    let third = ap (number_in 1 65536) (lent_number f said instances c.get_strs-3.result tells c.get_strs-3.ensures) in
    all_limits said c.in_ok-fuel.fuel c.in_ok-lexeme.lexeme c.in_ok-instances.instances (sym first ∙ c.in_ok-fuel.ensures.reads)
    (sym second ∙ c.in_ok-lexeme.ensures.reads) (sym third ∙ c.in_ok-instances.ensures.reads)
    ∙ ap (λ l. Some l) (sym c.limits_with.ensures)
