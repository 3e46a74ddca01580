-- The parts that are read make the whole.
use Rattle.std.proofs.Common.{◌∙◌, ap, codes, map, string_bytes, sym}
use Rattle.clap.specs.Matches.{found_of}
use Rattle.command_words.specs.Finding.{words_in}
use Rattle.command_words.specs.Words.{command_of, operands_of}
use Rattle.command_words.proofs.GivenUses.{given_free, lent_uses}
use Rattle.command_words.proofs.Wanted.{no_operands, refused_up, whole}
use Rattle.command_words.proofs.command.read_words.Goals as goal

pub returns-in_err-sheet : goal.returns-in_err-sheet
returns-in_err-sheet c =
    let words = map (λ word. string_bytes word) c.args.words.now in
    let finds = c.in_ok-matches.ensures in let said = finds.0 in let tells = finds.1.1 in
    let free = lent_uses (found_of c.in_ok-matches.matches) said (codes "operands") c.get_strs.result tells c.get_strs.ensures ∙ given_free said in
    refused_up (operands_of (words_in c.get_strs.result)) (command_of words) c.in_err-sheet.field-0.0 c.from_residual-in_err-sheet.result
    c.from_residual-in_err-sheet.ensures.1
    (λ none. no_operands words said finds.1.0 c.in_ok-limits.limits c.in_ok-mode.mode (c.in_ok-limits.ensures said tells)
    (c.in_ok-mode.ensures said tells) (ap operands_of (sym free) ∙ none))
    c.in_err-sheet.ensures

pub returns : goal.returns
returns c =
    let words = map (λ word. string_bytes word) c.args.words.now in
    let finds = c.in_ok-matches.ensures in let said = finds.0 in let tells = finds.1.1 in
    let free = lent_uses (found_of c.in_ok-matches.matches) said (codes "operands") c.get_strs.result tells c.get_strs.ensures ∙ given_free said in
    whole words said finds.1.0 c.in_ok-limits.limits c.in_ok-mode.mode (c.in_ok-sheet.sheet, c.in_ok-sheet.params)
    (c.in_ok-limits.ensures said tells) (c.in_ok-mode.ensures said tells) (ap operands_of (sym free) ∙ c.in_ok-sheet.ensures)
