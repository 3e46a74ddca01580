-- Clap's answer on the command line is what the words say.
use Rattle.std.proofs.Common.{◌∙◌, ap, map, string_bytes, subst, sym}
use Rattle.clap.specs.Faults.{fault_of, is_simple_and_free}
use Rattle.clap.specs.Kinds.{HasKind}
use Rattle.clap.specs.Simple.{is_simple, matches_of}
use Rattle.command_words.proofs.Agreement.{are_texts, finds_err, finds_ok, is_free_line, is_simple_line}
use Rattle.command_words.proofs.uses.read_uses.Goals as goal

pub returns-in-Ok-try_get_matches_from : goal.returns-in-Ok-try_get_matches_from
returns-in-Ok-try_get_matches_from c =
    let words = map (λ word. string_bytes word) c.args.words.now in
    let line = c.in-Ok.ensures in
    let parsed = c.in-Ok-try_get_matches_from in
    finds_ok words (are_texts c.args.words.now) parsed.matches
    (ap (λ a. fault_of a words) (sym line) ∙ parsed.ensures.kinds (ap is_simple_and_free line ∙ is_free_line))
    ((parsed.ensures.matches (ap is_simple line ∙ is_simple_line)).0 ∙ ap (λ a. matches_of a words) line)

pub returns-in-Err-try_get_matches_from : goal.returns-in-Err-try_get_matches_from
returns-in-Err-try_get_matches_from c =
    let words = map (λ word. string_bytes word) c.args.words.now in
    let line = c.in-Ok.ensures in
    let refused = c.in-Err-try_get_matches_from in
    finds_err words (are_texts c.args.words.now) refused.error c.fault.result
    (subst (λ a. HasKind (fault_of a words) refused.error) line (refused.ensures.kinds (ap is_simple_and_free line ∙ is_free_line)))
    c.fault.ensures.0
