use Rattle.std.proofs.Common.{◌+◌, ◌∙◌, sym}
use Rattle.std.proofs.lemmas.List.{take_rest}
use Rattle.stxpath_syntax.proofs.Looping.{stands}
use Rattle.stxpath_syntax.proofs.lex.next_token.Goals as goal

pub returns : goal.returns
returns c =
    stands c.args.before c.args.text.now c.space_len-skipped.result c.in_ok-token.len (c.args.before.at + c.space_len-skipped.result) c.in_ok-token.token c.classed-token.result
    c.space_len-skipped.ensures.value c.space_len-skipped.ensures.bound (rw take_rest at c.in_ok-token.ensures)
    (sym c.is_too_deep.ensures ∙ c.if-is_too_deep.false) c.classed-token.ensures
