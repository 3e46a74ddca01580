use Rattle.std.proofs.Common.{◌==◌, not, sym, arith}
use Rattle.xml_tokens.specs.inside.Spans.{is_changed}
use Rattle.xml_tokens.proofs.TextLemmas.{cut-all, cut-utf8}
use Rattle.xml_tokens.proofs.text.push_part.Goals as goal

pub referred-requires : goal.referred-requires
referred-requires c = (cut-utf8 59 c.args.part.now (c.in-Some.name.now, c.in-Some.literal.now) (sym c.in-Some.ensures) (omega arith) c.requires.utf8).0

pub push_piece-requires-clause-utf8 : goal.push_piece-requires-clause-utf8
push_piece-requires-clause-utf8 c = (cut-utf8 59 c.args.part.now (c.in-Some.name.now, c.in-Some.literal.now) (sym c.in-Some.ensures) (omega arith) c.requires.utf8).1

pub push_piece-requires-clause-broken : goal.push_piece-requires-clause-broken
push_piece-requires-clause-broken c = λ e.
    (cut-all (λ b. b == 59) (λ b. not (is_changed c.args.context b)) c.args.part.now (c.in-Some.name.now, c.in-Some.literal.now) (sym c.in-Some.ensures) (c.requires.broken e)).1
