use Rattle.std.proofs.Common.{IsUtf8, take, drop, sym, ap, ◌∙◌, subst}
use Rattle.xml_tokens.proofs.PrologLemmas.{word-utf8}
use Rattle.xml_tokens.proofs.AttributeLemmas.{after_space-utf8}
use Rattle.xml_tokens.proofs.judge.instruction.Goals as goal

pub is_target-requires : goal.is_target-requires
is_target-requires c = subst IsUtf8 (sym (c.split_at.ensures.front ∙ ap (λ n. take n c.args.inside.now) c.word_len.ensures.value)) (word-utf8 c.args.inside.now c.requires).0

pub text_of-requires : goal.text_of-requires
text_of-requires c = subst IsUtf8 (sym (c.split_at.ensures.front ∙ ap (λ n. take n c.args.inside.now) c.word_len.ensures.value)) (word-utf8 c.args.inside.now c.requires).0

pub lines_of-requires : goal.lines_of-requires
lines_of-requires c =
    subst IsUtf8 (sym c.after_space.ensures) (after_space-utf8 c.split_at.result.1.now
    (subst IsUtf8 (sym (c.split_at.ensures.back ∙ ap (λ n. drop n c.args.inside.now) c.word_len.ensures.value)) (word-utf8 c.args.inside.now c.requires).1))
