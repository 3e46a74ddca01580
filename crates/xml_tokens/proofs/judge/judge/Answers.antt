use Rattle.std.proofs.Common.{sym, ◌∙◌, subst, Ok}
use Rattle.xml_tokens.specs.inside.Spans.{IsEase, IsJudged}
use Rattle.xml_tokens.specs.declared.lexeme.Body.TheVariants.{Chars}
use Rattle.xml_tokens.proofs.JudgedLemmas.{judged-fault, judged-sound, sound-utf8}
use Rattle.xml_tokens.proofs.PlainLemmas.{easy-judged, easy-unbroken, easy-utf8, literal-judged}
use Rattle.xml_tokens.proofs.judge.judge.Goals as goal

pub text_of-requires : goal.text_of-requires
text_of-requires c = easy-utf8 c.args.bytes.now (subst (IsEase c.args.bytes.now) c.in-Literal.is c.ease_of.ensures).0

pub returns-in_ok-text-in-Literal : goal.returns-in_ok-text-in-Literal
returns-in_ok-text-in-Literal c =
    let ease = subst (IsEase c.args.bytes.now) c.in-Literal.is c.ease_of.ensures in
    literal-judged c.args.bytes.now ease.0 ease.1 c.args.first ∙ sym (λ i. Ok (Chars (c.in_ok-text-in-Literal.ensures i) (c.is_blank-blank.ensures i)))

pub referring-requires-clause-utf8 : goal.referring-requires-clause-utf8
referring-requires-clause-utf8 c = easy-utf8 c.args.bytes.now (subst (IsEase c.args.bytes.now) c.in-Referring.is c.ease_of.ensures)

pub referring-requires-clause-unbroken : goal.referring-requires-clause-unbroken
referring-requires-clause-unbroken c = easy-unbroken c.args.bytes.now (subst (IsEase c.args.bytes.now) c.in-Referring.is c.ease_of.ensures)

pub returns-in-Referring : goal.returns-in-Referring
returns-in-Referring c =
    subst (λ j. IsJudged j c.referring.result) (sym (easy-judged c.args.bytes.now (subst (IsEase c.args.bytes.now) c.in-Referring.is c.ease_of.ensures) c.args.first)) c.referring.ensures

pub by_form-requires : goal.by_form-requires
by_form-requires c = sound-utf8 c.args.bytes.now (sym c.in-None.ensures)

pub returns-in-None : goal.returns-in-None
returns-in-None c =
    subst (λ j. IsJudged j c.by_form.result) (sym (judged-sound c.args.bytes.now c.args.first (sym c.in-None.ensures))) c.by_form.ensures

pub returns-in-Some : goal.returns-in-Some
returns-in-Some c = judged-fault c.args.bytes.now c.args.first c.in-Some.kind (sym c.in-Some.ensures)
