use Rattle.std.proofs.Common.{sym, ap, refl, ◌∙◌, arith}
use Rattle.stx_base.specs.Character.{is_space}
use Rattle.std.specs.List.{list_all}
use Rattle.xml_tokens.specs.declared.lexeme.Body.TheVariants as body
use Rattle.xml_tokens.specs.declared.lexeme.Step.TheVariants as step
use Rattle.xml_tokens.proofs.PlainLemmas.{plain-utf8}
use Rattle.xml_tokens.proofs.SimpleLemmas.{text-due}
use Rattle.xml_tokens.proofs.lexer.at_text.Goals as goal

pub text_from_spare-requires : goal.text_from_spare-requires
text_from_spare-requires c = plain-utf8 c.args.bytes.now c.requires.plain

pub returns-in-Ok : goal.returns-in-Ok
returns-in-Ok c = λ first. (
  text-due c.args.bytes.now c.requires.plain c.args.limits.now c.args.at first (omega arith)
      ∙ (ap (λ t. step.Lexeme (record { offset = c.args.at; body = body.Chars t (list_all is_space c.args.bytes.now) })) (sym c.in-Ok.ensures)
      ∙ ap (λ b. step.Lexeme (record { offset = c.args.at; body = body.Chars c.in-Ok.text b })) (sym c.is_blank-blank.ensures)),
  refl,
)
