use Rattle.std.proofs.Common.{subst, sym, ap, ◌∙◌}
use Rattle.xml_tokens.specs.Reader.{Reader, Shrinks, fed}
use Rattle.xml_tokens.proofs.AnswerLemmas.{answer-shrinks, answer-MayWant, answer-fed, after-limits}
use Rattle.xml_tokens.proofs.lexer.Lexer.next.Goals as goal

pub returns-clause-shrinks : goal.returns-clause-shrinks
returns-clause-shrinks c =
    subst (λ (r : Reader). Shrinks c.args.self.now c.advance.result r) (sym c.advance.ensures.after) (answer-shrinks c.args.self.now c.advance.result c.advance.ensures.answer)

pub returns-clause-wants : goal.returns-clause-wants
returns-clause-wants c = answer-MayWant c.args.self.now c.advance.result c.advance.ensures.within c.advance.ensures.answer

pub returns-clause-fed : goal.returns-clause-fed
returns-clause-fed c =
    ap fed c.advance.ensures.after ∙ answer-fed c.args.self.now c.advance.result c.advance.ensures.answer

pub returns-clause-limits : goal.returns-clause-limits
returns-clause-limits c =
    ap (λ (r : Reader). r.limits) c.advance.ensures.after ∙ after-limits c.args.self.now c.advance.result
