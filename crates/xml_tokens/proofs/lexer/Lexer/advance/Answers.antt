use Rattle.std.proofs.Common.{◌≡◌, sym, ap, ◌∙◌, drop, refl, subst, Some}
use Rattle.xml_tokens.specs.Reader.{Reader, IsAnswer, after}
use Rattle.xml_tokens.specs.inside.Lexer.{reader_of}
use Rattle.xml_tokens.specs.inside.Look.{passed}
use Rattle.xml_tokens.specs.declared.lexeme.Lexeme.{Lexeme}
use Rattle.xml_tokens.specs.declared.lexeme.Step.{Step}
use Rattle.xml_tokens.specs.declared.lexeme.Step.TheVariants as step
use Rattle.xml_tokens.proofs.ReaderLemmas.{answer-over, after-over, after-again, after-need, next-lexeme}
use Rattle.xml_tokens.proofs.lexer.Lexer.advance.Goals as goal

pub returns-in-Some-clause-answer : goal.returns-in-Some-clause-answer
returns-in-Some-clause-answer c =
    let over : c.args.self.now.over ≡ Some c.in-Some.ending = sym (ap (λ (r : Reader). r.over) c.self.view_is) ∙ c.in-Some.is in
    subst (λ (s : Step). IsAnswer c.args.self.now s) (sym c.step.ensures) (answer-over c.args.self.now c.in-Some.ending over)

pub returns-in-Some-clause-after : goal.returns-in-Some-clause-after
returns-in-Some-clause-after c =
    let over : c.args.self.now.over ≡ Some c.in-Some.ending = sym (ap (λ (r : Reader). r.over) c.self.view_is) ∙ c.in-Some.is in
    after-again c.args.self.now c.in-Some.ending over ∙ ap (after c.args.self.now) (sym c.step.ensures)

pub returns-in-Lexeme-clause-after : goal.returns-in-Lexeme-clause-after
returns-in-Lexeme-clause-after c =
    let l = c.self.inside in
    let lexeme : Lexeme = record { offset = c.in-Lexeme.offset; body = c.in-Lexeme.body } in
    let unread : c.tail.result.now ≡ drop l.start l.buffer.items = c.tail.ensures ∙ ap (drop l.start) c.deref.ensures.value in
    c.pass.ensures
    ∙ subst (λ (r : Reader). passed c.in-Lexeme.size r ≡ after r (step.Lexeme lexeme)) c.self.view_is
    (next-lexeme (reader_of l) c.tail.result.now (drop c.in-Lexeme.size (drop l.start l.buffer.items)) c.in-Lexeme.size lexeme unread c.in-Lexeme.ensures.1 refl)

pub returns-in-Wait-clause-after : goal.returns-in-Wait-clause-after
returns-in-Wait-clause-after c = c.self.view_is ∙ sym (after-need c.args.self.now)

pub returns-in-Over-clause-after : goal.returns-in-Over-clause-after
returns-in-Over-clause-after c =
    sym (ap (after (reader_of c.self.inside)) c.step-in-Over.ensures ∙ after-over (reader_of c.self.inside) c.in-Over.ending)
    ∙ ap (λ (r : Reader). after r c.step-in-Over.result) c.self.view_is
