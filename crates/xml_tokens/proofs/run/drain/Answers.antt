use Rattle.std.proofs.Common.{◌≡◌, ◌++◌, ◌∷◌, [], List, ap, sym, ◌∙◌, arith, length, ◌<◌, subst, append_assoc}
use Rattle.xml_tokens.specs.Reader.{Reader, due}
use Rattle.xml_tokens.specs.Run.{Taken}
use Rattle.xml_tokens.specs.declared.lexeme.Lexeme.{Lexeme}
use Rattle.xml_tokens.proofs.ReaderLemmas.{after-need}
use Rattle.xml_tokens.proofs.RunLemmas.{after-shorter, after-fresh, taken-append}
use Rattle.xml_tokens.proofs.run.drain.Goals as goal

pub taking-smaller : goal.taking-smaller
taking-smaller c =
    let next = after-shorter c.taking.lexer c.in-Lexeme.lexeme c.taking.invariant.fresh (sym c.in-Lexeme.ensures.answer) in
    let less : length c.next.new.self.unread < length c.taking.lexer.unread = omega (arith, next, ap (λ (r : Reader). length r.unread) c.in-Lexeme.ensures.after) in
    less

pub taking-preserved : goal.taking-preserved
taking-preserved c =
    let t = c.taking.invariant.taken in
    let lexeme = c.in-Lexeme.lexeme in
    record {
      fresh = ap (λ (r : Reader). r.over) c.in-Lexeme.ensures.after ∙ after-fresh c.taking.lexer lexeme c.taking.invariant.fresh;
      taken = (
        t.0 ++ lexeme ∷ [],
        c.in_ok-push-in-Lexeme.ensures.ok ∙ (ap (λ (ls : List Lexeme). ls ++ lexeme ∷ []) t.1 ∙ append_assoc c.args.lexemes.now t.0 (lexeme ∷ [])),
        taken-append c.args.lexer.now c.taking.lexer c.next.new.self t.0 (lexeme ∷ []) t.2 (sym c.in-Lexeme.ensures.answer, sym c.in-Lexeme.ensures.after),
      );
    }

pub returns-in-Need : goal.returns-in-Need
returns-in-Need c =
    let t = c.taking.invariant.taken in
    let same : c.next.new.self ≡ c.taking.lexer = c.in-Need.ensures.after ∙ after-need c.taking.lexer in
    (t.0, t.1, subst (λ (r : Reader). Taken c.args.lexer.now t.0 r) (sym same) t.2, ap due same ∙ sym c.in-Need.ensures.answer)
