use Rattle.std.proofs.Common.{◌≡◌, ◌++◌, ◌-◌, ◌∙◌, ap, sym, arith, drop, length, length-append, None}
use Rattle.xml_tokens.specs.Reader.{Reader}
use Rattle.xml_tokens.specs.inside.Simple.{end_of}
use Rattle.xml_tokens.proofs.EndLemmas.{end-taken, not-some}
use Rattle.xml_tokens.proofs.lexer.Lexer.take_end_of.Goals as goal

pub returns-clause-taken : goal.returns-clause-taken
returns-clause-taken c =
    let l = c.self.inside in
    let r = c.args.self.now in
    let name = c.args.name.now in
    let front = c.tail-unread.result.now in
    let more = c.in_ok-rest.rest.now in
    let fresh : r.over ≡ None = sym (ap (λ (q : Reader). q.over) c.self.view_is) ∙ not-some l.over c.if-is_some.ensures in
    let unread : r.unread ≡ end_of name ++ more =
    sym (ap (λ (q : Reader). q.unread) c.self.view_is) ∙ (sym (c.tail-unread.ensures ∙ ap (drop l.start) c.deref.ensures.value) ∙ c.in_ok-rest.ensures) in
    let whole : length front - length more ≡ length (end_of name) = omega (arith, ap length c.in_ok-rest.ensures, length-append (end_of name) more) in
    let taken = end-taken r name more l.offset (length front - length more) c.requires.utf8 c.requires.name fresh unread (ap (λ (q : Reader). q.offset) c.self.view_is) whole
    (omega (arith, c.if-size-room.false, c.room.ensures)) (omega (arith, c.if-size-room.false, c.room.ensures)) in
    (taken.0, c.pass.ensures ∙ taken.1)
