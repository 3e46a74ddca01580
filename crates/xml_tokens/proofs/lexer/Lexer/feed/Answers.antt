use Rattle.std.proofs.Common.{◌≡◌, ℕ, sym, ap, ◌∙◌, arith, length, drop, subst, List, ◌++◌, length-append}
use Rattle.std.proofs.lemmas.List.{drop-append-le}
use Rattle.xml_tokens.specs.inside.Look.{GoesOn}
use Rattle.xml_tokens.specs.inside.Lexer.{reader_of}
use Rattle.xml_tokens.proofs.ReaderLemmas.{goes-on-more}
use Rattle.xml_tokens.proofs.lexer.Lexer.feed.Goals as goal

pub invariant_of-self-2 : goal.invariant_of-self-2
invariant_of-self-2 c =
    let l = c.self.inside in
    let items = c.in_ok-extend_from_slice.ensures.items in
    let unread : drop l.start c.extend_from_slice.new.self.items ≡ drop l.start l.buffer.items ++ c.args.piece.now =
    ap (drop l.start) items ∙ drop-append-le l.start l.buffer.items c.args.piece.now (omega (arith, c.self.invariant.start)) in
    record {
      start = omega (arith, c.self.invariant.start, ap length items, length-append l.buffer.items c.args.piece.now);
      offset = c.self.invariant.offset;
      scan = subst (λ (u : List ℕ). GoesOn l.scan (record (reader_of l) { unread = u })) (sym unread) (goes-on-more l.scan (reader_of l) c.args.piece.now c.self.invariant.scan);
    }
