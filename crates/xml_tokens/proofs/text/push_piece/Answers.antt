use Rattle.std.proofs.Common.{◌≡◌, ℕ, List, ◌++◌, Result, Ok, Err, IfOk, IsUtf8, cond, sym, ap, ◌∙◌, subst}
use Rattle.std.proofs.lemmas.Str.{IsUtf8-append}
use Rattle.std.specs.Prelude.{is_ok}
use Rattle.std.specs.declared.alloc.AllocError.{AllocError}
use Rattle.xml_tokens.proofs.TextLemmas.{literal-kept}
use Rattle.xml_tokens.proofs.text.push_piece.Goals as goal

pub returns-else-broken-clause-said : goal.returns-else-broken-clause-said
returns-else-broken-clause-said c =
    extended c.extend_from_slice.result _ c.args.out.now.items c.args.bytes.now _ c.extend_from_slice.ensures.items (sym (literal-kept c.args.context c.args.bytes.now (c.requires.broken c.if-broken.false))) where
      extended : (r : Result (Unit {0}) AllocError) (new old bytes said : List ℕ) → new ≡ cond (is_ok r) (old ++ bytes) old → bytes ≡ said → IfOk r (λ done. new ≡ old ++ said)
      extended (Ok done) new old bytes said h e = h ∙ ap (λ l. old ++ l) e
      extended (Err refused) new old bytes said h e = tt

pub returns-else-broken-clause-utf8 : goal.returns-else-broken-clause-utf8
returns-else-broken-clause-utf8 c = λ u.
    extended c.extend_from_slice.result _ c.args.out.now.items c.args.bytes.now c.extend_from_slice.ensures.items (IsUtf8-append c.args.out.now.items c.args.bytes.now u c.requires.utf8) where
      extended : (r : Result (Unit {0}) AllocError) (new old bytes : List ℕ) → new ≡ cond (is_ok r) (old ++ bytes) old → IsUtf8 (old ++ bytes) → IfOk r (λ done. IsUtf8 new)
      extended (Ok done) new old bytes h u = subst IsUtf8 (sym h) u
      extended (Err refused) new old bytes h u = tt
