use Rattle.std.proofs.Common.{◌≡◌, ℕ, List, [], ◌∷◌, ◌++◌, Result, Ok, Err, IfOk, IsUtf8, cond, sym, subst, ◌∙◌}
use Rattle.std.specs.Prelude.{is_ok}
use Rattle.std.specs.declared.alloc.AllocError.{AllocError}
use Rattle.std.proofs.lemmas.Str.{IsUtf8-append}
use Rattle.xml_tokens.proofs.PlainLemmas.{less}
use Rattle.xml_tokens.proofs.Utf8Lemmas.{utf8-one}
use Rattle.xml_tokens.proofs.text.push_char.Goals as goal

pub returns-then-is_ascii-clause-utf8 : goal.returns-then-is_ascii-clause-utf8
returns-then-is_ascii-clause-utf8 c = λ u.
    subst IsUtf8 (sym c.in_ok-push.ensures.items) (IsUtf8-append c.args.out.now.items (c.args.c ∷ []) u (utf8-one c.args.c (less (sym c.is_ascii.ensures ∙ c.if-is_ascii.true))))

pub returns-clause-utf8 : goal.returns-clause-utf8
returns-clause-utf8 c = λ u.
    extended c.extend_from_slice.result _ c.args.out.now.items _ c.extend_from_slice.ensures.items (IsUtf8-append c.args.out.now.items _ u c.as_bytes.ensures.utf8) where
      extended : (r : Result (Unit {0}) AllocError) (new old bytes : List ℕ) → new ≡ cond (is_ok r) (old ++ bytes) old → IsUtf8 (old ++ bytes) → IfOk r (λ done. IsUtf8 new)
      extended (Ok done) new old bytes h u = subst IsUtf8 (sym h) u
      extended (Err refused) new old bytes h u = tt
