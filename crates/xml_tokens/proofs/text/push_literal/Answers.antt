use Rattle.std.proofs.Common.{◌≡◌, ℕ, List, [], ◌∷◌, ◌++◌, Result, Ok, Err, IfOk, IsUtf8, cond, take, drop, sym, ap, ◌∙◌, subst, append_assoc}
use Rattle.std.proofs.lemmas.Str.{IsUtf8-append}
use Rattle.std.specs.Prelude.{is_ok}
use Rattle.std.specs.declared.alloc.AllocError.{AllocError}
use Rattle.xml_tokens.specs.Texts.{literal}
use Rattle.xml_tokens.specs.inside.Spans.{break_as, behind_break}
use Rattle.xml_tokens.proofs.TextLemmas.{literal-next, literal-none, front-utf8, behind-utf8, break-utf8}
use Rattle.xml_tokens.proofs.text.push_literal.Goals as goal

pub loop-at-preserved : goal.loop-at-preserved
loop-at-preserved c =
    let place = c.args.context in
    let out = c.loop-at.out.items in
    let rest = c.loop-at.rest.now in
    let front = take c.in-Some.at rest in
    let behind = c.behind_break-rest.result.now in
    let made : c.push.new.self.items ≡ (out ++ front) ++ break_as place ∷ [] =
    c.in_ok-push.ensures.items ∙ (ap (λ l. l ++ c.break_as.result ∷ []) (c.in_ok-extend_from_slice.ensures.items ∙ ap (λ l. out ++ l) c.head.ensures) ∙ ap (λ b. (out ++ front) ++ b ∷ []) c.break_as.ensures) in
    let rest_is : behind ≡ behind_break (drop c.in-Some.at rest) = c.behind_break-rest.ensures ∙ ap behind_break c.tail.ensures in
    record {
      said = ap (λ l. l ++ literal place behind) made ∙ (append_assoc (out ++ front) (break_as place ∷ []) (literal place behind) ∙ (append_assoc out front (break_as place ∷ literal place behind)
          ∙ (ap (λ l. out ++ (front ++ break_as place ∷ literal place l)) rest_is ∙ (ap (λ l. out ++ l) (sym (literal-next place rest c.in-Some.at c.in-Some.ensures)) ∙ c.loop-at.invariant.said))));
      rest = subst IsUtf8 (sym rest_is) (behind-utf8 place rest c.in-Some.at c.in-Some.ensures c.loop-at.invariant.rest);
      utf8 = λ u. subst IsUtf8 (sym made) (IsUtf8-append (out ++ front) (break_as place ∷ []) (IsUtf8-append out front (c.loop-at.invariant.utf8 u) (front-utf8 place rest c.in-Some.at c.in-Some.ensures c.loop-at.invariant.rest)) (break-utf8 place));
    }

pub returns-clause-said : goal.returns-clause-said
returns-clause-said c =
    let rest = c.loop-at.rest.now in
    extended c.extend_from_slice-2.result _ (c.loop-at.out.items) rest _ c.extend_from_slice-2.ensures.items
    (ap (λ l. c.loop-at.out.items ++ l) (sym (literal-none c.args.context rest c.in_default.ensures)) ∙ c.loop-at.invariant.said) where
      extended : (r : Result (Unit {0}) AllocError) (new old bytes said : List ℕ) → new ≡ cond (is_ok r) (old ++ bytes) old → old ++ bytes ≡ said → IfOk r (λ done. new ≡ said)
      extended (Ok done) new old bytes said h e = h ∙ e
      extended (Err refused) new old bytes said h e = tt

pub returns-clause-utf8 : goal.returns-clause-utf8
returns-clause-utf8 c = λ u.
    extended c.extend_from_slice-2.result _ c.loop-at.out.items c.loop-at.rest.now c.extend_from_slice-2.ensures.items (IsUtf8-append c.loop-at.out.items c.loop-at.rest.now (c.loop-at.invariant.utf8 u) c.loop-at.invariant.rest) where
      extended : (r : Result (Unit {0}) AllocError) (new old bytes : List ℕ) → new ≡ cond (is_ok r) (old ++ bytes) old → IsUtf8 (old ++ bytes) → IfOk r (λ done. IsUtf8 new)
      extended (Ok done) new old bytes h u = subst IsUtf8 (sym h) u
      extended (Err refused) new old bytes h u = tt
