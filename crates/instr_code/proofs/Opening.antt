-- What comes of a course where calls are opened one behind another, so many in all, comes of it where they are nested; and what
-- comes of one course comes of another at some depth.
use Rattle.std.proofs.Common.{◌≡◌, ℕ, zero, suc, List, [], ◌∷◌, refl, sym, ap, subst, ◌∙◌, arith, append-nil}
use Rattle.stx_base.specs.Course.{Course, Ret, Halt, Say, Ask, and_then, says, Answer, Given, Over, Unknown, after, with_result, value, run}
use Rattle.stx_base.specs.Refinement.{Below}
use Rattle.stx_base.proofs.Course.{after_after, after_below, after_none, and_then_ret, below_self, below_trans, deeper, value_and_then, value_says, with_result_below}

with_ret : {R O E : Type 0} (a : Answer R O E) → with_result a (λ r. Given [] r) ≡ a
with_ret (Given os r) = ap (λ l. Given l r) (append-nil os)
with_ret (Over os e) = refl
with_ret (Unknown os) = refl

with_after : {R O E : Type 0} (os : List O) (a : Answer R O E) (k : R → Answer R O E) → with_result (after os a) k ≡ after os (with_result a k)
with_after os (Given ps r) k = after_after os ps (k r)
with_after os (Over ps e) k = refl
with_after os (Unknown ps) k = refl

with_with : {R O E : Type 0} (a : Answer R O E) (h k : R → Answer R O E) → with_result (with_result a h) k ≡ with_result a (λ r. with_result (h r) k)
with_with (Given os r) h k = with_after os (h r) k
with_with (Over os e) h k = refl
with_with (Unknown os) h k = refl

module _ {Q R O E : Type 0} (code : Q → Course Q R O E) where
  -- what comes of a course, where a function says what comes of opening its first call
  abbrev pub opened : (Course Q R O E → Answer R O E) → Course Q R O E → Answer R O E
  opened f (Ret r) = Given [] r
  opened f (Halt e) = Over [] e
  opened f (Say o x) = after (o ∷ []) (opened f x)
  opened f (Ask q k) = f (and_then (code q) k)

  abbrev pub further : ℕ → Course Q R O E → Answer R O E
  further zero x = Unknown []
  further (suc n) x = opened (further n) x

  -- what comes of a course where so many calls are opened
  abbrev pub opening : ℕ → Course Q R O E → Answer R O E
  opening n x = opened (further n) x

  opened_says : (f : Course Q R O E → Answer R O E) (os : List O) (x : Course Q R O E) → opened f (says os x) ≡ after os (opened f x)
  opened_says f [] x = sym (after_none (opened f x))
  opened_says f (o ∷ os) x = ap (after (o ∷ [])) (opened_says f os x) ∙ sym (after_after (o ∷ []) os (opened f x))

  pub opening_says : (n : ℕ) (os : List O) (x : Course Q R O E) → opening n (says os x) ≡ after os (opening n x)
  opening_says n os x = opened_says (further n) os x

  pub record Opens (a : Answer R O E) (x : Course Q R O E) : Type 0 where
    pub count : ℕ
    pub below : Below a (opening count x)

  abbrev Follows : (R → Answer R O E) → (R → Course Q R O E) → Type 0
  Follows h k = (r : R) → Opens (h r) (k r)

  opens_course : (f : Q → Answer R O E) → ((q : Q) (h : R → Answer R O E) (k : R → Course Q R O E) → Follows h k → Opens (with_result (f q) h) (Ask q k))
      → (x : Course Q R O E) (h : R → Answer R O E) (k : R → Course Q R O E) → Follows h k → Opens (with_result (value f x) h) (and_then x k)
  opens_course f calls (Ret r) h k o = subst (λ a. Opens a (k r)) (sym (after_none (h r))) (o r)
  opens_course f calls (Halt e) h k o = record { count = 0; below = refl }
  opens_course f calls (Say p x) h k o =
      let c = opens_course f calls x h k o in
      record { count = c.count; below = subst (λ a. Below a (after (p ∷ []) (opening c.count (and_then x k)))) (sym (with_after (p ∷ []) (value f x) h)) (after_below (p ∷ []) _ _ c.below) }
  opens_course f calls (Ask q g) h k o =
      subst (λ a. Opens a (Ask q (λ r. and_then (g r) k))) (sym (with_with (f q) (λ r. value f (g r)) h))
      (calls q (λ r. with_result (value f (g r)) h) (λ r. and_then (g r) k) (λ r. opens_course f calls (g r) h k o))

  opens_call : (n : ℕ) (q : Q) (h : R → Answer R O E) (k : R → Course Q R O E) → Follows h k → Opens (with_result (run code n q) h) (Ask q k)
  opens_call zero q h k o = record { count = 0; below = tt }
  opens_call (suc n) q h k o =
      let c = opens_course (run code n) (opens_call n) (code q) h k o in record { count = suc c.count; below = c.below }

  -- what comes of nested calls comes of opening some
  pub opens : (n : ℕ) (x : Course Q R O E) → Opens (value (run code n) x) x
  opens n x =
      let c = opens_course (run code n) (opens_call n) x (λ r. Given [] r) (λ r. Ret r) (λ r. record { count = 0; below = refl }) in
      subst (λ y. Opens (value (run code n) x) y) (and_then_ret x) (subst (λ a. Opens a (and_then x (λ r. Ret r))) (with_ret (value (run code n) x)) c)

  -- a course gives the answer, if it is known, at some depth
  pub record Reaches (a : Answer R O E) (y : Course Q R O E) : Type 0 where
    pub depth : ℕ
    pub below : Below a (value (run code depth) y)

  pub reach_says : (os : List O) (a : Answer R O E) (y : Course Q R O E) → Reaches a y → Reaches (after os a) (says os y)
  reach_says os a y h = record { depth = h.depth; below = rw (value_says (run code h.depth) os y) (after_below os _ _ h.below) }

  pub reach_call : (q : Q) (j : R → Course Q R O E) (a : Answer R O E) → Reaches a (and_then (code q) j) → Reaches a (Ask q j)
  reach_call q j a h =
      let d = h.depth in
      record {
        depth = suc d;
        below = below_trans a _ _ h.below (rw (value_and_then (run code d) (code q) j) (with_result_below _ _ _ _ (below_self (value (run code d) (code q))) (λ r. deeper code d (suc d) (omega arith) (j r))));
      }
