-- How to show that one definition by general recursion gives what another gives, and what follows.
use Rattle.std.proofs.Common.{ℕ, zero, suc, ◌+◌, List, [], ◌∷◌, refl, subst, arith}
use Rattle.stx_base.specs.Course.{Course, Ret, Halt, Say, Ask, and_then, says, Answer, Given, Over, Unknown, with_result, value, run, Ends}
use Rattle.stx_base.specs.Refinement.{Below, Refines}
use Rattle.stx_base.proofs.Course.{below_self, below_trans, over_below, after_below, with_result_below, deeper, value_and_then, one_end}

module _ {Q P R O E : Type 0} {code : Q → Course Q R O E} {other : P → Course P R O E} where
  pub by_ret : (n : ℕ) (r : R) → Refines code other n (Ret r) (Ret r)
  by_ret n r = record { depth = 0; below = refl }

  pub by_halt : (n : ℕ) (e : E) → Refines code other n (Halt e) (Halt e)
  by_halt n e = record { depth = 0; below = refl }

  pub by_say : {n : ℕ} (o : O) {x : Course Q R O E} {y : Course P R O E} → Refines code other n x y → Refines code other n (Say o x) (Say o y)
  by_say o h = record { depth = h.depth; below = after_below (o ∷ []) _ _ h.below }

  pub by_says : {n : ℕ} (os : List O) {x : Course Q R O E} {y : Course P R O E} → Refines code other n x y → Refines code other n (says os x) (says os y)
  by_says [] h = h
  by_says (o ∷ os) h = by_say o (by_says os h)

  -- what follows a known answer
  then_known : (n : ℕ) (a : Answer R O E) (y : Course P R O E) (d : ℕ) (k : R → Course Q R O E) (j : R → Course P R O E) → Below a (value (run other d) y) → ((r : R) → Refines code other n (k r) (j r)) → (m : ℕ) × Below (with_result a (λ r. value (run code n) (k r))) (value (run other m) (and_then y j))
  then_known n (Given os r) y d k j l h =
      let g = h r in
      let m = d + g.depth in
      let a = below_trans (Given os r) _ _ l (deeper other d m (omega arith) y) in
      let b = below_trans _ _ _ g.below (deeper other g.depth m (omega arith) (j r)) in
      (m, rw (value_and_then (run other m) y j, a) (after_below os _ _ b))
  then_known n (Over os e) y d k j l h = (d, rw (value_and_then (run other d) y j, l) refl)
  then_known n (Unknown os) y d k j l h = (d, tt)

  pub by_then : {n : ℕ} {x : Course Q R O E} {y : Course P R O E} (k : R → Course Q R O E) (j : R → Course P R O E) → Refines code other n x y → ((r : R) → Refines code other n (k r) (j r)) → Refines code other n (and_then x k) (and_then y j)
  by_then {n} {x} {y} k j g h =
      let t = then_known n (value (run code n) x) y g.depth k j g.below h in
      record { depth = t.0; below = rw (value_and_then (run code n) x k) t.1 }

  -- a call of the first gives what its code gives, nested one less deep
  pub by_call : {n : ℕ} (q : Q) (k : R → Course Q R O E) (y : Course P R O E) (j : R → Course P R O E) → Refines code other n (code q) y → ((r : R) → Refines code other (suc n) (k r) (j r)) → Refines code other (suc n) (Ask q k) (and_then y j)
  by_call {n} q k y j g h =
      let t = then_known (suc n) (value (run code n) (code q)) y g.depth k j g.below h in record { depth = t.0; below = t.1 }

  -- nothing is known of a call at depth 0
  pub at_none : (q : Q) (k : R → Course Q R O E) (y : Course P R O E) → Refines code other zero (Ask q k) y
  at_none q k y = record { depth = 0; below = tt }

  -- a call of the second does what its code says
  pub by_other_call : {n : ℕ} {x : Course Q R O E} (p : P) (j : R → Course P R O E) → Refines code other n x (and_then (other p) j) → Refines code other n x (Ask p j)
  by_other_call p j h =
      let d = h.depth in
      record {
        depth = suc d;
        below = below_trans _ _ _ h.below (rw (value_and_then (run other d) (other p) j) (with_result_below _ _ _ _ (below_self (value (run other d) (other p))) (λ r. deeper other d (suc d) (omega arith) (j r))));
      }

  -- each end of the first is one of the second
  pub ends_too : {x : Course Q R O E} {y : Course P R O E} → ((n : ℕ) → Refines code other n x y) → {os : List O} {e : E} → Ends code x os e → Ends other y os e
  ends_too h {os} {e} a =
      let r = h a.depth in
      record { depth = r.depth; comes = over_below _ _ os e r.below a.comes }

  -- where the first has an end, each end of the second is that one
  pub ends_back : {x : Course Q R O E} {y : Course P R O E} → ((n : ℕ) → Refines code other n x y) → {os ps : List O} {e f : E} → Ends code x os e → Ends other y ps f → Ends code x ps f
  ends_back {x} {y} h {os} {ps} {e} {f} a b =
      let u = one_end (ends_too h a) b in
      subst (λ f. Ends code x ps f) u.1 (subst (λ l. Ends code x l e) u.0 a)
