-- What holds of every definition by general recursion.
use Rattle.std.proofs.Common.{◌≡◌, ◌⊎◌, inl, inr, ℕ, zero, suc, ◌+◌, ◌≤◌, List, [], ◌∷◌, ◌++◌, refl, sym, ap, ◌∙◌, subst, arith, append_assoc, append-nil}
use Rattle.stx_base.specs.Course.{Course, Ret, Halt, Say, Ask, and_then, says, Answer, Given, Over, Unknown, after, with_result, value, run, Gives, Ends, Same, Begins, Continues}
use Rattle.stx_base.specs.Refinement.{Below}

-- functions that agree everywhere are equal
pub funext : {A B : Type 0} {f g : A → B} → ((a : A) → f a ≡ g a) → f ≡ g
funext h = λ i. λ a. h a i

-- Answers

module _ {R O E : Type 0} where
  pub below_self : (a : Answer R O E) → Below a a
  below_self (Given os r) = refl
  below_self (Over os e) = refl
  below_self (Unknown os) = tt

  pub below_trans : (a b c : Answer R O E) → Below a b → Below b c → Below a c
  below_trans (Given os r) b c l m = subst (λ z. Below z c) l m
  below_trans (Over os e) b c l m = subst (λ z. Below z c) l m
  below_trans (Unknown os) b c l m = tt

  -- an end that is known stays
  pub over_below : (a b : Answer R O E) (os : List O) (e : E) → Below a b → a ≡ Over os e → b ≡ Over os e
  over_below (Given ps r) b os e l h = cc
  over_below (Over ps f) b os e l h = l ∙ h
  over_below (Unknown ps) b os e l h = cc

  -- a result that is known stays
  pub given_below : (a b : Answer R O E) (os : List O) (r : R) → Below a b → a ≡ Given os r → b ≡ Given os r
  given_below (Given ps s) b os r l h = l ∙ h
  given_below (Over ps f) b os r l h = cc
  given_below (Unknown ps) b os r l h = cc

  pub after_none : (a : Answer R O E) → after [] a ≡ a
  after_none (Given ps r) = refl
  after_none (Over ps e) = refl
  after_none (Unknown ps) = refl

  pub after_after : (os ps : List O) (a : Answer R O E) → after (os ++ ps) a ≡ after os (after ps a)
  after_after os ps (Given rs r) = ap (λ l. Given l r) (append_assoc os ps rs)
  after_after os ps (Over rs e) = ap (λ l. Over l e) (append_assoc os ps rs)
  after_after os ps (Unknown rs) = ap (λ l. Unknown l) (append_assoc os ps rs)

  pub after_below : (os : List O) (a b : Answer R O E) → Below a b → Below (after os a) (after os b)
  after_below os (Given ps r) b l = ap (after os) l
  after_below os (Over ps e) b l = ap (after os) l
  after_below os (Unknown ps) b l = tt

  pub with_result_below : (a b : Answer R O E) (h k : R → Answer R O E) → Below a b → ((r : R) → Below (h r) (k r)) → Below (with_result a h) (with_result b k)
  with_result_below (Given os r) b h k l m = rw l (after_below os (h r) (k r) (m r))
  with_result_below (Over os e) b h k l m = ap (λ x. with_result x k) l
  with_result_below (Unknown os) b h k l m = tt

  with_result_after : (os : List O) (a : Answer R O E) (k : R → Answer R O E) → with_result (after os a) k ≡ after os (with_result a k)
  with_result_after os (Given ps r) k = after_after os ps (k r)
  with_result_after os (Over ps e) k = refl
  with_result_after os (Unknown ps) k = refl

  with_result_twice : (a : Answer R O E) (g h k : R → Answer R O E) → ((r : R) → g r ≡ with_result (h r) k) → with_result a g ≡ with_result (with_result a h) k
  with_result_twice (Given os r) g h k e = ap (after os) (e r) ∙ sym (with_result_after os (h r) k)
  with_result_twice (Over os x) g h k e = refl
  with_result_twice (Unknown os) g h k e = refl

  -- an end after os was said
  after_over : (os ps : List O) (a : Answer R O E) (e : E) → after os a ≡ Over ps e → (rs : List O) × (a ≡ Over rs e) × (os ++ rs ≡ ps)
  after_over os ps (Given rs r) e h = cc
  after_over os ps (Over rs f) e h = let q : os ++ rs ≡ ps = cc in let z : f ≡ e = cc in (rs, ap (Over rs) z, q)
  after_over os ps (Unknown rs) e h = cc

  -- a result after os was said
  after_given : (os ps : List O) (a : Answer R O E) (r : R) → after os a ≡ Given ps r → (rs : List O) × (a ≡ Given rs r) × (os ++ rs ≡ ps)
  after_given os ps (Given rs s) r h = let q : os ++ rs ≡ ps = cc in let z : s ≡ r = cc in (rs, ap (Given rs) z, q)
  after_given os ps (Over rs f) r h = cc
  after_given os ps (Unknown rs) r h = cc

  -- an end of going on with a result: before the result, or after it
  with_result_over : (a : Answer R O E) (k : R → Answer R O E) (os : List O) (e : E) → with_result a k ≡ Over os e → (a ≡ Over os e) ⊎ ((r : R) × (ps : List O) × (rs : List O) × (a ≡ Given ps r) × (k r ≡ Over rs e) × (ps ++ rs ≡ os))
  with_result_over (Given ps r) k os e h = let c = after_over ps os (k r) e h in inr (r, ps, c.0, refl, c.1, c.2)
  with_result_over (Over ps f) k os e h = inl h
  with_result_over (Unknown ps) k os e h = cc

  -- a result of going on with a result
  with_result_given : (a : Answer R O E) (k : R → Answer R O E) (os : List O) (s : R) → with_result a k ≡ Given os s → (r : R) × (ps : List O) × (rs : List O) × (a ≡ Given ps r) × (k r ≡ Given rs s) × (ps ++ rs ≡ os)
  with_result_given (Given ps r) k os s h = let c = after_given ps os (k r) s h in (r, ps, c.0, refl, c.1, c.2)
  with_result_given (Over ps f) k os s h = cc
  with_result_given (Unknown ps) k os s h = cc

-- Courses

module _ {Q R O E : Type 0} where
  pub and_then_assoc : (x : Course Q R O E) (k h : R → Course Q R O E) → and_then (and_then x k) h ≡ and_then x (λ r. and_then (k r) h)
  and_then_assoc (Ret r) k h = refl
  and_then_assoc (Halt e) k h = refl
  and_then_assoc (Say o x) k h = ap (Say o) (and_then_assoc x k h)
  and_then_assoc (Ask q g) k h = ap (Ask q) (funext (λ r. and_then_assoc (g r) k h))

  pub and_then_ret : (x : Course Q R O E) → and_then x Ret ≡ x
  and_then_ret (Ret r) = refl
  and_then_ret (Halt e) = refl
  and_then_ret (Say o x) = ap (Say o) (and_then_ret x)
  and_then_ret (Ask q g) = ap (Ask q) (funext (λ r. and_then_ret (g r)))

  pub says_says : (os ps : List O) (x : Course Q R O E) → says (os ++ ps) x ≡ says os (says ps x)
  says_says [] ps x = refl
  says_says (o ∷ os) ps x = ap (Say o) (says_says os ps x)

  pub and_then_says : (os : List O) (x : Course Q R O E) (k : R → Course Q R O E) → and_then (says os x) k ≡ says os (and_then x k)
  and_then_says [] x k = refl
  and_then_says (o ∷ os) x k = ap (Say o) (and_then_says os x k)

  value_below : (f g : Q → Answer R O E) → ((q : Q) → Below (f q) (g q)) → (x : Course Q R O E) → Below (value f x) (value g x)
  value_below f g l (Ret r) = refl
  value_below f g l (Halt e) = refl
  value_below f g l (Say o x) = after_below (o ∷ []) (value f x) (value g x) (value_below f g l x)
  value_below f g l (Ask q k) = with_result_below (f q) (g q) _ _ (l q) (λ r. value_below f g l (k r))

  pub value_and_then : (f : Q → Answer R O E) (x : Course Q R O E) (k : R → Course Q R O E) → value f (and_then x k) ≡ with_result (value f x) (λ r. value f (k r))
  value_and_then f (Ret r) k = sym (after_none (value f (k r)))
  value_and_then f (Halt e) k = refl
  value_and_then f (Say o x) k = ap (after (o ∷ [])) (value_and_then f x k) ∙ sym (with_result_after (o ∷ []) (value f x) _)
  value_and_then f (Ask q h) k = with_result_twice (f q) _ _ _ (λ r. value_and_then f (h r) k)

  pub value_says : (f : Q → Answer R O E) (os : List O) (x : Course Q R O E) → value f (says os x) ≡ after os (value f x)
  value_says f [] x = sym (after_none (value f x))
  value_says f (o ∷ os) x = ap (after (o ∷ [])) (value_says f os x) ∙ sym (after_after (o ∷ []) os (value f x))

-- Runs

module _ {Q R O E : Type 0} (code : Q → Course Q R O E) where
  run_below : (n m : ℕ) → n ≤ m → (q : Q) → Below (run code n q) (run code m q)
  run_below zero m le q = tt
  run_below (suc n) zero le q = absurd (omega arith)
  run_below (suc n) (suc m) le q = value_below (run code n) (run code m) (run_below n m (omega arith)) (code q)

  -- what is known at a depth stays where calls are nested deeper
  pub deeper : (n m : ℕ) → n ≤ m → (x : Course Q R O E) → Below (value (run code n) x) (value (run code m) x)
  deeper n m le = value_below (run code n) (run code m) (run_below n m le)

module _ {Q R O E : Type 0} {code : Q → Course Q R O E} where
  -- all ends of a run are one
  pub one_end : {x : Course Q R O E} {os ps : List O} {e f : E} → Ends code x os e → Ends code x ps f → (os ≡ ps) × (e ≡ f)
  one_end {x} {os} {ps} {e} {f} a b =
      let n = a.depth + b.depth in
      let p = over_below _ _ os e (deeper code a.depth n (omega arith) x) a.comes in
      let q = over_below _ _ ps f (deeper code b.depth n (omega arith) x) b.comes in
      (cc, cc)

  -- all results of a run are one
  pub one_result : {x : Course Q R O E} {os ps : List O} {r s : R} → Gives code x os r → Gives code x ps s → (os ≡ ps) × (r ≡ s)
  one_result {x} {os} {ps} {r} {s} a b =
      let n = a.depth + b.depth in
      let p = given_below _ _ os r (deeper code a.depth n (omega arith) x) a.comes in
      let q = given_below _ _ ps s (deeper code b.depth n (omega arith) x) b.comes in
      (cc, cc)

  -- a run that gives a result does not end the whole
  pub result_or_end : {x : Course Q R O E} {os ps : List O} {r : R} {e : E} → Gives code x os r → Ends code x ps e → ⊥
  result_or_end {x} {os} {ps} {r} {e} a b =
      let n = a.depth + b.depth in
      let p = given_below _ _ os r (deeper code a.depth n (omega arith) x) a.comes in
      let q = over_below _ _ ps e (deeper code b.depth n (omega arith) x) b.comes in
      cc

  -- what the first ends, it ends
  pub first_ends : (k : R → Course Q R O E) {x : Course Q R O E} {os : List O} {e : E} → Ends code x os e → Ends code (and_then x k) os e
  first_ends k {x} {os} {e} a =
      record { depth = a.depth; comes = value_and_then (run code a.depth) x k ∙ ap (λ v. with_result v (λ r. value (run code a.depth) (k r))) a.comes }

  -- the first gives a result, and the second ends
  pub second_ends : (k : R → Course Q R O E) {x : Course Q R O E} {os ps : List O} {r : R} {e : E} → Gives code x os r → Ends code (k r) ps e → Ends code (and_then x k) (os ++ ps) e
  second_ends k {x} {os} {ps} {r} {e} a b =
      let n = a.depth + b.depth in
      let p = given_below _ _ os r (deeper code a.depth n (omega arith) x) a.comes in
      let q = over_below _ _ ps e (deeper code b.depth n (omega arith) (k r)) b.comes in
      record {
        depth = n;
        comes = value_and_then (run code n) x k ∙ ap (λ v. with_result v (λ r. value (run code n) (k r))) p ∙ ap (after os) q;
      }

  -- there is no other end of one thing and then another
  pub then_ends : (x : Course Q R O E) (k : R → Course Q R O E) {os : List O} {e : E} → Ends code (and_then x k) os e → Ends code x os e ⊎ Continues code x k os e
  then_ends x k {os} {e} a = elim (with_result_over (value (run code a.depth) x) _ os e (sym (value_and_then (run code a.depth) x k) ∙ a.comes)) [
    | inl p ↦ inl (record { depth = a.depth; comes = p })
    | inr c ↦ inr (record { result = c.0; before = c.1; rest = c.2; joined = c.5; gives = record { depth = a.depth; comes = c.3 }; ends = record { depth = a.depth; comes = c.4 } })
  ]

module _ {Q R O E : Type 0} (code : Q → Course Q R O E) where
  -- what is done with a call's result follows what its code does
  call_ends : (q : Q) (k : R → Course Q R O E) (os : List O) (e : E) (n : ℕ) → value (run code n) (Ask q k) ≡ Over os e → Ends code (and_then (code q) k) os e
  call_ends q k os e zero h = cc
  call_ends q k os e (suc n) h =
      record {
        depth = suc n;
        comes = value_and_then (run code (suc n)) (code q) k ∙ over_below _ _ os e (with_result_below _ _ _ _ (deeper code n (suc n) (omega arith) (code q)) (λ r. below_self _)) h;
      }

  -- a call does what its code says
  pub unfolded : (q : Q) (k : R → Course Q R O E) → Same code (Ask q k) (and_then (code q) k)
  unfolded q k =
      record {
        to = λ os e a. call_ends q k os e a.depth a.comes;
        from = λ os e a. record {
          depth = suc a.depth;
          comes = over_below _ _ os e (with_result_below _ _ _ _ (below_self (value (run code a.depth) (code q))) (λ r. deeper code a.depth (suc a.depth) (omega arith) (k r))) (sym (value_and_then (run code a.depth) (code q) k) ∙ a.comes);
        };
      }

  -- what is equal has the same ends
  pub same_equal : {x y : Course Q R O E} → x ≡ y → Same code x y
  same_equal {x} {y} p =
      record {
        to = λ os e a. subst (λ z. Ends code z os e) p a;
        from = λ os e a. subst (λ z. Ends code z os e) (sym p) a;
      }

  -- what a call does, where that computes to y
  pub unfolds : (q : Q) (k : R → Course Q R O E) {y : Course Q R O E} → and_then (code q) k ≡ y → Same code (Ask q k) y
  unfolds q k e =
      let a = unfolded q k in
      record { to = λ os f h. subst (λ z. Ends code z os f) e (a.to os f h); from = λ os f h. a.from os f (subst (λ z. Ends code z os f) (sym e) h) }

  -- two calls that do the same
  pub same_call : (q p : Q) (k : R → Course Q R O E) → code q ≡ code p → Same code (Ask q k) (Ask p k)
  same_call q p k e =
      let a = unfolds q k (ap (λ x. and_then x k) e) in
      let b = unfolded p k in
      record { to = λ os f h. b.from os f (a.to os f h); from = λ os f h. a.from os f (b.to os f h) }

  -- the whole ends where it stops
  pub stopped : (os : List O) (e : E) → Ends code (says os (Halt e)) os e
  stopped os e = record { depth = 0; comes = value_says (run code 0) os (Halt e) ∙ ap (λ l. Over l e) (append-nil os) }

module _ {Q R O E : Type 0} {code : Q → Course Q R O E} where
  pub same_back : {x y : Course Q R O E} → Same code x y → Same code y x
  same_back a = record { to = a.from; from = a.to }

  pub same_then : {x y z : Course Q R O E} → Same code x y → Same code y z → Same code x z
  same_then a b = record { to = λ os e h. b.to os e (a.to os e h); from = λ os e h. a.from os e (b.from os e h) }

  -- an end after os was said is an end of what follows, with os before it
  pub said_ends : (os : List O) (x : Course Q R O E) {ps : List O} {e : E} → Ends code (says os x) ps e → (rs : List O) × Ends code x rs e × (os ++ rs ≡ ps)
  said_ends os x {ps} {e} a =
      let c = after_over os ps _ e (sym (value_says (run code a.depth) os x) ∙ a.comes) in
      (c.0, record { depth = a.depth; comes = c.1 }, c.2)

  pub ends_said : (os : List O) {x : Course Q R O E} {ps : List O} {e : E} → Ends code x ps e → Ends code (says os x) (os ++ ps) e
  ends_said os {x} {ps} {e} a =
      record { depth = a.depth; comes = value_says (run code a.depth) os x ∙ ap (after os) a.comes }

  -- what was said first begins all that is said
  pub said_first : (os : List O) (x : Course Q R O E) {ps : List O} {e : E} → Ends code (says os x) ps e → Begins os ps
  said_first os x a = let c = said_ends os x a in (c.0, c.2)

  said_one_way : (os : List O) (x y : Course Q R O E) → ((ps : List O) (e : E) → Ends code x ps e → Ends code y ps e) → (ps : List O) (e : E) → Ends code (says os x) ps e → Ends code (says os y) ps e
  said_one_way os x y g ps e a =
      let c = said_ends os x a in
      subst (λ l. Ends code (says os y) l e) c.2 (ends_said os (g c.0 e c.1))

  -- the same, after the same was said
  pub same_says : (os : List O) {x y : Course Q R O E} → Same code x y → Same code (says os x) (says os y)
  same_says os {x} {y} a = record { to = said_one_way os x y a.to; from = said_one_way os y x a.from }

  after_one_way : (x : Course Q R O E) (k h : R → Course Q R O E) → ((r : R) (os : List O) (e : E) → Ends code (k r) os e → Ends code (h r) os e) → (os : List O) (e : E) → Ends code (and_then x k) os e → Ends code (and_then x h) os e
  after_one_way x k h g os e a = elim (then_ends x k a) [
    | inl p ↦ first_ends h p
    | inr c ↦ subst (λ l. Ends code (and_then x h) l e) c.joined (second_ends h c.gives (g c.result c.rest e c.ends))
  ]

  -- the same, after the same was done
  pub same_after : (x : Course Q R O E) {k h : R → Course Q R O E} → ((r : R) → Same code (k r) (h r)) → Same code (and_then x k) (and_then x h)
  same_after x {k} {h} a =
      record { to = after_one_way x k h (λ r. (a r).to); from = after_one_way x h k (λ r. (a r).from) }

-- Induction on ends

-- What holds where the whole stops, and is kept by each thing said before and by each call, holds of each end.
module _ {Q R O E : Type 0} (code : Q → Course Q R O E) (P : Course Q R O E → List O → E → Type 0) (stops : (e : E) → P (Halt e) [] e) (speaks : (o : O) (x : Course Q R O E) (os : List O) (e : E) → P x os e → P (Say o x) (o ∷ os) e) (calls : (q : Q) (k : R → Course Q R O E) (os : List O) (e : E) → P (and_then (code q) k) os e → P (Ask q k) os e) where
  -- P holds of x followed by anything, where a is what comes of x
  record Kept (a : Answer R O E) (x : Course Q R O E) : Type 0 where
    ended : (os : List O) (e : E) → a ≡ Over os e → (k : R → Course Q R O E) → P (and_then x k) os e
    given : (os : List O) (r : R) → a ≡ Given os r → (k : R → Course Q R O E) (ps : List O) (e : E) → P (k r) ps e → P (and_then x k) (os ++ ps) e

  spoken : (o : O) (a : Answer R O E) (x : Course Q R O E) → Kept a x → Kept (after (o ∷ []) a) (Say o x)
  spoken o a x h =
      record {
        ended = λ os e p k. let c = after_over (o ∷ []) os a e p in subst (λ l. P (Say o (and_then x k)) l e) c.2 (speaks o (and_then x k) c.0 e (h.ended c.0 e c.1 k));
        given = λ os r p k ps e g. let c = after_given (o ∷ []) os a r p in subst (λ l. P (Say o (and_then x k)) (l ++ ps) e) c.2 (speaks o (and_then x k) (c.0 ++ ps) e (h.given c.0 r c.1 k ps e g));
      }

  called_ends : (q : Q) (a : Answer R O E) (v : R → Answer R O E) (h : R → Course Q R O E) → Kept a (code q) → ((r : R) → Kept (v r) (h r)) → (os : List O) (e : E) → with_result a v ≡ Over os e → (k : R → Course Q R O E) → P (Ask q (λ r. and_then (h r) k)) os e
  called_ends q a v h c d os e p k = calls q (λ r. and_then (h r) k) os e (elim (with_result_over a v os e p) [
    | inl t ↦ c.ended os e t (λ r. and_then (h r) k)
    | inr t ↦ subst (λ l. P (and_then (code q) (λ r. and_then (h r) k)) l e) t.5 (c.given t.1 t.0 t.3 (λ r. and_then (h r) k) t.2 e ((d t.0).ended t.2 e t.4 k))
  ])

  called_gives : (q : Q) (a : Answer R O E) (v : R → Answer R O E) (h : R → Course Q R O E) → Kept a (code q) → ((r : R) → Kept (v r) (h r)) → (os : List O) (s : R) → with_result a v ≡ Given os s → (k : R → Course Q R O E) (ps : List O) (e : E) → P (k s) ps e → P (Ask q (λ r. and_then (h r) k)) (os ++ ps) e
  called_gives q a v h c d os s p k ps e g =
      let t = with_result_given a v os s p in
      let i = (d t.0).given t.2 s t.4 k ps e g in
      let j = c.given t.1 t.0 t.3 (λ r. and_then (h r) k) (t.2 ++ ps) e i in
      calls q (λ r. and_then (h r) k) (os ++ ps) e (subst (λ l. P (and_then (code q) (λ r. and_then (h r) k)) l e) (sym (append_assoc t.1 t.2 ps) ∙ ap (λ l. l ++ ps) t.5) j)

  kept : (f : Q → Answer R O E) → ((q : Q) → Kept (f q) (code q)) → (x : Course Q R O E) → Kept (value f x) x
  kept f g (Ret r) =
      record {
        ended = λ os e p k. cc;
        given = λ os s p k ps e h. let q : [] ≡ os = cc in let z : r ≡ s = cc in subst (λ l. P (k r) (l ++ ps) e) q (subst (λ s. P (k s) ps e) (sym z) h);
      }
  kept f g (Halt e) =
      record {
        ended = λ os d p k. let q : [] ≡ os = cc in let z : e ≡ d = cc in subst (λ l. P (Halt e) l d) q (subst (λ d. P (Halt e) [] d) z (stops e));
        given = λ os r p k ps d h. cc;
      }
  kept f g (Say o x) = spoken o (value f x) x (kept f g x)
  kept f g (Ask q h) =
      record {
        ended = called_ends q (f q) (λ r. value f (h r)) h (g q) (λ r. kept f g (h r));
        given = called_gives q (f q) (λ r. value f (h r)) h (g q) (λ r. kept f g (h r));
      }

  kept_at : (n : ℕ) (q : Q) → Kept (run code n q) (code q)
  kept_at zero q = record { ended = λ os e p k. cc; given = λ os r p k ps e h. cc }
  kept_at (suc n) q = kept (run code n) (kept_at n) (code q)

  pub ends_ind : {x : Course Q R O E} {os : List O} {e : E} → Ends code x os e → P x os e
  ends_ind {x} {os} {e} a =
      subst (λ y. P y os e) (and_then_ret x) ((kept (run code a.depth) (kept_at a.depth) x).ended os e a.comes Ret)
