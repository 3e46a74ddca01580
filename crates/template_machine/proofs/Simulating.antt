-- When one definition by general recursion does what another does, where results are alike.
use Rattle.std.proofs.Common.{◌≡◌, inl, inr, ℕ, zero, suc, ◌+◌, List, [], ◌∷◌, ◌++◌, refl, sym, ap, ◌∙◌, subst, arith}
use Rattle.stx_base.specs.Course.{Course, Ret, Halt, Say, Ask, and_then, Answer, Given, Over, Unknown, after, with_result, value, run, Gives, Ends, Same}
use Rattle.stx_base.specs.Refinement.{Below}
use Rattle.stx_base.proofs.Course.{below_self, given_below, over_below, with_result_below, deeper, value_and_then, one_end, one_result, result_or_end, first_ends, second_ends, then_ends}

-- where a is known, b is known, and their results are alike
abbrev pub Like : {R S O E : Type 0} → (R → S → Type 0) → Answer R O E → Answer S O E → Type 0
Like {R} {S} Rel (Given os r) b = (s : S) × (b ≡ Given os s) × Rel r s
Like Rel (Over os e) b = b ≡ Over os e
Like Rel (Unknown os) b = Unit {0}

module _ {R S O E : Type 0} (Rel : R → S → Type 0) where
  like_after : (os : List O) (a : Answer R O E) (b : Answer S O E) → Like Rel a b → Like Rel (after os a) (after os b)
  like_after os (Given ps r) b l = (l.0, ap (after os) l.1, l.2)
  like_after os (Over ps e) b l = ap (after os) l
  like_after os (Unknown ps) b l = tt

  like_below : (a : Answer R O E) (b c : Answer S O E) → Like Rel a b → Below b c → Like Rel a c
  like_below (Given os r) b c l m = (l.0, given_below b c os l.0 m l.1, l.2)
  like_below (Over os e) b c l m = over_below b c os e m l
  like_below (Unknown os) b c l m = tt

  over_like : (a : Answer R O E) (b : Answer S O E) (os : List O) (e : E) → Like Rel a b → a ≡ Over os e → b ≡ Over os e
  over_like (Given ps r) b os e l h = absurd (cc)
  over_like (Over ps f) b os e l h = let p : ps ≡ os = cc in let q : f ≡ e = cc in l ∙ ap (λ x. Over x f) p ∙ ap (Over os) q
  over_like (Unknown ps) b os e l h = absurd (cc)

  given_like : (a : Answer R O E) (b : Answer S O E) (os : List O) (r : R) → Like Rel a b → a ≡ Given os r → (s : S) × (b ≡ Given os s) × Rel r s
  given_like (Given ps q) b os r l h =
      let p : ps ≡ os = cc in
      let e : q ≡ r = cc in
      (l.0, l.1 ∙ ap (λ x. Given x l.0) p, subst (λ x. Rel x l.0) e l.2)
  given_like (Over ps f) b os r l h = absurd (cc)
  given_like (Unknown ps) b os r l h = absurd (cc)

module _ {Q P R S O E : Type 0} (code : Q → Course Q R O E) (other : P → Course P S O E) where
  -- what comes of x with calls nested at most n deep comes of y, with results that are alike
  pub record Simulates (Rel : R → S → Type 0) (n : ℕ) (x : Course Q R O E) (y : Course P S O E) : Type 0 where
    pub depth : ℕ
    pub like : Like Rel (value (run code n) x) (value (run other depth) y)

module _ {Q P R S O E : Type 0} {code : Q → Course Q R O E} {other : P → Course P S O E} where
  pub by_ret : {Rel : R → S → Type 0} (n : ℕ) (r : R) (s : S) → Rel r s → Simulates code other Rel n (Ret r) (Ret s)
  by_ret n r s h = record { depth = 0; like = (s, refl, h) }

  pub by_halt : {Rel : R → S → Type 0} (n : ℕ) (e : E) → Simulates code other Rel n (Halt e) (Halt e)
  by_halt n e = record { depth = 0; like = refl }

  pub by_say : {Rel : R → S → Type 0} {n : ℕ} (o : O) {x : Course Q R O E} {y : Course P S O E} → Simulates code other Rel n x y → Simulates code other Rel n (Say o x) (Say o y)
  by_say {Rel} o h = record { depth = h.depth; like = like_after Rel (o ∷ []) _ _ h.like }

  -- what follows a known answer
  then_known : {Rel Then : R → S → Type 0} (n : ℕ) (a : Answer R O E) (y : Course P S O E) (d : ℕ) (k : R → Course Q R O E) (j : S → Course P S O E)
      → Like Rel a (value (run other d) y) → ((r : R) (s : S) → Rel r s → Simulates code other Then n (k r) (j s))
      → (m : ℕ) × Like Then (with_result a (λ r. value (run code n) (k r))) (value (run other m) (and_then y j))
  then_known {Rel} {Then} n (Given os r) y d k j l h =
      let s = l.0 in
      let g = h r s l.2 in
      let m = d + g.depth in
      let a : value (run other m) y ≡ Given os s = given_below _ _ os s (deeper other d m (omega arith) y) l.1 in
      let b = like_below Then (value (run code n) (k r)) (value (run other g.depth) (j s)) (value (run other m) (j s)) g.like (deeper other g.depth m (omega arith) (j s)) in
      (m, rw (value_and_then (run other m) y j, a) (like_after Then os (value (run code n) (k r)) (value (run other m) (j s)) b))
  then_known n (Over os e) y d k j l h = (d, rw (value_and_then (run other d) y j, l) refl)
  then_known n (Unknown os) y d k j l h = (d, tt)

  pub by_then : {Rel Then : R → S → Type 0} {n : ℕ} {x : Course Q R O E} {y : Course P S O E} (k : R → Course Q R O E) (j : S → Course P S O E)
      → Simulates code other Rel n x y → ((r : R) (s : S) → Rel r s → Simulates code other Then n (k r) (j s))
      → Simulates code other Then n (and_then x k) (and_then y j)
  by_then {Rel} {Then} {n} {x} {y} k j g h =
      let t = then_known {Rel = Rel} {Then = Then} n (value (run code n) x) y g.depth k j g.like h in
      record { depth = t.0; like = rw (value_and_then (run code n) x k) t.1 }

  -- a call of the first gives what its code gives, nested one less deep
  pub by_call : {Rel Then : R → S → Type 0} {n : ℕ} (q : Q) (k : R → Course Q R O E) (y : Course P S O E) (j : S → Course P S O E)
      → Simulates code other Rel n (code q) y → ((r : R) (s : S) → Rel r s → Simulates code other Then (suc n) (k r) (j s))
      → Simulates code other Then (suc n) (Ask q k) (and_then y j)
  by_call {Rel} {Then} {n} q k y j g h =
      let t = then_known {Rel = Rel} {Then = Then} (suc n) (value (run code n) (code q)) y g.depth k j g.like h in record { depth = t.0; like = t.1 }

  -- nothing is known of a call at depth 0
  pub at_none : {Rel : R → S → Type 0} (q : Q) (k : R → Course Q R O E) (y : Course P S O E) → Simulates code other Rel zero (Ask q k) y
  at_none q k y = record { depth = 0; like = tt }

  -- a call of the second does what its code says
  pub by_other_call : {Rel : R → S → Type 0} {n : ℕ} {x : Course Q R O E} (p : P) (j : S → Course P S O E) → Simulates code other Rel n x (and_then (other p) j) → Simulates code other Rel n x (Ask p j)
  by_other_call {Rel} {n} {x} p j h =
      let d = h.depth in
      record {
        depth = suc d;
        like = like_below Rel (value (run code n) x) (value (run other d) (and_then (other p) j)) (value (run other (suc d)) (Ask p j)) h.like
            (rw (value_and_then (run other d) (other p) j) (with_result_below _ _ _ _ (below_self (value (run other d) (other p))) (λ s. deeper other d (suc d) (omega arith) (j s))));
      }

  -- each end of the first is one of the second
  pub ends_too : {Rel : R → S → Type 0} {x : Course Q R O E} {y : Course P S O E} → ((n : ℕ) → Simulates code other Rel n x y) → {os : List O} {e : E} → Ends code x os e → Ends other y os e
  ends_too {Rel} h {os} {e} a =
      let g = h a.depth in
      record { depth = g.depth; comes = over_like Rel _ _ os e g.like a.comes }

  -- and for each of its results one that is alike
  pub gives_too : {Rel : R → S → Type 0} {x : Course Q R O E} {y : Course P S O E} → ((n : ℕ) → Simulates code other Rel n x y) → {os : List O} {r : R} → Gives code x os r → (s : S) × Gives other y os s × Rel r s
  gives_too {Rel} h {os} {r} a =
      let g = h a.depth in
      let t = given_like Rel _ _ os r g.like a.comes in
      (t.0, record { depth = g.depth; comes = t.1 }, t.2)

-- Two that come to the same, and go on alike from there, have the same ends.

module _ {P S O E : Type 0} {other : P → Course P S O E} where
  one_way : {x y : Course P S O E} {os : List O} {r s : S} (k h : S → Course P S O E) → Gives other x os r → Gives other y os s → k r ≡ h s
      → (ps : List O) (e : E) → Ends other (and_then x k) ps e → Ends other (and_then y h) ps e
  one_way {x} {y} {os} {r} {s} k h a b same ps e c = elim (then_ends x k c) [
    | inl d ↦ absurd (result_or_end a d)
    | inr d ↦
        let u = one_result d.gives a in
        subst (λ l. Ends other (and_then y h) l e) (ap (λ l. l ++ d.rest) (sym u.0) ∙ d.joined)
        (second_ends h b (subst (λ z. Ends other z d.rest e) (ap k u.1 ∙ same) d.ends))
  ]

  pub same_given : {x y : Course P S O E} {os : List O} {r s : S} (k h : S → Course P S O E) → Gives other x os r → Gives other y os s → k r ≡ h s → Same other (and_then x k) (and_then y h)
  same_given k h a b same = record { to = one_way k h a b same; from = one_way h k b a (sym same) }

  over_way : {x y : Course P S O E} {os : List O} {f : E} (k h : S → Course P S O E) → Ends other x os f → Ends other y os f → (ps : List O) (e : E) → Ends other (and_then x k) ps e → Ends other (and_then y h) ps e
  over_way {x} {y} {os} {f} k h a b ps e c =
      let u = one_end (first_ends k a) c in
      subst (λ l. Ends other (and_then y h) l e) u.0 (subst (λ g. Ends other (and_then y h) os g) u.1 (first_ends h b))

  pub same_over : {x y : Course P S O E} {os : List O} {f : E} (k h : S → Course P S O E) → Ends other x os f → Ends other y os f → Same other (and_then x k) (and_then y h)
  same_over k h a b = record { to = over_way k h a b; from = over_way h k b a }
