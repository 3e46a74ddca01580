-- When one definition by general recursion does what another does, call by call.
use Rattle.std.proofs.Common.{◌≡◌, ℕ, zero, suc, List, [], ◌∷◌, ◌++◌, Contains, refl, sym, subst, arith}
use Rattle.stx_base.specs.Course.{Course, Ret, Halt, Say, Ask, and_then, Answer, Given, Over, Unknown, after, with_result, value, run, Ends}
use Rattle.template_machine.proofs.Simulating.{Simulates, at_none, by_call, by_halt, by_other_call, by_ret, by_say, ends_too}

module _ {Q P R O E : Type 0} where
  -- y does what x does, with calls that are alike, as long as results are as they may be, and what it says is as it may be
  abbrev pub Twin : (Q → P → Type 0) → (O → Type 0) → (R → Type 0) → Course Q R O E → Course P R O E → Type 0
  Twin Like Fine Post (Ret r) y = (y ≡ Ret r) × Post r
  Twin Like Fine Post (Halt e) y = y ≡ Halt e
  Twin Like Fine Post (Say o x) y = (z : Course P R O E) × (y ≡ Say o z) × Fine o × Twin Like Fine Post x z
  Twin Like Fine Post (Ask q k) y =
      (p : P) × (j : R → Course P R O E) × (y ≡ Ask p j) × Like q p × ((r : R) → Post r → Twin Like Fine Post (k r) (j r))

  -- one after another
  pub twin_then : (Like : Q → P → Type 0) (Fine : O → Type 0) (Post : R → Type 0) (x : Course Q R O E) (y : Course P R O E) (k : R → Course Q R O E) (j : R → Course P R O E)
      → Twin Like Fine Post x y → ((r : R) → Post r → Twin Like Fine Post (k r) (j r)) → Twin Like Fine Post (and_then x k) (and_then y j)
  twin_then Like Fine Post (Ret r) y k j t h = subst (λ y. Twin Like Fine Post (k r) (and_then y j)) (sym t.0) (h r t.1)
  twin_then Like Fine Post (Halt e) y k j t h = subst (λ y. Twin Like Fine Post (Halt e) (and_then y j)) (sym t) refl
  twin_then Like Fine Post (Say o x) y k j (z, e, f, t) h =
      subst (λ y. Twin Like Fine Post (Say o (and_then x k)) (and_then y j)) (sym e) (and_then z j, refl, f, twin_then Like Fine Post x z k j t h)
  twin_then Like Fine Post (Ask q g) y k j (p, f, e, l, t) h =
      subst (λ y. Twin Like Fine Post (Ask q (λ r. and_then (g r) k)) (and_then y j)) (sym e)
      (p, (λ r. and_then (f r) j), refl, l, λ r s. twin_then Like Fine Post (g r) (f r) k j (t r s) h)

-- the same, as it is handed on
pub record Twins {Q P R O E : Type 0} (Like : Q → P → Type 0) (Fine : O → Type 0) (Post : R → Type 0) (x : Course Q R O E) (y : Course P R O E) : Type 0 where
  pub is : Twin Like Fine Post x y

-- and so does x what y does
pub flipped : {Q P R O E : Type 0} (Like : Q → P → Type 0) (Fine : O → Type 0) (Post : R → Type 0) (x : Course Q R O E) (y : Course P R O E)
    → Twin Like Fine Post x y → Twin (λ p q. Like q p) Fine Post y x
flipped Like Fine Post (Ret r) y t = subst (λ y. Twin (λ p q. Like q p) Fine Post y (Ret r)) (sym t.0) (refl, t.1)
flipped Like Fine Post (Halt e) y t = subst (λ y. Twin (λ p q. Like q p) Fine Post y (Halt e)) (sym t) refl
flipped Like Fine Post (Say o x) y (z, e, f, t) =
    subst (λ y. Twin (λ p q. Like q p) Fine Post y (Say o x)) (sym e) (x, refl, f, flipped Like Fine Post x z t)
flipped Like Fine Post (Ask q k) y (p, j, e, l, t) =
    subst (λ y. Twin (λ p q. Like q p) Fine Post y (Ask q k)) (sym e) (q, k, refl, l, λ r s. flipped Like Fine Post (k r) (j r) (t r s))

module _ {Q P R O E : Type 0} (Like : Q → P → Type 0) (Fine : O → Type 0) (Post : R → Type 0) (code : Q → Course Q R O E) (other : P → Course P R O E) where
  abbrev Kept : R → R → Type 0
  Kept r s = (s ≡ r) × Post r

  abbrev Sim : ℕ → Course Q R O E → Course P R O E → Type 0
  Sim n x y = Simulates code other Kept n x y

  none_deep : (x : Course Q R O E) (y : Course P R O E) → Twin Like Fine Post x y → Sim zero x y
  none_deep (Ret r) y t = subst (λ y. Sim zero (Ret r) y) (sym t.0) (by_ret zero r r (refl, t.1))
  none_deep (Halt e) y t = subst (λ y. Sim zero (Halt e) y) (sym t) (by_halt zero e)
  none_deep (Say o x) y (z, e, f, t) = subst (λ y. Sim zero (Say o x) y) (sym e) (by_say o (none_deep x z t))
  none_deep (Ask q k) y t = at_none q k y

  more_deep : (n : ℕ) → ((q : Q) (p : P) → Like q p → Sim n (code q) (other p)) → (x : Course Q R O E) (y : Course P R O E) → Twin Like Fine Post x y → Sim (suc n) x y
  more_deep n h (Ret r) y t = subst (λ y. Sim (suc n) (Ret r) y) (sym t.0) (by_ret (suc n) r r (refl, t.1))
  more_deep n h (Halt e) y t = subst (λ y. Sim (suc n) (Halt e) y) (sym t) (by_halt (suc n) e)
  more_deep n h (Say o x) y (z, e, f, t) = subst (λ y. Sim (suc n) (Say o x) y) (sym e) (by_say o (more_deep n h x z t))
  more_deep n h (Ask q k) y (p, j, e, l, t) =
      subst (λ y. Sim (suc n) (Ask q k) y) (sym e)
      (by_other_call p j (by_call q k (other p) j (h q p l)
      (λ r s g. subst (λ s. Sim (suc n) (k r) (j s)) (sym g.0) (more_deep n h (k r) (j r) (t r g.1)))))

  -- what is said is as it may be, and so is the result
  abbrev AllFine : List O → Type 0
  AllFine [] = Unit {0}
  AllFine (o ∷ os) = Fine o × AllFine os

  abbrev Comes : Answer R O E → Type 0
  Comes (Given os r) = AllFine os × Post r
  Comes (Over os e) = AllFine os
  Comes (Unknown os) = AllFine os

  fine_append : (os ps : List O) → AllFine os → AllFine ps → AllFine (os ++ ps)
  fine_append [] ps h k = k
  fine_append (o ∷ os) ps h k = (h.0, fine_append os ps h.1 k)

  comes_after : (os : List O) (a : Answer R O E) → AllFine os → Comes a → Comes (after os a)
  comes_after os (Given ps r) h k = (fine_append os ps h k.0, k.1)
  comes_after os (Over ps e) h k = fine_append os ps h k
  comes_after os (Unknown ps) h k = fine_append os ps h k

  comes_on : (a : Answer R O E) (f : R → Answer R O E) → Comes a → ((r : R) → Post r → Comes (f r)) → Comes (with_result a f)
  comes_on (Given os r) f h k = comes_after os (f r) h.0 (k r h.1)
  comes_on (Over os e) f h k = h
  comes_on (Unknown os) f h k = h

  contains_fine : (os : List O) → AllFine os → (o : O) → Contains os o → Fine o
  contains_fine [] h o (k, l, is) = absurd (omega (arith, l))
  contains_fine (p ∷ os) h o (zero, l, is) = subst Fine is h.0
  contains_fine (p ∷ os) h o (suc k, l, is) = contains_fine os h.1 o (k, omega (arith, l), is)

  module _ (each : (q : Q) (p : P) → Like q p → Twin Like Fine Post (code q) (other p)) where
    so_deep : (n : ℕ) (x : Course Q R O E) (y : Course P R O E) → Twin Like Fine Post x y → Sim n x y
    so_deep zero x y t = none_deep x y t
    so_deep (suc n) x y t = more_deep n (λ q p l. so_deep n (code q) (other p) (each q p l)) x y t

    -- where each call does what the one that is like it does, ends are the same
    pub twins_end : (x : Course Q R O E) (y : Course P R O E) → Twin Like Fine Post x y → (os : List O) (e : E) → Ends code x os e → Ends other y os e
    twins_end x y t os e h = ends_too (λ n. so_deep n x y t) h

    comes_by : (f : Q → Answer R O E) → ((q : Q) (p : P) → Like q p → Comes (f q)) → (x : Course Q R O E) (y : Course P R O E) → Twin Like Fine Post x y → Comes (value f x)
    comes_by f h (Ret r) y t = (tt, t.1)
    comes_by f h (Halt e) y t = tt
    comes_by f h (Say o x) y (z, e, g, t) = comes_after (o ∷ []) (value f x) (g, tt) (comes_by f h x z t)
    comes_by f h (Ask q k) y (p, j, e, l, t) = comes_on (f q) (λ r. value f (k r)) (h q p l) (λ r s. comes_by f h (k r) (j r) (t r s))

    comes_of : (n : ℕ) (q : Q) (p : P) → Like q p → Comes (run code n q)
    comes_of zero q p l = tt
    comes_of (suc n) q p l = comes_by (run code n) (comes_of n) (code q) (other p) (each q p l)

    -- and what is said is as it may be
    pub says_fine : (x : Course Q R O E) (y : Course P R O E) → Twin Like Fine Post x y → (os : List O) (e : E) → Ends code x os e → (o : O) → Contains os o → Fine o
    says_fine x y t os e h = contains_fine os (subst Comes h.comes (comes_by (run code h.depth) (comes_of h.depth) x y t))
