-- When every run has an end: each call within a call weighs less than it.
use Rattle.std.proofs.Common.{◌≡◌, ℕ, zero, suc, ◌<◌, ◌≤◌, List, [], ◌∷◌, refl, ap, ◌∙◌, arith}
use Rattle.stx_base.specs.Course.{Course, Ret, Halt, Say, Ask, and_then, says, Answer, Given, Over, Unknown, after, with_result, value, run, Ends}
use Rattle.stx_base.specs.Termination.{Safe}
use Rattle.stx_base.proofs.Course.{one_end}

-- Calls have a weight, are made where Pre holds of them, and have results of which Post holds.
module _ {Q R O E : Type 0} (weight : Q → ℕ) (Pre : Q → Type 0) (Post : Q → R → Type 0) where
  abbrev pub Ok : ℕ → (R → Type 0) → Course Q R O E → Type 0
  Ok w P x = Safe weight Pre Post w P x

  pub safe_then : (w : ℕ) (P : R → Type 0) (x : Course Q R O E) (k : R → Course Q R O E) → Ok w (λ r. Ok w P (k r)) x → Ok w P (and_then x k)
  safe_then w P (Ret r) k h = h
  safe_then w P (Halt e) k h = tt
  safe_then w P (Say o x) k h = safe_then w P x k h
  safe_then w P (Ask q g) k h = (h.0, h.1, λ r p. safe_then w P (g r) k (h.2 r p))

  pub safe_says : (w : ℕ) (P : R → Type 0) (os : List O) (x : Course Q R O E) → Ok w P x → Ok w P (says os x)
  safe_says w P [] x h = h
  safe_says w P (o ∷ os) x h = safe_says w P os x h

  -- safe below a larger weight, and with weaker results
  pub safe_more : (w v : ℕ) (P S : R → Type 0) (x : Course Q R O E) → w ≤ v → ((r : R) → P r → S r) → Ok w P x → Ok v S x
  safe_more w v P S (Ret r) l i h = i r h
  safe_more w v P S (Halt e) l i h = tt
  safe_more w v P S (Say o x) l i h = safe_more w v P S x l i h
  safe_more w v P S (Ask q g) l i h = (h.0, omega (arith, h.1), λ r p. safe_more w v P S (g r) l i (h.2 r p))

  -- the answer is known, and P holds of its result
  abbrev pub Known : (R → Type 0) → Answer R O E → Type 0
  Known P (Given os r) = P r
  Known P (Over os e) = Unit {0}
  Known P (Unknown os) = ⊥

  after_known : (P : R → Type 0) (os : List O) (a : Answer R O E) → Known P a → Known P (after os a)
  after_known P os (Given ps r) h = h
  after_known P os (Over ps e) h = tt
  after_known P os (Unknown ps) h = h

  with_result_known : (P S : R → Type 0) (a : Answer R O E) (k : R → Answer R O E) → Known P a → ((r : R) → P r → Known S (k r)) → Known S (with_result a k)
  with_result_known P S (Given os r) k h g = after_known S os (k r) (g r h)
  with_result_known P S (Over os e) k h g = tt
  with_result_known P S (Unknown os) k h g = h

  value_known : (f : Q → Answer R O E) (w : ℕ) (P : R → Type 0) (x : Course Q R O E) → ((q : Q) → Pre q → weight q < w → Known (Post q) (f q)) → Ok w P x → Known P (value f x)
  value_known f w P (Ret r) a h = h
  value_known f w P (Halt e) a h = tt
  value_known f w P (Say o x) a h = after_known P (o ∷ []) (value f x) (value_known f w P x a h)
  value_known f w P (Ask q k) a h =
      with_result_known (Post q) P (f q) _ (a q h.0 h.1) (λ r p. value_known f w P (k r) a (h.2 r p))

  module _ (code : Q → Course Q R O E) (safe : (q : Q) → Pre q → Ok (weight q) (Post q) (code q)) where
    run_known : (n : ℕ) (q : Q) → Pre q → weight q < n → Known (Post q) (run code n q)
    run_known zero q p l = absurd (omega arith)
    run_known (suc n) q p l =
        value_known (run code n) (weight q) (Post q) (code q) (λ r pre less. run_known n r pre (omega arith)) (safe q p)

    -- what is safe gives a result, or ends the whole
    pub comes_to : (w : ℕ) (P : R → Type 0) (x : Course Q R O E) → Ok w P x → Known P (value (run code w) x)
    comes_to w P x h = value_known (run code w) w P x (λ q p l. run_known w q p l) h

    -- where no result is left to give, there is an end
    pub has_end : (w : ℕ) (x : Course Q R O E) → Ok w (λ r. ⊥) x → (os : List O) × (e : E) × Ends code x os e
    has_end w x h = known_end (value (run code w) x) refl (comes_to w (λ r. ⊥) x h) where
      known_end : (a : Answer R O E) → value (run code w) x ≡ a → Known (λ r. ⊥) a → (os : List O) × (e : E) × Ends code x os e
      known_end (Given os r) q k = absurd k
      known_end (Over os e) q k = (os, e, record { depth = w; comes = q })
      known_end (Unknown os) q k = absurd k

    -- the value at that depth is the one end
    pub end_at : (w : ℕ) (x : Course Q R O E) → Ok w (λ r. ⊥) x → (os : List O) (e : E) → Ends code x os e → value (run code w) x ≡ Over os e
    end_at w x h os e a =
        at_depth (value (run code w) x) refl (comes_to w (λ r. ⊥) x h) where
          at_depth : (v : Answer R O E) → value (run code w) x ≡ v → Known (λ r. ⊥) v → value (run code w) x ≡ Over os e
          at_depth (Given ps r) q k = absurd k
          at_depth (Over ps f) q k =
              let c : Ends code x ps f = record { depth = w; comes = q } in
              let u = one_end c a in
              q ∙ ap (λ l. Over l f) u.0 ∙ ap (Over os) u.1
          at_depth (Unknown ps) q k = absurd k
