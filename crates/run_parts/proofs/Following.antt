-- What a course keeps of something that goes along with all that it says, call by call.
use Rattle.std.proofs.Common.{ℕ, zero, suc, List, [], ◌∷◌, ◌++◌, subst}
use Rattle.stx_base.specs.Course.{Course, Ret, Halt, Say, Ask, and_then, Answer, Given, Over, Unknown, after, with_result, value, run, Ends}

-- where all of os was said
abbrev pub behind : {O W : Type 0} → (W → O → W) → W → List O → W
behind next w [] = w
behind next w (o ∷ os) = behind next (next w o) os

module _ {O W : Type 0} (next : W → O → W) (Fine : W → O → Type 0) where
  -- all that is said is as it may be where it is said
  abbrev pub AllFine : W → List O → Type 0
  AllFine w [] = Unit {0}
  AllFine w (o ∷ os) = Fine w o × AllFine (next w o) os

  fine_append : (w : W) (os ps : List O) → AllFine w os → AllFine (behind next w os) ps → AllFine w (os ++ ps)
  fine_append w [] ps h k = k
  fine_append w (o ∷ os) ps h k = (h.0, fine_append (next w o) os ps h.1 k)

module _ {R O W : Type 0} (next : W → O → W) (Post : W → R → Type 0) where
  post_append : (w : W) (os ps : List O) (r : R) → Post (behind next (behind next w os) ps) r → Post (behind next w (os ++ ps)) r
  post_append w [] ps r h = h
  post_append w (o ∷ os) ps r h = post_append (next w o) os ps r h

module _ {Q R O E W : Type 0} (next : W → O → W) (Fine : W → O → Type 0) (FineEnd : W → E → Type 0) (Pre : W → Q → Type 0) (Post : W → R → Type 0) where
  -- from w on all that is said is as it may be there, calls are as they may be asked, and so are the result and the end, as long as results
  -- of calls are
  abbrev pub Follows : W → Course Q R O E → Type 0
  Follows w (Ret r) = Post w r
  Follows w (Halt e) = FineEnd w e
  Follows w (Say o x) = Fine w o × Follows (next w o) x
  Follows w (Ask q k) = Pre w q × ((v : W) (r : R) → Post v r → Follows v (k r))

  -- one after another
  pub follows_then : (w : W) (x : Course Q R O E) (k : R → Course Q R O E) → Follows w x → ((v : W) (r : R) → Post v r → Follows v (k r)) → Follows w (and_then x k)
  follows_then w (Ret r) k h g = g w r h
  follows_then w (Halt e) k h g = h
  follows_then w (Say o x) k h g = (h.0, follows_then (next w o) x k h.1 g)
  follows_then w (Ask q j) k h g = (h.0, λ v r p. follows_then v (j r) k (h.1 v r p) g)

  abbrev Comes : W → Answer R O E → Type 0
  Comes w (Given os r) = AllFine next Fine w os × Post (behind next w os) r
  Comes w (Over os e) = AllFine next Fine w os × FineEnd (behind next w os) e
  Comes w (Unknown os) = AllFine next Fine w os

  comes_after : (w : W) (os : List O) (a : Answer R O E) → AllFine next Fine w os → Comes (behind next w os) a → Comes w (after os a)
  comes_after w os (Given ps r) h k = (fine_append next Fine w os ps h k.0, post_append next Post w os ps r k.1)
  comes_after w os (Over ps e) h k = (fine_append next Fine w os ps h k.0, post_append next FineEnd w os ps e k.1)
  comes_after w os (Unknown ps) h k = fine_append next Fine w os ps h k

  comes_on : (w : W) (a : Answer R O E) (f : R → Answer R O E) → Comes w a → ((v : W) (r : R) → Post v r → Comes v (f r)) → Comes w (with_result a f)
  comes_on w (Given os r) f h k = comes_after w os (f r) h.0 (k (behind next w os) r h.1)
  comes_on w (Over os e) f h k = h
  comes_on w (Unknown os) f h k = h

  comes_by : (f : Q → Answer R O E) → ((w : W) (q : Q) → Pre w q → Comes w (f q)) → (w : W) (x : Course Q R O E) → Follows w x → Comes w (value f x)
  comes_by f h w (Ret r) t = (tt, t)
  comes_by f h w (Halt e) t = (tt, t)
  comes_by f h w (Say o x) t = comes_after w (o ∷ []) (value f x) (t.0, tt) (comes_by f h (next w o) x t.1)
  comes_by f h w (Ask q k) t = comes_on w (f q) (λ r. value f (k r)) (h w q t.0) (λ v r p. comes_by f h v (k r) (t.1 v r p))

  module _ (code : Q → Course Q R O E) (each : (w : W) (q : Q) → Pre w q → Follows w (code q)) where
    comes_of : (n : ℕ) (w : W) (q : Q) → Pre w q → Comes w (run code n q)
    comes_of zero w q p = tt
    comes_of (suc n) w q p = comes_by (run code n) (comes_of n) w (code q) (each w q p)

    -- where each call does what it may do, all that is said up to an end is as it may be, and so is the end
    pub says_fine : (w : W) (x : Course Q R O E) → Follows w x → (os : List O) (e : E) → Ends code x os e → AllFine next Fine w os × FineEnd (behind next w os) e
    says_fine w x t os e h = subst (Comes w) h.comes (comes_by (run code h.depth) (comes_of h.depth) w x t)
