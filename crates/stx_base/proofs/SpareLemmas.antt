-- What a push and a pop leave of what is kept.
use Rattle.std.proofs.Common.{◌≡◌, ℕ, zero, suc, ◌+◌, ◌≤◌, ◌<◌, Bool, true, false, List, [], ◌∷◌, ◌++◌, length, take, map, sym, ap, subst, ◌∙◌, arith, append_assoc, append-nil, length-append}
use Rattle.std.specs.Prelude.{if◌then◌else◌}
use Rattle.std.specs.List.{All}
use Rattle.std.proofs.lemmas.List.{map-append, length-map}
use Rattle.std.proofs.Math.Seq.{take-append_seam}
use Rattle.std.proofs.lemmas.List.Elements.{All-append, All-take}
use Rattle.stx_base.specs.Spare.{Kept, Gains}

one : (P : ℕ → Type 0) (room : ℕ) → P room → All P (room ∷ [])
one P room p zero d l = p
one P room p (suc k) d l = absurd (omega (arith, l))

-- a push that may have been refused adds one at most
pub pushed : {X : Type 0} (f : X → ℕ) (b : Bool) (xs ys : List X) (x : X) → ys ≡ (if b then xs ++ x ∷ [] else xs) →
    (rooms : List ℕ) × (map f ys ≡ map f xs ++ rooms) × (length rooms ≤ 1)
pushed f true xs ys x e = (f x ∷ [], ap (map f) e ∙ map-append f xs (x ∷ []), omega arith)
pushed f false xs ys x e = ([], ap (map f) e ∙ sym (append-nil (map f xs)), omega arith)

-- and where it has the room that is asked and there is place for it, the bounds stay
pub pushed_within : {X : Type 0} (f : X → ℕ) (P : ℕ → Type 0) (n : ℕ) (b : Bool) (xs ys : List X) (x : X) → ys ≡ (if b then xs ++ x ∷ [] else xs) →
    P (f x) → length xs < n → All P (map f xs) → (length (map f ys) ≤ n) × All P (map f ys)
pushed_within f P n true xs ys x e p l all = (
  let k : length (map f ys) ≡ length xs + 1 = ap (λ zs. length (map f zs)) e ∙ length-map (xs ++ x ∷ []) f ∙ length-append xs (x ∷ []) in omega (arith, l, k),
  subst (All P) (sym (ap (map f) e ∙ map-append f xs (x ∷ []))) (All-append P (map f xs) (f x ∷ []) all (one P (f x) p)),
)
pushed_within f P n false xs ys x e p l all =
    (let k : length (map f ys) ≡ length xs = ap (λ zs. length (map f zs)) e ∙ length-map xs f in omega (arith, l, k), subst (λ zs. All P (map f zs)) (sym e) all)

-- what is left of a list is within its bounds
pub left_within : {X : Type 0} (f : X → ℕ) (P : ℕ → Type 0) (n : ℕ) (xs ys zs : List X) → xs ≡ ys ++ zs →
    length (map f xs) ≤ n → All P (map f xs) → (length (map f ys) ≤ n) × All P (map f ys)
left_within f P n xs ys zs e l all =
    let parts : map f xs ≡ map f ys ++ map f zs = ap (map f) e ∙ map-append f ys zs in
    let lengths : length (map f xs) ≡ length (map f ys) + length (map f zs) = ap length parts ∙ length-append (map f ys) (map f zs) in
    (omega (arith, l, lengths), subst (All P) (ap (take (length (map f ys))) parts ∙ take-append_seam (map f ys) (map f zs)) (All-take P (length (map f ys)) (map f xs) all))

-- what came and then came again came at once
pub both : (a b c d : ℕ) (x y z : Kept) → Gains a b x y → Gains c d y z → Gains (a + c) (b + d) x z
both a b c d x y z g h = (
  g.0 ++ h.0,
  g.1 ++ h.1,
  h.2 ∙ ap (λ rooms. rooms ++ h.0) g.2 ∙ append_assoc x.texts g.0 h.0,
  (let l = length-append g.0 h.0 in omega (arith, l, g.3, h.3)),
  h.4 ∙ ap (λ rooms. rooms ++ h.1) g.4 ∙ append_assoc x.lists g.1 h.1,
  (let l = length-append g.1 h.1 in omega (arith, l, g.5, h.5)),
)

-- nothing came
pub none : (x : Kept) → Gains 0 0 x x
none x = ([], [], sym (append-nil x.texts), omega arith, sym (append-nil x.lists), omega arith)
