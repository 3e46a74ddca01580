-- The longest front of a list that passes a test.
use Rattle.std.proofs.Common.{◌≡◌, ℕ, suc, ◌+◌, Bool, true, false, not, ◌&&◌, ◌||◌, List, [], ◌∷◌, ◌++◌, length, take, refl, ap, ◌∙◌, arith, cond}
use Rattle.std.specs.List.{list_all, list_any, prefix_len}

abbrev step_len : Bool → ℕ → ℕ
step_len t n = cond t (1 + n) 0

-- the longest front that passes does pass
pub prefix-all : (p : ℕ → Bool) (bytes : List ℕ) → list_all p (take (prefix_len p bytes) bytes) ≡ true
prefix-all p [] = refl
prefix-all p (b ∷ bs) =
    elim (p b) as (λ t. p b ≡ t → list_all p (take (step_len t (prefix_len p bs)) (b ∷ bs)) ≡ true) [
      | true ↦ (λ e.
          let n : 1 + prefix_len p bs ≡ suc (prefix_len p bs) = omega arith in
          ap (λ k. list_all p (take k (b ∷ bs))) n ∙ (ap (λ t. t && list_all p (take (prefix_len p bs) bs)) e ∙ prefix-all p bs))
      | false ↦ (λ e. refl)
    ] refl

-- whether a front that passes ends before these bytes
abbrev pub stops : (ℕ → Bool) → List ℕ → Bool
stops p [] = true
stops p (b ∷ bs) = not (p b)

prefix-stops : (p : ℕ → Bool) (rest : List ℕ) → stops p rest ≡ true → prefix_len p rest ≡ 0
prefix-stops p [] s = refl
prefix-stops p (b ∷ bs) s = elim (p b) as (λ t. not t ≡ true → step_len t (prefix_len p bs) ≡ 0) [ true ↦ (λ k. absurd cc) | false ↦ (λ k. refl) ] s

pub prefix-append : (p : ℕ → Bool) (front rest : List ℕ) → list_all p front ≡ true → stops p rest ≡ true → prefix_len p (front ++ rest) ≡ length front
prefix-append p [] rest h s = prefix-stops p rest s
prefix-append p (x ∷ xs) rest h s =
    elim (p x) as (λ t. (t && list_all p xs) ≡ true → step_len t (prefix_len p (xs ++ rest)) ≡ suc (length xs)) [
      | true ↦ (λ k. omega (arith, prefix-append p xs rest k s))
      | false ↦ (λ k. absurd cc)
    ] h

pub all-none : (p : ℕ → Bool) (bytes : List ℕ) → list_all (λ b. not (p b)) bytes ≡ true → list_any p bytes ≡ false
all-none p [] h = refl
all-none p (b ∷ bs) h = elim (p b) as (λ t. (not t && list_all (λ b. not (p b)) bs) ≡ true → (t || list_any p bs) ≡ false) [ true ↦ (λ k. absurd cc) | false ↦ (λ k. all-none p bs k) ] h

pub none-all : (p : ℕ → Bool) (bytes : List ℕ) → list_any p bytes ≡ false → list_all (λ b. not (p b)) bytes ≡ true
none-all p [] h = refl
none-all p (b ∷ bs) h = elim (p b) as (λ t. (t || list_any p bs) ≡ false → (not t && list_all (λ b. not (p b)) bs) ≡ true) [ true ↦ (λ k. absurd cc) | false ↦ (λ k. none-all p bs k) ] h

pub two : (s t : Bool) → (s && t) ≡ true → (s ≡ true) × (t ≡ true)
two true t h = (refl, h)
two false t h = absurd cc
