-- What holds of a value that was built, with its height.
use Rattle.std.proofs.Common.{◌≡◌, ℕ, ◌+◌, ◌≤◌, Bool, true, false, cond, nat_le, max, refl, arith}
use Rattle.std.proofs.lemmas.Bool.Decides.{nat_tests}
use Rattle.stxpath_syntax.specs.declared.meant.Meant.{Meant}
use Rattle.stxpath_syntax.specs.declared.meant.Meant.TheVariants.{Fine, High, Bad}
use Rattle.stxpath_syntax.specs.Meaning.{of_height, made, made_of_two}

-- ---- what values are made of

abbrev pub IfFine : {A : Type 0} → (A → ℕ → Type 0) → Meant A → Type 0
IfFine P (Fine a height) = P a height
IfFine P High = Unit {0}
IfFine P (Bad fault) = Unit {0}

pub height_fine : {A : Type 0} (P : A → ℕ → Type 0) (a : A) (h : ℕ) → (h ≤ 64 → P a h) → IfFine P (of_height a h)
height_fine {A} P a h f = by (nat_le h 64) refl
  where
    le_from : nat_le h 64 ≡ true → h ≤ 64
    le_from e = grind (arith, nat_tests)

    by : (b : Bool) → nat_le h 64 ≡ b → IfFine P (cond b (Fine a h) High)
    by true e = f (le_from e)
    by false e = tt

pub made_fine : {A B : Type 0} (P : A → ℕ → Type 0) (Q : B → ℕ → Type 0) (levels : ℕ) (f : A → B) (m : Meant A) → IfFine P m
    → ((a : A) (h : ℕ) → P a h → h + levels ≤ 64 → Q (f a) (h + levels)) → IfFine Q (made levels f m)
made_fine P Q levels f (Fine a h) p q = height_fine Q (f a) (h + levels) (λ l. q a h p l)
made_fine P Q levels f High p q = tt
made_fine P Q levels f (Bad fault) p q = tt

pub joined_fine : {A B C : Type 0} (P : A → ℕ → Type 0) (Q : B → ℕ → Type 0) (R : C → ℕ → Type 0) (levels : ℕ) (f : A → B → C) (m : Meant A) (n : Meant B)
    → IfFine P m → IfFine Q n → ((a : A) (b : B) (h g : ℕ) → P a h → Q b g → max h g + levels ≤ 64 → R (f a b) (max h g + levels))
    → IfFine R (made_of_two levels f m n)
joined_fine P Q R levels f (Fine a h) (Fine b g) p q r = height_fine R (f a b) (max h g + levels) (λ l. r a b h g p q l)
joined_fine P Q R levels f (Fine a h) High p q r = tt
joined_fine P Q R levels f (Fine a h) (Bad fault) p q r = tt
joined_fine P Q R levels f High (Fine b g) p q r = tt
joined_fine P Q R levels f High High p q r = tt
joined_fine P Q R levels f High (Bad fault) p q r = tt
joined_fine P Q R levels f (Bad fault) n p q r = tt
