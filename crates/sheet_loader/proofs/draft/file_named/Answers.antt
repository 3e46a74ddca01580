-- The first name is the sheet's own.
use Rattle.std.proofs.Common.{◌≡◌, ◌≤◌, ◌-◌, ℕ, zero, suc, List, ◌∷◌, refl, ap, ◌∙◌, arith}
use Rattle.sheet_loader.specs.Levels.{name_at}
use Rattle.sheet_loader.proofs.draft.file_named.Goals as goal

own_first : (own : List ℕ) (included : List (List ℕ)) (file : ℕ) → (1 ≤ file → ⊥) → own ≡ name_at (own ∷ included) file
own_first own included zero h = refl
own_first own included (suc n) h = absurd (h (omega arith))

behind_own : (own : List ℕ) (included : List (List ℕ)) (file place : ℕ) → (1 ≤ file) × (place ≡ file - 1) → name_at included place ≡ name_at (own ∷ included) file
behind_own own included zero place h = absurd (omega (arith, h.0))
behind_own own included (suc n) place h = ap (name_at included) (omega (arith, h.1))

pub returns-in-None : goal.returns-in-None
returns-in-None c = own_first c.args.own c.args.included c.args.file c.in-None.ensures

pub returns-in-Some : goal.returns-in-Some
returns-in-Some c = c.nth.ensures ∙ behind_own c.args.own c.args.included c.args.file c.in-Some.place c.in-Some.ensures
