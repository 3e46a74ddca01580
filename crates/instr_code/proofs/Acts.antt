-- Acts by what stands inside an instruction: their locals are those of its pieces, and they don't go by how many levels are said.
use Rattle.std.proofs.Common.{◌≡◌, ℕ, zero, suc, ◌+◌, ◌≤◌, List, [], ◌∷◌, map, refl, ap, sym, ◌∙◌, arith}
use Rattle.instr_code.specs.Acts.{Act, act_behind, act_by, act_of, acts_within, choice_act, choices_act, listed, loop_act, round_act}
use Rattle.instr_code.specs.Bare.{bare}
use Rattle.instr_code.specs.Bodies.{joined}
use Rattle.instr_code.specs.Emitting.{inner_of, listed as lists_in}
use Rattle.instr_code.specs.Layout.{piece_of, pieces}
use Rattle.instr_code.specs.Piece.{Piece, in_order}
use Rattle.instr_code.specs.Steps.{Steps}
use Rattle.instr_code.specs.declared.inner.Inner.{Inner}
use Rattle.instr_code.specs.declared.inner.Inner.TheVariants as inside
use Rattle.instr_code.proofs.Forms.{children_are, inner_piece, unrolled}
use Rattle.sheet_model.specs.Body.{body_nesting, nesting}
use Rattle.sheet_model.specs.declared.instr.Instr.{Instr}
use Rattle.sheet_model.proofs.Nests.{body_nesting-append, nesting_is}

-- what stands inside an instruction nests less deep
pub within : (n : ℕ) (i : Instr) → nesting i ≤ n + 1 → body_nesting (lists_in (inner_of i)) ≤ n
within n i deep = omega (arith, nesting_is i, ap body_nesting (children_are i))

module _ {Q S O E : Type 0} (steps : Steps Q S O E) where
  inner-locals : (f : List Instr → Act Q S O E) (i : Instr) (x : Inner) → (act_by steps f i x).locals ≡ (inner_piece x).locals
  inner-locals f i inside.Nothing = refl
  inner-locals f i inside.Local = refl
  inner-locals f i (inside.Round body) = refl
  inner-locals f i (inside.Choice body other) = refl
  inner-locals f i (inside.Choices bodies other) = refl
  inner-locals f i (inside.While body) = refl
  inner-locals f i (inside.ForEach body) = refl

  act-locals : (f : List Instr → Act Q S O E) (i : Instr) → (act_of steps f i).locals ≡ (piece_of i).locals
  act-locals f i = inner-locals f i (inner_of i) ∙ sym (ap (λ (x : Piece). x.locals) (unrolled i))

  pub acts-locals : (n : ℕ) (list : List Instr) → body_nesting list ≤ n → (acts_within steps n list).locals ≡ (in_order (pieces list)).locals
  acts-locals zero [] deep = refl
  acts-locals zero (i ∷ list) deep = absurd (omega (arith, nesting_is i))
  acts-locals (suc n) [] deep = refl
  acts-locals (suc n) (i ∷ list) deep =
      ap (λ l. l + (acts_within steps (suc n) list).locals) (act-locals (acts_within steps n) i)
      ∙ ap (λ l. (piece_of i).locals + l) (acts-locals (suc n) list (omega arith))

  -- With more levels acts are the same.

  abbrev Agree : (n m : ℕ) → Type 0
  Agree n m = (list : List Instr) → body_nesting list ≤ n → body_nesting list ≤ m → acts_within steps n list ≡ acts_within steps m list

  branches-agree : (n m : ℕ) → Agree n m → (bodies : List (List Instr)) → body_nesting (joined bodies) ≤ n → body_nesting (joined bodies) ≤ m
      → map (λ b. listed steps 0 (acts_within steps n b)) bodies ≡ map (λ b. listed steps 0 (acts_within steps m b)) bodies
  branches-agree n m to [] deep low = refl
  branches-agree n m to (b ∷ bs) deep low =
      let parted = body_nesting-append b (joined bs) in
      ap (λ a. listed steps 0 a ∷ map (λ b. listed steps 0 (acts_within steps n b)) bs) (to b (omega arith) (omega arith))
      ∙ ap (λ as_. listed steps 0 (acts_within steps m b) ∷ as_) (branches-agree n m to bs (omega arith) (omega arith))

  inner-agree : (n m : ℕ) → Agree n m → (i : Instr) (x : Inner) → body_nesting (lists_in x) ≤ n → body_nesting (lists_in x) ≤ m
      → act_by steps (acts_within steps n) i x ≡ act_by steps (acts_within steps m) i x
  inner-agree n m to i inside.Nothing deep low = refl
  inner-agree n m to i inside.Local deep low = refl
  inner-agree n m to i (inside.Round body) deep low = ap (λ a. round_act steps (bare i) (listed steps 0 a)) (to body deep low)
  inner-agree n m to i (inside.Choice body other) deep low =
      let parted = body_nesting-append body other in
      ap (λ a. choice_act steps (bare i) (listed steps 0 a) (listed steps 0 (acts_within steps n other))) (to body (omega arith) (omega arith))
      ∙ ap (λ a. choice_act steps (bare i) (listed steps 0 (acts_within steps m body)) (listed steps 0 a)) (to other (omega arith) (omega arith))
  inner-agree n m to i (inside.Choices bodies other) deep low =
      let parted = body_nesting-append (joined bodies) other in
      ap (λ as_. choices_act steps (bare i) as_ (listed steps 0 (acts_within steps n other))) (branches-agree n m to bodies (omega arith) (omega arith))
      ∙ ap (λ a. choices_act steps (bare i) (map (λ b. listed steps 0 (acts_within steps m b)) bodies) (listed steps 0 a)) (to other (omega arith) (omega arith))
  inner-agree n m to i (inside.While body) deep low = ap (λ a. loop_act steps i (listed steps 0 a)) (to body deep low)
  inner-agree n m to i (inside.ForEach body) deep low = ap (λ a. loop_act steps i (listed steps 1 a)) (to body deep low)

  pub agree : (n m : ℕ) → Agree n m
  agree zero zero list deep low = refl
  agree zero (suc m) [] deep low = refl
  agree zero (suc m) (i ∷ list) deep low = absurd (omega (arith, nesting_is i))
  agree (suc n) zero [] deep low = refl
  agree (suc n) zero (i ∷ list) deep low = absurd (omega (arith, nesting_is i))
  agree (suc n) (suc m) [] deep low = refl
  agree (suc n) (suc m) (i ∷ list) deep low =
      ap (λ a. act_behind steps a (acts_within steps (suc n) list))
      (inner-agree n m (agree n m) i (inner_of i) (within n i (omega arith)) (within m i (omega arith)))
      ∙ ap (λ a. act_behind steps (act_of steps (acts_within steps m) i) a) (agree (suc n) (suc m) list (omega arith) (omega arith))
