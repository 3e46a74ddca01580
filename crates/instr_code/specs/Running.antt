-- What running bodies means: by their instructions, and by their code.
use Rattle.std.specs.Prelude.{ℕ, ◌+◌, List, [], ◌∷◌, ◌++◌, length, slice_get}
use Rattle.std.specs.List.{flat_map}
use Rattle.std.specs.Option.{option_map_or}
use Rattle.instr_code.specs.Acts.{Again, Doing, Nested, Plain, acts, turn_of}
use Rattle.instr_code.specs.Code.{code_of, sheet_bodies}
use Rattle.instr_code.specs.Steps.{Body, Call, Other, Steps, decided, renamed}
use Rattle.instr_code.specs.declared.code.Op.{Op}
use Rattle.instr_code.specs.declared.code.Op.TheVariants as op
use Rattle.sheet_model.specs.declared.instr.Instr.{Instr}
use Rattle.sheet_model.specs.declared.sheet.Sheet.{Sheet}
use Rattle.stx_base.specs.Course.{Course, Ret, Ask, and_then}

-- Calls where bodies are run by their code: to go on at an operation is one.
pub data Flat (Q S : Type 0) : Type 0 where
  Given : Q → Flat Q S
  At : (place : ℕ) → S → Flat Q S

module _ {Q S O E : Type 0} (steps : Steps Q S O E) where
  -- what one call does where bodies are run by their instructions, and it is said what bodies do
  abbrev pub nested_by : (body : ℕ → Doing Q S O E) → Nested Q S → Course (Nested Q S) S O E
  nested_by body (Plain (Other q)) = renamed Plain (steps.given q)
  nested_by body (Plain (Body b st)) = body b st
  nested_by body (Again loop st) = turn_of steps loop st

  abbrev pub body_of : Sheet → (body : ℕ) → Doing Q S O E
  body_of sheet b st = option_map_or (λ body. (acts steps body).does st) (slice_get (sheet_bodies sheet) b) (Ret st)

  abbrev pub nested : Sheet → Nested Q S → Course (Nested Q S) S O E
  nested sheet = nested_by (body_of sheet)

  -- What an operation at a place does with the instruction that has its number, if there is one, where calls are of some kind, and
  -- it is said how to go on at another place.
  abbrev pub operated :
      {P : Type 0} → List Instr → (Call Q S → P) → (go : (place : ℕ) → S → Course P S O E) → Op → (place : ℕ) → S → Course P S O E
  operated instrs call go (op.Do n) p st = option_map_or (λ i. and_then (renamed call (steps.single i st)) (go (p + 1))) (slice_get instrs n) (go (p + 1) st)
  operated instrs call go (op.Begin n) p st = option_map_or (λ i. and_then (renamed call (steps.begins i st)) (go (p + 1))) (slice_get instrs n) (go (p + 1) st)
  operated instrs call go (op.Open n to) p st = option_map_or (λ i. decided (steps.opens i st) (go (p + 1)) (go to)) (slice_get instrs n) (go (p + 1) st)
  operated instrs call go (op.Close n) p st = option_map_or (λ i. and_then (renamed call (steps.closes i st)) (go (p + 1))) (slice_get instrs n) (go (p + 1) st)
  operated instrs call go (op.Test n arm to) p st = option_map_or (λ i. decided (steps.test i arm st) (go (p + 1)) (go to)) (slice_get instrs n) (go (p + 1) st)
  operated instrs call go (op.Turn n to) p st = option_map_or (λ i. decided (steps.turn i st) (go (p + 1)) (go to)) (slice_get instrs n) (go (p + 1) st)
  operated instrs call go (op.Jump to) p st = go to st
  operated instrs call go (op.Drop count) p st = go (p + 1) (steps.drops count st)
  operated instrs call go op.Return p st = Ret st

  abbrev pub go_on : (place : ℕ) → S → Course (Flat Q S) S O E
  go_on place st = Ask (At place st) Ret

  -- a body is called where its code begins
  abbrev pub as_flat : (start : (body : ℕ) → S → Flat Q S) → Call Q S → Flat Q S
  as_flat start (Other q) = Given q
  as_flat start (Body b st) = start b st

  -- what one call does where bodies are run by their code, and it is said where they begin
  abbrev pub flat_by : List Instr → (start : (body : ℕ) → S → Flat Q S) → List Op → Flat Q S → Course (Flat Q S) S O E
  flat_by instrs start ops (Given q) = renamed (as_flat start) (steps.given q)
  flat_by instrs start ops (At p st) = option_map_or (λ o. operated instrs (as_flat start) go_on o p st) (slice_get ops p) (Ret st)

  abbrev pub start_of : Sheet → (body : ℕ) → S → Flat Q S
  start_of sheet b st = option_map_or (λ p. At p st) (slice_get (code_of sheet).starts b) (At (length (code_of sheet).ops) st)

  abbrev pub flat : Sheet → Flat Q S → Course (Flat Q S) S O E
  flat sheet = flat_by (code_of sheet).instrs (start_of sheet) (code_of sheet).ops

  -- what is left to do from each operation of a body on, and of bodies one behind another

  abbrev pub left_of_body : List Instr → List (Doing Q S O E)
  left_of_body body = (acts steps body).left (λ st. Ret st) ++ (λ st. Ret st) ∷ []

  abbrev pub left_of_bodies : List (List Instr) → List (Doing Q S O E)
  left_of_bodies bodies = flat_map left_of_body bodies

  -- what is left at a place: nothing where no operation stands
  abbrev pub left_in : List (Doing Q S O E) → (place : ℕ) → Doing Q S O E
  left_in all p = option_map_or (λ x. x) (slice_get all p) (λ st. Ret st)

  -- the instructions that are left at a place of the code, and what closes around them
  abbrev pub left_at : Sheet → (place : ℕ) → Doing Q S O E
  left_at sheet p = left_in (left_of_bodies (sheet_bodies sheet)) p
