-- What running instructions does, and what is left of it at each of their operations.
use Rattle.std.specs.Prelude.{ℕ, zero, suc, ◌+◌, List, [], ◌∷◌, ◌++◌, map}
use Rattle.instr_code.specs.Bare.{bare}
use Rattle.instr_code.specs.Emitting.{inner_of}
use Rattle.instr_code.specs.Steps.{Call, Steps, decided, renamed}
use Rattle.instr_code.specs.declared.inner.Inner.{Inner}
use Rattle.instr_code.specs.declared.inner.Inner.TheVariants as inner
use Rattle.sheet_model.specs.Body.{body_nesting}
use Rattle.sheet_model.specs.declared.instr.Instr.{Instr}
use Rattle.stx_base.specs.Course.{Course, Ret, Ask, and_then}

-- Calls where bodies are run by their instructions: the turns of a loop that are left are one.
pub data Nested (Q S : Type 0) : Type 0 where
  Plain : Call Q S → Nested Q S
  Again : Instr → S → Nested Q S

-- what is done in a state
abbrev pub Doing : (Q S O E : Type 0) → Type 0
Doing Q S O E = S → Course (Nested Q S) S O E

-- one thing, and then another
abbrev pub before : {Q S O E : Type 0} → Doing Q S O E → Doing Q S O E → Doing Q S O E
before x k st = and_then (x st) k

-- Instructions in order: how many locals they leave, what running them does, and what is left to do from each of their operations on,
-- in front of what comes behind them.
pub record Act (Q S O E : Type 0) : Type 0 where
  pub locals : ℕ
  pub does : Doing Q S O E
  pub left : (behind : Doing Q S O E) → List (Doing Q S O E)

module _ {Q S O E : Type 0} (steps : Steps Q S O E) where
  abbrev pub act_behind : Act Q S O E → Act Q S O E → Act Q S O E
  act_behind a b = record {
    locals = a.locals + b.locals;
    does = before a.does b.does;
    left = λ k. a.left (before b.does k) ++ b.left k;
  }

  abbrev pub no_act : Act Q S O E
  no_act = record { locals = 0; does = λ st. Ret st; left = λ k. [] }

  abbrev pub acts_in_order : List (Act Q S O E) → Act Q S O E
  acts_in_order [] = no_act
  acts_in_order (x ∷ xs) = act_behind x (acts_in_order xs)

  -- The end of a list takes off the locals that it leaves, and so many that were made for it.

  abbrev pub taken_off : (locals : ℕ) → S → S
  taken_off zero st = st
  taken_off (suc n) st = steps.drops (suc n) st

  abbrev pub left_to_take_off : (locals : ℕ) → (behind : Doing Q S O E) → List (Doing Q S O E)
  left_to_take_off zero k = []
  left_to_take_off (suc n) k = (λ st. k (steps.drops (suc n) st)) ∷ []

  abbrev pub listed : (own : ℕ) → Act Q S O E → Act Q S O E
  listed own all = record {
    locals = 0;
    does = before all.does (λ st. Ret (taken_off (all.locals + own) st));
    left = λ k. all.left (λ st. k (taken_off (all.locals + own) st)) ++ left_to_take_off (all.locals + own) k;
  }

  -- An instruction: what it does is left at its first operation.
  abbrev pub instruction_act : (locals : ℕ) → Doing Q S O E → (further : (behind : Doing Q S O E) → List (Doing Q S O E)) → Act Q S O E
  instruction_act locals does further = record { locals = locals; does = does; left = λ k. before does k ∷ further k }

  abbrev pub single_act : (locals : ℕ) → Instr → Act Q S O E
  single_act locals i = instruction_act locals (λ st. renamed Plain (steps.single i st)) (λ k. [])

  abbrev pub beginning : Instr → Doing Q S O E
  beginning i st = renamed Plain (steps.begins i st)

  abbrev pub closing : Instr → Doing Q S O E
  closing i st = renamed Plain (steps.closes i st)

  abbrev pub round_act : Instr → Act Q S O E → Act Q S O E
  round_act i body =
      instruction_act 0 (λ st. decided (steps.opens i st) (before body.does (closing i)) (λ st. Ret st))
      (λ k. body.left (before (closing i) k) ++ before (closing i) k ∷ [])

  -- behind the first list a jump leads out
  abbrev pub choice_act : Instr → Act Q S O E → Act Q S O E → Act Q S O E
  choice_act i body other =
      instruction_act 0 (λ st. decided (steps.test i 0 st) body.does other.does) (λ k. body.left k ++ k ∷ other.left k)

  -- branches from an arm on, and what is run where the test of none holds
  abbrev pub branch_acts : Instr → (arm : ℕ) → List (Act Q S O E) → Act Q S O E → Doing Q S O E
  branch_acts i arm [] other st = other.does st
  branch_acts i arm (b ∷ bs) other st = decided (steps.test i arm st) b.does (branch_acts i (suc arm) bs other)

  abbrev pub left_of_branches : Instr → (arm : ℕ) → List (Act Q S O E) → Act Q S O E → (behind : Doing Q S O E) → List (Doing Q S O E)
  left_of_branches i arm [] other k = other.left k
  left_of_branches i arm (b ∷ bs) other k =
      before (branch_acts i arm (b ∷ bs) other) k ∷ (b.left k ++ k ∷ left_of_branches i (suc arm) bs other k)

  -- one jump leads to the branches, and one out of them
  abbrev pub choices_act : Instr → List (Act Q S O E) → Act Q S O E → Act Q S O E
  choices_act i whens other =
      instruction_act 0 (before (beginning i) (branch_acts i 0 whens other))
      (λ k. before (branch_acts i 0 whens other) k ∷ k ∷ left_of_branches i 0 whens other k)

  -- the turns of a loop that are left
  abbrev pub turns : Instr → Doing Q S O E
  turns loop st = Ask (Again loop st) Ret

  abbrev pub loop_act : Instr → Act Q S O E → Act Q S O E
  loop_act i body =
      instruction_act 0 (before (beginning (bare i)) (turns i))
      (λ k. before (turns i) k ∷ (body.left (before (turns i) k) ++ before (turns i) k ∷ []))

  -- What an instruction does, by what stands inside it, where it is said what lists inside do.

  abbrev pub act_by : (inside : List Instr → Act Q S O E) → Instr → Inner → Act Q S O E
  act_by inside i inner.Nothing = single_act 0 (bare i)
  act_by inside i inner.Local = single_act 1 (bare i)
  act_by inside i (inner.Round body) = round_act (bare i) (listed 0 (inside body))
  act_by inside i (inner.Choice body other) = choice_act (bare i) (listed 0 (inside body)) (listed 0 (inside other))
  act_by inside i (inner.Choices bodies other) = choices_act (bare i) (map (λ b. listed 0 (inside b)) bodies) (listed 0 (inside other))
  act_by inside i (inner.While body) = loop_act i (listed 0 (inside body))
  act_by inside i (inner.ForEach body) = loop_act i (listed 1 (inside body))

  abbrev pub act_of : (inside : List Instr → Act Q S O E) → Instr → Act Q S O E
  act_of inside i = act_by inside i (inner_of i)

  -- instructions in order, so many levels deep
  abbrev pub acts_within : (levels : ℕ) → List Instr → Act Q S O E
  acts_within zero list = no_act
  acts_within (suc n) list = acts_in_order (map (act_of (acts_within n)) list)

  -- with all levels
  abbrev pub acts : List Instr → Act Q S O E
  acts list = acts_within (body_nesting list) list

  -- one turn of a loop, if there is one more, and then the others
  abbrev pub turn_by : Instr → Inner → Doing Q S O E
  turn_by i (inner.While body) st = decided (steps.test (bare i) 0 st) (before (listed 0 (acts body)).does (turns i)) (λ st. Ret st)
  turn_by i (inner.ForEach body) st = decided (steps.turn (bare i) st) (before (listed 1 (acts body)).does (turns i)) (λ st. Ret st)
  turn_by i x st = Ret st

  abbrev pub turn_of : Instr → Doing Q S O E
  turn_of i = turn_by i (inner_of i)
