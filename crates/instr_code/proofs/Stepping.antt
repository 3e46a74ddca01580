-- What stands at a place of the code, and what is left there.
use Rattle.std.proofs.Common.{◌≡◌, ℕ, ◌<◌, List, Some, None}
use Rattle.std.specs.List.{slice_get}
use Rattle.instr_code.specs.Acts.{Again, Doing, Plain, turn_of}
use Rattle.instr_code.specs.Running.{operated}
use Rattle.instr_code.specs.Steps.{Steps}
use Rattle.instr_code.specs.declared.code.Op.{Op}
use Rattle.instr_code.specs.declared.code.Op.TheVariants as op
use Rattle.sheet_model.specs.declared.instr.Instr.{Instr}
use Rattle.stx_base.specs.Course.{Ask, Ret, and_then}

-- an operation leads further on only
abbrev pub LeadsOn : Op → (place : ℕ) → Type 0
LeadsOn (op.Open n to) p = p < to
LeadsOn (op.Test n arm to) p = p < to
LeadsOn (op.Turn n to) p = p < to
LeadsOn (op.Jump to) p = p < to
LeadsOn x p = Unit {0}

-- where the turns of a loop are left, an operation takes the next one
pub record Turning {Q S O E : Type 0} (steps : Steps Q S O E) (instrs : List Instr) (ops : List Op) (left : ℕ → Doing Q S O E) (p : ℕ) : Type 0 where
  pub op : Op
  pub is : slice_get ops p ≡ Some op
  pub loop : Instr
  pub behind : Doing Q S O E
  pub asks : (st : S) → left p st ≡ Ask (Again loop st) behind
  pub does : (st : S) → and_then (turn_of steps loop st) behind ≡ operated steps instrs Plain left op p st

-- where a jump leads that doesn't lead on: to the turns of a loop, or to a jump that leads on
pub data Lands {Q S O E : Type 0} (steps : Steps Q S O E) (instrs : List Instr) (ops : List Op) (left : ℕ → Doing Q S O E) (p to : ℕ) : Type 0 where
  In_loop : Turning steps instrs ops left to → Lands steps instrs ops left p to
  On_jump : (far : ℕ) → slice_get ops to ≡ Some (op.Jump far) → p < far → ((st : S) → left to st ≡ left far st) → Lands steps instrs ops left p to

pub data Step {Q S O E : Type 0} (steps : Steps Q S O E) (instrs : List Instr) (ops : List Op) (left : ℕ → Doing Q S O E) (p : ℕ) : Type 0 where
  Nowhere : slice_get ops p ≡ None → ((st : S) → left p st ≡ Ret st) → Step steps instrs ops left p
  Onward : (o : Op) → slice_get ops p ≡ Some o → ((st : S) → left p st ≡ operated steps instrs Plain left o p st) → LeadsOn o p → Step steps instrs ops left p
  Turns : Turning steps instrs ops left p → Step steps instrs ops left p
  Jumps : (to : ℕ) → slice_get ops p ≡ Some (op.Jump to) → ((st : S) → left p st ≡ left to st) → Lands steps instrs ops left p to → Step steps instrs ops left p
