-- What single steps of a body mean, which is a parameter of what running bodies means.
use Rattle.std.specs.Prelude.{ℕ, List}
use Rattle.sheet_model.specs.declared.instr.Instr.{Instr}
use Rattle.stx_base.specs.Course.{Course, Ret, Halt, Say, Ask, says}

-- What a test, a next turn or an opening gives: something is said, and it holds or fails in a state, or the whole ends.
pub data Verdict (S O E : Type 0) : Type 0 where
  Holds : List O → S → Verdict S O E
  Fails : List O → S → Verdict S O E
  Stops : List O → E → Verdict S O E

abbrev pub decided : {Q S O E : Type 0} → Verdict S O E → (held failed : S → Course Q S O E) → Course Q S O E
decided (Holds os st) held failed = says os (held st)
decided (Fails os st) held failed = says os (failed st)
decided (Stops os e) held failed = says os (Halt e)

-- what single steps call: a body by its number, or anything else
pub data Call (Q S : Type 0) : Type 0 where
  Other : Q → Call Q S
  Body : (body : ℕ) → S → Call Q S

-- What single steps mean, each of an instruction with empty lists in place of those inside, and what other calls do.
pub record Steps (Q S O E : Type 0) : Type 0 where
  pub given : Q → Course (Call Q S) S O E
  -- an instruction without lists inside
  pub single : Instr → S → Course (Call Q S) S O E
  -- the beginning of a choose or of a loop
  pub begins : Instr → S → Course (Call Q S) S O E
  -- the beginning of an instruction round a list, which may be left out, and its end
  pub opens : Instr → S → Verdict S O E
  pub closes : Instr → S → Course (Call Q S) S O E
  -- a test, by its arm in a choose, and the next turn of a loop over items
  pub test : Instr → (arm : ℕ) → S → Verdict S O E
  pub turn : Instr → S → Verdict S O E
  -- so many locals are taken off
  pub drops : (count : ℕ) → S → S

-- the same with calls of another kind
abbrev pub renamed : {P Q R O E : Type 0} → (P → Q) → Course P R O E → Course Q R O E
renamed f (Ret r) = Ret r
renamed f (Halt e) = Halt e
renamed f (Say o x) = Say o (renamed f x)
renamed f (Ask p k) = Ask (f p) (λ r. renamed f (k r))
