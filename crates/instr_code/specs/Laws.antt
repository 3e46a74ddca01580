-- What laws of the code say, whatever single steps mean.
use Rattle.std.specs.Prelude.{◌≡◌, ℕ, Some, slice_get}
use Rattle.instr_code.specs.Acts.{Doing, Plain}
use Rattle.instr_code.specs.Code.{code_of}
use Rattle.instr_code.specs.Running.{At, flat, left_at, nested, operated, start_of}
use Rattle.instr_code.specs.Steps.{Body, Steps}
use Rattle.instr_code.specs.declared.code.Op.{Op}
use Rattle.sheet_model.specs.declared.sheet.Sheet.{Sheet}
use Rattle.stx_base.specs.Course.{Ask, Ret, Same, and_then}
use Rattle.stx_base.specs.Refinement.{Refines}

module _ (Q S O E : Type 0) where
  -- An operation does the next of the instructions that are left at its place, and those are left where it leads that are left then;
  -- whatever comes behind them.
  abbrev pub OperationsDoWhatIsLeft : Type 0
  OperationsDoWhatIsLeft =
      (steps : Steps Q S O E) (sheet : Sheet) (p : ℕ) (o : Op) (st : S) (behind : Doing Q S O E) → slice_get (code_of sheet).ops p ≡ Some o
      → Same (nested steps sheet) (and_then (left_at steps sheet p st) behind) (and_then (operated steps (code_of sheet).instrs Plain (left_at steps sheet) o p st) behind)

  -- where a body begins, all its instructions are left
  abbrev pub BodiesAreLeftWhole : Type 0
  BodiesAreLeftWhole =
      (steps : Steps Q S O E) (sheet : Sheet) (b p : ℕ) (st : S) → slice_get (code_of sheet).starts b ≡ Some p
      → left_at steps sheet p st ≡ nested steps sheet (Plain (Body b st))

  -- What comes of running the instructions that are left at a place comes of running the code from there,
  abbrev pub CodeDoesWhatIsLeft : Type 0
  CodeDoesWhatIsLeft =
      (steps : Steps Q S O E) (sheet : Sheet) (p depth : ℕ) (st : S)
      → Refines (nested steps sheet) (flat steps sheet) depth (left_at steps sheet p st) (Ask (At p st) Ret)

  -- and nothing else comes of it.
  abbrev pub CodeDoesNoMore : Type 0
  CodeDoesNoMore =
      (steps : Steps Q S O E) (sheet : Sheet) (p depth : ℕ) (st : S)
      → Refines (flat steps sheet) (nested steps sheet) depth (Ask (At p st) Ret) (left_at steps sheet p st)

  -- What comes of running a body by its instructions comes of running its code,
  abbrev pub BodiesRunByCode : Type 0
  BodiesRunByCode =
      (steps : Steps Q S O E) (sheet : Sheet) (b depth : ℕ) (st : S)
      → Refines (nested steps sheet) (flat steps sheet) depth (Ask (Plain (Body b st)) Ret) (Ask (start_of steps sheet b st) Ret)

  -- and nothing else comes of it.
  abbrev pub CodeRunsBodies : Type 0
  CodeRunsBodies =
      (steps : Steps Q S O E) (sheet : Sheet) (b depth : ℕ) (st : S)
      → Refines (flat steps sheet) (nested steps sheet) depth (Ask (start_of steps sheet b st) Ret) (Ask (Plain (Body b st)) Ret)
