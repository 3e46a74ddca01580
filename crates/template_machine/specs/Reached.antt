-- What instructions ask that process nodes.
use Rattle.std.specs.Prelude.{◌≡◌}
use Rattle.sheet_model.specs.declared.instr.Instr.{Instr}
use Rattle.sheet_model.specs.declared.instr.Instr.TheOpen.{Instr-F}
use Rattle.sheet_model.specs.declared.instr.When.{When}
use Rattle.stx_base.specs.declared.fault.Place.{Place}

-- an instruction at a place asks for the children of the current node, for its attributes, for itself, or runs a procedure
abbrev pub AsksForChildren : Place → Instr-F Instr When → Type 0
AsksForChildren at (Instr-F.ProcessChildren group params own) = own ≡ at
AsksForChildren at x = ⊥

abbrev pub AsksForAttributes : Place → Instr-F Instr When → Type 0
AsksForAttributes at (Instr-F.ProcessAttributes group params own) = own ≡ at
AsksForAttributes at x = ⊥

abbrev pub AsksForItself : Place → Instr-F Instr When → Type 0
AsksForItself at (Instr-F.ProcessSelf group params own) = own ≡ at
AsksForItself at x = ⊥

abbrev pub CallsProcedure : Place → Instr-F Instr When → Type 0
CallsProcedure at (Instr-F.CallProcedure name params own) = own ≡ at
CallsProcedure at x = ⊥
