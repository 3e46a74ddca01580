-- What becomes of the counts of faults.
use Rattle.std.specs.Prelude.{◌≡◌, ◌⊎◌, ℕ, codes}
use Rattle.stx_host.specs.Outside.{Outside, Rose, SameCounts}
use Rattle.fault_report.specs.declared.outcome.HostFault.{HostFault}
use Rattle.fault_report.specs.declared.outcome.HostFault.TheVariants as fault
use Rattle.fault_report.specs.declared.outcome.Outcome.{Outcome}
use Rattle.fault_report.specs.declared.outcome.Outcome.TheVariants.{Host, Memory}
use Rattle.sheet_runs.specs.declared.run.End.{End}
use Rattle.sheet_runs.specs.declared.run.End.TheVariants.{Told, Unnoted}

-- a fault raised its count, and no other changed
abbrev pub RoseBy : HostFault → (old new : Outside) → Type 0
RoseBy fault.Doc old new = Rose old.doc_faults new.doc_faults × SameCounts (record old { doc_faults = new.doc_faults }) new
RoseBy fault.Read old new = Rose old.main_faults new.main_faults × SameCounts (record old { main_faults = new.main_faults }) new
RoseBy fault.Write old new = Rose old.out_faults new.out_faults × SameCounts (record old { out_faults = new.out_faults }) new

-- the counts of faults, by how a run ended: where the host failed, one rose. Memory may be wanting after a fault too, but
-- none of `Note`
abbrev pub CountsBy : Outcome → (old new : Outside) → Type 0
CountsBy (Host file fault offset) old new = RoseBy fault old new
CountsBy Memory old new = new.note_faults ≡ old.note_faults
CountsBy outcome old new = SameCounts old new

-- the same, where `Note` may have failed
abbrev pub CountsAt : End → (old new : Outside) → Type 0
CountsAt (Told outcome) old new = CountsBy outcome old new
CountsAt Unnoted old new = Rose old.note_faults new.note_faults × SameCounts (record old { note_faults = new.note_faults }) new

-- This holds where a run ended as the host failed. Where memory was wanting that may have come behind a failure: this holds, or no count changed.
abbrev pub IfFailed : End → (old new : Outside) → Type 0 → Type 0
IfFailed (Told (Host file fault offset)) old new P = P
IfFailed (Told Memory) old new P = SameCounts old new ⊎ P
IfFailed (Told outcome) old new P = Unit {0}
IfFailed Unnoted old new P = P

-- a failure is told with its place, if memory suffices
abbrev pub FailsBy : HostFault → (offset : ℕ) → Outcome → Type 0
FailsBy fault offset Memory = Unit {0}
FailsBy fault offset outcome = outcome ≡ Host (codes "-") fault offset
