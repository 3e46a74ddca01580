-- Who asked for the nodes of a list.
use Rattle.std.specs.Prelude.{◌≡◌, ℕ, suc, ◌<◌, List, [], ◌∷◌, Some, IsSome, length, slice_get}
use Rattle.std.specs.Option.{option_map_or}
use Rattle.stx_base.specs.declared.fault.Place.{Place}
use Rattle.sheet_model.specs.Parts.{place}
use Rattle.sheet_model.specs.declared.instr.Instr.TheViews.{out-Instr}
use Rattle.frame_stack.specs.declared.frame.Frame.{Frame}
use Rattle.frame_stack.specs.declared.frame.Frame.TheVariants.{Attributes, Pass, Region, Skip, Source}
use Rattle.template_machine.specs.Bodies.{body_in, pc_in}
use Rattle.template_machine.specs.Passing.{place_of}
use Rattle.template_machine.specs.Programs.{instr_at, link_at}
use Rattle.template_machine.specs.declared.program.Link.{Link}
use Rattle.template_machine.specs.declared.program.Program.{Program}
use Rattle.template_machine.specs.declared.run.Asker.{Asker}
use Rattle.template_machine.specs.declared.run.Asker.TheVariants as asker

-- the frames of the body that waits for the innermost list
abbrev pub asking : List Frame → List Frame
asking (Region asked level ∷ fs) = fs
asking (Attributes next asked ∷ fs) = fs
asking (Source buffer next asked ∷ fs) = fs
asking fs = fs

-- an instruction of a place asked, and leads to a base group that there is
abbrev pub AsksAt : Program → (asked : ℕ) → Type 0
AsksAt p asked = IsSome (instr_at p.code asked) × ((l : Link) × ((link_at p asked ≡ Some l) × (l.base < length p.sheet.groups)))

-- there is a base group for the nodes
abbrev pub HasBase : Program → Asker → Type 0
HasBase p asker.Root = 0 < length p.sheet.groups
HasBase p (asker.Pass base) = base < length p.sheet.groups
HasBase p (asker.Instr asked body) = AsksAt p asked

-- that group, and the place of what asked
abbrev pub base_by : Program → Asker → ℕ
base_by p asker.Root = 0
base_by p (asker.Pass base) = base
base_by p (asker.Instr asked body) = option_map_or (λ (l : Link). l.base) (link_at p asked) 0

abbrev pub place_by : Program → Asker → Place
place_by p asker.Root = place_of (slice_get p.sheet.groups 0)
place_by p (asker.Pass base) = place_of (slice_get p.sheet.groups base)
place_by p (asker.Instr asked body) = option_map_or (λ i. place (out-Instr i)) (instr_at p.code asked) (record { file = 0; offset = 0 })

-- the innermost body of these frames, at a place, waits for the instruction of another
abbrev pub IsBodyAsking : Asker → List Frame → Type 0
IsBodyAsking (asker.Instr asked body) fs = (body_in fs ≡ Some body) × (pc_in fs ≡ Some (suc asked))
IsBodyAsking a fs = ⊥

-- the innermost list is of the children of a node that a base group passes through
abbrev pub IsPassing : (base : ℕ) → List Frame → Type 0
IsPassing base (Pass own level spent ∷ fs) = own ≡ base
IsPassing base fs = ⊥

abbrev pub AsksOn : Asker → List Frame → Type 0
AsksOn asker.Root fs = fs ≡ []
AsksOn (asker.Pass base) fs = IsPassing base fs
AsksOn (asker.Instr asked body) fs = (body_in (asking fs) ≡ Some body) × (pc_in (asking fs) ≡ Some (suc asked))

-- who asked for the innermost list
pub record IsAsker (p : Program) (a : Asker) (fs : List Frame) : Type 0 where
  pub base : HasBase p a
  pub on : AsksOn a fs

-- a body waits for the instruction of a place
abbrev pub WaitsFor : (asked : ℕ) → List Frame → Type 0
WaitsFor asked fs = IsSome (body_in fs) × (pc_in fs ≡ Some (suc asked))

-- somebody asked for the innermost list
abbrev pub HasAsker : Program → List Frame → Type 0
HasAsker p [] = 0 < length p.sheet.groups
HasAsker p (Pass base level spent ∷ fs) = base < length p.sheet.groups
HasAsker p (Region asked level ∷ fs) = AsksAt p asked × WaitsFor asked fs
HasAsker p (Attributes next asked ∷ fs) = AsksAt p asked × WaitsFor asked fs
HasAsker p (Source buffer next asked ∷ fs) = AsksAt p asked × WaitsFor asked fs
HasAsker p (Skip depth ∷ fs) = ⊥
HasAsker p (f ∷ fs) = (asked : ℕ) × (AsksAt p asked × WaitsFor asked (f ∷ fs))
