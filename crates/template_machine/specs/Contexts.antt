-- What stands at each operation of a body: its locals, the loops and the buffers that are open around it, and how soon it costs a unit
-- of fuel.
use Rattle.std.specs.Prelude.{◌≡◌, ℕ, suc, ◌+◌, ◌<◌, List, [], ◌∷◌, ◌++◌, ◌⊎◌, Some, length, map, slice_get}
use Rattle.std.specs.Option.{option_map}
use Rattle.stx_base.specs.declared.name.Name.{Name}
use Rattle.instr_code.specs.declared.code.Code.{Code}
use Rattle.instr_code.specs.declared.code.Op.{Op}
use Rattle.instr_code.specs.declared.code.Op.TheVariants as op
use Rattle.sheet_model.specs.declared.instr.Instr.{Instr}
use Rattle.sheet_model.specs.declared.instr.Instr.TheOpen.{Instr-F}
use Rattle.sheet_model.specs.declared.instr.Instr.TheViews.{out-Instr}
use Rattle.sheet_model.specs.declared.sheet.Procedure.{Procedure}
use Rattle.sheet_model.specs.declared.sheet.Sheet.{Sheet}
use Rattle.sheet_model.specs.declared.sheet.Template.{Template}
use Rattle.sheet_model.specs.declared.sheet.Variable.{Variable}
use Rattle.template_machine.specs.Programs.{IsWithin}

-- Contexts.

-- a local: a variable by its name, the items of a loop, or a name that waits for the end of its element
pub data Kind : Type 0 where
  Named : Name → Kind
  Items : Kind
  Tag : Kind

-- the number of the body whose code a place is of, its locals there, the oldest first, how many loops are open around it, and the numbers
-- of the instructions around it that write buffers, the innermost first
pub record Context : Type 0 where
  pub body : ℕ
  pub locals : List Kind
  pub loops : ℕ
  pub writing : List ℕ

-- locals more
abbrev pub with_kinds : List Kind → Context → Context
with_kinds ks c = record c { locals = c.locals ++ ks }

abbrev pub with_kind : Kind → Context → Context
with_kind k c = with_kinds (k ∷ []) c

abbrev pub in_loop : Context → Context
in_loop c = record c { loops = suc c.loops }

-- where a body begins that has these parameters
abbrev pub begun : (body : ℕ) → List Variable → Context
begun body params = record { body = body; locals = map (λ v. Named v.name) params; loops = 0; writing = [] }

-- Instructions, by what they are to the places around them.

pub data Form : Type 0 where
  -- one step, and one that declares a local
  Single : Form
  Declares : Name → Form
  -- a list that is run once; of an element whose name waits for its end; and while a buffer is written
  Around : Form
  AroundTag : Form
  AroundBuffer : Form
  -- one of two lists, and one of so many branches or another list
  Choice : Form
  Choices : (branches : ℕ) → Form
  -- a loop by a test, and one over items, which are bound to a name
  Repeats : Form
  Walks : Name → Form

abbrev pub form : {A B : Type 0} → Instr-F A B → Form
form (Instr-F.Copy attributes body at) = Around
form (Instr-F.Literal name attrs body at) = Around
form (Instr-F.Element name namespace scope body at) = AroundTag
form (Instr-F.ResultBuffer name clear body at) = AroundBuffer
form (Instr-F.If test body other at) = Choice
form (Instr-F.Choose whens other at) = Choices (length whens)
form (Instr-F.While test body at) = Repeats
form (Instr-F.ForEachItem name select body at) = Walks name
form (Instr-F.Local name select at) = Declares name
form x = Single

abbrev pub form_of : Instr → Form
form_of i = form (out-Instr i)

-- behind an instruction
abbrev pub behind : Form → Context → Context
behind (Declares name) c = with_kind (Named name) c
behind f c = c

-- within a list that is run once, of the instruction of a number
abbrev pub within : Form → (number : ℕ) → Context → Context
within AroundTag n c = with_kind Tag c
within AroundBuffer n c = record c { writing = n ∷ c.writing }
within f n c = c

abbrev pub IsRound : Form → Type 0
IsRound Around = Unit {0}
IsRound AroundTag = Unit {0}
IsRound AroundBuffer = Unit {0}
IsRound f = ⊥

abbrev pub IsSingle : Form → Type 0
IsSingle Single = Unit {0}
IsSingle (Declares name) = Unit {0}
IsSingle f = ⊥

-- Stations.

-- a place: its context, and a number that falls at each step that costs no fuel
pub record Station : Type 0 where
  pub context : Context
  pub rank : ℕ

module _ (stations : List Station) where
  abbrev pub IsAt : (place : ℕ) → Context → (rank : ℕ) → Type 0
  IsAt place c r = slice_get stations place ≡ Some (record { context = c; rank = r })

  -- a step to a place, and one that costs no fuel
  abbrev pub Goes : (place : ℕ) → Context → Type 0
  Goes place c = (r : ℕ) × IsAt place c r

  abbrev pub Falls : (rank place : ℕ) → Context → Type 0
  Falls rank place c = (r : ℕ) × (IsAt place c r × (r < rank))

module _ (code : Code) where
  -- the instruction of a number is of a form
  abbrev pub HasForm : (number : ℕ) → Form → Type 0
  HasForm n f = option_map form_of (slice_get code.instrs n) ≡ Some f

  -- some instruction declares a variable of this name, or binds items to it
  abbrev pub IsDeclared : Name → Type 0
  IsDeclared name = (n : ℕ) × (HasForm n (Declares name) ⊎ HasForm n (Walks name))

  -- each is a variable
  abbrev pub AreNamed : List Kind → Type 0
  AreNamed [] = Unit {0}
  AreNamed (Named name ∷ ks) = IsDeclared name × AreNamed ks
  AreNamed (k ∷ ks) = ⊥

module _ (code : Code) (stations : List Station) where
  -- what begins at a place, by the form of the instruction
  abbrev pub Begins : Form → (place : ℕ) → Context → Type 0
  Begins (Choices branches) place c = Goes stations (place + 1) c
  Begins Repeats place c = Goes stations (place + 1) (in_loop c)
  Begins (Walks name) place c = Goes stations (place + 1) (in_loop (with_kind Items c))
  Begins f place c = ⊥

  -- a test; that of an if costs a unit of fuel, and that of a while where it holds
  abbrev pub Asks : Form → (arm to place : ℕ) → Context → (rank : ℕ) → Type 0
  Asks Choice arm to place c r = Goes stations (place + 1) c × Goes stations to c
  Asks (Choices branches) arm to place c r = (arm < branches) × Falls stations r (place + 1) c × Falls stations r to c
  Asks Repeats arm to place c r = (o : Context) × ((c ≡ in_loop o) × Goes stations (place + 1) c × Falls stations r to o)
  Asks f arm to place c r = ⊥

  -- the next turn of a loop over items
  abbrev pub Turns : Form → (to place : ℕ) → Context → (rank : ℕ) → Type 0
  Turns (Walks name) to place c r =
      (o : Context)
      × ((c ≡ in_loop (with_kind Items o)) × Goes stations (place + 1) (with_kind (Named name) c) × Falls stations r to o)
  Turns f to place c r = ⊥

  -- An operation at a place leads to places with the contexts that it leaves.
  abbrev pub Leads : (place : ℕ) → Context → (rank : ℕ) → Op → Type 0
  Leads place c r (op.Do n) = (f : Form) × (HasForm code n f × IsSingle f × Goes stations (place + 1) (behind f c))
  Leads place c r (op.Begin n) = (f : Form) × (HasForm code n f × Begins f place c)
  Leads place c r (op.Open n to) = (f : Form) × (HasForm code n f × IsRound f × Goes stations (place + 1) (within f n c) × Goes stations to c)
  Leads place c r (op.Close n) =
      (f : Form) × (HasForm code n f × IsRound f × ((o : Context) × ((c ≡ within f n o) × Falls stations r (place + 1) o)))
  Leads place c r (op.Test n arm to) = (f : Form) × (HasForm code n f × Asks f arm to place c r)
  Leads place c r (op.Turn n to) = (f : Form) × (HasForm code n f × Turns f to place c r)
  Leads place c r (op.Jump to) = Falls stations r to c
  Leads place c r (op.Drop count) =
      (o : Context)
      × ((gone : List Kind) × ((c ≡ with_kinds gone o) × (length gone ≡ count) × Falls stations r (place + 1) o × AreNamed code gone))
  Leads place c r op.Return = (c.loops ≡ 0) × (c.writing ≡ [])

  -- each operation has a station, and each body begins with its parameters
  pub record HasStations (sheet : Sheet) : Type 0 where
    pub each : length stations ≡ length code.ops
    -- each place is of the code of its body
    pub own : (place : ℕ) (c : Context) (r : ℕ) → IsAt stations place c r → IsWithin code c.body place
    pub leads :
        (place : ℕ) (o : Op) (c : Context) (r : ℕ) → slice_get code.ops place ≡ Some o → IsAt stations place c r
        → Leads place c r o
    pub templates :
        (n : ℕ) (t : Template) → slice_get sheet.templates n ≡ Some t
        → (start : ℕ) × ((slice_get code.starts n ≡ Some start) × Goes stations start (begun n t.params))
    pub procedures :
        (n : ℕ) (p : Procedure) → slice_get sheet.procedures n ≡ Some p
        → (start : ℕ) × ((slice_get code.starts (length sheet.templates + n) ≡ Some start) × Goes stations start (begun (length sheet.templates + n) p.params))
