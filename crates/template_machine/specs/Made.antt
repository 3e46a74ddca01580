-- What making variables, and taking parameters, leaves of a run.
use Rattle.std.specs.Prelude.{◌≡◌, ◌≢◌, ℕ, ◌+◌, ◌-◌, ◌<◌, ◌≤◌, ◌^◌, true, List, [], ◌∷◌, ◌++◌, Some, None, All, IsSome, length, map, slice_get, slice_set, unwrap_or}
use Rattle.std.specs.Option.{ForSome}
use Rattle.event_buffers.specs.Buffers as copies
use Rattle.frame_stack.specs.Change.{changed, locals_of, with_locals}
use Rattle.frame_stack.specs.Stack.{with_frames}
use Rattle.frame_stack.specs.declared.frame.Frame.{Frame}
use Rattle.frame_stack.specs.declared.locals.Local.{Local}
use Rattle.sheet_model.specs.Names.{is_same}
use Rattle.sheet_model.specs.Parts.{handed}
use Rattle.sheet_model.specs.declared.instr.Instr.{Instr}
use Rattle.sheet_model.specs.declared.instr.Instr.TheViews.{out-Instr}
use Rattle.sheet_model.specs.declared.sheet.Variable.{Variable}
use Rattle.stx_base.specs.declared.name.Name.{Name}
use Rattle.stxpath_syntax.specs.Shape.{CanBeEvaluated}
use Rattle.stxpath_values.specs.declared.value.Atom.{Atom}
use Rattle.template_machine.specs.Bodies.{level_of}
use Rattle.template_machine.specs.Programs.{instr_at}
use Rattle.template_machine.specs.Sections.{HoldStill}
use Rattle.template_machine.specs.Standing.{Free, Standing, in_group, scope_over, standing_of}
use Rattle.template_machine.specs.Variables.{newest, unshadowed}
use Rattle.template_machine.specs.declared.program.Program.{Program}
use Rattle.template_machine.specs.declared.run.Asker.{Asker}
use Rattle.template_machine.specs.declared.run.Asker.TheVariants as asker
use Rattle.template_machine.specs.declared.run.Run.{Run}
use Rattle.var_store.specs.Copies.{Stored, on_group, on_newest}
use Rattle.var_store.specs.Variables.{bound, slot_of}

-- Variables.

-- Only the values of variables are other.
pub record OnlyStores (old new : Run) : Type 0 where
  pub rest : new ≡ record old { store = new.store }
  pub copies : map length new.store ≡ map length old.store

-- the newest copy of its group has no variable of the name yet, and few others
pub record CanDeclare (v : Variable) (store : Stored) : Type 0 where
  pub new : slot_of v.name (newest store v.group) ≡ None
  pub room : length (newest store v.group) < 2 ^ 32 - 1

-- a variable is made, with some value
pub record IsMade (v : Variable) (old new : Run) : Type 0 where
  pub value : List Atom
  pub rest : new ≡ record old { store = on_group (on_newest (λ bs. bs ++ bound v.name value ∷ [])) v.group old.store }

-- the expression that a variable has can be evaluated
abbrev pub AreEvaluable : List Variable → Type 0
AreEvaluable vs = All (λ (v : Variable). ForSome v.select CanBeEvaluated) vs

-- a local of the body at a place is called so, by a name that isn't empty
pub record IsNamedLocal (r : Run) (body index : ℕ) (name : Name) : Type 0 where
  pub frame : Frame
  pub there : slice_get r.frames.frames body ≡ Some frame
  pub local : Local
  pub is : slice_get (locals_of frame) index ≡ Some local
  pub called : is_same local.name name ≡ true
  pub some : name.local ≢ []

-- Copies.

-- one more of a group's copies, and of each of its buffers
abbrev pub scope_laid : (group : ℕ) → Standing → Standing
scope_laid group s = record s {
  copies = slice_set s.copies group (unwrap_or (slice_get s.copies group) 0 + 1);
  shelves = map (in_group (λ us. Free ∷ us) group) s.shelves;
}

-- New copies of a group's variables and buffers are laid over the older ones.
pub record LaysScope (group : ℕ) (old new : Run) : Type 0 where
  pub rest : new ≡ record old { store = new.store; putting = new.putting }
  pub standing : standing_of new ≡ scope_laid group (standing_of old)
  pub holds : HoldStill old.putting.buffers new.putting.buffers

-- The older ones stand again.
pub record LeavesScope (group : ℕ) (old new : Run) : Type 0 where
  pub rest : new ≡ record old { store = new.store; putting = new.putting }
  pub store : new.store ≡ unshadowed old.store group
  pub buffers : new.putting.buffers ≡ copies.on_group copies.taken_off group old.putting.buffers
  pub targets : new.putting.targets ≡ old.putting.targets
  pub standing : standing_of new ≡ scope_over true group (standing_of old)
  pub holds : HoldStill old.putting.buffers new.putting.buffers

-- Parameters.

-- the body that an instruction of this number runs has the values at its end that the instruction hands
pub record HandsValues (p : Program) (r : Run) (asked body : ℕ) : Type 0 where
  pub instr : Instr
  pub asks : instr_at p.code asked ≡ Some instr
  pub frame : Frame
  pub there : slice_get r.frames.frames body ≡ Some frame
  pub level : IsSome (level_of frame)
  pub long : length (handed (out-Instr instr)) ≤ length (locals_of frame)
  pub below : body + 1 < length r.frames.frames

abbrev pub WaitFor : Program → Run → Asker → Type 0
WaitFor p r asker.Root = Unit {0}
WaitFor p r (asker.Pass base) = Unit {0}
WaitFor p r (asker.Instr asked body) = HandsValues p r asked body

-- Parameters become locals of the body on top.
pub record BindsParams (params : List Variable) (old new : Run) : Type 0 where
  pub locals : List Local
  pub named : map (λ (x : Local). x.name) locals ≡ map (λ (v : Variable). v.name) params
  pub rest :
      new ≡ record old {
        frames = with_frames (changed (with_locals (λ ls. ls ++ locals)) (length old.frames.frames - 1) old.frames.frames) old.frames;
      }
