-- How the parameters of a body that begins get their values.
use Rattle.std.specs.Prelude.{◌≡◌, ◌≢◌, ℕ, ◌-◌, true, List, [], ◌∷◌, ◌++◌, OnOk, Result, Some, Ok, Err, length, reverse, slice_get, unwrap_or}
use Rattle.std.specs.Option.{option_map_or}
use Rattle.frame_stack.specs.Change.{locals_of, with_locals}
use Rattle.frame_stack.specs.declared.frame.Frame.{Frame}
use Rattle.frame_stack.specs.declared.locals.Local.{Local}
use Rattle.node_stack.specs.Path.{PathNode, kind_of}
use Rattle.node_stack.specs.Stack.{path}
use Rattle.node_stack.specs.Test.{passes}
use Rattle.sheet_model.specs.declared.sheet.Variable.{Variable}
use Rattle.stx_base.specs.declared.name.Name.{Name}
use Rattle.stx_base.specs.declared.node.NodeTest.TheVariants as test
use Rattle.stxpath_values.specs.declared.value.Atom.{Atom}
use Rattle.var_store.specs.declared.bound.Bound.{Bound}
use Rattle.var_store.specs.Variables.{bound}
use Rattle.template_machine.specs.Bodies.{level_of, pc_of}
use Rattle.template_machine.specs.Called.{HasNames}
use Rattle.template_machine.specs.Declaring.{binds}
use Rattle.template_machine.specs.Job.{Does, Given, Here, Self}
use Rattle.template_machine.specs.Programs.{IsProgramOf, instr_at}
use Rattle.template_machine.specs.Saying.{Yields}
use Rattle.template_machine.specs.Seen.{named_of}
use Rattle.template_machine.specs.Steps.{test_in}
use Rattle.template_machine.specs.Still.{aside_of, scene_by, self_of, values_handed}
use Rattle.template_machine.specs.declared.program.Program.{Program}
use Rattle.template_machine.specs.declared.run.Asker.{Asker}
use Rattle.template_machine.specs.declared.run.Asker.TheVariants as asker
use Rattle.template_machine.specs.declared.run.Run.{Run}
use Rattle.template_machine.specs.declared.source.Ahead.TheVariants as ahead
use Rattle.template_machine.specs.declared.stop.Stop.{Stop}
use Rattle.sheet_model.specs.declared.instr.WithParam.{WithParam}

-- the values that wait at the instruction that asked, under the names to which it hands them
abbrev pub handed_by : Given → Program → Run → Asker → List Bound
handed_by given p r (asker.Instr asked body) =
    values_handed given p (instr_at p.code asked) (option_map_or locals_of (slice_get r.frames.frames body) [])
handed_by given p r a = []

-- values with the names of the parameters to which they are handed
abbrev pub named_values : List WithParam → List (List Atom) → List Bound
named_values [] values = []
named_values (p ∷ ps) [] = []
named_values (p ∷ ps) (v ∷ vs) = bound p.name v ∷ named_values ps vs

-- a local more in the body on top
abbrev pub PushesLocal : Name → List Atom → (old new : Run) → Type 0
PushesLocal name value old new =
    (x : Frame) (others : List Frame) → reverse old.frames.frames ≡ x ∷ others
    → reverse new.frames.frames ≡ with_locals (λ ls. ls ++ record { name = name; value = value } ∷ []) x ∷ others

-- The current node passes the test by which positions count in the innermost body, no head is ahead of it, and parameters have names.
pub record CanBind (p : Program) (params : List Variable) (r : Run) : Type 0 where
  pub names : HasNames params
  pub apart : r.source.ahead ≢ ahead.Here
  pub fits :
      (x : PathNode) → slice_get (path r.source.stack).nodes (length (path r.source.stack).nodes - 1) ≡ Some x
      → passes (unwrap_or (test_in p.sheet (reverse r.frames.frames)) test.Document) (kind_of x.node) ≡ true

-- whose body a frame is that stands on top
abbrev pub self_on : Given → Program → Run → Frame → List Frame → Self
self_on given p r b below = self_of given p (unwrap_or (level_of b) 0) b below (scene_by given p r.source.ahead r)

abbrev pub here_with : Here → List Local → Here
here_with a locals = record a { locals = named_of locals }

-- Some parameters have become locals of the body on top, and these are left: the first come as the definition binds them.
pub record HasBound (p : Program) (params left : List Variable) (handed : Given → List Bound) (old now : Run) : Type 0 where
  pub locals : List Local
  pub behind :
      (x : Frame) (others : List Frame) → reverse old.frames.frames ≡ x ∷ others → reverse now.frames.frames ≡ with_locals (λ ls. ls ++ locals) x ∷ others
  pub rest : now ≡ record old { frames = now.frames }
  -- none of them only waits
  pub none : aside_of locals ≡ []
  pub does :
      (given : Given) → IsProgramOf given.sheet given.limits p → (b : Frame) (below : List Frame) (pc : ℕ) → reverse old.frames.frames ≡ b ∷ below → pc_of b ≡ Some pc
      → (a : Here) → a.state.variables ≡ old.store → (go : Here → Does)
      → binds given params (handed given) (self_on given p old b below) (here_with a (locals_of b)) go
      ≡ binds given left (handed given) (self_on given p old b below) (here_with a (locals_of b ++ locals)) go

-- All of them have, or one stops the run.
abbrev pub Binds : Program → List Variable → (handed : Given → List Bound) → Result (Unit {0}) Stop → (old new : Run) → Type 0
Binds p params handed (Ok done) old new = HasBound p params [] handed old new
Binds p params handed (Err e) old new =
    (given : Given) → IsProgramOf given.sheet given.limits p → (b : Frame) (below : List Frame) (pc : ℕ) → reverse old.frames.frames ≡ b ∷ below → pc_of b ≡ Some pc
    → (a : Here) → a.state.variables ≡ old.store → (go : Here → Does)
    → Yields {A = Unit {0}} (Err e) (binds given params (handed given) (self_on given p old b below) (here_with a (locals_of b)) go) (λ done. go a)
