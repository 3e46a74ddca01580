-- What small steps do to a run.
use Rattle.std.specs.Prelude.{◌≡◌, ℕ, zero, suc, List, [], ◌∷◌, ◌-◌, Option, Some, None, true, length, slice_get}
use Rattle.std.specs.Option.{option_and_then, option_map}
use Rattle.stx_base.specs.declared.fault.Place.{Place}
use Rattle.stx_base.specs.declared.node.NodeTest.{NodeTest}
use Rattle.stx_base.specs.declared.node.NodeTest.TheVariants as node_test
use Rattle.frame_stack.specs.declared.frame.Frame.{Frame}
use Rattle.frame_stack.specs.declared.frame.Frame.TheVariants.{Body, Call, Loop}
use Rattle.match_patterns.specs.Fits.{test_of}
use Rattle.node_stack.specs.Path.{is_told}
use Rattle.node_stack.specs.Stack.{path}
use Rattle.sheet_model.specs.declared.sheet.Procedure.{Procedure}
use Rattle.sheet_model.specs.declared.sheet.Sheet.{Sheet}
use Rattle.sheet_model.specs.declared.sheet.Template.{Template}
use Rattle.template_machine.specs.Bodies.{below, level_of}
use Rattle.template_machine.specs.Programs.{alternatives_of}
use Rattle.template_machine.specs.Seen.{ParentsStandBefore}
use Rattle.template_machine.specs.declared.program.Program.{Program}
use Rattle.template_machine.specs.declared.run.Run.{Run}
use Rattle.template_machine.specs.declared.source.Origin.{Origin}
use Rattle.template_machine.specs.declared.source.Origin.TheVariants as origin

-- Fuel.

-- a unit less, None where none is left
abbrev pub one_less : ℕ → Option ℕ
one_less zero = None
one_less (suc n) = Some n

-- what is left once a node is begun: all of it in the main document, else a unit less
abbrev pub fuel_begun : (whole fuel : ℕ) → Origin → Option ℕ
fuel_begun whole fuel origin.Main = Some whole
fuel_begun whole fuel (origin.Buffer id at) = one_less fuel
fuel_begun whole fuel (origin.Document at) = one_less fuel

-- and once a list is found ended
abbrev pub fuel_ended : (whole fuel : ℕ) → Origin → ℕ
fuel_ended whole fuel origin.Main = whole
fuel_ended whole fuel (origin.Buffer id at) = fuel
fuel_ended whole fuel (origin.Document at) = fuel

-- the instruction at which units are spent
abbrev pub opened_at : Origin → Option Place
opened_at origin.Main = None
opened_at (origin.Buffer id at) = Some at
opened_at (origin.Document at) = Some at

-- What a body sees.

-- the group in which the body of a frame stands
abbrev pub group_of : Sheet → Frame → Option ℕ
group_of s (Body template alternative pc locals level spent) = option_map (λ (t : Template). t.group) (slice_get s.templates template)
group_of s (Call procedure pc locals level) = option_map (λ (q : Procedure). q.group) (slice_get s.procedures procedure)
group_of s f = None

-- the test by which positions count: that of the innermost template's body, of frames from the innermost outwards
abbrev pub test_in : Sheet → List Frame → Option NodeTest
test_in s [] = None
test_in s (Loop turn ∷ fs) = test_in s fs
test_in s (Call procedure pc locals level ∷ fs) = test_in s fs
test_in s (Body template alternative pc locals level spent ∷ fs) = option_map test_of (slice_get (alternatives_of s template) alternative)
test_in s (f ∷ fs) = None

-- The expressions of the body at a place can be evaluated.
pub record Sees (p : Program) (r : Run) (body : ℕ) : Type 0 where
  pub level : ℕ
  pub level_is : option_and_then level_of (slice_get r.frames.frames body) ≡ Some level
  pub group : ℕ
  pub group_is : option_and_then (group_of p.sheet) (slice_get r.frames.frames body) ≡ Some group
  pub test : NodeTest
  pub test_is : test_in p.sheet (below (suc body) r.frames.frames) ≡ Some test
  pub told : is_told (path r.source.stack) (length (path r.source.stack).nodes - 1) test ≡ true
  pub parents : ParentsStandBefore p.sheet.groups
  pub sized : length r.store ≡ length p.sheet.groups
  pub root : p.test_of_root ≡ node_test.Document
