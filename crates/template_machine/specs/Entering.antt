-- How a template's body is entered for the current node.
use Rattle.std.specs.Prelude.{◌≡◌, ℕ, ◌+◌, Bool, false, true, if◌then◌else◌, List, [], ◌∷◌, OnOk, Result, Some, map, reverse, slice_get, unwrap_or}
use Rattle.stx_base.specs.Course.{Ask, Ret}
use Rattle.stx_base.specs.declared.fault.Place.{Place}
use Rattle.stx_base.specs.declared.name.Binding.{Binding}
use Rattle.stx_base.specs.declared.part.Part.{Part}
use Rattle.stx_base.specs.declared.part.Part.TheVariants as part
use Rattle.frame_stack.specs.declared.frame.Frame.{Frame}
use Rattle.frame_stack.specs.declared.frame.Frame.TheVariants.{Body}
use Rattle.frame_stack.specs.declared.locals.Local.{Local}
use Rattle.node_stack.specs.Path.{Element, Node, PathNode, can_have_children}
use Rattle.node_stack.specs.Stack.{path}
use Rattle.result_writer.specs.Target.{Left}
use Rattle.sheet_model.specs.declared.pass.Kinds.{Kinds}
use Rattle.sheet_model.specs.declared.sheet.Template.{Template}
use Rattle.xml_events.specs.Tree.{Future}
use Rattle.template_machine.specs.Behind.{lists_now, scene_now}
use Rattle.template_machine.specs.Bodies.{spent_in}
use Rattle.template_machine.specs.Commands.{HasParams}
use Rattle.template_machine.specs.Declaring.{makes_scope}
use Rattle.template_machine.specs.Job as job
use Rattle.template_machine.specs.Job.{Does, Given, Here, Level, Main, Self, with_state}
use Rattle.template_machine.specs.Parameters.{handed_by}
use Rattle.template_machine.specs.Lists.{rest_of}
use Rattle.template_machine.specs.Passing.{children, enters, group_at, instance, kinds_in, leaf_parts, parts_behind, parts_if, pass_node, passed_on, returns}
use Rattle.template_machine.specs.Putting.{attribute_part, puts}
use Rattle.template_machine.specs.Programs.{IsProgramOf}
use Rattle.template_machine.specs.Saying.{Yields}
use Rattle.template_machine.specs.Seen.{named_of}
use Rattle.template_machine.specs.Still.{Lists, Returns, aside_of, first_node, goes_on_at, instances_in, locals_in, node_over, nodes_of, rest, scene_by, self_of, state_of, trail_of}
use Rattle.template_machine.specs.Stepwise.{Flat_does, lifted}
use Rattle.template_machine.specs.Trail.{current}
use Rattle.template_machine.specs.Ways.{number_of, way_of}
use Rattle.template_machine.specs.declared.program.Program.{Program}
use Rattle.template_machine.specs.declared.run.Asker.{Asker}
use Rattle.template_machine.specs.declared.run.Doing.TheVariants as doing
use Rattle.template_machine.specs.declared.run.Run.{Run}
use Rattle.template_machine.specs.declared.stop.Stop.{Stop}

-- whose body begins
abbrev pub self_entered : Given → Program → Run → (template alternative start level : ℕ) → (spent : Bool) → Self
self_entered given p r template alternative start level spent =
    self_of given p level (Body template alternative start [] level spent) (reverse r.frames.frames) (scene_by given p r.source.ahead r)

-- One more instance on a level, new copies if the template wants them, and its parameters: all comes as the definition has it, up to the
-- instructions, or stops the run.
pub record Enters (p : Program) (template alternative : ℕ) (a : Asker) (spent : Bool) (at : Place) (result : Result (Unit {0}) Stop) (old new : Run) : Type 0 where
  pub start : ℕ
  pub starts : slice_get p.code.starts template ≡ Some start
  pub level : ℕ
  pub level_is : level ≡ number_of (way_of (path old.source.stack))
  pub locals : List Local
  -- none of them only waits
  pub none : aside_of locals ≡ []
  pub frames : OnOk result (reverse new.frames.frames ≡ Body template alternative start locals level spent ∷ reverse old.frames.frames)
  pub rest : OnOk result (new ≡ record old { frames = new.frames; store = new.store; putting = new.putting; doing = doing.Body })
  pub does :
      (given : Given) → IsProgramOf given.sheet given.limits p → HasParams p given → (t : Template) → slice_get given.sheet.templates template ≡ Some t → (left : Left)
      → (now : Level) → now.instances ≡ instances_in given p level (reverse old.frames.frames) → (b : Here) → (go : Here → Does) → (k : Level → Does)
      → k (record now { instances = now.instances + 1 })
      ≡ makes_scope given t.new_scope t.group (self_entered given p old template alternative start level spent) (state_of given p old left)
      (enters given (handed_by given p old a) t (self_entered given p old template alternative start level spent) b go)
      → Yields result (instance given at now k) (λ done.
      Ask (job.Body t.body (self_entered given p old template alternative start level spent) (record b { locals = named_of locals; state = state_of given p new left })) (returns given t b go))

-- A head that is taken for the first time: none of its children was counted yet.
abbrev pub IsUncounted : Run → Type 0
IsUncounted r = (x : PathNode) (xs : List PathNode) → nodes_of r.source ≡ x ∷ xs → x.children.passing ≡ (λ t. 0)

-- A head that has no template is passed through for a base group, and then its list goes on.
abbrev pub head_passed : Given → Program → (twice : Place) → (base : ℕ) → Run → Left → Future → Flat_does
head_passed given p twice base r left f =
    goes_on_at given p false (first_node (scene_now given p r).nodes) (rest_of (scene_now given p r).nodes) (lists_now given p r f)
    (λ f a.
    lifted (pass_node given twice base Main (trail_of (scene_now given p r).nodes) (current (trail_of (scene_now given p r).nodes)) a)
    (rest given p Lists [] (reverse r.frames.frames) (node_over (scene_now given p r)) f))
    (state_of given p r left)

-- The parts that are put first for a node that is passed through, where these bindings are in force: all of them, but for what follows its
-- children.
abbrev pub first_parts : Kinds → (scope : List Binding) → Node → List Part
first_parts k scope (Element name attrs decls first) =
    parts_if k.elements (part.Start name scope ∷ map attribute_part (if k.attributes then attrs else []))
first_parts k scope n = leaf_parts k n

-- They were put, and its children are processed, and then it ends.
abbrev pub pass_opened : Given → Program → (twice : Place) → (base : ℕ) → Run → Left → Future → Flat_does
pass_opened given p twice base r left f =
    goes_on_at given p false (first_node (scene_now given p r).nodes) (rest_of (scene_now given p r).nodes) (lists_now given p r f)
    (λ f a.
    lifted
    (children twice (passed_on given base Main (trail_of (scene_now given p r).nodes)) a (λ b.
    puts given (group_at given base) (parts_behind (kinds_in given base) (current (trail_of (scene_now given p r).nodes))) b.state (λ st. Ret (with_state b st))))
    (rest given p Lists [] (reverse r.frames.frames) (node_over (scene_now given p r)) f))
    (state_of given p r left)

-- The current node was asked for again, and its parts were put: its children are processed, and then it ends.
abbrev pub again_opened : Given → Program → (twice : Place) → (base : ℕ) → Run → Left → Future → Flat_does
again_opened given p twice base r left f =
    goes_on_at given p (unwrap_or (spent_in (reverse r.frames.frames)) true) (first_node (scene_now given p r).nodes) (rest_of (scene_now given p r).nodes) (lists_now given p r f)
    (λ f a.
    lifted
    (children twice (passed_on given base Main (trail_of (scene_now given p r).nodes)) (record a { locals = named_of (locals_in given p (reverse r.frames.frames)) }) (λ b.
    puts given (group_at given base) (parts_behind (kinds_in given base) (current (trail_of (scene_now given p r).nodes))) b.state (λ st. Ret (with_state b st))))
    (rest given p Returns [] (reverse r.frames.frames) (scene_now given p r) f))
    (state_of given p r left)
