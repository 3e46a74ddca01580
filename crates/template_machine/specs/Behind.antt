-- What a run of the main document does at moments within its steps: where a list is over, an instruction, a node, or a body.
use Rattle.std.specs.Prelude.{◌≡◌, ℕ, ◌+◌, ◌-◌, Bool, true, false, if◌then◌else◌, List, [], ◌∷◌, ◌++◌, OnOk, Result, Ok, Some, reverse, unwrap_or}
use Rattle.stx_base.specs.Course.{Ask}
use Rattle.frame_stack.specs.declared.frame.Frame.{Frame}
use Rattle.frame_stack.specs.declared.frame.Frame.TheVariants.{Attributes, Body, Call, Loop, Pass}
use Rattle.instr_code.specs.Running.{At}
use Rattle.node_stack.specs.Path.{Document, can_end, current}
use Rattle.node_stack.specs.Stack.{path}
use Rattle.result_writer.specs.Target.{Left, Target}
use Rattle.sheet_model.specs.declared.instr.Instr.{Instr}
use Rattle.xml_events.specs.Document.{inner, outer}
use Rattle.xml_events.specs.Tree.{Begun, End, Future}
use Rattle.template_machine.specs.Acting.{act}
use Rattle.template_machine.specs.Bodies.{level_of, spent_in, takes_events}
use Rattle.template_machine.specs.Commands.{HasParams}
use Rattle.template_machine.specs.Ending.{Said}
use Rattle.template_machine.specs.Job.{Asked, Does, Given, Here, Main, Self, fresh, remains, single}
use Rattle.template_machine.specs.Lists.{rest_of}
use Rattle.template_machine.specs.Meaning.{asked_first, at_document}
use Rattle.template_machine.specs.Ordinary.{IsAlone}
use Rattle.template_machine.specs.Outcome.{AreNew}
use Rattle.template_machine.specs.Passing.{again, finish, node, passed_on}
use Rattle.template_machine.specs.Programs.{IsProgramOf}
use Rattle.template_machine.specs.Saying.{Proceeds}
use Rattle.template_machine.specs.Seen.{named_of}
use Rattle.template_machine.specs.Still as still
use Rattle.template_machine.specs.Still.{Lists, Returns, Runs, Scene, counts_of, first_node, node_over, state_of, trail_of}
use Rattle.template_machine.specs.Stepwise.{Flat_does, Working, lifted, stands_at}
use Rattle.template_machine.specs.Well.{is_again}
use Rattle.template_machine.specs.declared.program.Program.{Program}
use Rattle.template_machine.specs.declared.run.Run.{Run}
use Rattle.template_machine.specs.declared.run.Step.{Step}
use Rattle.template_machine.specs.declared.run.Step.TheVariants as step
use Rattle.template_machine.specs.declared.stop.Stop.{Stop}

module _ (given : Given) (p : Program) where
  abbrev pub scene_now : Run → Scene
  scene_now r = still.scene_by given p r.source.ahead r

  abbrev pub lists_now : Run → Future → Future
  lists_now r f = still.lists_ahead given p r.source.ahead r f

  -- the innermost list is over, of which nothing is known any more
  abbrev pub list_done : Run → Left → Future → Flat_does
  list_done r left f =
      still.rest given p Lists [] (reverse r.frames.frames) (scene_now r) f
      (remains (record { earlier = counts_of (scene_now r).nodes; coming = End Begun 0 }) (state_of given p r left))

  -- the instruction is over for which the innermost body waits
  abbrev pub instr_done : Run → Left → Future → Flat_does
  instr_done r left f =
      still.goes_on_at given p (unwrap_or (spent_in (reverse r.frames.frames)) true) (first_node (scene_now r).nodes) (rest_of (scene_now r).nodes) (lists_now r f)
      (λ f. still.rest given p Returns [] (reverse r.frames.frames) (scene_now r) f) (state_of given p r left)

  -- all is done with the current node: a list of attributes goes on, or a list of nodes that come as events
  abbrev pub node_done_in : (events : Bool) → List Frame → Run → Left → Future → Flat_does
  node_done_in false fs r left f =
      still.rest given p Lists [] fs (node_over (scene_now r)) (lists_now r f) (single (state_of given p r left))
  node_done_in true fs r left f =
      still.rest given p Lists [] fs (node_over (scene_now r)) (outer (lists_now r f))
      (still.siblings_of given p (rest_of (scene_now r).nodes) (lists_now r f) (state_of given p r left))

  abbrev pub node_done : Run → Left → Future → Flat_does
  node_done r left f = node_done_in (takes_events (reverse r.frames.frames)) (reverse r.frames.frames) r left f

  -- a body has left the current node, whose children are gone for it or not, and which another body goes on with or not
  abbrev pub body_done : (again spent : Bool) → Run → Left → Future → Flat_does
  body_done again spent r left f =
      still.goes_on_at given p spent (first_node (scene_now r).nodes) (rest_of (scene_now r).nodes) (lists_now r f)
      (λ f a.
      if again
      then still.rest given p Returns [] (reverse r.frames.frames) (scene_now r) f a
      else lifted (finish given Main a) (still.rest given p Lists [] (reverse r.frames.frames) (node_over (scene_now r)) f))
      (state_of given p r left)

  -- who asks for the nodes of the innermost list, which stand within the first of a scene's nodes
  abbrev pub asks_in : List Frame → Scene → Asked
  asks_in [] c = asked_first given
  asks_in (Loop turn ∷ fs) c = asks_in fs c
  asks_in (Body template alternative pc locals level spent ∷ fs) c = still.asked_by given p (pc - 1) locals (fresh c.source) (trail_of c.nodes)
  asks_in (Call procedure pc locals level ∷ fs) c = still.asked_by given p (pc - 1) locals (fresh c.source) (trail_of c.nodes)
  asks_in (Pass base level spent ∷ fs) c = passed_on given base c.source (trail_of c.nodes)
  asks_in (Attributes next asked ∷ fs) c = still.asked_by given p asked (still.locals_in given p fs) (fresh c.source) (trail_of c.nodes)
  asks_in (f ∷ fs) c = asked_first given

  -- the current node is taken, a head that somebody asked for, and then its list goes on
  abbrev pub head_taken : Run → Left → Future → Flat_does
  head_taken r left f =
      still.goes_on_at given p false (first_node (scene_now r).nodes) (rest_of (scene_now r).nodes) (lists_now r f)
      (λ f a.
      lifted (node given (asks_in (reverse r.frames.frames) (node_over (scene_now r))) (trail_of (scene_now r).nodes) a)
      (still.rest given p Lists [] (reverse r.frames.frames) (node_over (scene_now r)) f))
      (state_of given p r left)

  -- An instruction acts, once its unit was spent.

  -- what follows the code of a body
  abbrev pub body_behind : Frame → List Frame → Scene → Future → Here → Flat_does
  body_behind (Body template alternative pc locals level spent) fs c f a =
      still.template_over given p template (is_again level fs) c (still.rest given p Returns [] fs c f) (still.rest given p Lists [] fs (node_over c) f) a
  body_behind b fs c f a = still.rest given p Runs [] fs c f a

  -- something is done at an operation of a body's code, which goes on behind it
  abbrev pub code_behind : (pc : ℕ) → Working → Does → (Here → Flat_does) → Flat_does
  code_behind pc w does k = lifted does (λ a. Ask (At (pc + 1) (stands_at w a)) (λ (v : Working). k v.here))

  abbrev pub acts_in : Instr → (pc : ℕ) → (turns : List ℕ) → List Frame → Scene → Future → Here → Flat_does
  acts_in i pc turns [] c f a = still.rest given p Runs turns [] c f a
  acts_in i pc turns (Loop turn ∷ fs) c f a = acts_in i pc (turns ++ turn ∷ []) fs c f a
  acts_in i pc turns (b ∷ fs) c f a =
      let w = still.working_in given p turns b fs c a in code_behind pc w (act given i w.self w.here) (body_behind b fs c f)

  -- the innermost body stands at the operation of an instruction, which acts, and then it goes on behind it
  abbrev pub instr_acts : Instr → (pc : ℕ) → Run → Left → Future → Flat_does
  instr_acts i pc r left f =
      still.goes_on_at given p (unwrap_or (spent_in (reverse r.frames.frames)) true) (first_node (scene_now r).nodes) (rest_of (scene_now r).nodes) (lists_now r f)
      (acts_in i pc [] (reverse r.frames.frames) (scene_now r)) (state_of given p r left)

  -- An instruction acts that has handed its values, which wait with its body.

  -- whose the innermost body is
  abbrev pub whose_in : List Frame → Scene → Self
  whose_in [] c = at_document given
  whose_in (Loop turn ∷ fs) c = whose_in fs c
  whose_in (b ∷ fs) c = still.self_of given p (unwrap_or (level_of b) 0) b fs c

  -- what the instruction of an operation asks of it
  abbrev pub asks_at : (asked : ℕ) → List Frame → Scene → Asked
  asks_at asked fs c = still.asked_by given p asked (still.locals_in given p fs) (fresh c.source) (trail_of c.nodes)

  -- the innermost body waits behind the operation of an instruction, which does this, and then it goes on
  abbrev pub handed_acts : (Asked → Self → Here → Does) → (asked : ℕ) → Run → Left → Future → Flat_does
  handed_acts does asked r left f =
      still.goes_on_at given p (unwrap_or (spent_in (reverse r.frames.frames)) true) (first_node (scene_now r).nodes) (rest_of (scene_now r).nodes) (lists_now r f)
      (λ f a.
      lifted
      (does (asks_at asked (reverse r.frames.frames) (scene_now r)) (whose_in (reverse r.frames.frames) (scene_now r))
      (record a { locals = named_of (still.locals_in given p (reverse r.frames.frames)) }))
      (still.rest given p Returns [] (reverse r.frames.frames) (scene_now r) f))
      (state_of given p r left)

  -- the current node is asked for again
  abbrev pub asked_again : (asked : ℕ) → Run → Left → Future → Flat_does
  asked_again = handed_acts (λ q. again given q.at q.base q.params)

-- nothing waits at the document node
abbrev pub DocumentIsLast : Run → Type 0
DocumentIsLast r = current (path r.source.stack) ≡ Some Document → reverse r.frames.frames ≡ []

-- an element or a leaf is in a list of such nodes
abbrev pub IsInList : Run → Type 0
IsInList r = can_end (current (path r.source.stack)) ≡ true → takes_events (reverse r.frames.frames) ≡ true

-- A step that says nothing, from a moment on.
pub record MovesFrom (p : Program) (was : Given → Left → Future → Flat_does) (result : Result Step Stop) (new : Run) : Type 0 where
  pub alone : OnOk result (IsAlone p new)
  pub over : result ≡ Ok step.Over → reverse new.frames.frames ≡ []
  pub does :
      (given : Given) → AreNew given → IsProgramOf given.sheet given.limits p → (left : Left) (f : Future)
      → Proceeds given p result (was given left f) [] (still.still given p new left f)

-- A step from a moment on.
pub record StepsFrom {S : Type 0} (output : S → Target) (told : S → S → List Said → Type 0) (p : Program) (was : Given → Left → Future → Flat_does) (result : Result Step Stop) (new : Run) (out out_now : S) : Type 0 where
  pub said : List Said
  pub tells : told out out_now said
  pub alone : OnOk result (IsAlone p new)
  pub over : result ≡ Ok step.Over → reverse new.frames.frames ≡ []
  pub does :
      (given : Given) → AreNew given → IsProgramOf given.sheet given.limits p → HasParams p given → (output out).limit ≡ given.limits.elements → (f : Future)
      → Proceeds given p result (was given (output out).left f) said (still.still given p new (output out_now).left f)
