-- Steps of a run of the main document, by what the methods do that they call.
use Rattle.std.proofs.Common.{◌≡◌, ◌≢◌, ℕ, zero, suc, Bool, true, false, List, [], ◌∷◌, reverse, Option, Some, None, Result, Ok, Err, refl, ap, sym, subst, ◌∙◌}
use Rattle.std.specs.Prelude.{slice_get}
use Rattle.stx_base.specs.Course.{Same}
use Rattle.stx_base.proofs.Course.{same_equal, same_then}
use Rattle.frame_stack.specs.Stack.{FrameStack}
use Rattle.frame_stack.specs.declared.frame.Frame.{Frame}
use Rattle.frame_stack.specs.declared.frame.Frame.TheVariants.{Attributes, Body, Call, Loop, Pass, Region, Skip, Source as Source_frame}
use Rattle.frame_stack.specs.declared.locals.Local.{Local}
use Rattle.instr_code.specs.declared.code.Code.{Code}
use Rattle.instr_code.specs.declared.code.Op.TheVariants as op
use Rattle.node_stack.specs.Path.{Document, Node, PathNode, can_end, current}
use Rattle.node_stack.specs.Stack.{path}
use Rattle.result_writer.specs.Target.{Left, Target}
use Rattle.xml_events.specs.Tree.{Future}
use Rattle.template_machine.specs.Behind.{MovesFrom, StepsFrom, head_taken, list_done}
use Rattle.template_machine.specs.Bodies.{pc_in, skipped_in, takes_events}
use Rattle.template_machine.specs.Contexts.{Station}
use Rattle.template_machine.specs.Ending.{Said}
use Rattle.template_machine.specs.Entering.{IsUncounted}
use Rattle.template_machine.specs.Job.{Given}
use Rattle.template_machine.specs.Listed.{AreInOrder, TakesList}
use Rattle.template_machine.specs.Lists.{rest_of}
use Rattle.template_machine.specs.Moments.{HeadIsLooked, IsAtOp, ListIsOver}
use Rattle.template_machine.specs.Onward.{StepsOn}
use Rattle.template_machine.specs.Ordinary.{HeadIsCounted, IsAlone}
use Rattle.template_machine.specs.Outcome.{AreNew}
use Rattle.template_machine.specs.Programs.{IsProgramOf}
use Rattle.template_machine.specs.Saying.{Proceeds}
use Rattle.template_machine.specs.Standing.{Standing, known_now, node_over, standing_of}
use Rattle.template_machine.specs.Still as still
use Rattle.template_machine.specs.Still.{nodes_of}
use Rattle.template_machine.specs.Stepwise.{Flat_does, flat_code}
use Rattle.template_machine.specs.Ways.{IsWay, first_in, here, left, way_of}
use Rattle.template_machine.specs.Well.{AreWell, BodyGoesOn, GoesOn, IsWell, NodeIsThere, TakeNodes}
use Rattle.template_machine.specs.declared.program.Program.{Program}
use Rattle.template_machine.specs.declared.run.Doing.TheVariants as doing
use Rattle.template_machine.specs.declared.run.Run.{Run}
use Rattle.template_machine.specs.declared.run.Running.{Running}
use Rattle.template_machine.specs.declared.run.Step.{Step}
use Rattle.template_machine.specs.declared.run.Step.TheVariants as step
use Rattle.template_machine.specs.declared.source.Ahead.TheVariants as ahead
use Rattle.template_machine.specs.declared.stop.Stop.{Stop}
use Rattle.template_machine.specs.declared.stop.Stop.TheVariants as stop
use Rattle.template_machine.proofs.Entering.{procedure_over}
use Rattle.template_machine.proofs.Finished.{pc_there}
use Rattle.template_machine.proofs.FromLists.{head_comes}
use Rattle.template_machine.proofs.InOrder.{alone_there, below_takes, in_order}
use Rattle.template_machine.proofs.Looking.{list_goes}
use Rattle.template_machine.proofs.Nodes.{is_way}
use Rattle.template_machine.proofs.Operating.{at_body, body_on_top}
use Rattle.template_machine.proofs.Returning.{alone_left, call_ends}
use Rattle.template_machine.proofs.Ways.{way_here}
use Rattle.template_machine.proofs.Untouched.{call_frame, untouched_from, untouched_to}

some_equal : {A : Type 0} {x y : A} → Some x ≡ Some y → x ≡ y
some_equal e = cc

pub proceeds_by : (given : Given) (p : Program) (result : Result Step Stop) (x y : Flat_does) (said : List Said) (follows : Flat_does) → Same (flat_code given) x y → Proceeds given p result y said follows
    → Proceeds given p result x said follows
proceeds_by given p (Ok done) x y said follows first goes = same_then first goes
proceeds_by given p (Err (stop.Fault fault)) x y said follows first goes = same_then first goes
proceeds_by given p (Err (stop.Spent at)) x y said follows first goes = same_then first goes
proceeds_by given p (Err stop.Memory) x y said follows first goes = (goes.0, same_then first goes.1)

module _ {S : Type 0} (output : S → Target) (told : S → S → List Said → Type 0) where
  -- a step that says nothing
  pub says_nothing : ((s : S) → told s s []) → (p : Program) (was : Given → Left → Future → Flat_does) (result : Result Step Stop) (s : Run) (out : S) → MovesFrom p was result s
      → StepsFrom output told p was result s out out
  says_nothing nothing p was result s out moves = record {
    said = [];
    tells = nothing out;
    alone = moves.alone;
    over = moves.over;
    does = λ given new program params limit f. moves.does given new program (output out).left f;
  }

  -- from a moment before, which comes to the same
  pub steps_by : (p : Program) (was now : Given → Left → Future → Flat_does) (result : Result Step Stop) (s : Run) (out mid : S)
      → ((given : Given) → IsProgramOf given.sheet given.limits p → (left : Left) (f : Future) → Same (flat_code given) (was given left f) (now given left f))
      → StepsFrom output told p now result s out mid → StepsFrom output told p was result s out mid
  steps_by p was now result s out mid same steps = record {
    said = steps.said;
    tells = steps.tells;
    alone = steps.alone;
    over = steps.over;
    does = λ given new program params limit f.
        proceeds_by given p result (was given (output out).left f) (now given (output out).left f) steps.said (still.still given p s (output mid).left f) (same given program (output out).left f)
        (steps.does given new program params limit f);
  }

abbrev Went : Step → Result Step Stop
Went t = Ok t

ok_equal : Went step.More ≡ Went step.Over → step.More ≡ step.Over
ok_equal e = cc

-- No region is ended.

abbrev Ended : Bool → Result Bool Stop
Ended b = Ok b

abbrev Stopped : Stop → Result Bool Stop
Stopped e = Err e

pub ended_by : {a b : Bool} → Ended a ≡ Ended b → a ≡ b
ended_by e = cc

pub not_stopped : {e : Stop} {b : Bool} → Stopped e ≡ Ended b → ⊥
not_stopped e = cc

-- The body of a procedure is over.

body_there : (fs : List Frame) (pc : ℕ) → pc_in fs ≡ Some pc → skipped_in fs ≡ None
body_there [] pc at = refl
body_there (Skip depth ∷ fs) pc at = absurd (let no : None ≡ Some pc = at in cc)
body_there (Loop turn ∷ fs) pc at = refl
body_there (Body template alternative q locals level spent ∷ fs) pc at = refl
body_there (Call procedure q locals level ∷ fs) pc at = refl
body_there (Region asked level ∷ fs) pc at = refl
body_there (Attributes next asked ∷ fs) pc at = refl
body_there (Source_frame buffer next asked ∷ fs) pc at = refl
body_there (Pass base level spent ∷ fs) pc at = refl

pub call_moves : (p : Program) (r : Run) (running : Running) (number pc : ℕ) (locals : List Local) (level : ℕ) (frames : FrameStack) → IsAtOp p r running op.Return
    → slice_get r.frames.frames running.body ≡ Some (Call number pc locals level)
    → ((top : Frame) (others : List Frame) → reverse r.frames.frames ≡ top ∷ others → reverse frames.frames ≡ others) → IsAlone p r
    → MovesFrom p (λ given left f. still.still given p r left f) (Ok step.More) (record r { frames = frames })
call_moves p r running number pc locals level frames at is off alone =
    let s = standing_of r in
    let m = record r { frames = frames } in
    let x = Call number pc locals level in
    let t = body_on_top p r running x at is in
    let same : pc ≡ running.pc = some_equal (sym (ap pc_in t.1) ∙ at.pc) in
    let code : slice_get p.code.ops pc ≡ Some op.Return = subst (λ n. slice_get p.code.ops n ≡ Some op.Return) (sym same) at.is in
    let b : BodyGoesOn p at.well.stations (x ∷ t.0) s (known_now r) = subst (λ l. BodyGoesOn p at.well.stations l s (known_now r)) t.1 (at_body p r running op.Return at) in
    let o = procedure_over p at.well.stations t.0 s number pc level locals at.well.stand code b.well in
    let below = pc_there t.0 o.1 in
    let gone = off x t.0 t.1 in
    record {
      alone = alone_left p r m refl (ap skipped_in gone ∙ body_there t.0 below.0 below.1)
          (untouched_to t.0 (reverse frames.frames) (nodes_of r.source) (nodes_of r.source) (sym gone) refl
          (untouched_from (x ∷ t.0) t.0 (nodes_of r.source) (λ a e. call_frame a number pc level locals t.0 o.1 ∙ e)
          (untouched_to (reverse r.frames.frames) (x ∷ t.0) (nodes_of r.source) (nodes_of r.source) t.1 refl alone.untouched))) alone;
      over = λ e. absurd (let no : step.More ≡ step.Over = ok_equal e in cc);
      does = λ given new program left f.
          call_ends given p r m number pc locals level t.0 below.0 left f at.doing t.1 (ap (λ (c : Code). slice_get c.ops pc) (sym program.code_is) ∙ code) below.1 gone refl;
    }

-- Nothing else is known any more.
pub alone_known : (p : Program) (r : Run) → IsAlone p r → IsAlone p (record r { source = record r.source { ahead = ahead.Nothing } })
alone_known p r alone = record {
  origin = alone.origin;
  outer = alone.outer;
  aside = alone.aside;
  held = alone.held;
  counted = λ e. absurd (let no : ahead.Nothing ≡ ahead.Here = e in cc);
  whole = λ e. absurd (let no : ahead.Nothing ≡ ahead.Ended = e in cc);
  untouched = alone.untouched;
  fuel = alone.fuel;
}

-- The innermost list is over.
pub list_found : (p : Program) (r : Run) → r.doing ≡ doing.List → r.source.ahead ≡ ahead.Ended → takes_events (reverse r.frames.frames) ≡ true → (given : Given) (left : Left) (f : Future)
    → Same (flat_code given) (still.still given p r left f) (list_done given p (record r { source = record r.source { ahead = ahead.Nothing } }) left f)
list_found p r list ended events given left f =
    let fs = reverse r.frames.frames in
    same_equal (flat_code given)
    (ap (λ d. still.doing_now given p d r.source.ahead fs r left f) list ∙ ap (λ h. still.doing_now given p doing.List h fs r left f) ended ∙ ap (λ b. still.list_goes given p b ahead.Ended fs r left f) events)

-- no region is looked at
pub looked_in_order : (p : Program) (r : Run) → HeadIsLooked p r → IsAlone p r → AreInOrder (reverse r.frames.frames)
looked_in_order p r h alone = in_order p h.stations 0 true (reverse r.frames.frames) (node_over (standing_of r)) h.head.there.well (alone_there p r alone)

-- nor is one over
pub over_in_order : (p : Program) (r : Run) → ListIsOver p r → IsAlone p r → AreInOrder (reverse r.frames.frames)
over_in_order p r h alone = in_order p h.stations 0 true (reverse r.frames.frames) (standing_of r) h.well (alone_there p r alone)

-- The current node is the head of a list that takes it.

module _ (p : Program) (stations : List Station) where
  document_above : (ns : List Node) → IsWay ns → rest_of ns ≡ [] → first_in ns ≡ Some Document
  document_above [] way none = absurd way
  document_above (x ∷ []) way none = ap (λ y. Some y) way
  document_above (x ∷ y ∷ ys) way none = absurd (let no : y ∷ ys ≡ [] = none in cc)

  head_takes : (fs : List Frame) (s : Standing) → AreWell p stations 0 true fs (node_over s) → TakeNodes fs (left s.source.way) → can_end (here s.source.way) ≡ true → IsWay s.source.way.nodes
      → TakesList fs
  head_takes [] s well takes end way =
      absurd (let no : false ≡ true = sym (ap can_end (document_above s.source.way.nodes way well.1)) ∙ end in cc)
  head_takes (Loop turn ∷ fs) s well takes end way = below_takes p stations 0 fs (node_over s) well
  head_takes (Attributes next asked ∷ fs) s well takes end way = absurd takes
  head_takes (Skip depth ∷ fs) s well takes end way = absurd takes
  head_takes (Body template alternative pc locals level spent ∷ fs) s well takes end way = tt
  head_takes (Call procedure pc locals level ∷ fs) s well takes end way = tt
  head_takes (Region asked level ∷ fs) s well takes end way = tt
  head_takes (Source_frame buffer next asked ∷ fs) s well takes end way = tt
  head_takes (Pass base level spent ∷ fs) s well takes end way = tt

-- no child of a head is counted yet
counted_head : (ns : List PathNode) (x : PathNode) (xs : List PathNode) → HeadIsCounted ns → ns ≡ x ∷ xs → x.children.passing ≡ (λ t. 0)
counted_head [] x xs counted e = absurd counted
counted_head (n ∷ []) x xs counted e = absurd counted
counted_head (n ∷ y ∷ ns) x xs counted e = let same : n ≡ x = cc in ap (λ (z : PathNode). z.children.passing) (sym same) ∙ counted.1

pub head_uncounted : (p : Program) (r : Run) → r.source.ahead ≡ ahead.Here → IsAlone p r → IsUncounted (record r { source = record r.source { ahead = ahead.Nothing } })
head_uncounted p r at alone x xs e = counted_head (nodes_of r.source) x xs (alone.counted at) e

pub head_found : (p : Program) (r : Run) (w : IsWell p r) → r.doing ≡ doing.List → r.source.ahead ≡ ahead.Here → IsAlone p r → (given : Given) (left : Left) (f : Future)
    → Same (flat_code given) (still.still given p r left f) (head_taken given p (record r { source = record r.source { ahead = ahead.Nothing } }) left f)
head_found p r w is at alone given left f =
    let fs = reverse r.frames.frames in
    let s = standing_of r in
    let g : NodeIsThere p w.stations fs s (known_now r) = subst (λ a. GoesOn p w.stations doing.List a fs s (known_now r)) at (list_goes p r w is) in
    head_comes given p r is at (head_takes p w.stations fs s g.there.well g.list g.end (is_way r.source.stack)) (in_order p w.stations 0 true fs (node_over s) g.there.well (alone_there p r alone)) left f
    (alone.counted at) (sym (ap can_end (way_here (path r.source.stack))) ∙ g.end)
