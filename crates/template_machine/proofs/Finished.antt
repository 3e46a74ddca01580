-- Steps of a run of the main document where something is over.
use Rattle.std.proofs.Common.{◌≡◌, ◌≢◌, ◌⊎◌, inl, inr, ◌≤◌, ◌<◌, ℕ, zero, suc, ◌+◌, ◌-◌, Bool, true, false, not, ◌||◌, ◌&&◌, List, [], ◌∷◌, ◌++◌, length, map, reverse, take, Option, Some, None, Result, Ok, Err, refl, ap, sym, subst, ◌∙◌, arith}
use Rattle.std.specs.Prelude.{IfErr, IsSome, OnOk, if◌then◌else◌, option_map, slice_get, unwrap_or}
use Rattle.std.proofs.lemmas.List.{reverse-append, reverse-reverse}
use Rattle.std.proofs.Math.Seq.{take-append_seam}
use Rattle.std.proofs.Common.{length-append}
use Rattle.std.specs.Result.{result_map_both}
use Rattle.stx_base.specs.Course.{Same}
use Rattle.stx_base.specs.declared.fault.Place.{Place}
use Rattle.stx_base.specs.declared.fault.RunCode.TheVariants.{Instances}
use Rattle.stx_base.proofs.Course.{same_equal, same_then}
use Rattle.frame_stack.specs.Change.{locals_of, with_locals}
use Rattle.frame_stack.specs.Stack.{FrameStack, IsFull}
use Rattle.frame_stack.specs.declared.fault.FrameFault.{FrameFault}
use Rattle.frame_stack.specs.declared.fault.FrameFault.TheVariants as frame_fault
use Rattle.frame_stack.specs.declared.frame.Frame.{Frame}
use Rattle.frame_stack.specs.declared.frame.Frame.TheVariants.{Attributes, Body, Call, Loop, Pass, Region, Skip, Source as Source_frame}
use Rattle.frame_stack.specs.declared.locals.Local.{Local}
use Rattle.node_stack.specs.Path.{Attribute, CData, Chars, Comment, Document, Element, Node, Path, PathNode, Pi, can_have_children, current, is_attribute, last_of}
use Rattle.node_stack.specs.Path as paths
use Rattle.node_stack.specs.Stack.{path, path_node}
use Rattle.node_stack.specs.declared.parked.Parked.{Parked}
use Rattle.result_writer.specs.Target.{Left}
use Rattle.sheet_model.specs.Parts.{handed}
use Rattle.sheet_model.specs.declared.instr.Instr.{Instr}
use Rattle.sheet_model.specs.declared.instr.Instr.TheViews.{out-Instr}
use Rattle.xml_events.specs.Tree.{Future}
use Rattle.template_machine.specs.Behind.{DocumentIsLast, MovesFrom, body_done, instr_done, list_done, node_done, node_done_in, scene_now}
use Rattle.template_machine.specs.Bodies.{frame_in, level_in, on_body, pc_in, skipped_in, spent_in, takes_events}
use Rattle.template_machine.specs.Job.{Given}
use Rattle.template_machine.specs.Lists.{rest_of}
use Rattle.template_machine.specs.Moments.{GoesOrWaits}
use Rattle.template_machine.specs.Ordinary.{AreUntouched, HeadIsCounted, IsAlone, is_on_attribute}
use Rattle.template_machine.specs.Outcome.{AreNew}
use Rattle.template_machine.specs.Programs.{IsProgramOf, instr_at}
use Rattle.template_machine.specs.Saying.{Proceeds}
use Rattle.template_machine.specs.Sections.{IsHeldWell}
use Rattle.template_machine.specs.Sources.{held_node}
use Rattle.template_machine.specs.Standing.{standing_of}
use Rattle.template_machine.specs.Still as still
use Rattle.template_machine.specs.Still.{first_node, nodes_of}
use Rattle.template_machine.specs.Stepwise.{Flat_does, flat_code}
use Rattle.template_machine.specs.Stops.{by_frame}
use Rattle.template_machine.specs.Stops.{fault as stopped_by}
use Rattle.template_machine.specs.Ways.{Way, here, way_of}
use Rattle.template_machine.specs.Well.{CanTake, is_again}
use Rattle.template_machine.specs.declared.program.Program.{Program}
use Rattle.template_machine.specs.declared.putting.Putting.{Putting}
use Rattle.template_machine.specs.declared.run.Doing.TheVariants as doing
use Rattle.template_machine.specs.declared.run.Run.{Run}
use Rattle.template_machine.specs.declared.run.Step.{Step}
use Rattle.template_machine.specs.declared.run.Step.TheVariants as step
use Rattle.template_machine.specs.declared.source.Ahead.{Ahead}
use Rattle.template_machine.specs.declared.source.Ahead.TheVariants as ahead
use Rattle.template_machine.specs.declared.source.Source.{Source}
use Rattle.template_machine.specs.declared.stop.Stop.{Stop}
use Rattle.template_machine.specs.declared.stop.Stop.TheVariants as stop
use Rattle.template_machine.proofs.Moving.{moves_only}
use Rattle.template_machine.proofs.Nodes.{is_way}
use Rattle.template_machine.proofs.Onward.{still_over}
use Rattle.template_machine.proofs.Seeing.{node_there}
use Rattle.template_machine.proofs.Untouched.{on_first, skip_frame, untouched_from, untouched_moved, untouched_to}
use Rattle.template_machine.proofs.Ways.{way_here}
use Rattle.template_machine.proofs.Behind.{Own, body_ends_again, body_ends_attribute, body_ends_node, body_ends_open, instr_ends, list_ends_body, node_ends, skip_ends}

some_same : {A : Type 0} {x y : A} → Some x ≡ Some y → x ≡ y
some_same e = cc

abbrev Stepped : Step → Result Step Stop
Stepped t = Ok t

goes_not_over : (t : Step) (m : Run) → GoesOrWaits t m → Stepped t ≡ Stepped step.Over → ⊥
goes_not_over step.More m goes e = absurd (cc)
goes_not_over step.Wait m goes e = absurd (cc)
goes_not_over step.Want m goes e = goes
goes_not_over step.Over m goes e = goes

not_over : (t : Step) → t ≢ step.Over → Stepped t ≡ Stepped step.Over → ⊥
not_over t other e = other (same_step e)
  where
    same_step : Stepped t ≡ Stepped step.Over → t ≡ step.Over
    same_step e = cc

-- from a moment before, which comes to the same
pub moves_by : (p : Program) (was now : Given → Left → Future → Flat_does) (result : Result Step Stop) (s : Run)
    → ((given : Given) → IsProgramOf given.sheet given.limits p → (left : Left) (f : Future) → Same (flat_code given) (was given left f) (now given left f))
    → MovesFrom p now result s → MovesFrom p was result s
moves_by p was now (Ok x) s same moves = record {
  alone = moves.alone;
  over = moves.over;
  does = λ given new program left f. same_then (same given program left f) (moves.does given new program left f);
}
moves_by p was now (Err (stop.Fault fault)) s same moves = record {
  alone = tt;
  over = moves.over;
  does = λ given new program left f. same_then (same given program left f) (moves.does given new program left f);
}
moves_by p was now (Err (stop.Spent at)) s same moves = record {
  alone = tt;
  over = moves.over;
  does = λ given new program left f. same_then (same given program left f) (moves.does given new program left f);
}
moves_by p was now (Err stop.Memory) s same moves = record {
  alone = tt;
  over = moves.over;
  does = λ given new program left f.
      let m = moves.does given new program left f in (m.0, same_then (same given program left f) m.1);
}

-- An instruction is over.

body_unskipped : (change : List Local → List Local) (fs : List Frame) (pc : ℕ) → pc_in fs ≡ Some pc → skipped_in (on_body (with_locals change) fs) ≡ None
body_unskipped change [] pc at = refl
body_unskipped change (Loop turn ∷ fs) pc at = refl
body_unskipped change (Body template alternative q locals level spent ∷ fs) pc at = refl
body_unskipped change (Call procedure q locals level ∷ fs) pc at = refl
body_unskipped change (Region asked level ∷ fs) pc at = refl
body_unskipped change (Attributes next asked ∷ fs) pc at = refl
body_unskipped change (Source_frame buffer next asked ∷ fs) pc at = refl
body_unskipped change (Skip depth ∷ fs) pc at = absurd (cc)
body_unskipped change (Pass base level spent ∷ fs) pc at = refl

pub own_by : (p : Program) (n pc : ℕ) (i : Instr) (ls : List Local) (fs : List Frame) → pc_in fs ≡ Some pc → option_map locals_of (frame_in fs) ≡ Some ls
    → instr_at p.code (pc - 1) ≡ Some i → n ≡ length ls - length (handed (out-Instr i)) → (given : Given) → Own given p n fs
own_by p n pc i ls fs at has is count given q locals at_too has_too =
    let same : pc ≡ q = some_same (sym at ∙ at_too) in
    let all : ls ≡ locals = some_same (sym has ∙ has_too) in
    ap (λ o. still.without_handed given p o locals) (ap (λ k. instr_at p.code (k - 1)) (sym same) ∙ is)
    ∙ ap (λ k. take k locals) (ap (λ (l : List Local). length l - length (handed (out-Instr i))) (sym all) ∙ sym count)

pub instr_moves : (p : Program) (r s : Run) (n pc : ℕ) → IsAlone p r → pc_in (reverse r.frames.frames) ≡ Some pc → ((given : Given) → Own given p n (reverse r.frames.frames))
    → reverse s.frames.frames ≡ on_body (with_locals (take n)) (reverse r.frames.frames) → s ≡ record r { frames = s.frames; doing = doing.Body }
    → MovesFrom p (λ given left f. instr_done given p r left f) (Ok step.More) s
instr_moves p r s n pc alone at own cut rest = record {
  alone = record {
    origin = ap (λ (x : Run). x.source.origin) rest ∙ alone.origin;
    outer = ap (λ (x : Run). x.outer.items) rest ∙ alone.outer;
    aside = ap (λ (x : Run). x.aside.items) rest ∙ alone.aside;
    held = ap (λ (x : Run). held_node x.source) rest ∙ alone.held;
    counted = λ e. subst HeadIsCounted (sym (ap (λ (x : Run). nodes_of x.source) rest)) (alone.counted (sym (ap (λ (x : Run). x.source.ahead) rest) ∙ e));
    whole = λ e depth skipped. absurd (let no : None ≡ Some depth = sym (body_unskipped (take n) (reverse r.frames.frames) pc at) ∙ ap skipped_in (sym cut) ∙ skipped in cc);
    untouched =
        untouched_to _ (reverse s.frames.frames) _ (nodes_of s.source) (sym cut) (sym (ap (λ (x : Run). nodes_of x.source) rest))
        (untouched_moved (with_locals (take n)) (λ o. o) (take n) (moves_only (take n)) (reverse r.frames.frames) (nodes_of r.source) pc at alone.untouched);
    fuel = subst (λ u. u ≤ p.limits.fuel) (sym (ap (λ (x : Run). x.fuel) rest)) alone.fuel;
  };
  over = λ e. absurd (goes_not_over step.More r tt e);
  does = λ given new program left f. same_equal (flat_code given) (instr_ends given p r s n pc left f at (own given) cut rest);
}

-- A node is over.

left_nodes : (ns : List PathNode) → reverse (take (length ns - 1) ns) ≡ rest_of (reverse ns)
left_nodes ns = by (reverse ns) refl
  where
    by : (l : List PathNode) → reverse ns ≡ l → reverse (take (length ns - 1) ns) ≡ rest_of (reverse ns)
    by [] e =
        let none : ns ≡ [] = sym (reverse-reverse ns) ∙ ap reverse e in
        ap (λ (l : List PathNode). reverse (take (length l - 1) l)) none ∙ ap rest_of (sym e)
    by (x ∷ xs) e =
        let last : ns ≡ reverse xs ++ x ∷ [] = sym (reverse-reverse ns) ∙ ap reverse e ∙ reverse-append (x ∷ []) xs in
        let short : length (reverse xs ++ x ∷ []) - 1 ≡ length (reverse xs) = omega (arith, length-append (reverse xs) (x ∷ [])) in
        ap (λ (l : List PathNode). reverse (take (length l - 1) l)) last
        ∙ ap (λ n. reverse (take n (reverse xs ++ x ∷ []))) short
        ∙ ap reverse (take-append_seam (reverse xs) (x ∷ []))
        ∙ reverse-reverse xs ∙ ap rest_of (sym e)

pub not_held : (s : Source) → (s.ahead ≡ ahead.Held → IsHeldWell s.held) → held_node s ≡ None → s.ahead ≢ ahead.Held
not_held s well none e = by s.held (well e) none
  where
    by : (o : Option Parked) → IsHeldWell o → option_map path_node o ≡ None → ⊥
    by None h n = h
    by (Some x) h n = absurd (cc)

pub node_moves : (p : Program) (r s m : Run) (src : Source) (put : Putting) (t : Step) → IsAlone p r → AreUntouched (reverse r.frames.frames) (rest_of (nodes_of r.source)) → r.source.ahead ≢ ahead.Here
    → r.source.ahead ≢ ahead.Held → GoesOrWaits t m → path src.stack ≡ paths.left (path r.source.stack) → src.ahead ≡ r.source.ahead → held_node src ≡ held_node r.source → src.origin ≡ r.source.origin
    → s ≡ record r { source = src; putting = put; doing = doing.List } → put.buffers ≡ r.putting.buffers → put.targets ≡ r.putting.targets
    → MovesFrom p (λ given left f. node_done given p r left f) (Ok t) s
node_moves p r s m src put t alone untouched apart free goes gone front held origin rest buffers targets = record {
  alone = record {
    origin = ap (λ (x : Run). x.source.origin) rest ∙ origin ∙ alone.origin;
    outer = ap (λ (x : Run). x.outer.items) rest ∙ alone.outer;
    aside = ap (λ (x : Run). x.aside.items) rest ∙ alone.aside;
    held = ap (λ (x : Run). held_node x.source) rest ∙ held ∙ alone.held;
    counted = λ e. absurd (apart (sym front ∙ sym (ap (λ (x : Run). x.source.ahead) rest) ∙ e));
    whole = λ e depth skipped.
        alone.whole (sym front ∙ sym (ap (λ (x : Run). x.source.ahead) rest) ∙ e) depth (sym (ap (λ (x : Run). skipped_in (reverse x.frames.frames)) rest) ∙ skipped);
    untouched =
        untouched_to _ (reverse s.frames.frames) _ (nodes_of s.source) (sym (ap (λ (x : Run). reverse x.frames.frames) rest))
        (sym (ap (λ (x : Run). nodes_of x.source) rest ∙ ap (λ (q : Path). reverse q.nodes) gone ∙ left_nodes (path r.source.stack).nodes)) untouched;
    fuel = subst (λ u. u ≤ p.limits.fuel) (sym (ap (λ (x : Run). x.fuel) rest)) alone.fuel;
  };
  over = λ e. absurd (goes_not_over t m goes e);
  does = λ given new program left f.
      same_equal (flat_code given)
      (node_ends given p r s src left f apart free (ap (λ (q : Path). reverse q.nodes) gone ∙ left_nodes (path r.source.stack).nodes) front
      (rest ∙ ap (λ (x : Putting). record r { source = src; putting = x; doing = doing.List }) (sym (ap (λ (x : Run). x.putting) rest)))
      (ap (λ (x : Run). x.putting.buffers) rest ∙ buffers) (ap (λ (x : Run). x.putting.targets) rest ∙ targets));
}

-- at the document node nothing waits
pub node_is_last : (p : Program) (r : Run) → IsAlone p r → reverse r.frames.frames ≡ [] → MovesFrom p (λ given left f. node_done given p r left f) (Ok step.Over) r
node_is_last p r alone none = record {
  alone = alone;
  over = λ e. none;
  does = λ given new program left f.
      same_equal (flat_code given)
      (ap (λ fs. node_done_in given p (takes_events fs) fs r left f) none ∙ sym (still_over given p r left f none));
}

-- Children are over.

children_frames : (p : Program) (r : Run) (pc : ℕ) → r.source.ahead ≡ ahead.Nothing → pc_in (reverse r.frames.frames) ≡ Some pc → spent_in (reverse r.frames.frames) ≡ Some true
    → is_attribute (Some (first_node (nodes_of r.source))) ≡ false → (given : Given) (left : Left) (f : Future)
    → Same (flat_code given) (list_done given p r left f) (instr_done given p r left f)
children_frames p r pc unknown at spent node given left f =
    list_ends_body given p r pc left f unknown at spent
    (ap (λ h. is_attribute (Some (first_node (still.path_before given p h (nodes_of r.source))))) unknown ∙ node)

pub children_move : (p : Program) (r s : Run) (pc : ℕ) (result : Result Step Stop) → r.source.ahead ≡ ahead.Nothing → pc_in (reverse r.frames.frames) ≡ Some pc
    → spent_in (reverse r.frames.frames) ≡ Some true → is_attribute (Some (first_node (nodes_of r.source))) ≡ false
    → MovesFrom p (λ given left f. instr_done given p r left f) result s → MovesFrom p (λ given left f. list_done given p r left f) result s
children_move p r s pc result unknown at spent node moves =
    moves_by p (λ given left f. list_done given p r left f) (λ given left f. instr_done given p r left f) result s (λ given program left f. children_frames p r pc unknown at spent node given left f) moves

pub skip_moves : (p : Program) (r m s : Run) (gs : List Frame) (result : Result Step Stop) → r.source.ahead ≡ ahead.Nothing → reverse r.frames.frames ≡ Skip 0 ∷ gs → reverse m.frames.frames ≡ gs
    → takes_events gs ≡ true → m ≡ record r { frames = m.frames } → MovesFrom p (λ given left f. node_done given p m left f) result s
    → MovesFrom p (λ given left f. list_done given p r left f) result s
skip_moves p r m s gs result unknown before after takes rest moves =
    moves_by p (λ given left f. list_done given p r left f) (λ given left f. node_done given p m left f) result s
    (λ given program left f. same_equal (flat_code given) (skip_ends given p r m gs left f unknown before after takes rest)) moves

-- A body is over.

pub body_moves_again : (p : Program) (r s : Run) (level : ℕ) (spent : Bool) (result : Result Step Stop) → is_again level (reverse r.frames.frames) ≡ true
    → spent_in (reverse r.frames.frames) ≡ Some spent → MovesFrom p (λ given left f. instr_done given p r left f) result s
    → MovesFrom p (λ given left f. body_done given p (is_again level (reverse r.frames.frames)) spent r left f) result s
body_moves_again p r s level spent result again same moves =
    moves_by p _ (λ given left f. instr_done given p r left f) result s
    (λ given program left f.
    same_equal (flat_code given) (ap (λ b. body_done given p b spent r left f) again ∙ body_ends_again given p r spent left f same)) moves

pub body_moves_apart : (p : Program) (r s : Run) (level : ℕ) (spent : Bool) (result : Result Step Stop) → is_again level (reverse r.frames.frames) ≡ false
    → MovesFrom p (λ given left f. body_done given p false spent r left f) result s
    → MovesFrom p (λ given left f. body_done given p (is_again level (reverse r.frames.frames)) spent r left f) result s
body_moves_apart p r s level spent result apart moves =
    moves_by p _ (λ given left f. body_done given p false spent r left f) result s
    (λ given program left f. same_equal (flat_code given) (ap (λ b. body_done given p b spent r left f) apart)) moves

-- the list of a node that may be taken is of attributes where it is one
list_kind : (fs : List Frame) (w : Way) → CanTake fs w → (fs ≡ []) ⊎ (takes_events fs ≡ not (is_attribute (here w)))
list_kind [] w take_it = inl refl
list_kind (Attributes next asked ∷ fs) w take_it = inr (ap not (sym take_it))
list_kind (Skip depth ∷ fs) w take_it = absurd take_it
list_kind (Loop turn ∷ fs) w take_it = inr (ap not (sym take_it.0))
list_kind (Body template alternative pc locals level spent ∷ fs) w take_it = inr (ap not (sym take_it.0))
list_kind (Call procedure pc locals level ∷ fs) w take_it = inr (ap not (sym take_it.0))
list_kind (Region asked level ∷ fs) w take_it = inr (ap not (sym take_it.0))
list_kind (Source_frame buffer next asked ∷ fs) w take_it = inr (ap not (sym take_it.0))
list_kind (Pass base level spent ∷ fs) w take_it = inr (ap not (sym take_it.0))

module _ (given : Given) (p : Program) (r : Run) (left : Left) (f : Future) where
  done_empty : (b d : Bool) (fs : List Frame) → fs ≡ [] → node_done_in given p b fs r left f ≡ node_done_in given p d fs r left f
  done_empty b d [] none = by b d
    where
      by : (b d : Bool) → node_done_in given p b [] r left f ≡ node_done_in given p d [] r left f
      by true true = refl
      by true false = refl
      by false true = refl
      by false false = refl
  done_empty b d (x ∷ fs) none = absurd (cc)

  done_either : (d : Bool) (fs : List Frame) → (fs ≡ []) ⊎ (takes_events fs ≡ d) → node_done_in given p d fs r left f ≡ node_done_in given p (takes_events fs) fs r left f
  done_either d fs (inl none) = done_empty d (takes_events fs) fs none
  done_either d fs (inr same) = ap (λ b. node_done_in given p b fs r left f) (sym same)

  pub body_ends_done : (spent : Bool) (w : Way) → CanTake (reverse r.frames.frames) w → is_attribute (here w) ≡ is_attribute (Some (first_node (scene_now given p r).nodes))
      → (is_attribute (here w) ≡ false → spent || not (still.has_kids (first_node (scene_now given p r).nodes)) ≡ true)
      → body_done given p false spent r left f ≡ node_done given p r left f
  body_ends_done spent w take_it node none = by (is_attribute (here w)) refl
    where
      kinds : {d : Bool} → (reverse r.frames.frames ≡ []) ⊎ (takes_events (reverse r.frames.frames) ≡ not (is_attribute (here w))) → not (is_attribute (here w)) ≡ d
          → (reverse r.frames.frames ≡ []) ⊎ (takes_events (reverse r.frames.frames) ≡ d)
      kinds (inl none) e = inl none
      kinds (inr same) e = inr (same ∙ e)

      by : (b : Bool) → is_attribute (here w) ≡ b → body_done given p false spent r left f ≡ node_done given p r left f
      by true e =
          body_ends_attribute given p r spent left f (sym node ∙ e)
          ∙ done_either false (reverse r.frames.frames) (kinds (list_kind (reverse r.frames.frames) w take_it) (ap not e))
      by false e =
          body_ends_node given p r spent left f (sym node ∙ e) (none e)
          ∙ done_either true (reverse r.frames.frames) (kinds (list_kind (reverse r.frames.frames) w take_it) (ap not e))

-- The current node.

last_ended : (ys : List PathNode) (x : PathNode) → last_of (ys ++ x ∷ []) ≡ Some x
last_ended [] x = refl
last_ended (y ∷ []) x = refl
last_ended (y ∷ z ∷ ys) x = last_ended (z ∷ ys) x

pub first_is : (ns : List PathNode) (n : Node) → option_map (λ (y : PathNode). y.node) (last_of ns) ≡ Some n → first_node (reverse ns) ≡ n
first_is ns n is = by (reverse ns) refl
  where
    some_node : {a b : Node} → Some a ≡ Some b → a ≡ b
    some_node e = cc

    by : (l : List PathNode) → reverse ns ≡ l → first_node (reverse ns) ≡ n
    by [] e =
        let none : ns ≡ [] = sym (reverse-reverse ns) ∙ ap reverse e in
        absurd (let no : None ≡ Some n = sym (ap (λ (l : List PathNode). option_map (λ (y : PathNode). y.node) (last_of l)) none) ∙ is in cc)
    by (x ∷ xs) e =
        let last : ns ≡ reverse xs ++ x ∷ [] = sym (reverse-reverse ns) ∙ ap reverse e ∙ reverse-append (x ∷ []) xs in
        ap first_node e ∙ some_node (sym (ap (λ (l : List PathNode). option_map (λ (y : PathNode). y.node) (last_of l)) last ∙ ap (option_map (λ (y : PathNode). y.node)) (last_ended (reverse xs) x)) ∙ is)

-- it is there
pub current_there : (r : Run) → (n : Node) × (current (path r.source.stack) ≡ Some n)
current_there r =
    let t = node_there (way_of (path r.source.stack)).nodes (is_way r.source.stack) in
    (t.0, sym (way_here (path r.source.stack)) ∙ t.1)

pub first_now : (r : Run) (n : Node) → current (path r.source.stack) ≡ Some n → first_node (nodes_of r.source) ≡ n
first_now r n is = first_is (path r.source.stack).nodes n is

-- whether it is an attribute
pub attribute_now : (r : Run) → is_on_attribute (nodes_of r.source) ≡ is_attribute (here (way_of (path r.source.stack)))
attribute_now r =
    let t = current_there r in
    on_first (nodes_of r.source) ∙ ap (λ n. is_attribute (Some n)) (first_now r t.0 t.1) ∙ sym (ap is_attribute (way_here (path r.source.stack) ∙ t.1))

-- a node that may have children is no attribute
no_attribute : (n : Node) → can_have_children (Some n) ≡ true → is_attribute (Some n) ≡ false
no_attribute Document may = refl
no_attribute (Element name attrs decls first) may = refl
no_attribute (Chars text) may = refl
no_attribute (CData text) may = refl
no_attribute (Comment text) may = refl
no_attribute (Pi target text) may = refl
no_attribute (Attribute a) may = absurd (cc)

pub list_node : (r : Run) → can_have_children (here (way_of (path r.source.stack))) ≡ true → is_attribute (Some (first_node (nodes_of r.source))) ≡ false
list_node r may =
    let t = current_there r in
    ap (λ n. is_attribute (Some n)) (first_now r t.0 t.1)
    ∙ no_attribute t.0 (sym (ap can_have_children (way_here (path r.source.stack) ∙ t.1)) ∙ may)

pub pc_there : (fs : List Frame) → IsSome (level_in fs) → (pc : ℕ) × (pc_in fs ≡ Some pc)
pc_there [] some = absurd (cc)
pc_there (Loop turn ∷ fs) some = pc_there fs some
pc_there (Body template alternative pc locals level spent ∷ fs) some = (pc, refl)
pc_there (Call procedure pc locals level ∷ fs) some = (pc, refl)
pc_there (Region asked level ∷ fs) some = absurd (cc)
pc_there (Attributes next asked ∷ fs) some = absurd (cc)
pc_there (Source_frame buffer next asked ∷ fs) some = absurd (cc)
pc_there (Skip depth ∷ fs) some = absurd (cc)
pc_there (Pass base level spent ∷ fs) some = absurd (cc)

-- a list that was passed over is of a node that isn't an attribute, in a list of such nodes
pub takes_below : (gs : List Frame) (w : Way) → CanTake gs w → can_have_children (here w) ≡ true → takes_events gs ≡ true
takes_below [] w take_it may = refl
takes_below (Attributes next asked ∷ gs) w take_it may = absurd (both (here w) take_it may)
  where
    both : (o : Option Node) → is_attribute o ≡ true → can_have_children o ≡ true → ⊥
    both None a b = cc
    both (Some n) a b = let no : false ≡ true = sym (no_attribute n b) ∙ a in cc
takes_below (Skip depth ∷ gs) w take_it may = absurd take_it
takes_below (Loop turn ∷ gs) w take_it may = refl
takes_below (Body template alternative pc locals level spent ∷ gs) w take_it may = refl
takes_below (Call procedure pc locals level ∷ gs) w take_it may = refl
takes_below (Region asked level ∷ gs) w take_it may = refl
takes_below (Source_frame buffer next asked ∷ gs) w take_it may = refl
takes_below (Pass base level spent ∷ gs) w take_it may = refl

-- frames alone are others
pub alone_frames : (p : Program) (r : Run) (frames : FrameStack) → IsAlone p r → r.source.ahead ≢ ahead.Ended → AreUntouched (reverse frames.frames) (nodes_of r.source)
    → IsAlone p (record r { frames = frames })
alone_frames p r frames alone going untouched = record {
  origin = alone.origin;
  outer = alone.outer;
  aside = alone.aside;
  held = alone.held;
  counted = alone.counted;
  whole = λ e. absurd (going e);
  untouched = untouched;
  fuel = alone.fuel;
}

pub path_still : (given : Given) (p : Program) (h : Ahead) (nodes : List PathNode) → h ≢ ahead.Here → still.path_before given p h nodes ≡ nodes
path_still given p ahead.Nothing nodes e = refl
path_still given p ahead.Here nodes e = absurd (e refl)
path_still given p ahead.Held nodes e = refl
path_still given p ahead.Ended nodes e = refl

-- The body of a node is over, which no other goes on with.
pub body_moves_done : (p : Program) (r s : Run) (spent : Bool) (result : Result Step Stop) → CanTake (reverse r.frames.frames) (standing_of r).source.way → r.source.ahead ≢ ahead.Here
    → (can_have_children (current (path r.source.stack)) && not spent) ≡ false → MovesFrom p (λ given left f. node_done given p r left f) result s
    → MovesFrom p (λ given left f. body_done given p false spent r left f) result s
body_moves_done p r s spent result take_it apart shut moves =
    moves_by p (λ given left f. body_done given p false spent r left f) (λ given left f. node_done given p r left f) result s
    (λ given program left f.
    let t = current_there r in
    let w = (standing_of r).source.way in
    let is : here w ≡ Some t.0 = way_here (path r.source.stack) ∙ t.1 in
    let first : first_node (scene_now given p r).nodes ≡ t.0 = ap first_node (path_still given p r.source.ahead (nodes_of r.source) apart) ∙ first_now r t.0 t.1 in
    same_equal (flat_code given)
    (body_ends_done given p r left f spent w take_it (ap is_attribute is ∙ sym (ap (λ n. is_attribute (Some n)) first))
    (λ node. ap (λ n. spent || not (still.has_kids n)) first ∙ shut_so spent (still.has_kids t.0) (sym (ap (λ o. can_have_children o && not spent) t.1) ∙ shut)))) moves
  where
    shut_so : (spent b : Bool) → (b && not spent) ≡ false → spent || not b ≡ true
    shut_so true b e = refl
    shut_so false true e = absurd (cc)
    shut_so false false e = refl

-- the children of a node are skipped
pub body_moves_open : (p : Program) (r s : Run) → IsAlone p r → r.source.ahead ≢ ahead.Here → can_have_children (current (path r.source.stack)) ≡ true
    → reverse s.frames.frames ≡ Skip 0 ∷ reverse r.frames.frames → s ≡ record r { frames = s.frames; doing = doing.List }
    → MovesFrom p (λ given left f. body_done given p false false r left f) (Ok step.More) s
body_moves_open p r s alone apart may pushed rest = record {
  alone = record {
    origin = ap (λ (x : Run). x.source.origin) rest ∙ alone.origin;
    outer = ap (λ (x : Run). x.outer.items) rest ∙ alone.outer;
    aside = ap (λ (x : Run). x.aside.items) rest ∙ alone.aside;
    held = ap (λ (x : Run). held_node x.source) rest ∙ alone.held;
    counted = λ e. subst HeadIsCounted (sym (ap (λ (x : Run). nodes_of x.source) rest)) (alone.counted (sym (ap (λ (x : Run). x.source.ahead) rest) ∙ e));
    whole = λ e depth skipped. let same : Some 0 ≡ Some depth = sym (ap skipped_in pushed) ∙ skipped in cc;
    untouched =
        untouched_to (Skip 0 ∷ reverse r.frames.frames) (reverse s.frames.frames) _ (nodes_of s.source) (sym pushed) (sym (ap (λ (x : Run). nodes_of x.source) rest))
        (untouched_from (reverse r.frames.frames) (Skip 0 ∷ reverse r.frames.frames) (nodes_of r.source) (λ a. skip_frame a 0 (reverse r.frames.frames)) alone.untouched);
    fuel = subst (λ u. u ≤ p.limits.fuel) (sym (ap (λ (x : Run). x.fuel) rest)) alone.fuel;
  };
  over = λ e. absurd (goes_not_over step.More r tt e);
  does = λ given new program left f.
      let t = current_there r in
      let first : first_node (scene_now given p r).nodes ≡ t.0 = ap first_node (path_still given p r.source.ahead (nodes_of r.source) apart) ∙ first_now r t.0 t.1 in
      let kids : can_have_children (Some t.0) ≡ true = sym (ap can_have_children t.1) ∙ may in
      same_equal (flat_code given)
      (body_ends_open given p r s left f (ap (λ n. is_attribute (Some n)) first ∙ no_attribute t.0 kids) (ap (λ n. still.has_kids n) first ∙ kids) pushed rest);
}

pub unspent_moves : (p : Program) (r s : Run) (spent : Bool) → spent ≡ false → MovesFrom p (λ given left f. body_done given p false false r left f) (Ok step.More) s
    → MovesFrom p (λ given left f. body_done given p false spent r left f) (Ok step.More) s
unspent_moves p r s spent is moves = subst (λ b. MovesFrom p (λ given left f. body_done given p false b r left f) (Ok step.More) s) (sym is) moves

-- where memory is wanting, anything may follow
pub memory_moves : (p : Program) (was : Given → Left → Future → Flat_does) (s : Run) → MovesFrom p was (Err stop.Memory) s
memory_moves p was s = record {
  alone = tt;
  over = λ e. absurd (cc);
  does = λ given new program left f. (was given left f, same_equal (flat_code given) refl);
}

pub frame_wants_memory : (p : Program) (was : Given → Left → Future → Flat_does) (s : Run) (e : Stop) → e ≡ stop.Memory → MovesFrom p was (Err e) s
frame_wants_memory p was s e is = subst (λ x. MovesFrom p was (Err x) s) (sym is) (memory_moves p was s)

-- what stands at a place within a list
pub base_there : {A : Type 0} (xs : List A) (n : ℕ) → n < length xs → (x : A) × (slice_get xs n ≡ Some x)
base_there [] n less = absurd (omega (arith, less))
base_there (x ∷ xs) zero less = (x, refl)
base_there (x ∷ xs) (suc n) less = base_there xs n (omega (arith, less))

-- nothing is done yet
pub waits_moves : (p : Program) (r : Run) → IsAlone p r → MovesFrom p (λ given left f. still.still given p r left f) (Ok step.Wait) r
waits_moves p r alone = record {
  alone = alone;
  over = λ e. absurd (not_over step.Wait (λ x. cc) e);
  does = λ given new program left f. same_equal (flat_code given) refl;
}

-- What comes of a frame that is pushed.

pub push_room : (at : Place) (x : Result (Unit {0}) FrameFault) (y : Result (Unit {0}) Stop) (P : Type 0) → y ≡ result_map_both (λ done. done) (by_frame at) x → OnOk x P → OnOk y P
push_room at (Ok done) y P same h = subst (λ r. OnOk r P) (sym same) h
push_room at (Err e) y P same h = subst (λ r. OnOk r P) (sym same) tt

pub push_full : (at : Place) (x : Result (Unit {0}) FrameFault) (y : Result (Unit {0}) Stop) (limit : ℕ) (frame : Frame) (frames : List Frame) → y ≡ result_map_both (λ done. done) (by_frame at) x
    → IfErr x (λ e. e ≡ frame_fault.Instances → IsFull limit frame frames)
    → IfErr y (λ s. (s ≡ stop.Memory) ⊎ ((s ≡ stopped_by Instances at) × IsFull limit frame frames))
push_full at (Ok done) y limit frame frames same h =
    subst (λ r. IfErr r (λ s. (s ≡ stop.Memory) ⊎ ((s ≡ stopped_by Instances at) × IsFull limit frame frames))) (sym same) tt
push_full at (Err frame_fault.Instances) y limit frame frames same h =
    subst (λ r. IfErr r (λ s. (s ≡ stop.Memory) ⊎ ((s ≡ stopped_by Instances at) × IsFull limit frame frames))) (sym same) (inr (refl, h refl))
push_full at (Err frame_fault.Memory) y limit frame frames same h =
    subst (λ r. IfErr r (λ s. (s ≡ stop.Memory) ⊎ ((s ≡ stopped_by Instances at) × IsFull limit frame frames))) (sym same) (inl refl)

-- a list that is passed over is no instance
pub skip_memory : (at : Place) (limit : ℕ) (frames : List Frame) (e : Stop) → (e ≡ stop.Memory) ⊎ ((e ≡ stopped_by Instances at) × IsFull limit (Skip 0) frames) → e ≡ stop.Memory
skip_memory at limit frames e (inl memory) = memory
skip_memory at limit frames e (inr h) = absurd (let no : None ≡ Some h.1.0 = h.1.1 in cc)
