-- Heads of lists.
use Rattle.std.proofs.Common.{◌≡◌, ℕ, suc, ◌+◌, ◌-◌, ◌≤◌, Bool, true, false, List, [], ◌∷◌, length, Option, Some, None, refl, ap, sym, subst, ◌∙◌, arith}
use Rattle.std.specs.Prelude.{◌==◌, MatchBool, if◌then◌else◌}
use Rattle.std.specs.Option.{option_map_or}
use Rattle.std.proofs.lemmas.Bool.{eqb-true, false≢true}
use Rattle.frame_stack.specs.declared.frame.Frame.{Frame}
use Rattle.frame_stack.specs.declared.frame.Frame.TheVariants.{Body, Call, Attributes, Loop, Region, Source, Skip, Pass}
use Rattle.node_stack.specs.Path as node
use Rattle.node_stack.specs.Path.{Node, Document, can_end, can_have_children, is_attribute}
use Rattle.template_machine.specs.Bodies.{level_in, skipped_in, takes_events}
use Rattle.template_machine.specs.Contexts.{Station}
use Rattle.template_machine.specs.Standing.{Front, Known, Standing, Unknown, Waits, node_over, with_way}
use Rattle.template_machine.specs.Ways.{IsWay, Way, entered, here, left, lists_on, number_of}
use Rattle.template_machine.specs.Well.{AreGone, AreWell, CanTake, HasList, HeadIsThere, IsFrontFor, IsOpen, IsSettled, ListFits, ListGoesOn, NodeIsThere, TakeNodes, is_again}
use Rattle.template_machine.specs.declared.program.Program.{Program}
use Rattle.template_machine.proofs.Entering.{known_leaf}
use Rattle.template_machine.proofs.Leaving.{node_leaves}
use Rattle.template_machine.proofs.Ways.{counted_list, list_left, lists_more}

-- A list of nodes that are taken.

pub list_parts : (fs : List Frame) (w : Way) (n : ℕ) (front : Front) → takes_events fs ≡ true → skipped_in fs ≡ None → ListFits fs w n front
    → HasList w × AreGone fs × IsFrontFor w n front
list_parts [] w n front takes noskip h = absurd h
list_parts (Attributes next asked ∷ fs) w n front takes noskip h = absurd (false≢true takes)
list_parts (Skip depth ∷ fs) w n front takes noskip h = absurd (cc)
list_parts (f ∷ fs) w n front takes noskip h = h

pub can_take : (fs : List Frame) (w : Way) → takes_events fs ≡ true → skipped_in fs ≡ None → is_attribute (here w) ≡ false → AreGone fs → CanTake fs w
can_take [] w takes noskip leaf gone = tt
can_take (Attributes next asked ∷ fs) w takes noskip leaf gone = absurd (false≢true takes)
can_take (Skip depth ∷ fs) w takes noskip leaf gone = absurd (cc)
can_take (f ∷ fs) w takes noskip leaf gone = (leaf, gone)

pub take_nodes : (fs : List Frame) (w : Way) → takes_events fs ≡ true → skipped_in fs ≡ None → HasList w → TakeNodes fs w
take_nodes [] w takes noskip has = tt
take_nodes (Attributes next asked ∷ fs) w takes noskip has = absurd (false≢true takes)
take_nodes (Skip depth ∷ fs) w takes noskip has = absurd (cc)
take_nodes (f ∷ fs) w takes noskip has = has

-- no list is open of which nothing asked for nodes
pub noskip_of : (fs : List Frame) (w : Way) → TakeNodes fs w → (takes_events fs ≡ true) × (skipped_in fs ≡ None)
noskip_of [] w t = (refl, refl)
noskip_of (Attributes next asked ∷ fs) w t = absurd t
noskip_of (Skip depth ∷ fs) w t = absurd t
noskip_of (f ∷ fs) w t = (refl, refl)

-- Levels.

other_number : (b : Bool) (k l : ℕ) → (k == l) ≡ b → (k ≡ l → ⊥) → (k == l) ≡ false
other_number true k l e apart = absurd (apart (eqb-true k l e))
other_number false k l e apart = e

again_by : (o : Option ℕ) (l : ℕ) → ((k : ℕ) → o ≡ Some k → k ≡ l → ⊥) → option_map_or (λ k. k == l) o false ≡ false
again_by None l apart = refl
again_by (Some k) l apart = other_number (k == l) k l refl (apart k refl)

some_node : (o : Option Node) → can_have_children o ≡ true → (x : Node) × (o ≡ Some x)
some_node None e = absurd (false≢true e)
some_node (Some x) e = (x, refl)

-- a list is open in some node, which is no attribute
pub list_node : (w : Way) → HasList w → (x : Node) × (here w ≡ Some x)
list_node w e = some_node (here w) e

no_attribute_in : (o : Option Node) → can_have_children o ≡ true → is_attribute o ≡ false
no_attribute_in None e = absurd (false≢true e)
no_attribute_in (Some (node.Attribute a)) e = absurd (false≢true e)
no_attribute_in (Some n) e = refl

some_nodes : (limit : ℕ) (nodes : List Node) (x : Node) → here (record { limit = limit; nodes = nodes }) ≡ Some x → 1 ≤ length nodes
some_nodes limit [] x e = absurd (cc)
some_nodes limit (y ∷ ys) x e = omega arith

number_there : (w : Way) → HasList w → number_of w + 1 ≡ length w.nodes
number_there w has =
    let x = list_node w has in
    let many = some_nodes w.limit w.nodes x.0 x.1 in
    let is : number_of w ≡ length w.nodes - 1 = ap (λ b. length w.nodes - (if b then 2 else 1)) (no_attribute_in (here w) has) in
    omega (arith, many, is)

number_entered : (x : Node) (w : Way) → is_attribute (Some x) ≡ false → number_of (entered x w) ≡ length w.nodes
number_entered x w leaf =
    let is : number_of (entered x w) ≡ suc (length w.nodes) - 1 = ap (λ b. suc (length w.nodes) - (if b then 2 else 1)) leaf in omega (arith, is)

module _ (p : Program) (stations : List Station) where
  -- the innermost body is of the current node
  pub level_here : (loops : ℕ) (waits : Bool) (fs : List Frame) (s : Standing) (k : ℕ) → AreWell p stations loops waits fs s → level_in fs ≡ Some k → k ≡ number_of s.source.way
  level_here loops waits [] s k w e = absurd (cc)
  level_here loops waits (Loop turn ∷ fs) s k w e = level_here (suc loops) waits fs s k w e
  level_here loops waits (Body template alternative pc locals level spent ∷ fs) s k w e = let same : level ≡ k = cc in sym same ∙ w.1.1.0.level_is
  level_here loops waits (Call procedure pc locals level ∷ fs) s k w e = let same : level ≡ k = cc in sym same ∙ w.1.1.0.level_is
  level_here loops waits (Attributes next asked ∷ fs) s k w e = absurd (cc)
  level_here loops waits (Region asked level ∷ fs) s k w e = absurd (cc)
  level_here loops waits (Source buffer next asked ∷ fs) s k w e = absurd (cc)
  level_here loops waits (Skip depth ∷ fs) s k w e = absurd (cc)
  level_here loops waits (Pass base level spent ∷ fs) s k w e = absurd (cc)

  -- a node in its list is of another level
  pub fresh_level : (fs : List Frame) (s : Standing) (x : Node) → AreWell p stations 0 true fs s → HasList s.source.way → is_attribute (Some x) ≡ false
      → is_again (number_of (entered x s.source.way)) fs ≡ false
  fresh_level fs s x w has leaf =
      again_by (level_in fs) (number_of (entered x s.source.way))
      (λ k e same. let there = level_here 0 true fs s k w e in
      omega (arith, there, same, number_there s.source.way has, number_entered x s.source.way leaf))

  -- A head is the current node.
  pub head_there : (fs : List Frame) (s : Standing) (x : Node) (n m : ℕ) → AreWell p stations 0 true fs s → takes_events fs ≡ true → skipped_in fs ≡ None
      → ListFits fs s.source.way n Unknown → can_end (Some x) ≡ true → is_attribute (Some x) ≡ false → counted_list x + n ≡ m
      → NodeIsThere p stations fs (with_way (entered x s.source.way) s) (record { front = Unknown; begun = m })
  head_there fs s x n m w takes noskip fits end leaf more =
      let l = list_parts fs s.source.way n Unknown takes noskip fits in
      let room : lists_on (entered x s.source.way) ≡ m = omega (arith, lists_more x s.source.way, l.2, more) in
      record {
        there = record {
          well = w;
          head = refl;
          apart = fresh_level fs s x w l.0 leaf;
          take = can_take fs (entered x s.source.way) takes noskip leaf l.1;
          fits = subst (λ b. MatchBool b (IsSettled fs (left (entered x s.source.way)) m Unknown) (IsOpen (entered x s.source.way) m Unknown)) (sym leaf) (refl, room);
        };
        list = take_nodes fs s.source.way takes noskip l.0;
        unknown = refl;
        end = end;
      }

  -- A head that was held is the current node.
  pub held_there : (fs : List Frame) (s : Standing) (x : Node) (n : ℕ) → AreWell p stations 0 true fs s → takes_events fs ≡ true → skipped_in fs ≡ None
      → ListFits fs s.source.way n (Waits x) → is_attribute (Some x) ≡ false
      → NodeIsThere p stations fs (with_way (entered x s.source.way) s) (record { front = Unknown; begun = n })
  held_there fs s x n w takes noskip fits leaf =
      let l = list_parts fs s.source.way n (Waits x) takes noskip fits in
      record {
        there = record {
          well = w;
          head = refl;
          apart = fresh_level fs s x w l.0 leaf;
          take = can_take fs (entered x s.source.way) takes noskip leaf l.1;
          fits = subst (λ b. MatchBool b (IsSettled fs (left (entered x s.source.way)) n Unknown) (IsOpen (entered x s.source.way) n Unknown)) (sym leaf) (refl, l.2.1);
        };
        list = take_nodes fs s.source.way takes noskip l.0;
        unknown = refl;
        end = l.2.0.end;
      }

  -- A head is over, which isn't the document node, and of which nothing was processed.
  leaves_by : (b : Bool) (A : Type 0) (w : Way) (n : ℕ) (front : Front) → can_have_children (here w) ≡ false → MatchBool b A (IsOpen w n front)
      → MatchBool b A (IsFrontFor (left w) n front)
  leaves_by true A w n front none h = h
  leaves_by false A w n front none h = known_leaf w n front none h

  pub head_leaves : (fs : List Frame) (s : Standing) (known : Known) → HeadIsThere p stations fs s known → IsWay s.source.way.nodes
      → (here s.source.way ≡ Some Document → ⊥) → can_have_children (here s.source.way) ≡ false → ListGoesOn p stations fs (node_over s) known
  head_leaves fs s known h way apart none =
      node_leaves p stations fs s known way apart h.take
      (leaves_by (is_attribute (here s.source.way)) _ s.source.way known.begun known.front none h.fits) h.well

-- What is told ends a list.

pub list_ends : (w : Way) (n : ℕ) → HasList w → lists_on w ≡ n → lists_on (left w) ≡ n - 1
list_ends w n has fits = omega (arith, list_left w has, fits)
