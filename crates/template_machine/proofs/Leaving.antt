-- A node is over, and its list goes on.
use Rattle.std.proofs.Common.{◌≡◌, ℕ, Bool, true, false, List, [], ◌∷◌, Option, Some, None, refl, ap, sym, subst, ◌∙◌}
use Rattle.std.specs.Prelude.{◌&&◌, not, MatchBool}
use Rattle.std.proofs.lemmas.Bool.{false≢true}
use Rattle.frame_stack.specs.declared.frame.Frame.{Frame}
use Rattle.frame_stack.specs.declared.frame.Frame.TheVariants.{Body, Attributes, Skip}
use Rattle.frame_stack.specs.declared.locals.Local.{Local}
use Rattle.node_stack.specs.Path.{Node, Document, Element, can_have_children, is_attribute}
use Rattle.template_machine.specs.Contexts.{Station}
use Rattle.template_machine.specs.Standing.{Front, Known, Standing, node_over}
use Rattle.template_machine.specs.Ways.{IsWay, Way, here, left}
use Rattle.template_machine.specs.Well.{AreWell, CanTake, HasList, IsFrontFor, IsOpen, IsSettled, ListFits, ListGoesOn, is_again}
use Rattle.template_machine.specs.declared.program.Program.{Program}

-- what is known of the list of a node that is over
abbrev pub LeavesFront : List Frame → Way → (begun : ℕ) → Front → Type 0
LeavesFront fs w n front = MatchBool (is_attribute (here w)) (IsSettled fs (left w) n front) (IsFrontFor (left w) n front)

by_again : (b c : Bool) (A B C D : Type 0) → b ≡ false → c ≡ false → (x : Bool) → MatchBool b A (MatchBool x B (MatchBool c C D)) → MatchBool x B D
by_again true c A B C D e f x h = absurd (false≢true (sym e))
by_again false true A B C D e f x h = absurd (false≢true (sym f))
by_again false false A B C D e f x h = h

-- a body's node is over, whose children are gone
pub body_leaves : (number alternative pc level : ℕ) (spent : Bool) (locals : List Local) (fs : List Frame) (w : Way) (n : ℕ) (front : Front) → is_again level fs ≡ false
    → (can_have_children (here w) && not spent) ≡ false
    → IsSettled (Body number alternative pc locals level spent ∷ fs) w n front → LeavesFront fs w n front
body_leaves number alternative pc level spent locals fs w n front e gone h =
    by_again (is_again level fs) (can_have_children (here w) && not spent) (IsSettled fs w n front) (IsSettled fs (left w) n front) (IsOpen w n front)
    (IsFrontFor (left w) n front) e gone (is_attribute (here w)) h

left_open : (b x c : Bool) (A B C D : Type 0) → b ≡ false → x ≡ false → c ≡ true → MatchBool b A (MatchBool x B (MatchBool c C D)) → C
left_open true x c A B C D e f g h = absurd (false≢true (sym e))
left_open false true c A B C D e f g h = absurd (false≢true (sym f))
left_open false false false A B C D e f g h = absurd (false≢true g)
left_open false false true A B C D e f g h = h

-- a body's node is over, whose children aren't gone
pub body_skips : (number alternative pc level : ℕ) (spent : Bool) (locals : List Local) (fs : List Frame) (w : Way) (n : ℕ) (front : Front) → is_again level fs ≡ false
    → is_attribute (here w) ≡ false → (can_have_children (here w) && not spent) ≡ true
    → IsSettled (Body number alternative pc locals level spent ∷ fs) w n front → IsOpen w n front
body_skips number alternative pc level spent locals fs w n front e leaf unspent h =
    left_open (is_again level fs) (is_attribute (here w)) (can_have_children (here w) && not spent) (IsSettled fs w n front) (IsSettled fs (left w) n front)
    (IsOpen w n front) (IsFrontFor (left w) n front) e leaf unspent h

-- the list around a node that isn't the document node
pub around : (nodes : List Node) (limit : ℕ) → IsWay nodes → (here (record { limit = limit; nodes = nodes }) ≡ Some Document → ⊥)
    → HasList (left (record { limit = limit; nodes = nodes }))
around [] limit way apart = absurd way
around (x ∷ []) limit way apart = absurd (apart (ap (λ n. Some n) way))
around (x ∷ y ∷ ys) limit way apart = way.1

no_attribute : (b : Bool) (A B : Type 0) → b ≡ false → MatchBool b A B → B
no_attribute true A B e h = absurd (false≢true (sym e))
no_attribute false A B e h = h

-- a node that has a list of nodes is no attribute
list_node : (o : Option Node) → can_have_children o ≡ true → is_attribute o ≡ false
list_node None has = refl
list_node (Some Document) has = refl
list_node (Some (Element name attrs decls first)) has = refl
list_node (Some x) has = absurd (false≢true has)

-- an attribute's list, or another
pub leaves_fits : (fs : List Frame) (w : Way) (n : ℕ) (front : Front) → (fs ≡ [] → ⊥) → CanTake fs w → HasList (left w)
    → LeavesFront fs w n front → ListFits fs (left w) n front
leaves_fits [] w n front some take has h = absurd (some refl)
leaves_fits (Attributes next asked ∷ fs) w n front some take has h =
    (list_node (here (left w)) has, subst (λ b. MatchBool b (IsSettled fs (left w) n front) (IsFrontFor (left w) n front)) take h)
leaves_fits (Skip depth ∷ fs) w n front some take has h = absurd take
leaves_fits (f ∷ fs) w n front some take has h =
    (has, take.1, no_attribute (is_attribute (here w)) (IsSettled (f ∷ fs) (left w) n front) (IsFrontFor (left w) n front) take.0 h)

module _ (p : Program) (stations : List Station) where
  -- a node is in a list, unless it is the document node
  some_frame : (fs : List Frame) (nodes : List Node) (limit : ℕ) (s : Standing) → s.source.way ≡ record { limit = limit; nodes = nodes } → IsWay nodes
      → (here s.source.way ≡ Some Document → ⊥) → AreWell p stations 0 true fs (node_over s) → fs ≡ [] → ⊥
  some_frame (f ∷ fs) nodes limit s is way apart w none = cc
  some_frame [] [] limit s is way apart w none = absurd way
  some_frame [] (x ∷ []) limit s is way apart w none = apart (ap here is ∙ ap (λ n. Some n) way)
  some_frame [] (x ∷ y ∷ ys) limit s is way apart w none =
      let e : y ∷ ys ≡ [] = sym (ap (λ (v : Way). (left v).nodes) is) ∙ w.1 in cc

  -- The current node is over, which isn't the document node: its list goes on.
  pub node_leaves : (fs : List Frame) (s : Standing) (known : Known) → IsWay s.source.way.nodes → (here s.source.way ≡ Some Document → ⊥) → CanTake fs s.source.way
      → LeavesFront fs s.source.way known.begun known.front → AreWell p stations 0 true fs (node_over s)
      → ListGoesOn p stations fs (node_over s) known
  node_leaves fs s known way apart take leaves w = record {
    well = w;
    fits =
        leaves_fits fs s.source.way known.begun known.front (some_frame fs s.source.way.nodes s.source.way.limit s refl way apart w) take
        (around s.source.way.nodes s.source.way.limit way apart) leaves;
  }
