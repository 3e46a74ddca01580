-- Lists that a body opens: of its node's children, and of its attributes.
use Rattle.std.proofs.Common.{◌≡◌, ℕ, suc, Bool, true, false, List, [], ◌∷◌, Option, Some, None, IsSome, refl, ap, sym, subst, ◌∙◌, arith}
use Rattle.std.specs.Prelude.{◌&&◌, not, MatchBool}
use Rattle.std.proofs.lemmas.Bool.{false≢true}
use Rattle.frame_stack.specs.declared.frame.Frame.{Frame}
use Rattle.frame_stack.specs.declared.frame.Frame.TheVariants.{Body, Call, Attributes, Loop}
use Rattle.node_stack.specs.Path as node
use Rattle.node_stack.specs.Path.{Node, can_have_children, is_attribute}
use Rattle.template_machine.specs.Bodies.{all_spent, level_in, pc_in, spent_in}
use Rattle.template_machine.specs.Contexts.{Station}
use Rattle.template_machine.specs.Standing.{Front, Known, Standing, scope_over, writing_over}
use Rattle.template_machine.specs.Ways.{Way, here, left}
use Rattle.template_machine.specs.Well.{AreWell, AsksBefore, BodyWaits, HasList, IsFrontFor, IsOpen, IsSettled, ListFits, ListGoesOn, buffers_of, is_again}
use Rattle.template_machine.specs.declared.program.Program.{Program}
use Rattle.template_machine.proofs.Regions.{again_way, has_level, scope_way, writing_way}
use Rattle.template_machine.proofs.Spending.{level_stays, says_so, spent_well}

-- a node with a list is no attribute
pub no_attribute : (o : Option Node) → can_have_children o ≡ true → is_attribute o ≡ false
no_attribute None e = absurd (false≢true e)
no_attribute (Some (node.Attribute a)) e = absurd (false≢true e)
no_attribute (Some n) e = refl

-- the operation behind the instruction that asked
pub asks_before : (fs : List Frame) (asked : ℕ) → pc_in fs ≡ Some (suc asked) → AsksBefore fs asked
asks_before [] asked at = absurd (cc)
asks_before (Loop turn ∷ fs) asked at = asks_before fs asked at
asks_before (Body template alternative pc locals level spent ∷ fs) asked at = cc
asks_before (Call procedure pc locals level ∷ fs) asked at = cc
asks_before (f ∷ fs) asked at = absurd (cc)

-- by whether a body is one of a node again
open_by : (b c d : Bool) (A B C D : Type 0) → (b ≡ true → A → C) → c ≡ false → (b ≡ false → d ≡ true) → MatchBool b A (MatchBool c B (MatchBool d C D)) → C
open_by true c d A B C D again e f h = again refl h
open_by false true d A B C D again e f h = absurd (false≢true (sym e))
open_by false false true A B C D again e f h = h
open_by false false false A B C D again e f h = absurd (false≢true (f refl))

are_open : (b spent : Bool) → b ≡ true → Some spent ≡ Some false → (b && not spent) ≡ true
are_open b spent e f = let g : spent ≡ false = cc in ap (λ x. x && not spent) e ∙ ap (λ x. true && not x) g

module _ (p : Program) (stations : List Station) where
  -- where they aren't gone, no front is known
  pub opened : (loops : ℕ) (waits : Bool) (fs : List Frame) (s : Standing) (w : Way) (n : ℕ) (front : Front) → s.source.way ≡ w → AreWell p stations loops waits fs s
      → HasList w → IsSome (level_in fs) → spent_in fs ≡ Some false → IsSettled fs w n front → IsOpen w n front
  opened loops waits [] s w n front is well has some unspent h = absurd h
  opened loops waits (Loop turn ∷ fs) s w n front is well has some unspent h = opened (suc loops) waits fs s w n front is well has some unspent h
  opened loops waits (Call procedure pc locals level ∷ fs) s w n front is well has some unspent h =
      opened 0 false fs (writing_over (buffers_of p well.0.writing) s) w n front (writing_way (buffers_of p well.0.writing) s ∙ is) well.1.1.3 has
      (subst (λ o. IsSome o) (sym well.1.1.2) refl) unspent h
  opened loops waits (Body template alternative pc locals level spent ∷ fs) s w n front is well has some unspent h =
      let inner = writing_over (buffers_of p well.0.writing) s in
      let t = scope_over well.1.0.new_scope well.1.0.group inner in
      let way = scope_way well.1.0.new_scope well.1.0.group inner ∙ writing_way (buffers_of p well.0.writing) s ∙ is in
      open_by (is_again level fs) (is_attribute (here w)) (can_have_children (here w) && not spent) (IsSettled fs w n front) (IsSettled fs (left w) n front)
      (IsOpen w n front) (IsFrontFor (left w) n front)
      (λ e settled. opened 0 true fs t w n front way (subst (AreWell p stations 0 true fs) (again_way level fs t e) well.1.1.4) has (has_level level fs e)
      (well.1.1.3 e ∙ unspent) settled)
      (no_attribute (here w) has)
      (λ e. are_open (can_have_children (here w)) spent has unspent)
      h
  opened loops waits (f ∷ fs) s w n front is well has some unspent h = absurd (false≢true some)

  pub is_open : (fs : List Frame) (s : Standing) (known : Known) → BodyWaits p stations fs s known → HasList s.source.way → spent_in fs ≡ Some false
      → IsOpen s.source.way known.begun known.front
  is_open fs s known b has unspent = opened 0 true fs s s.source.way known.begun known.front refl b.well has b.body unspent b.fits

  open_list : (fs : List Frame) (w : Way) (n : ℕ) (front : Front) → IsSome (level_in fs) → HasList w → spent_in fs ≡ Some true → IsFrontFor w n front → ListFits fs w n front
  open_list [] w n front some has gone h = absurd (false≢true some)
  open_list (Loop turn ∷ fs) w n front some has gone h = (has, (λ e. gone), h)
  open_list (Body template alternative pc locals level spent ∷ fs) w n front some has gone h = (has, (λ e. gone), h)
  open_list (Call procedure pc locals level ∷ fs) w n front some has gone h = (has, (λ e. gone), h)
  open_list (f ∷ fs) w n front some has gone h = absurd (false≢true some)

  -- The children of a body's node, which aren't gone, are processed: they are gone from here on.
  pub children_open : (fs : List Frame) (s : Standing) (level : ℕ) (known : Known) → BodyWaits p stations fs s known → level_in fs ≡ Some level → HasList s.source.way
      → spent_in fs ≡ Some false → ListGoesOn p stations (all_spent level fs) s known
  children_open fs s level known b own has unspent =
      let some : IsSome (level_in (all_spent level fs)) = subst (λ o. IsSome o) (sym (level_stays level fs)) b.body in
      let o = is_open fs s known b has unspent in
      record {
        well = spent_well p stations level 0 true fs s b.well;
        fits =
            open_list (all_spent level fs) s.source.way known.begun known.front some has (says_so p stations level 0 true fs s b.well own)
            (subst (IsFrontFor s.source.way known.begun) (sym o.0) o.1);
      }

  -- The attributes of its node are processed.
  pub attributes_open : (fs : List Frame) (s : Standing) (asked : ℕ) (known : Known) → BodyWaits p stations fs s known → pc_in fs ≡ Some (suc asked)
      → is_attribute (here s.source.way) ≡ false → ListGoesOn p stations (Attributes 0 asked ∷ fs) s known
  attributes_open fs s asked known b at node = record { well = (refl, asks_before fs asked at, omega arith, b.well); fits = (node, b.fits) }
