-- A region ends, and the body that asked for it goes on.
use Rattle.std.proofs.Common.{◌≡◌, ℕ, suc, Bool, true, false, List, [], ◌∷◌, Option, Some, None, IsSome, refl, ap, sym, subst, ◌∙◌}
use Rattle.std.specs.Prelude.{◌==◌, ◌&&◌, not, MatchBool, if◌then◌else◌}
use Rattle.std.specs.Option.{option_map_or}
use Rattle.std.proofs.lemmas.Bool.{false≢true}
use Rattle.frame_stack.specs.declared.frame.Frame.{Frame}
use Rattle.frame_stack.specs.declared.frame.Frame.TheVariants.{Body, Call, Loop, Region}
use Rattle.node_stack.specs.Path.{Node, can_have_children, is_attribute}
use Rattle.template_machine.specs.Bodies.{level_in, spent_in}
use Rattle.template_machine.specs.Contexts.{Station}
use Rattle.template_machine.specs.Standing.{Front, Known, Standing, node_over, region_over, scope_over, writing_over}
use Rattle.template_machine.specs.Ways.{Way, here, left}
use Rattle.template_machine.specs.Well.{AreWell, BodyWaits, CanReturn, HasList, IsFrontFor, IsOpen, IsSettled, OnFirst, buffers_of, is_again, over}
use Rattle.template_machine.specs.declared.program.Program.{Program}

-- buffers and copies are no source

pub writing_way : (ids : List ℕ) (s : Standing) → (writing_over ids s).source.way ≡ s.source.way
writing_way [] s = refl
writing_way (id ∷ ids) s = writing_way ids _

pub scope_way : (new_scope : Bool) (group : ℕ) (s : Standing) → (scope_over new_scope group s).source.way ≡ s.source.way
scope_way false group s = refl
scope_way true group s = refl

pub again_way : (level : ℕ) (fs : List Frame) (s : Standing) → is_again level fs ≡ true → over level fs s ≡ s
again_way level fs s e = ap (λ b. if b then s else node_over s) e

-- by whether a body is one of a node again
settled_by : (b c d : Bool) (A B C D : Type 0) → (b ≡ true → A) → c ≡ false → (b ≡ false → d ≡ false) → D → MatchBool b A (MatchBool c B (MatchBool d C D))
settled_by true c d A B C D again e f last = again refl
settled_by false true d A B C D again e f last = absurd (false≢true (sym e))
settled_by false false true A B C D again e f last = absurd (false≢true (sym (f refl)))
settled_by false false false A B C D again e f last = last

none_open : (b spent : Bool) → (b ≡ true → spent ≡ true) → (b && not spent) ≡ false
none_open false spent h = refl
none_open true spent h = ap not (h refl)

level_by : (level : ℕ) (o : Option ℕ) → option_map_or (λ l. l == level) o false ≡ true → IsSome o
level_by level None e = absurd (false≢true e)
level_by level (Some l) e = refl

pub has_level : (level : ℕ) (fs : List Frame) → is_again level fs ≡ true → IsSome (level_in fs)
has_level level fs e = level_by level (level_in fs) e

module _ (p : Program) (stations : List Station) where
  -- of the node of a body whose children are gone nothing more is opened
  pub settles : (loops : ℕ) (waits : Bool) (fs : List Frame) (s : Standing) (w : Way) (n : ℕ) (front : Front) → s.source.way ≡ w → AreWell p stations loops waits fs s
      → IsSome (level_in fs) → (HasList w → spent_in fs ≡ Some true) → is_attribute (here w) ≡ false → IsFrontFor (left w) n front → IsSettled fs w n front
  settles loops waits [] s w n front is well some gone leaf fits = absurd (false≢true some)
  settles loops waits (Loop turn ∷ fs) s w n front is well some gone leaf fits = settles (suc loops) waits fs s w n front is well some gone leaf fits
  settles loops waits (Call procedure pc locals level ∷ fs) s w n front is well some gone leaf fits =
      settles 0 false fs (writing_over (buffers_of p well.0.writing) s) w n front (writing_way (buffers_of p well.0.writing) s ∙ is) well.1.1.3
      (subst (λ o. IsSome o) (sym well.1.1.2) refl) gone leaf fits
  settles loops waits (Body template alternative pc locals level spent ∷ fs) s w n front is well some gone leaf fits =
      let inner = writing_over (buffers_of p well.0.writing) s in
      let t = scope_over well.1.0.new_scope well.1.0.group inner in
      let way = scope_way well.1.0.new_scope well.1.0.group inner ∙ writing_way (buffers_of p well.0.writing) s ∙ is in
      settled_by (is_again level fs) (is_attribute (here w)) (can_have_children (here w) && not spent) (IsSettled fs w n front) (IsSettled fs (left w) n front)
      (IsOpen w n front) (IsFrontFor (left w) n front)
      (λ e. settles 0 true fs t w n front way (subst (AreWell p stations 0 true fs) (again_way level fs t e) well.1.1.4) (has_level level fs e)
      (λ h. well.1.1.3 e ∙ gone h) leaf fits)
      leaf
      (λ e. none_open (can_have_children (here w)) spent (λ h. same_spent (gone h)))
      fits
    where
      same_spent : Some spent ≡ Some true → spent ≡ true
      same_spent e = cc
  settles loops waits (f ∷ fs) s w n front is well some gone leaf fits = absurd (false≢true some)

  -- The innermost region is over, and its list goes on behind it with a known front.
  pub region_ends : (fs : List Frame) (s : Standing) (asked level : ℕ) (known : Known) (x : Node) (others : List (Option Node))
      → AreWell p stations 0 true (Region asked level ∷ fs) s → s.aside ≡ Some x ∷ others → is_attribute (Some x) ≡ false → IsFrontFor s.source.way known.begun known.front
      → CanReturn x s.source.way × BodyWaits p stations fs (region_over x others s) known
  region_ends fs s asked level known x others w is leaf fits =
      let t = region_over x others s in
      let o = subst
      (λ l. OnFirst l (λ x others. CanReturn x s.source.way × (can_have_children (Some x) ≡ true → spent_in fs ≡ Some true) × AreWell p stations 0 true fs (region_over x others s)))
      is w.3 in
      let some : IsSome (level_in fs) = subst (λ l. IsSome l) (sym w.1) refl in (
        o.0,
        record {
          body = some;
          well = o.2;
          fits = settles 0 true fs t t.source.way known.begun known.front refl o.2 some o.1 leaf fits;
        },
      )
