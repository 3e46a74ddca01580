-- Nodes that are skipped.
use Rattle.std.proofs.Common.{◌≡◌, ℕ, zero, suc, Bool, true, false, List, [], ◌∷◌, Option, Some, None, IsSome, refl, ap, sym, subst, ◌∙◌, arith}
use Rattle.std.specs.Prelude.{if◌then◌else◌}
use Rattle.std.proofs.lemmas.Bool.{false≢true}
use Rattle.frame_stack.specs.declared.frame.Frame.{Frame}
use Rattle.frame_stack.specs.declared.frame.Frame.TheVariants.{Body, Call, Attributes, Loop, Region, Source, Skip, Pass}
use Rattle.node_stack.specs.Path.{Node}
use Rattle.template_machine.specs.Bodies.{level_in}
use Rattle.template_machine.specs.Contexts.{Station}
use Rattle.template_machine.specs.Standing.{Known, Outer, Standing, Unknown, node_over, reading_over, scope_over, skipped_by, source_over, writing_over}
use Rattle.template_machine.specs.Ways.{Way, first_in}
use Rattle.template_machine.specs.Well.{AreWell, AsksBefore, CanTake, HasList, IsOpen, ListGoesOn, OnFirst, OnOuter, SkipFront, buffers_of, is_again, over}
use Rattle.template_machine.specs.declared.program.Program.{Program}
use Rattle.template_machine.proofs.Regions.{has_level}

-- where no loop is open above it, a frame isn't of nodes that are skipped
abbrev pub IsNoSkip : (loops : ℕ) → List Frame → Type 0
IsNoSkip zero (Skip depth ∷ fs) = ⊥
IsNoSkip loops fs = Unit {0}

level_no_skip : (fs : List Frame) → IsSome (level_in fs) → IsNoSkip 0 fs
level_no_skip [] some = tt
level_no_skip (Skip depth ∷ fs) some = absurd (false≢true some)
level_no_skip (f ∷ fs) some = tt

takes_no_skip : (fs : List Frame) (w : Way) → CanTake fs w → IsNoSkip 0 fs
takes_no_skip [] w take = tt
takes_no_skip (Skip depth ∷ fs) w take = absurd take
takes_no_skip (f ∷ fs) w take = tt

asks_no_skip : (fs : List Frame) (asked : ℕ) → AsksBefore fs asked → IsNoSkip 0 fs
asks_no_skip [] asked a = tt
asks_no_skip (Skip depth ∷ fs) asked a = absurd a
asks_no_skip (f ∷ fs) asked a = tt

again_no_skip : (b : Bool) (level : ℕ) (fs : List Frame) (w : Way) → is_again level fs ≡ b → (is_again level fs ≡ false → CanTake fs w) → IsNoSkip 0 fs
again_no_skip true level fs w e take = level_no_skip fs (has_level level fs e)
again_no_skip false level fs w e take = takes_no_skip fs w (take e)

-- what is kept aside isn't touched

writing_aside : (ids : List ℕ) (s : Standing) → (writing_over ids s).aside ≡ s.aside
writing_aside [] s = refl
writing_aside (id ∷ ids) s = writing_aside ids _

scope_aside : (new_scope : Bool) (group : ℕ) (s : Standing) → (scope_over new_scope group s).aside ≡ s.aside
scope_aside false group s = refl
scope_aside true group s = refl

over_aside : (level : ℕ) (fs : List Frame) (s : Standing) → (over level fs s).aside ≡ s.aside
over_aside level fs s = by_again (is_again level fs) s
  where
    by_again : (b : Bool) (t : Standing) → (if b then t else node_over t).aside ≡ t.aside
    by_again true t = refl
    by_again false t = refl

reading_aside : (buffer : Option ℕ) (s : Standing) → (reading_over buffer s).aside ≡ s.aside
reading_aside None s = refl
reading_aside (Some id) s = refl

-- a region's node waits
waits_aside : (aside : List (Option Node)) (P : Node → List (Option Node) → Type 0) → OnFirst aside P → first_in aside ≡ Some None → ⊥
waits_aside [] P o e = o
waits_aside (None ∷ xs) P o e = o
waits_aside (Some x ∷ xs) P o e = cc

outer_well : (around : List Outer) (P : Outer → List Outer → Type 0) (Q : Type 0) → OnOuter around P → ((o : Outer) (others : List Outer) → P o others → Q) → Q
outer_well [] P Q h f = absurd h
outer_well (o ∷ others) P Q h f = f o others h

module _ (p : Program) (stations : List Station) where
  -- Where nothing is skipped, the node of each body that asked for siblings waits.
  pub all_wait : (loops : ℕ) (waits : Bool) (fs : List Frame) (s : Standing) (aside : List (Option Node)) → s.aside ≡ aside → IsNoSkip loops fs
      → AreWell p stations loops waits fs s → first_in aside ≡ Some None → ⊥
  all_wait loops waits [] s aside is bare w e = let none : first_in s.aside ≡ None = ap first_in w.3 in let some : first_in s.aside ≡ Some None = ap first_in is ∙ e in cc
  all_wait loops waits (Loop turn ∷ fs) s aside is bare w e = all_wait (suc loops) waits fs s aside is tt w e
  all_wait loops waits (Body template alternative pc locals level spent ∷ fs) s aside is bare w e =
      let inner = writing_over (buffers_of p w.0.writing) s in
      let t = scope_over w.1.0.new_scope w.1.0.group inner in
      all_wait 0 true fs (over level fs t) aside
      (over_aside level fs t ∙ scope_aside w.1.0.new_scope w.1.0.group inner ∙ writing_aside (buffers_of p w.0.writing) s ∙ is)
      (again_no_skip (is_again level fs) level fs inner.source.way refl w.1.1.2) w.1.1.4 e
  all_wait loops waits (Call procedure pc locals level ∷ fs) s aside is bare w e =
      all_wait 0 false fs (writing_over (buffers_of p w.0.writing) s) aside (writing_aside (buffers_of p w.0.writing) s ∙ is)
      (level_no_skip fs (subst (λ o. IsSome o) (sym w.1.1.2) refl)) w.1.1.3 e
  all_wait loops waits (Region asked level ∷ fs) s aside is bare w e = waits_aside s.aside _ w.3 (ap first_in is ∙ e)
  all_wait loops waits (Attributes next asked ∷ fs) s aside is bare w e = all_wait 0 true fs s aside is (asks_no_skip fs asked w.1) w.3 e
  all_wait loops waits (Source buffer next asked ∷ fs) s aside is bare w e =
      outer_well s.around _ ⊥ w.5 (λ o others h. all_wait 0 true fs (source_over buffer o.source others s) aside (reading_aside buffer s ∙ is)
      (asks_no_skip fs asked w.2) h.1 e)
  all_wait loops waits (Pass base level spent ∷ fs) s aside is bare w e =
      all_wait 0 true fs (over level fs s) aside (over_aside level fs s ∙ is) (again_no_skip (is_again level fs) level fs s.source.way refl w.2) w.6 e
  all_wait zero waits (Skip depth ∷ fs) s aside is bare w e = bare
  all_wait (suc loops) waits (Skip depth ∷ fs) s aside is bare w e = let none : suc loops ≡ 0 = w.0 in absurd (omega (arith, none))

  skips : (aside : List (Option Node)) (s : Standing) → (first_in aside ≡ Some None → ⊥) → skipped_by aside s ≡ node_over s
  skips [] s never = refl
  skips (None ∷ others) s never = absurd (never refl)
  skips (Some x ∷ others) s never = refl

  -- The children of a node are skipped behind its template's body.
  pub skip_opens : (fs : List Frame) (s : Standing) (known : Known) → AreWell p stations 0 true fs (node_over s) → CanTake fs s.source.way → HasList s.source.way
      → IsOpen s.source.way known.begun known.front → ListGoesOn p stations (Skip 0 ∷ fs) s known
  skip_opens fs s known w take has o =
      let never : first_in s.aside ≡ Some None → ⊥ = all_wait 0 true fs (node_over s) s.aside refl (takes_no_skip fs s.source.way take) w in
      let fits : SkipFront 0 s.source.way known.begun Unknown = omega (arith, o.1) in
      record {
        well = (refl, has, (λ e. absurd (never e)), (λ e. take), subst (AreWell p stations 0 true fs) (sym (skips s.aside s never)) w);
        fits = subst (SkipFront 0 s.source.way known.begun) (sym o.0) fits;
      }
