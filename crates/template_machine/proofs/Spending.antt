-- The children of a node are gone, for each of its bodies.
use Rattle.std.proofs.Common.{◌≡◌, ℕ, suc, Bool, true, false, List, [], ◌∷◌, Option, Some, None, IsSome, refl, ap, sym, subst, ◌∙◌}
use Rattle.std.specs.Prelude.{◌==◌, if◌then◌else◌}
use Rattle.std.specs.Option.{option_map_or}
use Rattle.std.proofs.lemmas.Bool.{eq-eqb, eqb-true, false≢true}
use Rattle.frame_stack.specs.declared.frame.Frame.{Frame}
use Rattle.frame_stack.specs.declared.frame.Frame.TheVariants.{Body, Call, Loop}
use Rattle.frame_stack.specs.declared.locals.Local.{Local}
use Rattle.template_machine.specs.Bodies.{all_spent, level_in, spent_by, spent_in}
use Rattle.template_machine.specs.Contexts.{Station}
use Rattle.template_machine.specs.Standing.{Standing, node_over, scope_over, writing_over}
use Rattle.node_stack.specs.Path.{is_attribute}
use Rattle.template_machine.specs.Ways.{Way, here}
use Rattle.template_machine.specs.Well.{AreGone, AreWell, CanTake, buffers_of, is_again, over}
use Rattle.template_machine.specs.declared.bodies.Seen.TheVariants.{Outside, Template, Within}
use Rattle.template_machine.specs.declared.program.Program.{Program}

-- by whether a body is of the node

abbrev body_spent : Bool → (template alternative pc : ℕ) → List Local → (level : ℕ) (spent : Bool) → List Frame → List Frame → List Frame
body_spent b template alternative pc locals own spent fs gs =
    spent_by (if b then Template template else Outside) (Body template alternative pc locals own spent) fs gs

abbrev call_spent : Bool → (procedure pc : ℕ) → List Local → (level : ℕ) → List Frame → List Frame → List Frame
call_spent b procedure pc locals own fs gs = spent_by (if b then Within else Outside) (Call procedure pc locals own) fs gs

-- the level of the innermost body stays, and what may have asked for a node

body_level : (b : Bool) (template alternative pc : ℕ) (locals : List Local) (own : ℕ) (spent : Bool) (fs gs : List Frame)
    → level_in (body_spent b template alternative pc locals own spent fs gs) ≡ Some own
body_level true template alternative pc locals own spent fs gs = refl
body_level false template alternative pc locals own spent fs gs = refl

call_level : (b : Bool) (procedure pc : ℕ) (locals : List Local) (own : ℕ) (fs gs : List Frame) → level_in (call_spent b procedure pc locals own fs gs) ≡ Some own
call_level true procedure pc locals own fs gs = refl
call_level false procedure pc locals own fs gs = refl

pub level_stays : (level : ℕ) (fs : List Frame) → level_in (all_spent level fs) ≡ level_in fs
level_stays level [] = refl
level_stays level (Loop turn ∷ fs) = level_stays level fs
level_stays level (Body template alternative pc locals own spent ∷ fs) = body_level (own == level) template alternative pc locals own spent fs (all_spent level fs)
level_stays level (Call procedure pc locals own ∷ fs) = call_level (own == level) procedure pc locals own fs (all_spent level fs)
level_stays level (f ∷ fs) = refl

pub again_stays : (own level : ℕ) (fs : List Frame) → is_again own (all_spent level fs) ≡ is_again own fs
again_stays own level fs = ap (λ o. option_map_or (λ l. l == own) o false) (level_stays level fs)

over_stays : (own level : ℕ) (fs : List Frame) (s : Standing) → over own (all_spent level fs) s ≡ over own fs s
over_stays own level fs s = ap (λ b. if b then s else node_over s) (again_stays own level fs)

-- children that are gone stay so
body_gone : (b : Bool) (template alternative pc : ℕ) (locals : List Local) (own : ℕ) (spent : Bool) (fs gs : List Frame) → Some spent ≡ Some true
    → spent_in (body_spent b template alternative pc locals own spent fs gs) ≡ Some true
body_gone true template alternative pc locals own spent fs gs h = refl
body_gone false template alternative pc locals own spent fs gs h = h

call_gone : (b : Bool) (procedure pc : ℕ) (locals : List Local) (own : ℕ) (fs gs : List Frame) → spent_in fs ≡ Some true → spent_in gs ≡ Some true
    → spent_in (call_spent b procedure pc locals own fs gs) ≡ Some true
call_gone true procedure pc locals own fs gs h g = g
call_gone false procedure pc locals own fs gs h g = h

pub spent_stays : (level : ℕ) (fs : List Frame) → spent_in fs ≡ Some true → spent_in (all_spent level fs) ≡ Some true
spent_stays level [] h = h
spent_stays level (Loop turn ∷ fs) h = spent_stays level fs h
spent_stays level (Body template alternative pc locals own spent ∷ fs) h =
    body_gone (own == level) template alternative pc locals own spent fs (all_spent level fs) h
spent_stays level (Call procedure pc locals own ∷ fs) h = call_gone (own == level) procedure pc locals own fs (all_spent level fs) h (spent_stays level fs h)
spent_stays level (f ∷ fs) h = h

gone_stays : (level : ℕ) (fs : List Frame) → AreGone fs → AreGone (all_spent level fs)
gone_stays level fs h some = spent_stays level fs (h (subst (λ o. IsSome o) (level_stays level fs) some))

body_takes : (b : Bool) (template alternative pc : ℕ) (locals : List Local) (own : ℕ) (spent : Bool) (fs gs : List Frame) (w : Way)
    → is_attribute (here w) ≡ false → AreGone (body_spent b template alternative pc locals own spent fs gs)
    → CanTake (body_spent b template alternative pc locals own spent fs gs) w
body_takes true template alternative pc locals own spent fs gs w h g = (h, g)
body_takes false template alternative pc locals own spent fs gs w h g = (h, g)

call_takes : (b : Bool) (procedure pc : ℕ) (locals : List Local) (own : ℕ) (fs gs : List Frame) (w : Way)
    → is_attribute (here w) ≡ false → AreGone (call_spent b procedure pc locals own fs gs) → CanTake (call_spent b procedure pc locals own fs gs) w
call_takes true procedure pc locals own fs gs w h g = (h, g)
call_takes false procedure pc locals own fs gs w h g = (h, g)

pub takes_stay : (level : ℕ) (fs : List Frame) (w : Way) → CanTake fs w → CanTake (all_spent level fs) w
takes_stay level [] w h = h
takes_stay level (Loop turn ∷ fs) w h = (h.0, gone_stays level (Loop turn ∷ fs) h.1)
takes_stay level (Body template alternative pc locals own spent ∷ fs) w h =
    body_takes (own == level) template alternative pc locals own spent fs (all_spent level fs) w h.0
    (gone_stays level (Body template alternative pc locals own spent ∷ fs) h.1)
takes_stay level (Call procedure pc locals own ∷ fs) w h =
    call_takes (own == level) procedure pc locals own fs (all_spent level fs) w h.0 (gone_stays level (Call procedure pc locals own ∷ fs) h.1)
takes_stay level (f ∷ fs) w h = h

same_level : (own : ℕ) (o : Option ℕ) → option_map_or (λ l. l == own) o false ≡ true → o ≡ Some own
same_level own None e = absurd (false≢true e)
same_level own (Some l) e = ap (λ n. Some n) (eqb-true l own e)

module _ (p : Program) (stations : List Station) where
  -- each body of the node says so
  body_says : (b : Bool) (level own : ℕ) (template alternative pc : ℕ) (locals : List Local) (spent : Bool) (fs gs : List Frame) → (own == level) ≡ b → Some own ≡ Some level
      → spent_in (body_spent b template alternative pc locals own spent fs gs) ≡ Some true
  body_says true level own template alternative pc locals spent fs gs e is = refl
  body_says false level own template alternative pc locals spent fs gs e is =
      let same : own ≡ level = cc in absurd (false≢true (sym e ∙ eq-eqb own level same))

  call_says : (b : Bool) (level own : ℕ) (procedure pc : ℕ) (locals : List Local) (fs gs : List Frame) → (own == level) ≡ b → Some own ≡ Some level
      → spent_in gs ≡ Some true → spent_in (call_spent b procedure pc locals own fs gs) ≡ Some true
  call_says true level own procedure pc locals fs gs e is h = h
  call_says false level own procedure pc locals fs gs e is h = let same : own ≡ level = cc in absurd (false≢true (sym e ∙ eq-eqb own level same))

  pub says_so : (level loops : ℕ) (waits : Bool) (fs : List Frame) (s : Standing) → AreWell p stations loops waits fs s → level_in fs ≡ Some level
      → spent_in (all_spent level fs) ≡ Some true
  says_so level loops waits [] s w is = absurd (cc)
  says_so level loops waits (Loop turn ∷ fs) s w is = says_so level (suc loops) waits fs s w is
  says_so level loops waits (Body template alternative pc locals own spent ∷ fs) s w is =
      body_says (own == level) level own template alternative pc locals spent fs (all_spent level fs) refl is
  says_so level loops waits (Call procedure pc locals own ∷ fs) s w is =
      call_says (own == level) level own procedure pc locals fs (all_spent level fs) refl is
      (says_so level 0 false fs (writing_over (buffers_of p w.0.writing) s) w.1.1.3 (w.1.1.2 ∙ is))
  says_so level loops waits (f ∷ fs) s w is = absurd (cc)

  -- Frames are as they were, but for what they say.

  body_well : (b : Bool) (level loops : ℕ) (waits : Bool) (template alternative pc : ℕ) (locals : List Local) (own : ℕ) (spent : Bool) (fs : List Frame) (s : Standing)
      → (own == level) ≡ b → ((t : Standing) → AreWell p stations 0 true fs t → AreWell p stations 0 true (all_spent level fs) t)
      → AreWell p stations loops waits (Body template alternative pc locals own spent ∷ fs) s
      → AreWell p stations loops waits (body_spent b template alternative pc locals own spent fs (all_spent level fs)) s
  body_well false level loops waits template alternative pc locals own spent fs s e more w = w
  body_well true level loops waits template alternative pc locals own spent fs s e more w =
      let t = scope_over w.1.0.new_scope w.1.0.group (writing_over (buffers_of p w.0.writing) s) in
      let same : own ≡ level = eqb-true own level e in (
        w.0,
        (
          w.1.0,
          (
            w.1.1.0,
            w.1.1.1,
            (λ a. takes_stay level fs (writing_over (buffers_of p w.0.writing) s).source.way (w.1.1.2 (sym (again_stays own level fs) ∙ a))),
            (λ a. says_so level 0 true fs (over own fs t) w.1.1.4 (same_level own (level_in fs) (sym (again_stays own level fs) ∙ a) ∙ ap (λ n. Some n) same)),
            subst (AreWell p stations 0 true (all_spent level fs)) (sym (over_stays own level fs t)) (more (over own fs t) w.1.1.4),
          ),
        ),
      )

  call_well : (b : Bool) (level loops : ℕ) (waits : Bool) (procedure pc : ℕ) (locals : List Local) (own : ℕ) (fs : List Frame) (s : Standing)
      → ((t : Standing) → AreWell p stations 0 false fs t → AreWell p stations 0 false (all_spent level fs) t)
      → AreWell p stations loops waits (Call procedure pc locals own ∷ fs) s
      → AreWell p stations loops waits (call_spent b procedure pc locals own fs (all_spent level fs)) s
  call_well false level loops waits procedure pc locals own fs s more w = w
  call_well true level loops waits procedure pc locals own fs s more w =
      (w.0, (w.1.0, (w.1.1.0, w.1.1.1, level_stays level fs ∙ w.1.1.2, more (writing_over (buffers_of p w.0.writing) s) w.1.1.3)))

  pub spent_well : (level loops : ℕ) (waits : Bool) (fs : List Frame) (s : Standing) → AreWell p stations loops waits fs s
      → AreWell p stations loops waits (all_spent level fs) s
  spent_well level loops waits [] s w = w
  spent_well level loops waits (Loop turn ∷ fs) s w = spent_well level (suc loops) waits fs s w
  spent_well level loops waits (Body template alternative pc locals own spent ∷ fs) s w =
      body_well (own == level) level loops waits template alternative pc locals own spent fs s refl (λ t. spent_well level 0 true fs t) w
  spent_well level loops waits (Call procedure pc locals own ∷ fs) s w =
      call_well (own == level) level loops waits procedure pc locals own fs s (λ t. spent_well level 0 false fs t) w
  spent_well level loops waits (f ∷ fs) s w = w
