-- The levels of frames rise with the path.
use Rattle.std.proofs.Common.{◌≡◌, ℕ, suc, ◌-◌, ◌<◌, ◌≤◌, Bool, true, false, ◌⊎◌, inl, inr, List, [], ◌∷◌, ◌++◌, length, reverse, Option, Some, None, IsSome, refl, ap, sym, subst, ◌∙◌, arith}
use Rattle.std.specs.Prelude.{IfSome, if◌then◌else◌}
use Rattle.std.specs.List.{slice_get}
use Rattle.std.proofs.Math.Nat.{eq-or-lt_of_le}
use Rattle.std.proofs.lemmas.Bool.{false≢true}
use Rattle.std.proofs.lemmas.List.{reverse-append, reverse-reverse}
use Rattle.std.proofs.lemmas.Option.{slice_get_within}
use Rattle.frame_stack.specs.Frame.{opens_list}
use Rattle.frame_stack.specs.declared.frame.Frame.{Frame}
use Rattle.frame_stack.specs.declared.frame.Frame.TheVariants.{Body, Call, Attributes, Loop, Region, Source, Skip, Pass}
use Rattle.node_stack.specs.Path.{Node, is_attribute}
use Rattle.sibling_regions.specs.Ends.{is_innermost}
use Rattle.sibling_regions.specs.Laws.{CodeCanBeAsked, TopRises}
use Rattle.sibling_regions.specs.Standing.{ConditionsCanBeEvaluated, LevelsRise, level_of}
use Rattle.template_machine.specs.Bodies.{level_in}
use Rattle.template_machine.specs.Contexts.{Station}
use Rattle.template_machine.specs.Standing.{Outer, Standing, node_over, region_over, scope_over, skip_over, skipped_by, source_over, standing_of, writing_over}
use Rattle.template_machine.specs.Ways.{Way, entered, here, left, number_of}
use Rattle.template_machine.specs.Moments.{HeadIsLooked}
use Rattle.template_machine.specs.Well.{AreWell, CanTake, IsSteady, OnOuter, buffers_of, is_again, over}
use Rattle.template_machine.specs.declared.program.Program.{Program}
use Rattle.template_machine.specs.declared.run.Run.{Run}
use Rattle.template_machine.proofs.Arriving.{ends_leaf}
use Rattle.template_machine.proofs.Entering.{over_again, over_head}
use Rattle.template_machine.proofs.Headed.{level_here}
use Rattle.template_machine.proofs.Regions.{has_level, scope_way, writing_way}
use Rattle.template_machine.proofs.Sights.{got_before, got_last, hidden, length_more, sight_stays}
use Rattle.template_machine.proofs.Streaming.{first_on}

-- Each frame that no list hides has at most a level, of frames from the innermost outwards.

abbrev Low : ℕ → List Frame → Type 0
Low n [] = Unit {0}
Low n (f ∷ fs) = IfSome (level_of f) (λ k. k ≤ n) × (opens_list f ≡ false → Low n fs)

some_more : (o : Option ℕ) (n m : ℕ) → n ≤ m → IfSome o (λ k. k ≤ n) → IfSome o (λ k. k ≤ m)
some_more None n m less h = tt
some_more (Some k) n m less h = omega (arith, h, less)

low_more : (n m : ℕ) (fs : List Frame) → n ≤ m → Low n fs → Low m fs
low_more n m [] less h = tt
low_more n m (f ∷ fs) less h = (some_more (level_of f) n m less h.0, λ shut. low_more n m fs less (h.1 shut))

low_by : (n : ℕ) (zs : List Frame) (A : Type 0) (place : ℕ) (other f : Frame) → IfSome (level_of f) (λ k. k ≤ n) → (opens_list f ≡ false → A)
    → (A → is_innermost zs place ≡ true → slice_get zs place ≡ Some other → IfSome (level_of other) (λ k. k ≤ n))
    → (place ≡ length zs) ⊎ (place < length zs) → is_innermost (zs ++ f ∷ []) place ≡ true → slice_get (zs ++ f ∷ []) place ≡ Some other
    → IfSome (level_of other) (λ k. k ≤ n)
low_by n zs A place other f own below rest (inl last) sight is =
    let both : Some f ≡ Some other = sym (got_last zs f) ∙ ap (slice_get (zs ++ f ∷ [])) (sym last) ∙ is in
    let same : f ≡ other = cc in
    subst (λ (x : Frame). IfSome (level_of x) (λ k. k ≤ n)) same own
low_by n zs A place other f own below rest (inr less) sight is = by (opens_list f) refl
  where
    by : (b : Bool) → opens_list f ≡ b → IfSome (level_of other) (λ k. k ≤ n)
    by true opens = absurd (false≢true (sym (hidden (zs ++ f ∷ []) place (length zs) f less (got_last zs f) opens) ∙ sight))
    by false shut = rest (below shut) (sym (sight_stays zs f place less shut) ∙ sight) (sym (got_before zs (f ∷ []) place less) ∙ is)

-- what stands at a place that no list hides
low_at : (n : ℕ) (fs : List Frame) (place : ℕ) (other : Frame) → Low n fs → is_innermost (reverse fs) place ≡ true → slice_get (reverse fs) place ≡ Some other
    → IfSome (level_of other) (λ k. k ≤ n)
low_at n [] place other h sight is = absurd (cc)
low_at n (f ∷ fs) place other h sight is =
    let turned : reverse (f ∷ fs) ≡ reverse fs ++ f ∷ [] = reverse-append (f ∷ []) fs in
    let at : slice_get (reverse fs ++ f ∷ []) place ≡ Some other = ap (λ l. slice_get l place) (sym turned) ∙ is in
    let few : place ≤ length (reverse fs) = omega (arith, slice_get_within (reverse fs ++ f ∷ []) place other at, length_more (reverse fs) f) in
    low_by n (reverse fs) (Low n fs) place other f h.0 h.1 (low_at n fs place other) (eq-or-lt_of_le few) (ap (λ l. is_innermost l place) (sym turned) ∙ sight) at

at_most : (o i : Option ℕ) → ((k : ℕ) → i ≡ Some k → IfSome o (λ l. l ≤ k)) → IfSome o (λ l. IfSome i (λ k. l ≤ k))
at_most None i h = tt
at_most (Some l) None h = tt
at_most (Some l) (Some k) h = h k refl

-- a frame more
rises_more : TopRises → (fs : List Frame) (f : Frame) → LevelsRise (reverse fs) → ((k : ℕ) → level_of f ≡ Some k → Low k fs) → LevelsRise (reverse (f ∷ fs))
rises_more top fs f rise low =
    subst LevelsRise (sym (reverse-append (f ∷ []) fs))
    (top (reverse fs) f rise (λ place other sight is. at_most (level_of other) (level_of f) (λ k e. low_at k fs place other (low k e) sight is)))

-- Levels on the path.

less_some : (n k : ℕ) → n - k ≤ n
less_some n k = omega arith

number_less : (w : Way) → number_of w ≤ length w.nodes
number_less w = less_some (length w.nodes) (if is_attribute (here w) then 2 else 1)

number_leaf : (w : Way) → is_attribute (here w) ≡ false → number_of w ≡ length w.nodes - 1
number_leaf w e = ap (λ b. length w.nodes - (if b then 2 else 1)) e

left_long : (w : Way) → length (left w).nodes ≡ length w.nodes - 1
left_long w = by w.limit w.nodes
  where
    by : (limit : ℕ) (nodes : List Node) → length (left (record { limit = limit; nodes = nodes })).nodes ≡ length nodes - 1
    by limit [] = refl
    by limit (x ∷ xs) = omega arith

entered_number : (x : Node) (w : Way) → is_attribute (Some x) ≡ false → number_of (entered x w) ≡ length w.nodes
entered_number x w leaf =
    let is : number_of (entered x w) ≡ suc (length w.nodes) - 1 = ap (λ b. suc (length w.nodes) - (if b then 2 else 1)) leaf in omega (arith, is)

skip_way : (aside : List (Option Node)) (s : Standing) → (skipped_by aside s).source.way ≡ left s.source.way
skip_way [] s = refl
skip_way (None ∷ others) s = refl
skip_way (Some x ∷ others) s = refl

-- below the frame of a node
low_under : (fs : List Frame) (w : Way) → CanTake fs w → Low (length (left w).nodes) fs → Low (number_of w) fs
low_under [] w take h = tt
low_under (Attributes next asked ∷ fs) w take h = (tt, λ shut. absurd (false≢true (sym shut)))
low_under (Skip depth ∷ fs) w take h = absurd take
low_under (f ∷ fs) w take h = subst (λ n. Low n (f ∷ fs)) (left_long w ∙ sym (number_leaf w take.0)) h

-- What holds of frames: their levels rise, and none is above the current node's where a body is the innermost, or else above those of the
-- nodes in it.
record Rises (fs : List Frame) (w : Way) : Type 0 where
  rise : LevelsRise (reverse fs)
  body : IsSome (level_in fs) → Low (number_of w) fs
  list : Low (length w.nodes) fs

level_low : (o : Option ℕ) (k n : ℕ) → o ≡ Some k → k ≤ n → IfSome o (λ l. l ≤ n)
level_low None k n e less = tt
level_low (Some l) k n e less = let same : l ≡ k = cc in omega (arith, same, less)

-- the frame of the current node
own_rises : TopRises → (f : Frame) (level : ℕ) (fs : List Frame) (w : Way) → level_of f ≡ Some level → level ≡ number_of w → LevelsRise (reverse fs) → Low level fs → Rises (f ∷ fs) w
own_rises top f level fs w is own rise low = record {
  rise = rises_more top fs f rise (λ k e. subst (λ n. Low n fs) (one (sym is ∙ e)) low);
  body = λ some. (level_low (level_of f) level (number_of w) is (omega (arith, own)), λ shut. subst (λ n. Low n fs) own low);
  list = (
    level_low (level_of f) level (length w.nodes) is (omega (arith, own, number_less w)),
    λ shut. low_more level (length w.nodes) fs (omega (arith, own, number_less w)) low,
  );
}
  where
    one : {a b : ℕ} → Some a ≡ Some b → a ≡ b
    one e = cc

node_low : (level : ℕ) (fs : List Frame) (u : Standing) (w : Way) → u.source.way ≡ w → level ≡ number_of w → (is_again level fs ≡ false → CanTake fs w)
    → Rises fs (over level fs u).source.way → Low level fs
node_low level fs u w way own take r = by (is_again level fs) refl
  where
    by : (b : Bool) → is_again level fs ≡ b → Low level fs
    by true again =
        let at : (over level fs u).source.way ≡ w = ap (λ (x : Standing). x.source.way) (over_again level fs u again) ∙ way in
        subst (λ n. Low n fs) (sym own) (subst (λ (v : Way). Low (number_of v) fs) at (r.body (has_level level fs again)))
    by false apart =
        let at : (over level fs u).source.way ≡ left w = ap (λ (x : Standing). x.source.way) (over_head level fs u apart) ∙ ap left way in
        subst (λ n. Low n fs) (sym own) (low_under fs w (take apart) (subst (λ (v : Way). Low (length v.nodes) fs) at r.list))

-- a region, whose body's node waits
region_rises : TopRises → (asked level : ℕ) (fs : List Frame) (x : Node) (w : Way) → is_attribute (Some x) ≡ false → IsSome (level_in fs) → level ≡ number_of (entered x w)
    → Rises fs (entered x w) → Rises (Region asked level ∷ fs) w
region_rises top asked level fs x w leaf some own r =
    let low : Low level fs = subst (λ n. Low n fs) (sym own) (r.body some) in
    let at : level ≤ length w.nodes = omega (arith, own, entered_number x w leaf) in
    record {
      rise = rises_more top fs (Region asked level) r.rise (λ k e. subst (λ n. Low n fs) (one e) low);
      body = λ none. absurd (false≢true none);
      list = (at, λ shut. low_more level (length w.nodes) fs at low);
    }
  where
    one : {a b : ℕ} → Some a ≡ Some b → a ≡ b
    one e = cc

outer_on : (xs : List Outer) (P : Outer → List Outer → Type 0) (Q : Type 0) → OnOuter xs P → ((o : Outer) (others : List Outer) → P o others → Q) → Q
outer_on [] P Q h f = absurd h
outer_on (o ∷ others) P Q h f = f o others h

module _ (top : TopRises) (p : Program) (stations : List Station) where
  rises : (loops : ℕ) (waits : Bool) (fs : List Frame) (s : Standing) → AreWell p stations loops waits fs s → Rises fs s.source.way
  rises loops waits [] s w = record { rise = λ low high outer inner less sight is at. absurd (cc); body = λ some. tt; list = tt }
  rises loops waits (Loop turn ∷ fs) s w =
      let r = rises (suc loops) waits fs s w in
      record { rise = rises_more top fs (Loop turn) r.rise (λ k e. absurd (cc)); body = λ some. (tt, λ shut. r.body some); list = (tt, λ shut. r.list) }
  rises loops waits (Body template alternative pc locals level spent ∷ fs) s w =
      let ids = buffers_of p w.0.writing in
      let inner = writing_over ids s in
      let u = scope_over w.1.0.new_scope w.1.0.group inner in
      let way : u.source.way ≡ s.source.way = scope_way w.1.0.new_scope w.1.0.group inner ∙ writing_way ids s in
      let r = rises 0 true fs (over level fs u) w.1.1.4 in
      let low = node_low level fs u s.source.way way w.1.1.0.level_is (λ e. subst (CanTake fs) (writing_way ids s) (w.1.1.2 e)) r in
      own_rises top (Body template alternative pc locals level spent) level fs s.source.way refl w.1.1.0.level_is r.rise low
  rises loops waits (Call procedure pc locals level ∷ fs) s w =
      let ids = buffers_of p w.0.writing in
      let inner = writing_over ids s in
      let r = rises 0 false fs inner w.1.1.3 in
      let some : IsSome (level_in fs) = subst (λ o. IsSome o) (sym w.1.1.2) refl in
      let at : number_of inner.source.way ≡ level = ap number_of (writing_way ids s) ∙ sym w.1.1.0.level_is in
      own_rises top (Call procedure pc locals level) level fs s.source.way refl w.1.1.0.level_is r.rise (subst (λ n. Low n fs) at (r.body some))
  rises loops waits (Region asked level ∷ fs) s w =
      first_on s.aside _ (Rises (Region asked level ∷ fs) s.source.way) w.3
      (λ x others h. region_rises top asked level fs x s.source.way (ends_leaf x h.0.end) (subst (λ o. IsSome o) (sym w.1) refl)
      (level_here p stations 0 true fs (region_over x others s) level h.2 w.1) (rises 0 true fs (region_over x others s) h.2))
  rises loops waits (Attributes next asked ∷ fs) s w =
      let r = rises 0 true fs s w.3 in
      record {
        rise = rises_more top fs (Attributes next asked) r.rise (λ k e. absurd (cc));
        body = λ none. absurd (false≢true none);
        list = (tt, λ shut. absurd (false≢true (sym shut)));
      }
  rises loops waits (Source buffer next asked ∷ fs) s w =
      outer_on s.around _ (Rises (Source buffer next asked ∷ fs) s.source.way) w.5
      (λ o others h. record {
        rise = rises_more top fs (Source buffer next asked) (rises 0 true fs (source_over buffer o.source others s) h.1).rise (λ k e. absurd (cc));
        body = λ none. absurd (false≢true none);
        list = (tt, λ shut. absurd (false≢true (sym shut)));
      })
  rises loops waits (Skip depth ∷ fs) s w =
      let r = rises 0 true fs (skip_over s) w.4 in
      let low : Low (length (left s.source.way).nodes) fs = subst (λ (v : Way). Low (length v.nodes) fs) (skip_way s.aside s) r.list in
      record {
        rise = rises_more top fs (Skip depth) r.rise (λ k e. absurd (cc));
        body = λ none. absurd (false≢true none);
        list = (tt, λ shut. low_more (length (left s.source.way).nodes) (length s.source.way.nodes) fs (omega (arith, left_long s.source.way)) low);
      }
  rises loops waits (Pass base level spent ∷ fs) s w =
      let r = rises 0 true fs (over level fs s) w.6 in
      let low = node_low level fs s s.source.way refl w.4 w.2 r in
      own_rises top (Pass base level spent) level fs s.source.way refl w.4 r.rise low

-- What a look at a head asks.

pub levels_rise : TopRises → (p : Program) (r : Run) → HeadIsLooked p r → LevelsRise r.frames.frames
levels_rise top p r h =
    subst LevelsRise (reverse-reverse r.frames.frames)
    (rises top p h.stations 0 true (reverse r.frames.frames) (node_over (standing_of r)) h.head.there.well).rise

pub can_be_asked : CodeCanBeAsked → (p : Program) (r : Run) → IsSteady p r → ConditionsCanBeEvaluated p.code
can_be_asked asked p r steady = subst ConditionsCanBeEvaluated (sym steady.program.code_is) (asked steady.sheet steady.sound.readable)
