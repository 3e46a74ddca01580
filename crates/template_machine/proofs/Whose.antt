-- Whose body runs that begins on a node which no other body asked for.
use Rattle.std.proofs.Common.{◌≡◌, ◌≤◌, ◌<◌, ℕ, zero, suc, ◌+◌, ◌-◌, ◌==◌, Bool, true, false, List, [], ◌∷◌, ◌++◌, length, Option, Some, None, refl, ap, sym, subst, ◌∙◌, arith}
use Rattle.std.specs.Prelude.{if◌then◌else◌, option_map, slice_get, unwrap_or}
use Rattle.std.specs.Option.{option_map_or}
use Rattle.std.proofs.lemmas.Option.{slice_get-map}
use Rattle.stx_base.specs.declared.node.NodeTest.{NodeTest}
use Rattle.stx_base.specs.declared.node.NodeTest.TheVariants as test
use Rattle.frame_stack.specs.declared.frame.Frame.{Frame}
use Rattle.frame_stack.specs.declared.frame.Frame.TheVariants.{Attributes, Body, Call, Loop, Pass, Region, Skip, Source}
use Rattle.frame_stack.specs.declared.locals.Local.{Local}
use Rattle.group_scope.specs.declared.rank.Rank.{Rank}
use Rattle.instr_code.specs.Bare.{template_without_body}
use Rattle.match_patterns.specs.Fits.{test_of}
use Rattle.node_stack.specs.Path.{Node, is_attribute}
use Rattle.sheet_model.specs.declared.sheet.Sheet.{Sheet}
use Rattle.sheet_model.specs.declared.sheet.Template.{Template}
use Rattle.stxpath_syntax.specs.declared.expr.Alternative.{Alternative}
use Rattle.template_machine.specs.Bodies.{active_by, active_in}
use Rattle.template_machine.specs.declared.bodies.Seen.TheVariants.{Template as Own, Within, Outside}
use Rattle.template_machine.specs.Contexts.{Station}
use Rattle.template_machine.specs.Job as job
use Rattle.template_machine.specs.Job.{Given, Level, Self, fresh}
use Rattle.template_machine.specs.Listed.{AreInOrder}
use Rattle.template_machine.specs.Lists.{rest_of}
use Rattle.template_machine.specs.Passing.{run_as}
use Rattle.template_machine.specs.Programs.{IsProgramOf}
use Rattle.template_machine.specs.Standing.{Standing, node_over, scope_over, skipped_by, writing_over}
use Rattle.template_machine.specs.Still as still
use Rattle.template_machine.specs.Still.{Scene, trail_of}
use Rattle.template_machine.specs.Ways.{Way, first_in, here, left, number_of}
use Rattle.template_machine.specs.Well.{AreWell, buffers_of, is_again, over}
use Rattle.template_machine.specs.declared.program.Program.{Program}
use Rattle.template_machine.proofs.InOrder.{NoOther, in_order, over_keeps, scope_keeps, skip_keeps, writing_keeps}
use Rattle.template_machine.proofs.Regions.{scope_way, writing_way}

pub same_number : (n : ℕ) → (n == n) ≡ true
same_number n = grind arith

-- Frames below a node that no body of its own asked for.

active_below : (level : ℕ) (fs : List Frame) → is_again level fs ≡ false → active_in level fs ≡ []
active_below level [] apart = refl
active_below level (Loop turn ∷ fs) apart = active_below level fs apart
active_below level (Body template alternative pc locals own spent ∷ fs) apart =
    ap (λ b. active_by (if b then Own template else Outside) (active_in level fs)) apart
active_below level (Call procedure pc locals own ∷ fs) apart = ap (λ b. active_by (if b then Within else Outside) (active_in level fs)) apart
active_below level (Region asked own ∷ fs) apart = refl
active_below level (Attributes next asked ∷ fs) apart = refl
active_below level (Source buffer next asked ∷ fs) apart = refl
active_below level (Skip depth ∷ fs) apart = refl
active_below level (Pass base own spent ∷ fs) apart = refl

module _ (given : Given) (p : Program) where
  conditions_below : (level : ℕ) (fs : List Frame) → AreInOrder fs → still.conditions_of given p level fs ≡ []
  conditions_below level [] order = refl
  conditions_below level (Loop turn ∷ fs) order = conditions_below level fs order
  conditions_below level (Body template alternative pc locals own spent ∷ fs) order = conditions_below level fs order
  conditions_below level (Call procedure pc locals own ∷ fs) order = conditions_below level fs order
  conditions_below level (Region asked own ∷ fs) order = absurd order
  conditions_below level (Attributes next asked ∷ fs) order = conditions_below level fs order
  conditions_below level (Source buffer next asked ∷ fs) order = absurd order
  conditions_below level (Skip depth ∷ fs) order = conditions_below level fs order
  conditions_below level (Pass base own spent ∷ fs) order = conditions_below level fs order

  pub test_by : (o : Option Alternative) → unwrap_or (option_map test_of o) test.Document ≡ option_map_or test_of o test.Document
  test_by None = refl
  test_by (Some a) = refl

  module _ (template alternative start level : ℕ) (locals : List Local) (fs : List Frame) (c : Scene) (rank : Rank) (t : Template) where
    abbrev made : Option Template → (active : List ℕ) → Level → Self
    made o active level_now = record {
      group = unwrap_or (option_map (λ (x : Template). x.group) o) 0;
      test = unwrap_or (option_map test_of (slice_get (option_map_or (λ (x : Template). x.pattern.alternatives) o []) alternative)) test.Document;
      active = active;
      level = level_now;
      trail = trail_of c.nodes;
    }

    abbrev leveled : Bool → List job.Condition → ℕ → Level
    leveled b conditions instances = record { conditions = conditions; instances = (if b then 1 else 0) + instances; source = c.source }

    pub whose_is : IsProgramOf given.sheet given.limits p → slice_get given.sheet.templates template ≡ Some t → rank.template ≡ template → rank.alternative ≡ alternative
        → is_again level fs ≡ false → AreInOrder fs → still.instances_in given p level fs ≡ 0
        → run_as rank t [] (record (fresh c.source) { instances = 1 }) (trail_of c.nodes) ≡ still.self_of given p level (Body template alternative start locals level false) fs c
    whose_is program there same_template same_alternative apart order none =
        let is : slice_get p.sheet.templates template ≡ Some (template_without_body t) =
        ap (λ (s : Sheet). slice_get s.templates template) program.sheet_is ∙ slice_get-map template_without_body given.sheet.templates template ∙ ap (option_map template_without_body) there in
        let active : active_in level (Body template alternative start locals level false ∷ fs) ≡ template ∷ [] =
        ap (λ b. active_by (if b then Own template else Outside) (active_in level fs)) (same_number level) ∙ ap (λ l. template ∷ l) (active_below level fs apart) in
        let now : Level = still.level_at given p level c.source (Body template alternative start locals level false ∷ fs) in
        let at_level : now ≡ record (fresh c.source) { instances = 1 } =
        ap (λ b. leveled b (still.conditions_of given p level fs) (still.instances_in given p level fs)) (same_number level)
        ∙ ap (λ cs. leveled true cs (still.instances_in given p level fs)) (conditions_below level fs order) ∙ ap (λ n. leveled true [] n) none in
        sym
        (ap (λ o. made o (active_in level (Body template alternative start locals level false ∷ fs)) now) is
        ∙ ap (λ as_. made (Some (template_without_body t)) as_ now) active
        ∙ ap (λ l. made (Some (template_without_body t)) (template ∷ []) l) at_level
        ∙ ap (λ x. record (made (Some (template_without_body t)) (template ∷ []) (record (fresh c.source) { instances = 1 })) { test = x }) (test_by (slice_get t.pattern.alternatives alternative))
        ∙ sym (ap (λ n. record { group = t.group; test = option_map_or test_of (slice_get t.pattern.alternatives n) test.Document; active = rank.template ∷ []; level = record (fresh c.source) { instances = 1 }; trail = trail_of c.nodes }) same_alternative
        ∙ ap (λ n. record { group = t.group; test = option_map_or test_of (slice_get t.pattern.alternatives alternative) test.Document; active = n ∷ []; level = record (fresh c.source) { instances = 1 }; trail = trail_of c.nodes }) same_template))

-- Bodies below stand on nodes of smaller numbers, up to a list of attributes.

fewer : (w : Way) → number_of (left w) ≤ number_of w
fewer w = by w.nodes
  where
    two : (b c : Bool) (n : ℕ) → suc n - (if b then 2 else 1) ≤ suc (suc n) - (if c then 2 else 1)
    two true true n = omega arith
    two true false n = omega arith
    two false true n = omega arith
    two false false n = omega arith

    by : (ns : List Node) → length (rest_of ns) - (if is_attribute (first_in (rest_of ns)) then 2 else 1) ≤ length ns - (if is_attribute (first_in ns) then 2 else 1)
    by [] = omega arith
    by (x ∷ []) = omega arith
    by (x ∷ y ∷ ns) = two (is_attribute (Some y)) (is_attribute (Some x)) (length ns)

module _ (given : Given) (p : Program) (stations : List Station) where
  not_there : (own level rest : ℕ) → own < level → rest ≡ 0 → (if own == level then 1 else 0) + rest ≡ 0
  not_there own level rest less none = by (own == level) refl
    where
      by : (b : Bool) → (own == level) ≡ b → (if own == level then 1 else 0) + rest ≡ 0
      by true e = absurd (grind (arith, less, e))
      by false e = let bare : 0 + rest ≡ 0 = omega (arith, none) in ap (λ b. (if b then 1 else 0) + rest) e ∙ bare

  over_less : (level own : ℕ) (fs : List Frame) (s : Standing) → number_of s.source.way < level → number_of (over own fs s).source.way < level
  over_less level own fs s less = by (is_again own fs)
    where
      by : (b : Bool) → number_of (if b then s else node_over s).source.way < level
      by true = less
      by false = omega (arith, fewer s.source.way, less)

  pub levels_below : (level loops : ℕ) (waits : Bool) (fs : List Frame) (s : Standing) → AreWell p stations loops waits fs s → NoOther s → number_of s.source.way < level
      → still.instances_in given p level fs ≡ 0
  levels_below level loops waits [] s w h less = refl
  levels_below level loops waits (Loop turn ∷ fs) s w h less = levels_below level (suc loops) waits fs s w h less
  levels_below level loops waits (Attributes next asked ∷ fs) s w h less = refl
  levels_below level loops waits (Source buffer next asked ∷ fs) s w h less = refl
  levels_below level loops waits (Body template alternative pc locals own spent ∷ fs) s w h less =
      let inner = writing_over (buffers_of p w.0.writing) s in
      let scoped = scope_over w.1.0.new_scope w.1.0.group inner in
      let way : scoped.source.way ≡ s.source.way = scope_way w.1.0.new_scope w.1.0.group inner ∙ writing_way (buffers_of p w.0.writing) s in
      let there : number_of scoped.source.way < level = subst (λ v. number_of v < level) (sym way) less in
      not_there own level (still.instances_in given p level fs) (subst (λ n. n < level) (sym w.1.1.0.level_is) less)
      (levels_below level 0 true fs (over own fs scoped) w.1.1.4 (over_keeps own fs scoped (scope_keeps w.1.0.new_scope w.1.0.group inner (writing_keeps (buffers_of p w.0.writing) s h)))
      (over_less level own fs scoped there))
  levels_below level loops waits (Call procedure pc locals own ∷ fs) s w h less =
      let inner = writing_over (buffers_of p w.0.writing) s in
      not_there own level (still.instances_in given p level fs) (subst (λ n. n < level) (sym w.1.1.0.level_is) less)
      (levels_below level 0 false fs inner w.1.1.3 (writing_keeps (buffers_of p w.0.writing) s h) (subst (λ v. number_of v < level) (sym (writing_way (buffers_of p w.0.writing) s)) less))
  levels_below level loops waits (Region asked own ∷ fs) s w h less = absurd (in_order p stations loops waits (Region asked own ∷ fs) s w h)
  levels_below level loops waits (Skip depth ∷ fs) s w h less =
      levels_below level 0 true fs (skipped_by s.aside s) w.4 (skip_keeps s.aside s h.0 h)
      (subst (λ l. number_of (skipped_by l s).source.way < level) (sym h.0) (omega (arith, fewer s.source.way, less)))
  levels_below level loops waits (Pass base own spent ∷ fs) s w h less = levels_below level 0 true fs (over own fs s) w.6 (over_keeps own fs s h) (over_less level own fs s less)
