-- The template that is chosen for the current node: the node passes the test of the alternative that fits it.
use Rattle.std.proofs.Common.{◌≡◌, ℕ, suc, ◌+◌, ◌-◌, Bool, true, false, ◌||◌, List, [], ◌∷◌, ◌++◌, length, filter, map, Option, Some, None, refl, ap, sym, subst, ◌∙◌, arith}
use Rattle.std.specs.Prelude.{◌&&◌, ◌==◌, IfSome, if◌then◌else◌}
use Rattle.std.specs.List.{list_any, range_with_len, slice_get}
use Rattle.std.specs.Option.{option_map}
use Rattle.std.proofs.lemmas.Bool.{and_parts, eqb-true, false≢true}
use Rattle.group_scope.specs.Choice.{Candidate, all_from, alternatives_from, category, chosen, chosen_of, does_fit, fitting, is_free, seen_by, settings, visible}
use Rattle.group_scope.specs.Rank.{better_of, improved, is_better}
use Rattle.group_scope.specs.declared.rank.Category.{Category}
use Rattle.group_scope.specs.declared.rank.Chosen.{Chosen}
use Rattle.group_scope.specs.declared.rank.Rank.{Rank}
use Rattle.match_patterns.specs.Fits.{fits, last_test, may_follow, node_passes, step_fits, steps_fit, test_of}
use Rattle.match_patterns.specs.Grouping.{Seen}
use Rattle.node_stack.specs.Path.{kind_of, node_at}
use Rattle.node_stack.specs.Stack.{path}
use Rattle.node_stack.specs.Test.{passes}
use Rattle.sheet_model.specs.Sound.{IsSound}
use Rattle.sheet_model.specs.declared.sheet.Sheet.{Sheet}
use Rattle.sheet_model.specs.declared.sheet.Template.{Template}
use Rattle.stx_base.specs.declared.limits.Limits.{Limits}
use Rattle.stxpath_eval.specs.Setting.{Setting}
use Rattle.stxpath_syntax.specs.declared.expr.Alternative.{Alternative}
use Rattle.stxpath_syntax.specs.declared.expr.Alternative.TheVariants as alternative
use Rattle.stxpath_syntax.specs.declared.expr.PathStep.{PathStep}
use Rattle.template_machine.specs.Ways.{way_of}
use Rattle.template_machine.specs.Well.{IsSteady, PassesBy}
use Rattle.template_machine.specs.Working.{IsChosen}
use Rattle.template_machine.specs.declared.program.Program.{Program}
use Rattle.template_machine.specs.declared.run.Run.{Run}
use Rattle.template_machine.proofs.Bodiless.{sound_too}
use Rattle.template_machine.proofs.Nodes.{is_way}
use Rattle.template_machine.proofs.Seeing.{node_there}
use Rattle.template_machine.proofs.Ways.{node_last, way_here}

-- Of each item of a list something holds.

abbrev Each : {A : Type 0} → (A → Type 0) → List A → Type 0
Each P [] = Unit {0}
Each P (x ∷ xs) = P x × Each P xs

each_as : {A : Type 0} (P Q : A → Type 0) → ((x : A) → P x → Q x) → (xs : List A) → Each P xs → Each Q xs
each_as P Q f [] h = tt
each_as P Q f (x ∷ xs) h = (f x h.0, each_as P Q f xs h.1)

each_append : {A : Type 0} (P : A → Type 0) (xs ys : List A) → Each P xs → Each P ys → Each P (xs ++ ys)
each_append P [] ys a b = b
each_append P (x ∷ xs) ys a b = (a.0, each_append P xs ys a.1 b)

each_filter : {A : Type 0} (P : A → Type 0) (f : A → Bool) (xs : List A) → Each P xs → Each P (filter f xs)
each_filter P f [] h = tt
each_filter {A = A} P f (x ∷ xs) h = by (f x) (each_filter P f xs h.1)
  where
    by : (b : Bool) → Each P (filter f xs) → Each P (if b then x ∷ filter f xs else filter f xs)
    by true rest = (h.0, rest)
    by false rest = rest

any_some : {A : Type 0} (p : A → Bool) (xs : List A) → list_any p xs ≡ true → (x : A) × (p x ≡ true)
any_some p [] h = absurd (false≢true h)
any_some {A = A} p (y ∷ xs) h = by (p y) refl h (any_some p xs)
  where
    by : (b : Bool) → p y ≡ b → (b || list_any p xs) ≡ true → (list_any p xs ≡ true → (x : A) × (p x ≡ true)) → (x : A) × (p x ≡ true)
    by true is e later = (y, is)
    by false is e later = later e

-- A pattern that fits passes the test of its last step.

last_passes : (s : PathStep) (steps : List PathStep) (g : Setting) (before : Option ℕ) → steps_fit (s ∷ steps) g before ≡ true
    → node_passes (last_test (s ∷ steps)) (node_at g.path g.place) ≡ true
last_passes s [] g before h =
    let x = any_some (λ place. may_follow s.link before place && step_fits s g place && steps_fit [] g (Some place)) (range_with_len 0 (g.place + 1)) h in
    let a = and_parts (may_follow s.link before x.0 && step_fits s g x.0) (x.0 == g.place) x.1 in
    let b = and_parts (may_follow s.link before x.0) (step_fits s g x.0) a.0 in
    let c = and_parts (node_passes s.test (node_at g.path x.0)) _ b.1 in
    subst (λ n. node_passes s.test (node_at g.path n) ≡ true) (eqb-true x.0 g.place a.1) c.0
last_passes s (t ∷ steps) g before h =
    let x = any_some (λ place. may_follow s.link before place && step_fits s g place && steps_fit (t ∷ steps) g (Some place)) (range_with_len 0 (g.place + 1)) h in
    let a = and_parts (may_follow s.link before x.0 && step_fits s g x.0) (steps_fit (t ∷ steps) g (Some x.0)) x.1 in
    last_passes t steps g (Some x.0) a.1

fit_passes : (a : Alternative) (g : Setting) → fits a g ≡ true → node_passes (test_of a) (node_at g.path g.place) ≡ true
fit_passes alternative.Root g h = h
fit_passes (alternative.Steps []) g h = absurd (false≢true h)
fit_passes (alternative.Steps (s ∷ steps)) g h = last_passes s steps g None h

-- An alternative among those that a base group sees is one of a template.

abbrev IsAmong : (number place : ℕ) → List Alternative → Candidate → Type 0
IsAmong number place alternatives x =
    (x.rank.template ≡ number) × ((k : ℕ) × ((slice_get alternatives k ≡ Some x.pattern) × (x.rank.alternative ≡ place + k)))

each_alternative : (number : ℕ) (t : Template) (c : Category) (place : ℕ) (alternatives : List Alternative)
    → Each (IsAmong number place alternatives) (alternatives_from number t c place alternatives)
each_alternative number t c place [] = tt
each_alternative number t c place (a ∷ rest) = (
  (refl, (0, (refl, omega arith))),
  each_as (IsAmong number (suc place) rest) (IsAmong number place (a ∷ rest)) (λ x r. (r.0, (suc r.1.0, (r.1.1.0, omega (arith, r.1.1.1)))))
      (alternatives_from number t c (suc place) rest) (each_alternative number t c (suc place) rest),
)

-- of these templates, of which the first has a number
abbrev IsOfTemplate : (number : ℕ) → List Template → Candidate → Type 0
IsOfTemplate number ts x =
    (n : ℕ) × ((t : Template) × ((slice_get ts n ≡ Some t) × (x.rank.template ≡ number + n) × (slice_get t.pattern.alternatives x.rank.alternative ≡ Some x.pattern)))

among_first : (number : ℕ) (t : Template) (ts : List Template) (x : Candidate) → IsAmong number 0 t.pattern.alternatives x → IsOfTemplate number (t ∷ ts) x
among_first number t ts x r =
    let same : r.1.0 ≡ x.rank.alternative = omega (arith, r.1.1.1) in
    (0, (t, (refl, omega (arith, r.0), subst (λ k. slice_get t.pattern.alternatives k ≡ Some x.pattern) same r.1.1.0)))

among_later : (number : ℕ) (t : Template) (ts : List Template) (x : Candidate) → IsOfTemplate (suc number) ts x → IsOfTemplate number (t ∷ ts) x
among_later number t ts x r = (suc r.0, (r.1.0, (r.1.1.0, omega (arith, r.1.1.1), r.1.1.2)))

each_seen : (number : ℕ) (t : Template) (ts : List Template) (o : Option Category) → Each (IsOfTemplate number (t ∷ ts)) (seen_by number t o)
each_seen number t ts None = tt
each_seen number t ts (Some c) =
    each_as (IsAmong number 0 t.pattern.alternatives) (IsOfTemplate number (t ∷ ts)) (among_first number t ts) (alternatives_from number t c 0 t.pattern.alternatives)
    (each_alternative number t c 0 t.pattern.alternatives)

each_visible : (category_of : Template → Option Category) (number : ℕ) (ts : List Template) → Each (IsOfTemplate number ts) (all_from category_of number ts)
each_visible category_of number [] = tt
each_visible category_of number (t ∷ ts) =
    each_append (IsOfTemplate number (t ∷ ts)) (seen_by number t (category_of t)) (all_from category_of (suc number) ts) (each_seen number t ts (category_of t))
    (each_as (IsOfTemplate (suc number) ts) (IsOfTemplate number (t ∷ ts)) (among_later number t ts) (all_from category_of (suc number) ts)
    (each_visible category_of (suc number) ts))

-- The one that is chosen fits.

record Fits (s : Sheet) (settings : (group : ℕ) → Setting) (r : Rank) : Type 0 where
  declared : Template
  is : slice_get s.templates r.template ≡ Some declared
  pattern : Alternative
  there : slice_get declared.pattern.alternatives r.alternative ≡ Some pattern
  group : ℕ
  fits_it : fits pattern (settings group) ≡ true

candidate_fits : (s : Sheet) (settings : (group : ℕ) → Setting) (c : Candidate) → IsOfTemplate 0 s.templates c → does_fit settings c ≡ true → Fits s settings c.rank
candidate_fits s settings c t fits_it =
    let number : t.0 ≡ c.rank.template = omega (arith, t.1.1.1) in
    record {
      declared = t.1.0;
      is = subst (λ k. slice_get s.templates k ≡ Some t.1.0) number t.1.1.0;
      pattern = c.pattern;
      there = t.1.1.2;
      group = c.group;
      fits_it = fits_it;
    }

each_fitting : (s : Sheet) (settings : (group : ℕ) → Setting) (cs : List Candidate) → Each (IsOfTemplate 0 s.templates) cs → Each (Fits s settings) (fitting settings cs)
each_fitting s settings [] h = tt
each_fitting s settings (c ∷ cs) h = by (does_fit settings c) refl (each_fitting s settings cs h.1)
  where
    by : (b : Bool) → does_fit settings c ≡ b → Each (Fits s settings) (fitting settings cs)
        → Each (Fits s settings) (map (λ (x : Candidate). x.rank) (if b then c ∷ filter (does_fit settings) cs else filter (does_fit settings) cs))
    by true is rest = (candidate_fits s settings c h.0 is, rest)
    by false is rest = rest

better_holds : (P : Rank → Type 0) (best : Option Rank) (r : Rank) → ((b : Rank) → best ≡ Some b → P b) → P r → P (better_of best r)
better_holds P None r h holds = holds
better_holds P (Some best) r h holds = by (is_better best r)
  where
    by : (b : Bool) → P (if b then best else r)
    by true = h best refl
    by false = holds

improved_holds : (P : Rank → Type 0) (best : Option Rank) (rs : List Rank) (r : Rank) → ((b : Rank) → best ≡ Some b → P b) → Each P rs → improved best rs ≡ Some r → P r
improved_holds P best [] r h each is = h r is
improved_holds P best (x ∷ rs) r h each is =
    improved_holds P (Some (better_of best x)) rs r (λ b e. subst P (one_rank e) (better_holds P best x h each.0)) each.1 is
  where
    one_rank : {a b : Rank} → Some a ≡ Some b → a ≡ b
    one_rank e = cc

chosen_fits : (s : Sheet) (base : ℕ) (active : List ℕ) (settings : (group : ℕ) → Setting) (r : Rank) → chosen s base active settings ≡ Some r → Fits s settings r
chosen_fits s base active settings r is =
    let seen = each_filter (IsOfTemplate 0 s.templates) (is_free active) (visible s base) (each_visible (category s base) 0 s.templates) in
    improved_holds (Fits s settings) None (fitting settings (filter (is_free active) (visible s base))) r (λ b e. absurd (none_some e))
    (each_fitting s settings (filter (is_free active) (visible s base)) seen) is
  where
    none_some : {b : Rank} → None ≡ Some b → ⊥
    none_some e = cc

-- So the current node passes its test.
chosen_passes : (p : Program) (r : Run) (base : ℕ) (active : List ℕ) (seen : Seen) (limits : Limits) (rank : Rank)
    → chosen p.sheet base active (settings seen limits (path r.source.stack)) ≡ Some rank → IsChosen p r rank.template rank.alternative
chosen_passes p r base active seen limits rank is =
    let nodes = path r.source.stack in
    let f = chosen_fits p.sheet base active (settings seen limits nodes) rank is in
    let n = node_there (way_of nodes).nodes (is_way r.source.stack) in
    let last : node_at nodes (length nodes.nodes - 1) ≡ Some n.0 = node_last nodes n.0 (sym (way_here nodes) ∙ n.1) in
    let passes_it : passes (test_of f.pattern) (kind_of n.0) ≡ true =
    sym (ap (node_passes (test_of f.pattern)) last) ∙ fit_passes f.pattern (settings seen limits nodes f.group) f.fits_it in
    record {
      declared = f.declared;
      is = f.is;
      passes_by = subst (PassesBy p f.declared rank.alternative) (sym n.1) (f.pattern, (f.there, passes_it));
    }

pub choice_is : (p : Program) (r : Run) (base : ℕ) (active : List ℕ) (seen : Seen) (limits : Limits) (choice : Option Chosen)
    → choice ≡ option_map chosen_of (chosen p.sheet base active (settings seen limits (path r.source.stack)))
    → IfSome choice (λ (c : Chosen). IsChosen p r c.template c.alternative)
choice_is p r base active seen limits choice is = by (chosen p.sheet base active (settings seen limits (path r.source.stack))) refl is
  where
    by : (o : Option Rank) → chosen p.sheet base active (settings seen limits (path r.source.stack)) ≡ o → choice ≡ option_map chosen_of o
        → IfSome choice (λ (c : Chosen). IsChosen p r c.template c.alternative)
    by None none e = subst (λ o. IfSome o (λ (c : Chosen). IsChosen p r c.template c.alternative)) (sym e) tt
    by (Some rank) some e =
        subst (λ o. IfSome o (λ (c : Chosen). IsChosen p r c.template c.alternative)) (sym e) (chosen_passes p r base active seen limits rank some)

-- The sheet of a program is sound.
pub program_sound : (p : Program) (r : Run) → IsSteady p r → IsSound p.sheet
program_sound p r s = subst IsSound (sym s.program.sheet_is) (sound_too s.sheet s.sound)
