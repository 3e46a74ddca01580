-- Tests, patterns, the choice of templates and what is passed through by the definitions before version 1.1, where no node is a CDATA section.
use Rattle.std.proofs.Common.{◌≡◌, ℕ, zero, suc, ◌+◌, Bool, true, false, ◌&&◌, if◌then◌else◌, List, [], ◌∷◌, ◌++◌, filter, map, reverse, slice_get, Option, Some, None, option_map, refl, sym, ap, subst, ◌∙◌}
use Rattle.std.proofs.lemmas.List.{reverse-append}
use Rattle.std.specs.List.{list_all, list_any, range_with_len}
use Rattle.stx_base.specs.declared.node.NodeTest.{NodeTest}
use Rattle.stx_base.specs.declared.node.NodeTest.TheVariants as test
use Rattle.node_stack.specs.Path.{Node, PathNode, Document, Element, Chars, CData, Comment, Pi, Attribute, kind_of, node_at}
use Rattle.node_stack.specs.Test.{passes}
use Rattle.sheet_model.specs.declared.pass.Pass.TheVariants as pass
use Rattle.stxpath_eval.specs.Setting.{Setting, at_step}
use Rattle.stxpath_eval.specs.Steps.{holds}
use Rattle.stxpath_eval.specs.Value.{value}
use Rattle.stxpath_syntax.specs.declared.expr.Alternative.{Alternative}
use Rattle.stxpath_syntax.specs.declared.expr.Alternative.TheVariants as alternative
use Rattle.stxpath_syntax.specs.declared.expr.PathStep.{PathStep}
use Rattle.stxpath_syntax.specs.declared.expr.Pattern.{Pattern}
use Rattle.match_patterns.specs.Fits.{fits, may_follow, node_passes, step_fits, steps_fit, surely}
use Rattle.group_scope.specs.Choice.{Candidate, does_fit, is_free, visible}
use Rattle.group_scope.specs.Rank.{best_of}
use Rattle.xml_events.specs.Tree as tree
use Rattle.xml_events.specs.Tree.{Stage, Waiting, Ready, Entered, Forest, End, Cut, Single, Nested, first_of}
use Rattle.template_machine.specs.Job.{Condition, Given, State}
use Rattle.template_machine.specs.Meaning.{ends_by}
use Rattle.template_machine.specs.Older.{old_choice, old_does_fit, old_ends_by, old_first_by, old_first_of, old_fits, old_fits_there, old_node_passes, old_passes, old_step_fits, old_steps_fit}
use Rattle.template_machine.specs.Passing.{choice}
use Rattle.template_machine.specs.Trail.{Stand, Trail, current, first_by, path_node, path_of}
use Rattle.template_machine.specs.Unchanged.{HasNoSections, PassesAsBefore, TestsPassAsBefore, is_old_node}
use Rattle.template_machine.specs.Values.{fits_there, pattern_setting}

-- no node of a way is a CDATA section
abbrev pub OldTrail : List Stand → Type 0
OldTrail [] = Unit {0}
OldTrail (s ∷ ss) = (is_old_node s.node ≡ true) × OldTrail ss

pub old_current : (trail : Trail) → OldTrail trail → is_old_node (current trail) ≡ true
old_current [] h = refl
old_current (s ∷ trail) h = h.0

-- Tests.

same_any : (n : Node) → is_old_node n ≡ true → passes test.AnyNode (kind_of n) ≡ old_passes test.AnyNode (kind_of n)
same_any Document h = refl
same_any (Element name attrs decls first) h = refl
same_any (Chars text) h = refl
same_any (CData text) h = cc
same_any (Comment text) h = refl
same_any (Pi target text) h = refl
same_any (Attribute a) h = refl

same_chars : (n : Node) → is_old_node n ≡ true → passes test.Chars (kind_of n) ≡ old_passes test.Chars (kind_of n)
same_chars Document h = refl
same_chars (Element name attrs decls first) h = refl
same_chars (Chars text) h = refl
same_chars (CData text) h = cc
same_chars (Comment text) h = refl
same_chars (Pi target text) h = refl
same_chars (Attribute a) h = refl

same_cdata : (n : Node) → is_old_node n ≡ true → passes test.CData (kind_of n) ≡ old_passes test.CData (kind_of n)
same_cdata Document h = refl
same_cdata (Element name attrs decls first) h = refl
same_cdata (Chars text) h = refl
same_cdata (CData text) h = cc
same_cdata (Comment text) h = refl
same_cdata (Pi target text) h = refl
same_cdata (Attribute a) h = refl

pub same_test : TestsPassAsBefore
same_test test.Document n h = refl
same_test (test.Name m) n h = refl
same_test (test.Prefix b) n h = refl
same_test test.AnyElement n h = refl
same_test test.AnyNode n h = same_any n h
same_test test.Chars n h = same_chars n h
same_test test.CData n h = same_cdata n h
same_test test.Comment n h = refl
same_test test.AnyPi n h = refl
same_test (test.Pi u) n h = refl
same_test (test.AttrName m) n h = refl
same_test (test.AttrPrefix b) n h = refl
same_test test.AnyAttr n h = refl

-- Nodes of a path.

abbrev OldNodes : List PathNode → Type 0
OldNodes [] = Unit {0}
OldNodes (x ∷ xs) = (is_old_node x.node ≡ true) × OldNodes xs

old_append : (xs ys : List Stand) → OldTrail xs → OldTrail ys → OldTrail (xs ++ ys)
old_append [] ys h k = k
old_append (x ∷ xs) ys h k = (h.0, old_append xs ys h.1 k)

old_reverse : (trail : List Stand) → OldTrail trail → OldTrail (reverse trail)
old_reverse [] h = h
old_reverse (s ∷ ss) h = subst OldTrail (sym (reverse-append (s ∷ []) ss)) (old_append (reverse ss) (s ∷ []) (old_reverse ss h.1) (h.0, tt))

old_mapped : (xs : List Stand) → OldTrail xs → OldNodes (map path_node xs)
old_mapped [] h = tt
old_mapped (x ∷ xs) h = (h.0, old_mapped xs h.1)

abbrev OldAt : Option Node → Type 0
OldAt None = Unit {0}
OldAt (Some n) = is_old_node n ≡ true

old_got : (xs : List PathNode) (place : ℕ) → OldNodes xs → OldAt (option_map (λ (x : PathNode). x.node) (slice_get xs place))
old_got [] place h = tt
old_got (x ∷ xs) zero h = h.0
old_got (x ∷ xs) (suc place) h = old_got xs place h.1

old_at : (trail : Trail) → OldTrail trail → (place : ℕ) → OldAt (node_at (path_of trail) place)
old_at trail h place = old_got (map path_node (reverse trail)) place (old_mapped (reverse trail) (old_reverse trail h))

-- Patterns.

any_same : {A : Type 0} (f g : A → Bool) → ((x : A) → f x ≡ g x) → (xs : List A) → list_any f xs ≡ list_any g xs
any_same f g h [] = refl
any_same f g h (x ∷ xs) = rw (h x, any_same f g h xs) refl

filter_same : {A : Type 0} (f g : A → Bool) → ((x : A) → f x ≡ g x) → (xs : List A) → filter f xs ≡ filter g xs
filter_same f g h [] = refl
filter_same f g h (x ∷ xs) = ap (λ b. if b then x ∷ filter f xs else filter f xs) (h x) ∙ ap (λ l. if g x then x ∷ l else l) (filter_same f g h xs)

same_there : (t : NodeTest) (o : Option Node) → OldAt o → node_passes t o ≡ old_node_passes t o
same_there t None h = refl
same_there t (Some n) h = same_test t n h

-- where the nodes of a path are no CDATA sections
module _ (g : Setting) (old : (place : ℕ) → OldAt (node_at g.path place)) where
  same_step : (s : PathStep) (place : ℕ) → step_fits s g place ≡ old_step_fits s g place
  same_step s place =
      ap (λ b. b && list_all (λ predicate. surely (holds (value predicate) (at_step place s.test g))) s.predicates) (same_there s.test (node_at g.path place) (old place))

  same_steps : (steps : List PathStep) (before : Option ℕ) → steps_fit steps g before ≡ old_steps_fit steps g before
  same_steps [] None = refl
  same_steps [] (Some place) = refl
  same_steps (s ∷ steps) before =
      any_same (λ place. may_follow s.link before place && step_fits s g place && steps_fit steps g (Some place))
      (λ place. may_follow s.link before place && old_step_fits s g place && old_steps_fit steps g (Some place))
      (λ place. rw (same_step s place, same_steps steps (Some place)) refl) (range_with_len 0 (g.place + 1))

  same_fits : (a : Alternative) → fits a g ≡ old_fits a g
  same_fits alternative.Root = same_there test.Document (node_at g.path g.place) (old g.place)
  same_fits (alternative.Steps steps) = same_steps steps None

  same_fits_there : (otherwise : Bool) (o : Option Pattern) → fits_there g otherwise o ≡ old_fits_there g otherwise o
  same_fits_there otherwise None = refl
  same_fits_there otherwise (Some p) = any_same (λ a. fits a g) (λ a. old_fits a g) same_fits p.alternatives

module _ (given : Given) (trail : Trail) (old : OldTrail trail) (st : State) where
  abbrev sees : (group : ℕ) → Setting
  sees = pattern_setting given trail st

  same_fit : (c : Candidate) → does_fit sees c ≡ old_does_fit sees c
  same_fit c = same_fits (sees c.group) (old_at trail old) c.pattern

  pub same_choice : (base : ℕ) (active : List ℕ) → choice given base active trail st ≡ old_choice given base active trail st
  same_choice base active =
      ap (λ l. best_of (map (λ (c : Candidate). c.rank) l)) (filter_same (does_fit sees) (old_does_fit sees) same_fit (filter (is_free active) (visible given.sheet base)))

  same_ends : (c : Condition) → ends_by given trail st c ≡ old_ends_by given trail st c
  same_ends c =
      let g = sees c.group in
      rw (same_fits_there g (old_at trail old) true c.going, same_fits_there g (old_at trail old) false c.until) refl

  pub same_ends_some : (conditions : List Condition) → list_any (ends_by given trail st) conditions ≡ list_any (old_ends_by given trail st) conditions
  same_ends_some conditions = any_same (ends_by given trail st) (old_ends_by given trail st) same_ends conditions

-- What is passed through.

pub passes_as_before : PassesAsBefore
passes_as_before pass.None trail Document p q = (refl, refl, refl)
passes_as_before pass.None trail (Element name attrs decls first) p q = (refl, refl, refl)
passes_as_before pass.None trail (Chars text) p q = (refl, refl, refl)
passes_as_before pass.None trail (CData text) p q = absurd (cc)
passes_as_before pass.None trail (Comment text) p q = (refl, refl, refl)
passes_as_before pass.None trail (Pi target text) p q = (refl, refl, refl)
passes_as_before pass.None trail (Attribute a) p q = (refl, refl, refl)
passes_as_before pass.Chars trail Document p q = (refl, refl, refl)
passes_as_before pass.Chars trail (Element name attrs decls first) p q = (refl, refl, refl)
passes_as_before pass.Chars trail (Chars text) p q = (refl, refl, refl)
passes_as_before pass.Chars trail (CData text) p q = absurd (cc)
passes_as_before pass.Chars trail (Comment text) p q = (refl, refl, refl)
passes_as_before pass.Chars trail (Pi target text) p q = (refl, refl, refl)
passes_as_before pass.Chars trail (Attribute a) p q = (refl, refl, refl)
passes_as_before pass.All trail Document p q = (refl, refl, refl)
passes_as_before pass.All trail (Element name attrs decls first) p q = (refl, refl, refl)
passes_as_before pass.All trail (Chars text) p q = (refl, refl, refl)
passes_as_before pass.All trail (CData text) p q = absurd (cc)
passes_as_before pass.All trail (Comment text) p q = (refl, refl, refl)
passes_as_before pass.All trail (Pi target text) p q = (refl, refl, refl)
passes_as_before pass.All trail (Attribute a) p q = (refl, refl, refl)
passes_as_before (pass.Kinds kinds) trail n p q = absurd (cc)

-- Elements.

pub same_first : (kids : Forest) → HasNoSections kids → first_of kids ≡ old_first_of kids
same_first (End m offset) h = refl
same_first (Cut why) h = refl
same_first (Single m (tree.Chars offset text) next) h = refl
same_first (Single m (tree.CData offset text) next) h = absurd h
same_first (Single m (tree.Comment offset text) next) h = refl
same_first (Single m (tree.Pi offset target text) next) h = refl
same_first (Nested stage e kids next) h = refl

pub same_first_by : (stage : Stage) (kids : Forest) → HasNoSections kids → first_by stage kids ≡ old_first_by stage kids
same_first_by Waiting kids h = same_first kids h
same_first_by (Ready first) kids h = refl
same_first_by (Entered first) kids h = refl
