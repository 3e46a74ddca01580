-- A run by the definitions as they were before version 1.1: there were no nodes of CDATA sections, no test for them, and three ways to
-- pass nodes through. What isn't defined here was as it is.
use Rattle.std.specs.Prelude.{◌==◌, ℕ, ◌+◌, Bool, true, false, not, ◌&&◌, ◌||◌, if◌then◌else◌, List, [], ◌∷◌, ◌++◌, filter, map, Option, Some, None, slice_get}
use Rattle.std.specs.List.{list_all, list_any, range_with_len}
use Rattle.std.specs.Option.{option_map_or}
use Rattle.stx_base.specs.Course.{Ret, Halt, and_then}
use Rattle.stx_base.specs.declared.fault.Place.{Place}
use Rattle.stx_base.specs.declared.name.Attr.{Attr}
use Rattle.stx_base.specs.declared.node.First.{First}
use Rattle.stx_base.specs.declared.node.First.TheVariants as child
use Rattle.stx_base.specs.declared.node.NodeTest.{NodeTest}
use Rattle.stx_base.specs.declared.node.NodeTest.TheVariants as test
use Rattle.stx_base.specs.declared.part.Part.{Part}
use Rattle.stx_base.specs.declared.part.Part.TheVariants as part
use Rattle.group_scope.specs.Choice.{Candidate, is_free, visible}
use Rattle.group_scope.specs.Rank.{best_of}
use Rattle.group_scope.specs.declared.rank.Rank.{Rank}
use Rattle.match_patterns.specs.Fits.{may_follow, surely}
use Rattle.node_stack.specs.Path.{Node, Document, Element, Chars, Comment, Pi, Attribute, kind_of, node_at}
use Rattle.node_stack.specs.Test as kind
use Rattle.node_stack.specs.Test.{Kind, same, same_name}
use Rattle.sheet_model.specs.Parts.{place}
use Rattle.sheet_model.specs.declared.instr.Instr.{Instr, out-Instr}
use Rattle.sheet_model.specs.declared.instr.Instr.TheOpen.{Instr-F}
use Rattle.sheet_model.specs.declared.instr.When.{When}
use Rattle.sheet_model.specs.declared.pass.Pass.{Pass}
use Rattle.sheet_model.specs.declared.pass.Pass.TheVariants as pass
use Rattle.stxpath_eval.specs.Setting.{Setting, at_step}
use Rattle.stxpath_eval.specs.Steps.{holds}
use Rattle.stxpath_eval.specs.Value.{value}
use Rattle.stxpath_syntax.specs.declared.expr.Alternative.{Alternative}
use Rattle.stxpath_syntax.specs.declared.expr.Alternative.TheVariants as alternative
use Rattle.stxpath_syntax.specs.declared.expr.PathStep.{PathStep}
use Rattle.stxpath_syntax.specs.declared.expr.Pattern.{Pattern}
use Rattle.xml_events.specs.Tree as tree
use Rattle.xml_events.specs.Tree.{Begun, Stage, Waiting, Ready, Entered, Forest, End, Cut, Single, Nested}
use Rattle.template_machine.specs.Acting.{acts, asked_beside, asked_within, condition, cut_to, loop, siblings_of}
use Rattle.template_machine.specs.Declaring.{at_start, hands, makes_all}
use Rattle.template_machine.specs.Finding.{base_of}
use Rattle.template_machine.specs.Fuel.{begin, ended, is_begun, is_entered, spend, unready, when_ready}
use Rattle.template_machine.specs.Job.{Asked, Body, Condition, Does, Given, Here, Job, Loop, Nodes, Self, Source, State, remains, single, with_state}
use Rattle.template_machine.specs.Meaning.{asked_first, at_document, ending_of, first_here, siblings, taken}
use Rattle.template_machine.specs.Passing.{children, finish, group_at, passed_on, runs, start_parts, template_at}
use Rattle.template_machine.specs.Putting.{attribute_part, puts}
use Rattle.template_machine.specs.Trail.{Trail, current, document, leaf_node, passing_among, stands, without_place}
use Rattle.template_machine.specs.Values.{pattern_setting}
use Rattle.var_store.specs.declared.bound.Bound.{Bound}

-- Which nodes passed a test.
abbrev pub old_passes : NodeTest → Kind → Bool
old_passes test.Document kind.Document = true
old_passes (test.Name n) (kind.Element m) = same_name m n
old_passes (test.Prefix b) (kind.Element m) = same m.uri b.uri
old_passes test.AnyElement (kind.Element m) = true
old_passes test.AnyNode (kind.Element m) = true
old_passes test.AnyNode kind.Chars = true
old_passes test.AnyNode kind.Comment = true
old_passes test.AnyNode (kind.Pi t) = true
old_passes test.Chars kind.Chars = true
old_passes test.Comment kind.Comment = true
old_passes test.AnyPi (kind.Pi t) = true
old_passes (test.Pi u) (kind.Pi t) = same t u
old_passes (test.AttrName n) (kind.Attribute m) = same_name m n
old_passes (test.AttrPrefix b) (kind.Attribute m) = same m.uri b.uri
old_passes test.AnyAttr (kind.Attribute m) = true
old_passes t x = false

-- Which patterns fitted a node.

abbrev pub old_node_passes : NodeTest → Option Node → Bool
old_node_passes t None = false
old_node_passes t (Some n) = old_passes t (kind_of n)

abbrev pub old_step_fits : PathStep → Setting → (place : ℕ) → Bool
old_step_fits s g place =
    old_node_passes s.test (node_at g.path place)
    && list_all (λ predicate. surely (holds (value predicate) (at_step place s.test g))) s.predicates

abbrev pub old_steps_fit : List PathStep → Setting → (before : Option ℕ) → Bool
old_steps_fit [] g None = false
old_steps_fit [] g (Some place) = place == g.place
old_steps_fit (s ∷ steps) g before =
    list_any (λ place. may_follow s.link before place && old_step_fits s g place && old_steps_fit steps g (Some place)) (range_with_len 0 (g.place + 1))

abbrev pub old_fits : Alternative → Setting → Bool
old_fits alternative.Root g = old_node_passes test.Document (node_at g.path g.place)
old_fits (alternative.Steps steps) g = old_steps_fit steps g None

abbrev pub old_fits_there : Setting → (otherwise : Bool) → Option Pattern → Bool
old_fits_there g otherwise None = otherwise
old_fits_there g otherwise (Some p) = list_any (λ a. old_fits a g) p.alternatives

abbrev pub old_does_fit : ((group : ℕ) → Setting) → Candidate → Bool
old_does_fit settings c = old_fits c.pattern (settings c.group)

-- The first child that an element has, by its list: it gives the element its string value where it is a text.

abbrev pub old_first_of : (kids : Forest) → First
old_first_of (End mark offset) = child.Nothing
old_first_of (Cut why) = child.Nothing
old_first_of (Single mark (tree.Chars offset text) next) = child.Chars text
old_first_of (Single mark leaf next) = child.Other
old_first_of (Nested stage element kids next) = child.Other

abbrev pub old_first_by : Stage → (kids : Forest) → First
old_first_by Waiting kids = old_first_of kids
old_first_by (Ready first) kids = first
old_first_by (Entered first) kids = first

abbrev pub old_element_node : Stage → tree.Element → (kids : Forest) → Node
old_element_node stage e kids = Element e.name e.attrs e.decls (old_first_by stage kids)

-- What was passed through: nothing, texts, or all.

abbrev pub old_leaf_parts : Pass → Node → List Part
old_leaf_parts pass.All (Chars text) = part.Chars text ∷ []
old_leaf_parts pass.All (Comment text) = part.Comment text ∷ []
old_leaf_parts pass.All (Pi target text) = part.Pi target text ∷ []
old_leaf_parts pass.All (Attribute a) = attribute_part a ∷ []
old_leaf_parts pass.Chars (Chars text) = part.Chars text ∷ []
old_leaf_parts pass n = []

abbrev pub old_parts_before : Pass → Trail → Node → List Part
old_parts_before pass.All trail (Element name attrs decls first) = start_parts trail name attrs
old_parts_before pass trail n = []

abbrev pub old_parts_behind : Pass → Node → List Part
old_parts_behind pass.All (Element name attrs decls first) = part.End name ∷ []
old_parts_behind pass n = []

-- Which nodes had siblings.
abbrev pub old_has_siblings : Node → Bool
old_has_siblings (Element name attrs decls first) = true
old_has_siblings (Chars text) = true
old_has_siblings (Comment text) = true
old_has_siblings (Pi target text) = true
old_has_siblings n = false

module _ (given : Given) where
  abbrev pub old_pass_in : (base : ℕ) → Pass
  old_pass_in base = option_map_or (λ g. g.pass) (slice_get given.sheet.groups base) pass.None

  abbrev pub old_pass_around : (twice : Place) → (base : ℕ) → Pass → Source → Trail → Here → Does
  old_pass_around twice base p source trail a =
      puts given (group_at given base) (old_parts_before p trail (current trail)) a.state (λ st.
      children twice (passed_on given base source trail) (with_state a st) (λ b.
      puts given (group_at given base) (old_parts_behind p (current trail)) b.state (λ st. Ret (with_state b st))))

  abbrev pub old_pass_leaf : (base : ℕ) → Pass → Node → Here → Does
  old_pass_leaf base p n a = puts given (group_at given base) (old_leaf_parts p n) a.state (λ st. Ret (with_state a st))

  abbrev pub old_pass_node : (twice : Place) → (base : ℕ) → Source → Trail → Node → Here → Does
  old_pass_node twice base source trail Document a = old_pass_around twice base (old_pass_in base) source trail a
  old_pass_node twice base source trail (Element name attrs decls first) a = old_pass_around twice base (old_pass_in base) source trail a
  old_pass_node twice base source trail n a = old_pass_leaf base (old_pass_in base) n a

  -- the best of the templates that could be chosen
  abbrev pub old_choice : (base : ℕ) → (active : List ℕ) → Trail → State → Option Rank
  old_choice base active trail st =
      let sees = pattern_setting given trail st in
      best_of (map (λ (c : Candidate). c.rank) (filter (old_does_fit sees) (filter (is_free active) (visible given.sheet base))))

  abbrev pub old_node : Asked → Trail → Here → Does
  old_node asked trail a = elim (old_choice asked.base [] trail a.state) [
    | None ↦ old_pass_node asked.at asked.base asked.level.source trail (current trail) a
    | Some c ↦ runs given asked.at asked.params c (template_at given c) [] asked.level trail a (finish given asked.level.source)
  ]

  abbrev pub old_attributes : (earlier coming : List Attr) → Asked → State → (State → Does) → Does
  old_attributes earlier [] asked st go = go st
  old_attributes earlier (x ∷ xs) asked st go =
      and_then (old_node asked (stands (Attribute x) (passing_among earlier) asked.within) (single st))
      (λ b. old_attributes (earlier ++ x ∷ []) xs asked b.state go)

  abbrev pub old_attributes_of : Asked → Node → Here → Does
  old_attributes_of asked (Element name attrs decls first) a = old_attributes [] attrs asked a.state (λ st. Ret (with_state a st))
  old_attributes_of asked n a = Ret a

  abbrev pub old_again : Place → (base : ℕ) → (handed : List Bound) → Self → Here → Does
  old_again at base handed self a = elim (old_choice base self.active self.trail a.state) [
    | None ↦ old_pass_node at base self.level.source self.trail (current self.trail) a
    | Some c ↦ runs given at handed c (template_at given c) self.active self.level self.trail a (λ b. Ret b)
  ]

  -- the instructions in which nodes are processed, or have siblings; the others did what they do
  abbrev pub old_acts : Instr-F Instr When → Self → Here → Does
  old_acts (Instr-F.ProcessAttributes group params at) self a =
      hands given at params self a (λ handed.
      old_attributes_of (asked_within given at (base_of given.sheet group self.group) handed self) (current self.trail) a)
  old_acts (Instr-F.ProcessSelf group params at) self a =
      hands given at params self a (λ handed. old_again at (base_of given.sheet group self.group) handed self a)
  old_acts (Instr-F.ProcessSiblings going until group params at) self a =
      hands given at params self a (λ handed.
      if old_has_siblings (current self.trail)
      then siblings_of given (asked_beside given at (base_of given.sheet group self.group) handed (condition self.group going until) self) a
      else Ret a)
  old_acts i self a = acts given i self a

  -- lists of instructions, and of nodes, as they are run

  abbrev pub old_exec : Instr → Self → Here → Does
  old_exec i self a = spend (place (out-Instr i)) a.state (λ st. old_acts (out-Instr i) self (with_state a st))

  abbrev pub old_body : List Instr → Self → Here → Does
  old_body [] self a = Ret a
  old_body (i ∷ is) self a = and_then (old_exec i self a) (old_body is self)

  abbrev pub old_list : List Instr → Self → Here → Does
  old_list is self a = and_then (old_body is self a) (λ b. Ret (cut_to a.locals b))

  abbrev pub old_ends_by : Trail → State → Condition → Bool
  old_ends_by trail st c =
      let g = pattern_setting given trail st c.group in not (old_fits_there g true c.going) || old_fits_there g false c.until

  abbrev pub old_head : Node → (kids : Option Forest) → (list next : Forest) → (earlier : NodeTest → ℕ) → Asked → State → Does
  old_head n kids list next earlier asked st =
      let trail = stands n earlier asked.within in
      if list_any (old_ends_by trail st) asked.level.conditions
      then Ret (remains (record { earlier = earlier; coming = list }) st)
      else and_then (old_node asked trail (taken n kids next earlier st)) (siblings asked)

  abbrev pub old_nodes : (earlier : NodeTest → ℕ) → Forest → Asked → State → Does
  old_nodes earlier (End m offset) asked st =
      Ret (remains (record { earlier = earlier; coming = End Begun 0 }) (ended given asked.level.source m st))
  old_nodes earlier (Cut why) asked st = Halt (unready asked.level.source why)
  old_nodes earlier (Single m leaf next) asked st =
      begin given asked.level.source (is_begun m) st (λ st.
      old_head (leaf_node leaf) None (Single Begun (without_place leaf) next) next earlier asked st)
  old_nodes earlier (Nested stage e kids next) asked st =
      when_ready asked.level.source stage kids (begin given asked.level.source (is_entered stage) st (λ st.
      old_head (old_element_node stage e kids) (Some kids) (Nested (Entered (old_first_by stage kids)) (record e { offset = 0 }) kids next) next earlier asked st))

  -- what one call did, and the whole run
  abbrev pub old_code : Job → Does
  old_code (Nodes left asked st) = old_nodes left.earlier left.coming asked st
  old_code (Body is self a) = old_list is self a
  old_code (Loop test is at self a) = loop given test is at self a

  abbrev pub old_meaning : Forest → Does
  old_meaning tree =
      makes_all given (at_document given) (at_start given) (λ st.
      and_then (old_node (asked_first given) (document ∷ []) (first_here given tree st)) (λ a. Halt (ending_of given a.state.result)))
