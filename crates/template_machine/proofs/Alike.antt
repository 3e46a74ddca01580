-- Expressions see nodes and positions, and nothing else of a path.
use Rattle.std.proofs.Common.{◌≡◌, ℕ, ◌+◌, ◌-◌, nat_le, Bool, true, false, ◌&&◌, if◌then◌else◌, List, [], ◌∷◌, ◌++◌, map, flat_map, Option, Some, None, Result, Ok, Err, refl, ap, sym, subst, ◌∙◌}
use Rattle.std.specs.List.{list_any, range_with_len}
use Rattle.stx_base.specs.declared.expression.Fun.{Fun}
use Rattle.stx_base.specs.declared.expression.Fun.TheVariants as fun
use Rattle.stx_base.specs.declared.node.NodeTest.{NodeTest}
use Rattle.node_stack.specs.Path.{Node, Path, attributes, is_attribute, node_at, position, text_of}
use Rattle.stxpath_eval.specs.Nodes.{atom_of, atoms, attributes_at, has_child, local_name_of, name_of, passing_from, referred_at, uri_of}
use Rattle.stxpath_eval.specs.Setting.{Setting, at_step, current}
use Rattle.stxpath_eval.specs.Steps.{Meaning, Reaching, all_hold, along, ends_at, holds, holds_by, is_reached, kept, leads, leads_to, step_layer}
use Rattle.stxpath_eval.specs.Value.{absolute, applied, at_or_attributes, atom_value, binary, compared, computed, decided, decided_or, handed, in_a_row, layer, negated, node_meant, nodes_at, one_node, operated, or_current, reaching, told, truth_item, up, value, whole_item}
use Rattle.stxpath_syntax.specs.declared.expr.Bin.{Bin}
use Rattle.stxpath_syntax.specs.declared.expr.Bin.TheVariants as bin
use Rattle.stxpath_syntax.specs.declared.expr.Expr.{Expr, map-Expr}
use Rattle.stxpath_syntax.specs.declared.expr.Expr.TheFolds.{fold-roll-Expr, fold-roll-PathStep, ind-Expr}
use Rattle.stxpath_syntax.specs.declared.expr.Expr.TheOpen.{Expr-F, PathStep-F}
use Rattle.stxpath_syntax.specs.declared.expr.Expr.TheViews.{roll-Expr, roll-PathStep}
use Rattle.stxpath_syntax.specs.declared.expr.PathStep.{PathStep, map-PathStep}
use Rattle.stxpath_values.specs.Functions.{called, limited_list}
use Rattle.stxpath_values.specs.Outcome.{and_then, each}
use Rattle.stxpath_values.specs.declared.fault.EvalFault.{EvalFault}
use Rattle.stxpath_values.specs.declared.value.Atom.{Atom}
use Rattle.stxpath_values.specs.declared.value.Atom.TheVariants as atom
use Rattle.stxpath_values.specs.declared.value.Item.{Item}
use Rattle.stxpath_values.specs.declared.value.Item.TheVariants as item
use Rattle.template_machine.specs.Alike.{ExpressionsSeeNodes, LooksLike, along_path}

-- what means the same on paths that look alike
abbrev pub Sees : Meaning → Type 0
Sees m = (g : Setting) (p : Path) → LooksLike g p → m g ≡ m (along_path p g)

abbrev pub Walks : Reaching → Type 0
Walks s = (g : Setting) (p : Path) → LooksLike g p → (places : List ℕ) → s g places ≡ s (along_path p g) places

-- values one after another
pub next_alike : {A B : Type 0} (x : Result A EvalFault) (f h : A → Result B EvalFault) → ((a : A) → f a ≡ h a) → and_then x f ≡ and_then x h
next_alike (Ok a) f h e = e a
next_alike (Err fault) f h e = refl

pub both_alike : {A B : Type 0} (x y : Result A EvalFault) (f h : A → Result B EvalFault) → x ≡ y → ((a : A) → f a ≡ h a) → and_then x f ≡ and_then y h
both_alike x y f h same e = next_alike x f h e ∙ ap (λ z. and_then z h) same

module _ (g : Setting) (p : Path) (l : LooksLike g p) where
  abbrev h : Setting
  h = along_path p g

  -- nodes
  referred_alike : (r : Item) → atom_of g.path r ≡ atom_of p r
  referred_alike (item.Atom a) = refl
  referred_alike (item.Node r) = ap (λ n. atom_of_node (referred_at r.attr n)) (l.nodes r.place)
    where
      atom_of_node : Option Node → Atom
      atom_of_node n = atom.Chars (text_of n)

  pub atoms_alike : (items : List Item) → atoms g.path items ≡ atoms p items
  atoms_alike [] = refl
  atoms_alike (x ∷ items) = ap (λ a. a ∷ atoms g.path items) (referred_alike x) ∙ ap (λ as_. atom_of p x ∷ as_) (atoms_alike items)

  all_atoms_alike : (args : List (List Item)) → map (atoms g.path) args ≡ map (atoms p) args
  all_atoms_alike [] = refl
  all_atoms_alike (x ∷ args) = ap (λ a. a ∷ map (atoms g.path) args) (atoms_alike x) ∙ ap (λ as_. atoms p x ∷ as_) (all_atoms_alike args)

  attributes_alike : (t : NodeTest) (place : ℕ) → attributes_at g.path t place ≡ attributes_at p t place
  attributes_alike t place = ap (λ n. passing_from place 0 t (attributes n)) (l.nodes place)

  many_attributes_alike : (t : NodeTest) (places : List ℕ) → flat_map (attributes_at g.path t) places ≡ flat_map (attributes_at p t) places
  many_attributes_alike t [] = refl
  many_attributes_alike t (x ∷ places) = ap (λ a. a ++ flat_map (attributes_at g.path t) places) (attributes_alike t x) ∙ ap (λ b. attributes_at p t x ++ b) (many_attributes_alike t places)

  nodes_alike : (t : Option NodeTest) (places : List ℕ) → nodes_at g.path t places ≡ nodes_at p t places
  nodes_alike None places = refl
  nodes_alike (Some t) places = many_attributes_alike t places

  at_alike : (place : ℕ) (t : Option NodeTest) → at_or_attributes g place t ≡ at_or_attributes h place t
  at_alike place None = refl
  at_alike place (Some t) = ap (limited_list g.limits) (attributes_alike t place)

  up_alike : (n : ℕ) (t : Option NodeTest) → up g n t ≡ up h n t
  up_alike n t = ap (λ x. if nat_le n g.place then x else Ok []) (at_alike (g.place - n) t)

  one_alike : (items : List Item) → one_node g.path items ≡ one_node p items
  one_alike [] = refl
  one_alike (item.Node r ∷ []) = ap (λ n. Ok (referred_at r.attr n)) (l.nodes r.place)
  one_alike (item.Atom a ∷ []) = refl
  one_alike (x ∷ y ∷ more) = refl

  meant_alike : (args : List (List Item)) → node_meant g.path g.place args ≡ node_meant p g.place args
  meant_alike [] = ap (λ n. Ok n) (l.nodes g.place)
  meant_alike (arg ∷ args) = one_alike arg

  current_alike : current g ≡ current h
  current_alike = l.nodes g.place

  or_alike : (args : List (List Atom)) → or_current g args ≡ or_current h args
  or_alike [] = ap (λ n. (atom.Chars (text_of n) ∷ []) ∷ []) current_alike
  or_alike (x ∷ args) = refl

  handed_alike : (f : Fun) (args : List (List Atom)) → handed g f args ≡ handed h f args
  handed_alike fun.Name args = refl
  handed_alike fun.LocalName args = refl
  handed_alike fun.NamespaceUri args = refl
  handed_alike fun.Position args = refl
  handed_alike fun.Level args = refl
  handed_alike fun.HasChildNodes args = refl
  handed_alike fun.Str args = or_alike args
  handed_alike fun.Integer args = refl
  handed_alike fun.Boolean args = refl
  handed_alike fun.Not args = refl
  handed_alike fun.True args = refl
  handed_alike fun.False args = refl
  handed_alike fun.Concat args = refl
  handed_alike fun.StringJoin args = refl
  handed_alike fun.StringLength args = or_alike args
  handed_alike fun.Substring args = refl
  handed_alike fun.SubstringBefore args = refl
  handed_alike fun.SubstringAfter args = refl
  handed_alike fun.Contains args = refl
  handed_alike fun.StartsWith args = refl
  handed_alike fun.EndsWith args = refl
  handed_alike fun.NormalizeSpace args = or_alike args
  handed_alike fun.Translate args = refl
  handed_alike fun.Count args = refl
  handed_alike fun.Empty args = refl
  handed_alike fun.Exists args = refl
  handed_alike fun.Sum args = refl
  handed_alike fun.ItemAt args = refl
  handed_alike fun.IndexOf args = refl
  handed_alike fun.Subsequence args = refl

  called_alike : (f : Fun) (args : List (List Item))
      → atom_value (called g.limits f (handed g f (map (atoms g.path) args))) ≡ atom_value (called g.limits f (handed h f (map (atoms p) args)))
  called_alike f args =
      ap (λ as_. atom_value (called g.limits f (handed g f as_))) (all_atoms_alike args)
      ∙ ap (λ as_. atom_value (called g.limits f as_)) (handed_alike f (map (atoms p) args))

  -- functions
  applied_alike : (f : Fun) (args : List (List Item)) → applied g f args ≡ applied h f args
  applied_alike fun.Name args = ap (told name_of) (meant_alike args)
  applied_alike fun.LocalName args = ap (told local_name_of) (meant_alike args)
  applied_alike fun.NamespaceUri args = ap (told uri_of) (meant_alike args)
  applied_alike fun.Position args = ap whole_item l.own
  applied_alike fun.Level args = ap (λ n. whole_item (if is_attribute n then g.place - 1 else g.place)) (l.nodes g.place)
  applied_alike fun.HasChildNodes args = ap (λ n. truth_item (has_child n)) current_alike
  applied_alike fun.Str args = called_alike fun.Str args
  applied_alike fun.Integer args = called_alike fun.Integer args
  applied_alike fun.Boolean args = refl
  applied_alike fun.Not args = refl
  applied_alike fun.True args = called_alike fun.True args
  applied_alike fun.False args = called_alike fun.False args
  applied_alike fun.Concat args = called_alike fun.Concat args
  applied_alike fun.StringJoin args = called_alike fun.StringJoin args
  applied_alike fun.StringLength args = called_alike fun.StringLength args
  applied_alike fun.Substring args = called_alike fun.Substring args
  applied_alike fun.SubstringBefore args = called_alike fun.SubstringBefore args
  applied_alike fun.SubstringAfter args = called_alike fun.SubstringAfter args
  applied_alike fun.Contains args = called_alike fun.Contains args
  applied_alike fun.StartsWith args = called_alike fun.StartsWith args
  applied_alike fun.EndsWith args = called_alike fun.EndsWith args
  applied_alike fun.NormalizeSpace args = called_alike fun.NormalizeSpace args
  applied_alike fun.Translate args = called_alike fun.Translate args
  applied_alike fun.Count args = called_alike fun.Count args
  applied_alike fun.Empty args = called_alike fun.Empty args
  applied_alike fun.Exists args = called_alike fun.Exists args
  applied_alike fun.Sum args = called_alike fun.Sum args
  applied_alike fun.ItemAt args = called_alike fun.ItemAt args
  applied_alike fun.IndexOf args = called_alike fun.IndexOf args
  applied_alike fun.Subsequence args = called_alike fun.Subsequence args

  -- operators
  operated_alike : (b : Bin) (x y : List Item) → operated g.path b x y ≡ operated p b x y
  operated_alike bin.Or x y = refl
  operated_alike bin.And x y = refl
  operated_alike (bin.Compare cmp) x y = ap (λ z. compared cmp z (atoms g.path y)) (atoms_alike x) ∙ ap (λ z. compared cmp (atoms p x) z) (atoms_alike y)
  operated_alike (bin.Arith o) x y = ap (λ z. computed o z (atoms g.path y)) (atoms_alike x) ∙ ap (λ z. computed o (atoms p x) z) (atoms_alike y)

  decided_alike : (b : Bin) (x : List Item) (m : Meaning) → m g ≡ m h → (o : Option Bool) → decided_or g b x m o ≡ decided_or h b x m o
  decided_alike b x m e None = both_alike (m g) (m h) (operated g.path b x) (operated p b x) e (operated_alike b x)
  decided_alike b x m e (Some truth) = refl

  binary_alike : (b : Bin) (x y : Meaning) → x g ≡ x h → y g ≡ y h → binary g b x y ≡ binary h b x y
  binary_alike b x y e d =
      both_alike (x g) (x h) (λ items. and_then (decided b items) (decided_or g b items y)) (λ items. and_then (decided b items) (decided_or h b items y)) e
      (λ items. next_alike (decided b items) (decided_or g b items y) (decided_or h b items y) (decided_alike b items y d))

  -- lists
  each_alike : (ms : List ((m : Expr) × Sees (value m)))
      → each (λ (m : Meaning). m g) (map value (map (λ x. x.0) ms)) ≡ each (λ (m : Meaning). m h) (map value (map (λ x. x.0) ms))
  each_alike [] = refl
  each_alike (x ∷ ms) =
      both_alike (value x.0 g) (value x.0 h) _ _ (x.1 g p l)
      (λ y. both_alike (each (λ (m : Meaning). m g) (map value (map (λ x. x.0) ms))) (each (λ (m : Meaning). m h) (map value (map (λ x. x.0) ms))) _ _ (each_alike ms) (λ ys. refl))

  row_alike : (before : List Item) (ms : List ((m : Expr) × Sees (value m)))
      → in_a_row g before (map value (map (λ x. x.0) ms)) ≡ in_a_row h before (map value (map (λ x. x.0) ms))
  row_alike before [] = refl
  row_alike before (x ∷ ms) =
      both_alike (value x.0 g) (value x.0 h) _ _ (x.1 g p l) (λ items. next_alike (limited_list g.limits (before ++ items)) _ _ (λ all. row_alike all ms))

  along_alike : (steps : List ((s : PathStep) × Walks (reaching s))) (places : List ℕ)
      → along (map reaching (map (λ x. x.0) steps)) g places ≡ along (map reaching (map (λ x. x.0) steps)) h places
  along_alike [] places = refl
  along_alike (x ∷ steps) places = both_alike (reaching x.0 g places) (reaching x.0 h places) _ _ (x.1 g p l places) (λ all. along_alike steps all)

  absolute_alike : (steps : List ((s : PathStep) × Walks (reaching s))) (t : Option NodeTest)
      → absolute g (map reaching (map (λ x. x.0) steps)) t ≡ absolute h (map reaching (map (λ x. x.0) steps)) t
  absolute_alike steps t = both_alike _ _ _ _ (along_alike steps (0 ∷ [])) (λ places. ap (limited_list g.limits) (nodes_alike t places))

  -- predicates
  all_hold_alike : (ms : List ((m : Expr) × Sees (value m))) → all_hold (map value (map (λ x. x.0) ms)) g ≡ all_hold (map value (map (λ x. x.0) ms)) h
  all_hold_alike [] = refl
  all_hold_alike (x ∷ ms) =
      both_alike (holds (value x.0) g) (holds (value x.0) h) _ _
      (both_alike (value x.0 g) (value x.0 h) (holds_by (position g.path g.place g.test)) (holds_by (position p g.place g.test)) (x.1 g p l)
      (λ items. ap (λ n. holds_by n items) l.own))
      (λ one. ap (λ y. if one then y else Ok false) (all_hold_alike ms))

  at_step_alike : (place : ℕ) (t : NodeTest) → is_reached t (node_at g.path place) ≡ true → LooksLike (at_step place t g) p
  at_step_alike place t reached = record { nodes = l.nodes; positions = l.positions; own = l.positions place t reached }

both_true : (a b : Bool) → (a && b) ≡ true → b ≡ true
both_true true b e = e
both_true false b e = absurd (cc)

-- a step
ends_alike : (g : Setting) (p : Path) (l : LooksLike g p) (s : PathStep-F Meaning Reaching) (ms : List ((m : Expr) × Sees (value m)))
    → s.predicates ≡ map value (map (λ x. x.0) ms) → (places : List ℕ) (place : ℕ) → ends_at s g places place ≡ ends_at s (along_path p g) places place
ends_alike g p l s ms are places place =
    by (leads_to s.link s.test g.path places place) refl
    ∙ ap (λ (b : Bool). if b then all_hold s.predicates (at_step place s.test (along_path p g)) else Ok false)
    (ap (λ n. list_any (λ from_place. leads s.link from_place place) places && is_reached s.test n) (l.nodes place))
  where
    by : (b : Bool) → leads_to s.link s.test g.path places place ≡ b
        → (if b then all_hold s.predicates (at_step place s.test g) else Ok false) ≡ (if b then all_hold s.predicates (at_step place s.test (along_path p g)) else Ok false)
    by true e =
        subst (λ l. all_hold l (at_step place s.test g) ≡ all_hold l (at_step place s.test (along_path p g))) (sym are)
        (all_hold_alike (at_step place s.test g) p (at_step_alike g p l place s.test (both_true _ _ e)) ms)
    by false e = refl

kept_alike : (f k : ℕ → Result Bool EvalFault) → ((place : ℕ) → f place ≡ k place) → (places : List ℕ) → kept f places ≡ kept k places
kept_alike f k e [] = refl
kept_alike f k e (x ∷ places) =
    both_alike (f x) (k x) _ _ (e x) (λ one. both_alike (kept f places) (kept k places) _ _ (kept_alike f k e places) (λ others. refl))

-- Each form.

abbrev Seen_expr : Type 0
Seen_expr = (e : Expr) × Sees (value e)

abbrev Seen_step : Type 0
Seen_step = (s : PathStep) × Walks (reaching s)

value_roll : (x : Expr-F Expr PathStep) → value (roll-Expr x) ≡ layer (map-Expr Expr PathStep Meaning Reaching value reaching x)
unfolding value reaching
value_roll x = fold-roll-Expr Meaning Reaching layer step_layer x

reaching_roll : (x : PathStep-F Expr PathStep) → reaching (roll-PathStep x) ≡ step_layer (map-PathStep Expr PathStep Meaning Reaching value reaching x)
unfolding value reaching
reaching_roll x = fold-roll-PathStep Meaning Reaching layer step_layer x

abbrev plain : Expr-F Seen_expr Seen_step → Expr-F Expr PathStep
plain y = map-Expr Seen_expr Seen_step Expr PathStep (λ e. e.0) (λ s. s.0) y

abbrev plain_step : PathStep-F Seen_expr Seen_step → PathStep-F Expr PathStep
plain_step y = map-PathStep Seen_expr Seen_step Expr PathStep (λ e. e.0) (λ s. s.0) y

layer_alike : (y : Expr-F Seen_expr Seen_step) → Sees (layer (map-Expr Expr PathStep Meaning Reaching value reaching (plain y)))
layer_alike (Expr-F.Whole z) g p l = refl
layer_alike (Expr-F.Literal text) g p l = refl
layer_alike (Expr-F.Var name) g p l = refl
layer_alike (Expr-F.Call f args) g p l = both_alike _ _ (applied g f) (applied (along_path p g) f) (each_alike g p l args) (applied_alike g p l f)
layer_alike (Expr-F.Seq parts) g p l = row_alike g p l [] parts
layer_alike (Expr-F.Neg x) g p l =
    both_alike (value x.0 g) (value x.0 (along_path p g)) (λ items. negated (atoms g.path items)) (λ items. negated (atoms p items)) (x.1 g p l)
    (λ items. ap negated (atoms_alike g p l items))
layer_alike (Expr-F.Binary b x y) g p l = binary_alike g p l b (value x.0) (value y.0) (x.1 g p l) (y.1 g p l)
layer_alike Expr-F.Root g p l = refl
layer_alike (Expr-F.Abs steps t) g p l = absolute_alike g p l steps t
layer_alike (Expr-F.Up n t) g p l = up_alike g p l n t
layer_alike (Expr-F.Attr t) g p l = at_alike g p l g.place (Some t)

step_alike : (y : PathStep-F Seen_expr Seen_step) → Walks (step_layer (map-PathStep Expr PathStep Meaning Reaching value reaching (plain_step y)))
step_alike y g p l places =
    let s = map-PathStep Expr PathStep Meaning Reaching value reaching (plain_step y) in
    kept_alike (ends_at s g places) (ends_at s (along_path p g) places) (ends_alike g p l s y.predicates refl places) (range_with_len 0 (g.place + 1))

pub expressions_see_nodes : ExpressionsSeeNodes
expressions_see_nodes = ind-Expr (λ e. Sees (value e)) (λ s. Walks (reaching s))
    (λ x y is g p l.
    subst (λ z. value (roll-Expr z) g ≡ value (roll-Expr z) (along_path p g)) is
    (ap (λ (m : Meaning). m g) (value_roll (plain y)) ∙ layer_alike y g p l ∙ sym (ap (λ (m : Meaning). m (along_path p g)) (value_roll (plain y)))))
    (λ x y is g p l places.
    subst (λ z. reaching (roll-PathStep z) g places ≡ reaching (roll-PathStep z) (along_path p g) places) is
    (ap (λ (m : Reaching). m g places) (reaching_roll (plain_step y)) ∙ step_alike y g p l places ∙ sym (ap (λ (m : Reaching). m (along_path p g) places) (reaching_roll (plain_step y)))))
