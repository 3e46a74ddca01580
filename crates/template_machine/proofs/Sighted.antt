-- What instructions make of expressions sees nodes and positions, and nothing else of a path.
use Rattle.std.proofs.Common.{◌≡◌, ℕ, ◌+◌, Bool, true, false, if◌then◌else◌, List, [], ◌∷◌, ◌++◌, map, reverse, Option, Some, None, Result, Ok, refl, ap, sym, ◌∙◌}
use Rattle.std.specs.Prelude.{option_map, slice_get}
use Rattle.std.proofs.lemmas.List.{map-append, reverse-append, reverse-reverse}
use Rattle.std.proofs.lemmas.Option.{slice_get-map}
use Rattle.stx_base.specs.declared.node.NodeTest.{NodeTest}
use Rattle.node_stack.specs.Path.{Node, Document, Element, Chars, CData, Comment, Pi, Attribute, Path, PathNode, kind_of, node_at, position, position_at}
use Rattle.node_stack.specs.Test.{passes}
use Rattle.sheet_model.specs.declared.instr.Content.{Content}
use Rattle.sheet_model.specs.declared.instr.Content.TheVariants as content
use Rattle.stxpath_eval.specs.Nodes.{atoms}
use Rattle.stxpath_eval.specs.Setting.{Setting}
use Rattle.stxpath_eval.specs.Steps.{is_reached}
use Rattle.stxpath_eval.specs.Value.{value}
use Rattle.stxpath_syntax.specs.declared.expr.Avt.{Avt}
use Rattle.stxpath_syntax.specs.declared.expr.AvtPart.{AvtPart}
use Rattle.stxpath_syntax.specs.declared.expr.AvtPart.TheVariants as part
use Rattle.stxpath_syntax.specs.declared.expr.Expr.{Expr}
use Rattle.stxpath_values.specs.Conversion.{as_truth, atom_text}
use Rattle.stxpath_values.specs.Outcome.{and_then, each}
use Rattle.stxpath_values.specs.declared.fault.EvalFault.{EvalFault}
use Rattle.stxpath_values.specs.declared.value.Item.{Item}
use Rattle.template_machine.specs.Alike.{LooksLike, TextsSeeNodes, TrailsLookAlike, along_path}
use Rattle.template_machine.specs.Trail.{path_node, path_of, stand}
use Rattle.template_machine.specs.Values.{as_one, atoms_of, content_text, items_text, namespace_text, part_text, selected, space, template_text, text_of, truth_of}
use Rattle.template_machine.proofs.Alike.{atoms_alike, both_alike, expressions_see_nodes}

module _ (g : Setting) (p : Path) (l : LooksLike g p) where
  abbrev h : Setting
  h = along_path p g

  items_alike : (separator : List ℕ) (items : List Item) → items_text g separator items ≡ items_text h separator items
  items_alike separator items = ap (λ as_. as_one g.limits separator (map atom_text as_)) (atoms_alike g p l items)

  texts_alike : (e : Expr) → text_of e g ≡ text_of e h
  texts_alike e = both_alike (value e g) (value e h) (items_text g space) (items_text h space) (expressions_see_nodes e g p l) (items_alike space)

  parts_alike : (x : AvtPart) → part_text g x ≡ part_text h x
  parts_alike (part.Chars text) = refl
  parts_alike (part.Value e) = texts_alike e

  all_parts_alike : (xs : List AvtPart) → each (part_text g) xs ≡ each (part_text h) xs
  all_parts_alike [] = refl
  all_parts_alike (x ∷ xs) =
      both_alike (part_text g x) (part_text h x) _ _ (parts_alike x) (λ y. both_alike (each (part_text g) xs) (each (part_text h) xs) _ _ (all_parts_alike xs) (λ ys. refl))

  templates_alike : (t : Avt) → template_text t g ≡ template_text t h
  templates_alike t = both_alike (each (part_text g) t.parts) (each (part_text h) t.parts) (as_one g.limits []) (as_one g.limits []) (all_parts_alike t.parts) (λ texts. refl)

  contents_alike : (c : Content) → content_text c g ≡ content_text c h
  contents_alike (content.Select e) = texts_alike e
  contents_alike (content.Chars text) = refl

  namespaces_alike : (t : Option Avt) → namespace_text t g ≡ namespace_text t h
  namespaces_alike None = refl
  namespaces_alike (Some t) = both_alike (template_text t g) (template_text t h) _ _ (templates_alike t) (λ uri. refl)

  kept_alike : (e : Expr) → atoms_of e g ≡ atoms_of e h
  kept_alike e =
      both_alike (value e g) (value e h) _ _ (expressions_see_nodes e g p l) (λ items. ap (λ as_. Ok as_) (atoms_alike g p l items))

  selects_alike : (e : Option Expr) → selected e g ≡ selected e h
  selects_alike None = refl
  selects_alike (Some e) = kept_alike e

  tests_alike : (e : Expr) → truth_of e g ≡ truth_of e h
  tests_alike e = ap (λ x. and_then x as_truth) (expressions_see_nodes e g p l)

pub texts_see_nodes : TextsSeeNodes
texts_see_nodes = record {
  items = λ separator items g p l. items_alike g p l separator items;
  texts = λ e g p l. texts_alike g p l e;
  templates = λ t g p l. templates_alike g p l t;
  contents = λ c g p l. contents_alike g p l c;
  namespaces = λ t g p l. namespaces_alike g p l t;
  kept = λ e g p l. kept_alike g p l e;
  selects = λ e g p l. selects_alike g p l e;
  tests = λ e g p l. tests_alike g p l e;
}

-- Paths by trails.

abbrev plain : PathNode → PathNode
plain x = path_node (stand x.node x.earlier)

map_reversed : {A B : Type 0} (f : A → B) (xs : List A) → map f (reverse xs) ≡ reverse (map f xs)
map_reversed f [] = refl
map_reversed f (x ∷ xs) =
    ap (map f) (reverse-append (x ∷ []) xs) ∙ map-append f (reverse xs) (x ∷ []) ∙ ap (λ ys. ys ++ f x ∷ []) (map_reversed f xs)
    ∙ sym (reverse-append (f x ∷ []) (map f xs))

map_twice : (xs : List PathNode) → map path_node (map (λ (x : PathNode). stand x.node x.earlier) xs) ≡ map plain xs
map_twice [] = refl
map_twice (x ∷ xs) = ap (λ ys. plain x ∷ ys) (map_twice xs)

by_trail : (xs : List PathNode) → (path_of (map (λ (x : PathNode). stand x.node x.earlier) (reverse xs))).nodes ≡ map plain xs
by_trail xs =
    map_reversed path_node (map (λ (x : PathNode). stand x.node x.earlier) (reverse xs)) ∙ ap reverse (map_twice (reverse xs)) ∙ sym (map_reversed plain (reverse xs))
    ∙ ap (map plain) (reverse-reverse xs)

same_node : (o : Option PathNode) → option_map (λ (x : PathNode). x.node) o ≡ option_map (λ (x : PathNode). x.node) (option_map plain o)
same_node None = refl
same_node (Some x) = refl

passes_if_reached : (t : NodeTest) (n : Node) → is_reached t (Some n) ≡ true → passes t (kind_of n) ≡ true
passes_if_reached t (Attribute a) e = absurd (cc)
passes_if_reached t Document e = e
passes_if_reached t (Element name attrs decls first) e = e
passes_if_reached t (Chars text) e = e
passes_if_reached t (CData text) e = e
passes_if_reached t (Comment text) e = e
passes_if_reached t (Pi target text) e = e

counted : (b : Bool) (n : ℕ) → b ≡ true → n + 1 ≡ (if b then n else 0) + 1
counted true n e = refl
counted false n e = absurd (cc)

same_position : (t : NodeTest) (o : Option PathNode) → ((x : PathNode) → o ≡ Some x → passes t (kind_of x.node) ≡ true)
    → position_at t o ≡ position_at t (option_map plain o)
same_position t None e = refl
same_position t (Some x) e = counted (passes t (kind_of x.node)) (x.earlier t) (e x refl)

reached_passes : (t : NodeTest) (o : Option PathNode) → is_reached t (option_map (λ (x : PathNode). x.node) o) ≡ true
    → (x : PathNode) → o ≡ Some x → passes t (kind_of x.node) ≡ true
reached_passes t None e x is = absurd (cc)
reached_passes t (Some y) e x is = let same : y ≡ x = cc in passes_if_reached t x.node (ap (λ (z : PathNode). is_reached t (Some z.node)) (sym same) ∙ e)

at_plain : (xs : List PathNode) (place : ℕ) → slice_get (path_of (map (λ (x : PathNode). stand x.node x.earlier) (reverse xs))).nodes place ≡ option_map plain (slice_get xs place)
at_plain xs place = ap (λ l. slice_get l place) (by_trail xs) ∙ slice_get-map plain xs place

pub nodes_by : (g : Setting) (place : ℕ) → node_at g.path place ≡ node_at (path_of (map (λ (x : PathNode). stand x.node x.earlier) (reverse g.path.nodes))) place
nodes_by g place = same_node (slice_get g.path.nodes place) ∙ ap (option_map (λ (x : PathNode). x.node)) (sym (at_plain g.path.nodes place))

pub trails_look_alike : TrailsLookAlike
trails_look_alike g fits = record {
  nodes = nodes_by g;
  positions = λ place t reached.
      same_position t (slice_get g.path.nodes place) (reached_passes t (slice_get g.path.nodes place) reached)
      ∙ ap (position_at t) (sym (at_plain g.path.nodes place));
  own = same_position g.test (slice_get g.path.nodes g.place) fits ∙ ap (position_at g.test) (sym (at_plain g.path.nodes g.place));
}
