-- The nodes of a path.
use Rattle.std.proofs.Common.{◌≡◌, ℕ, true, List, [], ◌∷◌, ◌++◌, map, reverse, Option, Some, None, refl, ap, sym, subst, ◌∙◌, append_assoc}
use Rattle.std.specs.List.{slice_get}
use Rattle.std.proofs.lemmas.List.{reverse-append}
use Rattle.stx_base.specs.declared.name.Attr.{Attr}
use Rattle.node_stack.specs.Counts.{none}
use Rattle.node_stack.specs.Open.{at_tip, inside, leaf_of, open_in, placed}
use Rattle.node_stack.specs.Path.{Node, Attribute, Document, attribute_at, can_have_children}
use Rattle.node_stack.specs.Stack.{path}
use Rattle.node_stack.specs.declared.open.OpenElement.{OpenElement}
use Rattle.node_stack.specs.declared.node.Leaf.{Leaf}
use Rattle.node_stack.specs.declared.node.Leaf.TheVariants as leaf
use Rattle.node_stack.specs.declared.open.Tip.{Tip}
use Rattle.node_stack.specs.declared.open.Tip.TheVariants as tip
use Rattle.node_stack.specs.declared.stack.NodeStack.{NodeStack}
use Rattle.node_stack.specs.declared.tally.Tally.{Tally}
use Rattle.template_machine.specs.Ways.{IsWay, stood, way_of}

-- a node on others, of which the innermost can have children
abbrev IsOn : List Node → Type 0
IsOn [] = ⊥
IsOn (x ∷ xs) = can_have_children (Some x) ≡ true

is_more : (x : Node) (xs : List Node) → (x ≡ Document → ⊥) → IsOn xs → IsWay xs → IsWay (x ∷ xs)
is_more x [] inner on way = absurd on
is_more x (y ∷ ys) inner on way = (inner, on, way)

leaf_inner : (l : Leaf) → leaf_of l ≡ Document → ⊥
leaf_inner (leaf.Chars text) e = cc
leaf_inner (leaf.CData text) e = cc
leaf_inner (leaf.Comment text) e = cc
leaf_inner (leaf.Pi target text) e = cc

attribute_on : (attrs : List Attr) (index : ℕ) (a : Option Attr) (xs : List Node) → IsOn xs → IsWay xs → IsWay (reverse (map stood (attribute_at attrs index a)) ++ xs)
attribute_on attrs index None xs on way = way
attribute_on attrs index (Some a) xs on way = is_more (Attribute a) xs (λ e. cc) on way

tip_on : (t : Tally) (attrs : List Attr) (top : Option Tip) (xs : List Node) → IsOn xs → IsWay xs → IsWay (reverse (map stood (at_tip t attrs top)) ++ xs)
tip_on t attrs None xs on way = way
tip_on t attrs (Some (tip.Leaf l own)) xs on way = is_more (stood (placed t own (leaf_of l) none)) xs (leaf_inner l) on way
tip_on t attrs (Some (tip.Attribute index)) xs on way = attribute_on attrs index (slice_get attrs index) xs on way

inside_on : (t : Tally) (attrs : List Attr) (es : List OpenElement) (top : Option Tip) (xs : List Node) → IsOn xs → IsWay xs
    → IsWay (reverse (map stood (inside t attrs es top)) ++ xs)
inside_on t attrs [] top xs on way = tip_on t attrs top xs on way
inside_on t attrs (e ∷ es) top xs on way =
    let rest = map stood (inside e.children e.attrs es top) in
    let x = stood (open_in t e) in
    subst IsWay (sym (ap (λ l. l ++ xs) (reverse-append (x ∷ []) rest) ∙ append_assoc (reverse rest) (x ∷ []) xs))
    (inside_on e.children e.attrs es top (x ∷ xs) refl (is_more x xs (λ f. cc) on way))

pub is_way : (s : NodeStack) → IsWay (way_of (path s)).nodes
unfolding path
is_way s =
    let rest = map stood (inside s.document [] s.elements.items s.tip) in
    subst IsWay (sym (reverse-append (Document ∷ []) rest)) (inside_on s.document [] s.elements.items s.tip (Document ∷ []) refl refl)
