-- The nodes of a stack.
use Rattle.std.proofs.Common.{◌≡◌, ℕ, zero, suc, ◌+◌, ◌-◌, ◌<◌, ◌≤◌, Bool, true, false, if◌then◌else◌, IsSome, List, [], ◌∷◌, ◌++◌, Option, Some, None, length, take, slice_get, option_map, option_to_list, is_some, count_by, filter, refl, ap, sym, ◌∙◌, subst, arith}
use Rattle.std.proofs.lemmas.List.{append-nil, length-append}
use Rattle.std.proofs.lemmas.Option.{slice_get-get_or, slice_get_within}
use Rattle.std.proofs.Math.Seq.{take-append_seam, take-length}
use Rattle.stx_base.specs.declared.name.Attr.{Attr}
use Rattle.stx_base.specs.declared.node.NodeTest.{NodeTest}
use Rattle.node_stack.specs.Counts.{capped, none}
use Rattle.node_stack.specs.Open.{at_tip, attributes_in, element_of, has_leaf, in_list, inside, leaf_of, nodes_of, open_in, placed, tally_in, tip_node, tip_told, HasChild}
use Rattle.node_stack.specs.Path.{Node, Document, Attribute, PathNode, attribute_at, attributes, can_end, can_have_children, is_attribute, is_element, told_at, kind_of, last_of, position_at, with_child}
use Rattle.node_stack.specs.Tally.{counts}
use Rattle.node_stack.specs.Test.{Kind, passes}
use Rattle.node_stack.specs.Test as kind
use Rattle.node_stack.specs.declared.node.Leaf.{Leaf}
use Rattle.node_stack.specs.declared.node.Leaf.TheVariants as leaf
use Rattle.node_stack.specs.declared.open.OpenElement.{OpenElement}
use Rattle.node_stack.specs.declared.own.Own.{Own}
use Rattle.node_stack.specs.declared.open.Tip.{Tip}
use Rattle.node_stack.specs.declared.open.Tip.TheVariants as tip
use Rattle.node_stack.specs.declared.tally.Tally.{Tally}
use Rattle.node_stack.proofs.Opening.{inside_push, inside_tip}

-- the last node
abbrev here : List PathNode → Option Node
here ps = option_map (λ x. x.node) (last_of ps)

last_push_at : (x : PathNode) (ps : List PathNode) (p : PathNode) → last_of (p ∷ (ps ++ x ∷ [])) ≡ Some x
last_push_at x [] p = refl
last_push_at x (q ∷ ps) p = last_push_at x ps q

pub left_push : (ps : List PathNode) (x : PathNode) → take (length (ps ++ x ∷ []) - 1) (ps ++ x ∷ []) ≡ ps
left_push ps x =
    let n : length (ps ++ x ∷ []) - 1 ≡ length ps = simp length-append (omega arith) in
    ap (λ k. take k (ps ++ x ∷ [])) n ∙ take-append_seam ps (x ∷ [])

-- all but the last
abbrev front : List PathNode → List PathNode
front ps = take (length ps - 1) ps

pub nodes_tip : (d : Tally) (es : List OpenElement) (top : Option Tip) → nodes_of d es top ≡ nodes_of d es None ++ at_tip (tally_in d es) (attributes_in [] es) top
nodes_tip d es top = ap (λ ps. record { node = Document; earlier = λ t. 0; children = counts d; waited = false } ∷ ps) (inside_tip d [] es top)

pub nodes_push : (d : Tally) (es : List OpenElement) (e : OpenElement) → nodes_of d (es ++ e ∷ []) None ≡ nodes_of d es None ++ open_in (tally_in d es) e ∷ []
nodes_push d es e = ap (λ ps. record { node = Document; earlier = λ t. 0; children = counts d; waited = false } ∷ ps) (inside_push d [] es e)

-- what stands on the innermost element is the current node
here_tip : (d : Tally) (es : List OpenElement) (top : Option Tip) (x : PathNode) → at_tip (tally_in d es) (attributes_in [] es) top ≡ x ∷ [] → here (nodes_of d es top) ≡ Some x.node
here_tip d es top x h = ap here (nodes_tip d es top ∙ ap (λ ps. nodes_of d es None ++ ps) h) ∙ ap (option_map (λ (x : PathNode). x.node)) (last_push_at x (inside d [] es None) _)

no_children_of_leaf : (l : Leaf) → can_have_children (Some (leaf_of l)) ≡ false
no_children_of_leaf (leaf.Chars t) = refl
no_children_of_leaf (leaf.CData t) = refl
no_children_of_leaf (leaf.Comment t) = refl
no_children_of_leaf (leaf.Pi t u) = refl

leaf_is_no_attribute : (l : Leaf) → is_attribute (Some (leaf_of l)) ≡ false
leaf_is_no_attribute (leaf.Chars t) = refl
leaf_is_no_attribute (leaf.CData t) = refl
leaf_is_no_attribute (leaf.Comment t) = refl
leaf_is_no_attribute (leaf.Pi t u) = refl

no_attributes_of_leaf : (l : Leaf) → attributes (Some (leaf_of l)) ≡ []
no_attributes_of_leaf (leaf.Chars t) = refl
no_attributes_of_leaf (leaf.CData t) = refl
no_attributes_of_leaf (leaf.Comment t) = refl
no_attributes_of_leaf (leaf.Pi t u) = refl

-- the current node is an element or the document node where nothing stands on the innermost element
here_open : (p : PathNode) (t : Tally) (attrs : List Attr) (es : List OpenElement) → attributes (Some p.node) ≡ attrs → can_have_children (Some p.node) ≡ true → is_attribute (Some p.node) ≡ false
    → (attributes (here (p ∷ inside t attrs es None)) ≡ attributes_in attrs es) × (can_have_children (here (p ∷ inside t attrs es None)) ≡ true) × (is_attribute (here (p ∷ inside t attrs es None)) ≡ false)
here_open p t attrs [] a b c = (a, b, c)
here_open p t attrs (e ∷ es) a b c = here_open (open_in t e) e.children e.attrs es refl refl refl

pub here_attributes : (d : Tally) (es : List OpenElement) → attributes (here (nodes_of d es None)) ≡ attributes_in [] es
here_attributes d es = (here_open (record { node = Document; earlier = λ t. 0; children = counts d; waited = false }) d [] es refl refl refl).0

here_no_attribute : (d : Tally) (es : List OpenElement) → is_attribute (here (nodes_of d es None)) ≡ false
here_no_attribute d es = (here_open (record { node = Document; earlier = λ t. 0; children = counts d; waited = false }) d [] es refl refl refl).2

-- a test that the current node passes, and no attribute does, shows that no attribute is the current node
no_attribute_at : (q : Option Node → Bool) (d : Tally) (es : List OpenElement) (i : ℕ) → ((a : Attr) → q (Some (Attribute a)) ≡ false)
    → (o : Option Attr) → slice_get (attributes_in [] es) i ≡ o
    → q (here (nodes_of d es (Some (tip.Attribute i)))) ≡ true → nodes_of d es (Some (tip.Attribute i)) ≡ nodes_of d es None
no_attribute_at q d es i a None is h = nodes_tip d es (Some (tip.Attribute i)) ∙ ap (λ o. nodes_of d es None ++ attribute_at (attributes_in [] es) i o) is ∙ append-nil _
no_attribute_at q d es i a (Some x) is h =
    let none = a x in
    let current = ap q (here_tip d es (Some (tip.Attribute i)) _ (ap (attribute_at (attributes_in [] es) i) is)) in
    cc

-- where no leaf passes it either, nothing stands on the innermost element
pub tip_free : (q : Option Node → Bool) (d : Tally) (es : List OpenElement) (top : Option Tip) → ((l : Leaf) → q (Some (leaf_of l)) ≡ false) → ((a : Attr) → q (Some (Attribute a)) ≡ false)
    → q (here (nodes_of d es top)) ≡ true → nodes_of d es top ≡ nodes_of d es None
tip_free q d es None l a h = refl
tip_free q d es (Some (tip.Leaf x own)) l a h =
    let none = l x in
    let current = ap q (here_tip d es (Some (tip.Leaf x own)) _ refl) in
    cc
tip_free q d es (Some (tip.Attribute i)) l a h = no_attribute_at q d es i a (slice_get (attributes_in [] es) i) refl h

pub open_of_children : (d : Tally) (es : List OpenElement) (top : Option Tip) → can_have_children (here (nodes_of d es top)) ≡ true → nodes_of d es top ≡ nodes_of d es None
open_of_children d es top h = tip_free can_have_children d es top no_children_of_leaf (λ a. refl) h

some_attribute : List Attr → Bool
some_attribute [] = false
some_attribute (a ∷ attrs) = true

some_below : (attrs : List Attr) (i : ℕ) → i < length attrs → some_attribute attrs ≡ true
unfolding some_attribute
some_below [] i h = absurd (omega arith)
some_below (a ∷ attrs) i h = refl

pub open_of_attributes : (d : Tally) (es : List OpenElement) (top : Option Tip) (i : ℕ) → i < length (attributes (here (nodes_of d es top))) → nodes_of d es top ≡ nodes_of d es None
unfolding some_attribute
open_of_attributes d es top i h =
    tip_free (λ o. some_attribute (attributes o)) d es top (λ l. ap some_attribute (no_attributes_of_leaf l)) (λ a. refl) (some_below _ i h)

-- an attribute of the innermost element becomes the current node
pub attribute_entered : (d : Tally) (es : List OpenElement) (top : Option Tip) (i : ℕ) → i < length (attributes (here (nodes_of d es top)))
    → nodes_of d es (Some (tip.Attribute i)) ≡ nodes_of d es top ++ attribute_at (attributes (here (nodes_of d es top))) i (slice_get (attributes (here (nodes_of d es top))) i)
attribute_entered d es top i h =
    let same = open_of_attributes d es top i h in
    let attrs : attributes (here (nodes_of d es top)) ≡ attributes_in [] es = ap (λ ps. attributes (here ps)) same ∙ here_attributes d es in
    rw attrs (nodes_tip d es (Some (tip.Attribute i)) ∙ ap (λ ps. ps ++ attribute_at (attributes_in [] es) i (slice_get (attributes_in [] es) i)) (sym same))

attribute_left_at : (d : Tally) (es : List OpenElement) (i : ℕ) (o : Option Attr) → slice_get (attributes_in [] es) i ≡ o → is_attribute (here (nodes_of d es (Some (tip.Attribute i)))) ≡ true
    → nodes_of d es None ≡ take (length (nodes_of d es (Some (tip.Attribute i))) - 1) (nodes_of d es (Some (tip.Attribute i)))
attribute_left_at d es i None is h =
    let same : nodes_of d es (Some (tip.Attribute i)) ≡ nodes_of d es None = nodes_tip d es (Some (tip.Attribute i)) ∙ ap (λ o. nodes_of d es None ++ attribute_at (attributes_in [] es) i o) is ∙ append-nil _ in
    let current = ap (λ ps. is_attribute (here ps)) same in
    let no = here_no_attribute d es in
    cc
attribute_left_at d es i (Some a) is h =
    let same = nodes_tip d es (Some (tip.Attribute i)) ∙ ap (λ o. nodes_of d es None ++ attribute_at (attributes_in [] es) i o) is in
    sym (ap front same ∙ left_push (nodes_of d es None) _)

-- an attribute is left
pub attribute_left : (d : Tally) (es : List OpenElement) (top : Option Tip) → is_attribute (here (nodes_of d es top)) ≡ true → nodes_of d es None ≡ take (length (nodes_of d es top) - 1) (nodes_of d es top)
attribute_left d es None h = let no = here_no_attribute d es in cc
attribute_left d es (Some (tip.Leaf l own)) h =
    let no = leaf_is_no_attribute l in
    let current = ap is_attribute (here_tip d es (Some (tip.Leaf l own)) _ refl) in
    cc
attribute_left d es (Some (tip.Attribute i)) h = attribute_left_at d es i (slice_get (attributes_in [] es) i) refl h

-- a leaf ends
pub leaf_left : (d : Tally) (es : List OpenElement) (top : Option Tip) → has_leaf top ≡ true → nodes_of d es None ≡ take (length (nodes_of d es top) - 1) (nodes_of d es top)
leaf_left d es None h = cc
leaf_left d es (Some (tip.Leaf l own)) h = sym (ap front (nodes_tip d es (Some (tip.Leaf l own))) ∙ left_push (nodes_of d es None) _)
leaf_left d es (Some (tip.Attribute i)) h = cc

-- no element is open where the document node is the current node
ends_inside : (d : Tally) (es : List OpenElement) → can_end (here (nodes_of d es None)) ≡ true → 0 < length es
ends_inside d [] h = cc
ends_inside d (e ∷ es) h = omega arith

can_end_in : (d : Tally) (es : List OpenElement) (top : Option Tip) → has_leaf top ≡ false → can_end (here (nodes_of d es top)) ≡ true → nodes_of d es top ≡ nodes_of d es None
can_end_in d es None l h = refl
can_end_in d es (Some (tip.Leaf x own)) l h = cc
can_end_in d es (Some (tip.Attribute i)) l h = no_attribute_at can_end d es i (λ a. refl) (slice_get (attributes_in [] es) i) refl h

-- an element ends
pub element_left : (d : Tally) (es : List OpenElement) (top : Option Tip) (fs : List OpenElement) (o : Option OpenElement) → has_leaf top ≡ false → can_end (here (nodes_of d es top)) ≡ true
    → es ≡ fs ++ option_to_list o → (0 < length es → IsSome o) → nodes_of d fs None ≡ take (length (nodes_of d es top) - 1) (nodes_of d es top)
element_left d es top fs None l h is some =
    let none : false ≡ true = some (ends_inside d es (subst (λ ps. can_end (here ps) ≡ true) (can_end_in d es top l h) h)) in
    cc
element_left d es top fs (Some e) l h is some =
    sym (ap front (can_end_in d es top l h ∙ ap (λ ys. nodes_of d ys None) is ∙ nodes_push d fs e) ∙ left_push (nodes_of d fs None) _)

-- the leaf that ends
pub leaf_last : (d : Tally) (es : List OpenElement) (l : Leaf) (own : Option Own) → last_of (nodes_of d es (Some (tip.Leaf l own))) ≡ Some (placed (tally_in d es) own (leaf_of l) none)
leaf_last d es l own = ap last_of (nodes_tip d es (Some (tip.Leaf l own))) ∙ last_push_at _ (inside d [] es None) _

-- the element that ends
pub element_last : (d : Tally) (es : List OpenElement) (top : Option Tip) (fs : List OpenElement) (e : OpenElement) → has_leaf top ≡ false → can_end (here (nodes_of d es top)) ≡ true
    → es ≡ fs ++ e ∷ [] → last_of (nodes_of d es top) ≡ Some (open_in (tally_in d fs) e)
element_last d es top fs e l h is = ap last_of (can_end_in d es top l h ∙ ap (λ ys. nodes_of d ys None) is ∙ nodes_push d fs e) ∙ last_push_at _ (inside d [] fs None) _

pub open_there : (d : Tally) (es : List OpenElement) (top : Option Tip) → has_leaf top ≡ false → can_end (here (nodes_of d es top)) ≡ true → 0 < length es
open_there d es top l h = ends_inside d es (subst (λ ps. can_end (here ps) ≡ true) (can_end_in d es top l h) h)

-- how many elements are open
elements_in : (t : Tally) (attrs : List Attr) (es : List OpenElement) → length (filter (λ x. is_element x.node) (inside t attrs es None)) ≡ length es
elements_in t attrs [] = refl
elements_in t attrs (e ∷ es) = ap (λ n. suc n) (elements_in e.children e.attrs es)

pub depth_is : (d : Tally) (es : List OpenElement) (top : Option Tip) → can_have_children (here (nodes_of d es top)) ≡ true → length (filter (λ x. is_element x.node) (nodes_of d es top)) ≡ length es
depth_is d es top h = ap (λ ps. length (filter (λ x. is_element x.node) ps)) (open_of_children d es top h) ∙ elements_in d [] es

len_inside : (t : Tally) (attrs : List Attr) (es : List OpenElement) → length (inside t attrs es None) ≡ length es
len_inside t attrs [] = refl
len_inside t attrs (e ∷ es) = ap (λ n. suc n) (len_inside e.children e.attrs es)

pub len_nodes : (d : Tally) (es : List OpenElement) (top : Option Tip) → length (nodes_of d es top) ≡ suc (length es) + length (at_tip (tally_in d es) (attributes_in [] es) top)
len_nodes d es top = ap length (nodes_tip d es top) ∙ length-append (nodes_of d es None) (at_tip (tally_in d es) (attributes_in [] es) top) ∙ ap (λ n. suc n + length (at_tip (tally_in d es) (attributes_in [] es) top)) (len_inside d [] es)

taken : (n m : ℕ) (b : Bool) → m ≡ n + (if b then 2 else 1) → n ≡ m - (if b then 2 else 1)
taken n m true h = omega arith
taken n m false h = omega arith

level_at : (d : Tally) (es : List OpenElement) (i : ℕ) (o : Option Attr) → slice_get (attributes_in [] es) i ≡ o
    → length es + 0 ≡ length (nodes_of d es (Some (tip.Attribute i))) - (if is_attribute (here (nodes_of d es (Some (tip.Attribute i)))) then 2 else 1)
level_at d es i None is =
    let n = len_nodes d es (Some (tip.Attribute i)) ∙ ap (λ o. suc (length es) + length (attribute_at (attributes_in [] es) i o)) is in
    let same : nodes_of d es (Some (tip.Attribute i)) ≡ nodes_of d es None = nodes_tip d es (Some (tip.Attribute i)) ∙ ap (λ o. nodes_of d es None ++ attribute_at (attributes_in [] es) i o) is ∙ append-nil _ in
    let kind = ap (λ ps. is_attribute (here ps)) same ∙ here_no_attribute d es in
    taken _ _ (is_attribute (here (nodes_of d es (Some (tip.Attribute i))))) (n ∙ let m : suc (length es) + 0 ≡ length es + 0 + 1 = omega arith in m ∙ ap (λ b. length es + 0 + (if b then 2 else 1)) (sym kind))
level_at d es i (Some a) is =
    let n = len_nodes d es (Some (tip.Attribute i)) ∙ ap (λ o. suc (length es) + length (attribute_at (attributes_in [] es) i o)) is in
    let kind = ap is_attribute (here_tip d es (Some (tip.Attribute i)) _ (ap (attribute_at (attributes_in [] es) i) is)) in
    taken _ _ (is_attribute (here (nodes_of d es (Some (tip.Attribute i))))) (n ∙ let m : suc (length es) + 1 ≡ length es + 0 + 2 = omega arith in m ∙ ap (λ b. length es + 0 + (if b then 2 else 1)) (sym kind))

pub level_is : (d : Tally) (es : List OpenElement) (top : Option Tip)
    → length es + (if has_leaf top then 1 else 0) ≡ length (nodes_of d es top) - (if is_attribute (here (nodes_of d es top)) then 2 else 1)
level_is d es None =
    taken _ _ (is_attribute (here (nodes_of d es None))) (len_nodes d es None ∙ let m : suc (length es) + 0 ≡ length es + 0 + 1 = omega arith in m ∙ ap (λ b. length es + 0 + (if b then 2 else 1)) (sym (here_no_attribute d es)))
level_is d es (Some (tip.Leaf l own)) =
    let kind = ap is_attribute (here_tip d es (Some (tip.Leaf l own)) _ refl) ∙ leaf_is_no_attribute l in
    taken _ _ (is_attribute (here (nodes_of d es (Some (tip.Leaf l own))))) (len_nodes d es (Some (tip.Leaf l own)) ∙ let m : suc (length es) + 1 ≡ length es + 1 + 1 = omega arith in m ∙ ap (λ b. length es + 1 + (if b then 2 else 1)) (sym kind))
level_is d es (Some (tip.Attribute i)) = level_at d es i (slice_get (attributes_in [] es) i) refl

-- a leaf becomes the current node
pub leaf_entered : (d : Tally) (es : List OpenElement) (top : Option Tip) (new : Tally) (after : List OpenElement) (l : Leaf) (k : Kind) → can_have_children (here (nodes_of d es top)) ≡ true
    → HasChild d es new after k → kind_of (leaf_of l) ≡ k
    → nodes_of new after (Some (tip.Leaf l None)) ≡ with_child (leaf_of l) (nodes_of d es top)
leaf_entered d es top new after l k h has same =
    nodes_tip new after (Some (tip.Leaf l None)) ∙ has (leaf_of l) same ∙ ap (with_child (leaf_of l)) (sym (open_of_children d es top h))

-- an element becomes the current node
pub element_entered : (d : Tally) (es : List OpenElement) (top : Option Tip) (new : Tally) (after : List OpenElement) (e : OpenElement) (k : Kind) → can_have_children (here (nodes_of d es top)) ≡ true
    → HasChild d es new after k → kind_of (element_of e) ≡ k → counts e.children ≡ none → e.own ≡ None
    → nodes_of new (after ++ e ∷ []) None ≡ with_child (element_of e) (nodes_of d es top)
element_entered d es top new after e k h has same empty fresh =
    nodes_push new after e ∙ ap (λ own. nodes_of new after None ++ placed (tally_in new after) own (element_of e) (counts e.children) ∷ []) fresh
    ∙ ap (λ c. nodes_of new after None ++ in_list (tally_in new after) (element_of e) c ∷ []) empty
    ∙ has (element_of e) same ∙ ap (with_child (element_of e)) (sym (open_of_children d es top h))

-- an open element of the path
inside_get : (t : Tally) (attrs : List Attr) (es : List OpenElement) (top : Option Tip) (k : ℕ) (e : OpenElement) → slice_get es k ≡ Some e
    → slice_get (inside t attrs es top) k ≡ Some (open_in (tally_in t (take k es)) e)
inside_get t attrs [] top k e h = cc
inside_get t attrs (f ∷ fs) top zero e h = let same : f ≡ e = cc in ap (λ x. Some (open_in t x)) same
inside_get t attrs (f ∷ fs) top (suc k) e h = inside_get f.children f.attrs fs top k e h

-- what stands on the innermost element, on the path
inside_get_tip : (t : Tally) (attrs : List Attr) (es : List OpenElement) (top : Option Tip) → slice_get (inside t attrs es top) (length es) ≡ slice_get (at_tip (tally_in t es) (attributes_in attrs es) top) 0
inside_get_tip t attrs [] top = refl
inside_get_tip t attrs (e ∷ es) top = inside_get_tip e.children e.attrs es top

attribute_first : (attrs : List Attr) (i : ℕ) (o : Option Attr) → option_map (λ (x : PathNode). x.node) (slice_get (attribute_at attrs i o) 0) ≡ option_map (λ a. Attribute a) o
attribute_first attrs i None = refl
attribute_first attrs i (Some a) = refl

tip_first : (t : Tally) (attrs : List Attr) (top : Option Tip) → option_map (λ x. x.node) (slice_get (at_tip t attrs top) 0) ≡ tip_node attrs top
tip_first t attrs None = refl
tip_first t attrs (Some (tip.Leaf l own)) = refl
tip_first t attrs (Some (tip.Attribute i)) = attribute_first attrs i (slice_get attrs i)

attribute_len : (attrs : List Attr) (i : ℕ) (o : Option Attr) → length (attribute_at attrs i o) ≤ 1
attribute_len attrs i None = omega arith
attribute_len attrs i (Some a) = omega arith

tip_len : (t : Tally) (attrs : List Attr) (top : Option Tip) → length (at_tip t attrs top) ≤ 1
tip_len t attrs None = omega arith
tip_len t attrs (Some (tip.Leaf l own)) = omega arith
tip_len t attrs (Some (tip.Attribute i)) = attribute_len attrs i (slice_get attrs i)

pub zero_of : (n : ℕ) → (1 ≤ n → ⊥) → n ≡ 0
zero_of zero h = refl
zero_of (suc n) h = absurd (h (omega arith))

-- a place of the path has at most all open elements outside of it
pub outer_within : (d : Tally) (es : List OpenElement) (top : Option Tip) (k : ℕ) → suc k < length (nodes_of d es top) → k ≤ length es
outer_within d es top k h =
    let n = len_nodes d es top in
    let one = tip_len (tally_in d es) (attributes_in [] es) top in
    omega arith

-- a place behind the open elements is that of what stands on the innermost
behind : (d : Tally) (es : List OpenElement) (top : Option Tip) (k : ℕ) → suc k < length (nodes_of d es top) → length es ≤ k → (k ≡ length es) × (0 < length (at_tip (tally_in d es) (attributes_in [] es) top))
behind d es top k h out =
    let n = len_nodes d es top in
    let one = tip_len (tally_in d es) (attributes_in [] es) top in
    (omega arith, omega arith)

pub tip_there : (d : Tally) (es : List OpenElement) (top : Option Tip) (k : ℕ) → suc k < length (nodes_of d es top) → length es ≤ k → 0 < length (at_tip (tally_in d (take k es)) (attributes_in [] es) top)
tip_there d es top k h out =
    let at = behind d es top k h out in
    subst (λ ys. 0 < length (at_tip (tally_in d ys) (attributes_in [] es) top)) (sym (ap (λ n. take n es) at.0 ∙ take-length es)) at.1

pub get_element : (d : Tally) (es : List OpenElement) (top : Option Tip) (k : ℕ) (e : OpenElement) → slice_get es k ≡ Some e
    → slice_get (nodes_of d es top) (suc k) ≡ Some (open_in (tally_in d (take k es)) e)
get_element d es top k e h = inside_get d [] es top k e h

pub get_tip : (d : Tally) (es : List OpenElement) (top : Option Tip) (k : ℕ) → suc k < length (nodes_of d es top) → length es ≤ k
    → slice_get (nodes_of d es top) (suc k) ≡ slice_get (at_tip (tally_in d (take k es)) (attributes_in [] es) top) 0
get_tip d es top k h out =
    let at = behind d es top k h out in
    ap (λ n. slice_get (inside d [] es top) n) at.0 ∙ inside_get_tip d [] es top
    ∙ ap (λ ys. slice_get (at_tip (tally_in d ys) (attributes_in [] es) top) 0) (sym (ap (λ n. take n es) at.0 ∙ take-length es))

pub view_behind : (d : Tally) (es : List OpenElement) (top : Option Tip) (k : ℕ) → suc k < length (nodes_of d es top) → length es ≤ k
    → option_map (λ (x : PathNode). x.node) (slice_get (nodes_of d es top) (suc k)) ≡ tip_node (attributes_in [] es) top
view_behind d es top k h out = ap (option_map (λ (x : PathNode). x.node)) (get_tip d es top k h out) ∙ tip_first (tally_in d (take k es)) (attributes_in [] es) top

-- a node stands at each place
pub some_node : (ps : List PathNode) (k : ℕ) → k < length ps → option_map (λ (x : PathNode). x.node) (slice_get ps k) ≡ None → ⊥
some_node ps k h gone =
    let there = ap (option_map (λ (x : PathNode). x.node)) (slice_get-get_or ps k (record { node = Document; earlier = λ t. 0; children = none; waited = false }) h) in
    cc

index_within_at : (attrs : List Attr) (i : ℕ) (o : Option Attr) → slice_get attrs i ≡ o → 0 < length (attribute_at attrs i o) → i < length attrs
index_within_at attrs i None is h = absurd (omega arith)
index_within_at attrs i (Some a) is h = slice_get_within attrs i a is

pub index_within : (attrs : List Attr) (i : ℕ) → 0 < length (attribute_at attrs i (slice_get attrs i)) → i < length attrs
index_within attrs i h = index_within_at attrs i (slice_get attrs i) refl h

pub attribute_position_is : (t : NodeTest) (attrs : List Attr) (i : ℕ) (o : Option Attr) → 0 < length (attribute_at attrs i o)
    → capped (count_by (λ a. passes t (kind.Attribute a.name)) (take i attrs)) + 1 ≡ position_at t (slice_get (attribute_at attrs i o) 0)
attribute_position_is t attrs i None h = absurd (omega arith)
attribute_position_is t attrs i (Some a) h = refl

pub last_at : (x : PathNode) (xs : List PathNode) → last_of (x ∷ xs) ≡ slice_get (x ∷ xs) (length xs)
last_at x [] = refl
last_at x (y ∷ ys) = last_at y ys

attribute_count : (attrs : List Attr) (i : ℕ) (o : Option Attr) → length (attribute_at attrs i o) ≡ (if is_some (option_map (λ a. Attribute a) o) then 1 else 0)
attribute_count attrs i None = refl
attribute_count attrs i (Some a) = refl

tip_count : (t : Tally) (attrs : List Attr) (top : Option Tip) → length (at_tip t attrs top) ≡ (if is_some (tip_node attrs top) then 1 else 0)
tip_count t attrs None = refl
tip_count t attrs (Some (tip.Leaf l own)) = refl
tip_count t attrs (Some (tip.Attribute i)) = attribute_count attrs i (slice_get attrs i)

-- how many nodes the path has
pub count_nodes : (d : Tally) (es : List OpenElement) (top : Option Tip) → length (nodes_of d es top) ≡ length es + 1 + (if is_some (tip_node (attributes_in [] es) top) then 1 else 0)
count_nodes d es top =
    let n = len_nodes d es top in
    let k = tip_count (tally_in d es) (attributes_in [] es) top in
    omega arith

attribute_told : (t : NodeTest) (attrs : List Attr) (i : ℕ) (o : Option Attr) → told_at t (slice_get (attribute_at attrs i o) 0) ≡ true
attribute_told t attrs i None = refl
attribute_told t attrs i (Some a) = refl

-- what stands on the innermost element has the counts for a test
pub tip_told_is : (t : Tally) (attrs : List Attr) (top : Option Tip) (q : NodeTest) → told_at q (slice_get (at_tip t attrs top) 0) ≡ tip_told top q
tip_told_is t attrs None q = refl
tip_told_is t attrs (Some (tip.Leaf l own)) q = refl
tip_told_is t attrs (Some (tip.Attribute i)) q = attribute_told q attrs i (slice_get attrs i)

leaf_is_no_element : (l : Leaf) → is_element (leaf_of l) ≡ false
leaf_is_no_element (leaf.Chars t) = refl
leaf_is_no_element (leaf.CData t) = refl
leaf_is_no_element (leaf.Comment t) = refl
leaf_is_no_element (leaf.Pi t u) = refl

one_or_none : (b : Bool) (x : PathNode) → b ≡ false → length (if b then x ∷ [] else []) ≡ 0
one_or_none true x h = cc
one_or_none false x h = refl

no_element_attribute : (attrs : List Attr) (i : ℕ) (o : Option Attr) → length (filter (λ x. is_element x.node) (attribute_at attrs i o)) ≡ 0
no_element_attribute attrs i None = refl
no_element_attribute attrs i (Some a) = refl

no_element_at_tip : (t : Tally) (attrs : List Attr) (top : Option Tip) → length (filter (λ x. is_element x.node) (at_tip t attrs top)) ≡ 0
no_element_at_tip t attrs None = refl
no_element_at_tip t attrs (Some (tip.Leaf l own)) = one_or_none (is_element (leaf_of l)) _ (leaf_is_no_element l)
no_element_at_tip t attrs (Some (tip.Attribute i)) = no_element_attribute attrs i (slice_get attrs i)

elements_inside : (t : Tally) (attrs : List Attr) (es : List OpenElement) (top : Option Tip) → length (filter (λ x. is_element x.node) (inside t attrs es top)) ≡ length es
elements_inside t attrs [] top = no_element_at_tip t attrs top
elements_inside t attrs (e ∷ es) top = ap (λ n. suc n) (elements_inside e.children e.attrs es top)

-- how many elements are open, whatever stands on the innermost
pub depth_of : (d : Tally) (es : List OpenElement) (top : Option Tip) → length (filter (λ x. is_element x.node) (nodes_of d es top)) ≡ length es
depth_of d es top = elements_inside d [] es top
