-- Open elements, and what stands on the innermost.
use Rattle.std.proofs.Common.{false, ◌≡◌, ◌+◌, ◌-◌, ◌<◌, List, [], ◌∷◌, ◌++◌, Option, Some, None, length, take, get_or, slice_get, slice_set, refl, ap, sym, ◌∙◌, arith}
use Rattle.std.proofs.lemmas.List.{take_more, length-take-le}
use Rattle.std.proofs.lemmas.Option.{get_or_from_slice_get}
use Rattle.std.proofs.Math.Seq.{set-append_seam, take-length}
use Rattle.stx_base.specs.declared.name.Attr.{Attr}
use Rattle.node_stack.specs.Counts.{counted, none}
use Rattle.node_stack.specs.Open.{at_tip, attributes_in, element_of, in_list, inside, nodes_of, open_in, placed, tally_in, HasChild}
use Rattle.node_stack.specs.Path.{Node, Document, PathNode, kind_of, with_child}
use Rattle.node_stack.specs.Tally.{before, counts}
use Rattle.node_stack.specs.Test.{Kind}
use Rattle.node_stack.specs.declared.open.OpenElement.{OpenElement}
use Rattle.node_stack.specs.declared.open.Tip.{Tip}
use Rattle.node_stack.specs.declared.tally.Tally.{Tally}

-- a list that isn't empty, without its last item and with it
pub snoc : {A : Type 0} (xs : List A) (d : A) → 0 < length xs → xs ≡ take (length xs - 1) xs ++ get_or xs (length xs - 1) d ∷ []
snoc xs d h =
    let all : take (length xs) xs ≡ xs = take-length xs in
    let more : length xs - 1 + 1 ≡ length xs = omega arith in
    sym (ap (λ n. take n xs) more ∙ all) ∙ take_more xs (length xs - 1) d (omega arith)

pub set_last : {A : Type 0} (xs : List A) (w : A) → 0 < length xs → slice_set xs (length xs - 1) w ≡ take (length xs - 1) xs ++ w ∷ []
set_last xs w h =
    let front = take (length xs - 1) xs in
    let len : length front ≡ length xs - 1 = length-take-le (length xs - 1) xs (omega arith) in
    ap (λ ys. slice_set ys (length xs - 1) w) (snoc xs w h) ∙ ap (λ n. slice_set (front ++ get_or xs (length xs - 1) w ∷ []) n w) (sym len) ∙ set-append_seam front _ [] w

pub tally_snoc : (t : Tally) (fs : List OpenElement) (e : OpenElement) → tally_in t (fs ++ e ∷ []) ≡ e.children
tally_snoc t [] e = refl
tally_snoc t (f ∷ fs) e = tally_snoc f.children fs e

pub attributes_snoc : (attrs : List Attr) (fs : List OpenElement) (e : OpenElement) → attributes_in attrs (fs ++ e ∷ []) ≡ e.attrs
attributes_snoc attrs [] e = refl
attributes_snoc attrs (f ∷ fs) e = attributes_snoc f.attrs fs e

-- what stands on the innermost element stands behind the open elements
pub inside_tip : (t : Tally) (attrs : List Attr) (es : List OpenElement) (top : Option Tip) → inside t attrs es top ≡ inside t attrs es None ++ at_tip (tally_in t es) (attributes_in attrs es) top
inside_tip t attrs [] top = refl
inside_tip t attrs (e ∷ es) top = ap (λ ps. open_in t e ∷ ps) (inside_tip e.children e.attrs es top)

-- an element in the innermost stands behind the others
pub inside_push : (t : Tally) (attrs : List Attr) (es : List OpenElement) (e : OpenElement) → inside t attrs (es ++ e ∷ []) None ≡ inside t attrs es None ++ open_in (tally_in t es) e ∷ []
inside_push t attrs [] e = refl
inside_push t attrs (f ∷ fs) e = ap (λ ps. open_in t f ∷ ps) (inside_push f.children f.attrs fs e)

child_behind : (x : Node) (p : PathNode) (t : Tally) (attrs : List Attr) (fs : List OpenElement) (e : OpenElement)
    → with_child x (p ∷ inside t attrs (fs ++ e ∷ []) None) ≡ p ∷ with_child x (inside t attrs (fs ++ e ∷ []) None)
child_behind x p t attrs [] e = refl
child_behind x p t attrs (f ∷ fs) e = refl

abbrev document : Tally → PathNode
document d = record { node = Document; earlier = λ t. 0; children = counts d; waited = false }

-- e with other counters
abbrev with_tally : OpenElement → Tally → OpenElement
with_tally e n = record e { children = n }

child_in : (x : Node) (n : Tally) (e : OpenElement) → counts n ≡ counted (kind_of x) (counts e.children) → before n (kind_of x) ≡ (counts e.children).passing
    → (t : Tally) (attrs : List Attr) (fs : List OpenElement)
    → inside t attrs (fs ++ with_tally e n ∷ []) None ++ in_list n x none ∷ [] ≡ with_child x (inside t attrs (fs ++ e ∷ []) None)
child_in x n e h earlier t attrs [] =
    λ i. placed t e.own (element_of e) (h i) ∷ record { node = x; earlier = earlier i; children = none; waited = false } ∷ []
child_in x n e h earlier t attrs (f ∷ fs) =
    ap (λ ps. open_in t f ∷ ps) (child_in x n e h earlier f.children f.attrs fs) ∙ sym (child_behind x _ f.children f.attrs fs e)

-- a node is counted in the innermost element
pub has_child : (d : Tally) (es : List OpenElement) (e : OpenElement) (n : Tally) (k : Kind) → 0 < length es → e ≡ get_or es (length es - 1) e
    → counts n ≡ counted k (counts e.children) → before n k ≡ (counts e.children).passing
    → HasChild d es d (slice_set es (length es - 1) (with_tally e n)) k
has_child d es e n k h is new earlier = λ x same.
    let fs = take (length es - 1) es in
    let old_is : es ≡ fs ++ e ∷ [] = snoc es e h ∙ ap (λ f. fs ++ f ∷ []) (sym is) in
    let new_nodes = λ (ys : List OpenElement). nodes_of d ys None ++ in_list (tally_in d ys) x none ∷ [] in
    let old_nodes = λ (ys : List OpenElement). with_child x (nodes_of d ys None) in
    let w = with_tally e n in
    ap new_nodes (set_last es w h)
    ∙ ap (λ t. nodes_of d (fs ++ w ∷ []) None ++ in_list t x none ∷ []) (tally_snoc d fs w)
    ∙ ap (λ ps. document d ∷ ps) (child_in x n e (new ∙ ap (λ k. counted k (counts e.children)) (sym same)) (ap (before n) same ∙ earlier) d [] fs)
    ∙ sym (child_behind x (document d) d [] fs e)
    ∙ ap old_nodes (sym old_is)

-- a node is counted in the document
pub has_child_outside : (d n : Tally) (k : Kind) → counts n ≡ counted k (counts d) → before n k ≡ (counts d).passing → HasChild d [] n [] k
has_child_outside d n k new earlier = λ x same i.
    record { node = Document; earlier = λ t. 0; children = (new ∙ ap (λ k. counted k (counts d)) (sym same)) i; waited = false }
    ∷ record { node = x; earlier = (ap (before n) same ∙ earlier) i; children = none; waited = false } ∷ []

same_inside : (e : OpenElement) (n : Tally) → counts n ≡ counts e.children → (t : Tally) (attrs : List Attr) (fs : List OpenElement)
    → inside t attrs (fs ++ with_tally e n ∷ []) None ≡ inside t attrs (fs ++ e ∷ []) None
same_inside e n h t attrs [] = λ i. placed t e.own (element_of e) (h i) ∷ []
same_inside e n h t attrs (f ∷ fs) = ap (λ ps. open_in t f ∷ ps) (same_inside e n h f.children f.attrs fs)

-- with the same counts the nodes are the same
pub same_nodes : (d : Tally) (es : List OpenElement) (e : OpenElement) (n : Tally) → 0 < length es → e ≡ get_or es (length es - 1) e
    → counts n ≡ counts e.children
    → nodes_of d (slice_set es (length es - 1) (with_tally e n)) None ≡ nodes_of d es None
same_nodes d es e n h is same =
    let fs = take (length es - 1) es in
    let old_is : es ≡ fs ++ e ∷ [] = snoc es e h ∙ ap (λ f. fs ++ f ∷ []) (sym is) in
    ap (λ ys. nodes_of d ys None) (set_last es (with_tally e n) h)
    ∙ ap (λ ps. document d ∷ ps) (same_inside e n same d [] fs)
    ∙ ap (λ ys. nodes_of d ys None) (sym old_is)

-- the attributes of the last element
pub last_attributes : (es : List OpenElement) (e : OpenElement) → slice_get es (length es - 1) ≡ Some e → attributes_in [] es ≡ e.attrs
last_attributes [] e h = cc
last_attributes (f ∷ fs) e h =
    let is : f ∷ fs ≡ take (length (f ∷ fs) - 1) (f ∷ fs) ++ get_or (f ∷ fs) (length (f ∷ fs) - 1) e ∷ [] = snoc (f ∷ fs) e (omega arith) in
    ap (attributes_in []) is ∙ attributes_snoc [] (take (length (f ∷ fs) - 1) (f ∷ fs)) (get_or (f ∷ fs) (length (f ∷ fs) - 1) e) ∙ ap (λ (e : OpenElement). e.attrs) (get_or_from_slice_get (f ∷ fs) _ e e h)
