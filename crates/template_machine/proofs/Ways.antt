-- What becomes of a path, without what is counted on it.
use Rattle.std.proofs.Common.{◌≡◌, ℕ, ◌+◌, ◌-◌, ◌≤◌, Bool, true, false, not, ◌||◌, if◌then◌else◌, List, [], ◌∷◌, ◌++◌, length, filter, map, reverse, take, Some, refl, ap, sym, subst, ◌∙◌, arith, length-append}
use Rattle.std.specs.List.{slice_get}
use Rattle.std.specs.Option.{option_map}
use Rattle.std.proofs.lemmas.List.{length-map, length-reverse, reverse-append}
use Rattle.std.proofs.lemmas.List.Elements.{filter-append}
use Rattle.std.proofs.lemmas.List.Sums.{length-filter}
use Rattle.std.proofs.Math.Seq.{take-append_seam}
use Rattle.stx_base.specs.declared.name.Attr.{Attr}
use Rattle.node_stack.specs.Path as paths
use Rattle.node_stack.specs.Path.{Node, Document, Element, Path, PathNode, Attribute, attribute_at, attributes, at_attribute, current, depth, is_attribute, is_element, is_told, last_of, level, node_at, resumed, told_at, with_child, kind_of, can_have_children}
use Rattle.node_stack.specs.Test.{passes}
use Rattle.stx_base.specs.declared.node.NodeTest.{NodeTest}
use Rattle.template_machine.specs.Lists.{rest_of}
use Rattle.template_machine.specs.Ways.{Way, entered, first_in, has_list, here, left, lists_on, number_of, open_on, stood, way_of, IsWay}
use Rattle.std.proofs.lemmas.Bool.{false≢true}

-- the last of a list
abbrev ended : {A : Type 0} → List A → A → List A
ended xs x = xs ++ x ∷ []

reversed : {A : Type 0} (xs : List A) (x : A) → reverse (xs ++ x ∷ []) ≡ x ∷ reverse xs
reversed xs x = reverse-append xs (x ∷ [])

-- a list that isn't empty has a last one
record Ends {A : Type 0} (xs : List A) : Type 0 where
  front : List A
  last : A
  is : xs ≡ front ++ last ∷ []

ends : {A : Type 0} (x : A) (xs : List A) → Ends (x ∷ xs)
ends x [] = record { front = []; last = x; is = refl }
ends x (y ∷ ys) = let e = ends y ys in record { front = x ∷ e.front; last = e.last; is = ap (λ l. x ∷ l) e.is }

map_ended : {A B : Type 0} (f : A → B) (xs : List A) (x : A) → map f (xs ++ x ∷ []) ≡ map f xs ++ f x ∷ []
map_ended f [] x = refl
map_ended f (y ∷ ys) x = ap (λ l. f y ∷ l) (map_ended f ys x)

last_of-ended : (xs : List PathNode) (x : PathNode) → last_of (xs ++ x ∷ []) ≡ Some x
last_of-ended [] x = refl
last_of-ended (y ∷ []) x = refl
last_of-ended (y ∷ z ∷ zs) x = last_of-ended (z ∷ zs) x

-- the nodes of a path from the current one
nodes_ended : (xs : List PathNode) (x : PathNode) → reverse (map stood (xs ++ x ∷ [])) ≡ stood x ∷ reverse (map stood xs)
nodes_ended xs x = ap reverse (map_ended stood xs x) ∙ reversed (map stood xs) (stood x)

child_stood : (n : Node) (x : PathNode) (xs : List PathNode) → map stood (with_child n (x ∷ xs)) ≡ map stood (x ∷ xs) ++ n ∷ []
child_stood n x [] = refl
child_stood n x (y ∷ ys) = ap (λ l. stood x ∷ l) (child_stood n y ys)

at_end : {A : Type 0} (xs : List A) (x : A) → slice_get (xs ++ x ∷ []) (length xs) ≡ Some x
at_end [] x = refl
at_end (y ∷ ys) x = at_end ys x

-- a path with a current node
abbrev pub HasNode : Path → Type 0
HasNode p = (x : PathNode) × ((xs : List PathNode) × (p.nodes ≡ x ∷ xs))

some_node : (limit : ℕ) (xs : List PathNode) (n : Node) → current (record { limit = limit; nodes = xs }) ≡ Some n → HasNode (record { limit = limit; nodes = xs })
some_node limit [] n is = absurd (cc)
some_node limit (x ∷ xs) n is = (x, (xs, refl))

pub has_node : (p : Path) (n : Node) → current p ≡ Some n → HasNode p
has_node p n is = some_node p.limit p.nodes n is

pub way_entered : (n : Node) (p : Path) → HasNode p → way_of (paths.entered n p) ≡ entered n (way_of p)
way_entered n p h =
    let child : map stood (with_child n p.nodes) ≡ map stood p.nodes ++ n ∷ [] =
    subst (λ l. map stood (with_child n l) ≡ map stood l ++ n ∷ []) (sym h.1.1) (child_stood n h.0 h.1.0) in
    ap (λ l. record { limit = p.limit; nodes = l }) (ap reverse child ∙ reversed (map stood p.nodes) n)

left_reversed : (xs : List PathNode) → reverse (map stood (take (length xs - 1) xs)) ≡ rest_of (reverse (map stood xs))
left_reversed [] = refl
left_reversed (x ∷ xs) =
    let e = ends x xs in
    subst (λ l. reverse (map stood (take (length l - 1) l)) ≡ rest_of (reverse (map stood l))) (sym e.is)
    (let short : length (e.front ++ e.last ∷ []) - 1 ≡ length e.front = omega (arith, length-append e.front (e.last ∷ [])) in
    ap (λ n. reverse (map stood (take n (e.front ++ e.last ∷ [])))) short
    ∙ ap (λ l. reverse (map stood l)) (take-append_seam e.front (e.last ∷ []))
    ∙ sym (ap rest_of (nodes_ended e.front e.last)))

pub way_left : (p : Path) → way_of (paths.left p) ≡ left (way_of p)
way_left p = ap (λ l. record { limit = p.limit; nodes = l }) (left_reversed p.nodes)

pub way_resumed : (x : PathNode) (p : Path) → way_of (resumed x p) ≡ entered (stood x) (way_of p)
way_resumed x p = ap (λ l. record { limit = p.limit; nodes = l }) (nodes_ended p.nodes x)

here_of : (xs : List PathNode) → first_in (reverse (map stood xs)) ≡ option_map (λ (x : PathNode). x.node) (last_of xs)
here_of [] = refl
here_of (x ∷ xs) =
    let e = ends x xs in
    subst (λ l. first_in (reverse (map stood l)) ≡ option_map (λ (x : PathNode). x.node) (last_of l)) (sym e.is)
    (ap first_in (nodes_ended e.front e.last)
    ∙ sym (ap (option_map (λ (x : PathNode). x.node)) (last_of-ended e.front e.last)))

-- the current node
pub way_here : (p : Path) → here (way_of p) ≡ current p
way_here p = here_of p.nodes

pub way_long : (p : Path) → length (way_of p).nodes ≡ length p.nodes
way_long p = length-reverse (map stood p.nodes) ∙ length-map p.nodes stood

-- its place
pub way_level : (p : Path) → number_of (way_of p) ≡ level p
way_level p =
    ap (λ n. n - (if is_attribute (here (way_of p)) then 2 else 1)) (way_long p)
    ∙ ap (λ x. length p.nodes - (if is_attribute x then 2 else 1)) (way_here p)

-- an attribute
attribute_stood : (attrs : List Attr) (index : ℕ) (a : Attr) (xs : List PathNode)
    → map stood (xs ++ attribute_at attrs index (Some a)) ≡ map stood xs ++ Attribute a ∷ []
attribute_stood attrs index a [] = refl
attribute_stood attrs index a (x ∷ xs) = ap (λ l. stood x ∷ l) (attribute_stood attrs index a xs)

pub way_attribute : (index : ℕ) (p : Path) (a : Attr) → slice_get (attributes (current p)) index ≡ Some a
    → way_of (at_attribute index p) ≡ entered (Attribute a) (way_of p)
way_attribute index p a is =
    ap (λ o. record { limit = p.limit; nodes = reverse (map stood (p.nodes ++ attribute_at (attributes (current p)) index o)) }) is
    ∙ ap (λ l. record { limit = p.limit; nodes = l })
    (ap reverse (attribute_stood (attributes (current p)) index a p.nodes) ∙ reversed (map stood p.nodes) (Attribute a))

-- how many elements are open
abbrev stands : Node → Bool
stands x = is_element x

abbrev counts : PathNode → Bool
counts x = is_element x.node

one_stands : (x : PathNode) → length (filter stands (stood x ∷ [])) ≡ length (filter counts (x ∷ []))
one_stands x = length-filter stands (stood x ∷ []) ∙ sym (length-filter counts (x ∷ []))

depth_of : (xs : List PathNode) → length (filter stands (reverse (map stood xs))) ≡ length (filter counts xs)
depth_of [] = refl
depth_of (x ∷ xs) =
    let parted = ap (λ l. length (filter stands l)) (reverse-append (stood x ∷ []) (map stood xs)) ∙ ap length (filter-append stands (reverse (map stood xs)) (stood x ∷ [])) in
    let whole = ap length (filter-append counts (x ∷ []) xs) in
    omega (
      arith,
      parted,
      whole,
      length-append (filter stands (reverse (map stood xs))) (filter stands (stood x ∷ [])),
      length-append (filter counts (x ∷ [])) (filter counts xs),
      one_stands x,
      depth_of xs,
    )

pub way_depth : (p : Path) → open_on (way_of p) ≡ depth p
way_depth p = depth_of p.nodes

-- a node more
pub open_more : (x : Node) (w : Way) → open_on (entered x w) ≡ length (filter stands (x ∷ [])) + open_on w
open_more x w = ap length (filter-append stands (x ∷ []) w.nodes) ∙ length-append (filter stands (x ∷ [])) (filter stands w.nodes)

-- a node fewer
pub left_fewer : (w : Way) → open_on (left w) ≤ open_on w
left_fewer w = by_nodes w.limit w.nodes
  where
    by_nodes : (limit : ℕ) (nodes : List Node) → open_on (left (record { limit = limit; nodes = nodes })) ≤ open_on (record { limit = limit; nodes = nodes })
    by_nodes limit [] = omega arith
    by_nodes limit (x ∷ xs) = omega (arith, open_more x (record { limit = limit; nodes = xs }))

-- so of lists

abbrev pub counted_list : Node → ℕ
counted_list x = length (filter has_list (x ∷ []))

pub lists_more : (x : Node) (w : Way) → lists_on (entered x w) ≡ counted_list x + lists_on w
lists_more x w = ap length (filter-append has_list (x ∷ []) w.nodes) ∙ length-append (filter has_list (x ∷ [])) (filter has_list w.nodes)

list_by : (b : Bool) (n : Node) → has_list n ≡ b → b ≡ true → counted_list n ≡ 1
list_by b n is e = ap (λ c. length (if c then n ∷ [] else [])) (is ∙ e)

leaf_by : (b : Bool) (n : Node) → has_list n ≡ b → b ≡ false → counted_list n ≡ 0
leaf_by b n is e = ap (λ c. length (if c then n ∷ [] else [])) (is ∙ e)

pub one_list : (n : Node) → can_have_children (Some n) ≡ true → counted_list n ≡ 1
one_list n e = list_by true n e refl

pub no_list : (n : Node) → can_have_children (Some n) ≡ false → counted_list n ≡ 0
no_list n e = leaf_by false n e refl

pub list_left : (w : Way) → can_have_children (here w) ≡ true → lists_on w ≡ lists_on (left w) + 1
list_left w has = by_nodes w.limit w.nodes has
  where
    by_nodes : (limit : ℕ) (nodes : List Node) → can_have_children (first_in nodes) ≡ true
        → lists_on (record { limit = limit; nodes = nodes }) ≡ lists_on (left (record { limit = limit; nodes = nodes })) + 1
    by_nodes limit [] e = absurd (false≢true e)
    by_nodes limit (x ∷ xs) e = omega (arith, lists_more x (record { limit = limit; nodes = xs }), one_list x e)

pub leaf_left : (w : Way) → can_have_children (here w) ≡ false → lists_on (left w) ≡ lists_on w
leaf_left w none = by_nodes w.limit w.nodes none
  where
    by_nodes : (limit : ℕ) (nodes : List Node) → can_have_children (first_in nodes) ≡ false
        → lists_on (left (record { limit = limit; nodes = nodes })) ≡ lists_on (record { limit = limit; nodes = nodes })
    by_nodes limit [] e = refl
    by_nodes limit (x ∷ xs) e = omega (arith, lists_more x (record { limit = limit; nodes = xs }), no_list x e)

-- the document node's and those of elements
pub lists_alike : (x : Node) → (x ≡ Document → ⊥) → counted_list x ≡ length (filter stands (x ∷ []))
lists_alike Document apart = absurd (apart refl)
lists_alike (Element name attrs decls first) apart = refl
lists_alike x apart = refl

lists_of : (limit : ℕ) (nodes : List Node) → IsWay nodes → lists_on (record { limit = limit; nodes = nodes }) ≡ open_on (record { limit = limit; nodes = nodes }) + 1
lists_of limit [] way = absurd way
lists_of limit (x ∷ []) way = subst (λ y. lists_on (record { limit = limit; nodes = y ∷ [] }) ≡ open_on (record { limit = limit; nodes = y ∷ [] }) + 1) (sym way) refl
lists_of limit (x ∷ y ∷ ys) way =
    let v : Way = record { limit = limit; nodes = y ∷ ys } in
    omega (arith, lists_more x v, open_more x v, lists_alike x way.0, lists_of limit (y ∷ ys) way.2)

pub lists_open : (w : Way) → IsWay w.nodes → lists_on w ≡ open_on w + 1
lists_open w way = lists_of w.limit w.nodes way

-- room for one more
pub entered_room : (x : Node) (w : Way) (n limit : ℕ) → (x ≡ Document → ⊥) → IsWay w.nodes → lists_on (entered x w) ≡ n → n ≤ limit + 1 → open_on (entered x w) ≤ limit
entered_room x w n limit apart way many few = omega (arith, many, few, lists_more x w, open_more x w, lists_alike x apart, lists_open w way)

-- an element is one
element_by : (b : Bool) (n : Node) → is_element n ≡ b → b ≡ true → length (filter stands (n ∷ [])) ≡ 1
element_by b n is e = ap (λ c. length (if c then n ∷ [] else [])) (is ∙ e)

pub one_element : (n : Node) → is_element n ≡ true → length (filter stands (n ∷ [])) ≡ 1
one_element n e = element_by true n e refl

-- the current node is the last one of its path
pub node_last : (p : Path) (n : Node) → current p ≡ Some n → node_at p (length p.nodes - 1) ≡ Some n
node_last p n is =
    let h = has_node p n is in
    let e = ends h.0 h.1.0 in
    let nodes : p.nodes ≡ e.front ++ e.last ∷ [] = h.1.1 ∙ e.is in
    let place : length p.nodes - 1 ≡ length e.front = omega (arith, ap length nodes, length-append e.front (e.last ∷ [])) in
    ap (option_map (λ (x : PathNode). x.node))
    (ap (λ l. slice_get l (length p.nodes - 1)) nodes ∙ ap (slice_get (e.front ++ e.last ∷ [])) place ∙ at_end e.front e.last ∙ sym (last_of-ended e.front e.last) ∙ sym (ap last_of nodes))
    ∙ is

-- positions can be counted by a test that the current node passes
passed : (b : Bool) → (not b || true) ≡ true
passed true = refl
passed false = refl

pub way_told : (p : Path) (n : Node) (t : NodeTest) → current p ≡ Some n → passes t (kind_of n) ≡ true → is_told p (length p.nodes - 1) t ≡ true
way_told p n t is passes_it =
    let h = has_node p n is in
    let e = ends h.0 h.1.0 in
    let nodes : p.nodes ≡ e.front ++ e.last ∷ [] = h.1.1 ∙ e.is in
    let place : length p.nodes - 1 ≡ length e.front = omega (arith, ap length nodes, length-append e.front (e.last ∷ [])) in
    let got : slice_get p.nodes (length p.nodes - 1) ≡ Some e.last =
    ap (λ l. slice_get l (length p.nodes - 1)) nodes ∙ ap (slice_get (e.front ++ e.last ∷ [])) place ∙ at_end e.front e.last in
    let current_is : current p ≡ Some e.last.node = ap (λ l. option_map (λ (x : PathNode). x.node) (last_of l)) nodes ∙ ap (option_map (λ (x : PathNode). x.node)) (last_of-ended e.front e.last) in
    let same : e.last.node ≡ n = cc in
    ap (told_at t) got
    ∙ ap (λ m. not e.last.waited || passes t (kind_of m)) same
    ∙ ap (λ b. not e.last.waited || b) passes_it
    ∙ passed e.last.waited
