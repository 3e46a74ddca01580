-- The counts of a path and the lists of all nodes.
use Rattle.std.proofs.Common.{◌≡◌, ℕ, ◌+◌, ◌-◌, Bool, true, false, not, ◌&&◌, ◌||◌, cond, if◌then◌else◌, min, List, [], ◌∷◌, ◌++◌, Option, Some, None, length, map, take, count_by, slice_get, option_map, option_to_list, refl, ap, sym, ◌∙◌, arith}
use Rattle.std.proofs.lemmas.List.{append-nil, length-map, map-append, take-map}
use Rattle.std.proofs.lemmas.List.Sums.{sum_by-cons}
use Rattle.std.proofs.lemmas.Option.{slice_get-map}
use Rattle.stx_base.specs.declared.name.Attr.{Attr}
use Rattle.stx_base.specs.declared.node.NodeTest.{NodeTest}
use Rattle.node_stack.specs.Counts.{Counts, capped, counted, counted_all, none}
use Rattle.node_stack.specs.Laws.{CountsPassing}
use Rattle.node_stack.specs.Listed.{Call, aside, Enter, Leave, EnterAttribute, Park, Resume, Listed, ListedNode, Standing, all_done, all_done_listed, counted_listed, counted_node, done, done_listed, last_listed, listed_attribute, listed_current, listed_position, listed_start, passing, resumed_at, start, with_listed_child}
use Rattle.node_stack.specs.Path.{Node, Document, Attribute, PathNode, attribute_at, attributes, current, is_told, kind_of, last_of, parked, position, position_at, told_at, with_child}
use Rattle.node_stack.specs.Test.{Kind, passes}
use Rattle.node_stack.specs.Test as kind

counted_more : (c : Counts) (xs : List Kind) (x : Kind) → counted_all c (xs ++ x ∷ []) ≡ counted x (counted_all c xs)
counted_more c [] x = refl
counted_more c (y ∷ xs) x = counted_more (counted y c) xs x

-- one node more
counted_list : (xs : List Node) (n : Node) → counted_all none (map kind_of (xs ++ n ∷ [])) ≡ counted (kind_of n) (counted_all none (map kind_of xs))
counted_list xs n = ap (counted_all none) (map-append kind_of xs (n ∷ [])) ∙ counted_more none (map kind_of xs) (kind_of n)

-- what a child's list has had before it
child_earlier : CountsPassing → (xs : List Node) (t : NodeTest) → capped (passing t xs) ≡ (counted_all none (map kind_of xs)).passing t
child_earlier law xs t = sym (law (map kind_of xs) t)

child_counted : CountsPassing → (n : Node) (xs : List ListedNode) → map counted_node (with_listed_child n xs) ≡ with_child n (map counted_node xs)
child_counted law n [] = refl
child_counted law n (x ∷ []) = λ i.
    record (counted_node x) { children = counted_list x.children n i }
    ∷ record { node = n; earlier = λ t. child_earlier law x.children t i; children = none; waited = false } ∷ []
child_counted law n (x ∷ y ∷ xs) = ap (λ ps. counted_node x ∷ ps) (child_counted law n (y ∷ xs))

left_counted : (xs : List ListedNode) → map counted_node (take (length xs - 1) xs) ≡ take (length (map counted_node xs) - 1) (map counted_node xs)
left_counted xs = sym (take-map counted_node (length xs - 1) xs) ∙ ap (λ n. take (n - 1) (map counted_node xs)) (sym (length-map xs counted_node))

last_counted : (xs : List ListedNode) → last_of (map counted_node xs) ≡ option_map counted_node (last_listed xs)
last_counted [] = refl
last_counted (x ∷ []) = refl
last_counted (x ∷ y ∷ xs) = last_counted (y ∷ xs)

node_counted : (o : Option ListedNode) → option_map (λ (x : PathNode). x.node) (option_map counted_node o) ≡ option_map (λ (x : ListedNode). x.node) o
node_counted None = refl
node_counted (Some x) = refl

current_counted : (limit : ℕ) (s : Listed) → current (counted_listed limit s).path ≡ listed_current s
current_counted limit s = ap (option_map (λ (x : PathNode). x.node)) (last_counted s.nodes) ∙ node_counted (last_listed s.nodes)

passing_attributes : (t : NodeTest) (attrs : List Attr) → passing t (map (λ b. Attribute b) attrs) ≡ count_by (λ b. passes t (kind.Attribute b.name)) attrs
passing_attributes t [] = refl
passing_attributes t (a ∷ attrs) =
    sum_by-cons (λ x. cond (passes t x) 1 0) (kind.Attribute a.name) (map kind_of (map (λ b. Attribute b) attrs))
    ∙ ap (λ n. cond (passes t (kind.Attribute a.name)) 1 0 + n) (passing_attributes t attrs)
    ∙ sym (sum_by-cons (λ (b : Attr). cond (passes t (kind.Attribute b.name)) 1 0) a attrs)

attribute_counted : (attrs : List Attr) (index : ℕ) (o : Option Attr) → map counted_node (listed_attribute attrs index o) ≡ attribute_at attrs index o
attribute_counted attrs index None = refl
attribute_counted attrs index (Some a) = λ i.
    record { node = Attribute a; earlier = λ t. capped (passing_attributes t (take index attrs) i); children = none; waited = false } ∷ []

parked_at : (waited passed : Bool) (n : ℕ) → (if true && not passed then 0 else n) ≡ (if passed then (if waited && not passed then 0 else n) else 0)
parked_at true true n = refl
parked_at true false n = refl
parked_at false true n = refl
parked_at false false n = refl

parked_counted : (x : ListedNode) → counted_node (aside x) ≡ parked (counted_node x)
parked_counted x = λ i. record (counted_node x) { earlier = λ t. parked_at x.waited (passes t (kind_of x.node)) (capped (passing t x.earlier)) i; waited = true }

aside_counted : (o : Option ListedNode) → map counted_node (option_to_list (option_map aside o)) ≡ option_to_list (option_map parked (option_map counted_node o))
aside_counted None = refl
aside_counted (Some x) = ap (λ y. y ∷ []) (parked_counted x)

resumed_counted : (limit : ℕ) (xs : List ListedNode) (o : Option ListedNode)
    → record { limit = limit; nodes = map counted_node (xs ++ option_to_list o) } ≡ resumed_at (option_map counted_node o) (record { limit = limit; nodes = map counted_node xs })
resumed_counted limit xs None = ap (λ ps. record { limit = limit; nodes = ps }) (ap (map counted_node) (append-nil xs))
resumed_counted limit xs (Some x) = ap (λ ps. record { limit = limit; nodes = ps }) (map-append counted_node xs (x ∷ []))

-- one call
done_counted : CountsPassing → (c : Call) (limit : ℕ) (s : Listed) → done c (counted_listed limit s) ≡ counted_listed limit (done_listed c s)
done_counted law (Enter n) limit s = λ i. record { path = record { limit = limit; nodes = sym (child_counted law n s.nodes) i }; waiting = map counted_node s.waiting }
done_counted law Leave limit s = ap (λ ps. record { path = record { limit = limit; nodes = ps }; waiting = map counted_node s.waiting }) (sym (left_counted s.nodes))
done_counted law (EnterAttribute index) limit s =
    ap (λ o. record { path = record { limit = limit; nodes = map counted_node s.nodes ++ attribute_at (attributes o) index (slice_get (attributes o) index) }; waiting = map counted_node s.waiting }) (current_counted limit s)
    ∙ ap (λ ps. record { path = record { limit = limit; nodes = ps }; waiting = map counted_node s.waiting })
    (ap (λ ps. map counted_node s.nodes ++ ps) (sym (attribute_counted (attributes (listed_current s)) index (slice_get (attributes (listed_current s)) index)))
    ∙ sym (map-append counted_node s.nodes (listed_attribute (attributes (listed_current s)) index (slice_get (attributes (listed_current s)) index))))
done_counted law Park limit s =
    ap (λ ps. record { path = record { limit = limit; nodes = ps }; waiting = option_to_list (option_map parked (last_of (map counted_node s.nodes))) ++ map counted_node s.waiting }) (sym (left_counted s.nodes))
    ∙ ap (λ ps. record { path = record { limit = limit; nodes = map counted_node (take (length s.nodes - 1) s.nodes) }; waiting = ps })
    (ap (λ o. option_to_list (option_map parked o) ++ map counted_node s.waiting) (last_counted s.nodes)
    ∙ ap (λ ps. ps ++ map counted_node s.waiting) (sym (aside_counted (last_listed s.nodes)))
    ∙ sym (map-append counted_node (option_to_list (option_map aside (last_listed s.nodes))) s.waiting))
done_counted law (Resume number) limit s =
    ap (λ o. record { path = resumed_at o (record { limit = limit; nodes = map counted_node s.nodes }); waiting = map counted_node s.waiting }) (slice_get-map counted_node s.waiting number)
    ∙ ap (λ p. record { path = p; waiting = map counted_node s.waiting }) (sym (resumed_counted limit s.nodes (slice_get s.waiting number)))

all_counted : CountsPassing → (calls : List Call) (limit : ℕ) (s : Listed) → all_done calls (counted_listed limit s) ≡ counted_listed limit (all_done_listed calls s)
all_counted law [] limit s = refl
all_counted law (c ∷ cs) limit s = ap (all_done cs) (done_counted law c limit s) ∙ all_counted law cs limit (done_listed c s)

start_counted : (limit : ℕ) → start limit ≡ counted_listed limit listed_start
start_counted limit = λ i. record { path = record { limit = limit; nodes = record { node = Document; earlier = λ t. 0; children = none; waited = false } ∷ [] }; waiting = [] }

pub counts_lists : CountsPassing → (calls : List Call) (limit : ℕ) → all_done calls (start limit) ≡ counted_listed limit (all_done_listed calls listed_start)
counts_lists law calls limit = ap (all_done calls) (start_counted limit) ∙ all_counted law calls limit listed_start

position_told : (waited passed : Bool) (n : ℕ) → (not waited || passed) ≡ true → (if waited && not passed then 0 else capped n) + 1 ≡ min 9223372036854775807 (n + 1)
position_told true true n h = omega arith
position_told true false n h = cc
position_told false b n h = omega arith

position_counted : (o : Option ListedNode) (t : NodeTest) → told_at t (option_map counted_node o) ≡ true → position_at t (option_map counted_node o) ≡ listed_position t o
position_counted None t h = refl
position_counted (Some x) t h = position_told x.waited (passes t (kind_of x.node)) (passing t x.earlier) h

pub tells_positions : CountsPassing → (calls : List Call) (limit place : ℕ) (t : NodeTest)
    → is_told (all_done calls (start limit)).path place t ≡ true
    → position (all_done calls (start limit)).path place t ≡ listed_position t (slice_get (all_done_listed calls listed_start).nodes place)
tells_positions law calls limit place t told =
    let lists = (all_done_listed calls listed_start).nodes in
    let nodes = ap (λ (s : Standing). slice_get s.path.nodes place) (counts_lists law calls limit) ∙ slice_get-map counted_node lists place in
    ap (position_at t) nodes ∙ position_counted (slice_get lists place) t (ap (told_at t) (sym nodes) ∙ told)
