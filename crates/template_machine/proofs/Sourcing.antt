-- What becomes of sources.
use Rattle.std.proofs.Common.{◌≡◌, ℕ, ◌+◌, ◌<◌, ◌≤◌, ◌^◌, Bool, true, false, List, [], ◌∷◌, length, filter, Option, Some, None, IsSome, refl, ap, sym, subst, ◌∙◌, arith, ◌-◌}
use Rattle.std.specs.Prelude.{All, if◌then◌else◌}
use Rattle.std.proofs.lemmas.List.Elements.{All-cons, All-head, All-tail}
use Rattle.std.specs.Option.{option_map, option_map_or}
use Rattle.std.proofs.lemmas.Bool.{false≢true}
use Rattle.node_stack.specs.Path as paths
use Rattle.node_stack.specs.Path.{Node, PathNode, Element, current, is_element}
use Rattle.node_stack.specs.Stack.{path, path_node}
use Rattle.node_stack.specs.declared.parked.Parked.{Parked}
use Rattle.template_machine.specs.Lists.{rest_of}
use Rattle.template_machine.specs.Scopes.{Scopes}
use Rattle.template_machine.specs.Sources.{HasScope, around_node, held_node, scopes_on, within_node}
use Rattle.template_machine.specs.Sections.{HoldsSection, IsHeldWell}
use Rattle.template_machine.specs.Standing.{Front, front_of, known_of, room_of, stream_of}
use Rattle.template_machine.specs.Ways.{Way, entered, first_in, here, left, open_on, way_of}
use Rattle.template_machine.specs.Well.{IsSourceWell}
use Rattle.template_machine.specs.declared.source.Ahead.{Ahead}
use Rattle.template_machine.specs.declared.source.Ahead.TheVariants as ahead
use Rattle.template_machine.specs.declared.source.Origin.{Origin}
use Rattle.template_machine.specs.declared.source.Source.{Source}
use Rattle.template_machine.proofs.Ways.{one_element, open_more, way_here, way_left}

-- a head that is held
pub is_held : (o : Option Parked) → IsHeldWell o → IsSome o
is_held None h = absurd h
is_held (Some x) h = refl

pub held_by : (o : Option Parked) (x : PathNode) → option_map path_node o ≡ Some x → HoldsSection x.node → IsHeldWell o
held_by None x e h = absurd (cc)
held_by (Some y) x e h = let same : path_node y ≡ x = cc in subst (λ (n : PathNode). HoldsSection n.node) (sym same) h

held_well : (o k : Option Parked) → option_map path_node k ≡ option_map path_node o → IsHeldWell o → IsHeldWell k
held_well None k e h = absurd h
held_well (Some x) k e h = held_by k (path_node x) e h

pub still_held : (s n : Source) → IsSourceWell s → n.ahead ≡ s.ahead → held_node n ≡ held_node s → n.ahead ≡ ahead.Held → IsHeldWell n.held
still_held s n w same held is = held_well s.held n.held held (w.held (sym same ∙ is))

-- what is known of the front, by what is held
pub front_same : (a : Ahead) (h k : Option Parked) → option_map path_node k ≡ option_map path_node h → front_of a k ≡ front_of a h
front_same ahead.Nothing h k e = refl
front_same ahead.Here h k e = refl
front_same ahead.Ended h k e = refl
front_same ahead.Held None None e = refl
front_same ahead.Held None (Some y) e = absurd (cc)
front_same ahead.Held (Some x) None e = absurd (cc)
front_same ahead.Held (Some x) (Some y) e = let same : path_node y ≡ path_node x = cc in ap (λ (n : PathNode). Front.Waits n.node) same

-- how many elements are open, and bindings for each

abbrev pub counted_node : Node → ℕ
counted_node x = length (filter is_element (x ∷ []))

none_by : (b : Bool) (x : Node) → is_element x ≡ b → b ≡ false → counted_node x ≡ 0
none_by b x is e = ap (λ c. length (if c then x ∷ [] else [])) (is ∙ e)

pub none_counted : (x : Node) → is_element x ≡ false → counted_node x ≡ 0
none_counted x e = none_by false x e refl

pub open_here : (w : Way) (x : Node) → here w ≡ Some x → open_on w ≡ counted_node x + open_on (left w)
open_here w x is = by_nodes w.limit w.nodes is
  where
    by_nodes : (limit : ℕ) (nodes : List Node) → here (record { limit = limit; nodes = nodes }) ≡ Some x
        → open_on (record { limit = limit; nodes = nodes }) ≡ counted_node x + open_on (left (record { limit = limit; nodes = nodes }))
    by_nodes limit [] e = absurd (cc)
    by_nodes limit (y ∷ ys) e =
        let same : y ≡ x = cc in
        subst (λ z. open_on (record { limit = limit; nodes = y ∷ ys }) ≡ counted_node z + open_on (record { limit = limit; nodes = ys })) same
        (open_more y (record { limit = limit; nodes = ys }))

around_within : (x : Node) (scopes : Scopes) → around_node (Some x) (within_node x scopes) ≡ scopes
around_within (Element name attrs decls first) scopes = refl
around_within paths.Document scopes = refl
around_within (paths.Chars text) scopes = refl
around_within (paths.CData text) scopes = refl
around_within (paths.Comment text) scopes = refl
around_within (paths.Pi target text) scopes = refl
around_within (paths.Attribute a) scopes = refl

-- the bindings around the current node
scopes_around : (nodes : List Node) (x : Node) → first_in nodes ≡ Some x → around_node (Some x) (scopes_on nodes) ≡ scopes_on (rest_of nodes)
scopes_around [] x e = absurd (cc)
scopes_around (y ∷ ys) x e =
    let same : x ≡ y = cc in ap (λ z. around_node (Some z) (within_node y (scopes_on ys))) same ∙ around_within y (scopes_on ys)

within_long : (x : Node) (scopes : Scopes) (n : ℕ) → length scopes ≡ n + 1 → length (within_node x scopes) ≡ counted_node x + n + 1
within_long (Element name attrs decls first) scopes n e = omega (arith, e)
within_long x scopes n e = omega (arith, e)

scopes_long : (limit : ℕ) (nodes : List Node) → length (scopes_on nodes) ≡ open_on (record { limit = limit; nodes = nodes }) + 1
scopes_long limit [] = refl
scopes_long limit (x ∷ nodes) =
    let inner : Way = record { limit = limit; nodes = nodes } in
    within_long x (scopes_on nodes) (open_on inner) (scopes_long limit nodes) ∙ ap (λ m. m + 1) (sym (open_more x inner))

-- A source by its way.
pub source_by : (n : Source) (w : Way) → way_of (path n.stack) ≡ w → (n.ahead ≡ ahead.Held → IsHeldWell n.held) → open_on w ≤ w.limit → w.limit + 1 < 2 ^ 32
    → n.begun ≤ w.limit + 1 → n.bindings ≡ scopes_on w.nodes → All HoldsSection w.nodes → IsSourceWell n
source_by n w is held room small counted scopes sections = record {
  held = held;
  room = subst (λ (v : Way). open_on v ≤ v.limit) (sym is) room;
  small = subst (λ (v : Way). v.limit + 1 < 2 ^ 32) (sym is) small;
  counted = subst (λ (v : Way). n.begun ≤ v.limit + 1) (sym is) counted;
  scopes = subst (λ (v : Way). n.bindings ≡ scopes_on v.nodes) (sym is) scopes;
  sections = subst (λ (v : Way). All HoldsSection v.nodes) (sym is) sections;
}

-- the current element has its bindings
in_element : (o : Option Node) (x : Node) → o ≡ Some x → is_element x ≡ true → (w : Way) → here w ≡ o → 1 ≤ open_on w
in_element o x is e w top = let more = open_here w x (top ∙ is) in let one = one_element x e in omega (arith, more, one)

pub has_scope : (s : Source) (x : Node) → IsSourceWell s → current (path s.stack) ≡ Some x → HasScope s
has_scope s x w is e =
    let elem : is_element x ≡ true = sym (ap (λ o. option_map_or is_element o false) is) ∙ e in
    let many = in_element (current (path s.stack)) x is elem (way_of (path s.stack)) (way_here (path s.stack)) in
    omega (arith, many, ap length w.scopes, scopes_long (way_of (path s.stack)).limit (way_of (path s.stack)).nodes)

in_element_by : (o : Option Node) (s : Source) → current (path s.stack) ≡ o → IsSourceWell s → HasScope s
in_element_by None s is w e = absurd (false≢true (sym (ap (λ k. option_map_or is_element k false) is) ∙ e))
in_element_by (Some x) s is w e = has_scope s x w is e

-- each element has its bindings
pub has_scopes : (s : Source) → IsSourceWell s → HasScope s
has_scopes s w = in_element_by (current (path s.stack)) s refl w

-- the nodes around it, and itself
pub behind_first : {A : Type 0} (P : A → Type 0) (xs : List A) → All P xs → All P (rest_of xs)
behind_first P [] all = all
behind_first P (x ∷ xs) all = All-tail P x xs all

pub first_section : (nodes : List Node) (x : Node) → first_in nodes ≡ Some x → All HoldsSection nodes → HoldsSection x
first_section [] x e all = absurd (cc)
first_section (y ∷ ys) x e all = let same : y ≡ x = cc in subst HoldsSection same (All-head HoldsSection y ys all)

-- The current node ends.
pub source_left : (s n : Source) (x : Node) → IsSourceWell s → current (path s.stack) ≡ Some x → path n.stack ≡ paths.left (path s.stack)
    → n.bindings ≡ around_node (current (path s.stack)) s.bindings → (n.ahead ≡ ahead.Held → IsHeldWell n.held) → n.begun ≡ s.begun → IsSourceWell n
source_left s n x w is gone scopes held begun =
    let v = way_of (path s.stack) in
    let way : way_of (path n.stack) ≡ left v = ap way_of gone ∙ way_left (path s.stack) in
    let more = open_here v x (way_here (path s.stack) ∙ is) in
    source_by n (left v) way held (omega (arith, more, w.room)) w.small (subst (λ b. b ≤ v.limit + 1) (sym begun) w.counted)
    (scopes ∙ ap (λ o. around_node o s.bindings) is ∙ ap (around_node (Some x)) w.scopes ∙ scopes_around v.nodes x (way_here (path s.stack) ∙ is))
    (behind_first HoldsSection v.nodes w.sections)

-- A node becomes the current one.
pub source_entered : (s n : Source) (x : Node) → IsSourceWell s → way_of (path n.stack) ≡ entered x (way_of (path s.stack)) → n.bindings ≡ within_node x s.bindings
    → (n.ahead ≡ ahead.Held → IsHeldWell n.held) → open_on (entered x (way_of (path s.stack))) ≤ (way_of (path s.stack)).limit
    → n.begun ≤ (way_of (path s.stack)).limit + 1 → HoldsSection x → IsSourceWell n
source_entered s n x w way scopes held room begun section =
    let v = way_of (path s.stack) in
    source_by n (entered x v) way held room w.small begun
    (scopes ∙ ap (within_node x) w.scopes)
    (All-cons HoldsSection x v.nodes section w.sections)

-- Other things about it change.
pub source_stays : (s n : Source) → IsSourceWell s → path n.stack ≡ path s.stack → n.bindings ≡ s.bindings → (n.ahead ≡ ahead.Held → IsHeldWell n.held)
    → n.begun ≤ (way_of (path s.stack)).limit + 1 → IsSourceWell n
source_stays s n w same scopes held begun =
    source_by n (way_of (path s.stack)) (ap way_of same) held w.room w.small begun (scopes ∙ w.scopes) w.sections

-- its stream, and what is known of its list
pub stream_parts : (s : Source) (o : Origin) (w : Way) → s.origin ≡ o → way_of (path s.stack) ≡ w → stream_of s ≡ record { origin = o; way = w }
stream_parts s o w e f =
    ap (λ x. record { origin = x; way = way_of (path s.stack) }) e ∙ ap (λ x. record { origin = o; way = x }) f

pub known_parts : (n : Source) (a : Ahead) (h : Option Parked) (b : ℕ) → n.ahead ≡ a → held_node n ≡ option_map path_node h → n.begun ≡ b
    → known_of n ≡ record { front = front_of a h; begun = b }
known_parts n a h b same held begun =
    ap (λ x. record { front = front_of x n.held; begun = n.begun }) same
    ∙ ap (λ x. record { front = x; begun = n.begun }) (front_same a h n.held held)
    ∙ ap (λ x. record { front = front_of a h; begun = x }) begun

pub room_same : (s n : Source) → (path n.stack).limit ≡ (path s.stack).limit → n.begun ≡ s.begun → n.next ≡ s.next → room_of n ≡ room_of s
room_same s n limit begun next =
    ap (λ x. record { limit = x; begun = n.begun - 1; next = n.next }) limit
    ∙ ap (λ x. record { limit = (path s.stack).limit; begun = x - 1; next = n.next }) begun
    ∙ ap (λ x. record { limit = (path s.stack).limit; begun = s.begun - 1; next = x }) next
