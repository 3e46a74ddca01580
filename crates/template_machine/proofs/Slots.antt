-- The nodes of bodies that wait for siblings, the innermost last.
use Rattle.std.proofs.Common.{◌≡◌, ◌≢◌, ◌-◌, ◌<◌, true, false, List, [], ◌∷◌, ◌++◌, length, map, reverse, Option, Some, None, IsSome, refl, ap, sym, ◌∙◌, arith}
use Rattle.std.specs.Prelude.{Result, Ok, Err, IfOk}
use Rattle.std.specs.List.{slice_get, slice_set}
use Rattle.std.specs.Option.{option_map}
use Rattle.std.proofs.lemmas.Bool.{false≢true}
use Rattle.std.proofs.lemmas.List.{length-append, reverse-append}
use Rattle.node_stack.specs.Path.{Node, PathNode, parked}
use Rattle.node_stack.specs.Stack.{path_node}
use Rattle.node_stack.specs.declared.parked.Parked.{Parked}
use Rattle.template_machine.specs.Closing.{is_slot}
use Rattle.template_machine.specs.Lists.{rest_of}
use Rattle.template_machine.specs.Ways.{first_in}

-- as a run stands on them
abbrev pub slot_of : Option Parked → Option Node
slot_of o = option_map (λ p. (path_node p).node) o

abbrev pub aside_of : List (Option Parked) → List (Option Node)
aside_of xs = map (option_map (λ p. (path_node p).node)) (reverse xs)

pub slot_there : (xs : List (Option Parked)) (o : Option Node) → first_in (aside_of xs) ≡ Some o → 0 < length xs
slot_there [] o e = absurd (cc)
slot_there (x ∷ xs) o e = omega arith

-- all but the last, and the last
in_two : (xs : List (Option Parked)) → 0 < length xs → (init : List (Option Parked)) × ((last : Option Parked) × (xs ≡ init ++ last ∷ []))
in_two [] h = absurd (omega (arith, h))
in_two (x ∷ []) h = ([], (x, refl))
in_two (x ∷ y ∷ ys) h = let t = in_two (y ∷ ys) (omega arith) in (x ∷ t.0, (t.1.0, ap (λ l. x ∷ l) t.1.1))

last_aside : (init : List (Option Parked)) (last : Option Parked) → aside_of (init ++ last ∷ []) ≡ slot_of last ∷ aside_of init
last_aside init last = ap (map (option_map (λ p. (path_node p).node))) (reverse-append init (last ∷ []))

set_last : (init : List (Option Parked)) (x z : Option Parked) → slice_set (init ++ x ∷ []) (length init) z ≡ init ++ z ∷ []
set_last [] x z = refl
set_last (y ∷ ys) x z = ap (λ l. y ∷ l) (set_last ys x z)

get_last : (init : List (Option Parked)) (x : Option Parked) → slice_get (init ++ x ∷ []) (length init) ≡ Some x
get_last [] x = refl
get_last (y ∷ ys) x = get_last ys x

last_place : (xs init : List (Option Parked)) (x : Option Parked) → xs ≡ init ++ x ∷ [] → length xs - 1 ≡ length init
last_place xs init x is = omega (arith, ap length is, length-append init (x ∷ []))

-- the last has a node from here on
pub slot_filled : (xs ys : List (Option Parked)) (q : Parked) → 0 < length xs → ys ≡ slice_set xs (length xs - 1) (Some q)
    → aside_of ys ≡ Some (path_node q).node ∷ rest_of (aside_of xs)
slot_filled xs ys q more is =
    let t = in_two xs more in
    let init = t.0 in
    ap aside_of is
    ∙ ap (λ n. aside_of (slice_set xs n (Some q))) (last_place xs init t.1.0 t.1.1)
    ∙ ap (λ l. aside_of (slice_set l (length init) (Some q))) t.1.1
    ∙ ap aside_of (set_last init t.1.0 (Some q))
    ∙ last_aside init (Some q)
    ∙ sym
    (ap (λ l. Some (path_node q).node ∷ rest_of (aside_of l)) t.1.1 ∙ ap (λ l. Some (path_node q).node ∷ rest_of l) (last_aside init t.1.0))

-- what the last one is
last_first : (xs init : List (Option Parked)) (x : Option Parked) → xs ≡ init ++ x ∷ [] → first_in (aside_of xs) ≡ Some (slot_of x)
last_first xs init x is = ap (λ l. first_in (aside_of l)) is ∙ ap first_in (last_aside init x)

pub slot_last : (xs : List (Option Parked)) (o : Option Parked) → slice_get xs (length xs - 1) ≡ Some o → first_in (aside_of xs) ≡ Some (slot_of o)
slot_last [] o e = absurd (cc)
slot_last (x ∷ xs) o e =
    let t = in_two (x ∷ xs) (omega arith) in
    let got : slice_get (x ∷ xs) (length (x ∷ xs) - 1) ≡ Some t.1.0 =
    ap (slice_get (x ∷ xs)) (last_place (x ∷ xs) t.0 t.1.0 t.1.1) ∙ ap (λ l. slice_get l (length t.0)) t.1.1 ∙ get_last t.0 t.1.0 in
    last_first (x ∷ xs) t.0 t.1.0 t.1.1 ∙ ap (λ y. Some (slot_of y)) (one (sym got ∙ e))
  where
    one : {a b : Option Parked} → Some a ≡ Some b → a ≡ b
    one h = cc

pub no_slot : (xs : List (Option Parked)) → slice_get xs (length xs - 1) ≡ None → first_in (aside_of xs) ≡ None
no_slot [] e = refl
no_slot (x ∷ xs) e =
    let t = in_two (x ∷ xs) (omega arith) in
    let got : slice_get (x ∷ xs) (length (x ∷ xs) - 1) ≡ Some t.1.0 =
    ap (slice_get (x ∷ xs)) (last_place (x ∷ xs) t.0 t.1.0 t.1.1) ∙ ap (λ l. slice_get l (length t.0)) t.1.1 ∙ get_last t.0 t.1.0 in
    absurd (cc)

-- the last is taken off
pub popped : (xs ys : List (Option Parked)) (x : Option Parked) → xs ≡ ys ++ x ∷ [] → aside_of xs ≡ slot_of x ∷ aside_of ys
popped xs ys x is = ap aside_of is ∙ last_aside ys x

pub some_slot : (x : Option Parked) (n : Node) → slot_of x ≡ Some n → IsSome x
some_slot None n e = absurd (cc)
some_slot (Some q) n e = refl

-- where a slot is open
pub slot_open : (o : Option (Option Node)) → is_slot o ≡ true → o ≡ Some None
slot_open None e = absurd (false≢true e)
slot_open (Some None) e = refl
slot_open (Some (Some x)) e = absurd (false≢true e)

pub slot_shut : (o : Option (Option Node)) → is_slot o ≡ false → o ≢ Some None
slot_shut None e is = cc
slot_shut (Some None) e is = absurd (false≢true (sym e))
slot_shut (Some (Some x)) e is = cc

pub two_slots : (a b : Node) (xs ys : List (Option Node)) → Some a ∷ xs ≡ Some b ∷ ys → (a ≡ b) × (xs ≡ ys)
two_slots a b xs ys e =
    let first : a ≡ b = cc in
    let others : xs ≡ ys = cc in
    (first, others)

pub last_some : (x : Option Parked) (n : Node) (xs ys : List (Option Node)) → slot_of x ∷ xs ≡ Some n ∷ ys → IsSome x
last_some None n xs ys e = absurd (cc)
last_some (Some q) n xs ys e = refl

-- a node that waits is one of the path
pub waiting_from : (o : Option PathNode) (y : PathNode) → option_map parked o ≡ Some y → (x : PathNode) × ((o ≡ Some x) × (parked x ≡ y))
waiting_from None y e = absurd (cc)
waiting_from (Some x) y e = let same : parked x ≡ y = cc in (x, (refl, same))

pub some_last : (o : Option PathNode) → IsSome (option_map (λ (y : PathNode). y.node) o) → (x : PathNode) × (o ≡ Some x)
some_last None h = absurd (false≢true h)
some_last (Some x) h = (x, refl)

-- what holds of every value holds of that of a call
pub all_ok : {A E : Type 0} (r : Result A E) (P : A → Type 0) → ((x : A) → P x) → IfOk r P
all_ok (Ok x) P h = h x
all_ok (Err e) P h = tt
