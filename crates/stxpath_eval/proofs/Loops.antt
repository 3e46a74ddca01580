-- One turn of each loop over expressions, steps and places.
use Rattle.std.proofs.Common.{◌≡◌, ℕ, zero, suc, ◌+◌, ◌<◌, ◌≤◌, Bool, true, false, if◌then◌else◌, List, [], ◌∷◌, ◌++◌, length, get_or, drop, map, Result, Ok, Err, refl, ap, sym, subst, ◌∙◌, append_assoc, arith}
use Rattle.std.proofs.lemmas.List.{append-nil, at_drop_all, at_drop_more}
use Rattle.std.specs.List.{list_any, range_with_len}
use Rattle.stxpath_eval.specs.Setting.{Setting}
use Rattle.stxpath_eval.specs.Steps.{Meaning, Reaching, all_hold, along, ends_at, holds, kept, leads}
use Rattle.stxpath_eval.specs.Value.{in_a_row, reaching, value}
use Rattle.stxpath_eval.proofs.Answers.{stops, stops_at}
use Rattle.stxpath_syntax.specs.declared.expr.Expr.{Expr}
use Rattle.stxpath_syntax.specs.declared.expr.Expr.TheOpen.{PathStep-F}
use Rattle.stxpath_syntax.specs.declared.expr.PathStep.{PathStep}
use Rattle.stxpath_values.specs.Functions.{limited_list}
use Rattle.stxpath_values.specs.Outcome.{and_then, each, IsAnswer}
use Rattle.stxpath_values.specs.declared.fault.EvalFault.{EvalFault}
use Rattle.stxpath_values.specs.declared.fault.EvalStop.{EvalStop}
use Rattle.stxpath_values.specs.declared.value.Item.{Item}

-- the item of a turn, and what is left behind it
pub next_is : {A : Type 0} (xs : List A) (i : ℕ) (x : A) → i < length xs → x ≡ get_or xs i x → drop i xs ≡ x ∷ drop (i + 1) xs
next_is xs i x h at = at_drop_more (λ l. l) xs i x h ∙ ap (λ y. y ∷ drop (i + 1) xs) (sym at)

-- nothing is left
pub none_left : {A : Type 0} (xs : List A) (i : ℕ) → length xs ≤ i → drop i xs ≡ []
none_left xs i h = at_drop_all (λ l. l) xs i h

-- what each of mapped items gives
pub each_map : {A B C : Type 0} (f : B → Result C EvalFault) (h : A → B) (xs : List A) → each f (map h xs) ≡ each (λ x. f (h x)) xs
each_map f h [] = refl
each_map f h (x ∷ xs) = ap (λ r. and_then (f (h x)) (λ y. and_then r (λ ys. Ok (y ∷ ys)))) (each_map f h xs)

-- there are as many values as items
length_behind : {A B : Type 0} (f : A → Result B EvalFault) (xs : List A) (ys : List B) (y : B) (r : Result (List B) EvalFault)
    → ((zs : List B) → r ≡ Ok zs → length zs ≡ length xs) → and_then r (λ zs. Ok (y ∷ zs)) ≡ Ok ys → length ys ≡ suc (length xs)
length_behind f xs ys y (Ok zs) rest is = let same : y ∷ zs ≡ ys = cc in ap length (sym same) ∙ ap (λ n. suc n) (rest zs refl)
length_behind f xs ys y (Err e) rest is = cc

length_of : {A B : Type 0} (f : A → Result B EvalFault) (xs : List A) (ys : List B) (r : Result B EvalFault)
    → ((zs : List B) → each f xs ≡ Ok zs → length zs ≡ length xs) → and_then r (λ y. and_then (each f xs) (λ zs. Ok (y ∷ zs))) ≡ Ok ys → length ys ≡ suc (length xs)
length_of f xs ys (Ok y) rest is = length_behind f xs ys y (each f xs) rest is
length_of f xs ys (Err e) rest is = cc

pub each_length : {A B : Type 0} (f : A → Result B EvalFault) (xs : List A) (ys : List B) → each f xs ≡ Ok ys → length ys ≡ length xs
each_length f [] ys is = let same : [] ≡ ys = cc in ap length (sym same)
each_length f (x ∷ xs) ys is = length_of f xs ys (f x) (λ zs rest. each_length f xs zs rest) is

-- the values so far, and those of the items behind them
abbrev pub with_rest : {A B : Type 0} → (A → Result B EvalFault) → List A → List B → Result (List B) EvalFault
with_rest f xs ys = and_then (each f xs) (λ rest. Ok (ys ++ rest))

one_more : {B : Type 0} (y : B) (ys : List B) (r : Result (List B) EvalFault)
    → and_then (and_then r (λ zs. Ok (y ∷ zs))) (λ rest. Ok (ys ++ rest)) ≡ and_then r (λ rest. Ok ((ys ++ y ∷ []) ++ rest))
one_more y ys (Ok zs) = ap (λ l. Ok l) (sym (append_assoc ys (y ∷ []) zs))
one_more y ys (Err e) = refl

pub and_then_same : {A : Type 0} (r : Result A EvalFault) → and_then r (λ x. Ok x) ≡ r
and_then_same (Ok x) = refl
and_then_same (Err e) = refl

each_step : {A B : Type 0} (f : A → Result B EvalFault) (x : A) (xs : List A) (y : B) (ys : List B) → f x ≡ Ok y → with_rest f (x ∷ xs) ys ≡ with_rest f xs (ys ++ y ∷ [])
each_step f x xs y ys is = rw is (one_more y ys (each f xs))

pub each_more : {A B : Type 0} (f : A → Result B EvalFault) (xs : List A) (i : ℕ) (x : A) (y : B) (ys : List B) → i < length xs → x ≡ get_or xs i x → f x ≡ Ok y
    → with_rest f (drop i xs) ys ≡ with_rest f (drop (i + 1) xs) (ys ++ y ∷ [])
each_more f xs i x y ys h at is = ap (λ l. with_rest f l ys) (next_is xs i x h at) ∙ each_step f x (drop (i + 1) xs) y ys is

pub each_stops : {A B : Type 0} (f : A → Result B EvalFault) (xs : List A) (i : ℕ) (x : A) (ys : List B) (answer : Result (List B) EvalStop) (e : EvalStop)
    → i < length xs → x ≡ get_or xs i x → answer ≡ Err e → IsAnswer {A = B} (Err e) (f x) → IsAnswer answer (with_rest f (drop i xs) ys)
each_stops f xs i x ys answer e h at is fault =
    subst (λ l. IsAnswer answer (with_rest f l ys)) (sym (next_is xs i x h at))
    (stops_at answer e (and_then (f x) (λ y. and_then (each f (drop (i + 1) xs)) (λ zs. Ok (y ∷ zs)))) (λ rest. Ok (ys ++ rest)) is
    (stops e (f x) (λ y. and_then (each f (drop (i + 1) xs)) (λ zs. Ok (y ∷ zs))) fault))

-- an item's value stops the loop
pub stops_in : {B C : Type 0} (answer : Result C EvalStop) (e : EvalStop) (whole : Result C EvalFault) (r : Result B EvalFault) (next : B → Result C EvalFault)
    → answer ≡ Err e → whole ≡ and_then r next → IsAnswer {A = B} (Err e) r → IsAnswer answer whole
stops_in answer e whole r next is at h = subst (λ w. IsAnswer answer w) (sym at) (stops_at answer e r next is h)

abbrev pub joined_on : Setting → (before : List Item) → List Expr → List Item → Result (List Item) EvalFault
joined_on g before xs items = and_then (limited_list g.limits (before ++ items)) (λ all. in_a_row g all (map value xs))

pub joined_at : (g : Setting) (xs : List Expr) (i : ℕ) (x : Expr) (before : List Item) → i < length xs → x ≡ get_or xs i x
    → in_a_row g before (map value (drop i xs)) ≡ and_then (value x g) (joined_on g before (drop (i + 1) xs))
joined_at g xs i x before h at = ap (λ l. in_a_row g before (map value l)) (next_is xs i x h at)

pub joined_here : (g : Setting) (xs : List Expr) (i : ℕ) (x : Expr) (before items : List Item) → i < length xs → x ≡ get_or xs i x → value x g ≡ Ok items
    → in_a_row g before (map value (drop i xs)) ≡ joined_on g before (drop (i + 1) xs) items
joined_here g xs i x before items h at is = joined_at g xs i x before h at ∙ ap (λ r. and_then r (joined_on g before (drop (i + 1) xs))) is

pub joined_more : (g : Setting) (xs : List Expr) (i : ℕ) (x : Expr) (before items all : List Item) → i < length xs → x ≡ get_or xs i x → value x g ≡ Ok items
    → limited_list g.limits (before ++ items) ≡ Ok all → in_a_row g before (map value (drop i xs)) ≡ in_a_row g all (map value (drop (i + 1) xs))
joined_more g xs i x before items all h at is fits =
    joined_here g xs i x before items h at is ∙ ap (λ r. and_then r (λ all. in_a_row g all (map value (drop (i + 1) xs)))) fits

pub along_at : (g : Setting) (xs : List PathStep) (i : ℕ) (x : PathStep) (places : List ℕ) → i < length xs → x ≡ get_or xs i x
    → along (map reaching (drop i xs)) g places ≡ and_then (reaching x g places) (along (map reaching (drop (i + 1) xs)) g)
along_at g xs i x places h at = ap (λ l. along (map reaching l) g places) (next_is xs i x h at)

pub along_more : (g : Setting) (xs : List PathStep) (i : ℕ) (x : PathStep) (places next : List ℕ) → i < length xs → x ≡ get_or xs i x → reaching x g places ≡ Ok next
    → along (map reaching (drop i xs)) g places ≡ along (map reaching (drop (i + 1) xs)) g next
along_more g xs i x places next h at is = along_at g xs i x places h at ∙ ap (λ r. and_then r (along (map reaching (drop (i + 1) xs)) g)) is

abbrev pub turn : Setting → List Expr → Bool → Result Bool EvalFault
turn g xs one = if one then all_hold (map value xs) g else Ok false

pub hold_at : (g : Setting) (xs : List Expr) (i : ℕ) (x : Expr) → i < length xs → x ≡ get_or xs i x
    → all_hold (map value (drop i xs)) g ≡ and_then (holds (value x) g) (turn g (drop (i + 1) xs))
hold_at g xs i x h at = ap (λ l. all_hold (map value l) g) (next_is xs i x h at)

pub hold_more : (g : Setting) (xs : List Expr) (i : ℕ) (x : Expr) (one : Bool) → i < length xs → x ≡ get_or xs i x
    → holds (value x) g ≡ Ok one → all_hold (map value (drop i xs)) g ≡ turn g (drop (i + 1) xs) one
hold_more g xs i x one h at is = hold_at g xs i x h at ∙ ap (λ r. and_then r (turn g (drop (i + 1) xs))) is

-- the places that are kept so far, and those of the n behind
abbrev pub with_kept : (ℕ → Result Bool EvalFault) → List ℕ → (from n : ℕ) → Result (List ℕ) EvalFault
with_kept ask ys from n = and_then (kept ask (range_with_len from n)) (λ rest. Ok (ys ++ rest))

pub kept_first : (ask : ℕ → Result Bool EvalFault) (from n : ℕ) → with_kept ask [] from n ≡ kept ask (range_with_len from n)
kept_first ask from n = and_then_same (kept ask (range_with_len from n))

pub kept_last : (ask : ℕ → Result Bool EvalFault) (ys : List ℕ) (from : ℕ) → with_kept ask ys from 0 ≡ Ok ys
kept_last ask ys from = ap (λ l. Ok l) (append-nil ys)

pub kept_more : (ask : ℕ → Result Bool EvalFault) (ys : List ℕ) (from n : ℕ) (one : Bool) → ask from ≡ Ok one
    → with_kept ask ys from (suc n) ≡ with_kept ask (if one then ys ++ from ∷ [] else ys) (from + 1) n
kept_more ask ys from n true is = rw is (one_more from ys (kept ask (range_with_len (from + 1) n)))
kept_more ask ys from n false is = rw is (ap (λ r. and_then r (λ rest. Ok (ys ++ rest))) (and_then_same (kept ask (range_with_len (from + 1) n))))

-- a place whose question has a fault
pub kept_stops : (ask : ℕ → Result Bool EvalFault) (ys : List ℕ) (from n : ℕ) (answer : Result (List ℕ) EvalStop) (e : EvalStop) → answer ≡ Err e
    → IsAnswer {A = Bool} (Err e) (ask from) → IsAnswer answer (with_kept ask ys from (suc n))
kept_stops ask ys from n answer e is h =
    let next = λ (one : Bool). and_then (kept ask (range_with_len (from + 1) n)) (λ others. Ok (if one then from ∷ others else others)) in
    stops_at answer e (and_then (ask from) next) (λ rest. Ok (ys ++ rest)) is (stops e (ask from) next h)

-- places of which none is kept
pub kept_past : (ask : ℕ → Result Bool EvalFault) (ys : List ℕ) (from k n : ℕ) → ((p : ℕ) → from ≤ p → p < from + k → ask p ≡ Ok false)
    → with_kept ask ys from (n + k) ≡ with_kept ask ys (from + k) n
kept_past ask ys from zero n none =
    ap (λ m. with_kept ask ys from m) (let e : n + 0 ≡ n = omega arith in e) ∙ ap (λ m. with_kept ask ys m n) (let e : from ≡ from + 0 = omega arith in e)
kept_past ask ys from (suc k) n none =
    ap (λ m. with_kept ask ys from m) (let e : n + suc k ≡ suc (n + k) = omega arith in e)
    ∙ kept_more ask ys from (n + k) false (none from (omega arith) (omega arith))
    ∙ kept_past ask ys (from + 1) k n (λ p l u. none p (omega arith) (omega arith))
    ∙ ap (λ m. with_kept ask ys m n) (let e : (from + 1) + k ≡ from + suc k = omega arith in e)

-- where a step leads to no place, it doesn't end
pub not_led : (s : PathStep-F Meaning Reaching) (g : Setting) (places : List ℕ) (place : ℕ) → list_any (λ from. leads s.link from place) places ≡ false → ends_at s g places place ≡ Ok false
not_led s g places place none = rw none refl
