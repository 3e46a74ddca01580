-- Values that instructions hand to parameters, as they wait among the locals.
use Rattle.std.proofs.Common.{◌≡◌, ℕ, suc, ◌+◌, ◌-◌, List, [], ◌∷◌, ◌++◌, length, map, take, Result, Ok, Err, All, refl, ap, sym, ◌∙◌, arith, append-nil, append_assoc, length-append}
use Rattle.std.proofs.Math.Seq.{take-append_seam}
use Rattle.std.proofs.lemmas.List.Elements.{All-head, All-tail}
use Rattle.stx_base.specs.declared.fault.Place.{Place}
use Rattle.frame_stack.specs.declared.locals.Local.{Local}
use Rattle.sheet_model.specs.declared.instr.WithParam.{WithParam}
use Rattle.stxpath_values.specs.Outcome.{and_then, each}
use Rattle.stxpath_values.specs.declared.fault.EvalFault.{EvalFault}
use Rattle.var_store.specs.Variables.{bound}
use Rattle.var_store.specs.declared.bound.Bound.{Bound}
use Rattle.template_machine.specs.Declaring.{hands}
use Rattle.template_machine.specs.Job.{Does, Given, Here, Self}
use Rattle.template_machine.specs.Saying.{Gave, SeesAs, sight}
use Rattle.template_machine.specs.Seen.{named_of}
use Rattle.template_machine.specs.Shifting.{handed_value}
use Rattle.template_machine.specs.Still.{handed_bounds}
use Rattle.template_machine.specs.Values.{got, setting}
use Rattle.template_machine.specs.declared.program.Program.{Program}
use Rattle.template_machine.specs.declared.run.Run.{Run}
use Rattle.template_machine.specs.declared.stop.Stop.{Stop}
use Rattle.template_machine.specs.declared.stop.Stop.TheVariants as stop
use Rattle.template_machine.specs.Parameters.{named_values}
use Rattle.template_machine.proofs.Aside.{named_more, none_named}
use Rattle.template_machine.proofs.Itemized.{atoms_seen}

-- Values one after another.

-- those so far, and those of the items behind them
abbrev pub with_rest : {A B : Type 0} → (A → Result B EvalFault) → List A → List B → Result (List B) EvalFault
with_rest f xs ys = and_then (each f xs) (λ rest. Ok (ys ++ rest))

pub all_so_far : {B : Type 0} (r : Result (List B) EvalFault) → and_then r (λ rest. Ok ([] ++ rest)) ≡ r
all_so_far (Ok rest) = refl
all_so_far (Err e) = refl

one_more : {B : Type 0} (y : B) (ys : List B) (r : Result (List B) EvalFault)
    → and_then (and_then r (λ zs. Ok (y ∷ zs))) (λ rest. Ok (ys ++ rest)) ≡ and_then r (λ rest. Ok ((ys ++ y ∷ []) ++ rest))
one_more y ys (Ok zs) = ap (λ l. Ok l) (sym (append_assoc ys (y ∷ []) zs))
one_more y ys (Err e) = refl

pub each_more : {A B : Type 0} (f : A → Result B EvalFault) (x : A) (rest : List A) (y : B) (ys : List B) → f x ≡ Ok y → with_rest f (x ∷ rest) ys ≡ with_rest f rest (ys ++ y ∷ [])
each_more f x rest y ys is =
    ap (λ r. and_then (and_then r (λ z. and_then (each f rest) (λ zs. Ok (z ∷ zs)))) (λ more. Ok (ys ++ more))) is ∙ one_more y ys (each f rest)

-- there are as many as items
one_longer : {B : Type 0} (y : B) (r : Result (List B) EvalFault) (zs : List B) → and_then r (λ ys. Ok (y ∷ ys)) ≡ Ok zs → (ys : List B) × ((r ≡ Ok ys) × (zs ≡ y ∷ ys))
one_longer y (Ok ys) zs is = (ys, (refl, let same : y ∷ ys ≡ zs = cc in sym same))
one_longer y (Err e) zs is = absurd (cc)

one_more_item : {A B : Type 0} (x : A) (xs : List A) (rest : Result (List B) EvalFault) (r : Result B EvalFault) (zs : List B) → ((ys : List B) → rest ≡ Ok ys → length ys ≡ length xs)
    → and_then r (λ y. and_then rest (λ ys. Ok (y ∷ ys))) ≡ Ok zs → length zs ≡ length (x ∷ xs)
one_more_item x xs rest (Ok y) zs as_long is = let t = one_longer y rest zs is in ap length t.1.1 ∙ ap suc (as_long t.0 t.1.0)
one_more_item x xs rest (Err e) zs as_long is = absurd (cc)

pub each_length : {A B : Type 0} (f : A → Result B EvalFault) (xs : List A) (zs : List B) → each f xs ≡ Ok zs → length zs ≡ length xs
each_length f [] zs is = let same : [] ≡ zs = cc in ap length (sym same)
each_length f (x ∷ xs) zs is = one_more_item x xs (each f xs) (f x) zs (λ ys e. each_length f xs ys e) is

-- the first of them that isn't given stops
pub stops_each : {A B : Type 0} (f : A → Result B EvalFault) (at : Place) (e : Stop) (all rest : List A) (x : A) (before : List B) → each f all ≡ with_rest f (x ∷ rest) before
    → Gave {A = B} at (Err e) (f x) → Gave {A = List B} at (Err e) (each f all)
stops_each f at (stop.Fault fault) all rest x before is gave =
    (gave.0, (is ∙ ap (λ r. and_then (and_then r (λ y. and_then (each f rest) (λ ys. Ok (y ∷ ys)))) (λ more. Ok (before ++ more))) gave.1.0, gave.1.1))
stops_each f at (stop.Spent place) all rest x before is gave = absurd gave
stops_each f at stop.Memory all rest x before is gave = tt

got_then : {A B : Type 0} (at : Place) (r : Result A EvalFault) (f : A → Result B EvalFault) (go : B → Does) → got at (and_then r f) go ≡ got at r (λ x. got at (f x) go)
got_then at (Ok x) f go = refl
got_then at (Err e) f go = refl

got_alike : {A : Type 0} (at : Place) (r : Result A EvalFault) (f g : A → Does) → ((x : A) → f x ≡ g x) → got at r f ≡ got at r g
got_alike at (Ok x) f g same = same x
got_alike at (Err e) f g same = refl

-- handing over is giving each value, and then going on with all of them
pub hands_each : (given : Given) (at : Place) (ps : List WithParam) (self : Self) (a : Here) (go : List Bound → Does)
    → hands given at ps self a go ≡ got at (each (handed_value (setting given self a)) ps) (λ vs. go (named_values ps vs))
hands_each given at [] self a go = refl
hands_each given at (p ∷ ps) self a go =
    let f = handed_value (setting given self a) in
    got_alike at (f p) (λ value. hands given at ps self a (λ bounds. go (bound p.name value ∷ bounds))) (λ value. got at (and_then (each f ps) (λ ys. Ok (value ∷ ys))) (λ vs. go (named_values (p ∷ ps) vs)))
    (λ value. hands_each given at ps self a (λ bounds. go (bound p.name value ∷ bounds)) ∙ sym (got_then at (each f ps) (λ ys. Ok (value ∷ ys)) (λ vs. go (named_values (p ∷ ps) vs))))
    ∙ sym (got_then at (f p) (λ value. and_then (each f ps) (λ ys. Ok (value ∷ ys))) (λ vs. go (named_values (p ∷ ps) vs)))

-- they are the same by the run's own path
pub handed_seen : (given : Given) (p : Program) (r : Run) (self : Self) (a : Here) (ps : List WithParam) → SeesAs given p r self a
    → each (handed_value (setting given self a)) ps ≡ each (handed_value (sight p r)) ps
handed_seen given p r self a [] sees = refl
handed_seen given p r self a (w ∷ ps) sees =
    ap (λ r. and_then r (λ y. and_then (each (handed_value (setting given self a)) ps) (λ ys. Ok (y ∷ ys)))) (atoms_seen given p r self a w.select sees)
    ∙ ap (λ s. and_then (handed_value (sight p r) w) (λ y. and_then s (λ ys. Ok (y ∷ ys)))) (handed_seen given p r self a ps sees)

-- Locals that wait.

pub none_named_of : (waiting : List Local) → All (λ (x : Local). x.name.local ≡ []) waiting → named_of waiting ≡ []
none_named_of [] none = refl
none_named_of (x ∷ waiting) none =
    named_more (x ∷ []) waiting ∙ ap (λ l. l ++ named_of waiting) (none_named x (All-head (λ (y : Local). y.name.local ≡ []) x waiting none))
    ∙ none_named_of waiting (All-tail (λ (y : Local). y.name.local ≡ []) x waiting none)

pub own_named : (own waiting : List Local) → All (λ (x : Local). x.name.local ≡ []) waiting → named_of (own ++ waiting) ≡ named_of own
own_named own waiting none = named_more own waiting ∙ ap (λ l. named_of own ++ l) (none_named_of waiting none) ∙ append-nil (named_of own)

-- the values that wait are those with their names
pub waiting_bounds : (given : Given) (p : Program) (ps : List WithParam) (waiting : List Local) → handed_bounds given p ps waiting ≡ named_values ps (map (λ (x : Local). x.value) waiting)
waiting_bounds given p [] waiting = refl
waiting_bounds given p (w ∷ ps) [] = refl
waiting_bounds given p (w ∷ ps) (x ∷ waiting) = ap (λ l. bound w.name x.value ∷ l) (waiting_bounds given p ps waiting)

-- and taken off they leave the others
pub taken_back : (own waiting : List Local) (n : ℕ) → n + length waiting ≡ length (own ++ waiting) → take n (own ++ waiting) ≡ own
taken_back own waiting n e =
    let same : n ≡ length own = omega (arith, e, length-append own waiting) in ap (λ k. take k (own ++ waiting)) same ∙ take-append_seam own waiting
