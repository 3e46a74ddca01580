-- Texts in a row, one more at a time.
use Rattle.std.proofs.Common.{◌≡◌, ◌<◌, ◌≤◌, ℕ, suc, ◌+◌, List, [], ◌∷◌, ◌++◌, Result, Ok, Err, length, get_or, drop, refl, sym, ap, ◌∙◌, arith, add-one, append_assoc, drop-cons}
use Rattle.stx_base.specs.declared.limits.Limits.{Limits}
use Rattle.stxpath_values.specs.Functions.{limited_text}
use Rattle.stxpath_values.specs.Outcome.{and_then, each, IsAnswer}
use Rattle.stxpath_values.specs.Words.{joined}
use Rattle.stxpath_values.specs.declared.fault.EvalFault.{EvalFault}
use Rattle.stxpath_values.specs.declared.fault.EvalStop.{EvalStop}
use Rattle.stxpath_values.specs.declared.fault.EvalStop.TheVariants as stop
use Rattle.template_machine.specs.Values.{as_one}

abbrev Text : Type 0
Text = List ℕ

-- a text, and then these behind it
pub joined-cons : (t : Text) (ts : List Text) → joined [] (t ∷ ts) ≡ t ++ joined [] ts
joined-cons t [] = refl
joined-cons t (u ∷ ts) = refl

-- the text of the next part stands behind those so far
pub more_in_row : (next : Result Text EvalFault) (rest : Result (List Text) EvalFault) (whole longer : Text)
    → and_then next (λ t. Ok (whole ++ t)) ≡ Ok longer
    → and_then (and_then next (λ t. and_then rest (λ ts. Ok (t ∷ ts)))) (λ ts. Ok (whole ++ joined [] ts)) ≡ and_then rest (λ ts. Ok (longer ++ joined [] ts))
more_in_row (Ok t) (Ok ts) whole longer e =
    let same : whole ++ t ≡ longer = cc in
    ap (λ s. Ok (whole ++ s)) (joined-cons t ts) ∙ ap (λ s. Ok s) (sym (append_assoc whole t (joined [] ts))) ∙ ap (λ s. Ok (s ++ joined [] ts)) same
more_in_row (Ok t) (Err f) whole longer e = refl
more_in_row (Err f) rest whole longer e = cc

-- a part that has no text stops all
pub stops_in_row : (e : EvalStop) (next : Result Text EvalFault) (rest : Result (List Text) EvalFault) (whole : Text)
    → IsAnswer {A = Text} (Err e) (and_then next (λ t. Ok (whole ++ t)))
    → IsAnswer {A = Text} (Err e) (and_then (and_then next (λ t. and_then rest (λ ts. Ok (t ∷ ts)))) (λ ts. Ok (whole ++ joined [] ts)))
stops_in_row (stop.Fault f) (Ok t) rest whole h = cc
stops_in_row (stop.Fault f) (Err g) rest whole h = let same : g ≡ f = cc in ap (λ x. Err x) same
stops_in_row stop.Memory next rest whole h = tt

-- those that are left, one after another
pub dropped_is : {A : Type 0} (xs : List A) (i : ℕ) (x : A) → i < length xs → x ≡ get_or xs i x → drop i xs ≡ x ∷ drop (i + 1) xs
dropped_is xs i x l is =
    drop-cons xs i x l ∙ ap (λ y. y ∷ drop (suc i) xs) (sym is) ∙ ap (λ n. x ∷ drop n xs) (sym (add-one i))

two_texts : (limits : Limits) (r s : Result Text EvalFault) (t : Result (List Text) EvalFault)
    → and_then (and_then r (λ a. and_then (and_then s (λ b. and_then t (λ cs. Ok (b ∷ cs)))) (λ bs. Ok (a ∷ bs)))) (λ texts. limited_text limits (joined [] texts))
    ≡ and_then (and_then r (λ a. and_then (and_then s (λ b. and_then t (λ cs. Ok (b ∷ cs)))) (λ bs. Ok (a ∷ bs)))) (as_one limits [])
two_texts limits (Ok a) (Ok b) (Ok cs) = refl
two_texts limits (Ok a) (Ok b) (Err f) = refl
two_texts limits (Ok a) (Err f) t = refl
two_texts limits (Err f) s t = refl

-- several texts are measured
pub many_texts : {A : Type 0} (limits : Limits) (f : A → Result Text EvalFault) (xs : List A) → 2 ≤ length xs
    → and_then (each f xs) (λ texts. limited_text limits (joined [] texts)) ≡ and_then (each f xs) (as_one limits [])
many_texts limits f [] l = absurd (omega arith)
many_texts limits f (x ∷ []) l = absurd (omega arith)
many_texts limits f (x ∷ y ∷ xs) l = two_texts limits (f x) (f y) (each f xs)
