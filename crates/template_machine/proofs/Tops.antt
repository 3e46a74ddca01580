-- The top frame.
use Rattle.std.proofs.Common.{◌≡◌, ℕ, ◌+◌, ◌-◌, ◌<◌, true, List, [], ◌∷◌, ◌++◌, length, reverse, Option, Some, None, IsSome, refl, ap, sym, ◌∙◌, arith, length-append}
use Rattle.std.specs.List.{slice_get, slice_set}
use Rattle.std.specs.Option.{option_map_or}
use Rattle.std.proofs.lemmas.Bool.{false≢true}
use Rattle.std.proofs.lemmas.List.{reverse-append, reverse-reverse}
use Rattle.frame_stack.specs.Change.{changed}
use Rattle.frame_stack.specs.declared.frame.Frame.{Frame}
use Rattle.frame_stack.specs.declared.frame.Frame.TheVariants.{Body, Call, Attributes, Loop, Region, Source, Skip, Pass}
use Rattle.std.proofs.Common.{take}
use Rattle.std.proofs.Math.Seq.{take-append_seam}
use Rattle.template_machine.specs.Bodies.{below, is_source_in, next_in, skipped_in}

last_there : (ys : List Frame) (x : Frame) → slice_get (ys ++ x ∷ []) (length ys) ≡ Some x
last_there [] x = refl
last_there (y ∷ ys) x = last_there ys x

last_set : (ys : List Frame) (x z : Frame) → slice_set (ys ++ x ∷ []) (length ys) z ≡ ys ++ z ∷ []
last_set [] x z = refl
last_set (y ∷ ys) x z = ap (λ l. y ∷ l) (last_set ys x z)

pub in_order : (xs : List Frame) (x : Frame) (gs : List Frame) → reverse xs ≡ x ∷ gs → xs ≡ reverse gs ++ x ∷ []
in_order xs x gs e = sym (reverse-reverse xs) ∙ ap reverse e ∙ reverse-append (x ∷ []) gs

pub top_last : (xs : List Frame) (x : Frame) (gs : List Frame) → reverse xs ≡ x ∷ gs → length xs ≡ length (reverse gs) + 1
top_last xs x gs e = omega (arith, ap length (in_order xs x gs e), length-append (reverse gs) (x ∷ []))

pub top_there : (xs : List Frame) (x : Frame) (gs : List Frame) → reverse xs ≡ x ∷ gs → slice_get xs (length xs - 1) ≡ Some x
top_there xs x gs e =
    let long = top_last xs x gs e in
    let last : length xs - 1 ≡ length (reverse gs) = omega (arith, long) in
    ap (λ n. slice_get xs n) last ∙ ap (λ l. slice_get l (length (reverse gs))) (in_order xs x gs e) ∙ last_there (reverse gs) x

pub top_within : (xs : List Frame) (x : Frame) (gs : List Frame) → reverse xs ≡ x ∷ gs → length xs - 1 < length xs
top_within xs x gs e = omega (arith, top_last xs x gs e)

some_top : (ys xs : List Frame) (x : Frame) → reverse xs ≡ ys → slice_get xs (length xs - 1) ≡ Some x → (gs : List Frame) × (ys ≡ x ∷ gs)
some_top [] xs x e is =
    let none : xs ≡ [] = sym (reverse-reverse xs) ∙ ap reverse e in
    let got : slice_get [] (0 - 1) ≡ Some x = sym (ap (λ (l : List Frame). slice_get l (length l - 1)) none) ∙ is in
    absurd (cc)
some_top (y ∷ gs) xs x e is = let there = top_there xs y gs e in let same : y ≡ x = cc in (gs, ap (λ z. z ∷ gs) same)

pub top_frame : (xs : List Frame) (x : Frame) → slice_get xs (length xs - 1) ≡ Some x → (gs : List Frame) × (reverse xs ≡ x ∷ gs)
top_frame xs x is = some_top (reverse xs) xs x refl is

none_top : (ys xs : List Frame) → reverse xs ≡ ys → slice_get xs (length xs - 1) ≡ None → ys ≡ []
none_top [] xs e is = refl
none_top (y ∷ gs) xs e is = let there = top_there xs y gs e in absurd (cc)

pub no_top : (xs : List Frame) → slice_get xs (length xs - 1) ≡ None → reverse xs ≡ []
no_top xs is = none_top (reverse xs) xs refl is

pub top_changed : (g : Frame → Frame) (xs : List Frame) (x : Frame) (gs : List Frame) → reverse xs ≡ x ∷ gs → reverse (changed g (length xs - 1) xs) ≡ g x ∷ gs
top_changed g xs x gs e =
    let there = top_there xs x gs e in
    let long = top_last xs x gs e in
    let last : length xs - 1 ≡ length (reverse gs) = omega (arith, long) in
    ap (λ o. reverse (option_map_or (λ f. slice_set xs (length xs - 1) (g f)) o xs)) there
    ∙ ap (λ n. reverse (slice_set xs n (g x))) last
    ∙ ap (λ l. reverse (slice_set l (length (reverse gs)) (g x))) (in_order xs x gs e)
    ∙ ap reverse (last_set (reverse gs) x (g x))
    ∙ reverse-append (reverse gs) (g x ∷ [])
    ∙ ap (λ l. g x ∷ l) (reverse-reverse gs)

pub top_pushed : (xs : List Frame) (x : Frame) → reverse (xs ++ x ∷ []) ≡ x ∷ reverse xs
top_pushed xs x = reverse-append xs (x ∷ [])

-- What a frame on top is.

pub skip_top : (fs : List Frame) → IsSome (skipped_in fs) → (d : ℕ) × ((gs : List Frame) × (fs ≡ Skip d ∷ gs))
skip_top [] some = absurd (false≢true some)
skip_top (Skip depth ∷ fs) some = (depth, (fs, refl))
skip_top (f ∷ fs) some = absurd (false≢true some)

pub attributes_top : (fs : List Frame) (next : ℕ) → next_in fs ≡ Some next → (asked : ℕ) × ((gs : List Frame) × (fs ≡ Attributes next asked ∷ gs))
attributes_top [] next is = absurd (cc)
attributes_top (Attributes n asked ∷ fs) next is = let same : n ≡ next = cc in (asked, (fs, ap (λ k. Attributes k asked ∷ fs) same))
attributes_top (Body template alternative pc locals level spent ∷ fs) next is = absurd (cc)
attributes_top (Call procedure pc locals level ∷ fs) next is = absurd (cc)
attributes_top (Loop turn ∷ fs) next is = absurd (cc)
attributes_top (Region asked level ∷ fs) next is = absurd (cc)
attributes_top (Source buffer k asked ∷ fs) next is = absurd (cc)
attributes_top (Skip depth ∷ fs) next is = absurd (cc)
attributes_top (Pass base level spent ∷ fs) next is = absurd (cc)

pub source_top : (fs : List Frame) → is_source_in fs ≡ true → (buffer : Option ℕ) × ((next : ℕ) × ((asked : ℕ) × ((gs : List Frame) × (fs ≡ Source buffer next asked ∷ gs))))
source_top [] is = absurd (false≢true is)
source_top (Source buffer next asked ∷ fs) is = (buffer, (next, (asked, (fs, refl))))
source_top (f ∷ fs) is = absurd (false≢true is)

-- the frames below it
pub top_below : (xs : List Frame) (x : Frame) (gs : List Frame) → reverse xs ≡ x ∷ gs → below (length xs - 1) xs ≡ gs
top_below xs x gs e =
    let last : length xs - 1 ≡ length (reverse gs) = omega (arith, top_last xs x gs e) in
    ap (λ n. reverse (take n xs)) last
    ∙ ap (λ l. reverse (take (length (reverse gs)) l)) (in_order xs x gs e)
    ∙ ap reverse (take-append_seam (reverse gs) (x ∷ []))
    ∙ reverse-reverse gs
