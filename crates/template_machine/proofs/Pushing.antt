-- Values are pushed one after another.
use Rattle.std.proofs.Common.{◌≡◌, ℕ, zero, suc, ◌+◌, ◌<◌, List, [], ◌∷◌, ◌++◌, length, Option, Some, None, refl, ap, sym, ◌∙◌, map, arith, append-nil, append_assoc}
use Rattle.std.specs.List.{slice_get, slice_set}
use Rattle.std.specs.Option.{option_map_or}
use Rattle.std.proofs.lemmas.List.{length-map, map-append}
use Rattle.std.proofs.lemmas.List.Elements.{All-append, All-cons, All-nil}
use Rattle.std.proofs.lemmas.Option.{slice_get_within}
use Rattle.stxpath_values.specs.declared.value.Atom.{Atom}
use Rattle.frame_stack.specs.Change.{changed, with_locals}
use Rattle.frame_stack.specs.Stack.{with_frames}
use Rattle.frame_stack.specs.declared.frame.Frame.{Frame}
use Rattle.frame_stack.specs.declared.frame.Frame.TheVariants.{Body, Call}
use Rattle.frame_stack.specs.declared.locals.Local.{Local}
use Rattle.template_machine.specs.Working.{PushesWaiting, WaitAs}
use Rattle.template_machine.specs.declared.run.Run.{Run}
use Rattle.template_machine.proofs.Placing.{changed_at}

set_same : (xs : List Frame) (n : ℕ) (x : Frame) → slice_get xs n ≡ Some x → slice_set xs n x ≡ xs
set_same [] n x is = absurd (omega (arith, slice_get_within [] n x is))
set_same (y ∷ xs) zero x is = let same : y ≡ x = cc in ap (λ z. z ∷ xs) (sym same)
set_same (y ∷ xs) (suc n) x is = ap (λ l. y ∷ l) (set_same xs n x is)

got_set : (xs : List Frame) (n : ℕ) (x y : Frame) → slice_get xs n ≡ Some x → slice_get (slice_set xs n y) n ≡ Some y
got_set [] n x y is = absurd (omega (arith, slice_get_within [] n x is))
got_set (z ∷ xs) zero x y is = refl
got_set (z ∷ xs) (suc n) x y is = got_set xs n x y is

set_twice : (xs : List Frame) (n : ℕ) (y z : Frame) → slice_set (slice_set xs n y) n z ≡ slice_set xs n z
set_twice [] n y z = refl
set_twice (x ∷ xs) zero y z = refl
set_twice (x ∷ xs) (suc n) y z = ap (λ l. x ∷ l) (set_twice xs n y z)

set_long : (xs : List Frame) (n : ℕ) (y : Frame) → length (slice_set xs n y) ≡ length xs
set_long [] n y = refl
set_long (x ∷ xs) zero y = refl
set_long (x ∷ xs) (suc n) y = ap suc (set_long xs n y)

none_there : (g : Frame → Frame) (xs : List Frame) (n : ℕ) → slice_get xs n ≡ None → changed g n xs ≡ xs
none_there g xs n is = ap (λ o. option_map_or (λ f. slice_set xs n (g f)) o xs) is

-- changes of a frame, one behind another
changed_twice : (f g : Frame → Frame) (n : ℕ) (xs : List Frame) → changed g n (changed f n xs) ≡ changed (λ x. g (f x)) n xs
changed_twice f g n xs = by (slice_get xs n) refl
  where
    by : (o : Option Frame) → slice_get xs n ≡ o → changed g n (changed f n xs) ≡ changed (λ x. g (f x)) n xs
    by None is = ap (changed g n) (none_there f xs n is) ∙ none_there g xs n is ∙ sym (none_there (λ x. g (f x)) xs n is)
    by (Some x) is =
        ap (changed g n) (changed_at f xs n x is) ∙ changed_at g (slice_set xs n (f x)) n (f x) (got_set xs n x (f x) is)
        ∙ set_twice xs n (f x) (g (f x)) ∙ sym (changed_at (λ y. g (f y)) xs n x is)

changed_same : (g : Frame → Frame) (n : ℕ) (xs : List Frame) → ((x : Frame) → g x ≡ x) → changed g n xs ≡ xs
changed_same g n xs same = by (slice_get xs n) refl
  where
    by : (o : Option Frame) → slice_get xs n ≡ o → changed g n xs ≡ xs
    by None is = none_there g xs n is
    by (Some x) is = changed_at g xs n x is ∙ ap (slice_set xs n) (same x) ∙ set_same xs n x is

changed_by : (f g : Frame → Frame) (n : ℕ) (xs : List Frame) → ((x : Frame) → f x ≡ g x) → changed f n xs ≡ changed g n xs
changed_by f g n xs same = by (slice_get xs n) refl
  where
    by : (o : Option Frame) → slice_get xs n ≡ o → changed f n xs ≡ changed g n xs
    by None is = none_there f xs n is ∙ sym (none_there g xs n is)
    by (Some x) is = changed_at f xs n x is ∙ ap (slice_set xs n) (same x) ∙ sym (changed_at g xs n x is)

changed_long : (g : Frame → Frame) (n : ℕ) (xs : List Frame) → length (changed g n xs) ≡ length xs
changed_long g n xs = by (slice_get xs n) refl
  where
    by : (o : Option Frame) → slice_get xs n ≡ o → length (changed g n xs) ≡ length xs
    by None is = ap length (none_there g xs n is)
    by (Some x) is = ap length (changed_at g xs n x is) ∙ set_long xs n (g x)

-- locals pushed behind others

none_more : (x : Frame) → with_locals (λ ls. ls ++ []) x ≡ x
none_more (Body template alternative pc locals level spent) = ap (λ ls. Body template alternative pc ls level spent) (append-nil locals)
none_more (Call procedure pc locals level) = ap (λ ls. Call procedure pc ls level) (append-nil locals)
none_more f = refl

both_more : (a b : List Local) (x : Frame) → with_locals (λ ls. ls ++ b) (with_locals (λ ls. ls ++ a) x) ≡ with_locals (λ ls. ls ++ (a ++ b)) x
both_more a b (Body template alternative pc locals level spent) = ap (λ ls. Body template alternative pc ls level spent) (append_assoc locals a b)
both_more a b (Call procedure pc locals level) = ap (λ ls. Call procedure pc ls level) (append_assoc locals a b)
both_more a b f = refl

pub pushed_none : (r : Run) (body : ℕ) → PushesWaiting [] body r r
pushed_none r body = (
  [],
  (
    record { values_are = refl; nameless = All-nil (λ (x : Local). x.name.local ≡ []) },
    sym (ap (λ l. record r { frames = with_frames l r.frames }) (changed_same (with_locals (λ ls. ls ++ [])) body r.frames.frames none_more)),
  ),
)

pub pushed_more : (r s t : Run) (body : ℕ) (values : List (List Atom)) (x : Local) → x.name.local ≡ [] → PushesWaiting values body r s
    → t ≡ record s { frames = with_frames (changed (with_locals (λ ls. ls ++ x ∷ [])) body s.frames.frames) s.frames } → PushesWaiting (values ++ x.value ∷ []) body r t
pushed_more r s t body values x none h is =
    let waiting = h.0 in
    let g : Frame → Frame = with_locals (λ ls. ls ++ waiting) in
    let f : Frame → Frame = with_locals (λ ls. ls ++ x ∷ []) in
    let Nameless : Local → Type 0 = λ y. y.name.local ≡ [] in
    let both : changed f body (changed g body r.frames.frames) ≡ changed (with_locals (λ ls. ls ++ (waiting ++ x ∷ []))) body r.frames.frames =
    changed_twice g f body r.frames.frames
    ∙ changed_by (λ y. f (g y)) (with_locals (λ ls. ls ++ (waiting ++ x ∷ []))) body r.frames.frames (both_more waiting (x ∷ [])) in (
      waiting ++ x ∷ [],
      (
        record {
          values_are = map-append (λ (y : Local). y.value) waiting (x ∷ []) ∙ ap (λ l. l ++ x.value ∷ []) h.1.0.values_are;
          nameless = All-append Nameless waiting (x ∷ []) h.1.0.nameless (All-cons Nameless x [] none (All-nil Nameless));
        },
        is ∙ ap (λ (y : Run). record y { frames = with_frames (changed f body y.frames.frames) y.frames }) h.1.1
            ∙ ap (λ l. record r { frames = with_frames l r.frames }) both,
      ),
    )

pub pushed_within : (r s : Run) (body : ℕ) (values : List (List Atom)) → PushesWaiting values body r s → body < length r.frames.frames → body < length s.frames.frames
pushed_within r s body values h less =
    omega (arith, less, ap (λ (y : Run). length y.frames.frames) h.1.1, changed_long (with_locals (λ ls. ls ++ h.0)) body r.frames.frames)

pub as_many : (values : List (List Atom)) (waiting : List Local) → WaitAs values waiting → length waiting ≡ length values
as_many values waiting w = sym (length-map waiting (λ (x : Local). x.value)) ∙ ap length w.values_are
