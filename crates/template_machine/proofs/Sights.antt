-- Frames that no list hides.
use Rattle.std.proofs.Common.{◌≡◌, ℕ, zero, suc, ◌+◌, ◌-◌, ◌<◌, Bool, true, false, not, ◌&&◌, List, [], ◌∷◌, ◌++◌, length, drop, Some, None, refl, ap, ◌∙◌, arith}
use Rattle.std.specs.List.{list_all, slice_get}
use Rattle.std.proofs.lemmas.List.{drop-append-le, length-append}
use Rattle.std.proofs.lemmas.List.Folds.{list_all-append}
use Rattle.frame_stack.specs.Frame.{opens_list}
use Rattle.frame_stack.specs.declared.frame.Frame.{Frame}
use Rattle.sibling_regions.specs.Ends.{is_innermost}

all_false : {A : Type 0} (test : A → Bool) (xs : List A) (i : ℕ) (x : A) → slice_get xs i ≡ Some x → test x ≡ false → list_all test xs ≡ false
all_false test [] i x is fails = absurd (cc)
all_false test (y ∷ xs) zero x is fails =
    let same : y ≡ x = cc in
    ap (λ z. test z && list_all test xs) same ∙ ap (λ b. b && list_all test xs) fails
all_false test (y ∷ xs) (suc i) x is fails = later (test y) (list_all test xs) (all_false test xs i x is fails)
  where
    later : (a b : Bool) → b ≡ false → (a && b) ≡ false
    later true b e = e
    later false b e = refl

got_behind : {A : Type 0} (xs : List A) (n i : ℕ) → slice_get (drop n xs) i ≡ slice_get xs (n + i)
got_behind xs zero i = (let same : i ≡ 0 + i = omega arith in ap (slice_get xs) same)
got_behind [] (suc n) i = none (suc n + i)
  where
    none : {A : Type 0} (k : ℕ) → None ≡ slice_get {X = A} [] k
    none zero = refl
    none (suc k) = refl
got_behind (x ∷ xs) (suc n) i = (let more : suc (n + i) ≡ suc n + i = omega arith in got_behind xs n i ∙ ap (slice_get (x ∷ xs)) more)

-- a list that is open by itself stands above
pub hidden : (fs : List Frame) (k p : ℕ) (f : Frame) → k < p → slice_get fs p ≡ Some f → opens_list f ≡ true → is_innermost fs k ≡ false
hidden fs k p f low is opens =
    all_false (λ f. not (opens_list f)) (drop (k + 1) fs) (p - (k + 1)) f (got_behind fs (k + 1) (p - (k + 1)) ∙ ap (slice_get fs) (omega arith) ∙ is) (ap not opens)

pub got_before : {A : Type 0} (xs ys : List A) (k : ℕ) → k < length xs → slice_get (xs ++ ys) k ≡ slice_get xs k
got_before [] ys k h = absurd (omega arith)
got_before (x ∷ xs) ys zero h = refl
got_before (x ∷ xs) ys (suc k) h = got_before xs ys k (omega arith)

pub got_last : {A : Type 0} (xs : List A) (y : A) → slice_get (xs ++ y ∷ []) (length xs) ≡ Some y
got_last [] y = refl
got_last (x ∷ xs) y = got_last xs y

pub length_more : (fs : List Frame) (f : Frame) → length (fs ++ f ∷ []) ≡ length fs + 1
length_more fs f = omega (arith, length-append fs (f ∷ []))

and_true : (a : Bool) → (a && true) ≡ a
and_true true = refl
and_true false = refl

-- a frame below one that opens no list is in sight where it was
pub sight_stays : (fs : List Frame) (f : Frame) (k : ℕ) → k < length fs → opens_list f ≡ false → is_innermost (fs ++ f ∷ []) k ≡ is_innermost fs k
sight_stays fs f k less shut =
    ap (list_all (λ f. not (opens_list f))) (drop-append-le (k + 1) fs (f ∷ []) (omega arith))
    ∙ list_all-append (λ f. not (opens_list f)) (drop (k + 1) fs) (f ∷ [])
    ∙ ap (λ b. is_innermost fs k && (not b && true)) shut
    ∙ and_true (is_innermost fs k)
