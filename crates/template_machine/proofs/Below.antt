-- Frames below a place.
use Rattle.std.proofs.Common.{◌≡◌, ℕ, zero, suc, ◌+◌, ◌≤◌, true, List, [], ◌∷◌, ◌++◌, length, drop, reverse, take, Option, Some, None, refl, ap, sym, subst, ◌∙◌, arith, append-nil, append_assoc}
use Rattle.std.specs.List.{slice_get, slice_set}
use Rattle.std.proofs.lemmas.List.{length-reverse, length-take-le, reverse-append, take-append-drop, take_all}
use Rattle.std.proofs.lemmas.Option.{slice_get_within}
use Rattle.std.specs.Prelude.{MatchOption}
use Rattle.frame_stack.specs.Change.{changed, with_spent}
use Rattle.frame_stack.specs.Stack.{FrameStack, with_frames}
use Rattle.frame_stack.specs.declared.frame.Frame.{Frame}
use Rattle.template_machine.specs.Bodies.{active_by, active_in, all_spent, below, body_by, body_in, role_of, seen_as, spent_by, template_by, template_in}
use Rattle.template_machine.specs.declared.bodies.Role.{Role}
use Rattle.template_machine.specs.declared.bodies.Seen.{Seen}
use Rattle.template_machine.specs.declared.bodies.Seen.TheVariants.{Outside, Template, Within}

taken_more : (xs : List Frame) (n : ℕ) (x : Frame) → slice_get xs n ≡ Some x → take (n + 1) xs ≡ take n xs ++ x ∷ []
taken_more [] n x is = absurd (omega (arith, slice_get_within [] n x is))
taken_more (y ∷ ys) zero x is = let same : y ≡ x = cc in ap (λ z. z ∷ []) same
taken_more (y ∷ ys) (suc n) x is =
    let more : suc (n + 1) ≡ suc n + 1 = omega arith in
    subst (λ m. take m (y ∷ ys) ≡ y ∷ (take n ys ++ x ∷ [])) more (ap (λ l. y ∷ l) (taken_more ys n x is))

-- one frame more
pub below_more : (xs : List Frame) (n : ℕ) (x : Frame) → slice_get xs n ≡ Some x → below (n + 1) xs ≡ x ∷ below n xs
below_more xs n x is = ap reverse (taken_more xs n x is) ∙ reverse-append (take n xs) (x ∷ [])

pub below_all : (xs : List Frame) → below (length xs) xs ≡ reverse xs
below_all xs = ap reverse (take_all (length xs) xs (omega arith))

pub below_long : (xs : List Frame) (n : ℕ) → n ≤ length xs → length (below n xs) ≡ n
below_long xs n h = length-reverse (take n xs) ∙ length-take-le n xs h

-- a frame that is changed
left_of : (xs : List Frame) (n : ℕ) (x y : Frame) → slice_get xs n ≡ Some x → drop n (slice_set xs n y) ≡ y ∷ drop (n + 1) xs
left_of [] n x y is = absurd (omega (arith, slice_get_within [] n x is))
left_of (z ∷ xs) zero x y is = refl
left_of (z ∷ xs) (suc n) x y is =
    let more : suc (n + 1) ≡ suc n + 1 = omega arith in subst (λ m. drop n (slice_set xs n y) ≡ y ∷ drop m (z ∷ xs)) more (left_of xs n x y is)

taken_same : (xs : List Frame) (n : ℕ) (y : Frame) → take n (slice_set xs n y) ≡ take n xs
taken_same [] n y = refl
taken_same (z ∷ xs) zero y = refl
taken_same (z ∷ xs) (suc n) y = ap (λ l. z ∷ l) (taken_same xs n y)

pub below_same : (xs : List Frame) (n : ℕ) (y : Frame) → below n (slice_set xs n y) ≡ below n xs
below_same xs n y = ap reverse (taken_same xs n y)

pub changed_is : (f : Frame → Frame) (xs : List Frame) (n : ℕ) (x : Frame) → slice_get xs n ≡ Some x → changed f n xs ≡ slice_set xs n (f x)
changed_is f xs n x is = rw is refl

left_at : (xs : List Frame) (n : ℕ) (x : Frame) → slice_get xs n ≡ Some x → drop n xs ≡ x ∷ drop (n + 1) xs
left_at [] n x is = absurd (omega (arith, slice_get_within [] n x is))
left_at (z ∷ xs) zero x is = let same : z ≡ x = cc in ap (λ y. y ∷ xs) same
left_at (z ∷ xs) (suc n) x is =
    let more : suc (n + 1) ≡ suc n + 1 = omega arith in subst (λ m. drop n xs ≡ x ∷ drop m (z ∷ xs)) more (left_at xs n x is)

-- what is done so far, of the frames from a place on, and what is done with those below
abbrev pub done_at : (level : ℕ) → List Frame → (place : ℕ) → List Frame
done_at level xs n = reverse (drop n xs) ++ all_spent level (below n xs)

pub done_first : (level : ℕ) (xs : List Frame) → done_at level xs (length xs) ≡ all_spent level (reverse xs)
done_first level xs =
    let none : drop (length xs) xs ≡ [] = dropped_all xs in
    ap (λ l. reverse l ++ all_spent level (below (length xs) xs)) none ∙ ap (all_spent level) (below_all xs)
  where
    dropped_all : (ys : List Frame) → drop (length ys) ys ≡ []
    dropped_all [] = refl
    dropped_all (y ∷ ys) = dropped_all ys

pub done_last : (level : ℕ) (xs : List Frame) → done_at level xs 0 ≡ reverse xs
done_last level [] = refl
done_last level (x ∷ xs) = append-nil (reverse (x ∷ xs))

parts_reversed : (m : ℕ) (xs : List Frame) → reverse (drop m xs) ++ reverse (take m xs) ≡ reverse xs
parts_reversed m xs = sym (reverse-append (take m xs) (drop m xs)) ∙ ap reverse (take-append-drop m xs)

-- a frame outside ends it
pub done_outside : (level : ℕ) (xs : List Frame) (n : ℕ) (x : Frame) → slice_get xs n ≡ Some x → seen_as level x ≡ Outside
    → done_at level xs (n + 1) ≡ reverse xs
done_outside level xs n x is out =
    let same : all_spent level (below (n + 1) xs) ≡ below (n + 1) xs =
    ap (all_spent level) (below_more xs n x is) ∙ ap (λ s. spent_by s x (below n xs) (all_spent level (below n xs))) out ∙ sym (below_more xs n x is) in
    ap (λ l. reverse (drop (n + 1) xs) ++ l) same ∙ parts_reversed (n + 1) xs

-- one that isn't is followed by those below
pub done_step : (level : ℕ) (xs ys : List Frame) (n : ℕ) (x y : Frame) → slice_get xs n ≡ Some x → drop n ys ≡ y ∷ drop (n + 1) xs → below n ys ≡ below n xs
    → all_spent level (x ∷ below n xs) ≡ y ∷ all_spent level (below n xs) → done_at level ys n ≡ done_at level xs (n + 1)
done_step level xs ys n x y is more same one =
    let l = drop (n + 1) xs in
    let rest = all_spent level (below n xs) in
    ap (λ k. reverse k ++ all_spent level (below n ys)) more
    ∙ ap (λ k. reverse (y ∷ l) ++ all_spent level k) same
    ∙ ap (λ k. k ++ rest) (reverse-append (y ∷ []) l)
    ∙ append_assoc (reverse l) (y ∷ []) rest
    ∙ ap (λ k. reverse l ++ k) (sym one)
    ∙ ap (λ k. reverse l ++ all_spent level k) (sym (below_more xs n x is))

pub done_within : (level : ℕ) (xs : List Frame) (n : ℕ) (x : Frame) → slice_get xs n ≡ Some x → seen_as level x ≡ Within
    → done_at level xs n ≡ done_at level xs (n + 1)
done_within level xs n x is seen =
    done_step level xs xs n x x is (left_at xs n x is) refl (ap (λ s. spent_by s x (below n xs) (all_spent level (below n xs))) seen)

pub done_template : (level : ℕ) (xs : List Frame) (n : ℕ) (x : Frame) (t : ℕ) → slice_get xs n ≡ Some x → seen_as level x ≡ Template t
    → done_at level (changed (with_spent true) n xs) n ≡ done_at level xs (n + 1)
done_template level xs n x t is seen =
    ap (λ l. done_at level l n) (changed_is (with_spent true) xs n x is)
    ∙ done_step level xs (slice_set xs n (with_spent true x)) n x (with_spent true x) is (left_of xs n x (with_spent true x) is)
    (below_same xs n (with_spent true x)) (ap (λ s. spent_by s x (below n xs) (all_spent level (below n xs))) seen)

-- the templates that are active, one frame after another
pub active_step : (level : ℕ) (xs : List Frame) (n : ℕ) (x : Frame) → slice_get xs n ≡ Some x
    → active_in level (below (n + 1) xs) ≡ active_by (seen_as level x) (active_in level (below n xs))
active_step level xs n x is = ap (active_in level) (below_more xs n x is)

pub active_at : (level : ℕ) (xs : List Frame) (top n : ℕ) (x : Frame) (seen : Seen) → n + 1 ≡ top → slice_get xs n ≡ Some x → seen_as level x ≡ seen
    → active_in level (below top xs) ≡ active_by seen (active_in level (below n xs))
active_at level xs top n x seen up is as_it =
    ap (λ k. active_in level (below k xs)) (sym up) ∙ active_step level xs n x is ∙ ap (λ s. active_by s (active_in level (below n xs))) as_it

-- bodies, one frame after another
pub body_at : (xs : List Frame) (top n : ℕ) (x : Frame) (role : Role) → n + 1 ≡ top → slice_get xs n ≡ Some x → role_of x ≡ role
    → body_in (below top xs) ≡ body_by role (below n xs) (body_in (below n xs))
body_at xs top n x role up is as_it =
    ap (λ k. body_in (below k xs)) (sym up) ∙ ap body_in (below_more xs n x is) ∙ ap (λ r. body_by r (below n xs) (body_in (below n xs))) as_it

pub template_at : (xs : List Frame) (top n : ℕ) (x : Frame) (role : Role) → n + 1 ≡ top → slice_get xs n ≡ Some x → role_of x ≡ role
    → template_in (below top xs) ≡ template_by role (below n xs) (template_in (below n xs))
template_at xs top n x role up is as_it =
    ap (λ k. template_in (below k xs)) (sym up) ∙ ap template_in (below_more xs n x is) ∙ ap (λ r. template_by r (below n xs) (template_in (below n xs))) as_it

-- a frame on the way
pub done_out : (level : ℕ) (xs : List Frame) (top n : ℕ) (x : Frame) → n + 1 ≡ top → slice_get xs n ≡ Some x → seen_as level x ≡ Outside
    → done_at level xs top ≡ reverse xs
done_out level xs top n x up is seen = ap (done_at level xs) (sym up) ∙ done_outside level xs n x is seen

pub done_on : (level : ℕ) (xs : List Frame) (top n : ℕ) (x : Frame) → n + 1 ≡ top → slice_get xs n ≡ Some x → seen_as level x ≡ Within
    → done_at level xs n ≡ done_at level xs top
done_on level xs top n x up is seen = done_within level xs n x is seen ∙ ap (done_at level xs) up

pub done_body : (level : ℕ) (xs : List Frame) (top n : ℕ) (x : Frame) (t : ℕ) → n + 1 ≡ top → slice_get xs n ≡ Some x → seen_as level x ≡ Template t
    → done_at level (changed (with_spent true) n xs) n ≡ done_at level xs top
done_body level xs top n x t up is seen = done_template level xs n x t is seen ∙ ap (done_at level xs) up

set_long : (xs : List Frame) (n : ℕ) (y : Frame) → length (slice_set xs n y) ≡ length xs
set_long [] n y = refl
set_long (x ∷ xs) zero y = refl
set_long (x ∷ xs) (suc n) y = ap suc (set_long xs n y)

-- as many as before
pub changed_long : (f : Frame → Frame) (xs : List Frame) (n : ℕ) (x : Frame) → slice_get xs n ≡ Some x → length (changed f n xs) ≡ length xs
changed_long f xs n x is = ap length (changed_is f xs n x is) ∙ set_long xs n (f x)

-- frames without the top one
pub popped : (xs ys : List Frame) (x y : Frame) (gs : List Frame) → xs ≡ ys ++ x ∷ [] → reverse xs ≡ y ∷ gs → (x ≡ y) × (reverse ys ≡ gs)
popped xs ys x y gs is top =
    let e : x ∷ reverse ys ≡ y ∷ gs = sym (reverse-append ys (x ∷ [])) ∙ sym (ap reverse is) ∙ top in (cc, cc)

-- the top frame is taken off
pub pop_top : (old new : FrameStack) (result : Option Frame) (y : Frame) (gs : List Frame)
    → MatchOption result ((old.frames ≡ []) × (new ≡ old)) (λ f. old ≡ with_frames (new.frames ++ f ∷ []) new) → reverse old.frames ≡ y ∷ gs
    → reverse new.frames ≡ gs
pop_top old new None y gs m top = let none : [] ≡ y ∷ gs = sym (ap reverse m.0) ∙ top in absurd (cc)
pop_top old new (Some f) y gs m top = (popped old.frames new.frames f y gs (ap (λ (x : FrameStack). x.frames) m) top).1
