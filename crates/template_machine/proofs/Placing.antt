-- The innermost body, by its place among the frames.
use Rattle.std.proofs.Common.{◌≡◌, ℕ, zero, suc, ◌-◌, ◌<◌, Bool, List, [], ◌∷◌, ◌++◌, length, reverse, Option, Some, IsSome, refl, ap, sym, ◌∙◌, arith, length-append}
use Rattle.std.specs.List.{slice_get, slice_set}
use Rattle.std.specs.Option.{option_and_then, option_map_or}
use Rattle.std.proofs.lemmas.Bool.{false≢true}
use Rattle.std.proofs.lemmas.List.{length-reverse, reverse-append, reverse-reverse}
use Rattle.std.proofs.lemmas.Option.{slice_get_within}
use Rattle.frame_stack.specs.Change.{changed}
use Rattle.frame_stack.specs.declared.frame.Frame.{Frame}
use Rattle.frame_stack.specs.declared.frame.Frame.TheVariants.{Body, Call, Loop}
use Rattle.template_machine.specs.Bodies.{below, body_in, frame_in, level_in, on_body, pc_in, spent_in, spent_of, template_in}
use Rattle.template_machine.proofs.Below.{below_all}

pub before_at : (xs ys : List Frame) (n : ℕ) (x : Frame) → slice_get xs n ≡ Some x → slice_get (xs ++ ys) n ≡ Some x
before_at [] ys n x is = absurd (omega (arith, slice_get_within [] n x is))
before_at (y ∷ xs) ys zero x is = is
before_at (y ∷ xs) ys (suc n) x is = before_at xs ys n x is

set_before : (xs ys : List Frame) (n : ℕ) (x z : Frame) → slice_get xs n ≡ Some x → slice_set (xs ++ ys) n z ≡ slice_set xs n z ++ ys
set_before [] ys n x z is = absurd (omega (arith, slice_get_within [] n x is))
set_before (y ∷ xs) ys zero x z is = refl
set_before (y ∷ xs) ys (suc n) x z is = ap (λ l. y ∷ l) (set_before xs ys n x z is)

pub last_at : (xs : List Frame) (x : Frame) → slice_get (xs ++ x ∷ []) (length xs) ≡ Some x
last_at [] x = refl
last_at (y ∷ xs) x = last_at xs x

pub set_last : (xs : List Frame) (x z : Frame) → slice_set (xs ++ x ∷ []) (length xs) z ≡ xs ++ z ∷ []
set_last [] x z = refl
set_last (y ∷ xs) x z = ap (λ l. y ∷ l) (set_last xs x z)

pub changed_at : (g : Frame → Frame) (xs : List Frame) (n : ℕ) (x : Frame) → slice_get xs n ≡ Some x → changed g n xs ≡ slice_set xs n (g x)
changed_at g xs n x is = ap (λ o. option_map_or (λ f. slice_set xs n (g f)) o xs) is

pub reversed : (x : Frame) (xs : List Frame) → reverse (x ∷ xs) ≡ reverse xs ++ x ∷ []
reversed x xs = reverse-append (x ∷ []) xs

-- Where the innermost body stands, of frames with the innermost first.
pub record Placed (ys : List Frame) (n : ℕ) : Type 0 where
  pub frame : Frame
  pub is : frame_in ys ≡ Some frame
  pub there : slice_get (reverse ys) n ≡ Some frame
  pub change : (g : Frame → Frame) → changed g n (reverse ys) ≡ reverse (on_body g ys)

-- it stands at the top
on_top : (x : Frame) (ys : List Frame) (n : ℕ) → length ys ≡ n → frame_in (x ∷ ys) ≡ Some x → ((g : Frame → Frame) → on_body g (x ∷ ys) ≡ g x ∷ ys)
    → Placed (x ∷ ys) n
on_top x ys n long is same =
    let place : length (reverse ys) ≡ n = length-reverse ys ∙ long in
    let here : slice_get (reverse ys ++ x ∷ []) n ≡ Some x = ap (slice_get (reverse ys ++ x ∷ [])) (sym place) ∙ last_at (reverse ys) x in
    record {
      frame = x;
      is = is;
      there = ap (λ l. slice_get l n) (reversed x ys) ∙ here;
      change = λ g.
          ap (changed g n) (reversed x ys)
          ∙ changed_at g (reverse ys ++ x ∷ []) n x here
          ∙ ap (λ k. slice_set (reverse ys ++ x ∷ []) k (g x)) (sym place)
          ∙ set_last (reverse ys) x (g x)
          ∙ sym (ap reverse (same g) ∙ reversed (g x) ys);
    }

-- it stands below a loop
under_loop : (turn : ℕ) (ys : List Frame) (n : ℕ) → Placed ys n → Placed (Loop turn ∷ ys) n
under_loop turn ys n p = record {
  frame = p.frame;
  is = p.is;
  there = ap (λ l. slice_get l n) (reversed (Loop turn) ys) ∙ before_at (reverse ys) (Loop turn ∷ []) n p.frame p.there;
  change = λ g.
      ap (changed g n) (reversed (Loop turn) ys)
      ∙ changed_at g (reverse ys ++ Loop turn ∷ []) n p.frame (before_at (reverse ys) (Loop turn ∷ []) n p.frame p.there)
      ∙ set_before (reverse ys) (Loop turn ∷ []) n p.frame (g p.frame) p.there
      ∙ ap (λ l. l ++ Loop turn ∷ []) (sym (changed_at g (reverse ys) n p.frame p.there) ∙ p.change g)
      ∙ sym (reversed (Loop turn) (on_body g ys));
}

pub placed : (ys : List Frame) (n : ℕ) → body_in ys ≡ Some n → Placed ys n
placed [] n at = absurd (cc)
placed (Loop turn ∷ ys) n at = under_loop turn ys n (placed ys n at)
placed (Body template alternative pc locals level spent ∷ ys) n at =
    let long : length ys ≡ n = cc in on_top (Body template alternative pc locals level spent) ys n long refl (λ g. refl)
placed (Call procedure pc locals level ∷ ys) n at =
    let long : length ys ≡ n = cc in on_top (Call procedure pc locals level) ys n long refl (λ g. refl)
placed (f ∷ ys) n at = absurd (cc)

-- a body that has a level, or an operation, has a place
pub has_place : (ys : List Frame) → IsSome (level_in ys) → (n : ℕ) × (body_in ys ≡ Some n)
has_place [] some = absurd (false≢true some)
has_place (Loop turn ∷ ys) some = has_place ys some
has_place (Body template alternative pc locals level spent ∷ ys) some = (length ys, refl)
has_place (Call procedure pc locals level ∷ ys) some = (length ys, refl)
has_place (f ∷ ys) some = absurd (false≢true some)

pub has_level : (ys : List Frame) → IsSome (pc_in ys) → IsSome (level_in ys)
has_level [] some = some
has_level (Loop turn ∷ ys) some = has_level ys some
has_level (Body template alternative pc locals level spent ∷ ys) some = refl
has_level (Call procedure pc locals level ∷ ys) some = refl
has_level (f ∷ ys) some = some

-- the same of frames with the innermost last
pub placed_in : (xs : List Frame) (n : ℕ) → body_in (reverse xs) ≡ Some n
    → (x : Frame) × ((frame_in (reverse xs) ≡ Some x) × (slice_get xs n ≡ Some x) × (n < length xs))
placed_in xs n at =
    let p = placed (reverse xs) n at in
    let there : slice_get xs n ≡ Some p.frame = ap (λ l. slice_get l n) (sym (reverse-reverse xs)) ∙ p.there in
    (p.frame, (p.is, there, slice_get_within xs n p.frame there))

pub changed_reversed : (g : Frame → Frame) (xs : List Frame) (n : ℕ) → body_in (reverse xs) ≡ Some n → reverse (changed g n xs) ≡ on_body g (reverse xs)
changed_reversed g xs n at =
    let p = placed (reverse xs) n at in
    ap reverse (ap (changed g n) (sym (reverse-reverse xs)) ∙ p.change g) ∙ reverse-reverse (on_body g (reverse xs))

-- what was found from the top
pub found_below : (xs : List Frame) (o : Option ℕ) (k : ℕ) → o ≡ body_in (below k xs) → k ≡ length xs → o ≡ body_in (reverse xs)
found_below xs o k is top = is ∙ ap (λ n. body_in (below n xs)) top ∙ ap body_in (below_all xs)

pub template_found : (xs : List Frame) (o : Option ℕ) (k : ℕ) → o ≡ template_in (below k xs) → k ≡ length xs → o ≡ template_in (reverse xs)
template_found xs o k is top = is ∙ ap (λ n. template_in (below n xs)) top ∙ ap template_in (below_all xs)

-- The innermost template's body.
above_it : (x : Frame) (ys : List Frame) (n : ℕ) (o : Option Bool) → (f : Frame) × ((slice_get (reverse ys) n ≡ Some f) × (spent_of f ≡ o))
    → (f : Frame) × ((slice_get (reverse (x ∷ ys)) n ≡ Some f) × (spent_of f ≡ o))
above_it x ys n o f = (f.0, (ap (λ l. slice_get l n) (reversed x ys) ∙ before_at (reverse ys) (x ∷ []) n f.0 f.1.0, f.1.1))

pub template_placed : (ys : List Frame) (n : ℕ) → template_in ys ≡ Some n → (f : Frame) × ((slice_get (reverse ys) n ≡ Some f) × (spent_of f ≡ spent_in ys))
template_placed [] n at = absurd (cc)
template_placed (Loop turn ∷ ys) n at = above_it (Loop turn) ys n (spent_in ys) (template_placed ys n at)
template_placed (Call procedure pc locals level ∷ ys) n at = above_it (Call procedure pc locals level) ys n (spent_in ys) (template_placed ys n at)
template_placed (Body template alternative pc locals level spent ∷ ys) n at =
    let long : length ys ≡ n = cc in
    let x = Body template alternative pc locals level spent in
    let place : length (reverse ys) ≡ n = length-reverse ys ∙ long in
    (x, (ap (λ l. slice_get l n) (reversed x ys) ∙ ap (slice_get (reverse ys ++ x ∷ [])) (sym place) ∙ last_at (reverse ys) x, refl))
template_placed (f ∷ ys) n at = absurd (cc)

pub has_template : (ys : List Frame) → IsSome (spent_in ys) → (n : ℕ) × (template_in ys ≡ Some n)
has_template [] some = absurd (false≢true some)
has_template (Loop turn ∷ ys) some = has_template ys some
has_template (Call procedure pc locals level ∷ ys) some = has_template ys some
has_template (Body template alternative pc locals level spent ∷ ys) some = (length ys, refl)
has_template (f ∷ ys) some = absurd (false≢true some)

pub template_at_place : (xs : List Frame) (n : ℕ) → template_in (reverse xs) ≡ Some n → option_and_then spent_of (slice_get xs n) ≡ spent_in (reverse xs)
template_at_place xs n at =
    let t = template_placed (reverse xs) n at in
    ap (λ l. option_and_then spent_of (slice_get l n)) (sym (reverse-reverse xs)) ∙ ap (option_and_then spent_of) t.1.0 ∙ t.1.1

-- The frame on top.

pub top_at : (xs : List Frame) (x : Frame) (gs : List Frame) → reverse xs ≡ x ∷ gs → (slice_get xs (length xs - 1) ≡ Some x) × (length xs - 1 < length xs)
top_at xs x gs is =
    let e : xs ≡ reverse gs ++ x ∷ [] = sym (reverse-reverse xs) ∙ ap reverse is ∙ reversed x gs in
    let n : length xs - 1 ≡ length (reverse gs) = omega (arith, ap length e, length-append (reverse gs) (x ∷ [])) in
    let there : slice_get xs (length xs - 1) ≡ Some x =
    ap (λ l. slice_get l (length xs - 1)) e ∙ ap (slice_get (reverse gs ++ x ∷ [])) n ∙ last_at (reverse gs) x in
    (there, slice_get_within xs (length xs - 1) x there)

pub top_changed : (g : Frame → Frame) (xs : List Frame) (x : Frame) (gs : List Frame) → reverse xs ≡ x ∷ gs → reverse (changed g (length xs - 1) xs) ≡ g x ∷ gs
top_changed g xs x gs is =
    let e : xs ≡ reverse gs ++ x ∷ [] = sym (reverse-reverse xs) ∙ ap reverse is ∙ reversed x gs in
    let n : length xs - 1 ≡ length (reverse gs) = omega (arith, ap length e, length-append (reverse gs) (x ∷ [])) in
    ap reverse
    (changed_at g xs (length xs - 1) x (top_at xs x gs is).0 ∙ ap (λ l. slice_set l (length xs - 1) (g x)) e
    ∙ ap (λ k. slice_set (reverse gs ++ x ∷ []) k (g x)) n ∙ set_last (reverse gs) x (g x))
    ∙ reverse-append (reverse gs) (g x ∷ []) ∙ ap (λ l. g x ∷ l) (reverse-reverse gs)
