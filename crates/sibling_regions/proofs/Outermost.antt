-- What is known of the outermost region.
use Rattle.std.proofs.Common.{◌≡◌, ℕ, zero, suc, ◌+◌, ◌-◌, ◌<◌, ◌≤◌, Bool, true, false, not, ◌&&◌, ◌⊎◌, inl, inr, cond, ltb, List, [], ◌∷◌, ◌++◌, length, take, drop, Option, Some, None, refl, ap, sym, ◌∙◌, arith, length-append}
use Rattle.std.proofs.Math.Nat.{eq-or-lt_of_le, lt_of_not-le}
use Rattle.std.proofs.lemmas.Bool.{false≢true, ltb-false, ltb-true}
use Rattle.std.proofs.lemmas.Grind.{common_steps}
use Rattle.std.proofs.lemmas.List.{drop-append-le, take-append-le}
use Rattle.std.proofs.lemmas.List.Folds.{list_all-append}
use Rattle.std.proofs.lemmas.Option.{slice_get_within}
use Rattle.std.specs.List.{find, list_all, range_with_len, slice_get}
use Rattle.std.specs.Option.{option_map_or, option_or}
use Rattle.frame_stack.specs.Frame.{opens_list}
use Rattle.frame_stack.specs.declared.frame.Frame.{Frame}
use Rattle.frame_stack.specs.declared.frame.Frame.TheVariants.{Region}
use Rattle.node_stack.specs.Path.{level}
use Rattle.sibling_regions.proofs.Finding.{find_before, find_skips, hidden, not_ended}
use Rattle.sibling_regions.specs.Ends.{Look, ends_frame, is_ended, is_innermost, outermost_ended}
use Rattle.sibling_regions.specs.Laws.{ListHides, NoneWhereNoneEnds, OutermostIsFirst, TopEndsLast}

-- The first number for which a test holds.

holds_there : (test : ℕ → Bool) (s n p : ℕ) → find test (range_with_len s n) ≡ Some p → test p ≡ true
holds_there test s zero p e = absurd (cc)
holds_there test s (suc n) p e = by (test s) refl e (holds_there test (s + 1) n p)
  where
    by : (b : Bool) → test s ≡ b → cond b (Some s) (find test (range_with_len (s + 1) n)) ≡ Some p
        → (find test (range_with_len (s + 1) n) ≡ Some p → test p ≡ true) → test p ≡ true
    by true is e later = (let same : s ≡ p = cc in ap test (sym same) ∙ is)
    by false is e later = later e

fails_before : (test : ℕ → Bool) (s n p k : ℕ) → find test (range_with_len s n) ≡ Some p → s ≤ k → k < p → test k ≡ false
fails_before test s zero p k e low high = absurd (cc)
fails_before test s (suc n) p k e low high = by (test s) refl e (eq-or-lt_of_le low) (λ e less. fails_before test (s + 1) n p k e less high)
  where
    by : (b : Bool) → test s ≡ b → cond b (Some s) (find test (range_with_len (s + 1) n)) ≡ Some p → (s ≡ k) ⊎ (s < k)
        → (find test (range_with_len (s + 1) n) ≡ Some p → s + 1 ≤ k → test k ≡ false) → test k ≡ false
    by true is e split later = (let same : s ≡ p = cc in absurd (omega arith))
    by false is e (inl same) later = ap test (sym same) ∙ is
    by false is e (inr less) later = later e (omega arith)

fails_all : (test : ℕ → Bool) (s n k : ℕ) → find test (range_with_len s n) ≡ None → s ≤ k → k < s + n → test k ≡ false
fails_all test s zero k e low high = absurd (omega arith)
fails_all test s (suc n) k e low high = by (test s) refl e (eq-or-lt_of_le low) (λ e less. fails_all test (s + 1) n k e less (omega arith))
  where
    by : (b : Bool) → test s ≡ b → cond b (Some s) (find test (range_with_len (s + 1) n)) ≡ None → (s ≡ k) ⊎ (s < k)
        → (find test (range_with_len (s + 1) n) ≡ None → s + 1 ≤ k → test k ≡ false) → test k ≡ false
    by true is e split later = absurd (cc)
    by false is e (inl same) later = ap test (sym same) ∙ is
    by false is e (inr less) later = later e (omega arith)

found_there : (test : ℕ → Bool) (n p : ℕ) → p < n → test p ≡ true → ((k : ℕ) → k < p → test k ≡ false) → find test (range_with_len 0 n) ≡ Some p
found_there test n p less is none =
    let all : n ≡ p + (n - p) = omega arith in
    let here : 0 + p ≡ p = omega arith in
    ap (λ k. find test (range_with_len 0 k)) all
    ∙ find_skips test 0 p (n - p) (λ k low high. none k (omega arith))
    ∙ ap (λ k. find test (range_with_len k (n - p))) here
    ∙ find_before test p (n - p - 1) (n - p) (omega arith)
    ∙ ap (λ b. cond b (Some p) (find test (range_with_len (p + 1) (n - p - 1)))) is

found_nowhere : (test : ℕ → Bool) (n : ℕ) → ((k : ℕ) → test k ≡ false) → find test (range_with_len 0 n) ≡ None
found_nowhere test n none =
    let all : n ≡ n + 0 = omega arith in
    ap (λ k. find test (range_with_len 0 k)) all ∙ find_skips test 0 n 0 (λ k low high. none k)

find_same : (test other : ℕ → Bool) (s n : ℕ) → ((k : ℕ) → s ≤ k → k < s + n → test k ≡ other k) → find test (range_with_len s n) ≡ find other (range_with_len s n)
find_same test other s zero same = refl
find_same test other s (suc n) same =
    ap (λ b. cond b (Some s) (find test (range_with_len (s + 1) n))) (same s (omega arith) (omega arith))
    ∙ ap (λ r. cond (other s) (Some s) r) (find_same test other (s + 1) n (λ k low high. same k (omega arith) (omega arith)))

find_last : (test : ℕ → Bool) (s n : ℕ) → find test (range_with_len s (n + 1)) ≡ option_or (find test (range_with_len s n)) (cond (test (s + n)) (Some (s + n)) None)
find_last test s zero = (let same : s ≡ s + 0 = omega arith in ap (λ k. cond (test k) (Some k) None) same)
find_last test s (suc n) =
    let one : suc n + 1 ≡ suc (n + 1) = omega arith in
    let far : s + 1 + n ≡ s + suc n = omega arith in
    ap (λ k. find test (range_with_len s k)) one
    ∙ ap (λ r. cond (test s) (Some s) r) (find_last test (s + 1) n)
    ∙ by (test s) (find test (range_with_len (s + 1) n)) (cond (test (s + 1 + n)) (Some (s + 1 + n)) None)
    ∙ ap (λ k. option_or (find test (range_with_len s (suc n))) (cond (test k) (Some k) None)) far
  where
    by : (b : Bool) (o r : Option ℕ) → cond b (Some s) (option_or o r) ≡ option_or (cond b (Some s) o) r
    by true o r = refl
    by false o r = refl

-- There is nothing to be ended behind the frames.
past : (l : Look) (fs : List Frame) (k : ℕ) → length fs ≤ k → is_ended l fs k ≡ false
past l fs k far = not_ended l fs k none
  where
    none : (asked number : ℕ) → is_innermost fs k ≡ true → slice_get fs k ≡ Some (Region asked number) → number ≡ level l.path → ⊥
    none asked number sight at same = (let within = slice_get_within fs k (Region asked number) at in omega arith)

within : (l : Look) (fs : List Frame) (k : ℕ) → is_ended l fs k ≡ true → k < length fs
within l fs k is = lt_of_not-le (λ far. false≢true (sym (past l fs k far) ∙ is))

everywhere : (l : Look) (fs : List Frame) (k : ℕ) → outermost_ended l fs ≡ None → is_ended l fs k ≡ false
everywhere l fs k e = by (ltb k (length fs)) refl
  where
    by : (b : Bool) → ltb k (length fs) ≡ b → is_ended l fs k ≡ false
    by true is = fails_all (is_ended l fs) 0 (length fs) k e (omega arith) (let less = ltb-true k (length fs) is in omega arith)
    by false is = past l fs k (ltb-false k (length fs) is)

pub outermost_is_first : OutermostIsFirst
outermost_is_first l fs place = (
  λ e. (holds_there (is_ended l fs) 0 (length fs) place e, λ outer less. fails_before (is_ended l fs) 0 (length fs) place outer e (omega arith) less),
  λ (is, none). found_there (is_ended l fs) (length fs) place (within l fs place is) is none,
)

pub none_where_none_ends : NoneWhereNoneEnds
none_where_none_ends l fs = (λ e place. everywhere l fs place e, λ none. found_nowhere (is_ended l fs) (length fs) none)

-- One frame more.

pub got_before : {A : Type 0} (xs ys : List A) (k : ℕ) → k < length xs → slice_get (xs ++ ys) k ≡ slice_get xs k
got_before [] ys k h = absurd (omega arith)
got_before (x ∷ xs) ys zero h = refl
got_before (x ∷ xs) ys (suc k) h = got_before xs ys k (omega arith)

pub got_last : {A : Type 0} (xs : List A) (y : A) → slice_get (xs ++ y ∷ []) (length xs) ≡ Some y
got_last [] y = refl
got_last (x ∷ xs) y = got_last xs y

taken_all : {A : Type 0} (xs ys : List A) → take (length xs) (xs ++ ys) ≡ xs
taken_all [] ys = refl
taken_all (x ∷ xs) ys = ap (λ l. x ∷ l) (taken_all xs ys)

dropped_all : {A : Type 0} (xs : List A) (k : ℕ) → length xs ≤ k → drop k xs ≡ []
dropped_all xs k h = grind (arith, common_steps)

pub length_more : (fs : List Frame) (f : Frame) → length (fs ++ f ∷ []) ≡ length fs + 1
length_more fs f = omega (arith, length-append fs (f ∷ []))

and_true : (a : Bool) → (a && true) ≡ a
and_true true = refl
and_true false = refl

-- a frame below one that opens no list is in sight where it was
pub sight_stays : (fs : List Frame) (f : Frame) (k : ℕ) → k < length fs → opens_list f ≡ false → is_innermost (fs ++ f ∷ []) k ≡ is_innermost fs k
sight_stays fs f k less shut =
    ap (list_all (λ f. not (opens_list f))) (drop-append-le (k + 1) fs (f ∷ []) (omega arith))
    ∙ list_all-append (λ f. not (opens_list f)) (drop (k + 1) fs) (f ∷ [])
    ∙ ap (λ b. is_innermost fs k && (not b && true)) shut
    ∙ and_true (is_innermost fs k)

ended_stays : (l : Look) (fs : List Frame) (f : Frame) (k : ℕ) → k < length fs → opens_list f ≡ false → is_ended l (fs ++ f ∷ []) k ≡ is_ended l fs k
ended_stays l fs f k less shut =
    ap (λ b. b && option_map_or (ends_frame l (take k (fs ++ f ∷ []))) (slice_get (fs ++ f ∷ []) k) false) (sight_stays fs f k less shut)
    ∙ ap (λ below. is_innermost fs k && option_map_or (ends_frame l below) (slice_get (fs ++ f ∷ []) k) false) (take-append-le k fs (f ∷ []) (omega arith))
    ∙ ap (λ o. is_innermost fs k && option_map_or (ends_frame l (take k fs)) o false) (got_before fs (f ∷ []) k less)

top_ended : (l : Look) (fs : List Frame) (f : Frame) → is_ended l (fs ++ f ∷ []) (length fs) ≡ ends_frame l fs f
top_ended l fs f =
    ap (λ above. list_all (λ f. not (opens_list f)) above && option_map_or (ends_frame l (take (length fs) (fs ++ f ∷ []))) (slice_get (fs ++ f ∷ []) (length fs)) false)
    (dropped_all (fs ++ f ∷ []) (length fs + 1) (omega (arith, length_more fs f)))
    ∙ ap (λ below. option_map_or (ends_frame l below) (slice_get (fs ++ f ∷ []) (length fs)) false) (taken_all fs (f ∷ []))
    ∙ ap (λ o. option_map_or (ends_frame l fs) o false) (got_last fs f)

pub top_ends_last : TopEndsLast
top_ends_last l fs f shut =
    let n = length fs in
    let here : 0 + n ≡ n = omega arith in
    ap (λ k. find (is_ended l (fs ++ f ∷ [])) (range_with_len 0 k)) (length_more fs f)
    ∙ find_last (is_ended l (fs ++ f ∷ [])) 0 n
    ∙ ap (λ k. option_or (find (is_ended l (fs ++ f ∷ [])) (range_with_len 0 n)) (cond (is_ended l (fs ++ f ∷ []) k) (Some k) None)) here
    ∙ ap (λ b. option_or (find (is_ended l (fs ++ f ∷ [])) (range_with_len 0 n)) (cond b (Some n) None)) (top_ended l fs f)
    ∙ ap (λ o. option_or o (cond (ends_frame l fs f) (Some n) None))
    (find_same (is_ended l (fs ++ f ∷ [])) (is_ended l fs) 0 n (λ k low high. ended_stays l fs f k (omega arith) shut))

hidden_all : (l : Look) (fs : List Frame) (f : Frame) (k : ℕ) → opens_list f ≡ true → is_ended l (fs ++ f ∷ []) k ≡ false
hidden_all l fs f k opens = not_ended l (fs ++ f ∷ []) k none
  where
    none : (asked number : ℕ) → is_innermost (fs ++ f ∷ []) k ≡ true → slice_get (fs ++ f ∷ []) k ≡ Some (Region asked number) → number ≡ level l.path → ⊥
    none asked number sight at same =
        by (eq-or-lt_of_le (let below = slice_get_within (fs ++ f ∷ []) k (Region asked number) at in let k_at_most : k ≤ length fs = omega (arith, length_more fs f) in k_at_most))
      where
        by : (k ≡ length fs) ⊎ (k < length fs) → ⊥
        by (inl last) =
            (let both : Some f ≡ Some (Region asked number) = sym (got_last fs f) ∙ ap (slice_get (fs ++ f ∷ [])) (sym last) ∙ at in
            let region : f ≡ Region asked number = cc in false≢true (sym (ap opens_list region) ∙ opens))
        by (inr less) = false≢true (sym (hidden (fs ++ f ∷ []) k (length fs) f less (got_last fs f) opens) ∙ sight)

pub list_hides : ListHides
list_hides l fs f opens = found_nowhere (is_ended l (fs ++ f ∷ [])) (length (fs ++ f ∷ [])) (λ k. hidden_all l fs f k opens)
