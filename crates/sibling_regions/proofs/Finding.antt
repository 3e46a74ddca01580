-- The outermost region is found from the innermost frame outwards.
use Rattle.std.proofs.Common.{◌≡◌, ℕ, zero, suc, ◌+◌, ◌-◌, ◌<◌, ◌≤◌, Bool, true, false, not, ◌&&◌, ◌⊎◌, inl, inr, cond, eqb, ltb, List, [], ◌∷◌, ◌++◌, length, take, drop, reverse, Option, Some, None, refl, ap, sym, ◌∙◌, arith}
use Rattle.std.proofs.Math.Nat.{eq-or-lt_of_le}
use Rattle.std.proofs.lemmas.Bool.{eq-eqb, eqb-true, ltb-true, false≢true}
use Rattle.std.proofs.lemmas.List.{reverse-append, take_more}
use Rattle.std.proofs.lemmas.Option.{get_or_from_slice_get, slice_get_within}
use Rattle.std.specs.List.{find, list_all, range_with_len, slice_get}
use Rattle.std.specs.Option.{IfSome, option_map_or, option_or}
use Rattle.frame_stack.specs.Frame.{opens_list}
use Rattle.frame_stack.specs.declared.frame.Frame.{Frame}
use Rattle.frame_stack.specs.declared.frame.Frame.TheVariants.{Body, Call, Attributes, Loop, Region, Source, Skip, Pass}
use Rattle.node_stack.specs.Path.{level}
use Rattle.sheet_model.specs.declared.sheet.Sheet.{Sheet}
use Rattle.sheet_model.proofs.Lists.{left_at}
use Rattle.sibling_regions.specs.Ends.{Look, asked_ends, ends_frame, group_of, innermost_group, is_ended, is_innermost, outermost_ended}
use Rattle.sibling_regions.specs.Looking.{seen_as, within}
use Rattle.sibling_regions.specs.Standing.{LevelsRise, level_of}
use Rattle.sibling_regions.specs.declared.regions.Seen.TheVariants as seen

-- numbers that fail a test may be skipped
pub find_skips : (test : ℕ → Bool) (s n m : ℕ) → ((k : ℕ) → s ≤ k → k < s + n → test k ≡ false)
    → find test (range_with_len s (n + m)) ≡ find test (range_with_len (s + n) m)
find_skips test s zero m fails =
    let less : 0 + m ≡ m = omega arith in
    let same : s ≡ s + 0 = omega arith in
    ap (λ k. find test (range_with_len s k)) less ∙ ap (λ k. find test (range_with_len k m)) same
find_skips test s (suc n) m fails =
    let one : suc n + m ≡ suc (n + m) = omega arith in
    let far : s + 1 + n ≡ s + suc n = omega arith in
    ap (λ k. find test (range_with_len s k)) one
    ∙ ap (λ b. cond b (Some s) (find test (range_with_len (s + 1) (n + m)))) (fails s (omega arith) (omega arith))
    ∙ find_skips test (s + 1) n m (λ k low high. fails k (omega arith) (omega arith))
    ∙ ap (λ k. find test (range_with_len k m)) far

-- one number more before others
pub find_before : (test : ℕ → Bool) (k n m : ℕ) → m ≡ n + 1 → find test (range_with_len k m) ≡ cond (test k) (Some k) (find test (range_with_len (k + 1) n))
find_before test k n m is = (let more : m ≡ suc n = omega arith in ap (λ j. find test (range_with_len k j)) more)

-- one frame more below those above a place
pub innermost_more : (fs : List Frame) (k : ℕ) (f : Frame) → slice_get fs k ≡ Some f
    → list_all (λ f. not (opens_list f)) (drop k fs) ≡ (not (opens_list f) && is_innermost fs k)
innermost_more fs k f is =
    ap (list_all (λ f. not (opens_list f))) (left_at fs k f (slice_get_within fs k f is) (sym (get_or_from_slice_get fs k f f is)))

pub group_more : (sheet : Sheet) (fs : List Frame) (k : ℕ) (f : Frame) → slice_get fs k ≡ Some f
    → innermost_group sheet (reverse (take (k + 1) fs)) ≡ option_or (group_of sheet f) (innermost_group sheet (reverse (take k fs)))
group_more sheet fs k f is =
    ap (λ l. innermost_group sheet (reverse l))
    (take_more fs k f (slice_get_within fs k f is) ∙ ap (λ g. take k fs ++ g ∷ []) (get_or_from_slice_get fs k f f is))
    ∙ ap (innermost_group sheet) (reverse-append (take k fs) (f ∷ []))

all_false : {A : Type 0} (test : A → Bool) (xs : List A) (i : ℕ) (x : A) → slice_get xs i ≡ Some x → test x ≡ false → list_all test xs ≡ false
all_false test [] i x is fails = absurd (cc)
all_false test (y ∷ xs) zero x is fails =
    let same : y ≡ x = cc in
    ap (λ z. test z && list_all test xs) same ∙ ap (λ b. b && list_all test xs) fails
all_false test (y ∷ xs) (suc i) x is fails = later (test y) (list_all test xs) (all_false test xs i x is fails)
  where
    later : (a b : Bool) → b ≡ false → (a && b) ≡ false
    later true b e = e
    later false b e = refl

got_behind : {A : Type 0} (xs : List A) (n i : ℕ) → slice_get (drop n xs) i ≡ slice_get xs (n + i)
got_behind xs zero i = (let same : i ≡ 0 + i = omega arith in ap (slice_get xs) same)
got_behind [] (suc n) i = none (suc n + i)
  where
    none : {A : Type 0} (k : ℕ) → None ≡ slice_get {X = A} [] k
    none zero = refl
    none (suc k) = refl
got_behind (x ∷ xs) (suc n) i = (let more : suc (n + i) ≡ suc n + i = omega arith in got_behind xs n i ∙ ap (slice_get (x ∷ xs)) more)

-- a list that is open by itself stands above
pub hidden : (fs : List Frame) (k p : ℕ) (f : Frame) → k < p → slice_get fs p ≡ Some f → opens_list f ≡ true → is_innermost fs k ≡ false
hidden fs k p f low is opens =
    all_false (λ f. not (opens_list f)) (drop (k + 1) fs) (p - (k + 1)) f (got_behind fs (k + 1) (p - (k + 1)) ∙ ap (slice_get fs) (omega arith) ∙ is) (ap not opens)

-- it isn't ended where no region of the level stands there in sight
not_ended_so : (l : Look) (below : List Frame) (b : Bool) (o : Option Frame)
    → ((asked number : ℕ) → b ≡ true → o ≡ Some (Region asked number) → number ≡ level l.path → ⊥) → (b && option_map_or (ends_frame l below) o false) ≡ false
not_ended_so l below false o none = refl
not_ended_so l below true None none = refl
not_ended_so l below true (Some (Body template alternative pc locals number spent)) none = refl
not_ended_so l below true (Some (Call procedure pc locals number)) none = refl
not_ended_so l below true (Some (Attributes next asked)) none = refl
not_ended_so l below true (Some (Loop turn)) none = refl
not_ended_so l below true (Some (Region asked number)) none = by (eqb number (level l.path)) refl
  where
    by : (c : Bool) → eqb number (level l.path) ≡ c → (c && asked_ends l below asked) ≡ false
    by true e = absurd (none asked number refl refl (eqb-true number (level l.path) e))
    by false e = refl
not_ended_so l below true (Some (Source buffer next asked)) none = refl
not_ended_so l below true (Some (Skip depth)) none = refl
not_ended_so l below true (Some (Pass base number spent)) none = refl

pub not_ended : (l : Look) (fs : List Frame) (k : ℕ)
    → ((asked number : ℕ) → is_innermost fs k ≡ true → slice_get fs k ≡ Some (Region asked number) → number ≡ level l.path → ⊥) → is_ended l fs k ≡ false
not_ended l fs k none = not_ended_so l (take k fs) (is_innermost fs k) (slice_get fs k) none

-- why a frame stands outside a level
data Outside (n : ℕ) (f : Frame) : Type 0 where
  Opens : opens_list f ≡ true → Outside n f
  Lower : (own : ℕ) → level_of f ≡ Some own → own < n → Outside n f

lower : (n own : ℕ) → within n own ≡ seen.Outside → own < n
lower n own e = by (ltb own n) refl e
  where
    by : (b : Bool) → ltb own n ≡ b → cond b seen.Outside seen.Within ≡ seen.Outside → own < n
    by true is e = ltb-true own n is
    by false is e = absurd (cc)

lower_region : (n own asked : ℕ) → cond (eqb own n) (seen.Region asked) (within n own) ≡ seen.Outside → own < n
lower_region n own asked e = by (eqb own n) e
  where
    by : (b : Bool) → cond b (seen.Region asked) (within n own) ≡ seen.Outside → own < n
    by true e = absurd (cc)
    by false e = lower n own e

outside : (n : ℕ) (f : Frame) → seen_as n f ≡ seen.Outside → Outside n f
outside n (Body template alternative pc locals number spent) e = Lower number refl (lower n number e)
outside n (Call procedure pc locals number) e = Lower number refl (lower n number e)
outside n (Attributes next asked) e = Opens refl
outside n (Loop turn) e = absurd (cc)
outside n (Region asked number) e = Lower number refl (lower_region n number asked e)
outside n (Source buffer next asked) e = Opens refl
outside n (Skip depth) e = absurd (cc)
outside n (Pass base number spent) e = Lower number refl (lower n number e)

at_most : (o : ℕ) (i : Option ℕ) (own : ℕ) → i ≡ Some own → IfSome i (λ n. o ≤ n) → o ≤ own
at_most o None own e h = absurd (cc)
at_most o (Some n) own e h = (let same : n ≡ own = cc in omega arith)

-- below a frame outside the level, and there, no region of the level is in sight
pub none_below : (l : Look) (fs : List Frame) (p k : ℕ) (f : Frame) → slice_get fs p ≡ Some f → seen_as (level l.path) f ≡ seen.Outside → LevelsRise fs → k ≤ p
    → is_ended l fs k ≡ false
none_below l fs p k f is out rise low = not_ended l fs k (λ asked number sight at same. by asked number sight at same (outside (level l.path) f out) (eq-or-lt_of_le low))
  where
    by : (asked number : ℕ) → is_innermost fs k ≡ true → slice_get fs k ≡ Some (Region asked number) → number ≡ level l.path → Outside (level l.path) f
        → (k ≡ p) ⊎ (k < p) → ⊥
    by asked number sight at same (Opens o) (inr less) = false≢true (sym (hidden fs k p f less is o) ∙ sight)
    by asked number sight at same (Opens o) (inl here) =
        (let both : Some f ≡ Some (Region asked number) = sym is ∙ ap (slice_get fs) (sym here) ∙ at in
        let region : f ≡ Region asked number = cc in false≢true (sym (ap opens_list region) ∙ o))
    by asked number sight at same (Lower own has lower) (inr less) =
        omega (arith, at_most number (level_of f) own has (rise k p (Region asked number) f less sight at is))
    by asked number sight at same (Lower own has lower) (inl here) =
        (let both : Some f ≡ Some (Region asked number) = sym is ∙ ap (slice_get fs) (sym here) ∙ at in
        let region : f ≡ Region asked number = cc in
        let levels : Some number ≡ Some own = sym (ap level_of region) ∙ has in
        let level_is : number ≡ own = cc in omega arith)

-- the three ways in which a look at one frame goes on

pub outside_ends : (l : Look) (fs : List Frame) (p k : ℕ) (f : Frame) → k ≡ p + 1 → k ≤ length fs → slice_get fs p ≡ Some f → seen_as (level l.path) f ≡ seen.Outside
    → LevelsRise fs → find (is_ended l fs) (range_with_len k (length fs - k)) ≡ outermost_ended l fs
outside_ends l fs p k f next few is out rise =
    let all : length fs ≡ k + (length fs - k) = omega arith in
    let here : 0 + k ≡ k = omega arith in
    sym (ap (λ n. find (is_ended l fs) (range_with_len 0 n)) all
    ∙ find_skips (is_ended l fs) 0 k (length fs - k) (λ i low high. none_below l fs p i f is out rise (omega arith))
    ∙ ap (λ n. find (is_ended l fs) (range_with_len n (length fs - k))) here)

pub none_opens : (fs : List Frame) (p k : ℕ) (f : Frame) → k ≡ p + 1 → slice_get fs p ≡ Some f → opens_list f ≡ false
    → list_all (λ f. not (opens_list f)) (drop k fs) ≡ true → list_all (λ f. not (opens_list f)) (drop p fs) ≡ true
none_opens fs p k f next is shut above =
    innermost_more fs p f is ∙ ap (λ b. not b && is_innermost fs p) shut ∙ ap (λ n. list_all (λ f. not (opens_list f)) (drop n fs)) (sym next) ∙ above

pub one_more : (l : Look) (fs : List Frame) (p k : ℕ) (b : Bool) → k ≡ p + 1 → k ≤ length fs → is_ended l fs p ≡ b
    → find (is_ended l fs) (range_with_len p (length fs - p)) ≡ cond b (Some p) (find (is_ended l fs) (range_with_len k (length fs - k)))
one_more l fs p k b next few is =
    find_before (is_ended l fs) p (length fs - k) (length fs - p) (omega arith)
    ∙ ap (λ t. cond t (Some p) (find (is_ended l fs) (range_with_len (p + 1) (length fs - k)))) is
    ∙ ap (λ n. cond b (Some p) (find (is_ended l fs) (range_with_len n (length fs - k)))) (sym next)

-- what a frame within the level is

pub shut_within : (n : ℕ) (f : Frame) → seen_as n f ≡ seen.Within → opens_list f ≡ false
shut_within n (Body template alternative pc locals number spent) e = refl
shut_within n (Call procedure pc locals number) e = refl
shut_within n (Attributes next asked) e = absurd (cc)
shut_within n (Loop turn) e = refl
shut_within n (Region asked number) e = refl
shut_within n (Source buffer next asked) e = absurd (cc)
shut_within n (Skip depth) e = refl
shut_within n (Pass base number spent) e = refl

pub not_ended_within : (l : Look) (fs : List Frame) (p : ℕ) (f : Frame) → slice_get fs p ≡ Some f → seen_as (level l.path) f ≡ seen.Within
    → is_ended l fs p ≡ false
not_ended_within l fs p f is e = not_ended l fs p none
  where
    none : (asked number : ℕ) → is_innermost fs p ≡ true → slice_get fs p ≡ Some (Region asked number) → number ≡ level l.path → ⊥
    none asked number sight at same =
        let both : Some f ≡ Some (Region asked number) = sym is ∙ at in
        let region : f ≡ Region asked number = cc in
        let looked : seen.Region asked ≡ seen.Within =
        ap (λ b. cond b (seen.Region asked) (within (level l.path) number)) (sym (eq-eqb number (level l.path) same)) ∙ ap (seen_as (level l.path)) (sym region) ∙ e in
        absurd (cc)

no_region : (n own asked : ℕ) → within n own ≡ seen.Region asked → ⊥
no_region n own asked e = by (ltb own n) e
  where
    by : (b : Bool) → cond b seen.Outside seen.Within ≡ seen.Region asked → ⊥
    by true e = absurd (cc)
    by false e = absurd (cc)

pub region_seen : (n : ℕ) (f : Frame) (asked : ℕ) → seen_as n f ≡ seen.Region asked → f ≡ Region asked n
region_seen n (Body template alternative pc locals number spent) asked e = absurd (no_region n number asked e)
region_seen n (Call procedure pc locals number) asked e = absurd (no_region n number asked e)
region_seen n (Attributes next a) asked e = absurd (cc)
region_seen n (Loop turn) asked e = absurd (cc)
region_seen n (Region a number) asked e = by (eqb number n) refl e
  where
    by : (b : Bool) → eqb number n ≡ b → cond b (seen.Region a) (within n number) ≡ seen.Region asked → Region a number ≡ Region asked n
    by true is e = (let same : a ≡ asked = cc in let own : number ≡ n = eqb-true number n is in cc)
    by false is e = absurd (no_region n number asked e)
region_seen n (Source buffer next a) asked e = absurd (cc)
region_seen n (Skip depth) asked e = absurd (cc)
region_seen n (Pass base number spent) asked e = absurd (no_region n number asked e)

pub region_ended : (l : Look) (fs : List Frame) (p : ℕ) (f : Frame) (asked : ℕ) → slice_get fs p ≡ Some f → seen_as (level l.path) f ≡ seen.Region asked
    → is_innermost fs p ≡ true → is_ended l fs p ≡ asked_ends l (take p fs) asked
region_ended l fs p f asked is e sight =
    let n = level l.path in
    ap (λ b. b && option_map_or (ends_frame l (take p fs)) (slice_get fs p) false) sight
    ∙ ap (λ o. option_map_or (ends_frame l (take p fs)) o false) (is ∙ ap (λ x. Some x) (region_seen n f asked e))
    ∙ ap (λ b. b && asked_ends l (take p fs) asked) (eq-eqb n n refl)

pub shut_region : (n : ℕ) (f : Frame) (asked : ℕ) → seen_as n f ≡ seen.Region asked → opens_list f ≡ false
shut_region n f asked e = ap opens_list (region_seen n f asked e)
