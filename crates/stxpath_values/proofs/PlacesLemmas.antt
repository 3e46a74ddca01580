-- Lemmas on places.
use Rattle.std.proofs.Common.{◌≡◌, ℕ, zero, suc, ◌+◌, ◌-◌, ◌<◌, ◌≤◌, Bool, true, false, ℤ, pos, negsuc, List, [], ◌∷◌, length, take, drop, map, filter, find, Some, None, refl, ap, sym, ◌∙◌, arith, cond, add-zero, ◌++◌, get_or, length-append, position, ⊎_elim, length-take, length-drop}
use Rattle.std.proofs.Math.IntN.{+ℤ_one}
use Rattle.std.proofs.Math.Nat.{sub-zero}
use Rattle.std.proofs.Math.Seq.{drop-nil, take-nil}
use Rattle.std.proofs.lemmas.Bool.{cases_eq, cases_lt}
use Rattle.std.proofs.lemmas.Bool.Decides.{nat_tests, Decides-int_eq}
use Rattle.std.specs.Bool.{Decides}
use Rattle.std.specs.Prelude.{nat_eq, nat_le, nat_lt, not, ◌&&◌, max, int_le, int_lt}
use Rattle.std.specs.List.{enumerate_from, range_with_len, position_or_len}
use Rattle.std.specs.Option.{option_or}
use Rattle.std.proofs.lemmas.List.Folds.{position_or_len_push}
use Rattle.std.proofs.lemmas.List.Sums.{prefix_len-le-length}
use Rattle.std.proofs.lemmas.List.{take_more}
use Rattle.std.specs.Ordering.{int_eq}
use Rattle.stxpath_values.specs.Places.{at_places, is_within}

-- the test passes, of the places that are counted from n, those from one index up to another
pub record IsWindow {A : Type 0} (test : ℕ → Bool) (n from to : ℕ) (xs : List A) : Type 0 where
  pub inside : (i : ℕ) → i < length xs → from ≤ i → i < to → test (n + i) ≡ true
  pub below : (i : ℕ) → i < length xs → i < from → test (n + i) ≡ false
  pub above : (i : ℕ) → i < length xs → to ≤ i → test (n + i) ≡ false

tail : {A : Type 0} (test : ℕ → Bool) (n from to : ℕ) (x : A) (xs : List A) → IsWindow test n from to (x ∷ xs) → IsWindow test (n + 1) (from - 1) (to - 1) xs
tail test n from to x xs w = record {
  inside = λ i l a b. let e : n + 1 + i ≡ n + suc i = omega arith in ap test e ∙ w.inside (suc i) (omega arith) (omega arith) (omega arith);
  below = λ i l a. let e : n + 1 + i ≡ n + suc i = omega arith in ap test e ∙ w.below (suc i) (omega arith) (omega arith);
  above = λ i l a. let e : n + 1 + i ≡ n + suc i = omega arith in ap test e ∙ w.above (suc i) (omega arith) (omega arith);
}

-- what passes is what lies between the indices
pub filter_window : {A : Type 0} (test : ℕ → Bool) (n from to : ℕ) (xs : List A) → IsWindow test n from to xs
    → map (λ (e : ℕ × A). e.1) (filter (λ (e : ℕ × A). test e.0) (enumerate_from n xs)) ≡ take (to - from) (drop from xs)
filter_window test n from to [] w = sym (ap (take (to - from)) (drop-nil from) ∙ take-nil (to - from))
filter_window test n zero zero (x ∷ xs) w =
    let e : test n ≡ false = ap test (sym (add-zero n)) ∙ w.above 0 (omega arith) (omega arith) in
    rw e (filter_window test (n + 1) 0 0 xs (tail test n 0 0 x xs w))
filter_window test n zero (suc to) (x ∷ xs) w =
    let e : test n ≡ true = ap test (sym (add-zero n)) ∙ w.inside 0 (omega arith) (omega arith) (omega arith) in
    let k : suc to - 1 - 0 ≡ to = omega arith in
    rw (e, sub-zero) (ap (λ l. x ∷ l) (filter_window test (n + 1) 0 (suc to - 1) xs (tail test n 0 (suc to) x xs w) ∙ ap (λ j. take j xs) k))
filter_window test n (suc from) to (x ∷ xs) w =
    let e : test n ≡ false = ap test (sym (add-zero n)) ∙ w.below 0 (omega arith) (omega arith) in
    let f : suc from - 1 ≡ from = omega arith in
    let k : to - 1 - from ≡ to - suc from = omega arith in
    rw e (filter_window test (n + 1) (suc from - 1) (to - 1) xs (tail test n (suc from) to x xs w)
    ∙ ap (λ j. take (to - 1 - j) (drop j xs)) f ∙ ap (λ j. take j (drop from xs)) k)

-- the least number of a range that passes
pub find_range : (test : ℕ → Bool) (a n k : ℕ) → a ≤ k → k < a + n → test k ≡ true → ((j : ℕ) → a ≤ j → j < k → test j ≡ false)
    → find test (range_with_len a n) ≡ Some k
find_range test a zero k low high passes others = absurd (omega arith)
find_range test a (suc n) k low high passes others =
    let later : a < k → find test (range_with_len (a + 1) n) ≡ Some k =
    λ lt. find_range test (a + 1) n k (omega arith) (omega arith) passes (λ j l h. others j (omega arith) h) in
    by (test a) refl later
  where
    by : (b : Bool) → test a ≡ b → (a < k → find test (range_with_len (a + 1) n) ≡ Some k) → cond b (Some a) (find test (range_with_len (a + 1) n)) ≡ Some k
    by true e later = ap Some (⊎_elim (λ same. same) (λ apart. let lt : a < k = omega arith in let f : test a ≡ false = others a (omega arith) lt in cc) (cases_eq a k))
    by false e later = ⊎_elim (λ (same : a ≡ k). let f : test a ≡ test k = ap test same in cc) (λ apart. later (omega arith)) (cases_eq a k)

-- none where none passes
pub find_range_none : (test : ℕ → Bool) (a n : ℕ) → ((j : ℕ) → a ≤ j → j < a + n → test j ≡ false) → find test (range_with_len a n) ≡ None
find_range_none test a zero others = refl
find_range_none test a (suc n) others = rw (others a (omega arith) (omega arith)) (find_range_none test (a + 1) n (λ j low high. others j (omega arith) (omega arith)))

nothing_found : (k : ℕ) → None ≡ Some k → ⊥
nothing_found k e = cc

-- the number that is found passes and is in the range
pub find_range_is : (test : ℕ → Bool) (a n k : ℕ) → find test (range_with_len a n) ≡ Some k → (test k ≡ true) × (k < a + n)
find_range_is test a zero k e = absurd (nothing_found k e)
find_range_is test a (suc n) k e = by (test a) refl e (λ f. find_range_is test (a + 1) n k f)
  where
    by : (b : Bool) → test a ≡ b → cond b (Some a) (find test (range_with_len (a + 1) n)) ≡ Some k
        → (find test (range_with_len (a + 1) n) ≡ Some k → (test k ≡ true) × (k < a + 1 + n)) → (test k ≡ true) × (k < a + suc n)
    by true t f later = let same : a ≡ k = cc in (ap test (sym same) ∙ t, omega arith)
    by false t f later = let r = later f in (r.0, omega (arith, r.1))

-- items are dropped one number after another
pub drop_more : {A : Type 0} (i n : ℕ) (xs : List A) → drop (i + n) xs ≡ drop n (drop i xs)
drop_more zero n xs = let e : 0 + n ≡ n = omega arith in ap (λ k. drop k xs) e
drop_more (suc i) n [] = drop-nil (suc i + n) ∙ sym (drop-nil n)
drop_more (suc i) n (x ∷ xs) = let e : suc i + n ≡ suc (i + n) = omega arith in ap (λ k. drop k (x ∷ xs)) e ∙ drop_more i n xs

-- the indices from one up to another, where the other may stand first
pub between : (from to i : ℕ) → (nat_le from i && nat_lt i (max to from)) ≡ (not (nat_lt i from) && nat_lt i to)
between from to i = ⊎_elim
    (λ (lt : i < from).
    let e : nat_le from i ≡ false = grind (arith, nat_tests) in
    let f : nat_lt i from ≡ true = grind (arith, nat_tests) in
    rw (e, f) refl)
    (λ (ge : from ≤ i).
    let e : nat_le from i ≡ true = grind (arith, nat_tests) in
    let f : nat_lt i from ≡ false = grind (arith, nat_tests) in
    rw (e, f) (⊎_elim
    (λ (l : i < to). let g : nat_lt i (max to from) ≡ true = grind (arith, nat_tests) in let h : nat_lt i to ≡ true = grind (arith, nat_tests) in g ∙ sym h)
    (λ (l : to ≤ i). let g : nat_lt i (max to from) ≡ false = grind (arith, nat_tests) in let h : nat_lt i to ≡ false = grind (arith, nat_tests) in g ∙ sym h)
    (cases_lt i to)))
    (cases_lt i from)

nat_le_not_lt : (m n : ℕ) → nat_le m n ≡ not (nat_lt n m)
nat_le_not_lt m n = ⊎_elim
    (λ (l : n < m). let g : nat_le m n ≡ false = grind (arith, nat_tests) in let h : nat_lt n m ≡ true = grind (arith, nat_tests) in rw (g, h) refl)
    (λ (l : m ≤ n). let g : nat_le m n ≡ true = grind (arith, nat_tests) in let h : nat_lt n m ≡ false = grind (arith, nat_tests) in rw (g, h) refl)
    (cases_lt n m)

pub le_not_lt : (x y : ℤ) → int_le x y ≡ not (int_lt y x)
le_not_lt (pos m) (pos n) = nat_le_not_lt m n
le_not_lt (pos m) (negsuc n) = refl
le_not_lt (negsuc m) (pos n) = refl
le_not_lt (negsuc m) (negsuc n) = nat_le_not_lt n m

not_true : (b : Bool) → (b ≡ true → ⊥) → b ≡ false
not_true true f = absurd (f refl)
not_true false f = refl

and_left : (a b : Bool) → a ≡ false → (a && b) ≡ false
and_left true b e = cc
and_left false b e = refl

and_right : (a b : Bool) → b ≡ false → (a && b) ≡ false
and_right true b e = e
and_right false b e = refl

-- the items at the places that pass a test are those from one index up to another
pub at_places_between : {A : Type 0} (test : ℤ → Bool) (from to size : ℕ) (xs : List A) → length xs ≤ size
    → ((i : ℕ) → i < size → test (pos (i + 1)) ≡ (nat_le from i && nat_lt i to)) → at_places test xs ≡ take (to - from) (drop from xs)
at_places_between test from to size xs short within = filter_window (λ p. test (pos p)) 1 from to xs (record {
  inside = λ i l a b. let f : nat_le from i ≡ true = grind (arith, nat_tests) in let g : nat_lt i to ≡ true = grind (arith, nat_tests) in at i l ∙ rw (f, g) refl;
  below = λ i l a. let f : nat_le from i ≡ false = grind (arith, nat_tests) in at i l ∙ and_left _ _ f;
  above = λ i l a. let g : nat_lt i to ≡ false = grind (arith, nat_tests) in at i l ∙ and_right _ _ g;
})
  where
    at : (i : ℕ) → i < length xs → test (pos (1 + i)) ≡ (nat_le from i && nat_lt i to)
    at i l = let e : 1 + i ≡ i + 1 = omega arith in ap (λ p. test (pos p)) e ∙ within i (omega arith)

-- a place is another exactly where it is within one item from there
pub is_place : (n : ℤ) (i : ℕ) → int_eq n (pos (i + 1)) ≡ is_within n (Some (pos 1)) (pos (i + 1))
is_place (pos m) i = same m (i + 1) _ (Decides-int_eq (pos m) (pos (i + 1)))
  where
    same : (m p : ℕ) (b : Bool) → Decides b (pos m ≡ pos p) → b ≡ (nat_le m p && nat_lt p (m + 1))
    same m p b d = ⊎_elim
        (λ (e : m ≡ p).
        let f : b ≡ true = d.1 (ap pos e) in
        let g : nat_le m p ≡ true = grind (arith, nat_tests) in
        let h : nat_lt p (m + 1) ≡ true = grind (arith, nat_tests) in
        f ∙ rw (g, h) refl)
        (λ apart.
        let f : b ≡ false = not_true b (λ t. apart (let e = d.0 t in cc)) in
        f ∙ ⊎_elim
        (λ (l : m < p). let h : nat_lt p (m + 1) ≡ false = grind (arith, nat_tests) in sym (and_right _ _ h))
        (λ (l : p ≤ m). let ne : p < m = omega arith in let g : nat_le m p ≡ false = grind (arith, nat_tests) in sym (and_left _ _ g))
        (cases_lt m p))
        (cases_eq m p)
is_place (negsuc zero) i = let none : nat_lt (i + 1) 0 ≡ false = grind (arith, nat_tests) in sym none
is_place (negsuc (suc m)) i = sym (ap (λ z. int_lt (pos (i + 1)) z) (+ℤ_one (negsuc (suc m))))

-- so the item at a place is among the items within one from there
pub at_place : {A : Type 0} (n : ℤ) (from to : ℕ) (xs : List A)
    → ((i : ℕ) → i < length xs → is_within n (Some (pos 1)) (pos (i + 1)) ≡ (nat_le from i && nat_lt i to)) → at_places (int_eq n) xs ≡ take (to - from) (drop from xs)
at_place n from to xs within = at_places_between (int_eq n) from to (length xs) xs (omega arith) (λ i l. is_place n i ∙ within i l)

-- there are as many as lie between the indices
pub length_between : {A : Type 0} (from to : ℕ) (xs : List A) → to ≤ length xs → length (take (to - from) (drop from xs)) ≡ to - from
length_between from to xs h = omega (arith, length-take (to - from) (drop from xs), length-drop from xs)

-- the first place among items and one more
position_push : {A : Type 0} (test : A → Bool) (xs : List A) (y : A)
    → position test (xs ++ y ∷ []) ≡ option_or (position test xs) (cond (test y) (Some (length xs)) None)
position_push test xs y =
    go (position_or_len test xs) (length xs) (length (xs ++ y ∷ [])) (position_or_len test (xs ++ y ∷ [])) (test y)
    (prefix_len-le-length (λ x. not (test x)) xs) (length-append xs (y ∷ [])) (position_or_len_push test xs y)
  where
    go : (n l k m : ℕ) (b : Bool) → n ≤ l → k ≡ l + 1 → m ≡ cond (nat_eq n l) (l + cond b 0 1) n
        → cond (nat_lt m k) (Some m) None ≡ option_or (cond (nat_lt n l) (Some n) None) (cond b (Some l) None)
    go n l k m b le long e = ⊎_elim
        (λ (lt : n < l).
        let f : nat_eq n l ≡ false = grind (arith, nat_tests) in
        let g : nat_lt n l ≡ true = grind (arith, nat_tests) in
        let same : m ≡ n = e ∙ rw f refl in
        let h : nat_lt m k ≡ true = grind (arith, nat_tests) in
        rw (h, g) (ap Some same))
        (λ (ge : l ≤ n).
        let f : nat_eq n l ≡ true = grind (arith, nat_tests) in
        let g : nat_lt n l ≡ false = grind (arith, nat_tests) in
        rw g (at_end b (e ∙ rw f refl)))
        (cases_lt n l)
      where
        at_end : (b : Bool) → m ≡ l + cond b 0 1 → cond (nat_lt m k) (Some m) None ≡ cond b (Some l) None
        at_end true same = let h : nat_lt m k ≡ true = grind (arith, nat_tests) in let e : m ≡ l = omega arith in rw h (ap Some e)
        at_end false same = let h : nat_lt m k ≡ false = grind (arith, nat_tests) in rw h refl

pub position_step : {A : Type 0} (test : A → Bool) (xs : List A) (i : ℕ) (d : A) → i < length xs
    → position test (take (i + 1) xs) ≡ option_or (position test (take i xs)) (cond (test (get_or xs i d)) (Some i) None)
position_step test xs i d h =
    let n : length (take i xs) ≡ i = omega (arith, length-take i xs) in
    ap (position test) (take_more xs i d h) ∙ position_push test (take i xs) (get_or xs i d)
    ∙ ap (λ j. option_or (position test (take i xs)) (cond (test (get_or xs i d)) (Some j) None)) n
