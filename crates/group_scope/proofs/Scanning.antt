-- The best of a row, which has the best first.
use Rattle.std.proofs.Common.{◌≡◌, inl, inr, ℕ, ◌+◌, ◌<◌, nat_lt, ◌==◌, ◌&&◌, Bool, true, false, not, if◌then◌else◌, List, [], ◌∷◌, ◌++◌, Option, Some, None, map, filter, take, drop, length, get_or, refl, ap, sym, subst, ◌∙◌}
use Rattle.std.proofs.lemmas.List.{append-nil, take-append-drop, take_more}
use Rattle.std.proofs.lemmas.Grind.{flat_map-append}
use Rattle.group_scope.specs.Asking.{Asked, can_be, is_better_than_best, may_be_better, ranks, ranks_of_home, ranks_of_test}
use Rattle.group_scope.specs.Entries.{IsBestFirst, ranked}
use Rattle.group_scope.specs.Rank.{improved, is_better, is_better_within, number_of}
use Rattle.group_scope.specs.Rows.{row}
use Rattle.group_scope.specs.declared.entry.Entry.{Entry}
use Rattle.group_scope.specs.declared.key.Home.{Home}
use Rattle.group_scope.specs.declared.key.Test.{Test}
use Rattle.group_scope.specs.declared.rank.Category.{Category}
use Rattle.group_scope.specs.declared.rank.Category.TheVariants.{Own, Around, Everywhere}
use Rattle.group_scope.specs.declared.rank.Rank.{Rank}
use Rattle.group_scope.specs.declared.rows.Rows.{Rows}
use Rattle.group_scope.proofs.Among.{Among, InTurn, among_filter_from, among_flat_from, among_map_from, drop_at, in_turn, in_turn_drop}
use Rattle.group_scope.proofs.Best.{not_better_on, settled, taken}
use Rattle.group_scope.proofs.Ordering.{asymmetric, never_itself, or_left}
use Rattle.group_scope.proofs.Turns.{filter-append, improved-append}

-- a later one is no better
abbrev pub NotBehind : Entry → Entry → Type 0
NotBehind e later = is_better_within (ranked later Own) (ranked e Own) ≡ false

-- within one category the category doesn't count
within_category : (c : Category) (a b : Entry) → is_better_within (ranked a Own) (ranked b Own) ≡ false → is_better (ranked a c) (ranked b c) ≡ false
within_category Own a b h = h
within_category Around a b h = h
within_category Everywhere a b h = h

-- the ranks of entries, in a category
pub ranks_from : (q : Asked) (c : Category) (es : List Entry) (r : Rank) → Among (ranks q c es) r → (e : Entry) × Among es e × (can_be q e ≡ true) × (ranked e c ≡ r)
ranks_from q c es r h =
    let (e, among, is) = among_map_from (λ e. ranked e c) (filter (can_be q) es) r h in
    let (within, can) = among_filter_from (can_be q) es e among in
    (e, within, can, is)

-- none behind is better
none_better : (q : Asked) (c : Category) (e : Entry) (rest : List Entry) → InTurn NotBehind (e ∷ rest) → (r : Rank) → Among (ranks q c rest) r → is_better r (ranked e c) ≡ false
none_better q c e rest (first, others) r h =
    let (f, among, can, is) = ranks_from q c rest r h in
    subst (λ x. is_better x (ranked e c) ≡ false) is (within_category c f e (first f among))

nor_itself : (q : Asked) (c : Category) (e : Entry) (rest : List Entry) → InTurn NotBehind (e ∷ rest) → (r : Rank) → Among (ranks q c (e ∷ rest)) r → is_better r (ranked e c) ≡ false
nor_itself q c e rest (first, others) r h =
    let (f, among, can, is) = ranks_from q c (e ∷ rest) r h in
    elim among [
      | inl p ↦ subst (λ x. is_better x (ranked e c) ≡ false) (ap (λ y. ranked y c) p ∙ is) (never_itself (ranked e c))
      | inr p ↦ subst (λ x. is_better x (ranked e c) ≡ false) is (within_category c f e (first f p))
    ]

-- what was looked at can't be chosen
skipped : (q : Asked) (c : Category) (row : List Entry) (i : ℕ) → filter (can_be q) (take i row) ≡ [] → ranks q c row ≡ ranks q c (drop i row)
skipped q c row i none =
    ap (map (λ e. ranked e c))
    (ap (filter (can_be q)) (sym (take-append-drop i row))
    ∙ filter-append (can_be q) (take i row) (drop i row)
    ∙ ap (λ l. l ++ filter (can_be q) (drop i row)) none)

from_here : (q : Asked) (c : Category) (row : List Entry) (i : ℕ) (e : Entry) → filter (can_be q) (take i row) ≡ [] → i < length row → e ≡ get_or row i e
    → ranks q c row ≡ ranks q c (e ∷ drop (i + 1) row)
from_here q c row i e none h at = skipped q c row i none ∙ ap (ranks q c) (drop_at row i e h at)

ordered_here : (row : List Entry) (i : ℕ) (e : Entry) → IsBestFirst row → i < length row → e ≡ get_or row i e → InTurn NotBehind (e ∷ drop (i + 1) row)
ordered_here row i e ordered h at =
    subst (InTurn NotBehind) (drop_at row i e h at) (in_turn_drop NotBehind row i (in_turn NotBehind row ordered))

-- one that can't be chosen is passed over
pub passed_over : (q : Asked) (row : List Entry) (i : ℕ) (e : Entry) → filter (can_be q) (take i row) ≡ [] → i < length row → e ≡ get_or row i e → can_be q e ≡ false
    → filter (can_be q) (take (i + 1) row) ≡ []
passed_over q row i e none h at can =
    ap (filter (can_be q)) (take_more row i e h ∙ ap (λ y. take i row ++ y ∷ []) (sym at))
    ∙ filter-append (can_be q) (take i row) (e ∷ [])
    ∙ ap (λ l. l ++ filter (can_be q) (e ∷ [])) none
    ∙ ap (λ b. if b then e ∷ [] else []) can

-- where one isn't better than the best so far, no later one is
pub stopped : (q : Asked) (c : Category) (row : List Entry) (i : ℕ) (e : Entry) (best : Option Rank)
    → IsBestFirst row → filter (can_be q) (take i row) ≡ [] → i < length row → e ≡ get_or row i e → is_better_than_best (ranked e c) best ≡ false
    → best ≡ improved best (ranks q c row)
stopped q c row i e None ordered none h at worse = cc
stopped q c row i e (Some b) ordered none h at worse =
    sym (ap (improved (Some b)) (from_here q c row i e none h at)
    ∙ settled b (ranks q c (e ∷ drop (i + 1) row)) (λ r among. not_better_on r (ranked e c) b (nor_itself q c e (drop (i + 1) row) (ordered_here row i e ordered h at) r among) worse))

-- the first that can be chosen is the best, where it is better than the best so far
pub found : (q : Asked) (c : Category) (row : List Entry) (i : ℕ) (e : Entry) (best : Option Rank)
    → IsBestFirst row → filter (can_be q) (take i row) ≡ [] → i < length row → e ≡ get_or row i e → is_better_than_best (ranked e c) best ≡ true → can_be q e ≡ true
    → Some (ranked e c) ≡ improved best (ranks q c row)
found q c row i e best ordered none h at better can =
    let rest = drop (i + 1) row in
    sym (ap (improved best)
    (from_here q c row i e none h at ∙ ap (λ t. map (λ e. ranked e c) (if t then e ∷ filter (can_be q) rest else filter (can_be q) rest)) can)
    ∙ taken best (ranked e c) (ranks q c rest) (λ b is. subst (λ o. is_better_than_best (ranked e c) o ≡ true) is better) (none_better q c e rest (ordered_here row i e ordered h at)))

-- no item of the row can be chosen
pub exhausted : (q : Asked) (c : Category) (row : List Entry) (best : Option Rank) → filter (can_be q) row ≡ [] → best ≡ improved best (ranks q c row)
exhausted q c row best none = sym (ap (λ l. improved best (map (λ e. ranked e c) l)) none)

-- the ranks of a home are of its category
of_category : (q : Asked) (rows : Rows) (tests : List (Option Test)) (c : Category) (h : Home) (r : Rank) → Among (ranks_of_home q rows tests c h) r → r.category ≡ c
of_category q rows tests c h r among =
    let (test, in_tests, of_test) = among_flat_from (ranks_of_test q rows c h) tests r among in at test of_test
  where
    at : (test : Option Test) → Among (ranks_of_test q rows c h test) r → r.category ≡ c
    at None k = absurd k
    at (Some test) k = let (e, within, can, is) = ranks_from q c _ r k in ap (λ x. x.category) (sym is)

less_is_better : (b r : Rank) → not (may_be_better (Some b) r.category) ≡ true → is_better r b ≡ false
less_is_better b r h = asymmetric b r (or_left (nat_lt (number_of b.category) (number_of r.category)) (number_of b.category == number_of r.category && is_better_within b r) (twice (nat_lt (number_of b.category) (number_of r.category)) h))
  where
    twice : (x : Bool) → not (not x) ≡ true → x ≡ true
    twice true h = refl
    twice false h = cc

-- none of a category can be better
pub too_late : (q : Asked) (rows : Rows) (tests : List (Option Test)) (c : Category) (h : Home) (best : Option Rank) → may_be_better best c ≡ false
    → best ≡ improved best (ranks_of_home q rows tests c h)
too_late q rows tests c h None late = cc
too_late q rows tests c h (Some b) late =
    sym (settled b (ranks_of_home q rows tests c h) (λ r among.
    less_is_better b r (ap not (ap (may_be_better (Some b)) (of_category q rows tests c h r among) ∙ late))))

-- one test more
pub test_more : (q : Asked) (rows : Rows) (c : Category) (h : Home) (best : Option Rank) (tests : List (Option Test)) (i : ℕ) (test : Option Test)
    → i < length tests → test ≡ get_or tests i test
    → improved best (ranks_of_home q rows (take (i + 1) tests) c h) ≡ improved (improved best (ranks_of_home q rows (take i tests) c h)) (ranks_of_test q rows c h test)
test_more q rows c h best tests i test l at =
    ap (λ ts. improved best (ranks_of_home q rows ts c h)) (take_more tests i test l ∙ ap (λ y. take i tests ++ y ∷ []) (sym at))
    ∙ ap (improved best) (flat_map-append (ranks_of_test q rows c h) (take i tests) (test ∷ []) ∙ ap (λ l. ranks_of_home q rows (take i tests) c h ++ l) (append-nil (ranks_of_test q rows c h test)))
    ∙ improved-append best (ranks_of_home q rows (take i tests) c h) (ranks_of_test q rows c h test)

-- a home without rows adds nothing
pub no_rows : (q : Asked) (rows : Rows) (tests : List (Option Test)) (c : Category) (h : Home) (best : Option Rank) → ((test : Test) → row rows (record { home = h; test = test }) ≡ [])
    → best ≡ improved best (ranks_of_home q rows tests c h)
no_rows q rows tests c h best none = sym (ap (improved best) (empty tests))
  where
    empty : (tests : List (Option Test)) → ranks_of_home q rows tests c h ≡ []
    empty [] = refl
    empty (None ∷ tests) = empty tests
    empty (Some test ∷ tests) = ap (λ row. ranks q c row ++ ranks_of_home q rows tests c h) (none test) ∙ empty tests
