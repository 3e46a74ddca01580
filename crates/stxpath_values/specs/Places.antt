-- Places in a list, counted from 1, and the first place of a word.
use Rattle.std.specs.Prelude.{ℕ, ◌+◌, ℤ, pos, ◌+ℤ◌, int_le, int_lt, Bool, true, ◌&&◌, nat_eq, List, [], length, take, drop, map, filter, find, Option, Some, None}
use Rattle.std.specs.Option.{option_map_or}
use Rattle.std.specs.List.{enumerate_from, range_with_len, starts_with, items_where_true}

-- the items at the places that pass the test
abbrev pub at_places : {A : Type 0} → (ℤ → Bool) → List A → List A
at_places test xs = map (λ e. e.1) (filter (λ e. test (pos e.0)) (enumerate_from 1 xs))

-- whether p < start + length, where there is a length
abbrev pub is_before_end : ℤ → Option ℤ → ℤ → Bool
is_before_end start None p = true
is_before_end start (Some len) p = int_lt p (start +ℤ len)

-- whether start ≤ p and, where there is a length, p < start + length
abbrev pub is_within : ℤ → Option ℤ → ℤ → Bool
is_within start len p = int_le start p && is_before_end start len p

-- whether the place of the item at an index, from 0, is below a place
abbrev pub is_before : ℤ → ℕ → Bool
is_before place i = int_lt (pos (i + 1)) place

-- the places of what is true
abbrev pub places_of : List Bool → List ℕ
places_of holds = items_where_true holds (range_with_len 1 (length holds))

-- whether the word stands in the text behind its first i characters
abbrev pub stands_at : List ℕ → List ℕ → ℕ → Bool
stands_at word cs i = starts_with nat_eq (drop i cs) word

-- how many characters stand before the word's first occurrence: the least number behind which it stands
abbrev pub first_occurrence : List ℕ → List ℕ → Option ℕ
first_occurrence word cs = find (stands_at word cs) (range_with_len 0 (length cs + 1))

-- what stands before the first occurrence of the word, and after it
abbrev pub before_word : List ℕ → List ℕ → List ℕ
before_word word cs = option_map_or (λ i. take i cs) (first_occurrence word cs) []

abbrev pub after_word : List ℕ → List ℕ → List ℕ
after_word word cs = option_map_or (λ i. drop (i + length word) cs) (first_occurrence word cs) []
