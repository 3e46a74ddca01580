-- Lemmas on the words of a text.
use Rattle.std.proofs.Common.{◌≡◌, ◌↔◌, sym, ℕ, Bool, true, false, not, cond, List, [], ◌∷◌, ◌++◌, filter, flat_map, refl, ap}
use Rattle.std.specs.List.{slice_split, onto_first, join_by}
use Rattle.stx_base.specs.Character.{is_space}
use Rattle.stxpath_values.specs.Conversion.{is_empty}
use Rattle.stxpath_values.specs.Words.{normalized}

-- what is still to be written for the characters to come, where something stands before them or not, and a space is due or not
abbrev pub cont : Bool → Bool → List ℕ → List ℕ
cont some due [] = []
cont some due (c ∷ cs) = cond (is_space c) (cont some some cs) (cond due (32 ∷ c ∷ cont true false cs) (c ∷ cont true false cs))

abbrev pub nonempty : List ℕ → Bool
nonempty w = not (is_empty w)

-- words, each behind a space
abbrev pub spaced : List (List ℕ) → List ℕ
spaced ws = flat_map (λ w. (32 ∷ []) ++ w) (filter nonempty ws)

-- the first of parts as it stands, and then words
abbrev pub going_on : List (List ℕ) → List ℕ
going_on [] = []
going_on (w ∷ ws) = w ++ spaced ws

-- what is still to be written for characters whose parts are these
pub record Writes (inside behind first : List ℕ) (ws : List (List ℕ)) : Type 0 where
  pub goes_on : inside ≡ going_on ws
  pub begins : behind ≡ spaced ws
  pub joins : first ≡ join_by (λ w. w) (32 ∷ []) (filter nonempty ws)

step : (b : Bool) (c : ℕ) (inside behind first : List ℕ) (ws : List (List ℕ)) → Writes inside behind first ws
    → Writes (cond b behind (c ∷ inside)) (cond b behind (32 ∷ c ∷ inside)) (cond b first (c ∷ inside)) (cond b ([] ∷ ws) (onto_first c ws))
step true c inside behind first ws w = record { goes_on = w.begins; begins = w.begins; joins = w.joins }
step false c inside behind first [] w = record {
  goes_on = ap (λ l. c ∷ l) w.goes_on;
  begins = ap (λ l. 32 ∷ c ∷ l) w.goes_on;
  joins = ap (λ l. c ∷ l) w.goes_on;
}
step false c inside behind first (v ∷ vs) w = record {
  goes_on = ap (λ l. c ∷ l) w.goes_on;
  begins = ap (λ l. 32 ∷ c ∷ l) w.goes_on;
  joins = ap (λ l. c ∷ l) w.goes_on;
}

pub writes : (cs : List ℕ) → Writes (cont true false cs) (cont true true cs) (cont false false cs) (slice_split is_space cs)
writes [] = record { goes_on = refl; begins = refl; joins = refl }
writes (c ∷ cs) = step (is_space c) c _ _ _ _ (writes cs)

-- the words of a text joined are what is written for all its characters
pub normalized-cont : (cs : List ℕ) → normalized cs ≡ cont false false cs
normalized-cont cs = sym (writes cs).joins

-- what a test for emptiness answers
pub is_empty_is : {A : Type 0} (b : Bool) (xs : List A) → (b ≡ true) ↔ (xs ≡ []) → b ≡ is_empty xs
is_empty_is b [] h = h.1 refl
is_empty_is true (x ∷ xs) h = absurd (let e : x ∷ xs ≡ [] = h.0 refl in cc)
is_empty_is false (x ∷ xs) h = refl

-- white space writes nothing, and a space is due behind what stands
pub cont_space : (some due : Bool) (c : ℕ) (cs : List ℕ) → is_space c ≡ true → cont some due (c ∷ cs) ≡ cont some some cs
cont_space some due c cs e = ap (λ b. cond b (cont some some cs) (cond due (32 ∷ c ∷ cont true false cs) (c ∷ cont true false cs))) e
