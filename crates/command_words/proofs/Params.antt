-- The parameters of words, one after the other.
use Rattle.std.proofs.Common.{◌≡◌, ◌∙◌, ◌+◌, ◌<◌, ◌++◌, ◌&&◌, ◌||◌, not, ℕ, Bool, Bor, true, false, cond, refl, sym, ap, ap₂, arith, List, [], ◌∷◌, length, map, drop, get_or, subst, append-nil, append_assoc, chars}
use Rattle.std.specs.List.{list_any, position_or_len}
use Rattle.std.proofs.lemmas.List.{drop_more}
use Rattle.std.proofs.lemmas.List.Folds.{list_any_at}
use Rattle.std.proofs.lemmas.List.Sums.{passes_at_first}
use Rattle.std.proofs.lemmas.Str.Pattern.{IsSplitOnceResult, split_once_first}
use Rattle.stx_base.specs.Character.{is_ncname}
use Rattle.std.specs.Prelude.{Option, Some, None, option_and_then, option_map}
use Rattle.command_words.specs.Said.{Word, after_equals, before_equals, has_equals, is_equals}
use Rattle.command_words.specs.Words.{each_param, param_of}
use Rattle.command_words.specs.declared.param.Param.{Param}

-- the parameters so far, with those of the words that are left, are those of all
abbrev pub SoFar : List Param → (left all : List Word) → Type 0
SoFar items left all = option_map (λ ps. items ++ ps) (each_param left) ≡ each_param all

pub at_first : (all : List Word) → SoFar [] all all
at_first all = go (each_param all)
  where
    go : (o : Option (List Param)) → option_map (λ ps. [] ++ ps) o ≡ o
    go None = refl
    go (Some ps) = refl

abbrev put_first : Option (List Param) → Option Param → Option (List Param)
put_first more = option_and_then (λ p. option_map (λ ps. p ∷ ps) more)

pub one_param : (items : List Param) (param : Param) (word : Word) (left all : List Word) → SoFar items (word ∷ left) all → param_of word ≡ Some param
    → SoFar (items ++ param ∷ []) left all
one_param items param word left all h is =
    sym (go (each_param left)) ∙ ap (λ o. option_map (λ ps. items ++ ps) (put_first (each_param left) o)) (sym is) ∙ h
  where
    go : (o : Option (List Param)) → option_map (λ ps. items ++ ps) (option_map (λ ps. param ∷ ps) o) ≡ option_map (λ ps. (items ++ param ∷ []) ++ ps) o
    go None = refl
    go (Some ps) = ap (λ l. Some l) (sym (append_assoc items (param ∷ []) ps))

pub no_param : (items : List Param) (word : Word) (left all : List Word) → SoFar items (word ∷ left) all → param_of word ≡ None → each_param all ≡ None
no_param items word left all h is = sym h ∙ ap (λ o. option_map (λ ps. items ++ ps) (put_first (each_param left) o)) is

pub all_params : (items : List Param) (all : List Word) → SoFar items [] all → each_param all ≡ Some items
all_params items all h = sym h ∙ ap (λ l. Some l) (append-nil items)

-- a step over the words
pub step_param : (ws : List (Bor Word)) (i : ℕ) (d : Bor Word) (items more : List Param) (p : Param) → i < length ws
    → SoFar items (map (λ word. word.now) (drop i ws)) (map (λ word. word.now) ws) → param_of (get_or ws i d).now ≡ Some p → more ≡ items ++ p ∷ []
    → SoFar more (map (λ word. word.now) (drop (i + 1) ws)) (map (λ word. word.now) ws)
step_param ws i d items more p lt so_far is pushed =
    let left : List Word = map (λ word. word.now) (drop (i + 1) ws) in let all : List Word = map (λ word. word.now) ws in
    let opened : drop i ws ≡ get_or ws i d ∷ drop (i + 1) ws = drop_more ws i d lt in
    subst (λ l. SoFar l left all) (sym pushed)
    (one_param items p (get_or ws i d).now left all
    (subst (λ l. SoFar items (map (λ word. word.now) l) all) opened so_far) is)

-- ---- one parameter

-- no place passes before the end, so that none does
beyond : (p : ℕ → Bool) (xs : List ℕ) → position_or_len p xs ≡ length xs → list_any p xs ≡ false
beyond p [] e = refl
beyond p (x ∷ xs) e = go (p x) (beyond p xs) e
  where
    go : (b : Bool) → (position_or_len p xs ≡ length xs → list_any p xs ≡ false) → cond (not b) (1 + position_or_len p xs) 0 ≡ length (x ∷ xs)
        → (b || list_any p xs) ≡ false
    go true ih e = absurd (omega arith)
    go false ih e = ih (omega arith)

abbrev param_by : Bool → Word → Word → Option Param
param_by split name value = cond (split && is_ncname (chars name)) (Some (record { name = chars name; value = chars value })) None

module _ (word : Word) (r : Option (Bor (List ℕ) × Bor (List ℕ))) (split : IsSplitOnceResult 61 word r) where
  found : (name value : Bor (List ℕ)) → r ≡ Some (name, value) → param_of word ≡ param_by true name.now value.now
  found name value is =
      let (inside, front, back) = rw is at (split_once_first 61 word r split (omega arith)) in
      let there : has_equals word ≡ true = list_any_at is_equals word (position_or_len is_equals word) 0 inside (passes_at_first is_equals word 0 inside) in
      ap (λ b. param_by b (before_equals word) (after_equals word)) there
      ∙ ap₂ (λ n v. param_by true n v) (sym front) (sym back)

  pub found_param : (name value : Bor (List ℕ)) (p : Param) → r ≡ Some (name, value) → is_ncname (chars name.now) ≡ true
      → p.name ≡ chars name.now → p.value ≡ chars value.now → param_of word ≡ Some p
  found_param name value p is good named valued =
      let made : Param = record { name = chars name.now; value = chars value.now } in
      found name value is ∙ ap (λ b. cond b (Some made) None) good
      ∙ ap₂ (λ n v. Some (record { name = n; value = v })) (sym named) (sym valued)

  pub bad_name : (name value : Bor (List ℕ)) → r ≡ Some (name, value) → is_ncname (chars name.now) ≡ false → param_of word ≡ None
  bad_name name value is bad =
      let made : Param = record { name = chars name.now; value = chars value.now } in
      found name value is ∙ ap (λ b. cond b (Some made) None) bad

  pub no_equals : r ≡ None → param_of word ≡ None
  no_equals is =
      let none : has_equals word ≡ false = beyond is_equals word (rw is at (split_once_first 61 word r split (omega arith))) in
      ap (λ b. param_by b (before_equals word) (after_equals word)) none
