-- Lemmas on copies, and on the buffers of a group.
use Rattle.std.proofs.Common.{◌≡◌, ℕ, zero, suc, ◌+◌, ◌<◌, ◌≤◌, ◌==◌, Bool, true, false, cond, List, [], ◌∷◌, ◌++◌, Option, Some, None, length, get_or, take, drop, map, refl, sym, ap, ◌∙◌, add-one, arith, nat_lt}
use Rattle.std.specs.Prelude.{if◌then◌else◌, OnErr, OnOk, Result, Ok, Err, find, is_err, is_some, position}
use Rattle.std.specs.List.{position_or_len}
use Rattle.std.specs.Option.{option_and_then}
use borrow.Author.Tests.{ltb-false}
use Rattle.std.proofs.Math.ListN.{set}
use Rattle.std.proofs.lemmas.List.{set-get_or}
use Rattle.std.proofs.lemmas.List.Folds.{find_at}
use Rattle.std.proofs.lemmas.Option.{slice_get_past}
use Rattle.std.proofs.lemmas.List.Quantifiers.{position-Some}
use Rattle.event_buffers.specs.Buffers.{Buffer, in_group, on_first, taken_off, with_copies}
use Rattle.event_buffers.specs.Layer.{Layer, laid}

first_set : (p : Layer → Bool) (f : Layer → Layer) (cs : List Layer) (i : ℕ) (d : Layer) → i < length cs → p (get_or cs i d) ≡ true
    → ((k : ℕ) → k < i → p (get_or cs k d) ≡ false) → on_first p f cs ≡ set cs i (f (get_or cs i d))
first_set p f [] i d lt here before = absurd (omega arith)
first_set p f (c ∷ cs) zero d lt here before = ap (λ t. if t then f c ∷ cs else c ∷ on_first p f cs) here
first_set p f (c ∷ cs) (suc i) d lt here before =
    ap (λ t. if t then f c ∷ cs else c ∷ on_first p f cs) (before 0 (omega arith))
    ∙ ap (λ l. c ∷ l) (first_set p f cs i d (omega arith) here (λ k h. before (suc k) (omega arith)))

first_found : (p : Layer → Bool) (cs : List Layer) (i : ℕ) (d : Layer) → i < length cs → p (get_or cs i d) ≡ true
    → ((k : ℕ) → k < i → p (get_or cs k d) ≡ false) → find p cs ≡ Some (get_or cs i d)
first_found p [] i d lt here before = absurd (omega arith)
first_found p (c ∷ cs) zero d lt here before = ap (λ t. cond t (Some c) (find p cs)) here
first_found p (c ∷ cs) (suc i) d lt here before =
    ap (λ t. cond t (Some c) (find p cs)) (before 0 (omega arith))
    ∙ first_found p cs i d (omega arith) here (λ k h. before (suc k) (omega arith))

-- a change of the first copy of which a test holds, by its place
pub on_first_at : (p : Layer → Bool) (f : Layer → Layer) (cs : List Layer) (i : ℕ) (d : Layer) → position p cs ≡ Some i
    → on_first p f cs ≡ set cs i (f (get_or cs i d))
on_first_at p f cs i d e = let at = position-Some p cs i d e in first_set p f cs i d at.0 at.1 at.2

pub found_at : (p : Layer → Bool) (cs : List Layer) (i : ℕ) (d : Layer) → position p cs ≡ Some i → find p cs ≡ Some (get_or cs i d)
found_at p cs i d e = let at = position-Some p cs i d e in first_found p cs i d at.0 at.1 at.2

pub is_at : (p : Layer → Bool) (cs : List Layer) (i : ℕ) (d : Layer) → position p cs ≡ Some i → p (get_or cs i d) ≡ true
is_at p cs i d e = (position-Some p cs i d e).1

pub within : (p : Layer → Bool) (cs : List Layer) (i : ℕ) (d : Layer) → position p cs ≡ Some i → i < length cs
within p cs i d e = (position-Some p cs i d e).0

-- the same of a buffer, one of whose copies is changed
pub changed_at : (b : Buffer) (p : Layer → Bool) (f : Layer → Layer) (i : ℕ) (item new : Layer) → position p b.copies ≡ Some i → item ≡ get_or b.copies i item
    → new ≡ f item → record b { copies = set b.copies i new } ≡ with_copies (on_first p f) b
changed_at b p f i item new e is h =
    ap (λ l. record b { copies = l }) (ap (set b.copies i) (h ∙ ap f is) ∙ sym (on_first_at p f b.copies i item e))

pub found : {X : Type 0} (g : Layer → Option X) (p : Layer → Bool) (cs : List Layer) (i : ℕ) (item : Layer) → position p cs ≡ Some i → item ≡ get_or cs i item
    → option_and_then g (find p cs) ≡ g item
found g p cs i item e is = ap (option_and_then g) (found_at p cs i item e ∙ ap (λ c. Some c) (sym is))

pub passes : (p : Layer → Bool) (cs : List Layer) (i : ℕ) (item : Layer) → position p cs ≡ Some i → item ≡ get_or cs i item → p item ≡ true
passes p cs i item e is = ap p is ∙ is_at p cs i item e

-- no copy passes

no_place : (b : Bool) (n m : ℕ) → nat_lt n m ≡ b → cond b (Some n) None ≡ None → m ≤ n
no_place true n m e h = absurd cc
no_place false n m e h = ltb-false n m e

pub found_nowhere : (p : Layer → Bool) (cs : List Layer) → position p cs ≡ None → find p cs ≡ None
found_nowhere p cs e =
    find_at p cs ∙ slice_get_past cs (position_or_len p cs) (no_place (nat_lt (position_or_len p cs) (length cs)) (position_or_len p cs) (length cs) refl e)

pub unchanged_nowhere : (p : Layer → Bool) (f : Layer → Layer) (cs : List Layer) → find p cs ≡ None → on_first p f cs ≡ cs
unchanged_nowhere p f [] e = refl
unchanged_nowhere p f (c ∷ cs) e = by_test (p c) (unchanged_nowhere p f cs) e where
  by_test : (t : Bool) → (find p cs ≡ None → on_first p f cs ≡ cs) → cond t (Some c) (find p cs) ≡ None → (if t then f c ∷ cs else c ∷ on_first p f cs) ≡ c ∷ cs
  by_test true h e = absurd cc
  by_test false h e = ap (λ l. c ∷ l) (h e)

pub nowhere : (b : Buffer) (p : Layer → Bool) (f : Layer → Layer) → position p b.copies ≡ None → b ≡ with_copies (on_first p f) b
nowhere b p f e = ap (λ l. record b { copies = l }) (sym (unchanged_nowhere p f b.copies (found_nowhere p b.copies e)))

-- whether some copy passes
pub some_passes : (p : Layer → Bool) (cs : List Layer) (d : Layer) → is_some (position p cs) ≡ is_some (find p cs)
some_passes p cs d = by_place (position p cs) refl where
  by_place : (o : Option ℕ) → position p cs ≡ o → is_some (position p cs) ≡ is_some (find p cs)
  by_place None e = ap is_some e ∙ ap is_some (sym (found_nowhere p cs e))
  by_place (Some i) e = ap is_some e ∙ ap is_some (sym (found_at p cs i d e))

-- Buffers changed one after another.

-- what is laid over a buffer and taken off leaves what was
pub laid_and_taken : (group : ℕ) (b : Buffer) → in_group taken_off group (in_group (λ copies. laid ∷ copies) group b) ≡ b
laid_and_taken group b = by_test (b.group == group) refl where
  by_test : (t : Bool) → (b.group == group) ≡ t → in_group taken_off group (in_group (λ copies. laid ∷ copies) group b) ≡ b
  by_test true e =
      ap (λ t. in_group taken_off group (if t then with_copies (λ copies. laid ∷ copies) b else b)) e
      ∙ ap (λ t. if t then b else with_copies (λ copies. laid ∷ copies) b) e
  by_test false e =
      ap (λ t. in_group taken_off group (if t then with_copies (λ copies. laid ∷ copies) b else b)) e
      ∙ ap (λ t. if t then with_copies taken_off b else b) e

pub all_laid_and_taken : (group : ℕ) (bs : List Buffer) → map (in_group taken_off group) (map (in_group (λ copies. laid ∷ copies) group) bs) ≡ bs
all_laid_and_taken group [] = refl
all_laid_and_taken group (b ∷ bs) = ap (λ x. x ∷ map (in_group taken_off group) (map (in_group (λ copies. laid ∷ copies) group) bs)) (laid_and_taken group b) ∙ ap (λ xs. b ∷ xs) (all_laid_and_taken group bs)

-- one more of a list is changed
pub next_changed : (f : Buffer → Buffer) (bs : List Buffer) (i : ℕ) (d : Buffer) → i < length bs
    → set (map f (take i bs) ++ drop i bs) i (f (get_or bs i d)) ≡ map f (take (suc i) bs) ++ drop (suc i) bs
next_changed f [] i d lt = absurd (omega arith)
next_changed f (b ∷ bs) zero d lt = refl
next_changed f (b ∷ bs) (suc i) d lt = ap (λ l. f b ∷ l) (next_changed f bs i d (omega arith))

-- which stands there as it was
pub next_unchanged : (f : Buffer → Buffer) (bs : List Buffer) (i : ℕ) (d : Buffer) → get_or (map f (take i bs) ++ drop i bs) i d ≡ get_or bs i d
next_unchanged f [] zero d = refl
next_unchanged f [] (suc i) d = refl
next_unchanged f (b ∷ bs) zero d = refl
next_unchanged f (b ∷ bs) (suc i) d = next_unchanged f bs i d

-- the same of a list that is so far
pub step : (f : Buffer → Buffer) (bs xs : List Buffer) (i : ℕ) (item new : Buffer) → i < length bs → xs ≡ map f (take i bs) ++ drop i bs
    → item ≡ get_or xs i item → new ≡ f item → set xs i new ≡ map f (take (i + 1) bs) ++ drop (i + 1) bs
step f bs xs i item new lt so is h =
    ap (λ l. set l i new) so
    ∙ ap (set (map f (take i bs) ++ drop i bs) i) (h ∙ ap f (is ∙ ap (λ l. get_or l i item) so ∙ next_unchanged f bs i item))
    ∙ next_changed f bs i item lt ∙ ap (λ n. map f (take n bs) ++ drop n bs) (sym (add-one i))

undone : (f g : Buffer → Buffer) → ((b : Buffer) → g (f b) ≡ b) → (bs : List Buffer) (i : ℕ) → i < length bs
    → map g (take i (map f (take i bs) ++ drop i bs)) ++ drop i (map f (take i bs) ++ drop i bs) ≡ bs
undone f g back [] i lt = absurd (omega arith)
undone f g back (b ∷ bs) zero lt = refl
undone f g back (b ∷ bs) (suc zero) lt = ap (λ x. x ∷ bs) (back b)
undone f g back (b ∷ bs) (suc (suc i)) lt =
    ap (λ x. x ∷ (map g (take (suc i) (map f (take (suc i) bs) ++ drop (suc i) bs)) ++ drop (suc i) (map f (take (suc i) bs) ++ drop (suc i) bs))) (back b)
    ∙ ap (λ l. b ∷ l) (undone f g back bs (suc i) (omega arith))

-- those that were changed are changed back, where the next one was not
pub all_undone : (f g : Buffer → Buffer) → ((b : Buffer) → g (f b) ≡ b) → (bs xs : List Buffer) (i : ℕ) (item : Buffer) → i < length bs
    → xs ≡ map f (take i bs) ++ drop i bs → item ≡ get_or xs i item → map g (take i (set xs i item)) ++ drop i (set xs i item) ≡ bs
all_undone f g back bs xs i item lt so is =
    ap (λ l. map g (take i l) ++ drop i l) (ap (set xs i) is ∙ set-get_or xs i item ∙ so) ∙ undone f g back bs i lt

-- Answers.

pub when_ok : {T E : Type 0} (r : Result T E) (P : Type 0) → is_err r ≡ false → OnOk r P → P
when_ok (Ok x) P e h = h
when_ok (Err x) P e h = absurd cc

pub when_err : {T E : Type 0} (r : Result T E) (P : Type 0) → is_err r ≡ true → OnErr r P → P
when_err (Ok x) P e h = absurd cc
when_err (Err x) P e h = h
