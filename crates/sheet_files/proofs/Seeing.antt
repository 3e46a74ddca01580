-- The files that were opened, as far as they came, by what the program keeps of them.
use Rattle.std.proofs.Common.{◌≡◌, ℕ, zero, suc, ◌<◌, ◌≤◌, List, [], ◌∷◌, ◌++◌, map, length, slice_get, Some, refl, sym, ap, subst, ◌∙◌, arith}
use Rattle.stx_host.specs.declared.act.Doc.{Doc}
use Rattle.sheet_loader.specs.Files.{Documents, changed}
use Rattle.sheet_loader.specs.Levels.{name_at}
use Rattle.sheet_files.specs.Held.{AreNumbered, came_of, names_of, seen_of, with_going}
use Rattle.sheet_files.specs.Opened.{AreOf, Came, IsOf, Seen, names_in, whole}
use Rattle.sheet_files.specs.declared.going.Going.{Going}
use Rattle.sheet_files.proofs.Opening.{changed_at, length_map, map_append}

pub no_snoc : {A : Type 0} (xs : List A) (x : A) → xs ++ x ∷ [] ≡ [] → ⊥
no_snoc [] x e = cc
no_snoc (y ∷ xs) x e = cc

pub snoc_same : {A : Type 0} (xs ys : List A) (x y : A) → xs ++ x ∷ [] ≡ ys ++ y ∷ [] → (xs ≡ ys) × (x ≡ y)
snoc_same [] [] x y e = (refl, cc)
snoc_same [] (b ∷ ys) x y e = let none : [] ≡ ys ++ y ∷ [] = cc in absurd (no_snoc ys y (sym none))
snoc_same (a ∷ xs) [] x y e = let none : xs ++ x ∷ [] ≡ [] = cc in absurd (no_snoc xs x none)
snoc_same (a ∷ xs) (b ∷ ys) x y e =
    let tail : xs ++ x ∷ [] ≡ ys ++ y ∷ [] = cc in
    let head : a ≡ b = cc in
    let r = snoc_same xs ys x y tail in
    let same : xs ≡ ys = r.0 in
    (ap (λ h. h ∷ xs) head ∙ ap (λ l. b ∷ l) same, r.1)

-- the numbers of the files

pub numbered_le : (from : ℕ) (going : List Going) (n : ℕ) → AreNumbered from going n → from ≤ n
numbered_le from [] n h = h
numbered_le from (g ∷ going) n h = let le : suc g.number ≤ n = numbered_le (suc g.number) going n h.1 in let low = h.0 in omega (arith, le, low)

pub numbered_more : (from : ℕ) (going : List Going) (n m : ℕ) → n ≤ m → AreNumbered from going n → AreNumbered from going m
numbered_more from [] n m le h = omega (arith, h)
numbered_more from (g ∷ going) n m le h = (h.0, numbered_more (suc g.number) going n m le h.1)

pub numbered_snoc : (from : ℕ) (front : List Going) (g : Going) (n m : ℕ) → AreNumbered from front n → n ≤ g.number → g.number < m → AreNumbered from (front ++ g ∷ []) m
numbered_snoc from [] g n m h le lt = (omega (arith, h), omega arith)
numbered_snoc from (f ∷ front) g n m h le lt = (h.0, numbered_snoc (suc f.number) front g n m h.1 le lt)

-- those before the last one are below its number
pub numbered_front : (from : ℕ) (front : List Going) (g : Going) (m : ℕ) → AreNumbered from (front ++ g ∷ []) m → AreNumbered from front g.number × (g.number < m)
numbered_front from [] g m h = (h.0, let lt = h.1 in omega (arith, lt))
numbered_front from (f ∷ front) g m h = let r = numbered_front (suc f.number) front g m h.1 in ((h.0, r.0), r.1)

-- the last file is another with the same number
pub numbered_same : (from : ℕ) (front : List Going) (g h : Going) (m : ℕ) → h.number ≡ g.number → AreNumbered from (front ++ g ∷ []) m → AreNumbered from (front ++ h ∷ []) m
numbered_same from front g h m e are =
    let r = numbered_front from front g m are in
    numbered_snoc from front h g.number m r.0 (omega (arith, e)) (let lt = r.1 in omega (arith, e, lt))

-- entries that are changed

pub changed_before : {A : Type 0} (h : A → A) (n : ℕ) (xs ys : List A) → n < length xs → changed h n (xs ++ ys) ≡ changed h n xs ++ ys
changed_before h n [] ys lt = absurd (omega (arith, lt))
changed_before h zero (x ∷ xs) ys lt = refl
changed_before h (suc n) (x ∷ xs) ys lt = ap (λ l. x ∷ l) (changed_before h n xs ys (omega (arith, lt)))

pub length_changed : {A : Type 0} (h : A → A) (n : ℕ) (xs : List A) → length (changed h n xs) ≡ length xs
length_changed h n [] = refl
length_changed h zero (x ∷ xs) = refl
length_changed h (suc n) (x ∷ xs) = ap suc (length_changed h n xs)

pub changed_map : {A B : Type 0} (f : A → B) (h : A → A) (k : B → B) → ((a : A) → f (h a) ≡ k (f a)) → (n : ℕ) (xs : List A) → map f (changed h n xs) ≡ changed k n (map f xs)
changed_map f h k same n [] = refl
changed_map f h k same zero (x ∷ xs) = ap (λ y. y ∷ map f xs) (same x)
changed_map f h k same (suc n) (x ∷ xs) = ap (λ l. f x ∷ l) (changed_map f h k same n xs)

pub unchanged_map : {A B : Type 0} (f : A → B) (h : A → A) → ((a : A) → f (h a) ≡ f a) → (n : ℕ) (xs : List A) → map f (changed h n xs) ≡ map f xs
unchanged_map f h same n [] = refl
unchanged_map f h same zero (x ∷ xs) = ap (λ y. y ∷ map f xs) (same x)
unchanged_map f h same (suc n) (x ∷ xs) = ap (λ l. f x ∷ l) (unchanged_map f h same n xs)

-- two entries are changed in either order
pub changed_apart : {A : Type 0} (h k : A → A) (n m : ℕ) (xs : List A) → (n ≡ m → ⊥) → changed h n (changed k m xs) ≡ changed k m (changed h n xs)
changed_apart h k n m [] apart = refl
changed_apart h k zero zero (x ∷ xs) apart = absurd (apart refl)
changed_apart h k zero (suc m) (x ∷ xs) apart = refl
changed_apart h k (suc n) zero (x ∷ xs) apart = refl
changed_apart h k (suc n) (suc m) (x ∷ xs) apart = ap (λ l. x ∷ l) (changed_apart h k n m xs (λ e. apart (ap suc e)))

-- an entry that is changed twice
pub changed_twice : {A : Type 0} (h k l : A → A) → ((a : A) → h (k a) ≡ l a) → (n : ℕ) (xs : List A) → changed h n (changed k n xs) ≡ changed l n xs
changed_twice h k l same n [] = refl
changed_twice h k l same zero (x ∷ xs) = ap (λ y. y ∷ xs) (same x)
changed_twice h k l same (suc n) (x ∷ xs) = ap (λ ys. x ∷ ys) (changed_twice h k l same n xs)

abbrev pub as_came : Came → Seen → Seen
as_came c f = record f { came = c }

-- what was seen of the files

pub with_snoc : (front : List Going) (g : Going) (seen : List Seen) → with_going (front ++ g ∷ []) seen ≡ changed (as_came (came_of g)) g.number (with_going front seen)
with_snoc [] g seen = refl
with_snoc (f ∷ front) g seen = with_snoc front g (changed (as_came (came_of f)) f.number seen)

pub length_with : (going : List Going) (seen : List Seen) → length (with_going going seen) ≡ length seen
length_with [] seen = refl
length_with (g ∷ going) seen = length_with going (changed (as_came (came_of g)) g.number seen) ∙ length_changed (as_came (came_of g)) g.number seen

pub names_with : (going : List Going) (seen : List Seen) → names_in (with_going going seen) ≡ names_in seen
names_with [] seen = refl
names_with (g ∷ going) seen = names_with going (changed (as_came (came_of g)) g.number seen) ∙ unchanged_map (λ (f : Seen). f.name) (as_came (came_of g)) (λ f. refl) g.number seen

pub names_whole : (files : List Doc) → names_in (map whole files) ≡ names_of files
names_whole [] = refl
names_whole (d ∷ files) = ap (λ (l : List (List ℕ)). d.name ∷ l) (names_whole files)

pub names_seen : (going : List Going) (files : List Doc) → names_in (seen_of going files) ≡ names_of files
names_seen going files = names_with going (map whole files) ∙ names_whole files

with_more : (from : ℕ) (going : List Going) (seen more : List Seen) → AreNumbered from going (length seen) → with_going going (seen ++ more) ≡ with_going going seen ++ more
with_more from [] seen more are = refl
with_more from (g ∷ going) seen more are =
    let c = as_came (came_of g) in
    let lt : suc g.number ≤ length seen = numbered_le (suc g.number) going (length seen) are.1 in
    ap (with_going going) (changed_before c g.number seen more (omega (arith, lt)))
    ∙ with_more (suc g.number) going (changed c g.number seen) more (subst (AreNumbered (suc g.number) going) (sym (length_changed c g.number seen)) are.1)

-- files more were opened than those of which some are being read
pub seen_more : (going : List Going) (files more : List Doc) → AreNumbered 0 going (length files) → seen_of going (files ++ more) ≡ seen_of going files ++ map whole more
seen_more going files more are =
    ap (with_going going) (map_append whole files more)
    ∙ with_more 0 going (map whole files) (map whole more) (subst (AreNumbered 0 going) (sym (length_map whole files)) are)

-- the last file that is being read stands where it was opened
pub seen_there : (front : List Going) (g : Going) (before : List Doc) (own : Doc) (more : List Doc) → AreNumbered 0 front (length before) → g.number ≡ length before
    → seen_of (front ++ g ∷ []) (before ++ own ∷ more) ≡ seen_of front before ++ record { name = own.name; came = came_of g } ∷ map whole more
seen_there front g before own more are number =
    let c = as_came (came_of g) in
    let n : g.number ≡ length (seen_of front before) = number ∙ sym (length_map whole before) ∙ sym (length_with front (map whole before)) in
    with_snoc front g (map whole (before ++ own ∷ more))
    ∙ ap (changed c g.number) (seen_more front before (own ∷ more) are)
    ∙ ap (λ (k : ℕ). changed c k (seen_of front before ++ whole own ∷ map whole more)) n
    ∙ changed_at c (seen_of front before) (whole own) (map whole more)

-- what is so of all files

pub are_front : (docs : Documents) (a b : List Seen) → AreOf docs (a ++ b) → AreOf docs a
are_front docs [] b are = tt
are_front docs (f ∷ a) b are = (are.0, are_front docs a b are.1)

pub are_back : (docs : Documents) (a b : List Seen) → AreOf docs (a ++ b) → AreOf docs b
are_back docs [] b are = are
are_back docs (f ∷ a) b are = are_back docs a b are.1

pub are_joined : (docs : Documents) (a b : List Seen) → AreOf docs a → AreOf docs b → AreOf docs (a ++ b)
are_joined docs [] b x y = y
are_joined docs (f ∷ a) b x y = (x.0, are_joined docs a b x.1 y)

are_at : (docs : Documents) (seen : List Seen) (k : ℕ) (f : Seen) → AreOf docs seen → slice_get seen k ≡ Some f → IsOf (docs f.name) f.came
are_at docs [] k f are at = cc
are_at docs (g ∷ seen) zero f are at = let e : g ≡ f = cc in subst (λ (h : Seen). IsOf (docs h.name) h.came) e are.0
are_at docs (g ∷ seen) (suc k) f are at = are_at docs seen k f are.1 at

-- an entry came otherwise
pub are_changed : (docs : Documents) (c d : Came) (k : ℕ) (seen : List Seen) → AreOf docs (changed (as_came c) k seen) → IsOf (docs (name_at (names_in seen) k)) d → AreOf docs (changed (as_came d) k seen)
are_changed docs c d k [] are is = tt
are_changed docs c d zero (f ∷ seen) are is = (is, are.1)
are_changed docs c d (suc k) (f ∷ seen) are is = (are.0, are_changed docs c d k seen are.1 is)

changed_there : (c : Came) (k : ℕ) (seen : List Seen) → k < length seen → slice_get (changed (as_came c) k seen) k ≡ Some (record { name = name_at (names_in seen) k; came = c })
changed_there c k [] lt = absurd (omega (arith, lt))
changed_there c zero (f ∷ seen) lt = refl
changed_there c (suc k) (f ∷ seen) lt = changed_there c k seen (omega (arith, lt))

changed_other : (h : Seen → Seen) (n k : ℕ) (seen : List Seen) → k < n → slice_get (changed h n seen) k ≡ slice_get seen k
changed_other h n k [] lt = refl
changed_other h zero k (f ∷ seen) lt = absurd (omega (arith, lt))
changed_other h (suc n) zero (f ∷ seen) lt = refl
changed_other h (suc n) (suc k) (f ∷ seen) lt = changed_other h n k seen (omega (arith, lt))

at_before : (from : ℕ) (going : List Going) (seen : List Seen) (n k : ℕ) → AreNumbered from going n → k < from → slice_get (with_going going seen) k ≡ slice_get seen k
at_before from [] seen n k are lt = refl
at_before from (g ∷ going) seen n k are lt =
    let low = are.0 in
    at_before (suc g.number) going (changed (as_came (came_of g)) g.number seen) n k are.1 (omega (arith, lt, low))
    ∙ changed_other (as_came (came_of g)) g.number k seen (omega (arith, lt, low))

-- what documents say of the files that are being read
abbrev pub AreKnown : Documents → (names : List (List ℕ)) → List Going → Type 0
AreKnown docs names [] = Unit {0}
AreKnown docs names (g ∷ going) = IsOf (docs (name_at names g.number)) (came_of g) × AreKnown docs names going

known_by : (docs : Documents) (from : ℕ) (going : List Going) (seen : List Seen) → AreNumbered from going (length seen) → AreOf docs (with_going going seen) → AreKnown docs (names_in seen) going
known_by docs from [] seen are of = tt
known_by docs from (g ∷ going) seen are of =
    let c = as_came (came_of g) in
    let n : length (changed c g.number seen) ≡ length seen = length_changed c g.number seen in
    let lt : suc g.number ≤ length seen = numbered_le (suc g.number) going (length seen) are.1 in
    let later : AreNumbered (suc g.number) going (length (changed c g.number seen)) = subst (AreNumbered (suc g.number) going) (sym n) are.1 in
    let own : g.number < suc g.number = omega arith in
    let at = at_before (suc g.number) going (changed c g.number seen) (length (changed c g.number seen)) g.number later own ∙ changed_there (came_of g) g.number seen (omega (arith, lt)) in
    let names : names_in (changed c g.number seen) ≡ names_in seen = unchanged_map (λ (f : Seen). f.name) c (λ f. refl) g.number seen in (
      are_at docs (with_going going (changed c g.number seen)) g.number (record { name = name_at (names_in seen) g.number; came = came_of g }) of at,
      subst (λ (ns : List (List ℕ)). AreKnown docs ns going) names (known_by docs (suc g.number) going (changed c g.number seen) later of),
    )

pub known_of : (docs : Documents) (going : List Going) (files : List Doc) → AreNumbered 0 going (length files) → AreOf docs (seen_of going files) → AreKnown docs (names_of files) going
known_of docs going files are of =
    subst (λ (ns : List (List ℕ)). AreKnown docs ns going) (names_whole files)
    (known_by docs 0 going (map whole files) (subst (AreNumbered 0 going) (sym (length_map whole files)) are) of)
