-- One more alternative, and one more template.
use Rattle.std.proofs.Common.{◌≡◌, ℕ, zero, suc, ◌+◌, ◌<◌, ◌≤◌, Bool, true, false, not, ◌==◌, if◌then◌else◌, List, [], ◌∷◌, ◌++◌, length, get_or, take, map, filter, Option, Some, None, refl, ap, sym, ◌∙◌, arith}
use Rattle.std.proofs.lemmas.List.{append-nil, take_more}
use Rattle.std.specs.List.{list_any}
use Rattle.stxpath_eval.specs.Setting.{Setting}
use Rattle.stxpath_syntax.specs.declared.expr.Alternative.{Alternative}
use Rattle.sheet_model.specs.declared.sheet.Sheet.{Sheet}
use Rattle.sheet_model.specs.declared.sheet.Template.{Template}
use Rattle.group_scope.specs.Choice.{Candidate, alternatives_from, category, does_fit, fitting, is_free, rank_of, seen_by, all_from}
use Rattle.group_scope.specs.Rank.{better_of, improved}
use Rattle.group_scope.specs.declared.rank.Category.{Category}
use Rattle.group_scope.specs.declared.rank.Rank.{Rank}

append_assoc : {A : Type 0} (a b c : List A) → (a ++ b) ++ c ≡ a ++ (b ++ c)
append_assoc [] b c = refl
append_assoc (x ∷ a) b c = ap (λ l. x ∷ l) (append_assoc a b c)

pub improved-append : (best : Option Rank) (a b : List Rank) → improved best (a ++ b) ≡ improved (improved best a) b
improved-append best [] b = refl
improved-append best (r ∷ a) b = improved-append (Some (better_of best r)) a b

pub filter-append : {A : Type 0} (p : A → Bool) (a b : List A) → filter p (a ++ b) ≡ filter p a ++ filter p b
filter-append p [] b = refl
filter-append p (x ∷ a) b =
    elim (p x) as (λ t. (if t then x ∷ filter p (a ++ b) else filter p (a ++ b)) ≡ (if t then x ∷ filter p a else filter p a) ++ filter p b) [
      | true ↦ ap (λ l. x ∷ l) (filter-append p a b)
      | false ↦ filter-append p a b
    ]

pub map-append : {A B : Type 0} (f : A → B) (a b : List A) → map f (a ++ b) ≡ map f a ++ map f b
map-append f [] b = refl
map-append f (x ∷ a) b = ap (λ l. f x ∷ l) (map-append f a b)

pub fitting-append : (settings : (group : ℕ) → Setting) (a b : List Candidate) → fitting settings (a ++ b) ≡ fitting settings a ++ fitting settings b
fitting-append settings a b =
    ap (map (λ (c : Candidate). c.rank)) (filter-append (does_fit settings) a b)
    ∙ map-append (λ (c : Candidate). c.rank) (filter (does_fit settings) a) (filter (does_fit settings) b)

-- an alternative of a template at a place
abbrev pub candidate : (number : ℕ) → Template → Category → (place : ℕ) → Alternative → Candidate
candidate number t c place a = record { pattern = a; group = t.group; rank = rank_of t a c number place }

pub alternatives-more : (number : ℕ) (t : Template) (c : Category) (from : ℕ) (as_ : List Alternative) (a : Alternative)
    → alternatives_from number t c from (as_ ++ a ∷ []) ≡ alternatives_from number t c from as_ ++ candidate number t c (from + length as_) a ∷ []
alternatives-more number t c from [] a = ap (λ n. candidate number t c n a ∷ []) (omega arith)
alternatives-more number t c from (b ∷ as_) a =
    ap (λ l. candidate number t c from b ∷ l)
    (alternatives-more number t c (suc from) as_ a ∙ ap (λ n. alternatives_from number t c (suc from) as_ ++ candidate number t c n a ∷ []) (omega arith))

-- the best with one more alternative
pub alternative_more : (settings : (group : ℕ) → Setting) (best : Option Rank) (number : ℕ) (t : Template) (c : Category) (as_ : List Alternative) (i : ℕ) (a : Alternative)
    → i < length as_ → a ≡ get_or as_ i a
    → improved best (fitting settings (alternatives_from number t c 0 (take (i + 1) as_)))
    ≡ improved (improved best (fitting settings (alternatives_from number t c 0 (take i as_)))) (fitting settings (candidate number t c i a ∷ []))
alternative_more settings best number t c as_ i a h at =
    let n : 0 + length (take i as_) ≡ i = omega (arith, length_take as_ i (omega arith)) in
    ap (λ l. improved best (fitting settings (alternatives_from number t c 0 l))) (take_more as_ i a h ∙ ap (λ y. take i as_ ++ y ∷ []) (sym at))
    ∙ ap (λ l. improved best (fitting settings l)) (alternatives-more number t c 0 (take i as_) a ∙ ap (λ k. alternatives_from number t c 0 (take i as_) ++ candidate number t c k a ∷ []) n)
    ∙ ap (improved best) (fitting-append settings (alternatives_from number t c 0 (take i as_)) (candidate number t c i a ∷ []))
    ∙ improved-append best (fitting settings (alternatives_from number t c 0 (take i as_))) (fitting settings (candidate number t c i a ∷ []))
  where
    length_take : {A : Type 0} (xs : List A) (i : ℕ) → i ≤ length xs → length (take i xs) ≡ i
    length_take xs zero h = refl
    length_take [] (suc i) h = absurd (omega arith)
    length_take (x ∷ xs) (suc i) h = ap (λ n. suc n) (length_take xs i (omega arith))

pub fits_one : (settings : (group : ℕ) → Setting) (best : Option Rank) (c : Candidate) → does_fit settings c ≡ true
    → improved best (fitting settings (c ∷ [])) ≡ Some (better_of best c.rank)
fits_one settings best c fits = ap (λ b. improved best (map (λ (c : Candidate). c.rank) (if b then c ∷ [] else []))) fits

pub fits_none : (settings : (group : ℕ) → Setting) (best : Option Rank) (c : Candidate) → does_fit settings c ≡ false
    → improved best (fitting settings (c ∷ [])) ≡ best
fits_none settings best c not = ap (λ b. improved best (map (λ (c : Candidate). c.rank) (if b then c ∷ [] else []))) not

-- templates, with one more
pub visible-more : (category_of : Template → Option Category) (from : ℕ) (ts : List Template) (t : Template)
    → all_from category_of from (ts ++ t ∷ []) ≡ all_from category_of from ts ++ seen_by (from + length ts) t (category_of t)
visible-more category_of from [] t =
    append-nil (seen_by from t (category_of t)) ∙ ap (λ n. seen_by n t (category_of t)) (omega arith)
visible-more category_of from (u ∷ ts) t =
    ap (λ l. seen_by from u (category_of u) ++ l)
    (visible-more category_of (suc from) ts t ∙ ap (λ n. all_from category_of (suc from) ts ++ seen_by n t (category_of t)) (omega arith))
    ∙ sym (append_assoc (seen_by from u (category_of u)) (all_from category_of (suc from) ts) (seen_by (from + length (u ∷ ts)) t (category_of t)))

pub length_of_take : {A : Type 0} (xs : List A) (i : ℕ) → i ≤ length xs → length (take i xs) ≡ i
length_of_take xs zero h = refl
length_of_take [] (suc i) h = absurd (omega arith)
length_of_take (x ∷ xs) (suc i) h = ap (λ n. suc n) (length_of_take xs i (omega arith))

-- the best with one more template
pub template_more : (settings : (group : ℕ) → Setting) (active : List ℕ) (s : Sheet) (base : ℕ) (ts : List Template) (i : ℕ) (t : Template)
    → i < length ts → t ≡ get_or ts i t
    → improved None (fitting settings (filter (is_free active) (all_from (category s base) 0 (take (i + 1) ts))))
    ≡ improved (improved None (fitting settings (filter (is_free active) (all_from (category s base) 0 (take i ts)))))
    (fitting settings (filter (is_free active) (seen_by i t (category s base t))))
template_more settings active s base ts i t h at =
    let n : 0 + length (take i ts) ≡ i = omega (arith, length_of_take ts i (omega arith)) in
    let before = all_from (category s base) 0 (take i ts) in
    let new = seen_by i t (category s base t) in
    ap (λ l. improved None (fitting settings (filter (is_free active) (all_from (category s base) 0 l)))) (take_more ts i t h ∙ ap (λ y. take i ts ++ y ∷ []) (sym at))
    ∙ ap (λ l. improved None (fitting settings (filter (is_free active) l)))
    (visible-more (category s base) 0 (take i ts) t ∙ ap (λ k. all_from (category s base) 0 (take i ts) ++ seen_by k t (category s base t)) n)
    ∙ ap (λ l. improved None (fitting settings l)) (filter-append (is_free active) before new)
    ∙ ap (improved None) (fitting-append settings (filter (is_free active) before) (filter (is_free active) new))
    ∙ improved-append None (fitting settings (filter (is_free active) before)) (fitting settings (filter (is_free active) new))

-- all alternatives of a template are active, or none is
active_none : (active : List ℕ) (number : ℕ) (t : Template) (c : Category) (place : ℕ) (as_ : List Alternative) → list_any (λ n. n == number) active ≡ true
    → filter (is_free active) (alternatives_from number t c place as_) ≡ []
active_none active number t c place [] h = refl
active_none active number t c place (a ∷ as_) h =
    ap (λ b. if not b then candidate number t c place a ∷ filter (is_free active) (alternatives_from number t c (suc place) as_) else filter (is_free active) (alternatives_from number t c (suc place) as_)) h
    ∙ active_none active number t c (suc place) as_ h

free_all : (active : List ℕ) (number : ℕ) (t : Template) (c : Category) (place : ℕ) (as_ : List Alternative) → list_any (λ n. n == number) active ≡ false
    → filter (is_free active) (alternatives_from number t c place as_) ≡ alternatives_from number t c place as_
free_all active number t c place [] h = refl
free_all active number t c place (a ∷ as_) h =
    ap (λ b. if not b then candidate number t c place a ∷ filter (is_free active) (alternatives_from number t c (suc place) as_) else filter (is_free active) (alternatives_from number t c (suc place) as_)) h
    ∙ ap (λ l. candidate number t c place a ∷ l) (free_all active number t c (suc place) as_ h)

pub when_active : (active : List ℕ) (number : ℕ) (t : Template) (c : Option Category) → list_any (λ n. n == number) active ≡ true → filter (is_free active) (seen_by number t c) ≡ []
when_active active number t None h = refl
when_active active number t (Some c) h = active_none active number t c 0 t.pattern.alternatives h

pub when_free : (active : List ℕ) (number : ℕ) (t : Template) (c : Option Category) → list_any (λ n. n == number) active ≡ false → filter (is_free active) (seen_by number t c) ≡ seen_by number t c
when_free active number t None h = refl
when_free active number t (Some c) h = free_all active number t c 0 t.pattern.alternatives h
