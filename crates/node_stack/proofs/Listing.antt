-- What is counted of a list, node by node.
use Rattle.std.proofs.Common.{◌≡◌, ℕ, ◌+◌, ◌==◌, ◌&&◌, Bool, true, false, cond, not, ◌||◌, if◌then◌else◌, List, [], ◌∷◌, length, count_by, refl, ap, sym, ◌∙◌, arith}
use Rattle.std.specs.List.{list_any}
use Rattle.std.proofs.lemmas.Bool.Decides.{Decides-eqb, Decides-like, same_from_decides}
use Rattle.std.proofs.lemmas.List.Sums.{sum_by-cons}
use Rattle.stx_base.specs.declared.name.Name.{Name}
use Rattle.stx_base.specs.declared.node.NodeTest.{NodeTest}
use Rattle.stx_base.specs.declared.node.NodeTest.TheVariants as test
use Rattle.node_stack.specs.Counts.{Counts, capped, counted, counted_all, distinct_beside, is_named, is_new, raised, same_kind}
use Rattle.node_stack.specs.Test.{Kind, CData, Document, Element, Chars, Comment, Pi, Attribute, passes}
use Rattle.node_stack.proofs.Tallying.{not_zero}

-- so many of a list's nodes as pass are what is counted
abbrev Tells : Counts → List Kind → Type 0
Tells c xs = (t : NodeTest) → c.passing t ≡ capped (count_by (passes t) xs)

one_at : (b : Bool) (n : ℕ) → cond b 1 0 + n ≡ (if b then n + 1 else n)
one_at true n = omega arith
one_at false n = omega arith

count_more : (p : Kind → Bool) (x : Kind) (xs : List Kind) (b : Bool) → p x ≡ b → count_by p (x ∷ xs) ≡ (if b then count_by p xs + 1 else count_by p xs)
count_more p x xs b e = sum_by-cons (λ x. cond (p x) 1 0) x xs ∙ ap (λ c. cond c 1 0 + count_by p xs) e ∙ one_at b _

raised_count : (b : Bool) (n m : ℕ) → n ≡ capped m → (if b then raised n else n) ≡ capped (if b then m + 1 else m)
raised_count true n m e = omega arith
raised_count false n m e = e

tells_more : (c : Counts) (x : Kind) (xs : List Kind) → Tells c xs → Tells (counted x c) (x ∷ xs)
tells_more c x xs h t = raised_count (passes t x) _ _ (h t) ∙ ap capped (sym (count_more (passes t) x xs (passes t x) refl))

moved : (b : Bool) (m n : ℕ) → (if b then m + 1 else m) + n ≡ m + (if b then n + 1 else n)
moved true m n = omega arith
moved false m n = refl

pub passing_of : (c : Counts) (before xs : List Kind) (t : NodeTest) → Tells c before → (counted_all c xs).passing t ≡ capped (count_by (passes t) before + count_by (passes t) xs)
passing_of c before [] t h = h t ∙ ap capped (omega arith)
passing_of c before (x ∷ xs) t h =
    passing_of (counted x c) (x ∷ before) xs t (tells_more c x before h)
    ∙ ap capped (rw (count_more (passes t) x before (passes t x) refl, count_more (passes t) x xs (passes t x) refl) (moved (passes t x) _ _))

none_at : (b : Bool) (n : ℕ) (a : Bool) → (n == 0) ≡ not a → ((if b then n + 1 else n) == 0) ≡ not (b || a)
none_at true n a h = not_zero (n + 1) (omega arith)
none_at false n a h = h

none_zero : (p : Kind → Bool) (xs : List Kind) → (count_by p xs == 0) ≡ not (list_any p xs)
none_zero p [] = refl
none_zero p (x ∷ xs) = ap (λ n. n == 0) (count_more p x xs (p x) refl) ∙ none_at (p x) _ _ (none_zero p xs)

capped_zero : (n : ℕ) → (capped n == 0) ≡ (n == 0)
capped_zero n =
    same_from_decides (capped n == 0) (n == 0)
    (Decides-like (capped n == 0) (λ (e : capped n ≡ 0). let z : n ≡ 0 = omega arith in z) (λ (e : n ≡ 0). let z : capped n ≡ 0 = omega arith in z) (Decides-eqb (capped n) 0))
    (Decides-eqb n 0)

by_name : (n : Name) (y : Kind) → passes (test.Name n) y ≡ same_kind y (Element n)
by_name n Document = refl
by_name n (Element m) = refl
by_name n Chars = refl
by_name n CData = refl
by_name n Comment = refl
by_name n (Pi t) = refl
by_name n (Attribute m) = refl

by_target : (u : List ℕ) (y : Kind) → passes (test.Pi u) y ≡ same_kind y (Pi u)
by_target u Document = refl
by_target u (Element m) = refl
by_target u Chars = refl
by_target u CData = refl
by_target u Comment = refl
by_target u (Pi t) = refl
by_target u (Attribute m) = refl

-- it is new exactly where none before is like it
new_beside : (c : Counts) (before : List Kind) (x : Kind) → Tells c before → is_new x c ≡ (is_named x && not (list_any (λ y. same_kind y x) before))
new_beside c before Document h = refl
new_beside c before (Element n) h =
    ap (λ k. k == 0) (h (test.Name n)) ∙ capped_zero _ ∙ none_zero (passes (test.Name n)) before ∙ ap (λ p. not (list_any p before)) (λ i y. by_name n y i)
new_beside c before Chars h = refl
new_beside c before CData h = refl
new_beside c before Comment h = refl
new_beside c before (Pi u) h =
    ap (λ k. k == 0) (h (test.Pi u)) ∙ capped_zero _ ∙ none_zero (passes (test.Pi u)) before ∙ ap (λ p. not (list_any p before)) (λ i y. by_target u y i)
new_beside c before (Attribute n) h = refl

one_more : (b : Bool) (x : Kind) (ys : List Kind) (n : ℕ) → n + (if b then 1 else 0) + length ys ≡ n + length (if b then x ∷ ys else ys)
one_more true x ys n = omega arith
one_more false x ys n = omega arith

pub names_of : (c : Counts) (before xs : List Kind) → Tells c before → (counted_all c xs).names ≡ c.names + length (distinct_beside before xs)
names_of c before [] h = omega arith
names_of c before (x ∷ xs) h =
    names_of (counted x c) (x ∷ before) xs (tells_more c x before h)
    ∙ ap (λ b. c.names + (if b then 1 else 0) + length (distinct_beside (x ∷ before) xs)) (new_beside c before x h)
    ∙ one_more _ x (distinct_beside (x ∷ before) xs) c.names
