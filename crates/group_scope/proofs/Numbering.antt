-- Texts that have numbers keep them.
use Rattle.std.proofs.Common.{◌≡◌, ℕ, ◌+◌, ◌<◌, Bool, true, false, ◌&&◌, ◌||◌, if◌then◌else◌, List, [], ◌∷◌, ◌++◌, length, take, get_or, refl, ap, sym, ◌∙◌}
use Rattle.std.proofs.lemmas.List.{take_more}
use Rattle.std.proofs.lemmas.List.Folds.{list_all-append}
use Rattle.std.specs.List.{list_all, list_any}
use Rattle.stx_base.specs.declared.node.NodeTest.{NodeTest}
use Rattle.stx_base.specs.declared.node.NodeTest.TheVariants as test
use Rattle.match_patterns.specs.Fits.{test_of}
use Rattle.sheet_model.specs.declared.sheet.Template.{Template}
use Rattle.stxpath_syntax.specs.declared.expr.Alternative.{Alternative}
use Rattle.group_scope.specs.Words.{Keeps, all_are_numbered, are_numbered, has_number, is_numbered_template}
use Rattle.group_scope.specs.declared.words.Words.{Words}
use Rattle.group_scope.proofs.Ordering.{and_both, both}

any_more : {A : Type 0} (p : A → Bool) (ks : List A) (k : A) → p k ≡ true → list_any p (ks ++ k ∷ []) ≡ true
any_more p [] k h = ap (λ b. b || false) h
any_more p (x ∷ ks) k h = either (p x) (any_more p ks k h)
  where
    either : (b : Bool) {c : Bool} → c ≡ true → (b || c) ≡ true
    either true h = refl
    either false h = h

any_before : {A : Type 0} (p : A → Bool) (ks : List A) (k : A) → list_any p ks ≡ true → list_any p (ks ++ k ∷ []) ≡ true
any_before p [] k h = cc
any_before p (x ∷ ks) k h = either (p x) (any_before p ks k) h
  where
    either : (b : Bool) → (list_any p ks ≡ true → list_any p (ks ++ k ∷ []) ≡ true) → (b || list_any p ks) ≡ true → (b || list_any p (ks ++ k ∷ [])) ≡ true
    either true later h = refl
    either false later h = later h

-- what is taken up, unless it is there, is there
pub any_inserted : {A : Type 0} (p q : A → Bool) (ks : List A) (k : A) → p ≡ q → p k ≡ true → list_any p (if list_any q ks then ks else ks ++ k ∷ []) ≡ true
any_inserted p q ks k same h = by (list_any q ks) refl
  where
    by : (b : Bool) → list_any q ks ≡ b → list_any p (if b then ks else ks ++ k ∷ []) ≡ true
    by true e = ap (λ r. list_any r ks) same ∙ e
    by false e = any_more p ks k h

-- and what was there stays
pub any_kept : {A : Type 0} (p : A → Bool) (b : Bool) (ks : List A) (k : A) → list_any p ks ≡ true → list_any p (if b then ks else ks ++ k ∷ []) ≡ true
any_kept p true ks k h = h
any_kept p false ks k h = any_before p ks k h

-- ---- with more words

test_kept : (old new : Words) → Keeps old new → (t : NodeTest) → are_numbered old t ≡ true → are_numbered new t ≡ true
test_kept old new keeps (test.Name n) h =
    let parts = both (has_number old n.uri) (has_number old n.local) h in and_both (has_number new n.uri) (has_number new n.local) (keeps n.uri parts.0) (keeps n.local parts.1)
test_kept old new keeps (test.Prefix b) h = keeps b.uri h
test_kept old new keeps (test.Pi t) h = keeps t h
test_kept old new keeps (test.AttrName n) h =
    let parts = both (has_number old n.uri) (has_number old n.local) h in and_both (has_number new n.uri) (has_number new n.local) (keeps n.uri parts.0) (keeps n.local parts.1)
test_kept old new keeps (test.AttrPrefix b) h = keeps b.uri h
test_kept old new keeps _ h = refl

pub all_kept : {A : Type 0} (p q : A → Bool) → ((x : A) → p x ≡ true → q x ≡ true) → (xs : List A) → list_all p xs ≡ true → list_all q xs ≡ true
all_kept p q f [] h = refl
all_kept p q f (x ∷ xs) h = let parts = both (p x) (list_all p xs) h in and_both (q x) (list_all q xs) (f x parts.0) (all_kept p q f xs parts.1)

template_kept : (old new : Words) → Keeps old new → (t : Template) → is_numbered_template old t ≡ true → is_numbered_template new t ≡ true
template_kept old new keeps t h = all_kept _ _ (λ (a : Alternative). test_kept old new keeps (test_of a)) t.pattern.alternatives h

-- the first ones, and one more
all_more : {A : Type 0} (p : A → Bool) (xs : List A) (i : ℕ) (x : A) → i < length xs → x ≡ get_or xs i x → list_all p (take i xs) ≡ true → p x ≡ true → list_all p (take (i + 1) xs) ≡ true
all_more p xs i x l at h k =
    ap (list_all p) (take_more xs i x l ∙ ap (λ y. take i xs ++ y ∷ []) (sym at)) ∙ list_all-append p (take i xs) (x ∷ []) ∙ and_both (list_all p (take i xs)) (p x && true) h (and_both (p x) true k refl)

pub alternative_more : (old new : Words) (as_ : List Alternative) (i : ℕ) (a : Alternative) → i < length as_ → a ≡ get_or as_ i a → Keeps old new
    → list_all (λ a. are_numbered old (test_of a)) (take i as_) ≡ true → are_numbered new (test_of a) ≡ true → list_all (λ a. are_numbered new (test_of a)) (take (i + 1) as_) ≡ true
alternative_more old new as_ i a l at keeps h k =
    all_more (λ a. are_numbered new (test_of a)) as_ i a l at (all_kept _ _ (λ (a : Alternative). test_kept old new keeps (test_of a)) (take i as_) h) k

pub template_more : (old new : Words) (ts : List Template) (i : ℕ) (t : Template) → i < length ts → t ≡ get_or ts i t → Keeps old new
    → all_are_numbered old (take i ts) ≡ true → is_numbered_template new t ≡ true → all_are_numbered new (take (i + 1) ts) ≡ true
template_more old new ts i t l at keeps h k = all_more (is_numbered_template new) ts i t l at (all_kept _ _ (template_kept old new keeps) (take i ts) h) k
