-- What is read of a text has no more entries than the text has characters.
use Rattle.std.proofs.Common.{◌≡◌, ℕ, ℤ, suc, ◌+◌, ◌<◌, ◌≤◌, Bool, true, false, List, [], ◌∷◌, ◌++◌, Option, Some, None, length, map, refl, ap, sym, ◌∙◌, arith, sum, sum_by, if◌then◌else◌}
use Rattle.std.proofs.lemmas.List.{length-append, length-map}
use Rattle.std.proofs.lemmas.List.Sums.{sum-map, sum_by-append, sum_by-cons}
use Rattle.stx_base.specs.Functions.{permits}
use Rattle.stx_base.specs.declared.expression.Fun.{Fun}
use Rattle.stx_base.specs.declared.name.Binding.{Binding}
use Rattle.stx_base.specs.declared.name.Name.{Name}
use Rattle.stx_base.specs.declared.node.NodeTest.{NodeTest}
use Rattle.sheet_model.specs.Entries.{alternative_entries, expression_entries, layer_entries, step_entries}
use Rattle.stxpath_syntax.proofs.Heights.{IfFine, joined_fine, made_fine}
use Rattle.stxpath_syntax.specs.Grammar.{Leading, Listed, Predicates, Spells, Step, Steps, Test, at, link_tokens}
use Rattle.stxpath_syntax.specs.Meaning.{and_also, called_by, function_of, made, name_of, none, operated, refused, step, step_of}
use Rattle.stxpath_syntax.specs.declared.dialect.Dialect.{Dialect}
use Rattle.stxpath_syntax.specs.declared.expr.Alternative.{Alternative}
use Rattle.stxpath_syntax.specs.declared.expr.Bin.{Bin}
use Rattle.stxpath_syntax.specs.declared.expr.Expr.{Expr}
use Rattle.stxpath_syntax.specs.declared.expr.Expr.TheFolds.{fold-PathStep, fold-roll-Expr, fold_out-PathStep}
use Rattle.stxpath_syntax.specs.declared.expr.Expr.TheOpen.{Expr-F}
use Rattle.stxpath_syntax.specs.declared.expr.Expr.TheVariants as e
use Rattle.stxpath_syntax.specs.declared.expr.Expr.TheViews.{rolls-Whole, rolls-Literal, rolls-Var, rolls-Call, rolls-Seq, rolls-Neg, rolls-Binary, rolls-Root, rolls-Abs, rolls-Up, rolls-Attr}
use Rattle.stxpath_syntax.specs.declared.expr.Link.{Link}
use Rattle.stxpath_syntax.specs.declared.expr.PathStep.{PathStep}
use Rattle.stxpath_syntax.specs.declared.fault.PathKind.TheVariants as kind
use Rattle.stxpath_syntax.specs.declared.meant.Meant.{Meant}
use Rattle.stxpath_syntax.specs.declared.meant.Meant.TheVariants.{Bad, Fine, High}
use Rattle.stxpath_syntax.specs.declared.token.Operator.{Operator}
use Rattle.stxpath_syntax.specs.declared.token.Operator.TheVariants as operator
use Rattle.stxpath_syntax.specs.declared.token.Placed.{Placed}
use Rattle.stxpath_syntax.specs.declared.token.Token.TheVariants as token

-- the entries of a list of expressions, and of steps, with the lists themselves
abbrev pub exprs : List Expr → ℕ
exprs xs = length xs + sum_by expression_entries xs

abbrev pub of_step : PathStep → ℕ
of_step s = length s.predicates + sum_by expression_entries s.predicates

abbrev pub of_steps : List PathStep → ℕ
of_steps steps = length steps + sum_by of_step steps

abbrev pub of_alternatives : List Alternative → ℕ
of_alternatives all = length all + sum_by alternative_entries all

pub sum_same : {A : Type 0} (f g : A → ℕ) → ((a : A) → f a ≡ g a) → (xs : List A) → sum_by f xs ≡ sum_by g xs
sum_same f g h [] = refl
sum_same f g h (x ∷ xs) =
    let a = h x in let b = sum_same f g h xs in omega (arith, a, b, sum_by-cons f x xs, sum_by-cons g x xs)

-- Each form of expression.

entries_whole : (i : ℤ) → expression_entries (e.Whole i) ≡ 0
unfolding expression_entries
entries_whole i = ap expression_entries (sym (rolls-Whole i)) ∙ fold-roll-Expr ℕ ℕ layer_entries step_entries (Expr-F.Whole i)

entries_literal : (text : List ℕ) → expression_entries (e.Literal text) ≡ 0
unfolding expression_entries
entries_literal text = ap expression_entries (sym (rolls-Literal text)) ∙ fold-roll-Expr ℕ ℕ layer_entries step_entries (Expr-F.Literal text)

entries_var : (name : Name) → expression_entries (e.Var name) ≡ 0
unfolding expression_entries
entries_var name = ap expression_entries (sym (rolls-Var name)) ∙ fold-roll-Expr ℕ ℕ layer_entries step_entries (Expr-F.Var name)

entries_call : (f : Fun) (xs : List Expr) → expression_entries (e.Call f xs) ≡ exprs xs
unfolding expression_entries
entries_call f xs =
    ap expression_entries (sym (rolls-Call f xs)) ∙ fold-roll-Expr ℕ ℕ layer_entries step_entries (Expr-F.Call f xs)
    ∙ ap (λ n. n + sum (map expression_entries xs)) (length-map xs expression_entries) ∙ ap (λ n. length xs + n) (sum-map expression_entries xs)

pub entries_seq : (xs : List Expr) → expression_entries (e.Seq xs) ≡ exprs xs
unfolding expression_entries
entries_seq xs =
    ap expression_entries (sym (rolls-Seq xs)) ∙ fold-roll-Expr ℕ ℕ layer_entries step_entries (Expr-F.Seq xs)
    ∙ ap (λ n. n + sum (map expression_entries xs)) (length-map xs expression_entries) ∙ ap (λ n. length xs + n) (sum-map expression_entries xs)

entries_neg : (x : Expr) → expression_entries (e.Neg x) ≡ expression_entries x
unfolding expression_entries
entries_neg x = ap expression_entries (sym (rolls-Neg x)) ∙ fold-roll-Expr ℕ ℕ layer_entries step_entries (Expr-F.Neg x)

entries_binary : (b : Bin) (x y : Expr) → expression_entries (e.Binary b x y) ≡ expression_entries x + expression_entries y
unfolding expression_entries
entries_binary b x y = ap expression_entries (sym (rolls-Binary b x y)) ∙ fold-roll-Expr ℕ ℕ layer_entries step_entries (Expr-F.Binary b x y)

entries_root : expression_entries e.Root ≡ 0
unfolding expression_entries
entries_root = ap expression_entries (sym rolls-Root) ∙ fold-roll-Expr ℕ ℕ layer_entries step_entries Expr-F.Root

step_is : (s : PathStep) → fold-PathStep ℕ ℕ layer_entries step_entries s ≡ of_step s
unfolding expression_entries
step_is s =
    fold_out-PathStep ℕ ℕ layer_entries step_entries s
    ∙ ap (λ n. n + sum (map expression_entries s.predicates)) (length-map s.predicates expression_entries) ∙ ap (λ n. length s.predicates + n) (sum-map expression_entries s.predicates)

entries_abs : (steps : List PathStep) (t : Option NodeTest) → expression_entries (e.Abs steps t) ≡ of_steps steps
unfolding expression_entries
entries_abs steps t =
    let f = fold-PathStep ℕ ℕ layer_entries step_entries in
    ap expression_entries (sym (rolls-Abs steps t)) ∙ fold-roll-Expr ℕ ℕ layer_entries step_entries (Expr-F.Abs steps t)
    ∙ ap (λ n. n + sum (map f steps)) (length-map steps f) ∙ ap (λ n. length steps + n) (sum-map f steps ∙ sum_same f of_step step_is steps)

entries_up : (n : ℕ) (t : Option NodeTest) → expression_entries (e.Up n t) ≡ 0
unfolding expression_entries
entries_up n t = ap expression_entries (sym (rolls-Up n t)) ∙ fold-roll-Expr ℕ ℕ layer_entries step_entries (Expr-F.Up n t)

entries_attr : (t : NodeTest) → expression_entries (e.Attr t) ≡ 0
unfolding expression_entries
entries_attr t = ap expression_entries (sym (rolls-Attr t)) ∙ fold-roll-Expr ℕ ℕ layer_entries step_entries (Expr-F.Attr t)

-- What tokens mean.

abbrev pub Few : ℕ → Expr → ℕ → Type 0
Few n x h = expression_entries x ≤ n

abbrev pub FewOf : ℕ → List Expr → ℕ → Type 0
FewOf n xs h = exprs xs ≤ n

abbrev pub FewSteps : ℕ → List PathStep → ℕ → Type 0
FewSteps n steps h = of_steps steps ≤ n

abbrev pub FewIn : ℕ → PathStep → ℕ → Type 0
FewIn n s h = of_step s < n

abbrev Anything : {A : Type 0} → A → ℕ → Type 0
Anything a h = Unit {0}

anything : {A : Type 0} (m : Meant A) → IfFine Anything m
anything (Fine a h) = tt
anything High = tt
anything (Bad fault) = tt

if_more : (n k : ℕ) (m : Meant Expr) → n ≤ k → IfFine (Few n) m → IfFine (Few k) m
if_more n k (Fine x h) l p = omega (arith, l, p)
if_more n k High l p = tt
if_more n k (Bad fault) l p = tt

exprs_more : (xs : List Expr) (x : Expr) → exprs (xs ++ x ∷ []) ≡ exprs xs + 1 + expression_entries x
exprs_more xs x =
    let a = length-append xs (x ∷ []) in let b = sum_by-append expression_entries xs (x ∷ []) in let c = sum_by-cons expression_entries x [] in omega (arith, a, b, c)

steps_more : (xs : List PathStep) (s : PathStep) → of_steps (xs ++ s ∷ []) ≡ of_steps xs + 1 + of_step s
steps_more xs s =
    let a = length-append xs (s ∷ []) in let b = sum_by-append of_step xs (s ∷ []) in let c = sum_by-cons of_step s [] in omega (arith, a, b, c)

also_few : (n k m : ℕ) (xs : Meant (List Expr)) (x : Meant Expr) → n + 1 + k ≤ m → IfFine (FewOf n) xs → IfFine (Few k) x → IfFine (FewOf m) (and_also xs x)
also_few n k m xs x l p q = joined_fine (FewOf n) (Few k) (FewOf m) 0 (λ values value. values ++ value ∷ []) xs x p q (λ ys y h g a b z. let r = exprs_more ys y in omega (arith, r, a, b, l))

pub also_steps : (n k m : ℕ) (xs : Meant (List PathStep)) (x : Meant PathStep) → n + k ≤ m → IfFine (FewSteps n) xs → IfFine (FewIn k) x → IfFine (FewSteps m) (and_also xs x)
also_steps n k m xs x l p q = joined_fine (FewSteps n) (FewIn k) (FewSteps m) 0 (λ values value. values ++ value ∷ []) xs x p q (λ ys y h g a b z. let r = steps_more ys y in omega (arith, r, a, b, l))

called_few : (f : Option Fun) (p k n m : ℕ) (xs : Meant (List Expr)) → n ≤ m → IfFine (FewOf n) xs → IfFine (Few m) (called_by f p k xs)
called_few None p k n m xs l h = tt
called_few (Some f) p k n m xs l h = by (permits f k) where
  by : (b : Bool) → IfFine (Few m) (if b then made 1 (e.Call f) xs else refused kind.Arity p)
  by true = made_fine (FewOf n) (Few m) 1 (e.Call f) xs h (λ ys g a z. let r = entries_call f ys in omega (arith, r, a, l))
  by false = tt

operated_few : (o : Operator) (p n k m : ℕ) (x y : Meant Expr) → n + k ≤ m → IfFine (Few n) x → IfFine (Few k) y → IfFine (Few m) (operated o p x y)
operated_few (operator.Binary b) p n k m x y l h g =
    joined_fine (Few n) (Few k) (Few m) 1 (e.Binary b) x y h g (λ u v i j a c z. let r = entries_binary b u v in omega (arith, r, a, c, l))
operated_few operator.Div p n k m x y l h g = tt

-- a step has a token for its test
pub stepped_few : (l : Link) (n m : ℕ) (t : Meant NodeTest) (xs : Meant (List Expr)) → n < m → IfFine (FewOf n) xs → IfFine (FewIn m) (step l t xs)
stepped_few l n m t xs k h = joined_fine Anything (FewOf n) (FewIn m) 0 (step_of l) t xs (anything t) h (λ u ys i j a b z. omega (arith, b, k))

module _ (dialect : Dialect) (scope : List Binding) where
  test_some : {ts : List Placed} {t : Meant NodeTest} → Test dialect scope ts t → 0 < length ts
  test_some (Test.named p name) = omega arith
  test_some (Test.within p prefix) = omega arith
  test_some (Test.any p) = omega arith
  test_some (Test.type p o c name t h) = omega arith
  test_some (Test.target p o q c name text h) = omega arith

  mutual
    few : {n : ℕ} {ts : List Placed} {m : Meant Expr} → Spells dialect scope n ts m → IfFine (Few (length ts)) m
    few (Spells.whole n p i) = let r = entries_whole i in omega (arith, r)
    few (Spells.literal n p text) = let r = entries_literal text in omega (arith, r)
    few (Spells.variable n d p name) =
        made_fine Anything (Few 2) 1 e.Var (name_of scope name p) (anything (name_of scope name p)) (λ x h a z. let r = entries_var x in omega (arith, r))
    few (Spells.call n p o c name {k} {ts} {es} d) =
        let l = length-append ts (at c token.Close ∷ []) in
        called_few (function_of name) p k (length ts + 1) (length (at p (token.Name name) ∷ at o token.Open ∷ (ts ++ at c token.Close ∷ []))) es (omega (arith, l)) (few_listed d)
    few (Spells.single n o c {ts} {x} d) =
        let l = length-append ts (at c token.Close ∷ []) in if_more (length ts) (length (at o token.Open ∷ (ts ++ at c token.Close ∷ []))) x (omega (arith, l)) (few d)
    few (Spells.several n o c {k} {ts} {es} d ne) =
        let l = length-append ts (at c token.Close ∷ []) in
        made_fine (FewOf (length ts + 1)) (Few (length (at o token.Open ∷ (ts ++ at c token.Close ∷ [])))) 1 e.Seq es (few_listed d) (λ ys h a z. let r = entries_seq ys in omega (arith, r, a, l))
    few (Spells.negated n p {ts} {x} l d) =
        made_fine (Few (length ts)) (Few (suc (length ts))) 1 e.Neg x (few d) (λ y h a z. let r = entries_neg y in omega (arith, r, a))
    few (Spells.operation n p o {ts} {us} {x} {y} l d f) =
        let r = length-append ts (at p (token.Operator o) ∷ us) in operated_few o p (length ts) (length us) (length (ts ++ at p (token.Operator o) ∷ us)) x y (omega (arith, r)) (few d) (few f)
    few (Spells.root n p) = let r = entries_root in omega (arith, r)
    few (Spells.absolute n {l} {ts} {us} {steps} {t} ne d f) =
        let r = length-append ts us in
        joined_fine (FewSteps (length ts)) Anything (Few (length (ts ++ us))) 1 e.Abs steps t (few_steps d) (anything t) (λ ys u h g a b z. let q = entries_abs ys u in omega (arith, q, a, r))
    few (Spells.above n {k} {ts} {us} {t} d f) =
        made_fine Anything (Few (length (ts ++ us))) 1 (e.Up k) t (anything t) (λ u h a z. let r = entries_up k u in omega (arith, r))
    few (Spells.attributes n {ts} {t} d) = made_fine Anything (Few (length ts)) 1 e.Attr t (anything t) (λ u h a z. let r = entries_attr u in omega (arith, r))

    few_leading : {k : ℕ} {ts : List Placed} {es : Meant (List Expr)} → Leading dialect scope k ts es → IfFine (FewOf (length ts)) es
    few_leading Leading.start = omega arith
    few_leading (Leading.further p {k} {ts} {us} {es} {x} d f) =
        let a = length-append (ts ++ us) (at p token.Comma ∷ []) in let b = length-append ts us in
        also_few (length ts) (length us) (length (ts ++ us ++ at p token.Comma ∷ [])) es x (omega (arith, a, b)) (few_leading d) (few f)

    few_listed : {k : ℕ} {ts : List Placed} {es : Meant (List Expr)} → Listed dialect scope k ts es → IfFine (FewOf (length ts + 1)) es
    few_listed Listed.empty = omega arith
    few_listed (Listed.last {k} {ts} {us} {es} {x} d f) =
        let b = length-append ts us in also_few (length ts) (length us) (length (ts ++ us) + 1) es x (omega (arith, b)) (few_leading d) (few f)

    pub few_predicates : {ts : List Placed} {es : Meant (List Expr)} → Predicates dialect scope ts es → IfFine (FewOf (length ts)) es
    few_predicates Predicates.unfiltered = omega arith
    few_predicates (Predicates.filtered o c {ts} {us} {es} {x} d f) =
        let a = length-append ts (at o token.OpenPredicate ∷ (us ++ at c token.ClosePredicate ∷ [])) in let b = length-append us (at c token.ClosePredicate ∷ []) in
        also_few (length ts) (length us) (length (ts ++ at o token.OpenPredicate ∷ (us ++ at c token.ClosePredicate ∷ []))) es x (omega (arith, a, b)) (few_predicates d) (few f)

    few_step : {l : Link} {ts : List Placed} {s : Meant PathStep} → Step dialect scope l ts s → IfFine (FewIn (length ts)) s
    few_step (Step.tested l p {ts} {us} {t} {es} d f) =
        let a = length-append (link_tokens l p ++ ts) us in let b = length-append (link_tokens l p) ts in let c = test_some d in
        stepped_few l (length us) (length (link_tokens l p ++ ts ++ us)) t es (omega (arith, a, b, c)) (few_predicates f)

    pub few_steps : {l : Link} {ts : List Placed} {steps : Meant (List PathStep)} → Steps dialect scope l ts steps → IfFine (FewSteps (length ts)) steps
    few_steps (Steps.one_step {l} {ts} {s} d) = also_steps 0 (length ts) (length ts) none s (omega arith) (omega arith) (few_step d)
    few_steps (Steps.next_step {l} {m} {ts} {us} {steps} {s} ne d f) =
        let a = length-append ts us in also_steps (length ts) (length us) (length (ts ++ us)) steps s (omega (arith, a)) (few_steps d) (few_step f)

  pub expression_few : {n : ℕ} {ts : List Placed} (x : Expr) (h : ℕ) → Spells dialect scope n ts (Fine x h) → expression_entries x ≤ length ts
  expression_few x h d = few d
