-- What was read is called well and no higher than allowed.
use Rattle.std.proofs.Common.{◌≡◌, ℕ, ℤ, ◌+◌, ◌≤◌, Bool, true, false, cond, nat_eq, ◌&&◌, max, List, [], ◌∷◌, ◌++◌, map, Option, Some, None, Result, Ok, Err, IfOk, length, sym, ◌∙◌, refl, ap, subst, arith, lit≤}
use Rattle.std.specs.List.{list_all}
use Rattle.std.proofs.lemmas.Bool.{false≢true}
use Rattle.std.proofs.lemmas.List.{length_push, length-map}
use Rattle.std.proofs.lemmas.List.Folds.{list_all-map}
use Rattle.stx_base.specs.declared.expression.Fun.{Fun}
use Rattle.stx_base.specs.Functions.{permits}
use Rattle.stx_base.specs.declared.name.Binding.{Binding}
use Rattle.stx_base.specs.declared.name.Name.{Name}
use Rattle.stx_base.specs.declared.node.NodeTest.{NodeTest}
use Rattle.stx_base.specs.declared.node.NodeTest.TheVariants as test
use Rattle.stxpath_syntax.specs.declared.dialect.Dialect.{Dialect}
use Rattle.stxpath_syntax.specs.declared.expr.Alternative.{Alternative}
use Rattle.stxpath_syntax.specs.declared.expr.Alternative.TheVariants as alternative
use Rattle.stxpath_syntax.specs.declared.expr.AvtPart.{AvtPart}
use Rattle.stxpath_syntax.specs.declared.expr.AvtPart.TheVariants.{Chars, Value}
use Rattle.stxpath_syntax.specs.declared.expr.Bin.{Bin}
use Rattle.stxpath_syntax.specs.declared.expr.Expr.{Expr}
use Rattle.stxpath_syntax.specs.declared.expr.Expr.TheFolds.{fold-roll-Expr, fold-roll-PathStep}
use Rattle.stxpath_syntax.specs.declared.expr.Expr.TheOpen.{Expr-F}
use Rattle.stxpath_syntax.specs.declared.expr.Expr.TheVariants as e
use Rattle.stxpath_syntax.specs.declared.expr.Expr.TheViews.{rolls-Whole, rolls-Literal, rolls-Var, rolls-Call, rolls-Seq, rolls-Neg, rolls-Binary, rolls-Root, rolls-Abs, rolls-Up, rolls-Attr}
use Rattle.stxpath_syntax.specs.declared.expr.Link.{Link}
use Rattle.stxpath_syntax.specs.declared.expr.PathStep.{PathStep}
use Rattle.stxpath_syntax.specs.declared.fault.ParseFault.{ParseFault}
use Rattle.stxpath_syntax.specs.declared.fault.PathKind.TheVariants as kind
use Rattle.stxpath_syntax.specs.declared.meant.Meant.{Meant}
use Rattle.stxpath_syntax.specs.declared.token.Operator.{Operator}
use Rattle.stxpath_syntax.specs.declared.token.Operator.TheVariants as operator
use Rattle.stxpath_syntax.specs.declared.token.Placed.{Placed}
use Rattle.stxpath_syntax.specs.declared.token.Written.{Written}
use Rattle.stxpath_syntax.specs.Grammar.{Test, AttrTest, Ending, Spells, Leading, Listed, Predicates, Step, Steps, AttrStep, Alternates, Pattern}
use Rattle.stxpath_syntax.specs.Meaning.{refused, made, operated, step, none, and_also, called_by, name_by, name_of, binding_by, binding_of, step_of, function_of}
use Rattle.stxpath_syntax.specs.Reading.{Gives}
use Rattle.stxpath_syntax.specs.Shape.{all_true, step_called_well, layer_called_well, is_called_well, is_step_called_well, is_alternative_called_well, is_part_called_well, greatest, step_height, layer_height, height, height_of_step, alternative_height, part_height}
use Rattle.stxpath_syntax.specs.Template.{Template, Read, Answers, IsExpression, IsPattern, IsTemplate, with_char, with_value}
use Rattle.stxpath_syntax.specs.Words.{uri_of}
use Rattle.stxpath_syntax.proofs.Heights.{IfFine, made_fine, joined_fine}

-- ---- by layers

called_whole : (i : ℤ) → is_called_well (e.Whole i) ≡ true
unfolding is_called_well
called_whole i = ap is_called_well (sym (rolls-Whole i)) ∙ fold-roll-Expr Bool Bool layer_called_well step_called_well (Expr-F.Whole i)

high_whole : (i : ℤ) → height (e.Whole i) ≡ 1
unfolding height
high_whole i = ap height (sym (rolls-Whole i)) ∙ fold-roll-Expr ℕ ℕ layer_height step_height (Expr-F.Whole i)

called_literal : (text : List ℕ) → is_called_well (e.Literal text) ≡ true
unfolding is_called_well
called_literal text = ap is_called_well (sym (rolls-Literal text)) ∙ fold-roll-Expr Bool Bool layer_called_well step_called_well (Expr-F.Literal text)

high_literal : (text : List ℕ) → height (e.Literal text) ≡ 1
unfolding height
high_literal text = ap height (sym (rolls-Literal text)) ∙ fold-roll-Expr ℕ ℕ layer_height step_height (Expr-F.Literal text)

called_var : (name : Name) → is_called_well (e.Var name) ≡ true
unfolding is_called_well
called_var name = ap is_called_well (sym (rolls-Var name)) ∙ fold-roll-Expr Bool Bool layer_called_well step_called_well (Expr-F.Var name)

high_var : (name : Name) → height (e.Var name) ≡ 1
unfolding height
high_var name = ap height (sym (rolls-Var name)) ∙ fold-roll-Expr ℕ ℕ layer_height step_height (Expr-F.Var name)

called_root : is_called_well (e.Root) ≡ true
unfolding is_called_well
called_root = ap is_called_well (sym (rolls-Root)) ∙ fold-roll-Expr Bool Bool layer_called_well step_called_well (Expr-F.Root)

high_root : height (e.Root) ≡ 1
unfolding height
high_root = ap height (sym (rolls-Root)) ∙ fold-roll-Expr ℕ ℕ layer_height step_height (Expr-F.Root)

called_up : (n : ℕ) (t : Option NodeTest) → is_called_well (e.Up n t) ≡ true
unfolding is_called_well
called_up n t = ap is_called_well (sym (rolls-Up n t)) ∙ fold-roll-Expr Bool Bool layer_called_well step_called_well (Expr-F.Up n t)

high_up : (n : ℕ) (t : Option NodeTest) → height (e.Up n t) ≡ 1
unfolding height
high_up n t = ap height (sym (rolls-Up n t)) ∙ fold-roll-Expr ℕ ℕ layer_height step_height (Expr-F.Up n t)

called_attr : (t : NodeTest) → is_called_well (e.Attr t) ≡ true
unfolding is_called_well
called_attr t = ap is_called_well (sym (rolls-Attr t)) ∙ fold-roll-Expr Bool Bool layer_called_well step_called_well (Expr-F.Attr t)

high_attr : (t : NodeTest) → height (e.Attr t) ≡ 1
unfolding height
high_attr t = ap height (sym (rolls-Attr t)) ∙ fold-roll-Expr ℕ ℕ layer_height step_height (Expr-F.Attr t)

called_call : (f : Fun) (es : List Expr) → is_called_well (e.Call f es) ≡ (permits f (length (map is_called_well es)) && all_true (map is_called_well es))
unfolding is_called_well
called_call f es = ap is_called_well (sym (rolls-Call f es)) ∙ fold-roll-Expr Bool Bool layer_called_well step_called_well (Expr-F.Call f es)

high_call : (f : Fun) (es : List Expr) → height (e.Call f es) ≡ greatest (map height es) + 1
unfolding height
high_call f es = ap height (sym (rolls-Call f es)) ∙ fold-roll-Expr ℕ ℕ layer_height step_height (Expr-F.Call f es)

called_seq : (es : List Expr) → is_called_well (e.Seq es) ≡ (all_true (map is_called_well es))
unfolding is_called_well
called_seq es = ap is_called_well (sym (rolls-Seq es)) ∙ fold-roll-Expr Bool Bool layer_called_well step_called_well (Expr-F.Seq es)

high_seq : (es : List Expr) → height (e.Seq es) ≡ greatest (map height es) + 1
unfolding height
high_seq es = ap height (sym (rolls-Seq es)) ∙ fold-roll-Expr ℕ ℕ layer_height step_height (Expr-F.Seq es)

called_neg : (x : Expr) → is_called_well (e.Neg x) ≡ is_called_well x
unfolding is_called_well
called_neg x = ap is_called_well (sym (rolls-Neg x)) ∙ fold-roll-Expr Bool Bool layer_called_well step_called_well (Expr-F.Neg x)

high_neg : (x : Expr) → height (e.Neg x) ≡ height x + 1
unfolding height
high_neg x = ap height (sym (rolls-Neg x)) ∙ fold-roll-Expr ℕ ℕ layer_height step_height (Expr-F.Neg x)

called_binary : (b : Bin) (x y : Expr) → is_called_well (e.Binary b x y) ≡ (is_called_well x && is_called_well y)
unfolding is_called_well
called_binary b x y = ap is_called_well (sym (rolls-Binary b x y)) ∙ fold-roll-Expr Bool Bool layer_called_well step_called_well (Expr-F.Binary b x y)

high_binary : (b : Bin) (x y : Expr) → height (e.Binary b x y) ≡ max (height x) (height y) + 1
unfolding height
high_binary b x y = ap height (sym (rolls-Binary b x y)) ∙ fold-roll-Expr ℕ ℕ layer_height step_height (Expr-F.Binary b x y)

called_abs : (steps : List PathStep) (t : Option NodeTest) → is_called_well (e.Abs steps t) ≡ all_true (map is_step_called_well steps)
unfolding is_called_well is_step_called_well
called_abs steps t = ap is_called_well (sym (rolls-Abs steps t)) ∙ fold-roll-Expr Bool Bool layer_called_well step_called_well (Expr-F.Abs steps t)

high_abs : (steps : List PathStep) (t : Option NodeTest) → height (e.Abs steps t) ≡ greatest (map height_of_step steps) + 1
unfolding height height_of_step
high_abs steps t = ap height (sym (rolls-Abs steps t)) ∙ fold-roll-Expr ℕ ℕ layer_height step_height (Expr-F.Abs steps t)

pub called_step : (l : Link) (t : NodeTest) (es : List Expr) → is_step_called_well (step_of l t es) ≡ all_true (map is_called_well es)
unfolding is_called_well is_step_called_well
called_step l t es = fold-roll-PathStep Bool Bool layer_called_well step_called_well (record { link = l; test = t; predicates = es })

pub high_step : (l : Link) (t : NodeTest) (es : List Expr) → height_of_step (step_of l t es) ≡ greatest (map height es)
unfolding height height_of_step
high_step l t es = fold-roll-PathStep ℕ ℕ layer_height step_height (record { link = l; test = t; predicates = es })

-- ---- one, and several one after another

-- called well, with this height
record Well {A : Type 0} (test : A → Bool) (tall : A → ℕ) (x : A) (h : ℕ) : Type 0 where
  is_well : test x ≡ true
  is_high : tall x ≡ h
  is_low : h ≤ 64

-- all of them called well, the highest with this height
record AllWell {A : Type 0} (test : A → Bool) (tall : A → ℕ) (xs : List A) (h : ℕ) : Type 0 where
  are_well : list_all test xs ≡ true
  are_high : greatest (map tall xs) ≡ h
  are_low : h ≤ 64

all_push : {A : Type 0} (test : A → Bool) (xs : List A) (x : A) → list_all test xs ≡ true → test x ≡ true → list_all test (xs ++ x ∷ []) ≡ true
all_push test [] x h i = rw i refl
all_push test (y ∷ xs) x h i = by (λ g. all_push test xs x g i) (test y) h
  where
    by : (list_all test xs ≡ true → list_all test (xs ++ x ∷ []) ≡ true) → (b : Bool) → (b && list_all test xs) ≡ true → (b && list_all test (xs ++ x ∷ [])) ≡ true
    by more true g = more g
    by more false g = absurd (false≢true g)

max_on : (m n k : ℕ) → max m (max n k) ≡ max (max m n) k
max_on m n k = omega arith

greatest_push : {A : Type 0} (tall : A → ℕ) (xs : List A) (x : A) → greatest (map tall (xs ++ x ∷ [])) ≡ max (greatest (map tall xs)) (tall x)
greatest_push tall [] x = omega arith
greatest_push tall (y ∷ xs) x = ap (max (tall y)) (greatest_push tall xs x) ∙ max_on (tall y) (greatest (map tall xs)) (tall x)

none_well : {A : Type 0} (test : A → Bool) (tall : A → ℕ) → AllWell test tall [] 0
none_well test tall = record { are_well = refl; are_high = refl; are_low = lit≤ tt }

one_more_well : {A : Type 0} (test : A → Bool) (tall : A → ℕ) (xs : List A) (x : A) (h g : ℕ) → AllWell test tall xs h → Well test tall x g → max h g + 0 ≤ 64
    → AllWell test tall (xs ++ x ∷ []) (max h g + 0)
one_more_well test tall xs x h g a w l = record {
  are_well = all_push test xs x a.are_well w.is_well;
  are_high =
      greatest_push tall xs x ∙ ap (λ n. max n (tall x)) a.are_high ∙ ap (max h) w.is_high
      ∙ (let e : max h g ≡ max h g + 0 = omega arith in e);
  are_low = l;
}

also_well : {A : Type 0} (test : A → Bool) (tall : A → ℕ) (xs : Meant (List A)) (x : Meant A) → IfFine (AllWell test tall) xs → IfFine (Well test tall) x
    → IfFine (AllWell test tall) (and_also xs x)
also_well test tall xs x a w =
    joined_fine (AllWell test tall) (Well test tall) (AllWell test tall) 0 (λ values value. values ++ value ∷ []) xs x a w
    (λ xs x h g a w l. one_more_well test tall xs x h g a w l)

abbrev WellExpr : Expr → ℕ → Type 0
WellExpr = Well is_called_well height

abbrev WellExprs : List Expr → ℕ → Type 0
WellExprs = AllWell is_called_well height

abbrev WellSteps : List PathStep → ℕ → Type 0
WellSteps = AllWell is_step_called_well height_of_step

-- so many of them
record Counted (k : ℕ) (es : List Expr) (h : ℕ) : Type 0 where
  all_well : WellExprs es h
  count : k ≡ length es

none_counted : Counted 0 [] 0
none_counted = record { all_well = none_well is_called_well height; count = refl }

further_counted : (k : ℕ) (es : Meant (List Expr)) (x : Meant Expr) → IfFine (Counted k) es → IfFine WellExpr x → IfFine (Counted (k + 1)) (and_also es x)
further_counted k es x a w =
    joined_fine (Counted k) WellExpr (Counted (k + 1)) 0 (λ values value. values ++ value ∷ []) es x a w
    (λ es x h g a w l. record {
      all_well = one_more_well is_called_well height es x h g a.all_well w l;
      count = (let e = length_push es x in omega (arith, e, a.count));
    })

-- ---- expressions

leaf_well : (x : Expr) → is_called_well x ≡ true → height x ≡ 1 → WellExpr x 1
leaf_well x w h = record { is_well = w; is_high = h; is_low = lit≤ tt }

-- a value that is no tree
abbrev Flat : {A : Type 0} → A → ℕ → Type 0
Flat a h = h ≡ 0

flat_on : {A B : Type 0} (f : A → B) (m : Meant A) → IfFine Flat m → IfFine Flat (made 0 f m)
flat_on f m p = made_fine Flat Flat 0 f m p (λ a h z l. omega (arith, z))

leaf_on : {A : Type 0} (f : A → Expr) (m : Meant A) → IfFine Flat m → ((a : A) → WellExpr (f a) 1) → IfFine WellExpr (made 1 f m)
leaf_on f m p w =
    made_fine Flat WellExpr 1 f m p
    (λ a h z l.
    let e : 1 ≡ h + 1 = omega (arith, z) in
    subst (λ n. WellExpr (f a) n) e (w a))

name_flat : (name : Written) (p : ℕ) (o : Option (List ℕ)) → IfFine Flat (name_by name p o)
name_flat name p None = tt
name_flat name p (Some uri) = refl

named_flat : (scope : List Binding) (name : Written) (p : ℕ) → IfFine Flat (name_of scope name p)
named_flat scope name p = name_flat name p (cond (nat_eq (length name.prefix) 0) (Some []) (uri_of scope name.prefix))

binding_flat : (prefix : List ℕ) (p : ℕ) (o : Option (List ℕ)) → IfFine Flat (binding_by prefix p o)
binding_flat prefix p None = tt
binding_flat prefix p (Some uri) = refl

test_flat : (dialect : Dialect) (scope : List Binding) {ts : List Placed} {t : Meant NodeTest} → Test dialect scope ts t → IfFine Flat t
test_flat dialect scope (Test.named p name) = flat_on test.Name (name_of scope name p) (named_flat scope name p)
test_flat dialect scope (Test.within p prefix) = flat_on test.Prefix (binding_of scope prefix p) (binding_flat prefix p (uri_of scope prefix))
test_flat dialect scope (Test.any p) = refl
test_flat dialect scope (Test.type p o c name t e) = refl
test_flat dialect scope (Test.target p o q c name text e) = refl

attr_flat : (scope : List Binding) {ts : List Placed} {t : Meant NodeTest} → AttrTest scope ts t → IfFine Flat t
attr_flat scope (AttrTest.named a p name) = flat_on test.AttrName (name_of scope name p) (named_flat scope name p)
attr_flat scope (AttrTest.within a p prefix) = flat_on test.AttrPrefix (binding_of scope prefix p) (binding_flat prefix p (uri_of scope prefix))
attr_flat scope (AttrTest.any a p) = refl

ending_flat : (scope : List Binding) {ts : List Placed} {t : Meant (Option NodeTest)} → Ending scope ts t → IfFine Flat t
ending_flat scope Ending.without = refl
ending_flat scope (Ending.attributes s {ts} {t} d) = flat_on Some t (attr_flat scope d)

call_well : (f : Fun) (k h : ℕ) (es : List Expr) → permits f k ≡ true → Counted k es h → h + 1 ≤ 64 → WellExpr (e.Call f es) (h + 1)
call_well f k h es is a l = record {
  is_well =
      called_call f es
      ∙ ap (λ n. permits f n && all_true (map is_called_well es)) (length-map es is_called_well)
      ∙ ap (λ b. b && all_true (map is_called_well es)) (subst (λ n. permits f n ≡ true) a.count is)
      ∙ list_all-map (λ b. b) is_called_well es ∙ a.all_well.are_well;
  is_high = high_call f es ∙ ap (λ n. n + 1) a.all_well.are_high;
  is_low = l;
}

called_is_well : (o : Option Fun) (p k : ℕ) (es : Meant (List Expr)) → IfFine (Counted k) es → IfFine WellExpr (called_by o p k es)
called_is_well None p k es a = tt
called_is_well (Some f) p k es a = by (permits f k) refl
  where
    by : (b : Bool) → permits f k ≡ b → IfFine WellExpr (cond b (made 1 (e.Call f) es) (refused kind.Arity p))
    by true is = made_fine (Counted k) WellExpr 1 (e.Call f) es a (λ xs h g l. call_well f k h xs is g l)
    by false is = tt

seq_well : (es : List Expr) (h : ℕ) → WellExprs es h → h + 1 ≤ 64 → WellExpr (e.Seq es) (h + 1)
seq_well es h a l = record {
  is_well = called_seq es ∙ list_all-map (λ b. b) is_called_well es ∙ a.are_well;
  is_high = high_seq es ∙ ap (λ n. n + 1) a.are_high;
  is_low = l;
}

neg_well : (x : Expr) (h : ℕ) → WellExpr x h → h + 1 ≤ 64 → WellExpr (e.Neg x) (h + 1)
neg_well x h w l = record { is_well = called_neg x ∙ w.is_well; is_high = high_neg x ∙ ap (λ n. n + 1) w.is_high; is_low = l }

binary_well : (b : Bin) (x y : Expr) (h g : ℕ) → WellExpr x h → WellExpr y g → max h g + 1 ≤ 64 → WellExpr (e.Binary b x y) (max h g + 1)
binary_well b x y h g v w l = record {
  is_well = called_binary b x y ∙ ap (λ a. a && is_called_well y) v.is_well ∙ w.is_well;
  is_high = high_binary b x y ∙ ap (λ n. max n (height y) + 1) v.is_high ∙ ap (λ n. max h n + 1) w.is_high;
  is_low = l;
}

operated_well : (o : Operator) (p : ℕ) (x y : Meant Expr) → IfFine WellExpr x → IfFine WellExpr y → IfFine WellExpr (operated o p x y)
operated_well (operator.Binary b) p x y v w =
    joined_fine WellExpr WellExpr WellExpr 1 (e.Binary b) x y v w (λ x y h g v w l. binary_well b x y h g v w l)
operated_well operator.Div p x y v w = tt

abs_well : (steps : List PathStep) (t : Option NodeTest) (h g : ℕ) → WellSteps steps h → g ≡ 0 → max h g + 1 ≤ 64 → WellExpr (e.Abs steps t) (max h g + 1)
abs_well steps t h g a z l = record {
  is_well = called_abs steps t ∙ list_all-map (λ b. b) is_step_called_well steps ∙ a.are_well;
  is_high =
      high_abs steps t ∙ ap (λ n. n + 1) a.are_high
      ∙ (let e : h + 1 ≡ max h g + 1 = omega (arith, z) in e);
  is_low = l;
}

step_well : (l : Link) (t : NodeTest) (es : List Expr) (h g : ℕ) → h ≡ 0 → WellExprs es g → max h g + 0 ≤ 64 → Well is_step_called_well height_of_step (step_of l t es) (max h g + 0)
step_well l t es h g z a m = record {
  is_well = called_step l t es ∙ list_all-map (λ b. b) is_called_well es ∙ a.are_well;
  is_high =
      high_step l t es ∙ a.are_high
      ∙ (let e : g ≡ max h g + 0 = omega (arith, z) in e);
  is_low = m;
}

abbrev WellStep : PathStep → ℕ → Type 0
WellStep = Well is_step_called_well height_of_step

stepped : (l : Link) (t : Meant NodeTest) (es : Meant (List Expr)) → IfFine Flat t → IfFine WellExprs es → IfFine WellStep (step l t es)
stepped l t es z a = joined_fine Flat WellExprs WellStep 0 (step_of l) t es z a (λ t es h g z a m. step_well l t es h g z a m)

module _ (dialect : Dialect) (scope : List Binding) where
  mutual
    well : {n : ℕ} {ts : List Placed} {m : Meant Expr} → Spells dialect scope n ts m → IfFine WellExpr m
    well (Spells.whole n p i) = leaf_well (e.Whole i) (called_whole i) (high_whole i)
    well (Spells.literal n p text) = leaf_well (e.Literal text) (called_literal text) (high_literal text)
    well (Spells.variable n d p name) =
        leaf_on e.Var (name_of scope name p) (named_flat scope name p) (λ name. leaf_well (e.Var name) (called_var name) (high_var name))
    well (Spells.call n p o c name {k} {ts} {es} d) =
        called_is_well (function_of name) p k es (well_listed d)
    well (Spells.single n o c {ts} {x} d) = well d
    well (Spells.several n o c {k} {ts} {es} d ne) =
        made_fine (Counted k) WellExpr 1 e.Seq es (well_listed d) (λ es h a l. seq_well es h a.all_well l)
    well (Spells.negated n p {ts} {x} l d) = made_fine WellExpr WellExpr 1 e.Neg x (well d) (λ x h w l. neg_well x h w l)
    well (Spells.operation n p o {ts} {us} {x} {y} l d f) = operated_well o p x y (well d) (well f)
    well (Spells.root n p) = leaf_well e.Root called_root high_root
    well (Spells.absolute n {l} {ts} {us} {steps} {t} ne d f) =
        joined_fine WellSteps Flat WellExpr 1 e.Abs steps t (well_steps d) (ending_flat scope f) (λ steps t h g a z l. abs_well steps t h g a z l)
    well (Spells.above n {k} {ts} {us} {t} d f) =
        leaf_on (e.Up k) t (ending_flat scope f) (λ t. leaf_well (e.Up k t) (called_up k t) (high_up k t))
    well (Spells.attributes n {ts} {t} d) = leaf_on e.Attr t (attr_flat scope d) (λ t. leaf_well (e.Attr t) (called_attr t) (high_attr t))

    well_leading : {k : ℕ} {ts : List Placed} {es : Meant (List Expr)} → Leading dialect scope k ts es → IfFine (Counted k) es
    well_leading Leading.start = none_counted
    well_leading (Leading.further p {k} {ts} {us} {es} {x} d f) = further_counted k es x (well_leading d) (well f)

    well_listed : {k : ℕ} {ts : List Placed} {es : Meant (List Expr)} → Listed dialect scope k ts es → IfFine (Counted k) es
    well_listed Listed.empty = none_counted
    well_listed (Listed.last {k} {ts} {us} {es} {x} d f) = further_counted k es x (well_leading d) (well f)

    well_predicates : {ts : List Placed} {es : Meant (List Expr)} → Predicates dialect scope ts es → IfFine WellExprs es
    well_predicates Predicates.unfiltered = none_well is_called_well height
    well_predicates (Predicates.filtered o c {ts} {us} {es} {x} d f) = also_well is_called_well height es x (well_predicates d) (well f)

    well_step : {l : Link} {ts : List Placed} {s : Meant PathStep} → Step dialect scope l ts s → IfFine WellStep s
    well_step (Step.tested l p {ts} {us} {t} {es} d f) = stepped l t es (test_flat dialect scope d) (well_predicates f)

    well_steps : {l : Link} {ts : List Placed} {steps : Meant (List PathStep)} → Steps dialect scope l ts steps → IfFine WellSteps steps
    well_steps (Steps.one_step {l} {ts} {s} d) =
        also_well is_step_called_well height_of_step none s (none_well is_step_called_well height_of_step) (well_step d)
    well_steps (Steps.next_step {l} {m} {ts} {us} {steps} {s} ne d f) = also_well is_step_called_well height_of_step steps s (well_steps d) (well_step f)

  -- ---- patterns

  well_attribute : {l : Link} {ts : List Placed} {s : Meant PathStep} → AttrStep dialect scope l ts s → IfFine WellStep s
  well_attribute (AttrStep.tested l p {ts} {us} {t} {es} d f) = stepped l t es (attr_flat scope d) (well_predicates f)

  abbrev WellAlternative : Alternative → ℕ → Type 0
  WellAlternative = Well is_alternative_called_well alternative_height

  steps_alternative : (steps : Meant (List PathStep)) → IfFine WellSteps steps → IfFine WellAlternative (made 0 alternative.Steps steps)
  steps_alternative steps a =
      made_fine WellSteps WellAlternative 0 alternative.Steps steps a
      (λ steps h a l. record {
        is_well = a.are_well;
        is_high = a.are_high ∙ (let e : h ≡ h + 0 = omega arith in e);
        is_low = l;
      })

  well_alternative : {ts : List Placed} {a : Meant Alternative} → Alternates dialect scope ts a → IfFine WellAlternative a
  well_alternative (Alternates.root p) = record { is_well = refl; is_high = refl; is_low = lit≤ tt }
  well_alternative (Alternates.steps l {ts} {steps} d) = steps_alternative steps (well_steps d)
  well_alternative (Alternates.attribute l {ts} {s} d) =
      steps_alternative (and_also none s) (also_well is_step_called_well height_of_step none s (none_well is_step_called_well height_of_step) (well_attribute d))
  well_alternative (Alternates.attributes l m {ts} {us} {steps} {s} ne d f) =
      steps_alternative (and_also steps s) (also_well is_step_called_well height_of_step steps s (well_steps d) (well_attribute f))

  well_pattern : {ts : List Placed} {all : Meant (List Alternative)} → Pattern dialect scope ts all → IfFine (AllWell is_alternative_called_well alternative_height) all
  well_pattern (Pattern.one {ts} {a} d) =
      also_well is_alternative_called_well alternative_height none a (none_well is_alternative_called_well alternative_height) (well_alternative d)
  well_pattern (Pattern.further p {ts} {us} {all} {a} d f) =
      also_well is_alternative_called_well alternative_height all a (well_pattern d) (well_alternative f)

  -- ---- what texts are read as

  pub expression_called : (at : ℕ) (text : List ℕ) (x : Expr) → IsExpression dialect scope at text (Ok x) → is_called_well x ≡ true
  expression_called at text _ (Gives.read ts x h l d) = (well d).is_well

  pub expression_low : (at : ℕ) (text : List ℕ) (x : Expr) → IsExpression dialect scope at text (Ok x) → height x ≤ 64
  expression_low at text _ (Gives.read ts x h l d) = let w : WellExpr x h = well d in omega (arith, w.is_high, w.is_low)

  pub pattern_called : (text : List ℕ) (all : List Alternative) → IsPattern dialect scope text (Ok all) → list_all is_alternative_called_well all ≡ true
  pattern_called text _ (Gives.read ts all h l d) = (well_pattern d).are_well

  pub pattern_low : (text : List ℕ) (all : List Alternative) → IsPattern dialect scope text (Ok all) → greatest (map alternative_height all) ≤ 64
  pattern_low text _ (Gives.read ts all h l d) =
      let w : AllWell is_alternative_called_well alternative_height all h = well_pattern d in omega (arith, w.are_high, w.are_low)

  -- ---- templates

  -- the parts of what was read
  record Parts (parts : List AvtPart) : Type 0 where
    are_well : list_all is_part_called_well parts ≡ true
    are_low : greatest (map part_height parts) ≤ 64

  abbrev IfRead : Read (List AvtPart) → Type 0
  IfRead (Ok parts) = Parts parts
  IfRead (Err why) = Unit {0}

  char_on : (c : ℕ) (parts : Read (List AvtPart)) → IfRead parts → IfRead (with_char c parts)
  char_on c (Err why) p = tt
  char_on c (Ok []) p = record { are_well = refl; are_low = lit≤ tt }
  char_on c (Ok (Chars cs ∷ parts)) p = record { are_well = p.are_well; are_low = p.are_low }
  char_on c (Ok (Value x ∷ parts)) p =
      record { are_well = p.are_well; are_low = (let l = p.are_low in omega (arith, l)) }

  value_on : (x : Expr) (parts : Read (List AvtPart)) → is_called_well x ≡ true → height x ≤ 64 → IfRead parts → IfRead (with_value x parts)
  value_on x (Err why) w l p = tt
  value_on x (Ok parts) w l p = record {
    are_well = ap (λ b. b && list_all is_part_called_well parts) w ∙ p.are_well;
    are_low = (let m = p.are_low in omega (arith, l, m));
  }

  template_parts : {at : ℕ} {text : List ℕ} {parts : Read (List AvtPart)} → Template dialect scope at text parts → IfRead parts
  template_parts (Template.end at) = record { are_well = refl; are_low = lit≤ tt }
  template_parts (Template.plain at c {text} {parts} b d) = char_on c parts (template_parts d)
  template_parts (Template.doubled at c {text} {parts} b d) = char_on c parts (template_parts d)
  template_parts (Template.lone at text n) = tt
  template_parts (Template.unended at text n e) = tt
  template_parts (Template.value at inner text x {parts} n e g d) =
      value_on x parts (expression_called (at + 1) inner x g) (expression_low (at + 1) inner x g) (template_parts d)
  template_parts (Template.faulty at inner text why n e g) = tt

  pub template_called : (text : List ℕ) (parts : List AvtPart) → IsTemplate dialect scope text (Ok parts) → list_all is_part_called_well parts ≡ true
  template_called text parts d = let p : Parts parts = template_parts d in p.are_well

  pub template_low : (text : List ℕ) (parts : List AvtPart) → IsTemplate dialect scope text (Ok parts) → greatest (map part_height parts) ≤ 64
  template_low text parts d = let p : Parts parts = template_parts d in p.are_low

  -- ---- what calls answer

  pub expression_answer : (text : List ℕ) (r : Result Expr ParseFault) → Answers (IsExpression dialect scope 0 text) r
      → IfOk r (λ x. is_called_well x ≡ true) × IfOk r (λ x. height x ≤ 64)
  expression_answer text (Ok x) a = (expression_called 0 text x a, expression_low 0 text x a)
  expression_answer text (Err why) a = (tt, tt)
