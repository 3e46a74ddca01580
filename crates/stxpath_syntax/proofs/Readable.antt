-- The expressions that can be read, and that what well-made tokens mean is one of them.
use Rattle.std.proofs.Common.{◌≡◌, ◌≢◌, ℕ, ◌+◌, ◌^◌, ◌≤◌, ◌<◌, Bool, true, false, cond, nat_eq, max, pos, List, [], ◌∷◌, ◌++◌, Some, None, Option, length, sym, ◌∙◌, refl, ap, subst, arith, ◌⊎◌, inl, inr, codes}
use Rattle.std.specs.Prelude.{bytes_eq, encode_utf8_all}
use Rattle.stx_base.specs.declared.expression.Fun.{Fun}
use Rattle.stx_base.specs.declared.name.Binding.{Binding}
use Rattle.stx_base.specs.declared.name.Name.{Name}
use Rattle.stx_base.specs.declared.node.NodeTest.{NodeTest}
use Rattle.stx_base.specs.declared.node.NodeTest.TheVariants as test
use Rattle.stx_base.specs.Functions.{permits}
use Rattle.stxpath_syntax.specs.declared.dialect.Dialect.{Dialect}
use Rattle.stxpath_syntax.specs.declared.dialect.Dialect.TheVariants.{One, OneOne}
use Rattle.stxpath_syntax.specs.declared.expr.Bin.{Bin}
use Rattle.stxpath_syntax.specs.declared.expr.Expr.{Expr}
use Rattle.stxpath_syntax.specs.declared.expr.Expr.TheVariants as e
use Rattle.stxpath_syntax.specs.declared.expr.Link.{Link}
use Rattle.stxpath_syntax.specs.declared.expr.Link.TheVariants as link
use Rattle.stxpath_syntax.specs.declared.expr.PathStep.{PathStep}
use Rattle.stxpath_syntax.specs.declared.fault.PathKind.TheVariants as kind
use Rattle.stxpath_syntax.specs.declared.meant.Meant.{Meant}
use Rattle.stxpath_syntax.specs.declared.token.Operator.{Operator}
use Rattle.stxpath_syntax.specs.declared.token.Operator.TheVariants as operator
use Rattle.stxpath_syntax.specs.declared.token.Placed.{Placed}
use Rattle.stxpath_syntax.specs.declared.token.Token.{Token}
use Rattle.stxpath_syntax.specs.declared.token.Token.TheVariants as token
use Rattle.stxpath_syntax.specs.declared.token.Written.{Written}
use Rattle.stxpath_syntax.specs.Grammar.{at, link_tokens, Test, AttrTest, Ending, Spells, Leading, Listed, Predicates, Step, Steps}
use Rattle.stxpath_syntax.specs.Meaning.{refused, made, operated, step, none, and_also, called_by, name_by, name_of, binding_by, binding_of, step_of, type_of, function_of}
use Rattle.stxpath_syntax.specs.Words.{cdata_test, type_named, uri_of}
use Rattle.stxpath_syntax.proofs.Heights.{IfFine, made_fine, joined_fine}
use Rattle.stxpath_syntax.proofs.Wording.{IsNc, OneQuote}

-- ---- tokens

-- what the text of a token shows
abbrev pub Made : Token → Type 0
Made (token.Whole i) = (n : ℕ) × (i ≡ pos n) × (n < 2 ^ 63)
Made (token.Literal text) = OneQuote text
Made (token.Name name) = IsNc name.local × ((name.prefix ≡ []) ⊎ IsNc name.prefix)
Made (token.Within prefix) = IsNc prefix
Made _ = Unit {0}

abbrev pub AllMade : List Placed → Type 0
AllMade [] = Unit {0}
AllMade (t ∷ ts) = Made t.token × AllMade ts

made_front : (ts us : List Placed) → AllMade (ts ++ us) → AllMade ts
made_front [] us a = tt
made_front (t ∷ ts) us a = (a.0, made_front ts us a.1)

made_back : (ts us : List Placed) → AllMade (ts ++ us) → AllMade us
made_back [] us a = a
made_back (t ∷ ts) us a = made_back ts us a.1

-- ---- names and tests

-- a prefix, or none and no URI
abbrev pub IsPrefix : List ℕ → List ℕ → Type 0
IsPrefix [] uri = uri ≡ []
IsPrefix (c ∷ cs) uri = IsNc (c ∷ cs)

abbrev pub GoodName : Name → Type 0
GoodName name = IsNc name.local × IsPrefix name.prefix name.uri

abbrev pub GoodAttr : NodeTest → Type 0
GoodAttr (test.AttrName name) = GoodName name
GoodAttr (test.AttrPrefix binding) = IsNc binding.prefix
GoodAttr test.AnyAttr = Unit {0}
GoodAttr _ = ⊥

abbrev pub GoodEnding : Option NodeTest → Type 0
GoodEnding None = Unit {0}
GoodEnding (Some t) = GoodAttr t

-- a value that is no tree
abbrev Flat : {A : Type 0} → (A → Type 0) → A → ℕ → Type 0
Flat P a h = P a × (h ≡ 0)

flat_made : {A B : Type 0} (P : A → Type 0) (Q : B → Type 0) (f : A → B) (m : Meant A) → IfFine (Flat P) m → ((a : A) → P a → Q (f a)) → IfFine (Flat Q) (made 0 f m)
flat_made P Q f m p q = made_fine (Flat P) (Flat Q) 0 f m p (λ a h (x, z) l. (q a x, omega (arith, z)))

named_good : (name : Written) (p : ℕ) (o : Option (List ℕ)) → ((uri : List ℕ) → o ≡ Some uri → GoodName (record { uri = uri; local = name.local; prefix = name.prefix }))
    → IfFine (Flat GoodName) (name_by name p o)
named_good name p None g = tt
named_good name p (Some uri) g = (g uri refl, refl)

name_good : (scope : List Binding) (name : Written) (p : ℕ) → Made (token.Name name) → IfFine (Flat GoodName) (name_of scope name p)
name_good scope name p (nc, pre) = by name.prefix refl pre
  where
    by : (prefix : List ℕ) → name.prefix ≡ prefix → (name.prefix ≡ []) ⊎ IsNc name.prefix → IfFine (Flat GoodName) (name_of scope name p)
    by [] e x =
        let o : cond (nat_eq (length name.prefix) 0) (Some []) (uri_of scope name.prefix) ≡ Some [] = ap (λ q. cond (nat_eq (length q) 0) (Some []) (uri_of scope q)) e in
        subst (λ o. IfFine (Flat GoodName) (name_by name p o)) (sym o) ((nc, subst (λ q. IsPrefix q []) (sym e) refl), refl)
    by (c ∷ cs) e (inl n) = cc
    by (c ∷ cs) e (inr n) =
        named_good name p (cond (nat_eq (length name.prefix) 0) (Some []) (uri_of scope name.prefix))
        (λ uri f. (nc, subst (λ q. IsPrefix q uri) (sym e) (subst IsNc e n)))

bound_good : (prefix : List ℕ) (p : ℕ) (o : Option (List ℕ)) → IsNc prefix → IfFine (Flat (λ (b : Binding). IsNc b.prefix)) (binding_by prefix p o)
bound_good prefix p None nc = tt
bound_good prefix p (Some uri) nc = (nc, refl)

attr_good : (scope : List Binding) {ts : List Placed} {t : Meant NodeTest} → AttrTest scope ts t → AllMade ts → IfFine (Flat GoodAttr) t
attr_good scope (AttrTest.named a p name) (x, (n, u)) = flat_made GoodName GoodAttr test.AttrName (name_of scope name p) (name_good scope name p n) (λ n g. g)
attr_good scope (AttrTest.within a p prefix) (x, (n, u)) =
    flat_made (λ (b : Binding). IsNc b.prefix) GoodAttr test.AttrPrefix (binding_of scope prefix p) (bound_good prefix p (uri_of scope prefix) n) (λ b g. g)
attr_good scope (AttrTest.any a p) x = (tt, refl)

ending_good : (scope : List Binding) {ts : List Placed} {t : Meant (Option NodeTest)} → Ending scope ts t → AllMade ts → IfFine (Flat GoodEnding) t
ending_good scope Ending.without a = (tt, refl)
ending_good scope (Ending.attributes s {ts} {t} d) (x, a) = flat_made GoodAttr GoodEnding Some t (attr_good scope d a) (λ t g. g)

module _ (dialect : Dialect) where
  abbrev pub GoodTest : NodeTest → Type 0
  GoodTest (test.Name name) = GoodName name
  GoodTest (test.Prefix binding) = IsNc binding.prefix
  GoodTest test.AnyElement = Unit {0}
  GoodTest test.AnyNode = Unit {0}
  GoodTest test.Chars = Unit {0}
  GoodTest test.CData = dialect ≡ OneOne
  GoodTest test.Comment = Unit {0}
  GoodTest test.AnyPi = Unit {0}
  GoodTest (test.Pi target) = OneQuote target
  GoodTest _ = ⊥

  cdata_good : (d : Dialect) → dialect ≡ d → (t : NodeTest) → cdata_test d ≡ Some t → GoodTest t
  cdata_good One same t e = cc
  cdata_good OneOne same t e = let is : test.CData ≡ t = cc in subst GoodTest is same

  typed_by : (a b c d e : Bool) (t : NodeTest)
      → cond a (Some test.AnyNode) (cond b (Some test.Chars) (cond c (cdata_test dialect) (cond d (Some test.Comment) (cond e (Some test.AnyPi) None)))) ≡ Some t → GoodTest t
  typed_by true b c d e t h = let same : test.AnyNode ≡ t = cc in subst GoodTest same tt
  typed_by false true c d e t h = let same : test.Chars ≡ t = cc in subst GoodTest same tt
  typed_by false false true d e t h = cdata_good dialect refl t h
  typed_by false false false true e t h = let same : test.Comment ≡ t = cc in subst GoodTest same tt
  typed_by false false false false true t h = let same : test.AnyPi ≡ t = cc in subst GoodTest same tt
  typed_by false false false false false t h = cc

  typed_good : (word : List ℕ) (t : NodeTest) → type_named dialect word ≡ Some t → GoodTest t
  typed_good word t e =
      typed_by (bytes_eq word (codes "node")) (bytes_eq word (codes "text")) (bytes_eq word (codes "cdata")) (bytes_eq word (codes "comment"))
      (bytes_eq word (codes "processing-instruction")) t e

  type_good : (name : Written) (t : NodeTest) → type_of dialect name ≡ Some t → GoodTest t
  type_good name t e = by (nat_eq (length name.prefix) 0) refl
    where
      by : (b : Bool) → nat_eq (length name.prefix) 0 ≡ b → GoodTest t
      by true f = typed_good (encode_utf8_all name.local) t (sym (ap (λ b. cond b (type_named dialect (encode_utf8_all name.local)) None) f) ∙ e)
      by false f = let n : None ≡ Some t = sym (ap (λ b. cond b (type_named dialect (encode_utf8_all name.local)) None) f) ∙ e in cc

  test_good : (scope : List Binding) {ts : List Placed} {t : Meant NodeTest} → Test dialect scope ts t → AllMade ts → IfFine (Flat GoodTest) t
  test_good scope (Test.named p name) (a, u) = flat_made GoodName GoodTest test.Name (name_of scope name p) (name_good scope name p a) (λ n g. g)
  test_good scope (Test.within p prefix) (a, u) =
      flat_made (λ (b : Binding). IsNc b.prefix) GoodTest test.Prefix (binding_of scope prefix p) (bound_good prefix p (uri_of scope prefix) a) (λ b g. g)
  test_good scope (Test.any p) a = (tt, refl)
  test_good scope (Test.type p o c name t e) a = (type_good name t e, refl)
  test_good scope (Test.target p o q c name text e) (n, (x, (one, y))) = (one, refl)

  -- ---- expressions

  mutual
    -- an expression that can be read, with its height
    pub data Good : Expr → ℕ → Type 0 where
      whole : (n : ℕ) → n < 2 ^ 63 → Good (e.Whole (pos n)) 1
      literal : (text : List ℕ) → OneQuote text → Good (e.Literal text) 1
      variable : (name : Name) → GoodName name → Good (e.Var name) 1
      call : (f : Fun) (k h : ℕ) (es : List Expr) → permits f k ≡ true → GoodAll k es h → h + 1 ≤ 64
          → Good (e.Call f es) (h + 1)
      several : (k h : ℕ) (es : List Expr) → k ≢ 1 → GoodAll k es h → h + 1 ≤ 64 → Good (e.Seq es) (h + 1)
      negated : (x : Expr) (h : ℕ) → Good x h → h + 1 ≤ 64 → Good (e.Neg x) (h + 1)
      operation : (b : Bin) (x y : Expr) (h g : ℕ) → Good x h → Good y g → max h g + 1 ≤ 64 → Good (e.Binary b x y) (max h g + 1)
      root : Good e.Root 1
      absolute : (steps : List PathStep) (t : Option NodeTest) (h : ℕ) → GoodSteps steps h → GoodEnding t → max h 0 + 1 ≤ 64 → Good (e.Abs steps t) (max h 0 + 1)
      above : (k : ℕ) (t : Option NodeTest) → GoodEnding t → Good (e.Up k t) 1
      attributes : (t : NodeTest) → GoodAttr t → Good (e.Attr t) 1

    -- so many of them, one after another
    pub data GoodAll : ℕ → List Expr → ℕ → Type 0 where
      start : GoodAll 0 [] 0
      further : (k h g : ℕ) (es : List Expr) (x : Expr) → GoodAll k es h → Good x g → max h g + 0 ≤ 64 → GoodAll (k + 1) (es ++ x ∷ []) (max h g + 0)

    pub data GoodStep : PathStep → ℕ → Type 0 where
      tested : (l : Link) (t : NodeTest) (k h : ℕ) (es : List Expr) → l ≢ link.Start → GoodTest t → GoodAll k es h → max 0 h + 0 ≤ 64 → GoodStep (step_of l t es) (max 0 h + 0)

    pub data GoodSteps : List PathStep → ℕ → Type 0 where
      one_step : (s : PathStep) (h : ℕ) → GoodStep s h → max 0 h + 0 ≤ 64 → GoodSteps (s ∷ []) (max 0 h + 0)
      next_step : (steps : List PathStep) (s : PathStep) (h g : ℕ) → GoodSteps steps h → GoodStep s g → max h g + 0 ≤ 64 → GoodSteps (steps ++ s ∷ []) (max h g + 0)

  call_good : (o : Option Fun) (p k : ℕ) (es : Meant (List Expr)) → IfFine (GoodAll k) es → IfFine Good (called_by o p k es)
  call_good None p k es a = tt
  call_good (Some f) p k es a = by (permits f k) refl
    where
      by : (b : Bool) → permits f k ≡ b → IfFine Good (cond b (made 1 (e.Call f) es) (refused kind.Arity p))
      by true is = made_fine (GoodAll k) Good 1 (e.Call f) es a (λ xs h g l. Good.call f k h xs is g l)
      by false is = tt

  minus_back : (m : Meant Expr) → IfFine Good m → IfFine Good (made 1 e.Neg m)
  minus_back m g = made_fine Good Good 1 e.Neg m g (λ x h g l. Good.negated x h g l)

  operated_good : (o : Operator) (p : ℕ) (x y : Meant Expr) → IfFine Good x → IfFine Good y → IfFine Good (operated o p x y)
  operated_good (operator.Binary b) p x y g k = joined_fine Good Good Good 1 (e.Binary b) x y g k (λ x y h i a c l. Good.operation b x y h i a c l)
  operated_good operator.Div p x y g k = tt

  further_good : (k : ℕ) (es : Meant (List Expr)) (x : Meant Expr) → IfFine (GoodAll k) es → IfFine Good x → IfFine (GoodAll (k + 1)) (and_also es x)
  further_good k es x g h = joined_fine (GoodAll k) Good (GoodAll (k + 1)) 0 (λ values value. values ++ value ∷ []) es x g h (λ es x h g a b l. GoodAll.further k h g es x a b l)

  -- expressions, however many
  abbrev SomeAll : List Expr → ℕ → Type 0
  SomeAll es h = (k : ℕ) × GoodAll k es h

  filtered_good : (es : Meant (List Expr)) (x : Meant Expr) → IfFine SomeAll es → IfFine Good x → IfFine SomeAll (and_also es x)
  filtered_good es x g h = joined_fine SomeAll Good SomeAll 0 (λ values value. values ++ value ∷ []) es x g h (λ es x h g (k, a) b l. (k + 1, GoodAll.further k h g es x a b l))

  step_good : (l : Link) (t : Meant NodeTest) (es : Meant (List Expr)) → l ≢ link.Start → IfFine (Flat GoodTest) t → IfFine SomeAll es → IfFine GoodStep (step l t es)
  step_good l t es ne g h =
      joined_fine (Flat GoodTest) SomeAll GoodStep 0 (step_of l) t es g h
      (λ t es h g (a, z) (k, b) m.
      let here : max 0 g + 0 ≤ 64 = omega (arith, m, z) in
      subst (λ n. GoodStep (step_of l t es) (max n g + 0)) (sym z) (GoodStep.tested l t k g es ne a b here))

  module _ (scope : List Binding) where
    mutual
      pub good : {n : ℕ} {ts : List Placed} {m : Meant Expr} → Spells dialect scope n ts m → AllMade ts → IfFine Good m
      good (Spells.whole n p i) ((k, is, small), u) = subst (λ i. Good (e.Whole i) 1) (sym is) (Good.whole k small)
      good (Spells.literal n p text) (one, u) = Good.literal text one
      good (Spells.variable n d p name) (x, (m, u)) =
          made_fine (Flat GoodName) Good 1 e.Var (name_of scope name p) (name_good scope name p m)
          (λ name h (g, z) l. subst (λ k. Good (e.Var name) (k + 1)) (sym z) (Good.variable name g))
      good (Spells.call n p o c name {k} {ts} {es} d) (x, (y, a)) =
          call_good (function_of name) p k es (good_listed d (made_front ts (at c token.Close ∷ []) a))
      good (Spells.single n o c {ts} {x} d) (y, a) = good d (made_front ts (at c token.Close ∷ []) a)
      good (Spells.several n o c {k} {ts} {es} d ne) (y, a) =
          made_fine (GoodAll k) Good 1 e.Seq es (good_listed d (made_front ts (at c token.Close ∷ []) a)) (λ es h g l. Good.several k h es ne g l)
      good (Spells.negated n p {ts} {x} l d) (y, a) = minus_back x (good d a)
      good (Spells.operation n p o {ts} {us} {x} {y} l d f) a =
          operated_good o p x y (good d (made_front ts (at p (token.Operator o) ∷ us) a)) (good f (made_back ts (at p (token.Operator o) ∷ us) a).1)
      good (Spells.root n p) a = Good.root
      good (Spells.absolute n {l} {ts} {us} {steps} {t} ne d f) a =
          joined_fine GoodSteps (Flat GoodEnding) Good 1 e.Abs steps t (good_steps ne d (made_front ts us a)) (ending_good scope f (made_back ts us a))
          (λ steps t h g s (b, z) m.
          let here : max h 0 + 1 ≤ 64 = omega (arith, m, z) in
          subst (λ n. Good (e.Abs steps t) (max h n + 1)) (sym z) (Good.absolute steps t h s b here))
      good (Spells.above n {k} {ts} {us} {t} d f) a =
          made_fine (Flat GoodEnding) Good 1 (e.Up k) t (ending_good scope f (made_back ts us a))
          (λ t h (g, z) l. subst (λ n. Good (e.Up k t) (n + 1)) (sym z) (Good.above k t g))
      good (Spells.attributes n {ts} {t} d) a =
          made_fine (Flat GoodAttr) Good 1 e.Attr t (attr_good scope d a) (λ t h (g, z) l. subst (λ n. Good (e.Attr t) (n + 1)) (sym z) (Good.attributes t g))

      good_leading : {k : ℕ} {ts : List Placed} {es : Meant (List Expr)} → Leading dialect scope k ts es → AllMade ts → IfFine (GoodAll k) es
      good_leading Leading.start a = GoodAll.start
      good_leading (Leading.further p {k} {ts} {us} {es} {x} d f) a =
          further_good k es x (good_leading d (made_front ts us (made_front (ts ++ us) (at p token.Comma ∷ []) a)))
          (good f (made_back ts us (made_front (ts ++ us) (at p token.Comma ∷ []) a)))

      good_listed : {k : ℕ} {ts : List Placed} {es : Meant (List Expr)} → Listed dialect scope k ts es → AllMade ts → IfFine (GoodAll k) es
      good_listed Listed.empty a = GoodAll.start
      good_listed (Listed.last {k} {ts} {us} {es} {x} d f) a = further_good k es x (good_leading d (made_front ts us a)) (good f (made_back ts us a))

      good_predicates : {ts : List Placed} {es : Meant (List Expr)} → Predicates dialect scope ts es → AllMade ts → IfFine SomeAll es
      good_predicates Predicates.unfiltered a = (0, GoodAll.start)
      good_predicates (Predicates.filtered o c {ts} {us} {es} {x} d f) a =
          let behind = at o token.OpenPredicate ∷ (us ++ at c token.ClosePredicate ∷ []) in
          filtered_good es x (good_predicates d (made_front ts behind a)) (good f (made_front us (at c token.ClosePredicate ∷ []) (made_back ts behind a).1))

      good_step : {l : Link} {ts : List Placed} {s : Meant PathStep} → l ≢ link.Start → Step dialect scope l ts s → AllMade ts → IfFine GoodStep s
      good_step ne (Step.tested l p {ts} {us} {t} {es} d f) a =
          let front = link_tokens l p ++ ts in
          step_good l t es ne (test_good scope d (made_back (link_tokens l p) ts (made_front front us a))) (good_predicates f (made_back front us a))

      good_steps : {l : Link} {ts : List Placed} {steps : Meant (List PathStep)} → l ≢ link.Start → Steps dialect scope l ts steps → AllMade ts → IfFine GoodSteps steps
      good_steps ne (Steps.one_step {l} {ts} {s} d) a =
          joined_fine (Flat (λ (ss : List PathStep). ss ≡ [])) GoodStep GoodSteps 0 (λ values value. values ++ value ∷ []) none s (refl, refl) (good_step ne d a)
          (λ ss s h g (e, z) b m.
          let here : max 0 g + 0 ≤ 64 = omega (arith, m, z) in
          subst (λ ss. GoodSteps (ss ++ s ∷ []) (max h g + 0)) (sym e) (subst (λ n. GoodSteps (s ∷ []) (max n g + 0)) (sym z) (GoodSteps.one_step s g b here)))
      good_steps ne (Steps.next_step {l} {m} {ts} {us} {steps} {s} ne' d f) a =
          joined_fine GoodSteps GoodStep GoodSteps 0 (λ values value. values ++ value ∷ []) steps s (good_steps ne d (made_front ts us a)) (good_step ne' f (made_back ts us a))
          (λ steps s h g a b m. GoodSteps.next_step steps s h g a b m)
