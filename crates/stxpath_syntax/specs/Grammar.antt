-- Which tokens spell what: the grammar of a dialect, each rule once.
use Rattle.std.specs.Prelude.{◌≡◌, ◌≢◌, ℕ, ◌+◌, ◌≤◌, ℤ, List, [], ◌∷◌, ◌++◌, Option, Some}
use Rattle.stx_base.specs.declared.name.Binding.{Binding}
use Rattle.stx_base.specs.declared.expression.Op.TheVariants as op
use Rattle.stx_base.specs.declared.node.NodeTest.{NodeTest}
use Rattle.stx_base.specs.declared.node.NodeTest.TheVariants as test
use Rattle.stxpath_syntax.specs.declared.dialect.Dialect.{Dialect}
use Rattle.stxpath_syntax.specs.declared.expr.Bin.TheVariants as bin
use Rattle.stxpath_syntax.specs.declared.expr.Expr.{Expr}
use Rattle.stxpath_syntax.specs.declared.expr.Expr.TheVariants as e
use Rattle.stxpath_syntax.specs.declared.expr.Link.{Link}
use Rattle.stxpath_syntax.specs.declared.expr.Link.TheVariants as link
use Rattle.stxpath_syntax.specs.declared.expr.PathStep.{PathStep}
use Rattle.stxpath_syntax.specs.declared.expr.Alternative.{Alternative}
use Rattle.stxpath_syntax.specs.declared.expr.Alternative.TheVariants as alternative
use Rattle.stxpath_syntax.specs.declared.token.Written.{Written}
use Rattle.stxpath_syntax.specs.declared.token.Operator.{Operator}
use Rattle.stxpath_syntax.specs.declared.token.Operator.TheVariants as operator
use Rattle.stxpath_syntax.specs.declared.token.Token.{Token}
use Rattle.stxpath_syntax.specs.declared.token.Token.TheVariants as token
use Rattle.stxpath_syntax.specs.declared.token.Placed.{Placed}
use Rattle.stxpath_syntax.specs.declared.meant.Meant.{Meant}
use Rattle.stxpath_syntax.specs.declared.meant.Meant.TheVariants.{Fine}
use Rattle.stxpath_syntax.specs.Meaning.{none, flat, and_also, neg, operated, seq, var, attr, untested, some, up, abs, step, name_of, type_of, element_named, element_within, attribute_named, attribute_within, called}
use Rattle.stxpath_syntax.specs.Meaning as meaning

abbrev pub at : ℕ → Token → Placed
at place token = record { token = token; at = place }

abbrev pub minus : Token
minus = token.Operator (operator.Binary (bin.Arith op.Sub))

-- how tightly an operator binds
abbrev pub level : Operator → ℕ
level (operator.Binary bin.Or) = 1
level (operator.Binary bin.And) = 2
level (operator.Binary (bin.Compare cmp)) = 3
level (operator.Binary (bin.Arith op.Add)) = 4
level (operator.Binary (bin.Arith op.Sub)) = 4
level (operator.Binary (bin.Arith op.Mul)) = 5
level (operator.Binary (bin.Arith op.Idiv)) = 5
level (operator.Binary (bin.Arith op.Mod)) = 5
level operator.Div = 5

-- how tightly its left operand must bind: operators of one level bind to the left, and comparisons to neither side
abbrev pub left_level : Operator → ℕ
left_level (operator.Binary (bin.Compare cmp)) = 4
left_level o = level o

-- what stands before a step
abbrev pub link_tokens : Link → ℕ → List Placed
link_tokens link.Start place = []
link_tokens link.Slash place = at place token.Slash ∷ []
link_tokens link.Deep place = at place token.SlashSlash ∷ []

module _ (scope : List Binding) where
  -- `@` and the test of attributes
  pub data AttrTest : List Placed → Meant NodeTest → Type 0 where
    named : (a p : ℕ) (name : Written) → AttrTest (at a token.At ∷ at p (token.Name name) ∷ []) (attribute_named scope name p)
    within : (a p : ℕ) (prefix : List ℕ) → AttrTest (at a token.At ∷ at p (token.Within prefix) ∷ []) (attribute_within scope prefix p)
    any : (a p : ℕ) → AttrTest (at a token.At ∷ at p token.Star ∷ []) (flat test.AnyAttr)

  -- what may end a path: `/` and a test of attributes
  pub data Ending : List Placed → Meant (Option NodeTest) → Type 0 where
    without : Ending [] untested
    attributes : (s : ℕ) {ts : List Placed} {t : Meant NodeTest} → AttrTest ts t → Ending (at s token.Slash ∷ ts) (some t)

  -- `.`, or `..` so many times, with `/` between
  pub data Parents : List Placed → ℕ → Type 0 where
    here : (p : ℕ) → Parents (at p token.Dot ∷ []) 0
    one : (p : ℕ) → Parents (at p token.DotDot ∷ []) 1
    further : (s p : ℕ) {ts : List Placed} {n : ℕ} → Parents ts n → n ≢ 0 → Parents (ts ++ at s token.Slash ∷ at p token.DotDot ∷ []) (n + 1)

module _ (dialect : Dialect) (scope : List Binding) where
  -- the test of a step
  pub data Test : List Placed → Meant NodeTest → Type 0 where
    named : (p : ℕ) (name : Written) → Test (at p (token.Name name) ∷ []) (element_named scope name p)
    within : (p : ℕ) (prefix : List ℕ) → Test (at p (token.Within prefix) ∷ []) (element_within scope prefix p)
    any : (p : ℕ) → Test (at p token.Star ∷ []) (flat test.AnyElement)
    type : (p o c : ℕ) (name : Written) (t : NodeTest) → type_of dialect name ≡ Some t
        → Test (at p (token.Name name) ∷ at o token.Open ∷ at c token.Close ∷ []) (flat t)
    target : (p o q c : ℕ) (name : Written) (text : List ℕ) → type_of dialect name ≡ Some test.AnyPi
        → Test (at p (token.Name name) ∷ at o token.Open ∷ at q (token.Literal text) ∷ at c token.Close ∷ []) (flat (test.Pi text))

  mutual
    -- an expression in which operators that bind looser than the level stand in brackets
    pub data Spells : ℕ → List Placed → Meant Expr → Type 0 where
      whole : (n p : ℕ) (i : ℤ) → Spells n (at p (token.Whole i) ∷ []) (Fine (e.Whole i) 1)
      literal : (n p : ℕ) (text : List ℕ) → Spells n (at p (token.Literal text) ∷ []) (Fine (e.Literal text) 1)
      variable : (n d p : ℕ) (name : Written)
          → Spells n (at d token.Dollar ∷ at p (token.Name name) ∷ []) (var (name_of scope name p))
      call : (n p o c : ℕ) (name : Written) {k : ℕ} {ts : List Placed} {es : Meant (List Expr)} → Listed k ts es
          → Spells n (at p (token.Name name) ∷ at o token.Open ∷ (ts ++ at c token.Close ∷ [])) (called name p k es)
      single : (n o c : ℕ) {ts : List Placed} {x : Meant Expr} → Spells 1 ts x
          → Spells n (at o token.Open ∷ (ts ++ at c token.Close ∷ [])) x
      several : (n o c : ℕ) {k : ℕ} {ts : List Placed} {es : Meant (List Expr)} → Listed k ts es → k ≢ 1
          → Spells n (at o token.Open ∷ (ts ++ at c token.Close ∷ [])) (seq es)
      negated : (n p : ℕ) {ts : List Placed} {x : Meant Expr} → n ≤ 6 → Spells 6 ts x → Spells n (at p minus ∷ ts) (neg x)
      operation : (n p : ℕ) (o : Operator) {ts us : List Placed} {x y : Meant Expr} → n ≤ level o
          → Spells (left_level o) ts x → Spells (level o + 1) us y
          → Spells n (ts ++ at p (token.Operator o) ∷ us) (operated o p x y)
      root : (n p : ℕ) → Spells n (at p token.Slash ∷ []) meaning.root
      absolute : (n : ℕ) {l : Link} {ts us : List Placed} {steps : Meant (List PathStep)} {t : Meant (Option NodeTest)}
          → l ≢ link.Start → Steps l ts steps → Ending scope us t → Spells n (ts ++ us) (abs steps t)
      above : (n : ℕ) {k : ℕ} {ts us : List Placed} {t : Meant (Option NodeTest)} → Parents scope ts k → Ending scope us t
          → Spells n (ts ++ us) (up k t)
      attributes : (n : ℕ) {ts : List Placed} {t : Meant NodeTest} → AttrTest scope ts t → Spells n ts (attr t)

    -- so many expressions, each with a comma behind it
    pub data Leading : ℕ → List Placed → Meant (List Expr) → Type 0 where
      start : Leading 0 [] none
      further : (p : ℕ) {k : ℕ} {ts us : List Placed} {es : Meant (List Expr)} {x : Meant Expr} → Leading k ts es → Spells 1 us x
          → Leading (k + 1) (ts ++ us ++ at p token.Comma ∷ []) (and_also es x)

    -- so many expressions, with commas between
    pub data Listed : ℕ → List Placed → Meant (List Expr) → Type 0 where
      empty : Listed 0 [] none
      last : {k : ℕ} {ts us : List Placed} {es : Meant (List Expr)} {x : Meant Expr} → Leading k ts es → Spells 1 us x
          → Listed (k + 1) (ts ++ us) (and_also es x)

    -- expressions in `[` and `]`, one behind another
    pub data Predicates : List Placed → Meant (List Expr) → Type 0 where
      unfiltered : Predicates [] none
      filtered : (o c : ℕ) {ts us : List Placed} {es : Meant (List Expr)} {x : Meant Expr} → Predicates ts es → Spells 1 us x
          → Predicates (ts ++ at o token.OpenPredicate ∷ (us ++ at c token.ClosePredicate ∷ [])) (and_also es x)

    -- a step behind its link
    pub data Step : Link → List Placed → Meant PathStep → Type 0 where
      tested : (l : Link) (p : ℕ) {ts us : List Placed} {t : Meant NodeTest} {es : Meant (List Expr)} → Test ts t → Predicates us es
          → Step l (link_tokens l p ++ ts ++ us) (step l t es)

    -- steps, the first behind this link
    pub data Steps : Link → List Placed → Meant (List PathStep) → Type 0 where
      one_step : {l : Link} {ts : List Placed} {s : Meant PathStep} → Step l ts s → Steps l ts (and_also none s)
      next_step : {l m : Link} {ts us : List Placed} {steps : Meant (List PathStep)} {s : Meant PathStep} → m ≢ link.Start
          → Steps l ts steps → Step m us s → Steps l (ts ++ us) (and_also steps s)

  -- a step of a pattern that tests attributes, behind its link
  pub data AttrStep : Link → List Placed → Meant PathStep → Type 0 where
    tested : (l : Link) (p : ℕ) {ts us : List Placed} {t : Meant NodeTest} {es : Meant (List Expr)} → AttrTest scope ts t → Predicates us es
        → AttrStep l (link_tokens l p ++ ts ++ us) (step l t es)

  -- an alternative of a pattern: `/`, or steps of which the last may test attributes
  pub data Alternates : List Placed → Meant Alternative → Type 0 where
    root : (p : ℕ) → Alternates (at p token.Slash ∷ []) (flat alternative.Root)
    steps : (l : Link) {ts : List Placed} {steps : Meant (List PathStep)} → Steps l ts steps → Alternates ts (meaning.steps steps)
    attribute : (l : Link) {ts : List Placed} {s : Meant PathStep} → AttrStep l ts s → Alternates ts (meaning.steps (and_also none s))
    attributes : (l m : Link) {ts us : List Placed} {steps : Meant (List PathStep)} {s : Meant PathStep} → m ≢ link.Start
        → Steps l ts steps → AttrStep m us s → Alternates (ts ++ us) (meaning.steps (and_also steps s))

  -- the alternatives of a pattern, with bars between
  pub data Pattern : List Placed → Meant (List Alternative) → Type 0 where
    one : {ts : List Placed} {a : Meant Alternative} → Alternates ts a → Pattern ts (and_also none a)
    further : (p : ℕ) {ts us : List Placed} {all : Meant (List Alternative)} {a : Meant Alternative} → Pattern ts all → Alternates us a
        → Pattern (ts ++ at p token.Bar ∷ us) (and_also all a)
