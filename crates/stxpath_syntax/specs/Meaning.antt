-- What tokens mean: a value with the height of its tree, a tree that is too high, or the first fault in the order of the tokens.
use Rattle.std.specs.Prelude.{ℕ, ◌+◌, ◌==◌, max, nat_le, List, [], ◌∷◌, ◌++◌, Option, Some, None, length, if◌then◌else◌, encode_utf8_all}
use Rattle.stx_base.specs.declared.expression.Fun.{Fun}
use Rattle.stx_base.specs.declared.name.Name.{Name}
use Rattle.stx_base.specs.declared.name.Binding.{Binding}
use Rattle.stx_base.specs.declared.node.NodeTest.{NodeTest}
use Rattle.stx_base.specs.declared.node.NodeTest.TheVariants as test
use Rattle.stx_base.specs.Functions.{permits}
use Rattle.stxpath_syntax.specs.declared.dialect.Dialect.{Dialect}
use Rattle.stxpath_syntax.specs.declared.expr.Alternative.{Alternative}
use Rattle.stxpath_syntax.specs.declared.expr.Alternative.TheVariants as alternative
use Rattle.stxpath_syntax.specs.declared.expr.Bin.{Bin}
use Rattle.stxpath_syntax.specs.declared.expr.Expr.{Expr}
use Rattle.stxpath_syntax.specs.declared.expr.Expr.TheVariants as e
use Rattle.stxpath_syntax.specs.declared.expr.Link.{Link}
use Rattle.stxpath_syntax.specs.declared.expr.PathStep.{PathStep, roll-PathStep}
use Rattle.stxpath_syntax.specs.declared.fault.PathKind.{PathKind}
use Rattle.stxpath_syntax.specs.declared.fault.PathKind.TheVariants as kind
use Rattle.stxpath_syntax.specs.declared.fault.PathFault.{PathFault}
use Rattle.stxpath_syntax.specs.declared.meant.Meant.{Meant}
use Rattle.stxpath_syntax.specs.declared.meant.Meant.TheVariants.{Fine, High, Bad}
use Rattle.stxpath_syntax.specs.declared.token.Written.{Written}
use Rattle.stxpath_syntax.specs.declared.token.Operator.{Operator}
use Rattle.stxpath_syntax.specs.declared.token.Operator.TheVariants as operator
use Rattle.stxpath_syntax.specs.Functions.{function_named}
use Rattle.stxpath_syntax.specs.Words.{type_named, uri_of}

-- how high a tree may be, a leaf being 1
abbrev pub max_height : ℕ
max_height = 64

-- a value with its tree's height, if that is allowed
abbrev pub of_height : {A : Type 0} → A → ℕ → Meant A
of_height value height = if nat_le height max_height then Fine value height else High

abbrev pub refused : {A : Type 0} → PathKind → ℕ → Meant A
refused why place = Bad (record { kind = why; place = place })

-- made of one, with so many levels above it
abbrev pub made : {A B : Type 0} → ℕ → (A → B) → Meant A → Meant B
made levels f (Fine value height) = of_height (f value) (height + levels)
made levels f High = High
made levels f (Bad fault) = Bad fault

-- what comes of two where the first is too high: a fault of the second counts
abbrev pub spoiled : {A B : Type 0} → Meant A → Meant B
spoiled (Bad fault) = Bad fault
spoiled High = High
spoiled (Fine value height) = High

-- made of two, one after the other: a fault of the first comes first, and any fault before a height
abbrev pub made_of_two : {A B C : Type 0} → ℕ → (A → B → C) → Meant A → Meant B → Meant C
made_of_two levels f (Bad fault) b = Bad fault
made_of_two levels f High b = spoiled b
made_of_two levels f (Fine a height) (Bad fault) = Bad fault
made_of_two levels f (Fine a height) High = High
made_of_two levels f (Fine a height) (Fine b other) = of_height (f a b) (max height other + levels)

-- no value yet
abbrev pub none : {A : Type 0} → Meant (List A)
none = Fine [] 0

-- values one after another, and one more
abbrev pub and_also : {A : Type 0} → Meant (List A) → Meant A → Meant (List A)
and_also = made_of_two 0 (λ values value. values ++ value ∷ [])

abbrev pub neg : Meant Expr → Meant Expr
neg = made 1 e.Neg

abbrev pub binary : Bin → Meant Expr → Meant Expr → Meant Expr
binary bin = made_of_two 1 (e.Binary bin)

-- the fault that `div` at a place makes of its left operand
abbrev pub divided : ℕ → Meant Expr → PathFault
divided at (Bad fault) = fault
divided at left = record { kind = kind.Fraction; place = at }

-- an operator at a place, between its operands; `div` would give a fraction
abbrev pub operated : Operator → ℕ → Meant Expr → Meant Expr → Meant Expr
operated (operator.Binary bin) at left right = binary bin left right
operated operator.Div at left right = Bad (divided at left)

abbrev pub seq : Meant (List Expr) → Meant Expr
seq = made 1 e.Seq

abbrev pub var : Meant Name → Meant Expr
var = made 1 e.Var

abbrev pub attr : Meant NodeTest → Meant Expr
attr = made 1 e.Attr

-- the document node
abbrev pub root : Meant Expr
root = Fine e.Root 1

-- no test at the end of a path
abbrev pub untested : Meant (Option NodeTest)
untested = Fine None 0

-- the test at the end of a path
abbrev pub some : Meant NodeTest → Meant (Option NodeTest)
some = made 0 Some

abbrev pub up : ℕ → Meant (Option NodeTest) → Meant Expr
up n = made 1 (e.Up n)

abbrev pub abs : Meant (List PathStep) → Meant (Option NodeTest) → Meant Expr
abs = made_of_two 1 e.Abs

abbrev pub step_of : Link → NodeTest → List Expr → PathStep
step_of link test predicates = roll-PathStep (record { link = link; test = test; predicates = predicates })

-- a step is as high as its highest predicate
abbrev pub step : Link → Meant NodeTest → Meant (List Expr) → Meant PathStep
step link = made_of_two 0 (step_of link)

abbrev pub steps : Meant (List PathStep) → Meant Alternative
steps = made 0 alternative.Steps

-- names and tests are no trees, so their height is 0
abbrev pub flat : {A : Type 0} → A → Meant A
flat value = Fine value 0

abbrev pub name_by : Written → ℕ → Option (List ℕ) → Meant Name
name_by written at None = refused kind.Prefix at
name_by written at (Some uri) = flat (record { uri = uri; local = written.local; prefix = written.prefix })

-- a name without prefix is in no namespace
abbrev pub name_of : List Binding → Written → ℕ → Meant Name
name_of scope written at = name_by written at (if length written.prefix == 0 then Some [] else uri_of scope written.prefix)

abbrev pub binding_by : List ℕ → ℕ → Option (List ℕ) → Meant Binding
binding_by prefix at None = refused kind.Prefix at
binding_by prefix at (Some uri) = flat (record { prefix = prefix; uri = uri })

abbrev pub binding_of : List Binding → List ℕ → ℕ → Meant Binding
binding_of scope prefix at = binding_by prefix at (uri_of scope prefix)

abbrev pub element_named : List Binding → Written → ℕ → Meant NodeTest
element_named scope name at = made 0 test.Name (name_of scope name at)

abbrev pub element_within : List Binding → List ℕ → ℕ → Meant NodeTest
element_within scope prefix at = made 0 test.Prefix (binding_of scope prefix at)

abbrev pub attribute_named : List Binding → Written → ℕ → Meant NodeTest
attribute_named scope name at = made 0 test.AttrName (name_of scope name at)

abbrev pub attribute_within : List Binding → List ℕ → ℕ → Meant NodeTest
attribute_within scope prefix at = made 0 test.AttrPrefix (binding_of scope prefix at)

-- a node type has no prefix
abbrev pub type_of : Dialect → Written → Option NodeTest
type_of dialect written = if length written.prefix == 0 then type_named dialect (encode_utf8_all written.local) else None

-- a function has no prefix
abbrev pub function_of : Written → Option Fun
function_of written = if length written.prefix == 0 then function_named (encode_utf8_all written.local) else None

abbrev pub called_by : Option Fun → ℕ → ℕ → Meant (List Expr) → Meant Expr
called_by None at n arguments = refused kind.UnknownFunction at
called_by (Some f) at n arguments = if permits f n then made 1 (e.Call f) arguments else refused kind.Arity at

-- a call of n arguments, with its name at a place: its own fault stands before those of its arguments
abbrev pub called : Written → ℕ → ℕ → Meant (List Expr) → Meant Expr
called written = called_by (function_of written)
