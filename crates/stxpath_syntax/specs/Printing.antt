-- How expressions are printed, so that what is printed reads back as the same expression.
use Rattle.std.specs.Prelude.{◌≡◌, ℕ, ◌-◌, Bool, true, false, ◌==◌, List, [], ◌∷◌, ◌++◌, Option, Some, None, if◌then◌else◌, codes, ⊤}
use Rattle.std.specs.Fmt.{signed_decimal}
use Rattle.std.specs.List.{concat, flat_map, join_by, list_any, repeat}
use Rattle.stx_base.specs.declared.expression.Cmp.{Cmp}
use Rattle.stx_base.specs.declared.expression.Cmp.TheVariants as cmp
use Rattle.stx_base.specs.declared.expression.Op.{Op}
use Rattle.stx_base.specs.declared.expression.Op.TheVariants as op
use Rattle.stx_base.specs.declared.name.Binding.{Binding}
use Rattle.stx_base.specs.declared.name.Name.{Name}
use Rattle.stx_base.specs.declared.node.NodeTest.{NodeTest}
use Rattle.stx_base.specs.declared.node.NodeTest.TheVariants as test
use Rattle.stx_base.specs.Functions.{word}
use Rattle.stxpath_syntax.specs.declared.expr.Bin.{Bin}
use Rattle.stxpath_syntax.specs.declared.expr.Bin.TheVariants as bin
use Rattle.stxpath_syntax.specs.declared.expr.Expr.{Expr}
use Rattle.stxpath_syntax.specs.declared.expr.Expr.TheFolds.{fold-Expr, fold-PathStep}
use Rattle.stxpath_syntax.specs.declared.expr.Expr.TheOpen.{Expr-F, PathStep-F}
use Rattle.stxpath_syntax.specs.declared.expr.Link.{Link}
use Rattle.stxpath_syntax.specs.declared.expr.Link.TheVariants as link
use Rattle.stxpath_syntax.specs.declared.expr.PathStep.{PathStep}
use Rattle.stxpath_syntax.specs.Words.{uri_of}

abbrev pub comparison_sign : Cmp → List ℕ
comparison_sign cmp.Eq = codes "="
comparison_sign cmp.Ne = codes "!="
comparison_sign cmp.Lt = codes "<"
comparison_sign cmp.Le = codes "<="
comparison_sign cmp.Gt = codes ">"
comparison_sign cmp.Ge = codes ">="

abbrev pub arithmetic_sign : Op → List ℕ
arithmetic_sign op.Add = codes "+"
arithmetic_sign op.Sub = codes "-"
arithmetic_sign op.Mul = codes "*"
arithmetic_sign op.Idiv = codes "idiv"
arithmetic_sign op.Mod = codes "mod"

abbrev pub sign_of : Bin → List ℕ
sign_of bin.Or = codes "or"
sign_of bin.And = codes "and"
sign_of (bin.Compare c) = comparison_sign c
sign_of (bin.Arith o) = arithmetic_sign o

abbrev pub link_text : Link → List ℕ
link_text link.Start = []
link_text link.Slash = codes "/"
link_text link.Deep = codes "//"

-- `"`, or `'` round a text with a `"` in it
abbrev pub quote_for : List ℕ → ℕ
quote_for text = if list_any (λ c. c == 34) text then 39 else 34

abbrev pub quoted : List ℕ → List ℕ
quoted text = quote_for text ∷ (text ++ quote_for text ∷ [])

-- a prefix and a colon, where there is a prefix
abbrev pub prefixed : List ℕ → List ℕ → List ℕ
prefixed [] rest = rest
prefixed (c ∷ prefix) rest = c ∷ prefix ++ 58 ∷ rest

abbrev pub name_text : Name → List ℕ
name_text name = prefixed name.prefix name.local

-- any name of a prefix
abbrev pub within_text : List ℕ → List ℕ
within_text prefix = prefixed prefix (42 ∷ [])

abbrev pub test_text : NodeTest → List ℕ
test_text test.Document = codes "/"
test_text (test.Name name) = name_text name
test_text (test.Prefix binding) = within_text binding.prefix
test_text test.AnyElement = codes "*"
test_text test.AnyNode = codes "node()"
test_text test.Chars = codes "text()"
test_text test.CData = codes "cdata()"
test_text test.Comment = codes "comment()"
test_text test.AnyPi = codes "processing-instruction()"
test_text (test.Pi target) = codes "processing-instruction(" ++ quoted target ++ codes ")"
test_text (test.AttrName name) = 64 ∷ name_text name
test_text (test.AttrPrefix binding) = 64 ∷ within_text binding.prefix
test_text test.AnyAttr = codes "@*"

-- the test of attributes that ends a path
abbrev pub ending_text : Option NodeTest → List ℕ
ending_text None = []
ending_text (Some t) = 47 ∷ test_text t

-- `.`, or `..` so many times
abbrev pub parents_text : ℕ → List ℕ
parents_text n = if n == 0 then codes "." else codes ".." ++ repeat (n - 1) (codes "/..")

-- what is printed, and whether it stands in parentheses as an operand
pub record Printed : Type 0 where
  pub text : List ℕ
  pub is_loose : Bool

abbrev pub closed : List ℕ → Printed
closed text = record { text = text; is_loose = false }

abbrev pub loose : List ℕ → Printed
loose text = record { text = text; is_loose = true }

abbrev pub in_parentheses : List ℕ → List ℕ
in_parentheses text = 40 ∷ (text ++ 41 ∷ [])

abbrev pub in_brackets : List ℕ → List ℕ
in_brackets text = 91 ∷ (text ++ 93 ∷ [])

abbrev pub operand : Printed → List ℕ
operand p = if p.is_loose then in_parentheses p.text else p.text

-- what stands before the item at an index
abbrev pub comma_before : ℕ → List ℕ
comma_before index = if index == 0 then [] else codes ", "

-- with a comma and a space between
abbrev pub listed : List Printed → List ℕ
listed = join_by (λ p. p.text) (codes ", ")

abbrev pub predicates : List Printed → List ℕ
predicates = flat_map (λ p. in_brackets p.text)

-- a step, by what is printed of its predicates
abbrev pub step_layer : PathStep-F Printed (List ℕ) → List ℕ
step_layer s = link_text s.link ++ test_text s.test ++ predicates s.predicates

-- an expression, by what is printed of its parts
abbrev pub layer : Expr-F Printed (List ℕ) → Printed
layer (Expr-F.Whole i) = closed (signed_decimal i)
layer (Expr-F.Literal text) = closed (quoted text)
layer (Expr-F.Var name) = closed (36 ∷ name_text name)
layer (Expr-F.Call f arguments) = closed (word f ++ in_parentheses (listed arguments))
layer (Expr-F.Seq items) = closed (in_parentheses (listed items))
layer (Expr-F.Neg x) = loose (45 ∷ operand x)
layer (Expr-F.Binary b x y) = loose (operand x ++ 32 ∷ (sign_of b ++ 32 ∷ operand y))
layer Expr-F.Root = loose (codes "/")
layer (Expr-F.Abs steps t) = closed (concat steps ++ ending_text t)
layer (Expr-F.Up n t) = closed (parents_text n ++ ending_text t)
layer (Expr-F.Attr t) = closed (test_text t)

unfoldable pub printed : Expr → Printed
printed = fold-Expr Printed (List ℕ) layer step_layer

unfoldable pub step_text : PathStep → List ℕ
step_text = fold-PathStep Printed (List ℕ) layer step_layer

-- a prefix with its URI, where there is one
abbrev pub prefix_bound : List ℕ → List ℕ → List Binding
prefix_bound [] uri = []
prefix_bound (c ∷ prefix) uri = record { prefix = c ∷ prefix; uri = uri } ∷ []

abbrev pub test_prefixes : NodeTest → List Binding
test_prefixes (test.Name name) = prefix_bound name.prefix name.uri
test_prefixes (test.Prefix binding) = prefix_bound binding.prefix binding.uri
test_prefixes (test.AttrName name) = prefix_bound name.prefix name.uri
test_prefixes (test.AttrPrefix binding) = prefix_bound binding.prefix binding.uri
test_prefixes _ = []

abbrev pub ending_prefixes : Option NodeTest → List Binding
ending_prefixes None = []
ending_prefixes (Some t) = test_prefixes t

abbrev pub all_prefixes : List (List Binding) → List Binding
all_prefixes = flat_map (λ bs. bs)

abbrev pub prefixes_of_step : PathStep-F (List Binding) (List Binding) → List Binding
prefixes_of_step s = test_prefixes s.test ++ all_prefixes s.predicates

abbrev pub prefixes_of_layer : Expr-F (List Binding) (List Binding) → List Binding
prefixes_of_layer (Expr-F.Var name) = prefix_bound name.prefix name.uri
prefixes_of_layer (Expr-F.Call f arguments) = all_prefixes arguments
prefixes_of_layer (Expr-F.Seq items) = all_prefixes items
prefixes_of_layer (Expr-F.Neg x) = x
prefixes_of_layer (Expr-F.Binary b x y) = x ++ y
prefixes_of_layer (Expr-F.Abs steps t) = all_prefixes steps ++ ending_prefixes t
prefixes_of_layer (Expr-F.Up n t) = ending_prefixes t
prefixes_of_layer (Expr-F.Attr t) = test_prefixes t
prefixes_of_layer _ = []

-- the prefixes in an expression, each with the URI for which it stands
unfoldable pub prefixes_in : Expr → List Binding
prefixes_in = fold-Expr (List Binding) (List Binding) prefixes_of_layer prefixes_of_step

unfoldable pub prefixes_in_step : PathStep → List Binding
prefixes_in_step = fold-PathStep (List Binding) (List Binding) prefixes_of_layer prefixes_of_step

-- each of these prefixes stands for its URI
abbrev pub Agrees : List Binding → List Binding → Type 0
Agrees scope [] = ⊤
Agrees scope (b ∷ bs) = (uri_of scope b.prefix ≡ Some b.uri) × Agrees scope bs
