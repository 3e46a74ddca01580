-- The words of the path language: operators, node types, prefixes. A word is compared by its UTF-8.
use Rattle.std.specs.Prelude.{ℕ, bytes_eq, List, [], ◌∷◌, Option, Some, None, if◌then◌else◌, codes, encode_utf8_all}
use Rattle.std.specs.Option.{option_or}
use Rattle.std.specs.Str.{chars}
use Rattle.stx_base.specs.declared.name.Binding.{Binding}
use Rattle.stx_base.specs.declared.expression.Op.TheVariants as op
use Rattle.stx_base.specs.declared.node.NodeTest.{NodeTest}
use Rattle.stx_base.specs.declared.node.NodeTest.TheVariants as test
use Rattle.stxpath_syntax.specs.declared.dialect.Dialect.{Dialect}
use Rattle.stxpath_syntax.specs.declared.dialect.Dialect.TheVariants.{One, OneOne}
use Rattle.stxpath_syntax.specs.declared.expr.Bin.TheVariants as bin
use Rattle.stxpath_syntax.specs.declared.token.Operator.{Operator}
use Rattle.stxpath_syntax.specs.declared.token.Operator.TheVariants as operator

-- the operators that are words
abbrev pub operator_named : List ℕ → Option Operator
operator_named word =
    if bytes_eq word (codes "or") then Some (operator.Binary bin.Or)
    else if bytes_eq word (codes "and") then Some (operator.Binary bin.And)
    else if bytes_eq word (codes "div") then Some operator.Div
    else if bytes_eq word (codes "idiv") then Some (operator.Binary (bin.Arith op.Idiv))
    else if bytes_eq word (codes "mod") then Some (operator.Binary (bin.Arith op.Mod))
    else None

-- what `cdata()` tests: CDATA nodes, in dialect 1.1 alone
abbrev pub cdata_test : Dialect → Option NodeTest
cdata_test One = None
cdata_test OneOne = Some test.CData

-- the tests that are written as a node type and empty parentheses
abbrev pub type_named : Dialect → List ℕ → Option NodeTest
type_named dialect word =
    if bytes_eq word (codes "node") then Some test.AnyNode
    else if bytes_eq word (codes "text") then Some test.Chars
    else if bytes_eq word (codes "cdata") then cdata_test dialect
    else if bytes_eq word (codes "comment") then Some test.Comment
    else if bytes_eq word (codes "processing-instruction") then Some test.AnyPi
    else None

-- the URI to which the list binds the prefix: its last binding of it is the nearest
abbrev pub bound_by : List Binding → List ℕ → Option (List ℕ)
bound_by [] prefix = None
bound_by (b ∷ bs) prefix = option_or (bound_by bs prefix) (if bytes_eq b.prefix prefix then Some b.uri else None)

-- the URI of a prefix; `xml` is always bound (Namespaces in XML 1.0, 3)
abbrev pub uri_of : List Binding → List ℕ → Option (List ℕ)
uri_of scope prefix =
    if bytes_eq (encode_utf8_all prefix) (codes "xml") then Some (chars (codes "http://www.w3.org/XML/1998/namespace"))
    else bound_by scope prefix
