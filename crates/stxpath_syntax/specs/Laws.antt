-- What the grammar promises.
use Rattle.std.specs.Prelude.{◌≡◌, ℕ, List, Some, Ok, All}
use Rattle.stx_base.specs.declared.expression.Fun.{Fun}
use Rattle.stx_base.specs.declared.name.Binding.{Binding}
use Rattle.stx_base.specs.Functions.{word}
use Rattle.stxpath_syntax.specs.declared.dialect.Dialect.{Dialect}
use Rattle.stxpath_syntax.specs.declared.expr.Alternative.{Alternative}
use Rattle.stxpath_syntax.specs.declared.expr.AvtPart.{AvtPart}
use Rattle.stxpath_syntax.specs.declared.expr.Expr.{Expr}
use Rattle.stxpath_syntax.specs.declared.meant.Meant.{Meant}
use Rattle.stxpath_syntax.specs.declared.token.Placed.{Placed}
use Rattle.stxpath_syntax.specs.Functions.{function_named}
use Rattle.stxpath_syntax.specs.Grammar as grammar
use Rattle.stxpath_syntax.specs.Printing.{Agrees, prefixes_in, printed}
use Rattle.stxpath_syntax.specs.Readable.{IsReadable, IsReadableAlternative, IsReadableTemplate, IsReadablePart}
use Rattle.stxpath_syntax.specs.Shape.{CanBeEvaluated, PredicatesCanBeEvaluated}
use Rattle.stxpath_syntax.specs.Template.{IsExpression, IsPattern, IsTemplate}

-- tokens spell one expression at most, and make one pattern at most
abbrev pub OneReading : Type 0
OneReading =
    (dialect : Dialect) (scope : List Binding) (ts : List Placed)
    → ((a b : Meant Expr) → grammar.Spells dialect scope 1 ts a → grammar.Spells dialect scope 1 ts b → a ≡ b)
    × ((a b : Meant (List Alternative)) → grammar.Pattern dialect scope ts a → grammar.Pattern dialect scope ts b → a ≡ b)

-- what is printed of an expression that was read is read as it again, where each of its prefixes stands for its URI
abbrev pub ReadsBack : Type 0
ReadsBack =
    (dialect : Dialect) (scope other : List Binding) (from place : ℕ) (text : List ℕ) (x : Expr)
    → IsExpression dialect scope from text (Ok x) → Agrees other (prefixes_in x) → IsExpression dialect other place (printed x).text (Ok x)

-- there is one that fits, and no other
abbrev pub One : {A : Type 0} → (A → Type 0) → Type 0
One {A} Fits = (a : A) × Fits a × ((b : A) → Fits b → a ≡ b)

-- each text is read as one expression, pattern or template, or has one first fault
abbrev pub OneAnswer : Type 0
OneAnswer =
    (dialect : Dialect) (scope : List Binding) (text : List ℕ)
    → ((at : ℕ) → One (IsExpression dialect scope at text)) × One (IsPattern dialect scope text) × One (IsTemplate dialect scope text)

-- each function has its name, and no name but its own
abbrev pub Named : Type 0
Named =
    ((f : Fun) → function_named (word f) ≡ Some f)
    × ((name : List ℕ) (f : Fun) → function_named name ≡ Some f → name ≡ word f)

-- whatever is read can be evaluated: expressions, the predicates of patterns, and the expressions of templates, which are read as such
abbrev pub CanAllBeEvaluated : Type 0
CanAllBeEvaluated =
    ((x : Expr) → IsReadable x → CanBeEvaluated x)
    × ((a : Alternative) → IsReadableAlternative a → PredicatesCanBeEvaluated a)
    × ((parts : List AvtPart) → IsReadableTemplate parts → All IsReadablePart parts)
