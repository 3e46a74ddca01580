-- What some text is read as, in some dialect and scope.
use Rattle.std.specs.Prelude.{ℕ, List, Ok, Contains, ⊤}
use Rattle.stx_base.specs.declared.name.Binding.{Binding}
use Rattle.stxpath_syntax.specs.declared.dialect.Dialect.{Dialect}
use Rattle.stxpath_syntax.specs.declared.expr.Alternative.{Alternative}
use Rattle.stxpath_syntax.specs.declared.expr.AvtPart.{AvtPart}
use Rattle.stxpath_syntax.specs.declared.expr.AvtPart.TheVariants.{Chars, Value}
use Rattle.stxpath_syntax.specs.declared.expr.Expr.{Expr}
use Rattle.stxpath_syntax.specs.Template.{IsExpression, IsPattern, IsTemplate}

-- an expression that some text is read as, on its own or as a part of a template
abbrev pub IsReadable : Expr → Type 0
IsReadable x = (dialect : Dialect) × (scope : List Binding) × (at : ℕ) × (text : List ℕ) × IsExpression dialect scope at text (Ok x)

-- the alternatives of a pattern that some text is read as
abbrev pub IsReadablePattern : List Alternative → Type 0
IsReadablePattern all = (dialect : Dialect) × (scope : List Binding) × (text : List ℕ) × IsPattern dialect scope text (Ok all)

-- one of them
abbrev pub IsReadableAlternative : Alternative → Type 0
IsReadableAlternative a = (all : List Alternative) × IsReadablePattern all × Contains all a

-- the parts of a template that some text is read as
abbrev pub IsReadableTemplate : List AvtPart → Type 0
IsReadableTemplate parts = (dialect : Dialect) × (scope : List Binding) × (text : List ℕ) × IsTemplate dialect scope text (Ok parts)

-- plain characters, or an expression that some text is read as
abbrev pub IsReadablePart : AvtPart → Type 0
IsReadablePart (Chars text) = ⊤
IsReadablePart (Value x) = IsReadable x
