-- Attribute value templates, and what the calls that read answer.
use Rattle.std.specs.Prelude.{◌≡◌, ◌≢◌, ℕ, ◌+◌, Bool, true, false, ◌||◌, ◌==◌, List, [], ◌∷◌, ◌++◌, Option, Some, None, Result, Ok, Err, length, if◌then◌else◌, ⊤}
use Rattle.std.specs.Option.{option_map}
use Rattle.stx_base.specs.declared.name.Binding.{Binding}
use Rattle.stxpath_syntax.specs.declared.dialect.Dialect.{Dialect}
use Rattle.stxpath_syntax.specs.declared.meant.Meant.{Meant}
use Rattle.stxpath_syntax.specs.declared.meant.Meant.TheVariants.{Fine, High, Bad}
use Rattle.stxpath_syntax.specs.declared.expr.Avt.{Avt}
use Rattle.stxpath_syntax.specs.declared.expr.Pattern.{Pattern}
use Rattle.stxpath_syntax.specs.declared.expr.AvtPart.{AvtPart}
use Rattle.stxpath_syntax.specs.declared.expr.AvtPart.TheVariants.{Chars, Value}
use Rattle.stxpath_syntax.specs.declared.expr.Alternative.{Alternative}
use Rattle.stxpath_syntax.specs.declared.expr.Expr.{Expr}
use Rattle.stxpath_syntax.specs.declared.fault.PathFault.{PathFault}
use Rattle.stxpath_syntax.specs.declared.fault.PathKind.TheVariants as kind
use Rattle.stxpath_syntax.specs.declared.fault.ParseFault.{ParseFault}
use Rattle.stxpath_syntax.specs.declared.fault.ParseFault.TheVariants as fault
use Rattle.stxpath_syntax.specs.Grammar as grammar
use Rattle.stxpath_syntax.specs.Reading.{Gives, fault_of}
use Rattle.stxpath_syntax.specs.Tokens.{is_quote}

-- `{` and `}`
abbrev pub is_brace : ℕ → Bool
is_brace c = c == 123 || c == 125

-- the place of the first `}` outside quotes, where this quote is open before the first character
abbrev pub closing : Option ℕ → List ℕ → Option ℕ
closing quote [] = None
closing None (c ∷ cs) =
    if c == 125 then Some 0 else option_map (λ n. n + 1) (closing (if is_quote c then Some c else None) cs)
closing (Some quote) (c ∷ cs) = option_map (λ n. n + 1) (closing (if c == quote then None else Some quote) cs)

-- what a text is read as: a value, or the first fault
abbrev pub Read : Type 0 → Type 0
Read A = Result A PathFault

-- a plain character before parts: it joins those that come first
abbrev pub with_char : ℕ → Read (List AvtPart) → Read (List AvtPart)
with_char c (Ok (Chars cs ∷ parts)) = Ok (Chars (c ∷ cs) ∷ parts)
with_char c (Ok parts) = Ok (Chars (c ∷ []) ∷ parts)
with_char c (Err fault) = Err fault

abbrev pub with_value : Expr → Read (List AvtPart) → Read (List AvtPart)
with_value value (Ok parts) = Ok (Value value ∷ parts)
with_value value (Err fault) = Err fault

module _ (dialect : Dialect) (scope : List Binding) where
  -- what characters that begin at a place are read as, or the first fault, in their order
  pub data Template : ℕ → List ℕ → Read (List AvtPart) → Type 0 where
    end : (at : ℕ) → Template at [] (Ok [])
    plain : (at c : ℕ) {text : List ℕ} {parts : Read (List AvtPart)} → (is_brace c ≡ false)
        → Template (at + 1) text parts → Template at (c ∷ text) (with_char c parts)
    doubled : (at c : ℕ) {text : List ℕ} {parts : Read (List AvtPart)} → (is_brace c ≡ true)
        → Template (at + 2) text parts → Template at (c ∷ c ∷ text) (with_char c parts)
    lone : (at : ℕ) (text : List ℕ) → ((rest : List ℕ) → text ≢ 125 ∷ rest) → Template at (125 ∷ text) (fault_of kind.Syntax at)
    unended : (at : ℕ) (text : List ℕ) → ((rest : List ℕ) → text ≢ 123 ∷ rest) → closing None text ≡ None
        → Template at (123 ∷ text) (fault_of kind.Syntax at)
    value : (at : ℕ) (inner text : List ℕ) (x : Expr) {parts : Read (List AvtPart)} → ((rest : List ℕ) → inner ≢ 123 ∷ rest)
        → closing None (inner ++ 125 ∷ text) ≡ Some (length inner)
        → Gives (grammar.Spells dialect scope 1) (at + 1) inner (Ok x) → Template (at + length inner + 2) text parts
        → Template at (123 ∷ (inner ++ 125 ∷ text)) (with_value x parts)
    faulty : (at : ℕ) (inner text : List ℕ) (why : PathFault) → ((rest : List ℕ) → inner ≢ 123 ∷ rest)
        → closing None (inner ++ 125 ∷ text) ≡ Some (length inner)
        → Gives (grammar.Spells dialect scope 1) (at + 1) inner (Err why)
        → Template at (123 ∷ (inner ++ 125 ∷ text)) (Err why)

-- what a call that reads answers: what its text is read as, its first fault, or want of memory
abbrev pub Answers : {A : Type 0} → (Read A → Type 0) → Result A ParseFault → Type 0
Answers Is (Ok a) = Is (Ok a)
Answers Is (Err (fault.Path why)) = Is (Err why)
Answers Is (Err fault.Memory) = ⊤

abbrev pub IsExpression : Dialect → List Binding → ℕ → List ℕ → Read Expr → Type 0
IsExpression dialect scope at text = Gives (grammar.Spells dialect scope 1) at text

abbrev pub IsPattern : Dialect → List Binding → List ℕ → Read (List Alternative) → Type 0
IsPattern dialect scope text = Gives (grammar.Pattern dialect scope) 0 text

abbrev pub IsTemplate : Dialect → List Binding → List ℕ → Read (List AvtPart) → Type 0
IsTemplate dialect scope text = Template dialect scope 0 text

abbrev pub alternatives_of : Result Pattern ParseFault → Result (List Alternative) ParseFault
alternatives_of (Ok pattern) = Ok pattern.alternatives
alternatives_of (Err why) = Err why

abbrev pub parts_of : Result Avt ParseFault → Result (List AvtPart) ParseFault
parts_of (Ok template) = Ok template.parts
parts_of (Err why) = Err why

-- the value that was built, or its fault
abbrev pub finished : {A : Type 0} → Meant A → Read A
finished (Fine found tall) = Ok found
finished High = fault_of kind.TooDeep 0
finished (Bad why) = Err why
