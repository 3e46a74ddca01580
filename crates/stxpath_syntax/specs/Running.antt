-- What running tokens through the machine answers.
use Rattle.std.specs.Prelude.{◌≡◌, ℕ, List, ◌∷◌, ◌++◌, Option, Some, None, Result, Ok, Err, ⊤}
use Rattle.stx_base.specs.declared.name.Binding.{Binding}
use Rattle.stxpath_syntax.specs.declared.dialect.Dialect.{Dialect}
use Rattle.stxpath_syntax.specs.declared.expr.Alternative.{Alternative}
use Rattle.stxpath_syntax.specs.declared.expr.Expr.{Expr}
use Rattle.stxpath_syntax.specs.declared.fault.ParseFault.{ParseFault}
use Rattle.stxpath_syntax.specs.declared.fault.ParseFault.TheVariants as fault
use Rattle.stxpath_syntax.specs.declared.fault.PathKind.TheVariants as kind
use Rattle.stxpath_syntax.specs.declared.meant.Meant.{Meant}
use Rattle.stxpath_syntax.specs.declared.state.State.{State}
use Rattle.stxpath_syntax.specs.declared.stop.Stop.{Stop}
use Rattle.stxpath_syntax.specs.declared.stop.Stop.TheVariants as stop
use Rattle.stxpath_syntax.specs.declared.token.Placed.{Placed}
use Rattle.stxpath_syntax.specs.Machine.{run, step, end_of_expression, end_of_pattern}
use Rattle.stxpath_syntax.specs.Reading.{fault_of}
use Rattle.stxpath_syntax.specs.Template.{Answers, Read, finished}

abbrev pub syntax : ℕ → ParseFault
syntax place = fault.Path (record { kind = kind.Syntax; place = place })

-- the fault of a text whose reading stops at a place
abbrev pub stopped : Stop → ℕ → ParseFault
stopped stop.Stuck place = syntax place
stopped stop.Memory place = fault.Memory

-- the first token that no state follows, behind those that lead to this state
pub record Sticks (dialect : Dialect) (scope : List Binding) (begun : State) (ts : List Placed) (t : Placed) : Type 0 where
  pub front : List Placed
  pub rest : List Placed
  pub state : State
  pub are : ts ≡ front ++ t ∷ rest
  pub leads : run dialect scope front begun ≡ Some state
  pub is_stuck : step dialect scope state t ≡ None

-- the state behind all tokens, or the first token that no state follows
abbrev pub Runs : Dialect → List Binding → State → List Placed → Result State ParseFault → Type 0
Runs dialect scope begun ts (Ok state) = run dialect scope ts begun ≡ Some state
Runs dialect scope begun ts (Err (fault.Path f)) = (t : Placed) × Sticks dialect scope begun ts t × (f ≡ record { kind = kind.Syntax; place = t.at })
Runs dialect scope begun ts (Err fault.Memory) = ⊤

abbrev pub Nexts : Dialect → List Binding → State → Placed → Result State ParseFault → Type 0
Nexts dialect scope state t (Ok next) = step dialect scope state t ≡ Some next
Nexts dialect scope state t (Err (fault.Path f)) = (step dialect scope state t ≡ None) × (f ≡ record { kind = kind.Syntax; place = t.at })
Nexts dialect scope state t (Err fault.Memory) = ⊤

-- what a text is read as whose tokens run through, by what they mean; or its fault at the end, where they are no whole
abbrev pub whole_read : {A : Type 0} → Option (Meant A) → ℕ → Read A
whole_read (Some m) end = finished m
whole_read None end = fault_of kind.Syntax end

abbrev pub EndsExpression : List Binding → State → ℕ → Result Expr ParseFault → Type 0
EndsExpression scope state end = Answers (λ read. read ≡ whole_read (end_of_expression scope state) end)

abbrev pub EndsPattern : List Binding → State → ℕ → Result (List Alternative) ParseFault → Type 0
EndsPattern scope state end = Answers (λ read. read ≡ whole_read (end_of_pattern scope state) end)
