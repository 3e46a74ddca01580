-- The parser's states: what follows one token after another. The grammar is in Grammar.antt; this is how it is read.
use Rattle.std.specs.Prelude.{◌≡◌, ℕ, ◌+◌, Bool, true, false, not, ◌&&◌, ◌==◌, nat_le, List, [], ◌∷◌, Option, Some, None, Result, Ok, Err, if◌then◌else◌, ⊤}
use Rattle.std.specs.Option.{option_map, option_and_then}
use Rattle.stx_base.specs.declared.memory.Memory.{Memory}
use Rattle.stx_base.specs.declared.name.Binding.{Binding}
use Rattle.stx_base.specs.declared.expression.Op.TheVariants as op
use Rattle.stx_base.specs.declared.node.NodeTest.{NodeTest}
use Rattle.stx_base.specs.declared.node.NodeTest.TheVariants as test
use Rattle.stxpath_syntax.specs.declared.meant.Meant.{Meant}
use Rattle.stxpath_syntax.specs.declared.meant.Meant.TheVariants.{Fine}
use Rattle.stxpath_syntax.specs.declared.dialect.Dialect.{Dialect}
use Rattle.stxpath_syntax.specs.declared.expr.Alternative.{Alternative}
use Rattle.stxpath_syntax.specs.declared.expr.Alternative.TheVariants as alternative
use Rattle.stxpath_syntax.specs.declared.expr.Bin.TheVariants as bin
use Rattle.stxpath_syntax.specs.declared.expr.Expr.{Expr}
use Rattle.stxpath_syntax.specs.declared.expr.Expr.TheVariants as e
use Rattle.stxpath_syntax.specs.declared.expr.Link.{Link}
use Rattle.stxpath_syntax.specs.declared.expr.Link.TheVariants as link
use Rattle.stxpath_syntax.specs.declared.expr.PathStep.{PathStep}
use Rattle.stxpath_syntax.specs.declared.state.Begun.{Begun}
use Rattle.stxpath_syntax.specs.declared.state.Frame.{Frame}
use Rattle.stxpath_syntax.specs.declared.state.Frame.TheVariants.{Negated, Left, Group, Call, Predicate, Alternatives}
use Rattle.stxpath_syntax.specs.declared.state.Mode.{Mode}
use Rattle.stxpath_syntax.specs.declared.state.Mode.TheVariants.{Operand, Variable, Function, Root, Alternative as AlternativeBegins, Step, Named as AfterName, Kind, Target, Walked, Attribute, Above, Higher, Complete}
use Rattle.stxpath_syntax.specs.declared.state.Named.{Named}
use Rattle.stxpath_syntax.specs.declared.state.Owner.{Owner}
use Rattle.stxpath_syntax.specs.declared.state.Owner.TheVariants as owner
use Rattle.stxpath_syntax.specs.declared.state.State.{State}
use Rattle.stxpath_syntax.specs.declared.state.Walk.{Walk}
use Rattle.stxpath_syntax.specs.declared.stop.Stop.{Stop}
use Rattle.stxpath_syntax.specs.declared.stop.Stop.TheVariants as stop
use Rattle.stxpath_syntax.specs.declared.token.Operator.{Operator}
use Rattle.stxpath_syntax.specs.declared.token.Operator.TheVariants as operator
use Rattle.stxpath_syntax.specs.declared.token.Placed.{Placed}
use Rattle.stxpath_syntax.specs.declared.token.Token.{Token}
use Rattle.stxpath_syntax.specs.declared.token.Token.TheVariants as token
use Rattle.stxpath_syntax.specs.declared.token.Written.{Written}
use Rattle.stxpath_syntax.specs.Grammar.{level, left_level}
use Rattle.stxpath_syntax.specs.Meaning.{none, flat, neg, operated, and_also, seq, var, attr, root, untested, some, up, abs, step as step_meant, steps, name_of, type_of, element_named, element_within, attribute_named, attribute_within, called}

-- what follows a token, if a reading goes on with it
abbrev pub Next : Type 0
Next = Option (List Frame × Mode)

-- the mode that follows, with the stack as it is
abbrev pub at_stack : List Frame → Option Mode → Next
at_stack frames None = None
at_stack frames (Some mode) = Some (frames, mode)

-- an operand begins behind a frame
abbrev pub opened : List Frame → Frame → Next
opened frames frame = Some (frame ∷ frames, Operand)

-- whether a frame is part of an operand that binds at least so tightly
abbrev pub binds : ℕ → Frame → Bool
binds least Negated = true
binds least (Left left o at) = nat_le least (level o)
binds least _ = false

abbrev pub top_binds : ℕ → List Frame → Bool
top_binds least [] = false
top_binds least (frame ∷ frames) = binds least frame

-- what a frame and the operand behind it make
abbrev pub reduced : Frame → Meant Expr → Meant Expr
reduced Negated last = neg last
reduced (Left left o at) last = operated o at left last
reduced _ last = last

-- what binds at least so tightly is taken off the stack and made one operand with the last
unfoldable pub gathered : ℕ → List Frame → Meant Expr → List Frame × Meant Expr
gathered least [] last = ([], last)
gathered least (frame ∷ frames) last = if binds least frame then gathered least frames (reduced frame last) else (frame ∷ frames, last)

abbrev pub is_pattern : List Frame → Bool
is_pattern (Alternatives all ∷ frames) = true
is_pattern _ = false

-- an operator of this level is on top
abbrev pub is_beside : Operator → List Frame → Bool
is_beside o (Left left other at ∷ frames) = level other == level o
is_beside o _ = false

abbrev pub is_minus : Operator → Bool
is_minus (operator.Binary (bin.Arith op.Sub)) = true
is_minus _ = false

abbrev pub completed : List Frame → Meant Expr → Next
completed frames operand = Some (frames, Complete operand)

abbrev pub empty_group : Meant (List Expr) → ℕ → Option Mode
empty_group items count = if count == 0 then Some (Complete (seq items)) else None

abbrev pub empty_call : Written → ℕ → Meant (List Expr) → ℕ → Option Mode
empty_call name at items count = if count == 0 then Some (Complete (called name at 0 items)) else None

-- `)` behind `(` or a comma
abbrev pub close_empty : List Frame → Next
close_empty (Group items count ∷ frames) = at_stack frames (empty_group items count)
close_empty (Call name at items count ∷ frames) = at_stack frames (empty_call name at items count)
close_empty _ = None

-- one expression in brackets is itself
abbrev pub grouped : Meant (List Expr) → ℕ → Meant Expr → Meant Expr
grouped items count last = if count == 0 then last else seq (and_also items last)

-- `)` behind an expression
abbrev pub close : List Frame × Meant Expr → Next
close (Group items count ∷ frames, last) = completed frames (grouped items count last)
close (Call name at items count ∷ frames, last) = completed frames (called name at (count + 1) (and_also items last))
close _ = None

-- brackets with one more expression, behind a comma
abbrev pub separated : Frame → Meant Expr → Option Frame
separated (Group items count) last = Some (Group (and_also items last) (count + 1))
separated (Call name at items count) last = Some (Call name at (and_also items last) (count + 1))
separated _ last = None

-- a comma behind an expression
abbrev pub separate : List Frame × Meant Expr → Next
separate ([], last) = None
separate (frame ∷ frames, last) = option_and_then (opened frames) (separated frame last)

-- a path's last step with one more predicate
abbrev pub filtered : Walk → Meant Expr → Walk
filtered walk last = record walk { predicates = and_also walk.predicates last }

-- `]` behind an expression
abbrev pub close_predicate : List Frame × Meant Expr → Next
close_predicate (Predicate walk ∷ frames, last) = Some (frames, Walked (filtered walk last))
close_predicate _ = None

-- an operator behind its left operand
abbrev pub wait : Operator → ℕ → List Frame × Meant Expr → Next
wait o at gathered = if is_beside o gathered.0 then None else Some (Left gathered.1 o at ∷ gathered.0, Operand)

-- a token behind an operand
unfoldable pub complete : List Frame → Meant Expr → ℕ → Token → Next
complete frames operand at (token.Operator o) = wait o at (gathered (left_level o) frames operand)
complete frames operand at token.Close = close (gathered 0 frames operand)
complete frames operand at token.Comma = separate (gathered 0 frames operand)
complete frames operand at token.ClosePredicate = close_predicate (gathered 0 frames operand)
complete frames operand at _ = None

-- a path of which nothing but its first link is read
abbrev pub first : Link → Begun
first link = record { steps = none; link = link; is_first = true }

-- an operator that begins an operand
abbrev pub sign : List Frame → Operator → Next
sign frames o = if is_minus o then opened frames Negated else None

-- a token that begins an operand
unfoldable pub operand : List Frame → ℕ → Token → Next
operand frames at (token.Whole i) = completed frames (Fine (e.Whole i) 1)
operand frames at (token.Literal text) = completed frames (Fine (e.Literal text) 1)
operand frames at (token.Name name) = Some (frames, Function name at)
operand frames at (token.Operator o) = sign frames o
operand frames at token.Dollar = Some (frames, Variable)
operand frames at token.Open = opened frames (Group none 0)
operand frames at token.Close = close_empty frames
operand frames at token.Slash = Some (frames, Root)
operand frames at token.SlashSlash = Some (frames, Step (first link.Deep))
operand frames at token.Dot = Some (frames, Above 0)
operand frames at token.DotDot = Some (frames, Above 1)
operand frames at token.At = Some (frames, Attribute owner.Here)
operand frames at _ = None

-- a step that has its test
abbrev pub walk_of : Begun → Meant NodeTest → Bool → Walk
walk_of begun test is_attribute =
    record { steps = begun.steps; link = begun.link; test = test; predicates = none; is_attribute = is_attribute }

abbrev pub all_steps : Walk → Meant (List PathStep)
all_steps walk = and_also walk.steps (step_meant walk.link walk.test walk.predicates)

abbrev pub is_slash : Link → Bool
is_slash link.Slash = true
is_slash _ = false

-- what a test of attributes ends
abbrev pub owned : Owner → Meant NodeTest → Mode
owned owner.Here t = Complete (attr t)
owned (owner.Above n) t = Complete (up n (some t))
owned (owner.Path steps) t = Complete (abs steps (some t))
owned (owner.Last begun) t = Walked (walk_of begun t true)

abbrev pub alternated : List Frame → Meant Alternative → Next
alternated (Alternatives all ∷ frames) last = Some (Alternatives (and_also all last) ∷ frames, AlternativeBegins)
alternated _ last = None

-- a token behind an alternative of a pattern
abbrev pub end_of_alternative : List Frame → Meant Alternative → Token → Next
end_of_alternative frames last token.Bar = alternated frames last
end_of_alternative frames last _ = None

abbrev pub whole_path : Walk → Meant Expr
whole_path walk = abs (all_steps walk) untested

abbrev pub whole_alternative : Walk → Meant Alternative
whole_alternative walk = steps (all_steps walk)

-- a link behind a step: none stands behind an attribute
abbrev pub linked : Walk → Link → Option Mode
linked walk link = if walk.is_attribute then None else Some (Step (record { steps = all_steps walk; link = link; is_first = false }))

-- a token behind the last step of a path
abbrev pub end_of_path : List Frame → Walk → ℕ → Token → Next
end_of_path frames walk at t =
    if is_pattern frames then end_of_alternative frames (whole_alternative walk) t else complete frames (whole_path walk) at t

-- a token behind a step
unfoldable pub walk_on : List Frame → Walk → ℕ → Token → Next
walk_on frames walk at token.OpenPredicate = opened frames (Predicate walk)
walk_on frames walk at token.Slash = at_stack frames (linked walk link.Slash)
walk_on frames walk at token.SlashSlash = at_stack frames (linked walk link.Deep)
walk_on frames walk at t = end_of_path frames walk at t

abbrev pub begins_step : Bool → Token → Bool
begins_step in_pattern (token.Name name) = true
begins_step in_pattern (token.Within prefix) = true
begins_step in_pattern token.Star = true
begins_step in_pattern token.At = in_pattern
begins_step in_pattern _ = false

-- the name of a function, and `(`
abbrev pub function : List Frame → Written → ℕ → Token → Next
function frames name at token.Open = opened frames (Call name at none 0)
function frames name at _ = None

-- the target of instructions, behind their node type and `(`
abbrev pub targeted : Begun → NodeTest → List ℕ → Option Mode
targeted begun test.AnyPi target = Some (Target begun target)
targeted begun _ target = None

-- a token behind a node type and `(`
abbrev pub after_type : Begun → NodeTest → Token → Option Mode
after_type begun t token.Close = Some (Walked (walk_of begun (flat t) false))
after_type begun t (token.Literal target) = targeted begun t target
after_type begun t _ = None

-- a token behind the target of instructions
abbrev pub after_target : Begun → List ℕ → Token → Option Mode
after_target begun target token.Close = Some (Walked (walk_of begun (flat (test.Pi target)) false))
after_target begun target _ = None

-- a token behind `.` or the last of so many `..`
abbrev pub above : List Frame → ℕ → ℕ → Token → Next
above frames n at token.Slash = Some (frames, Higher n)
above frames n at t = complete frames (up n untested) at t

-- a token behind `.` or `..`, and `/`
abbrev pub higher : ℕ → Token → Option Mode
higher n token.DotDot = if n == 0 then None else Some (Above (n + 1))
higher n token.At = Some (Attribute (owner.Above n))
higher n _ = None

-- `@` where a step may stand: in a pattern anywhere, else behind `/` and a step
abbrev pub begin_attribute : List Frame → Begun → Option Mode
begin_attribute frames begun =
    if is_pattern frames then Some (Attribute (owner.Last begun))
    else if not begun.is_first && is_slash begun.link then Some (Attribute (owner.Path begun.steps)) else None

-- `(` behind the name of a node type
abbrev pub begin_type : Dialect → Begun → Written → Option Mode
begin_type dialect begun name = option_map (Kind begun) (type_of dialect name)

abbrev pub state_of : List Frame × Mode → State
state_of next = record { stack = next.0; mode = next.1 }

module _ (scope : List Binding) where
  -- a token that begins a step
  unfoldable pub begin_step : List Frame → Begun → ℕ → Token → Next
  begin_step frames begun at (token.Name name) = Some (frames, AfterName (record { begun = begun; name = name; at = at }))
  begin_step frames begun at (token.Within prefix) = Some (frames, Walked (walk_of begun (element_within scope prefix at) false))
  begin_step frames begun at token.Star = Some (frames, Walked (walk_of begun (flat test.AnyElement) false))
  begin_step frames begun at token.At = at_stack frames (begin_attribute frames begun)
  begin_step frames begun at _ = None

  -- the test of attributes that a token writes
  abbrev pub attribute_test : ℕ → Token → Option (Meant NodeTest)
  attribute_test at (token.Name name) = Some (attribute_named scope name at)
  attribute_test at (token.Within prefix) = Some (attribute_within scope prefix at)
  attribute_test at token.Star = Some (flat test.AnyAttr)
  attribute_test at _ = None

  -- a token behind `/` at the beginning of a path
  unfoldable pub after_root : List Frame → ℕ → Token → Next
  after_root frames at t =
      if begins_step (is_pattern frames) t then begin_step frames (first link.Slash) at t
      else if is_pattern frames then end_of_alternative frames (flat alternative.Root) t
      else complete frames root at t

  -- a token that begins an alternative of a pattern
  unfoldable pub begin_alternative : List Frame → ℕ → Token → Next
  begin_alternative frames at token.Slash = Some (frames, Root)
  begin_alternative frames at token.SlashSlash = Some (frames, Step (first link.Deep))
  begin_alternative frames at t = begin_step frames (first link.Start) at t

  abbrev pub named_walk : Named → Walk
  named_walk named = walk_of named.begun (element_named scope named.name named.at) false

  -- the name behind `$`
  abbrev pub variable : ℕ → Token → Option Mode
  variable at (token.Name name) = Some (Complete (var (name_of scope name at)))
  variable at _ = None

  -- a token behind `@`
  abbrev pub attribute : Owner → ℕ → Token → Option Mode
  attribute whose at t = option_map (owned whose) (attribute_test at t)

  -- the operand that ends with the last token
  abbrev pub last_operand : Mode → Option (Meant Expr)
  last_operand (Complete operand) = Some operand
  last_operand Root = Some root
  last_operand (Above n) = Some (up n untested)
  last_operand (Walked walk) = Some (whole_path walk)
  last_operand (AfterName named) = Some (whole_path (named_walk named))
  last_operand _ = None

  abbrev pub alone : List Frame × Meant Expr → Option (Meant Expr)
  alone ([], whole) = Some whole
  alone _ = None

  unfoldable pub end_of_expression : State → Option (Meant Expr)
  end_of_expression state = option_and_then (λ last. alone (gathered 0 state.stack last)) (last_operand state.mode)

  -- the alternative that ends with the last token
  abbrev pub last_alternative : Mode → Option (Meant Alternative)
  last_alternative Root = Some (flat alternative.Root)
  last_alternative (Walked walk) = Some (whole_alternative walk)
  last_alternative (AfterName named) = Some (whole_alternative (named_walk named))
  last_alternative _ = None

  abbrev pub with_last : List Frame → Meant Alternative → Option (Meant (List Alternative))
  with_last (Alternatives all ∷ frames) last = Some (and_also all last)
  with_last _ last = None

  unfoldable pub end_of_pattern : State → Option (Meant (List Alternative))
  end_of_pattern state = option_and_then (with_last state.stack) (last_alternative state.mode)

module _ (dialect : Dialect) (scope : List Binding) where
  -- a token behind a name that begins a step
  unfoldable pub after_name : List Frame → Named → ℕ → Token → Next
  after_name frames named at token.Open = at_stack frames (begin_type dialect named.begun named.name)
  after_name frames named at t = walk_on frames (named_walk scope named) at t

  abbrev pub turn : List Frame → Mode → ℕ → Token → Next
  turn frames Operand at t = operand frames at t
  turn frames (Complete last) at t = complete frames last at t
  turn frames Variable at t = at_stack frames (variable scope at t)
  turn frames (Function name place) at t = function frames name place t
  turn frames Root at t = after_root scope frames at t
  turn frames AlternativeBegins at t = begin_alternative scope frames at t
  turn frames (Step begun) at t = begin_step scope frames begun at t
  turn frames (AfterName named) at t = after_name frames named at t
  turn frames (Kind begun t) at next = at_stack frames (after_type begun t next)
  turn frames (Target begun target) at t = at_stack frames (after_target begun target t)
  turn frames (Walked walk) at t = walk_on frames walk at t
  turn frames (Attribute whose) at t = at_stack frames (attribute scope whose at t)
  turn frames (Above n) at t = above frames n at t
  turn frames (Higher n) at t = at_stack frames (higher n t)

  unfoldable pub step : State → Placed → Option State
  step state t = option_map state_of (turn state.stack state.mode t.at t.token)

  -- the state behind tokens, if each of them can follow those before it
  unfoldable pub run : List Placed → State → Option State
  run [] state = Some state
  run (t ∷ ts) state = option_and_then (run ts) (step state t)

-- what a step answers: the next state, or that there is none, or want of memory
abbrev pub Takes : {A : Type 0} → Option A → Result A Stop → Type 0
Takes next (Ok state) = next ≡ Some state
Takes next (Err stop.Stuck) = next ≡ None
Takes next (Err stop.Memory) = ⊤

-- the same of a part of it, which changes the stack and gives the mode
abbrev pub Turns : Next → Result Mode Stop → List Frame → Type 0
Turns next (Ok mode) frames = next ≡ Some (frames, mode)
Turns next (Err stop.Stuck) frames = next ≡ None
Turns next (Err stop.Memory) frames = ⊤

-- the frame that was on top, if it binds at least so tightly
abbrev pub TakesBound : ℕ → List Frame → Option Frame → List Frame → Type 0
TakesBound least old None new = (top_binds least old ≡ false) × (new ≡ old)
TakesBound least old (Some frame) new = (top_binds least old ≡ true) × (old ≡ frame ∷ new)

abbrev pub Gathers : ℕ → List Frame → Meant Expr → Result (Meant Expr) Memory → List Frame → Type 0
Gathers least old last (Ok operand) new = gathered least old last ≡ (new, operand)
Gathers least old last (Err memory) new = ⊤
