-- What methods do of what is to be done, and what they tell a sink.
use Rattle.std.specs.Prelude.{◌≡◌, ℕ, ◌+◌, ◌-◌, List, [], ◌∷◌, Option, true, OnOk, Result, Ok, Err, length, reverse, unwrap_or}
use Rattle.std.specs.Option.{option_and_then, option_map_or, option_or}
use Rattle.stx_base.specs.Course.{Course, Halt, Ret, Same, says}
use Rattle.stx_base.specs.declared.fault.Place.{Place}
use Rattle.stx_base.specs.declared.name.Binding.{Binding}
use Rattle.stx_base.specs.declared.name.Name.{Name}
use Rattle.stx_base.specs.declared.part.Part.{Part}
use Rattle.stx_base.specs.declared.node.NodeTest.TheVariants as test
use Rattle.frame_stack.specs.Change.{locals_of, with_pc}
use Rattle.frame_stack.specs.declared.frame.Frame.{Frame}
use Rattle.frame_stack.specs.declared.frame.Frame.TheVariants.{Loop}
use Rattle.node_stack.specs.Path.{Path}
use Rattle.node_stack.specs.Stack.{path}
use Rattle.result_writer.specs.Target.{Left, Target}
use Rattle.sheet_model.specs.Groups.{around}
use Rattle.sheet_model.specs.declared.instr.Content.{Content}
use Rattle.sheet_model.specs.declared.instr.Instr.{Instr}
use Rattle.sheet_model.specs.declared.instr.Instr.TheOpen.{Instr-F}
use Rattle.sheet_model.specs.declared.instr.When.{When}
use Rattle.stxpath_eval.specs.Setting.{Setting}
use Rattle.stxpath_syntax.specs.declared.expr.Avt.{Avt}
use Rattle.stxpath_syntax.specs.declared.expr.Expr.{Expr}
use Rattle.stxpath_values.specs.declared.fault.EvalFault.{EvalFault}
use Rattle.xml_events.specs.Tree.{Future}
use Rattle.template_machine.specs.Acting.{acts, named}
use Rattle.template_machine.specs.Alike.{LooksLike, along_path}
use Rattle.template_machine.specs.Bodies.{frame_in, on_body}
use Rattle.template_machine.specs.Ending.{Ending, Faulted, Said, Spent, code_of}
use Rattle.template_machine.specs.Job.{Does, Given, Here, Self, State, with_state}
use Rattle.template_machine.specs.Programs.{IsProgramOf}
use Rattle.template_machine.specs.Putting as putting
use Rattle.template_machine.specs.Seen.{local_of}
use Rattle.template_machine.specs.Steps.{group_of, test_in}
use Rattle.template_machine.specs.Still.{state_of, still}
use Rattle.template_machine.specs.Stepwise.{Flat_does, flat_code}
use Rattle.template_machine.specs.Values.{setting}
use Rattle.template_machine.specs.Variables.{seen_in}
use Rattle.template_machine.specs.declared.program.Program.{Program}
use Rattle.template_machine.specs.declared.putting.Putting.{Putting}
use Rattle.template_machine.specs.declared.run.Run.{Run}
use Rattle.template_machine.specs.declared.stop.Stop.{Stop}
use Rattle.template_machine.specs.declared.stop.Stop.TheVariants as stop

-- So much of a course was said, and then it goes on as follows, or ends as a method stops. For want of memory a method stops anywhere.
abbrev pub GoesAs : {Q R A : Type 0} → Result A Stop → Course Q R Said Ending → List Said → (follows : Course Q R Said Ending) → Type 0
GoesAs (Ok a) x said follows = x ≡ says said follows
GoesAs (Err (stop.Fault fault)) x said follows = x ≡ says said (Halt (Faulted fault))
GoesAs (Err (stop.Spent at)) x said follows = x ≡ says said (Halt (Spent at))
GoesAs {Q} {R} (Err stop.Memory) x said follows = (y : Course Q R Said Ending) × (x ≡ says said y)

-- a state as the parts that were put leave it
abbrev pub placed : Putting → Left → State → State
placed p left st = record st { buffers = p.buffers; targets = reverse p.targets; result = left }

-- Parts are put into the innermost buffer that is written, or else told to a sink.
pub record Puts {S A : Type 0} (output : S → Target) (told : S → S → List Said → Type 0) (at : Place) (parts : List Part) (result : Result A Stop) (old new : Putting) (out out_now : S) : Type 0 where
  pub said : List Said
  pub tells : told out out_now said
  pub does :
      (given : Given) → (output out).limit ≡ given.limits.elements → (st : State) (go : State → Does)
      → GoesAs result (putting.puts given at parts (placed old (output out).left st) go) said (go (placed new (output out_now).left st))

-- What the expressions of the innermost body see.
abbrev pub sight : Program → Run → Setting
sight p r = record {
  vars = λ name.
      option_or (local_of name (option_map_or locals_of (frame_in (reverse r.frames.frames)) []))
      (seen_in (around p.sheet.groups (unwrap_or (option_and_then (group_of p.sheet) (frame_in (reverse r.frames.frames))) 0)) r.store name);
  limits = p.limits;
  path = path r.source.stack;
  place = length (path r.source.stack).nodes - 1;
  test = unwrap_or (test_in p.sheet (reverse r.frames.frames)) test.Document;
}

-- A body sees the same, by the way to its node.
pub record SeesAs (given : Given) (p : Program) (r : Run) (self : Self) (a : Here) : Type 0 where
  pub way : Path
  pub alike : LooksLike (sight p r) way
  pub is : setting given self a ≡ along_path way (sight p r)

-- what an expression gave at a place, where memory wasn't wanting
abbrev pub Gave : {A : Type 0} → Place → Result A Stop → Result A EvalFault → Type 0
Gave at (Ok x) value = value ≡ Ok x
Gave at (Err (stop.Fault fault)) value = (f : EvalFault) × ((value ≡ Err f) × (fault ≡ record { code = code_of f; at = at }))
Gave at (Err (stop.Spent place)) value = ⊥
Gave at (Err stop.Memory) value = Unit {0}

-- A method that says nothing goes on as a course does, with its result, or stops as it does.
abbrev pub Yields : {A : Type 0} → Result A Stop → Does → (A → Does) → Type 0
Yields (Ok x) course go = course ≡ go x
Yields (Err (stop.Fault fault)) course go = course ≡ Halt (Faulted fault)
Yields (Err (stop.Spent at)) course go = course ≡ Halt (Spent at)
Yields (Err stop.Memory) course go = Unit {0}

-- the name that an instruction of an element computes
abbrev pub NamesAs : Place → (name : Avt) → (namespace : Option Avt) → (scope : List Binding) → Program → Run → Result Name Stop → Type 0
NamesAs at name namespace scope p r result =
    (given : Given) (self : Self) (a : Here) → SeesAs given p r self a → (go : Name → Does)
    → Yields result (named given at true name namespace scope self a go) go

-- An instruction is done, without the unit of fuel that it costs, and leaves the locals and the nodes of its body as they were.
pub record Acts {S A : Type 0} (output : S → Target) (told : S → S → List Said → Type 0) (p : Program) (instr : Instr-F Instr When) (result : Result A Stop) (old new : Run) (out out_now : S) : Type 0 where
  pub said : List Said
  pub tells : told out out_now said
  pub does :
      (given : Given) → (output out).limit ≡ given.limits.elements → (self : Self) (a : Here)
      → SeesAs given p old self a → a.state ≡ state_of given p old (output out).left
      → GoesAs result (acts given instr self a) said (Ret (with_state a (state_of given p new (output out_now).left)))

module _ (given : Given) (p : Program) where
  -- a run goes on, or stops, as what it did still does
  abbrev pub Proceeds : {A : Type 0} → Result A Stop → Flat_does → List Said → (follows : Flat_does) → Type 0
  Proceeds (Ok a) x said follows = Same (flat_code given) x (says said follows)
  Proceeds (Err (stop.Fault fault)) x said follows = Same (flat_code given) x (says said (Halt (Faulted fault)))
  Proceeds (Err (stop.Spent at)) x said follows = Same (flat_code given) x (says said (Halt (Spent at)))
  Proceeds (Err stop.Memory) x said follows = (y : Flat_does) × Same (flat_code given) x (says said y)

-- A step of a run, on every future.
pub record Steps {S A : Type 0} (output : S → Target) (told : S → S → List Said → Type 0) (p : Program) (result : Result A Stop) (old new : Run) (out out_now : S) : Type 0 where
  pub said : List Said
  pub tells : told out out_now said
  pub does :
      (given : Given) → IsProgramOf given.sheet given.limits p → (output out).limit ≡ given.limits.elements → (f : Future)
      → Proceeds given p result (still given p old (output out).left f) said (still given p new (output out_now).left f)

abbrev pub start_at : (name : Avt) → (namespace : Option Avt) → (scope : List Binding) → Place → Instr-F Instr When
start_at name namespace scope at = Instr-F.StartElement name namespace scope at

abbrev pub end_at : (name : Avt) → (namespace : Option Avt) → (scope : List Binding) → Place → Instr-F Instr When
end_at name namespace scope at = Instr-F.EndElement name namespace scope at

abbrev pub attribute_at : (name : Avt) → (namespace : Option Avt) → (scope : List Binding) → Content → Place → Instr-F Instr When
attribute_at name namespace scope content at = Instr-F.Attribute name namespace scope content at

abbrev pub value_at : (select : Expr) → (separator : Option Avt) → Place → Instr-F Instr When
value_at select separator at = Instr-F.ValueOf select separator at

abbrev pub message_at : Content → Place → Instr-F Instr When
message_at content at = Instr-F.Message content at

abbrev pub comment_at : Content → Place → Instr-F Instr When
comment_at content at = Instr-F.Comment content at

abbrev pub pi_at : (name : Avt) → (scope : List Binding) → Content → Place → Instr-F Instr When
pi_at name scope content at = Instr-F.Pi name scope content at

-- An operation that says nothing, on every future.
pub record Carries {A : Type 0} (p : Program) (result : Result A Stop) (old new : Run) : Type 0 where
  pub does :
      (given : Given) → IsProgramOf given.sheet given.limits p → (left : Left) (f : Future)
      → Proceeds given p result (still given p old left f) [] (still given p new left f)

-- The same where it has no answer.
abbrev pub CarriesOn : Program → (old new : Run) → Type 0
CarriesOn p old new = Carries {A = Unit {0}} p (Ok tt) old new

-- The innermost loop is over, and its body goes on at a place.
pub record LosesLoop (to : ℕ) (old new : Run) : Type 0 where
  pub turn : ℕ
  pub others : List Frame
  pub top : reverse old.frames.frames ≡ Loop turn ∷ others
  pub behind : reverse new.frames.frames ≡ on_body (with_pc to) others

-- An instruction that gives a text.
abbrev pub GivesText : Instr-F Instr When → Type 0
GivesText (Instr-F.Chars text at) = Unit {0}
GivesText (Instr-F.LiteralChars text at) = Unit {0}
GivesText (Instr-F.Comment content at) = Unit {0}
GivesText (Instr-F.StartElement name namespace scope at) = Unit {0}
GivesText (Instr-F.EndElement name namespace scope at) = Unit {0}
GivesText (Instr-F.Attribute name namespace scope content at) = Unit {0}
GivesText (Instr-F.Pi name scope content at) = Unit {0}
GivesText (Instr-F.Message content at) = Unit {0}
GivesText (Instr-F.ValueOf select separator at) = Unit {0}
GivesText x = ⊥

-- An instruction that gives a variable a value.
abbrev pub GivesValue : Instr-F Instr When → Type 0
GivesValue (Instr-F.Assign name select at) = Unit {0}
GivesValue (Instr-F.Local name select at) = Unit {0}
GivesValue x = ⊥

-- A body goes on at the next operation, and its locals, its node and all around it are as they were.
pub record Passes {A : Type 0} (pc : ℕ) (result : Result A Stop) (old new : Run) : Type 0 where
  pub behind : OnOk result (reverse new.frames.frames ≡ on_body (with_pc (pc + 1)) (reverse old.frames.frames))
  pub rest : new ≡ record old { frames = new.frames; store = new.store; putting = new.putting; fuel = new.fuel }

-- An instruction round a list of which it is said how it begins, and how it ends.

abbrev pub OpensShown : Instr-F Instr When → Type 0
OpensShown (Instr-F.Literal name attrs body at) = Unit {0}
OpensShown (Instr-F.Copy attributes body at) = Unit {0}
OpensShown (Instr-F.Element name namespace scope body at) = Unit {0}
OpensShown x = ⊥

abbrev pub ClosesShown : Instr-F Instr When → Type 0
ClosesShown (Instr-F.Literal name attrs body at) = Unit {0}
ClosesShown (Instr-F.Copy attributes body at) = Unit {0}
ClosesShown (Instr-F.Element name namespace scope body at) = Unit {0}
ClosesShown x = ⊥
