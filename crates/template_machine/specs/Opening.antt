-- What a method does that begins an instruction round a list.
use Rattle.std.specs.Prelude.{◌≡◌, ℕ, Bool, IfOk, List, [], Option, Result, Some, reverse}
use Rattle.stx_base.specs.declared.name.Name.{Name}
use Rattle.stx_base.specs.declared.fault.Place.{Place}
use Rattle.frame_stack.specs.declared.locals.Local.{Local}
use Rattle.stxpath_values.specs.declared.value.Atom.{Atom}
use Rattle.instr_code.specs.Steps.{decided}
use Rattle.node_stack.specs.Path.{Node, current}
use Rattle.node_stack.specs.Stack.{path}
use Rattle.result_writer.specs.Target.{Target}
use Rattle.sheet_model.specs.declared.instr.Instr.{Instr}
use Rattle.sheet_model.specs.declared.instr.Instr.TheOpen.{Instr-F}
use Rattle.sheet_model.specs.declared.instr.LiteralAttr.{LiteralAttr}
use Rattle.sheet_model.specs.declared.instr.When.{When}
use Rattle.stxpath_syntax.specs.declared.expr.Pattern.{Pattern}
use Rattle.template_machine.specs.Acting.{has_list}
use Rattle.template_machine.specs.Bodies.{on_body}
use Rattle.template_machine.specs.Ending.{Said}
use Rattle.template_machine.specs.Job.{Given, Here, with_state}
use Rattle.template_machine.specs.Saying.{GoesAs, Puts, SeesAs}
use Rattle.template_machine.specs.Scopes.{in_force}
use Rattle.template_machine.specs.Shifting.{with_more}
use Rattle.template_machine.specs.Starts.{copy_start}
use Rattle.template_machine.specs.Still.{state_of}
use Rattle.template_machine.specs.Stepwise.{Flat_does, Outcome, Working, copy_end, opens_by, stands_at}
use Rattle.template_machine.specs.declared.program.Program.{Program}
use Rattle.template_machine.specs.declared.run.Run.{Run}
use Rattle.template_machine.specs.declared.stop.Stop.{Stop}

-- Such an instruction begins, behind its unit of fuel, and comes to a verdict on its list.
pub record Opens {S A : Type 0} (output : S → Target) (told : S → S → List Said → Type 0) (p : Program) (instr : Instr-F Instr When) (verdict : Working → Outcome) (result : Result A Stop) (old new : Run) (out out_now : S) : Type 0 where
  pub said : List Said
  pub tells : told out out_now said
  pub does :
      (given : Given) → (output out).limit ≡ given.limits.elements → (w : Working) (a : Here)
      → SeesAs given p old w.self a → a.state ≡ state_of given p old (output out).left → (held failed : Working → Flat_does)
      → GoesAs result (decided (opens_by given instr w a) held failed) said
      (decided (verdict (stands_at w (with_state a (state_of given p new (output out_now).left)))) held failed)

-- A body goes on at a place, and a value waits in it as a local without a name.
pub record PutsAside (value : List Atom) (to : ℕ) (old new : Run) : Type 0 where
  pub waiting : Local
  pub nameless : waiting.name.local ≡ []
  pub is : waiting.value ≡ value
  pub behind : reverse new.frames.frames ≡ on_body (with_more waiting to) (reverse old.frames.frames)

-- an element whose name is computed, at a place
abbrev pub IsElementAt : Instr-F Instr When → Place → Type 0
IsElementAt (Instr-F.Element name namespace scope body there) at = there ≡ at
IsElementAt x at = ⊥

-- The end of a copy of the current node is put.
pub record EndsCopy {S A : Type 0} (output : S → Target) (told : S → S → List Said → Type 0) (at : Place) (result : Result A Stop) (old new : Run) (out out_now : S) : Type 0 where
  pub node : Node
  pub there : current (path old.source.stack) ≡ Some node
  pub puts : Puts output told at (copy_end node) result old.putting new.putting out out_now

abbrev pub literal_at : Name → List LiteralAttr → (body : List Instr) → Place → Instr-F Instr When
literal_at name attrs body at = Instr-F.Literal name attrs body at

-- What a copy of the current node puts before the list inside is put, and the answer is whether that is run.
pub record BeginsCopy {S : Type 0} (output : S → Target) (told : S → S → List Said → Type 0) (attributes : Option Pattern) (at : Place) (result : Result Bool Stop) (old new : Run) (out out_now : S) : Type 0 where
  pub node : Node
  pub there : current (path old.source.stack) ≡ Some node
  pub puts : Puts output told at (copy_start (in_force old.source.bindings) attributes node) result old.putting new.putting out out_now
  pub inside : IfOk result (λ inside. inside ≡ has_list node)
