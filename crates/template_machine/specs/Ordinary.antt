-- Sheets whose nodes come from the main document alone, each list in order, and all of whose parts go to the output.
use Rattle.std.specs.Prelude.{◌≡◌, ◌≤◌, ℕ, Bool, false, true, if◌then◌else◌, List, [], ◌∷◌, All, Option, Some, None, reverse, IfOk, Result}
use Rattle.frame_stack.specs.declared.frame.Frame.{Frame}
use Rattle.frame_stack.specs.declared.frame.Frame.TheVariants.{Attributes}
use Rattle.instr_code.specs.declared.code.Code.{Code}
use Rattle.node_stack.specs.Counts.{raised}
use Rattle.node_stack.specs.Path.{PathNode, can_have_children, is_attribute, kind_of}
use Rattle.node_stack.specs.Test.{passes}
use Rattle.stx_base.specs.declared.node.NodeTest.{NodeTest}
use Rattle.sheet_model.specs.declared.instr.Instr.{Instr}
use Rattle.sheet_model.specs.declared.instr.Instr.TheOpen.{Instr-F}
use Rattle.sheet_model.specs.declared.instr.Instr.TheViews.{out-Instr}
use Rattle.sheet_model.specs.declared.instr.When.{When}
use Rattle.template_machine.specs.Bodies.{skipped_in, spent_in}
use Rattle.template_machine.specs.Sources.{held_node}
use Rattle.template_machine.specs.Still.{nodes_of}
use Rattle.template_machine.specs.declared.program.Program.{Program}
use Rattle.template_machine.specs.declared.run.Run.{Run}
use Rattle.template_machine.specs.declared.run.Step.{Step}
use Rattle.template_machine.specs.declared.run.Step.TheVariants as step
use Rattle.template_machine.specs.declared.source.Ahead.TheVariants as ahead
use Rattle.template_machine.specs.declared.source.Origin.TheVariants as origin
use Rattle.template_machine.specs.declared.stop.Stop.{Stop}

-- an instruction that asks for no other nodes, and puts no parts elsewhere
abbrev pub StaysInOrder : Instr-F Instr When → Type 0
StaysInOrder (Instr-F.ProcessSiblings going until group params at) = ⊥
StaysInOrder (Instr-F.ProcessBuffer name group params at) = ⊥
StaysInOrder (Instr-F.ProcessDocument href group params at) = ⊥
StaysInOrder (Instr-F.ResultBuffer name clear body at) = ⊥
StaysInOrder x = Unit {0}

abbrev pub InOrder : Instr → Type 0
InOrder i = StaysInOrder (out-Instr i)

-- all instructions are such ones
abbrev pub IsOrdinary : Code → Type 0
IsOrdinary code = All InOrder code.instrs

-- a head that is the current node is counted in its list, and none of its children is counted yet
abbrev pub HeadIsCounted : List PathNode → Type 0
HeadIsCounted [] = ⊥
HeadIsCounted (n ∷ []) = ⊥
HeadIsCounted (n ∷ x ∷ xs) =
    ((t : NodeTest) → passes t (kind_of n.node) ≡ true → x.children.passing t ≡ raised (n.earlier t)) × (n.children.passing ≡ (λ t. 0))

-- whether the children are gone of the innermost node that can have some, by the body of that node: the attributes of an element are taken
-- over its body
abbrev pub spent_of : (attribute : Bool) → List Frame → Option Bool
spent_of a [] = None
spent_of a (Attributes next asked ∷ fs) = spent_in fs
spent_of true (f ∷ fs) = spent_of true fs
spent_of false (f ∷ fs) = spent_in (f ∷ fs)

abbrev pub is_on_attribute : List PathNode → Bool
is_on_attribute [] = false
is_on_attribute (x ∷ xs) = is_attribute (Some x.node)

-- the nodes without an attribute
abbrev pub around_attribute : List PathNode → List PathNode
around_attribute [] = []
around_attribute (x ∷ xs) = if is_attribute (Some x.node) then xs else x ∷ xs

-- no child was counted of a node whose children aren't gone
abbrev pub AreUntouched : List Frame → List PathNode → Type 0
AreUntouched fs nodes =
    spent_of (is_on_attribute nodes) fs ≡ Some false → (x : PathNode) (xs : List PathNode) → around_attribute nodes ≡ x ∷ xs
    → can_have_children (Some x.node) ≡ true → x.children.passing ≡ (λ t. 0)

-- A run in which no source is open but the main document, and no node waits beside its path.
pub record IsAlone (p : Program) (r : Run) : Type 0 where
  pub origin : r.source.origin ≡ origin.Main
  pub outer : r.outer.items ≡ []
  pub aside : r.aside.items ≡ []
  pub held : held_node r.source ≡ None
  pub counted : r.source.ahead ≡ ahead.Here → HeadIsCounted (nodes_of r.source)
  -- a list that is passed over is over where no element is open in it
  pub whole : r.source.ahead ≡ ahead.Ended → (depth : ℕ) → skipped_in (reverse r.frames.frames) ≡ Some depth → depth ≡ 0
  pub untouched : AreUntouched (reverse r.frames.frames) (nodes_of r.source)
  pub fuel : r.fuel ≤ p.limits.fuel

-- A body goes on elsewhere: nothing is other behind that but variables, what was put, and the units that were spent.
pub record StaysThere (old new : Run) : Type 0 where
  pub rest : new ≡ record old { frames = new.frames; store = new.store; putting = new.putting; fuel = new.fuel }
  pub unskipped : skipped_in (reverse new.frames.frames) ≡ None
  pub spent : (attribute : Bool) → spent_of attribute (reverse new.frames.frames) ≡ spent_of attribute (reverse old.frames.frames)

-- Such an operation, behind which there is more to do.
abbrev pub StaysBehind : Result Step Stop → (old new : Run) → Type 0
StaysBehind result old new = IfOk result (λ t. (t ≡ step.More) × StaysThere old new)
