-- How open lists of the main document go on.
use Rattle.std.specs.Prelude.{◌≡◌, ℕ, List, [], ◌∷◌}
use Rattle.stx_base.specs.Course.{Same}
use Rattle.frame_stack.specs.declared.frame.Frame.{Frame}
use Rattle.frame_stack.specs.declared.frame.Frame.TheVariants.{Attributes, Loop, Region, Skip, Source}
use Rattle.node_stack.specs.Counts.{Counts}
use Rattle.node_stack.specs.Path.{PathNode}
use Rattle.xml_events.specs.Tree.{Future}
use Rattle.template_machine.specs.Job.{Asked, Given, Here, Main}
use Rattle.template_machine.specs.Meaning.{nodes}
use Rattle.template_machine.specs.Still as still
use Rattle.template_machine.specs.Still.{Lists, Mode, Scene}
use Rattle.template_machine.specs.Stepwise.{flat_code}
use Rattle.template_machine.specs.declared.program.Program.{Program}

-- frames of which the innermost list is of nodes that are taken, below the loops of a body
abbrev pub TakesList : List Frame → Type 0
TakesList [] = ⊥
TakesList (Loop turn ∷ fs) = TakesList fs
TakesList (Attributes next asked ∷ fs) = ⊥
TakesList (Skip depth ∷ fs) = ⊥
TakesList (f ∷ fs) = Unit {0}

-- no source is open but one, and no region
abbrev pub AreInOrder : List Frame → Type 0
AreInOrder [] = Unit {0}
AreInOrder (Region asked level ∷ fs) = ⊥
AreInOrder (Source buffer next asked ∷ fs) = ⊥
AreInOrder (f ∷ fs) = AreInOrder fs

-- nodes that are to come are taken alike from here and from there, whoever asks for them in the main document
abbrev pub TakenAlike : Given → Here → Here → Type 0
TakenAlike given a b =
    (asked : Asked) → asked.level.source ≡ Main → nodes given a.left.earlier a.left.coming asked a.state ≡ nodes given b.left.earlier b.left.coming asked b.state

-- So a list goes on alike.
abbrev pub ListsGoOnAlike : Type 0
ListsGoOnAlike =
    (given : Given) (p : Program) (turns : List ℕ) (fs : List Frame) (c : Scene) (f : Future) (a b : Here) → TakesList fs → c.source ≡ Main → TakenAlike given a b
    → Same (flat_code given) (still.rest given p Lists turns fs c f a) (still.rest given p Lists turns fs c f b)

-- What is counted of the list within the current node isn't seen by what goes on.
abbrev pub CountsAreUnseen : Type 0
CountsAreUnseen =
    (given : Given) (p : Program) (mode : Mode) (turns : List ℕ) (fs : List Frame) (counts : Counts) (x : PathNode) (xs : List PathNode) (c : Scene) (f : Future) → AreInOrder fs
    → still.rest given p mode turns fs (record c { nodes = record x { children = counts } ∷ xs }) f ≡ still.rest given p mode turns fs (record c { nodes = x ∷ xs }) f
