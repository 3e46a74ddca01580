-- What a machine gives on what is still to come of the main document.
use Rattle.std.specs.Prelude.{◌≡◌, ◌≤◌, List, [], ◌∷◌, length}
use Rattle.result_writer.specs.Target.{Left, Target, nothing}
use Rattle.stx_base.specs.Course.{Halt, Ret, Same, says}
use Rattle.var_store.specs.declared.bound.Bound.{Bound}
use Rattle.xml_events.specs.Document.{inner}
use Rattle.xml_events.specs.Telling.{followed}
use Rattle.xml_events.specs.Tree.{Begun, Cut, End, Forest, Future, Nested, Waiting, Why}
use Rattle.xml_events.specs.declared.event.Event.{Event}
use Rattle.template_machine.specs.Between.{IsAsking, IsOf, documents_of}
use Rattle.template_machine.specs.Commands.{all_given}
use Rattle.template_machine.specs.Ending.{Done, Faulted, Said, Spent}
use Rattle.template_machine.specs.Fuel.{unready}
use Rattle.template_machine.specs.Job.{Given, Main}
use Rattle.template_machine.specs.Meaning.{at_document, meaning}
use Rattle.template_machine.specs.Ordinary.{IsAlone, IsOrdinary}
use Rattle.template_machine.specs.Outcome.{AreNew}
use Rattle.template_machine.specs.Still.{still}
use Rattle.template_machine.specs.Stepwise.{Flat_does, begun, flat_code, lifted}
use Rattle.template_machine.specs.declared.machine.Machine.{Machine}
use Rattle.template_machine.specs.declared.turn.Turn.{Turn}
use Rattle.template_machine.specs.declared.turn.Turn.TheVariants as turn

-- its sheet takes the nodes of the main document alone, each list in order
abbrev pub HasOrdinarySheet : Machine → Type 0
HasOrdinarySheet m = IsOrdinary m.program.code

-- and it has taken no others
pub record RunsInOrder (m : Machine) : Type 0 where
  pub sheet : HasOrdinarySheet m
  pub alone : IsAlone m.program m.run

-- what the command gives it for the parameters of the root group
abbrev pub params_of : Machine → List Bound
params_of m = all_given m.program

-- what it still does on what is to come, where this is left of the output
abbrev pub rest : Given → Machine → Left → Future → Flat_does
rest given m left f = still given m.program m.run left f

-- What a run of the sheet on a tree does, in which bodies run by their code.
abbrev pub whole : Given → (tree : Forest) → Flat_does
whole given tree = lifted (meaning given tree) (λ a. Ret (begun (at_document given) a))

-- The lists that are to come where nothing was told yet: that of the document node, which holds the tree, and the one in which the
-- document node stands, which holds nothing else.
abbrev pub document_of : (tree : Forest) → Future
document_of tree = tree ∷ End Begun 0 ∷ []

-- So much was said, and then it goes on as a machine answers. Of what follows behind the name of another document, or for want of memory,
-- nothing is said.
abbrev pub Turned : Given → Turn → (was : Flat_does) → List Said → (follows : Flat_does) → Type 0
Turned given turn.More was said follows = Same (flat_code given) was (says said follows)
Turned given turn.Ended was said follows = Same (flat_code given) was (says said (Halt Done))
Turned given (turn.Stopped fault) was said follows = Same (flat_code given) was (says said (Halt (Faulted fault)))
Turned given (turn.Spent at) was said follows = Same (flat_code given) was (says said (Halt (Spent at)))
Turned given (turn.WantDocument name) was said follows = (y : Flat_does) × Same (flat_code given) was (says said y)
Turned given turn.Memory was said follows = (y : Flat_does) × Same (flat_code given) was (says said y)

-- A machine takes an event: whatever is to come, what it did on the event and then on that is what it says now, and then what it still
-- does on that.
pub record TakesEvent {S : Type 0} (output : S → Target) (told : S → S → List Said → Type 0) (e : Event) (t : Turn) (old new : Machine) (out out_now : S) : Type 0 where
  pub said : List Said
  pub tells : told out out_now said
  pub order : t ≡ turn.More → RunsInOrder new
  pub goes :
      (given : Given) → AreNew given → IsOf given.sheet given.limits old → given.params ≡ params_of old → (output out).limit ≡ given.limits.elements → (f : Future)
      → Turned given t (rest given old (output out).left (followed e f)) said (rest given new (output out_now).left f)

-- A machine begins: whatever the document is, what a run of the sheet does on it is what it says now, and then what it still does on it.
pub record BeginsDocument {S : Type 0} (output : S → Target) (told : S → S → List Said → Type 0) (t : Turn) (old new : Machine) (out out_now : S) : Type 0 where
  pub said : List Said
  pub tells : told out out_now said
  pub order : t ≡ turn.More → RunsInOrder new
  pub goes :
      (given : Given) → AreNew given → IsOf given.sheet given.limits old → given.params ≡ params_of old → (output out).limit ≡ given.limits.elements
      → (output out).left ≡ nothing → (tree : Forest)
      → Turned given t (whole given tree) said (rest given new (output out_now).left (document_of tree))

-- an answer asks for no document
abbrev pub AsksForNone : Turn → Type 0
AsksForNone (turn.WantDocument name) = ⊥
AsksForNone t = Unit {0}

-- a list goes no further from here, or its first node isn't ready
abbrev pub StopsAt : Why → Forest → Type 0
StopsAt why (Cut w) = w ≡ why
StopsAt why (Nested Waiting e (Cut w) next) = w ≡ why
StopsAt why list = ⊥

-- A machine that waits for an event ends where no node is ready, for the cause of that.
abbrev pub EndsAtCut : Type 0
EndsAtCut =
    (given : Given) (m : Machine) → IsAsking m → (left : Left) (why : Why) (f : Future) → StopsAt why (inner f)
    → Same (flat_code given) (rest given m left f) (Halt (unready Main why))

-- A machine in order reads one document at most.
abbrev pub OpensOne : Type 0
OpensOne = (m : Machine) → RunsInOrder m → length (documents_of m) ≤ 1
