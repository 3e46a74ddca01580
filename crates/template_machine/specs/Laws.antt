-- What is so of all runs.
use Rattle.std.specs.Prelude.{◌≡◌, ◌≢◌, ◌↔◌, ◌⊎◌, ◌≤◌, ℕ, ◌+◌, true, List, [], ◌∷◌, ◌++◌, Some, count_by, length, map, slice_get}
use Rattle.stx_base.specs.Course.{Ask, Ends, Gives, Halt, Ret, Same}
use Rattle.stx_base.specs.declared.name.Name.{Name}
use Rattle.stx_base.specs.declared.node.NodeTest.{NodeTest}
use Rattle.node_stack.specs.Counts.{capped}
use Rattle.node_stack.specs.Path.{Node, kind_of, position}
use Rattle.node_stack.specs.Test.{passes}
use Rattle.instr_code.specs.Code.{code_of, sheet_bodies}
use Rattle.instr_code.specs.Running.{At}
use Rattle.instr_code.specs.Running as running
use Rattle.sheet_model.specs.declared.instr.Instr.{Instr}
use Rattle.var_store.specs.declared.bound.Bound.{Bound}
use Rattle.xml_events.specs.Tree.{Forest}
use Rattle.template_machine.specs.Between.{IsAsking, documents_of}
use Rattle.template_machine.specs.Ending.{Ending, Said}
use Rattle.template_machine.specs.Acting.{cut_to}
use Rattle.template_machine.specs.Fuel.{skip}
use Rattle.template_machine.specs.Job.{Body, Does, Given, Here, Self, Source, State}
use Rattle.template_machine.specs.Meaning.{at_document, code, list}
use Rattle.template_machine.specs.Outcome.{AreNew}
use Rattle.template_machine.specs.Stepwise.{Flat_does, begun, flat_code, lifted}
use Rattle.template_machine.specs.Trail.{Trail, one_more, path_of, stands}
use Rattle.template_machine.specs.declared.machine.Machine.{Machine}

-- Passing over nodes says nothing, and changes nothing but the fuel: either the run ends there, or it goes on.
abbrev pub SkipsSilently : Type 0
SkipsSilently =
    (given : Given) (source : Source) (list : Forest) (st : State)
    → ((e : Ending) × ((go : State → Does) → skip given source list st go ≡ Halt e))
    ⊎ ((fuel : ℕ) × ((go : State → Does) → skip given source list st go ≡ go (record st { fuel = fuel })))

abbrev pub names : List Bound → List Name
names bounds = map (λ (b : Bound). b.name) bounds

-- A list of instructions leaves the locals that were there, in order, with values that may be others: what is declared in it, and by all
-- that it calls, is gone at its end.
abbrev pub KeepsLocals : Type 0
KeepsLocals =
    (given : Given) (is : List Instr) (self : Self) (a b : Here) (os : List Said)
    → Gives (code given) (list given is self a) os b
    → names b.locals ≡ names a.locals

-- A machine that waits for an event has an open document.
abbrev pub AskingIsOpen : Type 0
AskingIsOpen = (m : Machine) → IsAsking m → documents_of m ≢ []

-- what is counted behind nodes of a list, the first one first
abbrev pub behind : List Node → (earlier : NodeTest → ℕ) → NodeTest → ℕ
behind [] earlier = earlier
behind (n ∷ ns) earlier = behind ns (one_more n earlier)

-- A position, for a test that a node on a way passes, is one plus how many of the earlier nodes of its list pass, as far as positions tell.
abbrev pub PositionsCountEarlier : Type 0
PositionsCountEarlier =
    (ns : List Node) (n : Node) (within nearer : Trail) (t : NodeTest) → passes t (kind_of n) ≡ true
    → position (path_of (nearer ++ stands n (behind ns (λ t. 0)) within)) (length within) t
    ≡ capped (count_by (λ x. passes t (kind_of x)) ns) + 1

-- A run comes to the same where some of its bodies may run by their code.
abbrev pub GoesOnByCode : Type 0
GoesOnByCode =
    (given : Given) (x : Does) (os : List Said) (e : Ending)
    → Ends (code given) x os e ↔ Ends (flat_code given) (lifted x (λ a. Ret (begun (at_document given) a))) os e

-- A body of the sheet that runs by its instructions comes to the same as one that runs by its code: they say the same, and leave the same
-- state and nodes, whatever follows.
abbrev pub BodiesRunByCode : Type 0
BodiesRunByCode =
    (given : Given) → AreNew given
    → (b place : ℕ) (body : List Instr) (self : Self) (a : Here) (go : Here → Flat_does)
    → slice_get (sheet_bodies given.sheet) b ≡ Some body → slice_get (code_of given.sheet).starts b ≡ Some place → a.state.fuel ≤ given.limits.fuel
    → Same (flat_code given) (Ask (running.Given (Body body self a)) (λ w. go w.here)) (Ask (At place (begun self a)) (λ w. go (cut_to a.locals w.here)))
