-- Fuel, and how nodes and ends of lists are begun.
use Rattle.std.specs.Prelude.{zero, suc, Bool, true, false, if◌then◌else◌, None}
use Rattle.stx_base.specs.Course.{Halt}
use Rattle.stx_base.specs.declared.fault.Place.{Place}
use Rattle.xml_events.specs.Tree.{Why, Need, Bad, Mark, Fresh, Told, Begun, Stage, Waiting, Ready, Entered, Forest, End, Cut, Single, Nested}
use Rattle.template_machine.specs.Ending.{Ending, Spent, Malformed, Needs}
use Rattle.template_machine.specs.Job.{Given, State, Source, Main, Opened, Does}

-- a unit is spent at a place, and then go; without one left the run ends there
abbrev pub spend : Place → State → (State → Does) → Does
spend at st go = elim st.fuel [ zero ↦ Halt (Spent at) | suc n ↦ go (record st { fuel = n }) ]

abbrev pub is_begun : Mark → Bool
is_begun Fresh = false
is_begun Told = false
is_begun Begun = true

abbrev pub is_entered : Stage → Bool
is_entered Waiting = false
is_entered (Ready first) = false
is_entered (Entered first) = true

-- why nothing more is known of a list of the source
abbrev pub unready : Source → Why → Ending
unready source Need = Needs
unready Main (Bad fault) = Malformed None fault
unready (Opened document at number) (Bad fault) = Malformed document fault

-- an element whose start wasn't told is ready unless its list is a cut alone
abbrev pub when_ready : Source → Stage → (kids : Forest) → Does → Does
when_ready source (Ready first) kids go = go
when_ready source (Entered first) kids go = go
when_ready source Waiting (Cut why) go = Halt (unready source why)
when_ready source Waiting (End m offset) go = go
when_ready source Waiting (Single m leaf next) go = go
when_ready source Waiting (Nested stage element kids next) go = go

module _ (given : Given) where
  abbrev pub refuelled : State → State
  refuelled st = record st { fuel = given.limits.fuel }

  -- a node is begun: the fuel is made full again by one of the main document, and each other one costs a unit
  abbrev pub begin_now : Source → State → (State → Does) → Does
  begin_now Main st go = go (refuelled st)
  begin_now (Opened document at number) st go = spend at st go

  -- a node that is found ready is begun, unless it was before
  abbrev pub begin : Source → (before : Bool) → State → (State → Does) → Does
  begin source before st go = if before then go st else begin_now source st go

  abbrev pub end_now : Source → State → State
  end_now Main st = refuelled st
  end_now (Opened document at number) st = st

  -- the end of a list is found once: in the main document the fuel is made full again
  abbrev pub ended : Source → Mark → State → State
  ended source m st = if is_begun m then st else end_now source st

  -- passes over a list: each node in it is begun, and each list in it is found ended
  abbrev pub skip : Source → Forest → State → (State → Does) → Does
  skip source (End m offset) st go = go (ended source m st)
  skip source (Cut why) st go = Halt (unready source why)
  skip source (Single m leaf next) st go = begin source (is_begun m) st (λ st. skip source next st go)
  skip source (Nested stage element kids next) st go =
      when_ready source stage kids (begin source (is_entered stage) st (λ st. skip source kids st (λ st. skip source next st go)))
