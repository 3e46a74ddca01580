-- What a sheet without templates puts, node by node, as its root group passes nodes through.
use Rattle.std.specs.Prelude.{◌≡◌, List, [], ◌∷◌, ◌++◌, map, Option, Some, None, if◌then◌else◌}
use Rattle.stx_base.specs.Course.{Ends}
use Rattle.stx_base.specs.declared.fault.Place.{Place}
use Rattle.stx_base.specs.declared.name.Binding.{Binding}
use Rattle.stx_base.specs.declared.part.Part.{Part}
use Rattle.stx_base.specs.declared.part.Part.TheVariants as part
use Rattle.result_writer.specs.Target.{Left, fault, next, nothing}
use Rattle.result_writer.specs.declared.fault.ResultFault.{ResultFault}
use Rattle.sheet_model.specs.declared.pass.Kinds.{Kinds}
use Rattle.xml_events.specs.Tree.{Why, Stage, Waiting, Ready, Entered, Element, Forest, End, Cut, Single, Nested}
use Rattle.template_machine.specs.Ending.{Ending, Put, fault_at, result_code}
use Rattle.template_machine.specs.Fuel.{unready}
use Rattle.template_machine.specs.Job.{Given, Main}
use Rattle.template_machine.specs.Meaning.{code, ending_of, meaning}
use Rattle.template_machine.specs.Passing.{group_at, kinds_in, leaf_parts, parts_if}
use Rattle.template_machine.specs.Putting.{attribute_part}
use Rattle.template_machine.specs.Trail.{leaf_node, scope_within}

-- the parts that are to be put, and why nothing follows them, if so
pub record Passed : Type 0 where
  pub parts : List Part
  pub stop : Option Why

abbrev pub stopped : Why → Passed
stopped why = record { parts = []; stop = Some why }

-- parts, and then what is put after them
abbrev pub put : List Part → Passed → Passed
put parts p = record p { parts = parts ++ p.parts }

-- p, and then q, unless p was stopped
abbrev pub unless_stopped : Option Why → (p q : Passed) → Passed
unless_stopped None p q = put p.parts q
unless_stopped (Some why) p q = p

abbrev pub then_put : (p q : Passed) → Passed
then_put p q = unless_stopped p.stop p q

-- an element whose list is a cut alone isn't begun, unless its start was told
abbrev pub once_ready : Stage → (kids : Forest) → Passed → Passed
once_ready Waiting (Cut why) p = stopped why
once_ready Waiting (End m offset) p = p
once_ready Waiting (Single m leaf next) p = p
once_ready Waiting (Nested stage e kids next) p = p
once_ready (Ready first) kids p = p
once_ready (Entered first) kids p = p

-- the start and the end of an element, where these bindings are in force within it
abbrev pub starts : Kinds → (scope : List Binding) → Element → List Part
starts k scope e = parts_if k.elements (part.Start e.name scope ∷ map attribute_part (if k.attributes then e.attrs else []))

abbrev pub ends : Kinds → Element → List Part
ends k e = parts_if k.elements (part.End e.name ∷ [])

-- what a list of nodes puts, where these bindings are in force around it
abbrev pub passed : Kinds → (scope : List Binding) → Forest → Passed
passed k scope (End m offset) = record { parts = []; stop = None }
passed k scope (Cut why) = stopped why
passed k scope (Single m leaf next) = put (leaf_parts k (leaf_node leaf)) (passed k scope next)
passed k scope (Nested stage e kids next) =
    let within = scope_within scope e.decls in
    once_ready stage kids (put (starts k within e) (then_put (passed k within kids) (put (ends k e) (passed k scope next))))

-- what a run gives: the parts that it puts, and how it ends
pub record Run : Type 0 where
  pub parts : List Part
  pub ending : Ending

abbrev pub with_first : Part → Run → Run
with_first p r = record r { parts = p ∷ r.parts }

-- a part that the output refuses stops the run at the root group
abbrev pub unless_refused : Option ResultFault → Place → Run → Run
unless_refused None at r = r
unless_refused (Some fault) at r = record { parts = []; ending = fault_at (result_code fault) at }

module _ (given : Given) where
  -- where the output has taken all parts
  abbrev pub ending_by : Left → Option Why → Ending
  ending_by l None = ending_of given l
  ending_by l (Some why) = unready Main why

  -- parts are put up to the first that the output refuses
  abbrev pub run_from : Left → List Part → Option Why → Run
  run_from l [] stop = record { parts = []; ending = ending_by l stop }
  run_from l (p ∷ ps) stop =
      unless_refused (fault given.limits.elements l p) (group_at given 0) (with_first p (run_from (next l p) ps stop))

  abbrev pub passing_run : Forest → Run
  passing_run list = let p = passed (kinds_in given 0) [] list in run_from nothing p.parts p.stop

-- A sheet without templates and variables puts what its root group passes through.
abbrev pub PassesThrough : Type 0
PassesThrough =
    (given : Given) → given.sheet.templates ≡ [] → given.sheet.variables ≡ [] → (list : Forest)
    → let r = passing_run given list in Ends (code given) (meaning given list) (map Put r.parts) r.ending
