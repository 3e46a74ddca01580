-- What passing a document through puts, node by node.
use Rattle.std.specs.Prelude.{ℕ, if◌then◌else◌, List, [], ◌∷◌, map, Option, Some, None}
use Rattle.stx_base.specs.declared.name.Attr.{Attr}
use Rattle.stx_base.specs.declared.name.Binding.{Binding}
use Rattle.stx_base.specs.declared.name.Name.{Name}
use Rattle.stx_base.specs.declared.part.Part.{Part}
use Rattle.stx_base.specs.declared.part.Part.TheVariants as part
use Rattle.result_writer.specs.Target.{Left, fault, is_closed, next}
use Rattle.result_writer.specs.declared.fault.ResultFault.{ResultFault}
use Rattle.result_writer.specs.declared.fault.ResultFault.TheVariants.{UnclosedResult}
use Rattle.xml_events.specs.Tree.{Why, Leaf, Chars, CData, Comment, Pi, Forest, End, Cut, Single, Nested}
use Rattle.sheet_model.specs.declared.pass.Kinds.{Kinds}
use Rattle.template_machine.specs.Passed.{Passed, once_ready, put, stopped, then_put}
use Rattle.template_machine.specs.Passing.{parts_if}
use Rattle.template_machine.specs.Putting.{attribute_part}
use Rattle.template_machine.specs.Trail.{scope_within}

-- how a run ends: it is done, it comes to a node that isn't ready, or the result refuses a part
pub data Ending : Type 0 where
  Complete : Ending
  Unready : Why → Ending
  Refused : ResultFault → Ending

abbrev pub copied_attrs : Kinds → List Attr → List Attr
copied_attrs pass attrs = if pass.attributes then attrs else []

-- the parts of an element's start, where these bindings are in force within it, and of its end
abbrev pub start_parts : Kinds → (scope : List Binding) → Name → List Attr → List Part
start_parts pass scope name attrs = parts_if pass.elements (part.Start name scope ∷ map attribute_part (copied_attrs pass attrs))

abbrev pub end_parts : Kinds → Name → List Part
end_parts pass name = parts_if pass.elements (part.End name ∷ [])

-- The part of another node. CDATA sections aren't recognised, so that none is a node; it would be text.
abbrev pub leaf_parts : Kinds → Leaf → List Part
leaf_parts pass (Chars offset text) = parts_if pass.text (part.Chars text ∷ [])
leaf_parts pass (CData offset text) = parts_if pass.text (part.Chars text ∷ [])
leaf_parts pass (Comment offset text) = parts_if pass.comments (part.Comment text ∷ [])
leaf_parts pass (Pi offset target text) = parts_if pass.instructions (part.Pi target text ∷ [])

-- a run is done only where no element of the result is open
abbrev pub ending_of : Left → Ending
ending_of l = if is_closed l.elements l.held then Complete else Refused UnclosedResult

-- what a list of nodes puts, where these bindings are in force around it
abbrev pub passed : Kinds → (scope : List Binding) → Forest → Passed
passed pass scope (End m offset) = record { parts = []; stop = None }
passed pass scope (Cut why) = stopped why
passed pass scope (Single m leaf next) = put (leaf_parts pass leaf) (passed pass scope next)
passed pass scope (Nested m e kids next) =
    let within = scope_within scope e.decls in
    once_ready m kids
    (put (start_parts pass within e.name e.attrs) (then_put (passed pass within kids) (put (end_parts pass e.name) (passed pass scope next))))

-- what a run gives: the parts that it puts, and how it ends
pub record Run : Type 0 where
  pub parts : List Part
  pub ending : Ending

abbrev pub with_first : Part → Run → Run
with_first p r = record r { parts = p ∷ r.parts }

abbrev pub unless_refused : Option ResultFault → Run → Run
unless_refused None r = r
unless_refused (Some fault) r = record { parts = []; ending = Refused fault }

-- where the result has taken all parts
abbrev pub ending_by : Left → Option Why → Ending
ending_by l None = ending_of l
ending_by l (Some why) = Unready why

-- parts that come to a result one after another are put up to the first that it refuses
abbrev pub run_from : (limit : ℕ) → Left → List Part → Option Why → Run
run_from limit l [] stop = record { parts = []; ending = ending_by l stop }
run_from limit l (p ∷ ps) stop = unless_refused (fault limit l p) (with_first p (run_from limit (next l p) ps stop))
