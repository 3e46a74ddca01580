-- What passing a document through gives is what the sheet means.
use Rattle.std.proofs.Common.{◌≡◌, ◌≢◌, ℕ, ◌==◌, ◌||◌, Bool, true, false, not, if◌then◌else◌, List, [], ◌∷◌, ◌++◌, length, map, Option, Some, None, slice_get, arith, refl, sym, ap, subst, ◌∙◌}
use Rattle.std.proofs.lemmas.Bool.{eqb-true, false≢true}
use Rattle.std.proofs.lemmas.Option.{none-some, same_Some}
use Rattle.std.specs.Prelude.{◌↔◌}
use Rattle.stx_base.specs.Course.{Ends, Over}
use Rattle.stx_base.specs.declared.limits.Limits.{Limits}
use Rattle.stx_base.specs.declared.name.Binding.{Binding}
use Rattle.stx_base.specs.declared.part.Part.{Part}
use Rattle.stx_base.specs.declared.part.Part.TheVariants as part
use Rattle.result_writer.specs.Target.{Left, fault, is_closed, next, nothing, settles, text_from}
use Rattle.result_writer.specs.declared.fault.ResultFault.{ResultFault}
use Rattle.result_writer.specs.declared.fault.ResultFault.TheVariants.{UnclosedResult}
use Rattle.stx_base.specs.declared.fault.RunCode.TheVariants as run_code
use Rattle.xml_events.specs.Document.{doc, doc_for}
use Rattle.xml_events.specs.Tree.{Why, Need, Bad, Chars, CData, Comment, Pi, Forest, End, Cut, Single, Nested}
use Rattle.sheet_model.specs.Passing.{kinds}
use Rattle.sheet_model.specs.declared.pass.Kinds.{Kinds}
use Rattle.sheet_model.specs.declared.sheet.Group.{Group}
use Rattle.sheet_model.specs.declared.sheet.Sheet.{Sheet}
use Rattle.template_machine.specs.Ending as meant
use Rattle.template_machine.specs.Ending.{Put}
use Rattle.template_machine.specs.Job.{Given}
use Rattle.template_machine.specs.Outcome.{AreNew, outcome}
use Rattle.template_machine.specs.Meaning.{code, meaning}
use Rattle.template_machine.specs.Passed as machine
use Rattle.template_machine.specs.Passed.{Passed, PassesThrough, once_ready, passing_run, put, then_put}
use Rattle.template_machine.specs.Passing as passing
use Rattle.template_machine.specs.Passing.{group_at, parts_if}
use Rattle.template_machine.specs.Unchanged.{HasNoSections}
use Rattle.template_machine.specs.Written.{lines_of, settled_by}
use Rattle.run_engine.specs.Does.{told_as}
use Rattle.run_engine.specs.Run.{head}
use Rattle.sheet_runs.specs.Meant.{tree_of}
use Rattle.stx_engine.specs.Answer.{Answer, Asked_for, document_of, end_in, given_of, ran, ran_by, written}
use Rattle.stx_engine.specs.Plain.{has_some, pass_of, root_pass}
use Rattle.stx_engine.specs.inside.Laws.{PassesAsMeant, meant_ending}
use Rattle.stx_engine.specs.inside.Passed as mine
use Rattle.stx_engine.specs.inside.Passed.{Complete, Ending, Refused, Run, Unready, end_parts, ending_by, passed, run_from, start_parts, unless_refused, with_first}
use Rattle.stx_engine.specs.inside.Run.{output, outcome_of, result_of, run_on}
use Rattle.template_machine.specs.Trail.{scope_within}
use Rattle.stx_engine.proofs.Unrecognised.{documents_have_no_sections}

-- What nodes put, of which none is a CDATA section

passed-same : (k : Kinds) (scope : List Binding) (list : Forest) → HasNoSections list → machine.passed k scope list ≡ passed k scope list
passed-same k scope (End m offset) h = refl
passed-same k scope (Cut why) h = refl
passed-same k scope (Single m (Chars offset text) next) h = ap (put (parts_if k.text (part.Chars text ∷ []))) (passed-same k scope next h)
passed-same k scope (Single m (CData offset text) next) h = absurd h
passed-same k scope (Single m (Comment offset text) next) h = ap (put (parts_if k.comments (part.Comment text ∷ []))) (passed-same k scope next h)
passed-same k scope (Single m (Pi offset target text) next) h = ap (put (parts_if k.instructions (part.Pi target text ∷ []))) (passed-same k scope next h)
passed-same k scope (Nested stage e kids next) h =
    let within = scope_within scope e.decls in
    let all = λ (p q : Passed). once_ready stage kids (put (start_parts k within e.name e.attrs) (then_put p (put (end_parts k e.name) q))) in
    ap (λ p. all p (machine.passed k scope next)) (passed-same k within kids h.0) ∙ ap (all (passed k within kids)) (passed-same k scope next h.1)

-- What the result takes of them

module _ (given : Given) where
  abbrev run_meant : Run → machine.Run
  run_meant r = record { parts = r.parts; ending = meant_ending given r.ending }

  closed-same : (closed : Bool) → (if closed then meant.Done else meant.fault_at run_code.UnclosedResult (group_at given 0)) ≡ meant_ending given (if closed then mine.Complete else mine.Refused UnclosedResult)
  closed-same true = refl
  closed-same false = refl

  ending-same : (l : Left) (stop : Option Why) → machine.ending_by given l stop ≡ meant_ending given (ending_by l stop)
  ending-same l None = closed-same (is_closed l.elements l.held)
  ending-same l (Some why) = refl

  run-same : (l : Left) (ps : List Part) (stop : Option Why) → machine.run_from given l ps stop ≡ run_meant (run_from given.limits.elements l ps stop)
  run-same l [] stop = ap (λ e. record { parts = []; ending = e }) (ending-same l stop)
  run-same l (p ∷ ps) stop = by_fault (fault given.limits.elements l p) (run-same (next l p) ps stop) where
    by_fault : (o : Option ResultFault) → machine.run_from given (next l p) ps stop ≡ run_meant (run_from given.limits.elements (next l p) ps stop)
        → machine.unless_refused o (group_at given 0) (machine.with_first p (machine.run_from given (next l p) ps stop)) ≡ run_meant (unless_refused o (with_first p (run_from given.limits.elements (next l p) ps stop)))
    by_fault None h = ap (machine.with_first p) h
    by_fault (Some f) h = refl

-- A sheet that only passes documents through

-- what is known of it
pub record IsPlain (sheet : Sheet) (pass : Kinds) : Type 0 where
  pub strip : sheet.strip ≡ false
  pub cdata : sheet.cdata ≡ false
  pub templates : sheet.templates ≡ []
  pub variables : sheet.variables ≡ []
  pub root : root_pass sheet.groups ≡ Some pass

none-of : {A : Type 0} (items : List A) → has_some items ≡ false → items ≡ []
none-of [] e = refl
none-of (x ∷ xs) e = by_test (length (x ∷ xs) == 0) refl e where
  by_test : (t : Bool) → (length (x ∷ xs) == 0) ≡ t → not t ≡ false → x ∷ xs ≡ []
  by_test true is h = absurd (omega (arith, eqb-true (length (x ∷ xs)) 0 is))
  by_test false is h = absurd (false≢true (sym h))

by-tests : (strip cdata templates variables : Bool) (o : Option Kinds) (pass : Kinds) → (if strip || (cdata || (templates || variables)) then None else o) ≡ Some pass
    → (strip ≡ false) × (cdata ≡ false) × (templates ≡ false) × (variables ≡ false) × (o ≡ Some pass)
by-tests true cdata templates variables o pass e = absurd (none-some pass e)
by-tests false true templates variables o pass e = absurd (none-some pass e)
by-tests false false true variables o pass e = absurd (none-some pass e)
by-tests false false false true o pass e = absurd (none-some pass e)
by-tests false false false false o pass e = (refl, refl, refl, refl, e)

pub is-plain : (sheet : Sheet) (pass : Kinds) → pass_of sheet ≡ Some pass → IsPlain sheet pass
is-plain sheet pass e =
    let t = by-tests sheet.strip sheet.cdata (has_some sheet.templates) (has_some sheet.variables) (root_pass sheet.groups) pass e in
    record { strip = t.0; cdata = t.1; templates = none-of sheet.templates t.2; variables = none-of sheet.variables t.3; root = t.4 }

-- the root group's pass-through
root-kinds : (given : Given) (groups : List Group) (pass : Kinds) → root_pass groups ≡ Some pass → passing.pass_of given (slice_get groups 0) ≡ pass
root-kinds given [] pass e = absurd (none-some pass e)
root-kinds given (root ∷ groups) pass e = same_Some (kinds root.pass) pass e

-- its documents are taken as they are
tree-plain : (limits : Limits) (strip cdata : Bool) (bytes : List ℕ) (ended : Bool) → strip ≡ false → cdata ≡ false → doc_for limits strip cdata bytes ended ≡ doc limits false bytes ended
tree-plain limits strip cdata bytes ended s c = ap (λ b. doc_for limits b cdata bytes ended) s ∙ ap (λ b. doc_for limits false b bytes ended) c

pub passes-as-meant : PassesThrough → PassesAsMeant
passes-as-meant through given pass bytes ended e =
    let limits : Limits = given.limits in
    let plain = is-plain given.sheet pass e in
    let tree = doc limits false bytes ended in
    let p = passed pass [] tree in
    let run = run_on limits pass bytes ended in
    let is : passing_run given tree ≡ run_meant given run =
    ap (λ k. let q = machine.passed k [] tree in machine.run_from given nothing q.parts q.stop) (root-kinds given given.sheet.groups pass plain.root)
    ∙ ap (λ (q : machine.Passed). machine.run_from given nothing q.parts q.stop) (passed-same pass [] tree (documents_have_no_sections limits false bytes ended))
    ∙ run-same given nothing p.parts p.stop in
    subst (λ t. Ends (code given) (meaning given t) (map Put run.parts) (meant_ending given run.ending)) (sym (tree-plain limits given.sheet.strip given.sheet.cdata bytes ended plain.strip plain.cdata))
    (subst (λ (r : machine.Run). Ends (code given) (meaning given tree) (map Put r.parts) r.ending) is (through given plain.templates plain.variables tree))

-- What is written of it

pub settled-same : (l : Left) (ps : List Part) → settled_by l (map Put ps) ≡ text_from l ps
settled-same l [] = refl
settled-same l (p ∷ ps) = ap (λ t. settles l p ++ t) (settled-same (next l p) ps)

pub lines-none : (ps : List Part) → lines_of (map Put ps) ≡ []
lines-none [] = refl
lines-none (p ∷ ps) = lines-none ps

pub written-same : (ps : List Part) → written (map Put ps) ≡ output ps
written-same ps = ap (λ t. head ++ t) (settled-same nothing ps)

-- How it ends: no part is refused

pub told-same : (given : Given) (name : List ℕ) (files : List (List ℕ)) (e : Ending) → ((fault : ResultFault) → e ≢ Refused fault) → told_as files (meant_ending given e) ≡ outcome_of name e
told-same given name files Complete taken = refl
told-same given name files (Unready Need) taken = refl
told-same given name files (Unready (Bad fault)) taken = refl
told-same given name files (Refused fault) taken = absurd (taken fault refl)

-- What is answered

-- each sheet has one meaning on each tree, and that is what `outcome` gives
abbrev pub HaveMeaning : Type 0
HaveMeaning = (given : Given) → AreNew given → (tree : Forest) → (os : List meant.Said) × (e : meant.Ending) × Ends (code given) (meaning given tree) os e

abbrev pub MeaningIsOutcome : Type 0
MeaningIsOutcome = (given : Given) → AreNew given → (tree : Forest) (os : List meant.Said) (e : meant.Ending) → Ends (code given) (meaning given tree) os e ↔ (outcome given tree ≡ Over os e)

-- a command gives no other documents
pub none-new : (k : Asked_for) → AreNew (given_of k)
none-new k name tree e = absurd (none-some tree e)

module _ (as_meant : PassesAsMeant) (is_outcome : MeaningIsOutcome) (k : Asked_for) (pass : Kinds) (passes : pass_of k.sheet ≡ Some pass) (opened : List (List ℕ)) (main : List ℕ) where
  abbrev bytes : List ℕ
  bytes = document_of k.command.mode main

  abbrev run : Run
  run = run_on k.command.limits pass bytes true

  abbrev end : meant.Ending
  end = meant_ending (given_of k) run.ending

  abbrev answered_so : (out messages : List ℕ) → Answer
  answered_so out messages = record { out = out; messages = messages; end = end_in k.command.mode out (told_as k.sheet.files end); opened = opened }

  -- a sheet that only passes documents through writes what is passed through
  pub ran-passed : ran k opened main ≡ answered_so (result_of run) []
  ran-passed =
      ap (ran_by (given_of k) k.command.mode opened)
      ((is_outcome (given_of k) (none-new k) (tree_of (given_of k) (record { bytes = bytes; ended = true })) (map Put run.parts) end).0 (as_meant (given_of k) pass bytes true passes))
      ∙ ap (λ out. answered_so out (lines_of (map Put run.parts))) (written-same run.parts)
      ∙ ap (λ messages. answered_so (result_of run) messages) (lines-none run.parts)
