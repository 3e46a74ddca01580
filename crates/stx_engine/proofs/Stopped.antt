-- Why a run goes no further.
use Rattle.std.proofs.Common.{◌≡◌, ℕ, Bool, true, false, List, [], ◌∷◌, Option, Some, None, refl, sym, ap, ◌∙◌}
use Rattle.std.specs.Prelude.{if◌then◌else◌}
use Rattle.std.specs.Option.{option_or}
use Rattle.stx_base.specs.declared.name.Binding.{Binding}
use Rattle.stx_base.specs.declared.part.Part.{Part}
use Rattle.result_writer.specs.Target.{Left, fault, is_closed, next, nothing}
use Rattle.result_writer.specs.declared.fault.ResultFault.{ResultFault}
use Rattle.result_writer.specs.declared.fault.ResultFault.TheVariants.{UnclosedResult}
use Rattle.xml_events.specs.Document.{doc}
use Rattle.xml_events.specs.Growing.{BeginningGoesOn, WholeNeedsNoMore}
use Rattle.xml_events.specs.Telling.{stop_in}
use Rattle.xml_events.specs.Tree.{Why, Need, Forest, End, Cut, Single, Nested, Stage, Waiting, Ready, Entered}
use Rattle.template_machine.specs.Passed.{Passed, once_ready, put, then_put, unless_stopped}
use Rattle.stx_engine.specs.inside.Ending.{RunIsOpen, RunIsOver}
use Rattle.stx_engine.specs.inside.Passed.{Complete, Refused, Unready, end_parts, passed, run_from, start_parts, unless_refused, with_first}
use Rattle.template_machine.specs.Trail.{scope_within}
use Rattle.sheet_model.specs.declared.pass.Kinds.{Kinds}

then-stop : (p q : Passed) → (then_put p q).stop ≡ option_or p.stop q.stop
then-stop p q = by_stop p.stop refl where
  by_stop : (s : Option Why) → p.stop ≡ s → (unless_stopped s p q).stop ≡ option_or s q.stop
  by_stop None e = refl
  by_stop (Some why) e = e

once-stop : (m : Stage) (kids : Forest) (p : Passed) (s : Option Why) → p.stop ≡ option_or (stop_in kids) s → (once_ready m kids p).stop ≡ option_or (stop_in kids) s
once-stop Waiting (Cut why) p s h = refl
once-stop Waiting (End m offset) p s h = h
once-stop Waiting (Single m leaf next) p s h = h
once-stop Waiting (Nested m e kids next) p s h = h
once-stop (Ready first) kids p s h = h
once-stop (Entered first) kids p s h = h

-- a list is put as far as it goes
pub passed-stop : (p : Kinds) (scope : List Binding) (f : Forest) → (passed p scope f).stop ≡ stop_in f
passed-stop p scope (End m offset) = refl
passed-stop p scope (Cut why) = refl
passed-stop p scope (Single m leaf next) = passed-stop p scope next
passed-stop p scope (Nested m e kids next) =
    let inside = scope_within scope e.decls in
    let listed = passed p inside kids in
    let behind = put (end_parts p e.name) (passed p scope next) in
    once-stop m kids (put (start_parts p inside e.name e.attrs) (then_put listed behind)) (stop_in next)
    (then-stop listed behind ∙ ap (λ s. option_or s behind.stop) (passed-stop p inside kids) ∙ ap (option_or (stop_in kids)) (passed-stop p scope next))

module _ (limit : ℕ) where
  pub unready-so : (l : Left) (ps : List Part) (stop : Option Why) (why : Why) → (run_from limit l ps stop).ending ≡ Unready why → stop ≡ Some why
  unready-so l [] None why h = by_test (is_closed l.elements l.held) h where
    by_test : (t : Bool) → (if t then Complete else Refused UnclosedResult) ≡ Unready why → None ≡ Some why
    by_test true e = absurd cc
    by_test false e = absurd cc
  unready-so l [] (Some other) why h = cc
  unready-so l (p ∷ ps) stop why h = by_fault (fault limit l p) h (unready-so (next l p) ps stop why) where
    by_fault : (o : Option ResultFault) → (unless_refused o (with_first p (run_from limit (next l p) ps stop))).ending ≡ Unready why → ((run_from limit (next l p) ps stop).ending ≡ Unready why → stop ≡ Some why) → stop ≡ Some why
    by_fault None e k = k e
    by_fault (Some f) e k = absurd cc

  -- a run that is done has put all parts
  pub complete-so : (l : Left) (ps : List Part) (stop : Option Why) → (run_from limit l ps stop).ending ≡ Complete → (stop ≡ None) × ((run_from limit l ps stop).parts ≡ ps)
  complete-so l [] None h = (refl, refl)
  complete-so l [] (Some why) h = absurd cc
  complete-so l (p ∷ ps) stop h = by_fault (fault limit l p) h (complete-so (next l p) ps stop) where
    by_fault : (o : Option ResultFault) → (unless_refused o (with_first p (run_from limit (next l p) ps stop))).ending ≡ Complete
        → ((run_from limit (next l p) ps stop).ending ≡ Complete → (stop ≡ None) × ((run_from limit (next l p) ps stop).parts ≡ ps))
        → (stop ≡ None) × ((unless_refused o (with_first p (run_from limit (next l p) ps stop))).parts ≡ p ∷ ps)
    by_fault None e k = let both = k e in (both.0, ap (λ l. p ∷ l) both.1)
    by_fault (Some f) e k = absurd cc

pub whole-is-over : WholeNeedsNoMore → RunIsOver
whole-is-over whole limits p bytes h =
    let tree = doc limits false bytes true in
    let q = passed p [] tree in
    whole limits false false bytes
    (sym (passed-stop p [] tree) ∙ unready-so limits.elements nothing q.parts q.stop Need h)

pub beginning-is-open : BeginningGoesOn → RunIsOpen
beginning-is-open beginning limits p bytes h =
    let tree = doc limits false bytes false in
    let q = passed p [] tree in
    beginning limits false false bytes
    (sym (passed-stop p [] tree) ∙ (complete-so limits.elements nothing q.parts q.stop h).0)
