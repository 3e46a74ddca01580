-- What a machine answers to an event.
use Rattle.std.proofs.Common.{◌≡◌, ◌≤◌, ℕ, zero, suc, length, map, arith, Bool, true, false, List, [], ◌∷◌, ◌++◌, reverse, None, Result, Ok, Err, refl, ap, sym, subst, ◌∙◌}
use Rattle.std.proofs.lemmas.List.{length-map}
use Rattle.stx_base.specs.Course.{Halt, Same}
use Rattle.stx_base.proofs.Course.{same_equal, same_then}
use Rattle.frame_stack.specs.declared.frame.Frame.{Frame}
use Rattle.node_stack.specs.Stack.{path}
use Rattle.result_writer.specs.Target.{Left, Target}
use Rattle.xml_events.specs.Telling.{followed}
use Rattle.xml_events.specs.Tree.{Future}
use Rattle.xml_events.specs.declared.event.Event.{Event}
use Rattle.template_machine.specs.Bodies.{takes_events}
use Rattle.template_machine.specs.Between.{lists_in}
use Rattle.template_machine.specs.Documents.{open_before, open_in}
use Rattle.template_machine.specs.Ending.{Said}
use Rattle.template_machine.specs.Giving.{BeginsDocument, HasOrdinarySheet, OpensOne, RunsInOrder, TakesEvent, Turned, document_of, whole}
use Rattle.template_machine.specs.Heard.{Hears}
use Rattle.template_machine.specs.Job.{Given}
use Rattle.template_machine.specs.Onward.{GoesOnTo, StartsWith}
use Rattle.template_machine.specs.Ordinary.{IsAlone}
use Rattle.template_machine.specs.Saying.{Proceeds}
use Rattle.template_machine.specs.Sinks.{behind_all}
use Rattle.template_machine.specs.Still as still
use Rattle.template_machine.specs.Stepwise.{Flat_does, flat_code}
use Rattle.template_machine.specs.Stops.{turn_of}
use Rattle.template_machine.specs.declared.machine.Machine.{Machine}
use Rattle.template_machine.specs.declared.program.Program.{Program}
use Rattle.template_machine.specs.declared.run.Doing.{Doing}
use Rattle.template_machine.specs.declared.run.Doing.TheVariants as doing
use Rattle.template_machine.specs.declared.run.Run.{Run}
use Rattle.template_machine.specs.declared.run.Step.{Step}
use Rattle.template_machine.specs.declared.source.Ahead.{Ahead}
use Rattle.template_machine.specs.declared.source.Origin.{Origin}
use Rattle.template_machine.specs.declared.source.Origin.TheVariants as origin
use Rattle.template_machine.specs.declared.source.Source.{Source}
use Rattle.template_machine.specs.declared.stop.Stop.{Stop}
use Rattle.template_machine.specs.declared.stop.Stop.TheVariants as stop
use Rattle.template_machine.specs.declared.turn.Turn.{Turn}
use Rattle.template_machine.specs.declared.turn.Turn.TheVariants as turn
use Rattle.template_machine.proofs.Onward.{limit_is, stops_turned, turned_behind}
use Rattle.template_machine.proofs.Turning.{stop_more}

-- How many lists have begun isn't seen.

module _ (given : Given) (p : Program) (r : Run) (count : ℕ) (left : Left) (f : Future) where
  abbrev counted : Run
  counted = record r { source = record r.source { begun = count } }

  list_counted : (b : Bool) (h : Ahead) (fs : List Frame) → still.list_goes given p b h fs r left f ≡ still.list_goes given p b h fs counted left f
  list_counted true h fs = refl
  list_counted false h fs = refl

  count_unseen : (d : Doing) (h : Ahead) (fs : List Frame) → still.doing_now given p d h fs r left f ≡ still.doing_now given p d h fs counted left f
  count_unseen doing.Body h fs = refl
  count_unseen doing.List h fs = list_counted (takes_events fs) h fs

  still_counted : still.still given p r left f ≡ still.still given p counted left f
  still_counted = count_unseen r.doing r.source.ahead (reverse r.frames.frames)

pub still_alike : (given : Given) (p : Program) (r : Run) (src : Source) (count : ℕ) (left : Left) (f : Future) → src ≡ record r.source { begun = count }
    → still.still given p r left f ≡ still.still given p (record r { source = src }) left f
still_alike given p r src count left f same =
    still_counted given p r count left f ∙ ap (λ s. still.still given p (record r { source = s }) left f) (sym same)

pub alone_counted : (p : Program) (r : Run) (src : Source) (count : ℕ) → src ≡ record r.source { begun = count } → IsAlone p r → IsAlone p (record r { source = src })
alone_counted p r src count same alone =
    subst (λ s. IsAlone p (record r { source = s })) (sym same)
    (record { origin = alone.origin; outer = alone.outer; aside = alone.aside; held = alone.held; counted = alone.counted; whole = alone.whole; untouched = alone.untouched; fuel = alone.fuel })

stops_any : (given : Given) (p : Program) (s : Stop) (x y : Flat_does) → Proceeds given p {A = Unit {0}} (Err s) x [] y → Proceeds given p {A = Step} (Err s) x [] y
stops_any given p (stop.Fault fault) x y h = h
stops_any given p (stop.Spent at) x y h = h
stops_any given p stop.Memory x y h = h

module _ {S : Type 0} (output : S → Target) (told : S → S → List Said → Type 0) (m : Machine) (e : Event) (src : Source) (count : ℕ) (same : src ≡ record m.run.source { begun = count }) where
  abbrev begins : Run
  begins = record m.run { source = src }

  -- an event is taken, and then the run goes on
  pub takes_on : (t : Turn) (mid new : Run) (out now : S) → RunsInOrder m → Hears {A = Unit {0}} m.program (followed e) (Ok tt) begins mid → GoesOnTo output told m.program t mid new out now
      → TakesEvent output told e t m (record m { run = new }) out now
  takes_on t mid new out now order hears goes = record {
    said = goes.said;
    tells = goes.tells;
    order = λ more. record { sheet = order.sheet; alone = goes.alone more };
    goes = λ given docs program params limit f.
        turned_behind given m.program t (still.still given m.program m.run (output out).left (followed e f)) (still.still given m.program mid (output out).left f) [] goes.said (still.still given m.program new (output now).left f)
        (same_then (same_equal (flat_code given) (still_alike given m.program m.run src count (output out).left (followed e f) same)) (hears.does given program (output out).left f))
        (goes.does given docs program params limit f);
  }

  -- or it stops there
  pub takes_not : (t : Turn) (s : Stop) (new : Run) (out : S) → t ≡ turn_of s → told out out [] → Hears {A = Unit {0}} m.program (followed e) (Err s) begins new
      → TakesEvent output told e t m (record m { run = new }) out out
  takes_not t s new out is tells hears = record {
    said = [];
    tells = tells;
    order = λ more. absurd (stop_more s (sym is ∙ more));
    goes = λ given docs program params limit f.
        subst (λ u. Turned given u (still.still given m.program m.run (output out).left (followed e f)) [] (still.still given m.program new (output out).left f)) (sym is)
        (subst (λ x. Turned given (turn_of s) x [] (still.still given m.program new (output out).left f)) (sym (still_alike given m.program m.run src count (output out).left (followed e f) same))
        (stops_turned given m.program s (still.still given m.program begins (output out).left (followed e f)) [] (still.still given m.program new (output out).left f) (still.still given m.program new (output out).left f)
        (stops_any given m.program s (still.still given m.program begins (output out).left (followed e f)) (still.still given m.program new (output out).left f) (hears.does given program (output out).left f))));
  }

-- One document is open at most.

one_before : (o : Origin) (limit begun : ℕ) → length (open_before o limit begun []) ≤ 1
one_before (origin.Buffer id at) limit n = omega arith
one_before origin.Main limit zero = omega arith
one_before origin.Main limit (suc n) = omega arith
one_before (origin.Document at) limit zero = omega arith
one_before (origin.Document at) limit (suc n) = omega arith

pub opens_one : OpensOne
opens_one m order =
    let r = m.run in
    let others : open_in (reverse r.outer.items) ≡ [] = ap (λ (l : List Source). open_in (reverse l)) order.alone.outer in
    subst (λ l. length (map lists_in (open_before r.source.origin (path r.source.stack).limit r.source.begun l)) ≤ 1) (sym others)
    (subst (λ n. n ≤ 1) (sym (length-map (open_before r.source.origin (path r.source.stack).limit r.source.begun []) lists_in))
    (one_before r.source.origin (path r.source.stack).limit r.source.begun))

-- A machine begins.

module _ {S : Type 0} (output : S → Target) (told : S → S → List Said → Type 0)
    (further : (a b c : S) (first second : List Said) → told a b first → told b c second → told a c (first ++ second))
    (leaves : (a b : S) (said : List Said) → told a b said → output b ≡ behind_all (output a) said) (m : Machine) where
  pub starts_on : (p : Program) (x : Step) (t : Turn) (r new : Run) (out mid now : S) → p ≡ m.program → HasOrdinarySheet m → StartsWith output told m (Ok x) r out mid
      → GoesOnTo output told p t r new mid now → BeginsDocument output told t m (record { program = p; run = new }) out now
  starts_on p x t r new out mid now same ordinary starts goes_by =
      let goes : GoesOnTo output told m.program t r new mid now = subst (λ q. GoesOnTo output told q t r new mid now) same goes_by in
      subst (λ q. BeginsDocument output told t m (record { program = q; run = new }) out now) (sym same)
      (record {
        said = starts.said ++ goes.said;
        tells = further out mid now starts.said goes.said starts.tells goes.tells;
        order = λ more. record { sheet = ordinary; alone = goes.alone more };
        goes = λ given docs program params limit bare tree.
            turned_behind given m.program t (whole given tree) (still.still given m.program r (output mid).left (document_of tree)) starts.said goes.said (still.still given m.program new (output now).left (document_of tree))
            (starts.does given docs program params limit bare tree)
            (goes.does given docs program params (limit_is output told leaves given out mid starts.said starts.tells limit) (document_of tree));
      })

  pub starts_not : (p : Program) (s : Stop) (t : Turn) (new : Run) (out now : S) → p ≡ m.program → t ≡ turn_of s → StartsWith output told m (Err s) new out now
      → BeginsDocument output told t m (record { program = p; run = new }) out now
  starts_not p s t new out now same is starts = record {
    said = starts.said;
    tells = starts.tells;
    order = λ more. absurd (stop_more s (sym is ∙ more));
    goes = λ given docs program params limit bare tree.
        subst (λ u. Turned given u (whole given tree) starts.said (still.still given p new (output now).left (document_of tree))) (sym is)
        (stops_turned given m.program s (whole given tree) starts.said (still.still given m.program new (output now).left (document_of tree)) (still.still given p new (output now).left (document_of tree))
        (starts.does given docs program params limit bare tree));
  }
