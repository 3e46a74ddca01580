-- What sheets that only pass documents through mean on a document's first bytes, and on all.
use Rattle.std.proofs.Common.{◌≡◌, ℕ, Bool, true, false, if◌then◌else◌, List, ◌++◌, map, Option, Some, None, IsSome, IfSome, Result, Ok, Err, refl, sym, ap, subst, ◌∙◌}
use Rattle.std.specs.Option.{option_and_then}
use Rattle.std.proofs.lemmas.Bool.{false≢true}
use Rattle.std.proofs.lemmas.Option.{none-some, same_Some}
use Rattle.stx_base.specs.Course.{Begins, Ends}
use Rattle.stx_base.specs.declared.fault.SheetFault.{SheetFault}
use Rattle.command_words.specs.Words.{command_of}
use Rattle.command_words.specs.declared.command.Command.{Command}
use Rattle.command_words.specs.declared.command.Mode.{Mode}
use Rattle.command_words.specs.declared.command.Mode.TheVariants.{Run as Plain, Check, Sample}
use Rattle.sheet_loader.specs.Values.{Reads}
use Rattle.sheet_model.specs.declared.pass.Kinds.{Kinds}
use Rattle.sheet_model.specs.declared.sheet.Sheet.{Sheet}
use Rattle.stx_host.specs.declared.act.Doc.{Doc}
use Rattle.template_machine.specs.Ending as meant
use Rattle.template_machine.specs.Ending.{Needs, Put}
use Rattle.template_machine.specs.Job.{Given}
use Rattle.template_machine.specs.Meaning.{code, meaning}
use Rattle.xml_events.specs.Tree.{Need, Bad, Forest}
use Rattle.stx_engine.specs.Answer.{Answer, Asked_for, document_of, given_of, is_any_run, is_run, loaded, mode_answer, ran, run_with, sheet_answer, words_answer, written}
use Rattle.stx_engine.specs.Laws.{AnswerStays, BeginningIsOpen, Means, SettledStays, WholeIsOver}
use Rattle.stx_engine.specs.Plain.{pass_of, takes_in_order}
use Rattle.stx_engine.specs.inside.Ending.{RunIsOpen, RunIsOver}
use Rattle.stx_engine.specs.inside.Growing.{BytesStay, RunStays}
use Rattle.stx_engine.specs.inside.Laws.{PassesAsMeant, meant_ending}
use Rattle.stx_engine.specs.inside.Passed.{Complete, Ending, Refused, Run, Unready}
use Rattle.stx_engine.specs.inside.Run.{result_of, run_on}
use Rattle.stx_engine.proofs.Meant.{MeaningIsOutcome, ran-passed, written-same}

-- each run has one end
abbrev pub OneMeaning : Type 0
OneMeaning =
    (given : Given) (tree : Forest) (os ps : List meant.Said) (e f : meant.Ending) → Ends (code given) (meaning given tree) os e → Ends (code given) (meaning given tree) ps f → (os ≡ ps) × (e ≡ f)

some-of : (o : Option Kinds) → IsSome o → (pass : Kinds) × (o ≡ Some pass)
some-of None some = absurd (false≢true some)
some-of (Some pass) some = (pass, refl)

-- how it ends needs more only where that does, and is done only where that is
needs-so : (given : Given) (e : Ending) → meant_ending given e ≡ Needs → e ≡ Unready Need
needs-so given Complete is = absurd cc
needs-so given (Unready Need) is = refl
needs-so given (Unready (Bad fault)) is = absurd cc
needs-so given (Refused fault) is = absurd cc

done-so : (given : Given) (e : Ending) → meant_ending given e ≡ meant.Done → e ≡ Complete
done-so given Complete is = refl
done-so given (Unready Need) is = absurd cc
done-so given (Unready (Bad fault)) is = absurd cc
done-so given (Refused fault) is = absurd cc

module _ (one : OneMeaning) (as_meant : PassesAsMeant) where
  -- what is meant is what is passed through
  module _ (given : Given) (pass : Kinds) (passes : pass_of given.sheet ≡ Some pass) (bytes : List ℕ) (ended : Bool) (said : List meant.Said) (e : meant.Ending) (means : Means given bytes ended said e) where
    abbrev run : Run
    run = run_on given.limits pass bytes ended

    same : (said ≡ map Put run.parts) × (e ≡ meant_ending given run.ending)
    same = one given _ said (map Put run.parts) e (meant_ending given run.ending) means (as_meant given pass bytes ended passes)

    written-so : written said ≡ result_of run
    written-so = ap written same.0 ∙ written-same run.parts

  pub settled-stays : BytesStay → RunStays → SettledStays
  settled-stays stay over given bytes more ended said all e f some first whole =
      let p = some-of (pass_of given.sheet) some in
      let run = run_on given.limits p.0 bytes false in
      let a = same given p.0 p.1 bytes false said e first in
      let b = same given p.0 p.1 (bytes ++ more) ended all f whole in (
        subst (λ x. Begins x (written all)) (sym (written-so given p.0 p.1 bytes false said e first))
            (subst (Begins (result_of run)) (sym (written-so given p.0 p.1 (bytes ++ more) ended all f whole)) (stay given.limits p.0 bytes more ended)),
        λ other.
            let is = over given.limits p.0 bytes more ended (λ need. other (a.1 ∙ ap (meant_ending given) need)) in
            (b.0 ∙ ap (λ (r : Run). map Put r.parts) is ∙ sym a.0, b.1 ∙ ap (λ (r : Run). meant_ending given r.ending) is ∙ sym a.1),
      )

  pub whole-is-over : RunIsOver → WholeIsOver
  whole-is-over over given bytes said e some means needs =
      let p = some-of (pass_of given.sheet) some in
      over given.limits p.0 bytes (needs-so given _ (sym (same given p.0 p.1 bytes true said e means).1 ∙ needs))

  pub beginning-is-open : RunIsOpen → BeginningIsOpen
  beginning-is-open open_still given bytes said e some means done =
      let p = some-of (pass_of given.sheet) some in
      open_still given.limits p.0 bytes (done-so given _ (sym (same given p.0 p.1 bytes false said e means).1 ∙ done))

-- So it is with the answer

module _ (one : OneMeaning) (is_outcome : MeaningIsOutcome) (as_meant : PassesAsMeant) (stay : BytesStay) where
  abbrev Stays : List meant.Said → Option Answer → Type 0
  Stays said o = IfSome o (λ a. Begins (written said) a.out)

  module _ (k : Asked_for) (pass : Kinds) (passes : pass_of k.sheet ≡ Some pass) (plain : k.command.mode ≡ Plain) (opened : List (List ℕ)) (bytes more : List ℕ) (said : List meant.Said) (means : Means (given_of k) bytes false said Needs) where
    ran-stays : Begins (written said) (ran k opened (bytes ++ more)).out
    ran-stays =
        subst (λ x. Begins x (ran k opened (bytes ++ more)).out) (sym (written-so one as_meant (given_of k) pass passes bytes false said Needs means))
        (subst (λ (a : Answer). Begins (result_of (run_on k.command.limits pass bytes false)) a.out) (sym (ran-passed as_meant is_outcome k pass passes opened (bytes ++ more)))
        (subst (λ m. Begins (result_of (run_on k.command.limits pass bytes false)) (result_of (run_on k.command.limits pass (document_of m (bytes ++ more)) true))) (sym plain) (stay k.command.limits pass bytes more true)))

    by_said : (t : Bool) → Stays said (if t then Some (ran k opened (bytes ++ more)) else None)
    by_said true = ran-stays
    by_said false = tt

    mode-stays : Stays said (mode_answer k.command.mode k opened (bytes ++ more))
    mode-stays = subst (λ m. Stays said (mode_answer m k opened (bytes ++ more))) (sym plain) (by_said (takes_in_order k.sheet))

  plain-mode : (m : Mode) → is_run m ≡ true → m ≡ Plain
  plain-mode Plain is = refl
  plain-mode Check is = absurd (false≢true is)
  plain-mode (Sample records) is = absurd (false≢true is)

  if-asked : (any : Bool) (x k : Asked_for) → (if any then Some x else None) ≡ Some k → x ≡ k
  if-asked true x k e = same_Some x k e
  if-asked false x k e = absurd (none-some k e)

  by_sheet : (c : Command) (opened : List (List ℕ)) (r : Result Sheet SheetFault) (k : Asked_for) (bytes more : List ℕ) (said : List meant.Said) → run_with c r ≡ Some k → is_run k.command.mode ≡ true → IsSome (pass_of k.sheet)
      → Means (given_of k) bytes false said Needs → Stays said (sheet_answer c opened r (bytes ++ more))
  by_sheet c opened (Err fault) k bytes more said e plain some means = absurd (none-some k e)
  by_sheet c opened (Ok sheet) k bytes more said e plain some means =
      let is = if-asked (is_any_run c.mode) (record { command = c; sheet = sheet }) k e in
      let p = some-of (pass_of k.sheet) some in
      subst (λ (x : Asked_for). Stays said (mode_answer x.command.mode x opened (bytes ++ more))) (sym is) (mode-stays k p.0 p.1 (plain-mode k.command.mode plain) opened bytes more said means)

  by_words : (reads : Reads) (docs : List Doc) (o : Option Command) (k : Asked_for) (bytes more : List ℕ) (said : List meant.Said) → option_and_then (λ c. run_with c (loaded reads docs c).result) o ≡ Some k → is_run k.command.mode ≡ true
      → IsSome (pass_of k.sheet) → Means (given_of k) bytes false said Needs → Stays said (words_answer reads o docs (bytes ++ more))
  by_words reads docs None k bytes more said e plain some means = absurd (none-some k e)
  by_words reads docs (Some c) k bytes more said e plain some means = by_sheet c (loaded reads docs c).opened (loaded reads docs c).result k bytes more said e plain some means

  pub answer-stays : AnswerStays
  answer-stays reads words docs k bytes more said e plain some means = by_words reads docs (command_of words) k bytes more said e plain some means
