-- Where no instruction is run, no answer is that one has a fault.
use Rattle.std.proofs.Common.{◌≡◌, ◌≢◌, ℕ, true, false, Bool, if◌then◌else◌, List, [], Option, Some, None, Result, Ok, Err, refl, sym, ap, subst, ◌∙◌, arith}
use Rattle.std.specs.Prelude.{is_some}
use Rattle.std.specs.Option.{option_and_then, option_map_or}
use Rattle.std.proofs.lemmas.Bool.{false≢true}
use Rattle.std.proofs.lemmas.Option.{none-some, same_Some}
use Rattle.command_words.specs.Words.{command_of}
use Rattle.command_words.specs.declared.command.Command.{Command}
use Rattle.command_words.specs.declared.command.Mode.{Mode}
use Rattle.command_words.specs.declared.command.Mode.TheVariants.{Run, Check, Sample}
use Rattle.stx_base.specs.declared.fault.SheetFault.{SheetFault}
use Rattle.fault_report.specs.Line.{status_of}
use Rattle.fault_report.specs.declared.outcome.Outcome.{Outcome}
use Rattle.fault_report.specs.declared.outcome.Outcome.TheVariants.{Done, Run as Stopped, Usage, Sheet as Refuses, Xml, Host, Fuel, Memory}
use Rattle.sheet_loader.specs.Values.{Reads}
use Rattle.sheet_model.specs.declared.pass.Kinds.{Kinds}
use Rattle.sheet_model.specs.declared.sheet.Sheet.{Sheet}
use Rattle.stx_host.specs.declared.act.Doc.{Doc}
use Rattle.result_writer.specs.declared.fault.ResultFault.{ResultFault}
use Rattle.xml_events.specs.Tree.{Need, Bad}
use Rattle.run_engine.specs.Does.{told_as}
use Rattle.stx_engine.specs.Answer.{Answer, Asked_for, answered, document_of, end_in, given_of, is_any_run, loaded, mode_answer, ran, run_with, sheet_answer, words_answer}
use Rattle.stx_engine.specs.Doing.{AreUsual}
use Rattle.stx_engine.specs.Laws.{AnswersAreTaken}
use Rattle.stx_engine.specs.Plain.{pass_of, takes_in_order}
use Rattle.stx_engine.specs.RunEnd.{status_in}
use Rattle.stx_engine.specs.inside.Accepted.{DocumentsAreTaken}
use Rattle.stx_engine.specs.inside.Laws.{PassesAsMeant, meant_ending}
use Rattle.stx_engine.specs.inside.Passed.{Ending, Complete, Refused, Unready}
use Rattle.stx_engine.specs.inside.Run.{outcome_of, run_on}
use Rattle.stx_engine.proofs.Limited.{usual}
use Rattle.stx_engine.proofs.Meant.{MeaningIsOutcome, ran-passed, told-same}

by_ending : (name : List ℕ) (e : Ending) → ((fault : ResultFault) → e ≢ Refused fault) → status_of (outcome_of name e) ≢ 1
by_ending name Complete h k = absurd (omega (arith, k))
by_ending name (Unready (Bad fault)) h k = absurd (omega (arith, k))
by_ending name (Unready Need) h k = absurd (omega (arith, k))
by_ending name (Refused fault) h k = h fault refl

-- the status, on the main document or on the sample
status-on : (m : Mode) (out : List ℕ) (o : Outcome) → status_in (end_in m out o) ≡ status_of o
status-on Run out o = refl
status-on Check out o = refl
status-on (Sample records) out Done = refl
status-on (Sample records) out (Stopped file code offset) = refl
status-on (Sample records) out Usage = refl
status-on (Sample records) out (Refuses reason) = refl
status-on (Sample records) out (Xml file fault) = refl
status-on (Sample records) out (Host file fault offset) = refl
status-on (Sample records) out (Fuel file offset) = refl
status-on (Sample records) out Memory = refl

only : (a b : Answer) → Some a ≡ Some b → status_in a.end ≢ 1 → status_in b.end ≢ 1
only a b e h = subst (λ (x : Answer). status_in x.end ≢ 1) (same_Some a b e) h

module _ (taken : DocumentsAreTaken) (as_meant : PassesAsMeant) (is_outcome : MeaningIsOutcome) where
  module _ (c : Command) (usual : AreUsual c.limits) (opened : List (List ℕ)) (main : List ℕ) where
    by_run : (sheet : Sheet) (pass : Kinds) → pass_of sheet ≡ Some pass → status_in (ran (record { command = c; sheet = sheet }) opened main).end ≢ 1
    by_run sheet pass passes k =
        let asked_for : Asked_for = record { command = c; sheet = sheet } in
        let bytes = document_of c.mode main in
        let run = run_on c.limits pass bytes true in
        let refuses = λ (fault : ResultFault). taken c.limits pass bytes true fault usual.below in
        by_ending c.sheet run.ending refuses
        (ap status_of (sym (told-same (given_of asked_for) c.sheet sheet.files run.ending refuses)) ∙ sym (status-on c.mode _ (told_as sheet.files (meant_ending (given_of asked_for) run.ending)))
        ∙ sym (ap (λ (a : Answer). status_in a.end) (ran-passed as_meant is_outcome asked_for pass passes opened main)) ∙ k)

    passes-none : (o : Option Kinds) (sheet : Sheet) → pass_of sheet ≡ o → is_some o ≡ true → status_in (ran (record { command = c; sheet = sheet }) opened main).end ≢ 1
    passes-none None sheet is some = absurd (false≢true some)
    passes-none (Some pass) sheet is some = by_run sheet pass is

    by_said : (t : Bool) (sheet : Sheet) (a : Answer) → is_some (pass_of sheet) ≡ true → (if t then Some (ran (record { command = c; sheet = sheet }) opened main) else None) ≡ Some a → status_in a.end ≢ 1
    by_said true sheet a none e = only (ran (record { command = c; sheet = sheet }) opened main) a e (passes-none (pass_of sheet) sheet refl none)
    by_said false sheet a none e = absurd (none-some a e)

    -- where a run is asked for, the sheet only passes documents through
    none-run : (any : Bool) (k : Asked_for) → option_map_or (λ (k : Asked_for). is_some (pass_of k.sheet)) (if any then Some k else None) true ≡ true → any ≡ true → is_some (pass_of k.sheet) ≡ true
    none-run true k none is = none
    none-run false k none is = absurd (false≢true is)

    by_mode : (m : Mode) (sheet : Sheet) (a : Answer) → (is_any_run m ≡ true → is_some (pass_of sheet) ≡ true) → mode_answer m (record { command = c; sheet = sheet }) opened main ≡ Some a → status_in a.end ≢ 1
    by_mode Check sheet a none e = only (answered Done opened) a e (λ k. absurd (omega (arith, k)))
    by_mode Run sheet a none e = by_said (takes_in_order sheet) sheet a (none refl) e
    by_mode (Sample records) sheet a none e = by_said (takes_in_order sheet) sheet a (none refl) e

    by_sheet : (r : Result Sheet SheetFault) (a : Answer) → option_map_or (λ (k : Asked_for). is_some (pass_of k.sheet)) (run_with c r) true ≡ true → sheet_answer c opened r main ≡ Some a → status_in a.end ≢ 1
    by_sheet (Err fault) a none e = only (answered (Refuses fault) opened) a e (λ k. absurd (omega (arith, k)))
    by_sheet (Ok sheet) a none e = by_mode c.mode sheet a (none-run (is_any_run c.mode) (record { command = c; sheet = sheet }) none) e

  by_words : (reads : Reads) (words : List (List ℕ)) (o : Option Command) (docs : List Doc) (main : List ℕ) (a : Answer) → command_of words ≡ o
      → option_map_or (λ (k : Asked_for). is_some (pass_of k.sheet)) (option_and_then (λ c. run_with c (loaded reads docs c).result) o) true ≡ true → words_answer reads o docs main ≡ Some a → status_in a.end ≢ 1
  by_words reads words None docs main a is none e = only (answered Usage []) a e (λ k. absurd (omega (arith, k)))
  by_words reads words (Some c) docs main a is none e = by_sheet c (usual words c is) (loaded reads docs c).opened main (loaded reads docs c).result a none e

  pub answers-are-taken : AnswersAreTaken
  answers-are-taken reads words docs main a none e = by_words reads words (command_of words) docs main a refl none e
