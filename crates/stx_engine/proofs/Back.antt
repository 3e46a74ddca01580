-- What a run wrote is read back.
use Rattle.std.proofs.Common.{◌≡◌, ◌≢◌, ℕ, ◌||◌, Bool, true, if◌then◌else◌, List, [], map, Option, Some, None, Result, Ok, Err, refl, sym, ap, subst, ◌∙◌}
use Rattle.std.specs.Prelude.{is_some}
use Rattle.std.specs.List.{list_all}
use Rattle.std.specs.Option.{option_and_then}
use Rattle.std.proofs.lemmas.Option.{none-some, same_Some}
use Rattle.stx_base.specs.Course.{Answer as Came, Ends, Given as Gave, Over, Unknown}
use Rattle.stx_base.specs.declared.fault.SheetFault.{SheetFault}
use Rattle.stx_base.specs.declared.limits.Limits.{Limits}
use Rattle.command_words.specs.Words.{command_of}
use Rattle.command_words.specs.declared.command.Command.{Command}
use Rattle.command_words.specs.declared.command.Mode.{Mode}
use Rattle.command_words.specs.declared.command.Mode.TheVariants.{Run, Check, Sample}
use Rattle.fault_report.specs.Line.{status_of}
use Rattle.fault_report.specs.declared.outcome.Outcome.{Outcome}
use Rattle.fault_report.specs.declared.outcome.Outcome.TheVariants as outcomes
use Rattle.instr_code.specs.Code.{code_of}
use Rattle.read_back.specs.Sound.{is_sound_binding}
use Rattle.xml_events.specs.Tree.{Forest}
use Rattle.xml_tokens.specs.Sayable.{LexemesAreSayable}
use Rattle.sheet_loader.specs.Values.{Reads}
use Rattle.sheet_model.specs.declared.pass.Kinds.{Kinds}
use Rattle.sheet_model.specs.declared.sheet.Sheet.{Sheet}
use Rattle.sheet_model.specs.declared.sheet.Template.{Template}
use Rattle.stx_host.specs.Outside.{Outside}
use Rattle.stx_host.specs.declared.act.Doc.{Doc}
use Rattle.template_machine.specs.Ending.{Done, Ending, Faulted, Malformed, Needs, Put, Said, Spent}
use Rattle.template_machine.specs.Job.{Given, Here}
use Rattle.template_machine.specs.Meaning.{code, meaning}
use Rattle.template_machine.specs.Ordinary.{IsOrdinary}
use Rattle.template_machine.specs.Outcome.{deep_enough, outcome}
use Rattle.run_engine.specs.Does.{told_as}
use Rattle.run_engine.specs.Fitting.{DocumentsFit}
use Rattle.run_parts.specs.Back.{IsReadBack}
use Rattle.run_parts.specs.Laws.{ReadsRuns}
use Rattle.run_parts.specs.Parts.{parts_of}
use Rattle.run_parts.specs.Sound.{declares, has_char_uris, holds_sections}
use Rattle.sheet_runs.specs.Meant.{tree_of}
use Rattle.stx_engine.specs.Answer.{Asked_for, answer, asked, document_of, end_in, given_of, is_any_run, loaded, mode_answer, ran, ran_by, run_with, sheet_answer, words_answer, written}
use Rattle.stx_engine.specs.Headline.{GivesAnswer, ReadsBack}
use Rattle.stx_engine.specs.Laws.{AnswersAreRead}
use Rattle.stx_engine.specs.Plain.{is_ordinary, pass_of, takes_in_order}
use Rattle.stx_engine.specs.ReadBack.{IsRead}
use Rattle.stx_engine.specs.RunEnd.{status_in}
use Rattle.stx_engine.specs.inside.Laws.{PassesAsMeant, meant_ending}
use Rattle.stx_engine.specs.inside.Passed as passed
use Rattle.stx_engine.specs.inside.Run.{run_on}
use Rattle.stx_engine.proofs.Meant.{MeaningIsOutcome, is-plain, none-new}
use Rattle.stx_engine.proofs.Nested.{sections-hold}
use Rattle.stx_engine.proofs.Ordered.{ordinary-so}
use Rattle.stx_engine.proofs.Sound.{all-soundly}

-- what was said, and how it ended
abbrev said_in : Came Here Said Ending → List Said
said_in (Over os e) = os
said_in (Gave os here) = os
said_in (Unknown os) = os

abbrev ended_in : Came Here Said Ending → Ending
ended_in (Over os e) = e
ended_in (Gave os here) = Needs
ended_in (Unknown os) = Needs

-- the status of an end is that of its outcome
status-same : (m : Mode) (out : List ℕ) (o : Outcome) → status_in (end_in m out o) ≡ status_of o
status-same Run out o = refl
status-same Check out o = refl
status-same (Sample records) out outcomes.Done = refl
status-same (Sample records) out (outcomes.Run file code offset) = refl
status-same (Sample records) out outcomes.Usage = refl
status-same (Sample records) out (outcomes.Sheet fault) = refl
status-same (Sample records) out (outcomes.Xml file fault) = refl
status-same (Sample records) out (outcomes.Host file fault offset) = refl
status-same (Sample records) out (outcomes.Fuel file offset) = refl
status-same (Sample records) out outcomes.Memory = refl

module _ (said : LexemesAreSayable) (fit : DocumentsFit) (reads : ReadsRuns) (as_meant : PassesAsMeant) (is_outcome : MeaningIsOutcome) where
  module _ (k : Asked_for) (main : List ℕ) (order : takes_in_order k.sheet ≡ true) where
    abbrev given : Given
    given = given_of k

    -- the sheet without procedures: where it only passes documents through, none of them is called
    abbrev bare : Given
    bare = record given { sheet = record k.sheet { procedures = [] } }

    abbrev bytes : List ℕ
    bytes = document_of k.command.mode main

    abbrev tree : Forest
    tree = tree_of given (record { bytes = bytes; ended = true })

    declared : declares is_sound_binding tree ≡ true
    declared = all-soundly said given.limits given.sheet.strip given.sheet.cdata bytes true

    sections : holds_sections tree ≡ true
    sections = sections-hold given.limits.depth 0 tree (fit given.limits given.sheet.strip given.sheet.cdata bytes true).1

    ending-same : (e : passed.Ending) → meant_ending bare e ≡ meant_ending given e
    ending-same passed.Complete = refl
    ending-same (passed.Unready why) = refl
    ending-same (passed.Refused fault) = refl

    bare-ordinary : (pass : Kinds) → pass_of k.sheet ≡ Some pass → IsOrdinary (code_of bare.sheet)
    bare-ordinary pass p =
        ordinary-so (code_of bare.sheet)
        (subst (λ (ts : List Template). is_ordinary (code_of (record k.sheet { templates = ts; procedures = [] })) ≡ true) (sym (is-plain k.sheet pass p).templates) refl)

    back : (os : List Said) → outcome given tree ≡ Over os Done → list_all has_char_uris (parts_of os) ≡ true → (limits : Limits) (cdata : Bool) → IsReadBack limits cdata k.command.limits.elements os
    back os is uris limits cdata = by_pass (pass_of k.sheet) refl order where
      by_pass : (o : Option Kinds) → pass_of k.sheet ≡ o → (is_some o || is_ordinary (code_of k.sheet)) ≡ true → IsReadBack limits cdata k.command.limits.elements os
      by_pass None p t = reads limits cdata given tree os (ordinary-so (code_of k.sheet) t) declared sections (record { depth = deep_enough given tree; comes = is }) uris
      by_pass (Some pass) p t =
          let run = run_on given.limits pass bytes true in
          let puts = map Put run.parts in
          let same = sym is ∙ (is_outcome given (none-new k) tree puts (meant_ending given run.ending)).0 (as_meant given pass bytes true p) in
          let what : os ≡ puts = ap said_in same in
          let how : Done ≡ meant_ending bare run.ending = ap ended_in same ∙ sym (ending-same run.ending) in
          let ends : Ends (code bare) (meaning bare tree) os Done =
          subst (λ (os : List Said). Ends (code bare) (meaning bare tree) os Done) (sym what)
          (subst (λ (e : Ending). Ends (code bare) (meaning bare tree) puts e) (sym how) (as_meant bare pass bytes true p)) in
          reads limits cdata bare tree os (bare-ordinary pass p) declared sections ends uris

    module _ (opened : List (List ℕ)) where
      by_end : (os : List Said) (e : Ending) → outcome given tree ≡ Over os e → status_of (told_as k.sheet.files e) ≡ 0 → IsRead k main (written os)
      by_end os Done is zero = record { said = os; meant = is; wrote = refl; read = back os is }
      by_end os (Faulted fault) is zero = absurd (let b : 1 ≡ 0 = zero in cc)
      by_end os (Spent at) is zero = absurd (let b : 6 ≡ 0 = zero in cc)
      by_end os (Malformed document fault) is zero = absurd (let b : 4 ≡ 0 = zero in cc)
      by_end os Needs is zero = absurd (let b : 7 ≡ 0 = zero in cc)

      by_answer : (a : Came Here Said Ending) → outcome given tree ≡ a → status_in (ran_by given k.command.mode opened a).end ≡ 0 → IsRead k main (ran_by given k.command.mode opened a).out
      by_answer (Over os e) is zero = by_end os e is (sym (status-same k.command.mode (written os) (told_as k.sheet.files e)) ∙ zero)
      by_answer (Gave os here) is zero = absurd (let b : 7 ≡ 0 = zero in cc)
      by_answer (Unknown os) is zero = absurd (let b : 7 ≡ 0 = zero in cc)

  pub answers-are-read : AnswersAreRead
  answers-are-read k opened main order zero =
      by_answer k main order opened (outcome (given_of k) (tree_of (given_of k) (record { bytes = document_of k.command.mode main; ended = true }))) refl zero

-- What is asked for is answered.

by_mode : (m : Mode) (k j : Asked_for) (opened : List (List ℕ)) (main : List ℕ) → (if is_any_run m then Some k else None) ≡ Some j → takes_in_order j.sheet ≡ true → mode_answer m k opened main ≡ Some (ran j opened main)
by_mode Check k j opened main e t = absurd (none-some j e)
by_mode Run k j opened main e t =
    subst (λ (x : Asked_for). (if takes_in_order x.sheet then Some (ran x opened main) else None) ≡ Some (ran j opened main)) (sym (same_Some k j e))
    (ap (λ b. if b then Some (ran j opened main) else None) t)
by_mode (Sample records) k j opened main e t =
    subst (λ (x : Asked_for). (if takes_in_order x.sheet then Some (ran x opened main) else None) ≡ Some (ran j opened main)) (sym (same_Some k j e))
    (ap (λ b. if b then Some (ran j opened main) else None) t)

by_sheet : (c : Command) (j : Asked_for) (opened : List (List ℕ)) (r : Result Sheet SheetFault) (main : List ℕ) → run_with c r ≡ Some j → takes_in_order j.sheet ≡ true → sheet_answer c opened r main ≡ Some (ran j opened main)
by_sheet c j opened (Err fault) main e t = absurd (none-some j e)
by_sheet c j opened (Ok sheet) main e t = by_mode c.mode (record { command = c; sheet = sheet }) j opened main e t

by_words : (reads : Reads) (o : Option Command) (docs : List Doc) (main : List ℕ) (j : Asked_for) → option_and_then (λ (c : Command). run_with c (loaded reads docs c).result) o ≡ Some j → takes_in_order j.sheet ≡ true
    → (opened : List (List ℕ)) × (words_answer reads o docs main ≡ Some (ran j opened main))
by_words reads None docs main j e t = absurd (none-some j e)
by_words reads (Some c) docs main j e t = let l = loaded reads docs c in (l.opened, by_sheet c j l.opened l.result main e t)

pub asked-answered : (reads : Reads) (words : List (List ℕ)) (docs : List Doc) (main : List ℕ) (k : Asked_for) → asked reads words docs ≡ Some k → takes_in_order k.sheet ≡ true
    → (opened : List (List ℕ)) × (answer reads words docs main ≡ Some (ran k opened main))
asked-answered reads words docs main k e t = by_words reads (command_of words) docs main k e t

pub reads-back : AnswersAreRead → (old new : Outside) (main : List ℕ) (status : ℕ) (k : Asked_for) (opened : List (List ℕ)) → takes_in_order k.sheet ≡ true → GivesAnswer old new status (ran k opened main) → ReadsBack old new main status k
reads-back read old new main status k opened order gives none zero =
    let seven : status ≢ 7 = λ e. (let b : 0 ≡ 7 = sym zero ∙ e in cc) in
    let g = gives none seven in
    subst (IsRead k main) (sym g.0) (read k opened main order (sym g.2 ∙ zero))
