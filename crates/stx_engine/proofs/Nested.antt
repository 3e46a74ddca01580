-- No end tag in an answer lacks its start tag.
use Rattle.std.proofs.Common.{◌≡◌, ℕ, suc, ◌||◌, Bool, true, false, if◌then◌else◌, List, [], ◌++◌, Option, Some, None, Result, Ok, Err, refl, sym, ap, subst}
use Rattle.std.specs.Prelude.{is_some}
use Rattle.std.proofs.lemmas.Bool.{and_from}
use Rattle.std.proofs.lemmas.Option.{none-some, same_Some}
use Rattle.stx_base.specs.Course.{Answer as Came, Begins, Ends, Given as Gave, Over, Unknown}
use Rattle.command_words.specs.Words.{command_of}
use Rattle.command_words.specs.declared.command.Command.{Command}
use Rattle.command_words.specs.declared.command.Mode.{Mode}
use Rattle.command_words.specs.declared.command.Mode.TheVariants.{Run, Check, Sample}
use Rattle.stx_base.specs.declared.fault.SheetFault.{SheetFault}
use Rattle.fault_report.specs.declared.outcome.Outcome.TheVariants.{Done, Usage, Sheet as Refuses}
use Rattle.instr_code.specs.Code.{code_of}
use Rattle.result_writer.specs.Laws.{WritesPrefixes}
use Rattle.result_writer.specs.Target.{nothing}
use Rattle.xml_events.specs.Tree.{Leaf, Chars, CData, Comment, Pi, Forest, End, Cut, Single, Nested}
use Rattle.xml_tokens.specs.Sayable.{LexemesAreSayable}
use Rattle.sheet_loader.specs.Values.{Reads}
use Rattle.sheet_model.specs.declared.pass.Kinds.{Kinds}
use Rattle.sheet_model.specs.declared.sheet.Sheet.{Sheet}
use Rattle.stx_host.specs.declared.act.Doc.{Doc}
use Rattle.template_machine.specs.Ending.{Ending, Said}
use Rattle.template_machine.specs.Job.{Given, Here}
use Rattle.template_machine.specs.Meaning.{code, meaning}
use Rattle.template_machine.specs.Ordinary.{IsOrdinary}
use Rattle.template_machine.specs.Outcome.{deep_enough, outcome}
use Rattle.run_engine.specs.Fitting.{DocumentsFit, FitsWithin, IsSection}
use Rattle.run_engine.specs.Run.{head}
use Rattle.run_parts.specs.Laws.{PutsAccepted, PutsSound, SettlesParts}
use Rattle.run_parts.specs.Parts.{parts_of}
use Rattle.run_parts.specs.Sound.{declares_names, holds_sections, is_sound_leaf}
use Rattle.sheet_runs.specs.Meant.{tree_of}
use Rattle.stx_engine.specs.Answer.{Answer, Asked_for, answered, document_of, given_of, loaded, mode_answer, ran, ran_by, sheet_answer, words_answer, written}
use Rattle.stx_engine.specs.Laws.{AnswersNest}
use Rattle.stx_engine.specs.Nesting.{EndsHaveStarts}
use Rattle.stx_engine.specs.Plain.{is_ordinary, pass_of, takes_in_order}
use Rattle.stx_engine.specs.inside.Accepted.{DocumentsNest}
use Rattle.stx_engine.specs.inside.Laws.{PassesAsMeant}
use Rattle.stx_engine.proofs.Matching.{Matched, front_matched, nothing_matched}
use Rattle.stx_engine.proofs.Meant.{MeaningIsOutcome, ran-passed}
use Rattle.stx_engine.proofs.Ordered.{ordinary-so}
use Rattle.stx_engine.proofs.Parts.{parts-nest}
use Rattle.stx_engine.proofs.Sound.{all-declare}

nothing-nests : (front : List ℕ) → Begins front [] → EndsHaveStarts front
nothing-nests front b = front_matched front b.0 (subst (Matched []) (sym b.1) (nothing_matched []))

sound-leaf : (leaf : Leaf) → IsSection leaf → is_sound_leaf leaf ≡ true
sound-leaf (Chars offset text) h = refl
sound-leaf (CData offset text) h = h
sound-leaf (Comment offset text) h = refl
sound-leaf (Pi offset target text) h = refl

pub sections-hold : (depth n : ℕ) (f : Forest) → FitsWithin depth n f → holds_sections f ≡ true
sections-hold depth n (End m offset) h = refl
sections-hold depth n (Cut why) h = refl
sections-hold depth n (Single m leaf next) h = and_from _ _ (sound-leaf leaf h.0) (sections-hold depth n next h.1)
sections-hold depth n (Nested stage e kids next) h = and_from _ _ (sections-hold depth (suc n) kids h.1) (sections-hold depth n next h.2)

module _ (said : LexemesAreSayable) (prefixes : WritesPrefixes) (fit : DocumentsFit) (settled : SettlesParts) (accepted : PutsAccepted) (sound : PutsSound)
    (nest : DocumentsNest) (as_meant : PassesAsMeant) (is_outcome : MeaningIsOutcome) where
  -- A run of an ordinary sheet

  module _ (k : Asked_for) (opened : List (List ℕ)) (main : List ℕ) (ordinary : IsOrdinary (code_of k.sheet)) where
    abbrev given : Given
    given = given_of k

    abbrev bytes : List ℕ
    bytes = document_of k.command.mode main

    abbrev tree : Forest
    tree = tree_of given (record { bytes = bytes; ended = true })

    declares : declares_names tree ≡ true
    declares = all-declare said given.limits given.sheet.strip given.sheet.cdata bytes true

    sections : holds_sections tree ≡ true
    sections = sections-hold given.limits.depth 0 tree (fit given.limits given.sheet.strip given.sheet.cdata bytes true).1

    -- an end of the run
    said-nests : (os : List Said) (e : Ending) → Ends (code given) (meaning given tree) os e → (front : List ℕ) → Begins front (written os) → EndsHaveStarts front
    said-nests os e h front begins =
        parts-nest prefixes given.limits.elements (parts_of os) front (accepted given tree os e h) (sound given tree os e ordinary declares sections h)
        (subst (Begins front) (ap (λ bytes. head ++ bytes) (settled nothing os)) begins)

    by-outcome : (a : Came Here Said Ending) → outcome given tree ≡ a → (front : List ℕ) → Begins front (ran_by given k.command.mode opened a).out → EndsHaveStarts front
    by-outcome (Over os e) is front begins = said-nests os e (record { depth = deep_enough given tree; comes = is }) front begins
    by-outcome (Gave os here) is front begins = nothing-nests front begins
    by-outcome (Unknown os) is front begins = nothing-nests front begins

    ordinary-nests : (front : List ℕ) → Begins front (ran k opened main).out → EndsHaveStarts front
    ordinary-nests front begins = by-outcome (outcome given tree) refl front begins

  -- Any run that is answered

  run-nests : (k : Asked_for) (opened : List (List ℕ)) (main front : List ℕ) → takes_in_order k.sheet ≡ true → Begins front (ran k opened main).out → EndsHaveStarts front
  run-nests k opened main front order begins = by_pass (pass_of k.sheet) refl order where
    by_pass : (o : Option Kinds) → pass_of k.sheet ≡ o → (is_some o || is_ordinary (code_of k.sheet)) ≡ true → EndsHaveStarts front
    by_pass None is t = ordinary-nests k opened main (ordinary-so (code_of k.sheet) t) front begins
    by_pass (Some pass) is t =
        nest k.command.limits pass (document_of k.command.mode main) true front
        (subst (λ (a : Answer). Begins front a.out) (ran-passed as_meant is_outcome k pass is opened main) begins)

  only : (a b : Answer) (front : List ℕ) → Some a ≡ Some b → (Begins front a.out → EndsHaveStarts front) → Begins front b.out → EndsHaveStarts front
  only a b front e h = subst (λ (x : Answer). Begins front x.out → EndsHaveStarts front) (same_Some a b e) h

  if-said : (t : Bool) (k : Asked_for) (opened : List (List ℕ)) (main front : List ℕ) (a : Answer) → takes_in_order k.sheet ≡ t → (if t then Some (ran k opened main) else None) ≡ Some a → Begins front a.out → EndsHaveStarts front
  if-said true k opened main front a t e b = only (ran k opened main) a front e (run-nests k opened main front t) b
  if-said false k opened main front a t e b = absurd (none-some a e)

  by_mode : (m : Mode) (k : Asked_for) (opened : List (List ℕ)) (main front : List ℕ) (a : Answer) → mode_answer m k opened main ≡ Some a → Begins front a.out → EndsHaveStarts front
  by_mode Check k opened main front a e b = only (answered Done opened) a front e (nothing-nests front) b
  by_mode Run k opened main front a e b = if-said (takes_in_order k.sheet) k opened main front a refl e b
  by_mode (Sample records) k opened main front a e b = if-said (takes_in_order k.sheet) k opened main front a refl e b

  by_sheet : (c : Command) (opened : List (List ℕ)) (r : Result Sheet SheetFault) (main front : List ℕ) (a : Answer) → sheet_answer c opened r main ≡ Some a → Begins front a.out → EndsHaveStarts front
  by_sheet c opened (Err fault) main front a e b = only (answered (Refuses fault) opened) a front e (nothing-nests front) b
  by_sheet c opened (Ok sheet) main front a e b = by_mode c.mode (record { command = c; sheet = sheet }) opened main front a e b

  by_words : (reads : Reads) (o : Option Command) (docs : List Doc) (main front : List ℕ) (a : Answer) → words_answer reads o docs main ≡ Some a → Begins front a.out → EndsHaveStarts front
  by_words reads None docs main front a e b = only (answered Usage []) a front e (nothing-nests front) b
  by_words reads (Some c) docs main front a e b = let l = loaded reads docs c in by_sheet c l.opened l.result main front a e b

  pub answer-nests : AnswersNest
  answer-nests reads words docs main front a e b = by_words reads (command_of words) docs main front a e b
