-- Laws of what the program answers.
use Rattle.std.specs.Prelude.{◌≡◌, ◌≢◌, ◌↔◌, ℕ, Bool, true, false, List, ◌++◌, Some, None, IsSome, IfSome}
use Rattle.std.specs.List.{list_all}
use Rattle.stx_base.specs.Course.{Begins, Ends}
use Rattle.stx_base.specs.declared.part.Part.{Part}
use Rattle.stx_host.specs.declared.act.Doc.{Doc}
use Rattle.instr_code.specs.declared.code.Code.{Code}
use Rattle.result_writer.specs.Target.{first_fault, nothing, text}
use Rattle.sheet_loader.specs.Values.{Reads}
use Rattle.template_machine.specs.Ending.{Done, Ending, Needs, Said}
use Rattle.template_machine.specs.Job.{Given}
use Rattle.template_machine.specs.Meaning.{code, meaning}
use Rattle.template_machine.specs.Ordinary.{IsOrdinary}
use Rattle.run_engine.specs.Run.{head}
use Rattle.run_parts.specs.Sound.{is_sound_part}
use Rattle.sheet_runs.specs.Meant.{tree_of}
use Rattle.stx_engine.specs.Answer.{Answer, Asked_for, answer, asked, given_of, is_run, ran, runs_none, written}
use Rattle.stx_engine.specs.Nesting.{EndsHaveStarts}
use Rattle.stx_engine.specs.Plain.{is_ordinary, pass_of, takes_in_order}
use Rattle.stx_engine.specs.ReadBack.{IsRead}
use Rattle.stx_engine.specs.RunEnd.{status_in}

-- No end tag in a result of accepted parts lacks its start tag, wherever the result stops.
abbrev pub PartsNest : Type 0
PartsNest =
    (limit : ℕ) (ps : List Part) (front : List ℕ)
    → first_fault limit nothing ps ≡ None
    → list_all is_sound_part ps ≡ true
    → Begins front (head ++ text ps)
    → EndsHaveStarts front

-- No end tag in what the program answers lacks its start tag, wherever it stops.
abbrev pub AnswersNest : Type 0
AnswersNest = (reads : Reads) (words : List (List ℕ)) (docs : List Doc) (main front : List ℕ) (a : Answer) → answer reads words docs main ≡ Some a → Begins front a.out → EndsHaveStarts front

-- Where a run is done it was said what the sheet means on the document's tree, and what it answers is read back as the nodes of that.
abbrev pub AnswersAreRead : Type 0
AnswersAreRead = (k : Asked_for) (opened : List (List ℕ)) (main : List ℕ) → takes_in_order k.sheet ≡ true → status_in (ran k opened main).end ≡ 0 → IsRead k main (ran k opened main).out

-- Where no instruction is run, it doesn't answer that one has a fault.
abbrev pub AnswersAreTaken : Type 0
AnswersAreTaken = (reads : Reads) (words : List (List ℕ)) (docs : List Doc) (main : List ℕ) (a : Answer) → runs_none reads words docs ≡ true → answer reads words docs main ≡ Some a → status_in a.end ≢ 1

-- The test for ordinary sheets is that.
abbrev pub TellsOrdinary : Type 0
TellsOrdinary = (code : Code) → is_ordinary code ≡ true ↔ IsOrdinary code

-- what a sheet means on a document of which these are all bytes, or where it isn't ended the first ones
abbrev pub Means : Given → (bytes : List ℕ) → (ended : Bool) → List Said → Ending → Type 0
Means given bytes ended said e = Ends (code given) (meaning given (tree_of given (record { bytes = bytes; ended = ended }))) said e

-- What a document's first bytes settle stays so, whatever bytes follow, and a run that needs no more is over. This and what follows is of sheets
-- that only pass documents through.
abbrev pub SettledStays : Type 0
SettledStays =
    (given : Given) (bytes more : List ℕ) (ended : Bool) (said all : List Said) (e f : Ending)
    → IsSome (pass_of given.sheet) → Means given bytes false said e → Means given (bytes ++ more) ended all f
    → Begins (written said) (written all) × (e ≢ Needs → (all ≡ said) × (f ≡ e))

-- So it is with the program's whole answer.
abbrev pub AnswerStays : Type 0
AnswerStays =
    (reads : Reads) (words : List (List ℕ)) (docs : List Doc) (k : Asked_for) (bytes more : List ℕ) (said : List Said)
    → asked reads words docs ≡ Some k → is_run k.command.mode ≡ true → IsSome (pass_of k.sheet) → Means (given_of k) bytes false said Needs
    → IfSome (answer reads words docs (bytes ++ more)) (λ a. Begins (written said) a.out)

-- A run on a whole document needs no more of it.
abbrev pub WholeIsOver : Type 0
WholeIsOver = (given : Given) (bytes : List ℕ) (said : List Said) (e : Ending) → IsSome (pass_of given.sheet) → Means given bytes true said e → e ≢ Needs

-- A run on a document's first bytes is not done.
abbrev pub BeginningIsOpen : Type 0
BeginningIsOpen = (given : Given) (bytes : List ℕ) (said : List Said) (e : Ending) → IsSome (pass_of given.sheet) → Means given bytes false said e → e ≢ Done
