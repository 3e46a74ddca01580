-- A run of a sheet of version 1.0, and the same run by the definitions that there were before version 1.1.
use Rattle.std.specs.Prelude.{◌≡◌, ◌↔◌, true, Bool, ℕ, List, Contains, Ok}
use Rattle.std.specs.Option.{option_map}
use Rattle.stx_base.specs.Course.{Ends}
use Rattle.stx_base.specs.declared.limits.Limits.{Limits}
use Rattle.sheet_loader.specs.Files.{Documents, load, old_load}
use Rattle.sheet_loader.specs.Laws.{AllSayOne}
use Rattle.sheet_loader.specs.Values.{Reads}
use Rattle.template_machine.specs.Ending.{Ending, Said}
use Rattle.template_machine.specs.Job.{Given}
use Rattle.template_machine.specs.Meaning.{code, meaning}
use Rattle.template_machine.specs.Older.{old_code, old_meaning}
use Rattle.template_machine.specs.Unchanged.{is_old_said}
use Rattle.xml_events.specs.Document.{doc_for}
use Rattle.xml_events.specs.Joined.{joined_doc}

-- what a run is given, with these other documents, which are read as its sheet says
abbrev pub reading : Documents → Given → Given
reading docs given = record given {
  documents = λ name. option_map (λ bytes. doc_for given.limits given.sheet.strip given.sheet.cdata bytes true) (docs name);
}

-- the same when each CDATA section was text
abbrev pub old_reading : Documents → Given → Given
old_reading docs given = record given { documents = λ name. option_map (λ bytes. joined_doc given.limits given.sheet.strip bytes true) (docs name) }

-- A sheet all of whose files are of version 1.0 came of them before there was version 1.1; a run of it, on any document, said what it
-- says now and ended as it ends now; and it puts no CDATA sections.
abbrev pub RunsAsBefore : Type 0
RunsAsBefore =
    (reads : Reads) (limits : Limits) (files : Documents) (name : List ℕ) (given : Given)
    → AllSayOne limits files → (load reads limits files name).result ≡ Ok given.sheet
    → ((old_load reads limits files name).result ≡ Ok given.sheet)
    × ((docs : Documents) (bytes : List ℕ) (ended : Bool) (os : List Said) (e : Ending)
    → let now = reading docs given in
    let before = old_reading docs given in
    let tree = doc_for given.limits given.sheet.strip given.sheet.cdata bytes ended in
    let old_tree = joined_doc given.limits given.sheet.strip bytes ended in
    (Ends (code now) (meaning now tree) os e ↔ Ends (old_code before) (old_meaning before old_tree) os e)
    × (Ends (code now) (meaning now tree) os e → (o : Said) → Contains os o → is_old_said o ≡ true))
