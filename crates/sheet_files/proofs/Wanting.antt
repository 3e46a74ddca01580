-- What comes of the files where an include of the innermost one wants its file.
use Rattle.std.proofs.Common.{◌≡◌, ℕ, List, [], ◌∷◌, map, length, slice_get, Option, None, sym, ap, ◌∙◌}
use Rattle.stx_base.specs.Course.{Halt, Say, and_then}
use Rattle.xml_events.specs.Tree.{Element, Future}
use Rattle.sheet_loader.specs.Levels.{Level, Place_in, What, entered, place_in, tag_of, version_around}
use Rattle.sheet_loader.specs.Lists.{IsInElement, Of, lists_in, of_what}
use Rattle.sheet_loader.specs.Making.{nameless}
use Rattle.sheet_loader.specs.Read.{file_given}
use Rattle.sheet_loader.specs.Reading.{File, Loading, Wants}
use Rattle.sheet_loader.specs.Remaining.{Stage, Wants_file, file_then, remaining, version_by}
use Rattle.sheet_loader.specs.Resuming.{Of_file, continue}
use Rattle.sheet_loader.specs.Values.{Reads}
use Rattle.sheet_loader.specs.Versions.{Version}
use Rattle.sheet_files.proofs.Places.{numbered, numbers_are, numbers_in}

module _ (reads : Reads) (files : List (Option File)) where
  wants_by : (names : List (List ℕ)) (v : Version) (levels : List Level) (href : List ℕ) (l : Loading) (f : Future) (ns : List ℕ)
      → IsInElement levels → slice_get files (length l.sheet.files) ≡ None → numbers_in (lists_in levels) ≡ ns
      → file_then reads files (place_in names files v levels).opens href l f ≡ Say href (Halt (Wants ns href))
  wants_by names v [] href l f ns inside none numbers = absurd inside
  wants_by names v (x ∷ levels) href l f ns inside none numbers =
      let in_what : What → Place_in = λ w. entered names files v w x (place_in names files (version_around v w) levels) in
      let q : Place_in = place_in names files v levels in
      let e : Element = tag_of x nameless [] in
      let what = inside.2 in
      let same : map (λ y. y.0) q.here.reading ≡ ns = numbers_are names files v levels ∙ ap (λ (o : Of). numbered o (numbers_in (lists_in levels))) (sym (ap of_what what)) ∙ numbers in
      ap (λ w. file_then reads files (in_what w).opens href l f) what
      ∙ ap (λ o. Say href (and_then (file_given reads files q.here x.at (length l.sheet.files) o href l) (λ r. continue reads files (Of_file q.here q.before e inside.0 inside.1 ∷ q.opens) r f))) none
      ∙ ap (λ k. Say href (Halt (Wants k href))) same

  -- the file of the include is wanted, of which nothing is known
  pub wants_there : (s : Stage) (href : List ℕ) (f : Future) (ns : List ℕ) → IsInElement s.levels → slice_get files (length s.loading.sheet.files) ≡ None → numbers_in (lists_in s.levels) ≡ ns
      → remaining reads files (Wants_file href s) f ≡ Say href (Halt (Wants ns href))
  wants_there s href f ns inside none numbers = wants_by s.loading.sheet.files (version_by s.version f) s.levels href s.loading f ns inside none numbers
