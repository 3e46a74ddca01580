-- What the end of a list comes to where it stands.
use Rattle.std.proofs.Common.{ℕ, List, ◌∷◌, Option}
use Rattle.xml_events.specs.Tree.{End, Future, Mark}
use Rattle.sheet_loader.proofs.Resuming.{ends_list}
use Rattle.sheet_loader.specs.Reading.{File}
use Rattle.sheet_loader.specs.Remaining.{Reads_on, Stage, place_of, remaining}
use Rattle.sheet_loader.specs.Resuming.{SameAnswer, continue}
use Rattle.sheet_loader.specs.Values.{Reads}

module _ (reads : Reads) (files : List (Option File)) where
  -- what is around goes on with the items
  pub end_comes : (s : Stage) (mark : Mark) (offset : ℕ) (f : Future)
      → let p = place_of files s (End mark offset ∷ f) in
      SameAnswer reads files (remaining reads files (Reads_on s) (End mark offset ∷ f)) (continue reads files p.opens (record { items = p.before; loading = s.loading }) f)
  end_comes s mark offset f =
      let p = place_of files s (End mark offset ∷ f) in
      ends_list reads files p.here p.before s.loading p.opens f mark offset
