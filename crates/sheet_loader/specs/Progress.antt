-- Where the program's loader stands.
use Rattle.std.specs.Prelude.{◌≡◌, ℕ, Bool, true, List, Option, Some, None, Result, Ok, Err, if◌then◌else◌}
use Rattle.stx_base.specs.declared.fault.Place.{Place}
use Rattle.xml_events.specs.declared.event.Event.{Event}
use Rattle.sheet_loader.specs.Events.{progress_at_end, stage_of}
use Rattle.sheet_loader.specs.Lists.{KeepsLists}
use Rattle.sheet_loader.specs.Loaders.{TakesEvent}
use Rattle.sheet_loader.specs.Named.{Includes, names_of}
use Rattle.sheet_loader.specs.Remaining.{Progress, Reads_on, Refused_at, Spent, Wants_file}
use Rattle.sheet_loader.specs.Sound.{IsSound}
use Rattle.sheet_loader.specs.declared.draft.Draft.{Draft}
use Rattle.sheet_loader.specs.declared.loader.Progress as loader
use Rattle.sheet_loader.specs.declared.loader.Progress.TheVariants as progress
use Rattle.sheet_loader.specs.declared.refused.Stop.{Stop}
use Rattle.sheet_loader.specs.declared.refused.Stop.TheVariants as stop

abbrev pub progress_in : loader.Progress → Draft → Progress
progress_in progress.Reads d = Reads_on (stage_of d)
progress_in (progress.Wants name at) d = Wants_file name (stage_of d)
progress_in progress.Ended d = progress_at_end true d
progress_in (progress.Refused why at) d = Refused_at at why
progress_in progress.Spent d = Spent

abbrev pub IsSoundBy : loader.Progress → Draft → Type 0
IsSoundBy progress.Reads d = IsSound d
IsSoundBy (progress.Wants name at) d = IsSound d × Includes name at d
IsSoundBy progress.Ended d = IsSound d
IsSoundBy other d = Unit {0}

-- where a loader stands behind a tag, behind the end of a list, and behind another node

abbrev pub stopped : Stop → loader.Progress
stopped (stop.Fault why at) = progress.Refused why at
stopped stop.Memory = progress.Spent

-- why nothing more is read, where a fault was found or memory was wanting
abbrev pub stop_of : loader.Progress → Option Stop
stop_of (progress.Refused why at) = Some (stop.Fault why at)
stop_of progress.Spent = Some stop.Memory
stop_of other = None

abbrev pub behind_tag : Place → Result (Option (List ℕ)) Stop → loader.Progress
behind_tag at (Ok None) = progress.Reads
behind_tag at (Ok (Some name)) = progress.Wants name at
behind_tag at (Err why) = stopped why

abbrev pub behind_end : Result Bool Stop → loader.Progress
behind_end (Ok is_all) = if is_all then progress.Ended else progress.Reads
behind_end (Err why) = stopped why

abbrev pub behind_node : Result (Unit {0}) Stop → loader.Progress
behind_node (Ok done) = progress.Reads
behind_node (Err why) = stopped why

-- What taking an event comes to, where the loader reads on: it stands so, and nothing else is to be done than that. Where memory is
-- wanting nothing is said.
pub record Takes (e : Event) (old new : Draft) (p : loader.Progress) : Type 0 where
  pub sound : IsSoundBy p new
  pub takes : TakesEvent e (Reads_on (stage_of old)) (progress_in p new)
  pub names : names_of new ≡ names_of old
  pub lists : KeepsLists e (Reads_on (stage_of old)) (progress_in p new)

abbrev pub TakesOr : Event → (old new : Draft) → loader.Progress → Type 0
TakesOr e old new progress.Spent = Unit {0}
TakesOr e old new other = Takes e old new other
