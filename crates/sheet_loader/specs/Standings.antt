-- What a loader's fields stand for, and what is so of them.
use Rattle.sheet_loader.specs.Loaders.{Standing}
use Rattle.sheet_loader.specs.Named.{names_of}
use Rattle.sheet_loader.specs.Progress.{IsSoundBy, progress_in}
use Rattle.sheet_loader.specs.declared.loader.Loader.TheInside.{Inside}

abbrev pub standing_of : Inside → Standing
standing_of a = record { names = names_of a.draft; progress = progress_in a.progress a.draft }

abbrev pub IsSoundLoader : Inside → Type 0
IsSoundLoader a = IsSoundBy a.progress a.draft
