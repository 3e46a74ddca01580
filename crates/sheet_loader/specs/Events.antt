-- What a draft is after an event, by what is still done.
use Rattle.std.specs.Prelude.{◌≡◌, ℕ, Bool, true, false, map, List, ◌∷◌, ◌++◌, Option, Some, None, Result, Ok, Err, codes}
use Rattle.std.specs.Option.{option_map}
use Rattle.stx_base.specs.Course.{Halt, and_then}
use Rattle.stx_base.specs.declared.fault.Place.{Place}
use Rattle.stx_base.specs.declared.node.First.{First}
use Rattle.xml_events.specs.Document.{inner, outer}
use Rattle.xml_events.specs.Tree.{Element, Future, Nested, Ready}
use Rattle.sheet_loader.specs.Drafts.{frames_of, levels_in, levels_of, loading_of}
use Rattle.sheet_loader.specs.Elements as element
use Rattle.sheet_loader.specs.Levels.{Place_in, with_items}
use Rattle.sheet_loader.specs.Making.{Values, as_word, value_at}
use Rattle.sheet_loader.specs.Meant.{item_of, version_of}
use Rattle.sheet_loader.specs.Reading.{File, Refused, Item, Listed, Does}
use Rattle.sheet_loader.specs.Remaining.{Progress, Ended, Reads_on, Wants_file, Stage, place_of, remaining}
use Rattle.sheet_loader.specs.Resuming.{SameAnswer, resume}
use Rattle.sheet_loader.specs.Values.{Reads}
use Rattle.sheet_loader.specs.declared.draft.Draft.{Draft}
use Rattle.sheet_loader.specs.declared.frame.Frame.{Frame}
use Rattle.sheet_loader.specs.declared.refused.Refused as stopped
use Rattle.sheet_loader.specs.declared.refused.Refused.TheVariants as refused
use Rattle.sheet_loader.specs.declared.refused.Stop.{Stop}
use Rattle.sheet_loader.specs.declared.refused.Stop.TheVariants as stop

abbrev pub stage_of : Draft → Stage
stage_of d = record { levels = levels_of d; version = option_map version_of d.file.version; loading = loading_of d }

-- where a draft stands with these files, where the version of a file of which no root is read is this one
abbrev pub place_at : List (Option File) → Future → Draft → Place_in
place_at files f d = place_of files (stage_of d) f

-- where a loader stands behind a start tag: the file of an include is wanted
abbrev pub progress_behind : Option (List ℕ) → Draft → Progress
progress_behind None d = Reads_on (stage_of d)
progress_behind (Some href) d = Wants_file href (stage_of d)

-- what is still done after the event is this
abbrev pub Behind : Reads → List (Option File) → Does Listed → Draft → Future → Result (Option (List ℕ)) Stop → Type 0
Behind reads files x d f (Ok wanted) = SameAnswer reads files x (remaining reads files (progress_behind wanted d) f)
Behind reads files x d f (Err (stop.Fault why at)) = SameAnswer reads files x (Halt (Refused at why))
Behind reads files x d f (Err stop.Memory) = Unit {0}

-- the same where a fault is told without the place of the tag
abbrev pub BehindTag : Reads → List (Option File) → Does Listed → Place → Draft → Future → Result (Option (List ℕ)) stopped.Refused → Type 0
BehindTag reads files x at d f (Ok wanted) = SameAnswer reads files x (remaining reads files (progress_behind wanted d) f)
BehindTag reads files x at d f (Err (refused.Code why)) = SameAnswer reads files x (Halt (Refused at why))
BehindTag reads files x at d f (Err refused.Memory) = Unit {0}

-- the same without an include
abbrev pub BehindOther : Reads → List (Option File) → Does Listed → Place → Draft → Future → Result (Unit {0}) stopped.Refused → Type 0
BehindOther reads files x at d f (Ok done) = SameAnswer reads files x (remaining reads files (Reads_on (stage_of d)) f)
BehindOther reads files x at d f (Err (refused.Code why)) = SameAnswer reads files x (Halt (Refused at why))
BehindOther reads files x at d f (Err refused.Memory) = Unit {0}

-- what is still done after a node that includes nothing is this
abbrev pub BehindNode : Reads → List (Option File) → Does Listed → Draft → Future → Result (Unit {0}) Stop → Type 0
BehindNode reads files x d f (Ok done) = SameAnswer reads files x (remaining reads files (Reads_on (stage_of d)) f)
BehindNode reads files x d f (Err (stop.Fault why at)) = SameAnswer reads files x (Halt (Refused at why))
BehindNode reads files x d f (Err stop.Memory) = Unit {0}

-- what is done behind the end of a list, which may be that of the sheet's own file
abbrev pub progress_at_end : (is_all : Bool) → Draft → Progress
progress_at_end false d = Reads_on (stage_of d)
progress_at_end true d = Ended (map item_of d.top.items) (loading_of d)

abbrev pub BehindEnd : Reads → List (Option File) → Does Listed → Draft → Future → Result Bool Stop → Type 0
BehindEnd reads files x d f (Ok is_all) = SameAnswer reads files x (remaining reads files (progress_at_end is_all d) f)
BehindEnd reads files x d f (Err (stop.Fault why at)) = SameAnswer reads files x (Halt (Refused at why))
BehindEnd reads files x d f (Err stop.Memory) = Unit {0}

-- the innermost list has these items more, and nothing else has changed
pub record TakesItems (items : List Item) (old new : Draft) : Type 0 where
  pub levels : levels_of new ≡ with_items items (levels_of old)
  pub loading : loading_of new ≡ loading_of old
  pub version : new.file.version ≡ old.file.version

-- a draft within whose innermost list another one was
abbrev pub stage_within : Frame → Draft → Stage
stage_within f d = record { levels = levels_in (f ∷ frames_of d) d.file d.parts; version = option_map version_of d.file.version; loading = loading_of d }

-- the nodes behind an element that comes to this, in the list of a place
abbrev pub then_next : Reads → List (Option File) → Place_in → Does Listed → Future → Does Listed
then_next reads files p x f =
    and_then x (λ r. resume reads files p.here (p.before ++ r.items) r.loading p.opens (inner (outer f) ∷ outer (outer f)))

-- an element that begins, with what is to come
abbrev pub begins : Element → First → Future → Future
begins e first f = Nested (Ready first) e (inner f) (inner (outer f)) ∷ outer (outer f)

-- the values that are kept of a tag's: all that still count
abbrev pub Kept : element.Kind → (values kept : Values) → Type 0
Kept element.Transform values kept = value_at (codes "pass-through") kept ≡ value_at (codes "pass-through") values
Kept element.Group values kept = value_at (codes "pass-through") kept ≡ value_at (codes "pass-through") values
Kept element.Include values kept = Unit {0}
Kept other values kept = kept ≡ values

-- what an include's tag wants
abbrev pub wanted_by : element.Kind → Values → Option (List ℕ)
wanted_by element.Include v = Some (as_word (value_at (codes "href") v))
wanted_by other v = None
