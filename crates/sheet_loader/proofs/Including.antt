-- An include opens its file, whose nodes stand in its place.
use Rattle.std.proofs.Common.{◌≡◌, ℕ, ◌-◌, List, [], ◌∷◌, ◌++◌, length, slice_get, Option, Some, None, refl, codes}
use Rattle.stx_base.specs.Course.{Say, Ask, and_then}
use Rattle.xml_events.specs.Document.{inner, outer}
use Rattle.xml_events.specs.Tree.{Element, Future}
use Rattle.sheet_loader.specs.Elements as element
use Rattle.sheet_loader.specs.Judging.{scope_at}
use Rattle.sheet_loader.specs.Making.{Values, as_word, nameless, value_at}
use Rattle.sheet_loader.specs.Read.{closed, file_given, good, within}
use Rattle.sheet_loader.specs.Reading.{Context, Does, File, Item, Listed, Loading, Nodes}
use Rattle.sheet_loader.specs.Remaining.{file_then}
use Rattle.sheet_loader.specs.Resuming.{Of_element, Of_file, Open, continue, opened, resume}
use Rattle.sheet_loader.specs.Values.{Reads}

module _ (reads : Reads) (files : List (Option File)) (here : Context) (before : List Item) (e : Element) (v kept : Values) (opens : List Open) (l : Loading) (f : Future) where
  abbrev start : Loading
  start = opened here before e element.Include v l

  abbrev href : List ℕ
  href = as_word (value_at (codes "href") v)

  -- the tag, as far as it still counts
  abbrev pub tag_left : Element
  tag_left = record e { name = nameless; attrs = [] }

  abbrev then_within : Listed → Does Listed
  then_within r = Ask (Nodes (within here before element.Include e v (length r.loading.sheet.groups - 1)) [] (inner f) r.loading) (λ s. closed reads files here e.offset element.Include (scope_at here e) v s)

  abbrev then_behind : Listed → Does Listed
  then_behind r = resume reads files here (before ++ r.items) r.loading opens (inner (outer f) ∷ outer (outer f))

  by_given : (o : Option (Option File))
      → and_then (and_then (Say href (file_given reads files here e.offset (length start.sheet.files) o href start)) then_within) then_behind
      ≡ Say href (and_then (file_given reads files here e.offset (length start.sheet.files) o href start) (λ r. continue reads files (Of_file here before tag_left element.Include kept ∷ opens) r f))
  by_given None = refl
  by_given (Some None) = refl
  by_given (Some (Some file)) = refl

  pub include_comes : and_then (good reads files here before e (inner f) element.Include v l) then_behind
      ≡ file_then reads files (Of_element here before tag_left element.Include kept ∷ opens) href start f
  include_comes = by_given (slice_get files (length start.sheet.files))
