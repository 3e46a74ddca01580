-- What comes of the files where the innermost one goes no further.
use Rattle.std.proofs.Common.{◌≡◌, ℕ, Bool, List, [], ◌∷◌, map, Option, Some, None, refl, sym, ap, subst, ◌∙◌}
use Rattle.std.specs.Prelude.{if◌then◌else◌}
use Rattle.stx_base.specs.Course.{Halt, and_then}
use Rattle.stx_base.specs.declared.fault.SheetCode.TheVariants as code
use Rattle.stx_base.specs.declared.fault.XmlFault.{XmlFault}
use Rattle.xml_events.specs.Document.{finished, inner, readied, stage_by, stripped, with_items, lists_of}
use Rattle.xml_events.specs.Source.{Source, future, left}
use Rattle.xml_events.specs.Telling.{no_event, pulled, start_pulled, told}
use Rattle.xml_events.specs.Tree.{Why, Need, Bad, Element, Forest, Future, Waiting, End, Cut, Single, Nested}
use Rattle.xml_events.specs.declared.event.Event.{Event}
use Rattle.xml_events.specs.declared.event.Pull.TheVariants as pull
use Rattle.sheet_loader.specs.Levels.{limit_at}
use Rattle.sheet_loader.specs.Lists.{lists_in}
use Rattle.sheet_loader.specs.Reading.{Context, Does, File, Item, Listed, Loading, Refused, cut, ends_at}
use Rattle.sheet_loader.specs.Remaining.{Reads_on, Stage as Standing_at, place_of, remaining, version_by}
use Rattle.sheet_loader.specs.Resuming.{CutsList, Open, SameAnswer, TakesElement, resume}
use Rattle.sheet_loader.specs.Values.{Reads}
use Rattle.sheet_files.proofs.Courses.{answer_then, equal_answer}
use Rattle.sheet_files.proofs.Places.{file_is, limit_is, number_in}

-- a list goes no further from its beginning on: it is cut, or its first element is before anything in it is known
pub data StopsAt : Why → Forest → Type 0 where
  Is_cut : {why : Why} → StopsAt why (Cut why)
  Is_open : {why : Why} (e : Element) (next : Forest) → StopsAt why (Nested Waiting e (Cut why) next)

pub not_event : (why : Why) (e : Event) → pull.Event e ≡ no_event why → ⊥
not_event Need e h = cc
not_event (Bad fault) e h = cc

same_why : (why other : Why) → no_event why ≡ no_event other → why ≡ other
same_why Need Need h = refl
same_why Need (Bad fault) h = cc
same_why (Bad fault) Need h = cc
same_why (Bad fault) (Bad other) h = let e : fault ≡ other = cc in ap Bad e

open_stops : (why : Why) (e : Element) (kids next : Forest) → start_pulled e kids ≡ no_event why → StopsAt why (Nested (stage_by kids) e kids next)
open_stops why e (Cut other) next h = subst (λ (w : Why). StopsAt why (Nested Waiting e (Cut w) next)) (sym (same_why other why h)) (Is_open e next)
open_stops why e (End mark offset) next h = absurd (not_event why _ h)
open_stops why e (Single mark leaf kids) next h = absurd (not_event why _ h)
open_stops why e (Nested stage inner kids after) next h = absurd (not_event why _ h)

-- a list of a tree from which nothing can be told goes no further
pub stops_at : (why : Why) (list : Forest) (lists : Future) → pulled (readied list ∷ lists) ≡ no_event why → StopsAt why (readied list)
stops_at why (End mark offset) lists h = absurd (not_event why _ h)
stops_at why (Cut other) lists h = subst (λ (w : Why). StopsAt why (Cut w)) (sym (same_why other why h)) Is_cut
stops_at why (Single mark leaf next) lists h = absurd (not_event why _ h)
stops_at why (Nested stage e kids next) lists h = open_stops why e (readied kids) (readied next) h

-- the first of the lists that a reader has to tell, where it knows no events
pub record IsStopped (why : Why) (f : Future) : Type 0 where
  pub list : Forest
  pub others : Future
  pub is : f ≡ list ∷ others
  pub stops : StopsAt why list

no_end : (why : Why) → pull.End ≡ no_event why → ⊥
no_end Need h = cc
no_end (Bad fault) h = cc

of_lists : (why : Why) (strip : Bool) (f : Future) → pulled (map (finished strip) f) ≡ no_event why → IsStopped why (map (finished strip) f)
of_lists why strip [] h = absurd (no_end why h)
of_lists why strip (list ∷ lists) h = record {
  list = finished strip list;
  others = map (finished strip) lists;
  is = refl;
  stops = stops_at why (if strip then stripped list else list) (map (finished strip) lists) h;
}

-- where nothing can be told, the innermost list goes no further
pub stopped_there : (s : Source) (more : List ℕ) (ended : Bool) (why : Why) → s.known ≡ [] → pulled (future s more ended) ≡ no_event why → IsStopped why (future s more ended)
stopped_there s more ended why none h =
    let f = with_items s.front (lists_of (left s more ended)) in
    let is : future s more ended ≡ map (finished s.strip) f = ap (λ (es : List Event). told es (map (finished s.strip) f)) none in
    subst (IsStopped why) (sym is) (of_lists why s.strip f (ap pulled (sym is) ∙ h))

module _ (reads : Reads) (files : List (Option File)) (cuts : CutsList reads files) (elements : TakesElement reads files) where
  halts : (here : Context) (why : Why) (k : Listed → Does Listed) → and_then (cut here why) k ≡ cut here why
  halts here (Bad fault) k = refl
  halts here Need k = as_case here.limit where
    as_case : (limit : Option ℕ) → and_then (ends_at here limit) k ≡ ends_at here limit
    as_case None = refl
    as_case (Some most) = refl

  -- it ends so
  pub stopped_comes : (here : Context) (before : List Item) (l : Loading) (opens : List Open) (f : Future) (why : Why) {list : Forest} → StopsAt why list → SameAnswer reads files (resume reads files here before l opens (list ∷ f)) (cut here why)
  stopped_comes here before l opens f why Is_cut = cuts here before l opens f why
  stopped_comes here before l opens f why (Is_open e next) =
      answer_then reads files (elements here before l opens f Waiting e (Cut why) next) (equal_answer reads files (halts here why _))

  -- so does all, where the loader reads on
  pub stopped_all : (s : Standing_at) (f : Future) (why : Why) → IsStopped why f → SameAnswer reads files (remaining reads files (Reads_on s) f) (cut (place_of files s f).here why)
  stopped_all s f why stopped =
      let p = place_of files s (stopped.list ∷ stopped.others) in
      subst (λ (g : Future). SameAnswer reads files (remaining reads files (Reads_on s) g) (cut (place_of files s g).here why)) (sym stopped.is)
      (stopped_comes p.here p.before s.loading p.opens stopped.others why stopped.stops)

  -- the limit is told where it is reached
  pub limited_there : (s : Standing_at) (f : Future) (n most : ℕ) → IsStopped Need f → number_in (lists_in s.levels) ≡ n → limit_at files n ≡ Some most
      → SameAnswer reads files (remaining reads files (Reads_on s) f) (Halt (Refused (record { file = n; offset = most }) code.SheetTooLarge))
  limited_there s f n most stopped number limit =
      let v = version_by s.version f in
      let here = (place_of files s f).here in
      let lim : here.limit ≡ Some most = limit_is s.loading.sheet.files files v s.levels ∙ ap (limit_at files) number ∙ limit in
      let file : here.file ≡ n = file_is s.loading.sheet.files files v s.levels ∙ number in
      answer_then reads files (stopped_all s f Need stopped)
      (equal_answer reads files (ap (λ (o : Option ℕ). ends_at here o) lim ∙ ap (λ (k : ℕ). Halt (Refused (record { file = k; offset = most }) code.SheetTooLarge)) file))

  -- so is a fault of the file
  pub bad_there : (s : Standing_at) (f : Future) (n : ℕ) (fault : XmlFault) → IsStopped (Bad fault) f → number_in (lists_in s.levels) ≡ n
      → SameAnswer reads files (remaining reads files (Reads_on s) f) (Halt (Refused (record { file = n; offset = fault.offset }) code.BadXml))
  bad_there s f n fault stopped number =
      let v = version_by s.version f in
      let file : (place_of files s f).here.file ≡ n = file_is s.loading.sheet.files files v s.levels ∙ number in
      answer_then reads files (stopped_all s f (Bad fault) stopped)
      (equal_answer reads files (ap (λ (k : ℕ). Halt (Refused (record { file = k; offset = fault.offset }) code.BadXml)) file))
