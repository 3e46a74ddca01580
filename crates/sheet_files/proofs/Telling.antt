-- What comes of an event that the innermost file's reader told.
use Rattle.std.proofs.Common.{◌≡◌, ℕ, ◌<◌, false, List, [], ◌∷◌, ◌++◌, length, Some, None, Result, Ok, Err, refl, sym, ap, subst, ◌∙◌, arith}
use Rattle.std.proofs.lemmas.Bool.{false≢true}
use Rattle.std.specs.Prelude.{IsErrAnd}
use Rattle.stx_base.specs.declared.limits.Limits.{Limits}
use Rattle.stx_host.specs.Outside.{Outside, and_more}
use Rattle.stx_host.specs.declared.act.Act.{Act}
use Rattle.xml_events.specs.Answering.{lists_behind as count_behind}
use Rattle.xml_events.specs.Source.{future}
use Rattle.xml_events.specs.declared.event.Event.{Event}
use Rattle.xml_events.specs.declared.event.Event.TheVariants as event
use Rattle.sheet_loader.proofs.Ending.{comes_to_one}
use Rattle.sheet_loader.specs.Lists.{FilesAre, IsStart, KeepsLists}
use Rattle.sheet_loader.specs.Loaders.{Standing, TakesEvent, is_over, wanted_in}
use Rattle.sheet_loader.specs.Remaining.{Ended, Progress, Reads_on, Refused_at, Spent, Wants_file}
use Rattle.sheet_files.specs.Held.{IsHeld, IsWithin, ids_of, names_of}
use Rattle.sheet_files.specs.Reading.{InElement, IsRead, IsReadBy, WantsFile}
use Rattle.sheet_files.specs.Steps.{IsHalted, IsTold, OpensFirst, StayUndecided, StepsTo}
use Rattle.sheet_files.specs.declared.reading.Halt.{Halt}
use Rattle.sheet_files.specs.declared.reading.Halt.TheVariants as halt
use Rattle.sheet_files.specs.declared.reading.Reading.{Reading}
use Rattle.sheet_files.proofs.Halting.{first_like, first_told}
use Rattle.sheet_files.proofs.Holding.{if_some}
use Rattle.sheet_files.proofs.Stepping.{held_like, read_like, within_like, within_same}
use Rattle.sheet_files.proofs.Turning.{event_read, event_taken}

-- behind which an include wants a file
keeps_here : (e : Event) (old new : Progress) (href : List ℕ) → KeepsLists e old new → is_over old ≡ false → wanted_in old ≡ None → wanted_in new ≡ Some href → IsStart e × InElement new
keeps_here e (Reads_on s) (Wants_file name t) href keeps on none wanted = (keeps.0, keeps.2)
keeps_here e (Reads_on s) (Reads_on t) href keeps on none wanted = cc
keeps_here e (Reads_on s) (Ended items l) href keeps on none wanted = cc
keeps_here e (Reads_on s) (Refused_at at why) href keeps on none wanted = cc
keeps_here e (Reads_on s) Spent href keeps on none wanted = cc
keeps_here e (Wants_file name s) new href keeps on none wanted = cc
keeps_here e (Ended items l) new href keeps on none wanted = absurd (false≢true (sym on))
keeps_here e (Refused_at at why) new href keeps on none wanted = absurd (false≢true (sym on))
keeps_here e Spent new href keeps on none wanted = absurd (false≢true (sym on))

start_opens : (e : Event) (n m : ℕ) → IsStart e → m ≡ count_behind e n → 0 < m
start_opens (event.Start offset name attrs decls first) n m start is = omega (arith, is)
start_opens (event.End offset) n m start is = absurd start
start_opens (event.DocumentEnd offset) n m start is = absurd start
start_opens (event.Chars offset text) n m start is = absurd start
start_opens (event.CData offset text) n m start is = absurd start
start_opens (event.Comment offset text) n m start is = absurd start
start_opens (event.Pi offset target text) n m start is = absurd start

module _ (name : List ℕ) (e : Event) (before now : Reading) (told : IsTold e before now) (read : IsRead name before []) (y : Standing)
    (takes : TakesEvent e now.loader.progress y.progress) (names : y.names ≡ now.loader.names) (keeps : KeepsLists e now.loader.progress y.progress) (files_are : FilesAre y.names y.progress) where
  takes_it : TakesEvent e before.loader.progress y.progress
  takes_it = subst (λ (x : Standing). TakesEvent e x.progress y.progress) told.loader takes

  keeps_it : KeepsLists e before.loader.progress y.progress
  keeps_it = subst (λ (x : Standing). KeepsLists e x.progress y.progress) told.loader keeps

  names_it : y.names ≡ before.loader.names
  names_it = names ∙ ap (λ (x : Standing). x.names) told.loader

  read_it : IsReadBy before.limits name (told.front ++ told.was ∷ []) before.files.items before.loader before.left []
  read_it = read_like before.limits name before.going.items (told.front ++ told.was ∷ []) before.files.items before.files.items before.loader before.loader before.left before.left [] (sym told.old) refl refl refl read

  -- so it is read
  pub told_read : IsReadBy now.limits name now.going.items now.files.items y now.left []
  told_read =
      subst (λ (l : Limits). IsReadBy l name now.going.items now.files.items y now.left []) (sym told.limits)
      (read_like before.limits name (told.front ++ told.is ∷ []) now.going.items before.files.items now.files.items y y before.left now.left [] told.new (ap (λ f. f.items) told.files) refl told.left
      (event_read before.limits name comes_to_one told.front told.was before.files.items before.loader before.left read_it told.on told.none told.is e y told.others.1 (ap (λ b. b.items) told.others.2) told.others.3
      told.answer told.leaves told.repeats told.goes told.lists told.whole told.ended takes_it names_it keeps_it files_are))

  -- an include wants a file
  pub told_wants : (href : List ℕ) → wanted_in y.progress ≡ Some href → WantsFile now.going.items y
  told_wants href wanted =
      let here = keeps_here e before.loader.progress y.progress href keeps_it told.on told.none wanted in
      let taken = event_taken before.limits name comes_to_one told.front told.was before.files.items before.loader before.left read_it told.on told.none told.is e y told.others.1 (ap (λ b. b.items) told.others.2) told.others.3
      told.answer told.leaves told.repeats told.goes told.lists told.whole told.ended takes_it names_it keeps_it files_are in
      let same = told.others.3 in
      record {
        here = here.1;
        last = (told.front, told.is, told.new, (omega (arith, taken, same), start_opens e (length (future told.was.reader [] false)) (length (future told.is.reader [] false)) here.0 (told.lists [] false)));
      }

-- want of memory, where nothing else is done
pub short_halts : (name : List ℕ) (start o : Outside) (old new : Reading) (acts : List Act) → new.going.items ≡ old.going.items → OpensFirst start new.limits name (names_of old.files.items ++ []) → IsWithin start o old.going.items old.files.items [] acts → (halted : IsHalted name start o new halt.Memory) × StayUndecided old.limits name start acts halted.acts
short_halts name start o old new acts same first within = (
  record {
    acts = acts;
    done = within.done;
    names = names_of old.files.items ++ [];
    opened = within.opened;
    first = first;
    ids = subst (λ l. o.open_ids ≡ and_more start.open_ids (ids_of l)) (sym same) within.ids;
    counts = within.counts;
    at = tt;
    lacks = tt;
    once = if_some start.open_ids (λ ids once. once.none_behind) within.once;
  },
  λ undecided. undecided,
)

-- these are the first files, where an event was told
told_first : (name : List ℕ) (e : Event) (before now : Reading) → IsTold e before now → IsRead name before [] → (start o : Outside) (acts : List Act) → IsHeld o now → IsWithin start o now.going.items now.files.items [] acts
    → OpensFirst start now.limits name (names_of now.files.items ++ [])
told_first name e before now told read start o acts held within =
    let files = ap (λ f. f.items) told.files in
    let there = told.front ++ told.is ∷ [] in
    let w = within_like start o now.going.items there now.files.items before.files.items [] acts (sym told.new) (sym files) within in
    let h = held_like o now.limits now.limits now.going.items there (length now.files.items) (length before.files.items) (sym told.new) (ap length (sym files)) refl held in
    let back = within_same start o now.limits told.front told.is told.was before.files.items acts h (sym told.others.0) (sym told.others.1) (sym (ap (λ b. b.items) told.others.2)) (sym told.ended) w in
    let old = read_like before.limits name before.going.items (told.front ++ told.was ∷ []) before.files.items before.files.items before.loader before.loader before.left before.left [] (sym told.old) refl refl refl read in
    first_like start before.limits now.limits name (names_of before.files.items ++ []) (names_of now.files.items ++ []) told.limits (ap (λ l. names_of l ++ []) files)
    (first_told start o before.limits name (told.front ++ told.was ∷ []) before.files.items before.loader before.left [] (acts ++ []) old back)

-- memory was wanting for it
pub told_short : (name : List ℕ) (e : Event) (before now : Reading) → IsTold e before now → IsRead name before [] → (o : Outside) → IsHeld o now → (new : Reading) → new.going.items ≡ now.going.items → new.limits ≡ now.limits
    → (r : Result (Unit {0}) Halt) → IsErrAnd r (λ m. m ≡ halt.Memory) → StepsTo name o o now new r
told_short name e before now told read o held new same limits (Ok done) is = absurd is
told_short name e before now told read o held new same limits (Err why) is =
    subst (λ (w : Halt). StepsTo name o o now new (Err w)) (sym is)
    (λ start acts within.
    short_halts name start o now new acts same
    (first_like start now.limits new.limits name (names_of now.files.items ++ []) (names_of now.files.items ++ []) limits refl (told_first name e before now told read start o acts held within)) within)
