-- What comes of a file that an include wants: it is opened, it is absent, or it can't be opened.
use Rattle.std.proofs.Common.{◌≡◌, ℕ, ◌+◌, ◌<◌, true, false, List, [], ◌∷◌, ◌++◌, length, Option, Some, None, Ok, Err, refl, sym, ap, subst, ◌∙◌, arith, length-append}
use Rattle.std.specs.Option.{option_and_then}
use Rattle.stx_base.specs.declared.limits.Limits.{Limits}
use Rattle.stx_base.specs.declared.memory.Memory.{Memory}
use Rattle.stx_host.specs.Outside.{Closes, DocFault, LacksRoom, MayOpen, Opens, Outside, SameCounts, and_more, for_id, place}
use Rattle.stx_host.specs.Rooms.{needed}
use Rattle.stx_host.specs.declared.act.Act.{Act}
use Rattle.stx_host.specs.declared.act.Act.TheVariants.{Open}
use Rattle.stx_host.specs.declared.act.Doc.{Doc}
use Rattle.stx_host.specs.declared.act.Opened.TheVariants.{Absent, Failed, Id}
use Rattle.xml_events.specs.Source.{Source}
use Rattle.sheet_loader.proofs.Ending.{comes_to_one}
use Rattle.sheet_loader.specs.Lists.{IsReading}
use Rattle.sheet_loader.specs.Loaders.{MissesIt, OpensName, Standing, is_over, wanted_in}
use Rattle.sheet_loader.specs.Remaining.{Ended, Progress, Reads_on, Refused_at, Spent, Wants_file}
use Rattle.sheet_files.specs.Acts.{NoneBehindEnd, opens}
use Rattle.sheet_files.specs.Held.{IsHeld, IsWithin, ids_of, names_of, turns_left, turns_of}
use Rattle.sheet_files.specs.Opened.{Absent as Gone, Seen, place_told, places}
use Rattle.sheet_files.specs.Reading.{IsRead, IsReadBy, WantsFile}
use Rattle.sheet_files.specs.Steps.{Includes, IsFresh, IsHalted, Lessens, StayUndecided, StepsTo}
use Rattle.sheet_files.specs.declared.going.Going.{Going}
use Rattle.sheet_files.specs.declared.reading.Halt.TheVariants as halt
use Rattle.sheet_files.specs.declared.reading.Reading.{Reading}
use Rattle.sheet_files.proofs.Acting.{opens_more}
use Rattle.sheet_files.proofs.Changing.{within_absent, within_entered}
use Rattle.sheet_files.proofs.Coming.{absent_read, enter_read}
use Rattle.sheet_files.proofs.Doing.{closes_open_none, counts_closed, counts_failed, counts_then, done_open, done_then, has_closed}
use Rattle.sheet_files.proofs.Ends.{none_quiet, quiet_closes, quiet_open}
use Rattle.sheet_files.proofs.Halting.{first_like, first_wanted}
use Rattle.sheet_files.proofs.Holding.{closed_ids, held_more, held_still, if_some}
use Rattle.sheet_files.proofs.Lacking.{halts_lacking}
use Rattle.sheet_files.proofs.Opening.{append_none, map_append}
use Rattle.sheet_files.proofs.Staying.{stays_closed, stays_none, stays_opened, stays_then}
use Rattle.sheet_files.proofs.Stepping.{held_like, over_wants_none, read_like, within_like}
use Rattle.sheet_files.proofs.Turns.{enter_turns, room_for}

reads_none : (p : Progress) → IsReading p → wanted_in p ≡ None
reads_none (Reads_on s) r = refl
reads_none (Wants_file href s) r = absurd r
reads_none (Ended items l) r = absurd r
reads_none (Refused_at at why) r = absurd r
reads_none Spent r = absurd r

wants_on : (p : Progress) (href : List ℕ) → wanted_in p ≡ Some href → is_over p ≡ false
wants_on (Wants_file name s) href wanted = refl
wants_on (Reads_on s) href wanted = cc
wants_on (Ended items l) href wanted = cc
wants_on (Refused_at at why) href wanted = cc
wants_on Spent href wanted = cc

opens_name : (wanted : Option (List ℕ)) (href : List ℕ) (old new : List (List ℕ)) → wanted ≡ Some href → OpensName wanted old new → new ≡ old ++ href ∷ []
opens_name None href old new e names = cc
opens_name (Some name) href old new e names = names ∙ ap (λ (n : List ℕ). old ++ n ∷ []) (let same : name ≡ href = cc in same)

module _ (o p : Outside) (old new : Reading) (href : List ℕ) (id : ℕ) (held : IsHeld o old) (may : MayOpen o href (Id id)) (does : Opens o href (Id id) p) (includes : Includes href id old new (Ok tt)) where
  abbrev file : Going
  file = includes.3.0.0

  abbrev fresh : IsFresh old.limits id (length old.files.items) file
  fresh = includes.3.0.1

  abbrev own : Doc
  own = record { name = href; bytes = [] }

  may_it : MayOpen o href (Id file.id)
  may_it = subst (λ (n : ℕ). MayOpen o href (Id n)) (sym fresh.given) may

  does_it : Opens o href (Id file.id) p
  does_it = subst (λ (n : ℕ). Opens o href (Id n) p) (sym fresh.given) does

  count : length new.files.items ≡ length old.files.items + 1
  count = ap length includes.3.1 ∙ length-append old.files.items (own ∷ [])

  limits : file.reader.lexer.limits ≡ old.limits
  limits = ap (λ (s : Source). s.lexer.limits) fresh.begins

  ended : file.reader.lexer.ended ≡ false
  ended = ap (λ (s : Source). s.lexer.ended) fresh.begins

  pub entered_held : IsHeld p new
  entered_held =
      held_like p old.limits new.limits (old.going.items ++ file ∷ []) new.going.items (length old.files.items + 1) (length new.files.items) includes.3.0.2 count includes.3.4
      (held_more o p old.limits old.going.items (length old.files.items) href file held may_it does_it fresh.numbered limits)

  pub entered_steps : (name : List ℕ) → IsRead name old [] → wanted_in old.loader.progress ≡ Some href → WantsFile old.going.items old.loader → StepsTo name o p old new (Ok tt)
  entered_steps name read wanted wants =
      let front = wants.last.0 in
      let g = wants.last.1 in
      let was : IsReadBy old.limits name (front ++ g ∷ []) old.files.items old.loader old.left [] = read_like old.limits name old.going.items (front ++ g ∷ []) old.files.items old.files.items old.loader old.loader old.left old.left [] (sym wants.last.2) refl refl refl read in
      let names = opens_name (wanted_in old.loader.progress) href old.loader.names new.loader.names wanted includes.1 in
      let entered = enter_read old.limits name comes_to_one front g old.files.items old.loader old.left was href wanted wants.here wants.last.3.0 wants.last.3.1 file new.loader fresh.numbered fresh.nothing fresh.none_taken fresh.document
      (ap (λ (s : Source). s.over) fresh.begins) ended includes.0 names includes.2 in
      let going : new.going.items ≡ (front ++ g ∷ []) ++ file ∷ [] = includes.3.0.2 ∙ ap (λ (l : List Going). l ++ file ∷ []) wants.last.2 in
      let at = read_like old.limits name ((front ++ g ∷ []) ++ file ∷ []) new.going.items (old.files.items ++ own ∷ []) new.files.items new.loader new.loader old.left new.left [] going includes.3.1 refl includes.3.3 entered in (
        [],
        subst (λ (l : Limits). IsReadBy l name new.going.items new.files.items new.loader new.left []) (sym includes.3.4) at,
        reads_none new.loader.progress (includes.2 href wanted).0,
        λ start acts within. (
          acts ++ Open (option_and_then (λ docs. place docs href) o.documents) file.id ∷ [],
          within_like start p (old.going.items ++ file ∷ []) new.going.items (old.files.items ++ own ∷ []) new.files.items [] (acts ++ Open (option_and_then (λ docs. place docs href) o.documents) file.id ∷ []) includes.3.0.2 includes.3.1
              (within_entered start o old.limits old.going.items old.files.items acts within held p href file may_it does_it fresh.numbered fresh.nothing ended),
          stays_opened old.limits name start acts (option_and_then (λ docs. place docs href) o.documents) file.id,
        ),
        includes.3.4,
      )

  pub entered_less : (name : List ℕ) → IsRead name old [] → wanted_in old.loader.progress ≡ Some href → Lessens old new (turns_of old) (Ok tt)
  entered_less name read wanted =
      let room = room_for old.limits name old.going.items old.files.items old.loader old.left [] read (wants_on old.loader.progress href wanted) in
      let less = enter_turns old.limits old.left (length old.files.items) old.going.items file fresh.begins room in
      let now : turns_of new ≡ turns_left old.limits old.left (length old.files.items + 1) (old.going.items ++ file ∷ []) =
      ap (λ (l : Limits). turns_left l new.left (length new.files.items) new.going.items) includes.3.4
      ∙ ap (λ (n : ℕ). turns_left old.limits n (length new.files.items) new.going.items) includes.3.3
      ∙ ap (λ (n : ℕ). turns_left old.limits old.left n new.going.items) count ∙ ap (turns_left old.limits old.left (length old.files.items + 1)) includes.3.0.2 in
      (includes.3.4, λ on. subst (λ (n : ℕ). n < turns_of old) (sym now) less)

-- memory was wanting where the file was opened, and it was given back
module _ (o q p : Outside) (old new : Reading) (href : List ℕ) (id : ℕ) (held : IsHeld o old) (may : MayOpen o href (Id id)) (does : Opens o href (Id id) q) (closes : Closes q id p) (error : Memory) (fails : Includes href id old new (Err error)) where
  ids_back : p.open_ids ≡ o.open_ids
  ids_back = closed_ids q p o.open_ids id may.above_zero may.not_open (ap (λ (x : Outside). x.open_ids) does) closes

  pub short_held : IsHeld p new
  short_held =
      held_like p old.limits new.limits old.going.items new.going.items (length new.files.items) (length new.files.items) fails.0 refl fails.2 (held_still o p old.limits old.going.items (length old.files.items) (length new.files.items) held ids_back fails.1)

  pub short_steps : (name : List ℕ) → IsRead name old [] → wanted_in old.loader.progress ≡ Some href → WantsFile old.going.items old.loader → (start : Outside) (acts : List Act) → IsWithin start o old.going.items old.files.items [] acts → (halted : IsHalted name start p new halt.Memory) × StayUndecided old.limits name start acts halted.acts
  short_steps name read wanted wants start acts within =
      let doc = option_and_then (λ docs. place docs href) o.documents in
      let closed = has_closed q p id may.above_zero closes in
      let opened = done_then start o q acts (Open doc id ∷ []) within.done (done_open o q href (Id id) may does) in (
        record {
          acts = (acts ++ Open doc id ∷ []) ++ closed.acts;
          done = done_then start q p (acts ++ Open doc id ∷ []) closed.acts opened closed.done;
          names = names_of old.files.items ++ href ∷ [];
          opened = opens_more (acts ++ Open doc id ∷ []) closed.acts ∙ ap (λ (l : List (Option ℕ)). opens (acts ++ Open doc id ∷ []) ++ l) (closes_open_none closed.acts closed.closes) ∙ append_none (opens (acts ++ Open doc id ∷ []))
              ∙ opens_more acts (Open doc id ∷ []) ∙ ap (λ (l : List (Option ℕ)). l ++ doc ∷ []) (within.opened ∙ ap (places start) (append_none (names_of old.files.items)))
              ∙ ap (λ (told : Option (List Doc)). places start (names_of old.files.items) ++ option_and_then (λ docs. place docs href) told ∷ []) within.done.between.documents
              ∙ sym (map_append (place_told start) (names_of old.files.items) (href ∷ []));
          first = first_like start old.limits new.limits name (names_of old.files.items ++ href ∷ []) (names_of old.files.items ++ href ∷ []) fails.2 refl (first_wanted start o name old href acts read wanted wants within);
          ids = ids_back ∙ within.ids ∙ ap (λ (l : List Going). and_more start.open_ids (ids_of l)) (sym fails.0);
          counts = counts_then start o p within.counts (counts_then o q p (subst (SameCounts o) (sym does) (record { doc = refl; main = refl; out = refl; note = refl })) (counts_closed q p id closes));
          at = tt;
          lacks = tt;
          once = if_some start.open_ids (λ ids once. none_quiet (acts ++ Open doc id ∷ []) closed.acts (none_quiet acts (Open doc id ∷ []) once.none_behind (quiet_open doc id)) (quiet_closes closed.acts closed.closes)) within.once;
        },
        stays_then old.limits name start acts (acts ++ Open doc id ∷ []) ((acts ++ Open doc id ∷ []) ++ closed.acts) (stays_opened old.limits name start acts doc id) (stays_closed old.limits name start (acts ++ Open doc id ∷ []) closed.acts closed.closes),
      )

-- the file is absent
module _ (o p : Outside) (old : Reading) (href : List ℕ) (y : Standing) (held : IsHeld o old) (may : MayOpen o href Absent) (does : Opens o href Absent p) (misses : MissesIt old.loader y) (names : y.names ≡ old.loader.names) (over : is_over y.progress ≡ true) where
  pub absent_steps : (name : List ℕ) → IsRead name old [] → wanted_in old.loader.progress ≡ Some href → WantsFile old.going.items old.loader → StepsTo name o p old (record old { loader = y }) (Ok tt)
  absent_steps name read wanted wants =
      let front = wants.last.0 in
      let g = wants.last.1 in
      let was : IsReadBy old.limits name (front ++ g ∷ []) old.files.items old.loader old.left [] = read_like old.limits name old.going.items (front ++ g ∷ []) old.files.items old.files.items old.loader old.loader old.left old.left [] (sym wants.last.2) refl refl refl read in
      let missed : List Seen = record { name = href; came = Gone } ∷ [] in (
        missed,
        read_like old.limits name (front ++ g ∷ []) old.going.items old.files.items old.files.items y y old.left old.left missed wants.last.2 refl refl refl
            (absent_read old.limits name comes_to_one front g old.files.items old.loader old.left was href wanted wants.here wants.last.3.0 wants.last.3.1 y misses names over),
        over_wants_none y.progress over,
        λ start acts within. (acts ++ Open None 0 ∷ [], within_absent start o old.limits old.going.items old.files.items acts within held p href may does, stays_opened old.limits name start acts None 0),
        refl,
      )

-- it couldn't be opened
pub unopened_steps : (o p : Outside) (old : Reading) (file : List ℕ) → IsHeld o old → MayOpen o file Failed → DocFault o p → (name : List ℕ) → IsRead name old [] → wanted_in old.loader.progress ≡ Some file → WantsFile old.going.items old.loader
    → (start : Outside) (acts : List Act) → IsWithin start o old.going.items old.files.items [] acts → (halted : IsHalted name start p old (halt.Unopened file)) × StayUndecided old.limits name start acts halted.acts
unopened_steps o p old file held may fault name read wanted wants start acts within = (
  record {
    acts = acts ++ [];
    done = done_then start o p acts [] within.done (done_open o p file Failed may fault);
    names = names_of old.files.items;
    opened = ap opens (append_none acts) ∙ within.opened ∙ ap (places start) (append_none (names_of old.files.items));
    first = first_wanted start o name old file acts read wanted wants within;
    ids = ap (λ (x : Outside). x.open_ids) fault.alone ∙ within.ids;
    counts = counts_failed start o p within.counts fault;
    at = tt;
    lacks = subst (λ (l : List Act). LacksRoom start (needed l [] [])) (sym (append_none acts)) (halts_lacking start o old.going.items old.files.items [] acts within held.numbered for_id (omega arith) (omega arith) refl refl may);
    once = if_some start.open_ids (λ ids once. subst NoneBehindEnd (sym (append_none acts)) once.none_behind) within.once;
  },
  stays_none old.limits name start acts,
)
