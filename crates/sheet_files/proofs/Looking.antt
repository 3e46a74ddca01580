-- What comes of a look at the innermost file, whose reader wants more bytes.
use Rattle.std.proofs.Common.{◌≡◌, ℕ, suc, ◌+◌, ◌<◌, ◌≤◌, Bool, true, false, List, [], ◌∷◌, ◌++◌, length, get_or, Option, None, IfSome, Ok, Err, refl, sym, ap, subst, ◌∙◌, arith, inl, inr}
use Rattle.std.specs.Vec.{vec_len}
use Rattle.stx_base.specs.declared.limits.Limits.{Limits}
use Rattle.stx_host.specs.Outside.{LacksRoom, Outside, ReadFault, Reads, SameCounts, and_more, for_act}
use Rattle.stx_host.specs.declared.act.Act.{Act}
use Rattle.stx_host.specs.declared.act.Act.TheVariants.{Read}
use Rattle.stx_host.specs.declared.act.Got.TheVariants.{End}
use Rattle.xml_events.specs.Source.{Source, ended_there, fed_with, future}
use Rattle.xml_events.specs.Telling.{pulled}
use Rattle.xml_events.specs.declared.event.Pull.TheVariants as pull
use Rattle.sheet_loader.proofs.Ending.{comes_to_one}
use Rattle.sheet_loader.proofs.Resuming.{cuts_list, takes_element}
use Rattle.sheet_loader.specs.Loaders.{EndsAtLimit, Standing, is_over, wanted_in}
use Rattle.sheet_files.specs.Acts.{opens}
use Rattle.sheet_files.specs.Held.{AreHeld, HaveDone, IsHeld, IsWithin, ids_of, kept_most, names_of, turns_left, turns_of}
use Rattle.sheet_files.specs.Opened.{places}
use Rattle.sheet_files.specs.Reading.{IsRead, IsReadBy, WantsBytes}
use Rattle.sheet_files.specs.Steps.{Gets, HandsOver, IsHalted, Looks, StayUndecided, StepsTo}
use Rattle.sheet_files.specs.declared.going.Going.{Going}
use Rattle.sheet_files.specs.declared.reading.Halt.{Halt}
use Rattle.sheet_files.specs.declared.reading.Halt.TheVariants as halt
use Rattle.sheet_files.specs.declared.reading.Reading.{Reading}
use Rattle.sheet_files.proofs.Acting.{opens_more}
use Rattle.sheet_files.proofs.Asking.{asks_rightly, wants_facts}
use Rattle.sheet_files.proofs.Doing.{counts_failed, counts_then, done_bytes, done_then, done_unread}
use Rattle.sheet_files.proofs.Ends.{ReadsOn, reads_on, reads_once}
use Rattle.sheet_files.proofs.Giving.{byte_read, end_read, limit_read}
use Rattle.sheet_files.proofs.Halting.{first_like, first_told}
use Rattle.sheet_files.proofs.Holding.{held_same, ids_same, limited_front}
use Rattle.sheet_files.proofs.Lacking.{halts_lacking}
use Rattle.sheet_files.proofs.Lasting.{StandsLast, front, held_swapped, held_was, now_is, read_was, swapped, was_is, within_was}
use Rattle.sheet_files.proofs.Opening.{append_none}
use Rattle.sheet_files.proofs.Staying.{AsksRightly, stays_more, stays_none, stays_then}
use Rattle.sheet_files.proofs.Stepping.{end_goes, gets_goes, over_files, over_wants_none, read_like, within_like, within_same}
use Rattle.sheet_files.proofs.Turns.{byte_turns, end_turns}
use Rattle.sheet_files.proofs.Within.{given_front, if_at, some_at, within_goes}

module _ (old : Reading) (was : Going) (last : StandsLast old.going.items (vec_len old.going) was) (o q : Outside) (held : IsHeld o old) where
  abbrev before : List Going
  before = front old was last

  held_it : AreHeld o old.limits (before ++ was ∷ []) (length old.files.items)
  held_it = held_was old was last o held

  pub some_id : 0 < was.id
  some_id = (limited_front old.limits before was held_it.limited).1

  -- it couldn't be read
  module _ (new : Reading) (k : Going) (same : k ≡ was) (fault : ReadFault was.id o q) (lacks : LacksRoom o for_act) (going : new.going.items ≡ swapped old was last k) (files : new.files.items ≡ old.files.items) (limits : new.limits ≡ old.limits) where
    now_was : new.going.items ≡ before ++ was ∷ []
    now_was = going ∙ now_is old was last k ∙ ap (λ (g : Going). before ++ g ∷ []) same

    pub unread_halts : (name : List ℕ) → IsRead name old [] → (start : Outside) (acts : List Act) → IsWithin start o old.going.items old.files.items [] acts → (halted : IsHalted name start q new halt.Unread) × StayUndecided old.limits name start acts halted.acts
    unread_halts name read start acts within =
        let w = within_was old was last start o acts within in (
          record {
            acts = acts;
            done = subst (HaveDone start q) (append_none acts) (done_then start o q acts [] within.done (done_unread o q was.id fault));
            names = names_of old.files.items;
            opened = within.opened ∙ ap (places start) (append_none (names_of old.files.items));
            first = first_like start old.limits new.limits name (names_of old.files.items ++ []) (names_of old.files.items) limits (sym (append_none (names_of old.files.items))) (first_told start o old.limits name old.going.items old.files.items old.loader old.left [] acts read within);
            ids = ap (λ (x : Outside). x.open_ids) (fault.doc some_id).alone ∙ w.ids ∙ ap (λ (l : List Going). and_more start.open_ids (ids_of l)) (sym now_was);
            counts = counts_failed start o q within.counts (fault.doc some_id);
            once = if_at start.open_ids (λ s e. (some_at _ start.open_ids s e within.once).none_behind);
            lacks = halts_lacking start o old.going.items old.files.items [] acts within held.numbered for_act (omega arith) (omega arith) refl refl lacks;
            at = (before, was, now_was, ap names_of (sym files), if_at start.open_ids (λ s e. (given_front start acts (names_of old.files.items) before was (some_at _ start.open_ids s e w.given)).1));
          },
          λ undecided. undecided,
        )

  -- memory was wanting
  pub memory_halts : (new : Reading) (more : List Act) (k : Going) → HaveDone o q more → opens more ≡ [] → q.open_ids ≡ o.open_ids → SameCounts o q → ReadsOn more was → k.id ≡ was.id → new.going.items ≡ swapped old was last k → new.limits ≡ old.limits
      → (name : List ℕ) → IsRead name old [] → (start : Outside) (acts : List Act) → AsksRightly old.limits name start acts more → IsWithin start o old.going.items old.files.items [] acts → (halted : IsHalted name start q new halt.Memory) × StayUndecided old.limits name start acts halted.acts
  memory_halts new more k done none ids same reads id going limits name read start acts asks within =
      let w = within_was old was last start o acts within in (
        record {
          acts = acts ++ more;
          done = done_then start o q acts more within.done done;
          names = names_of old.files.items ++ [];
          opened = opens_more acts more ∙ ap (λ (l : List (Option ℕ)). opens acts ++ l) none ∙ append_none (opens acts) ∙ within.opened;
          first = first_like start old.limits new.limits name (names_of old.files.items ++ []) (names_of old.files.items ++ []) limits refl (first_told start o old.limits name old.going.items old.files.items old.loader old.left [] acts read within);
          ids = ids ∙ w.ids ∙ ap (and_more start.open_ids) (sym (ids_same before was k id)) ∙ ap (λ (l : List Going). and_more start.open_ids (ids_of l)) (sym (going ∙ now_is old was last k));
          counts = counts_then start o q within.counts same;
          at = tt;
          lacks = tt;
          once = if_at start.open_ids (λ s e. reads_on acts more before was (some_at _ start.open_ids s e w.once) reads);
        },
        stays_more old.limits name start acts more asks,
      )

  pub looks_held : (k : Going) (why : Halt) → Looks o q was k (Err why) → (k.id ≡ was.id) × (k.number ≡ was.number) × (k.reader ≡ was.reader) × (q.open_ids ≡ o.open_ids)
  looks_held k (halt.Unopened file) looks = absurd looks
  looks_held k halt.Unread looks = (ap (λ (g : Going). g.id) looks.0, ap (λ (g : Going). g.number) looks.0, ap (λ (g : Going). g.reader) looks.0, ap (λ (x : Outside). x.open_ids) (looks.1.doc some_id).alone)
  looks_held k halt.Memory looks = (looks.0, looks.1, looks.2, ap (λ (x : Outside). x.open_ids) looks.4.1)

  -- its reader wants bytes
  module _ (wants : WantsBytes old.going.items) where
    facts : (pulled (future was.reader [] false) ≡ pull.Need) × (was.reader.lexer.ended ≡ false) × (was.reader.over ≡ None) × (was.reader.known ≡ [])
    facts = wants_facts old was last wants

    pub not_ended : was.reader.lexer.ended ≡ false
    not_ended = facts.1

    -- it can't be looked at
    pub looks_halts : (name : List ℕ) → IsRead name old [] → is_over old.loader.progress ≡ false → wanted_in old.loader.progress ≡ None
        → (new : Reading) (k : Going) (why : Halt) → Looks o q was k (Err why) → new.going.items ≡ swapped old was last k → new.files.items ≡ old.files.items → new.limits ≡ old.limits
        → (start : Outside) (acts : List Act) → IsWithin start o old.going.items old.files.items [] acts → (halted : IsHalted name start q new why) × StayUndecided old.limits name start acts halted.acts
    looks_halts name read on none new k (halt.Unopened file) looks going files limits start acts within = absurd looks
    looks_halts name read on none new k halt.Unread looks going files limits start acts within = unread_halts new k looks.0 looks.1 looks.2 going files limits name read start acts within
    looks_halts name read on none new k halt.Memory looks going files limits start acts within =
        memory_halts new (Read was.id looks.4.0 ∷ []) k (done_bytes o q was.id looks.4.0 some_id looks.4.2 looks.4.1) refl (ap (λ (x : Outside). x.open_ids) looks.4.1) (subst (SameCounts o) (sym looks.4.1) (record { doc = refl; main = refl; out = refl; note = refl }))
        (reads_once was looks.4.0 not_ended) looks.0 going limits name read start acts (asks_rightly old was last o wants name read on none looks.3 start acts within looks.4.0) within

    -- It was looked at, and has a byte.
    module _ (k : Going) (gets : Gets o q was k) (within : k.taken < length k.bytes.items) where
      held_now : AreHeld q old.limits (before ++ k ∷ []) (length old.files.items)
      held_now =
          let goes = gets_goes o q was k some_id not_ended gets in
          held_same o q old.limits before was k (length old.files.items) held_it gets.others.0 gets.others.1 (ap (λ (s : Source). s.lexer.limits) gets.others.2 ∙ (limited_front old.limits before was held_it.limited).2) goes.ids

      -- what was read came where the sheet wasn't decided
      gets_ask : (name : List ℕ) → IsRead name old [] → is_over old.loader.progress ≡ false → wanted_in old.loader.progress ≡ None
          → (start : Outside) (acts : List Act) → IsWithin start o old.going.items old.files.items [] acts → AsksRightly old.limits name start acts gets.acts
      gets_ask name read on none start acts within =
          elim gets.done [
            | inl e ↦ subst (AsksRightly old.limits name start acts) (sym e.0) (λ ids docs i d reads. tt)
            | inr e ↦ subst (AsksRightly old.limits name start acts) (sym e.0) (asks_rightly old was last o wants name read on none e.1 start acts within (length gets.piece))
          ]

      -- memory was wanting then
      pub short_halts : (name : List ℕ) → IsRead name old [] → is_over old.loader.progress ≡ false → wanted_in old.loader.progress ≡ None → (new : Reading) (h : Going) → h.id ≡ k.id → new.going.items ≡ swapped old was last h → new.limits ≡ old.limits
          → (start : Outside) (acts : List Act) → IsWithin start o old.going.items old.files.items [] acts → (halted : IsHalted name start q new halt.Memory) × StayUndecided old.limits name start acts halted.acts
      short_halts name read on none new h id going limits start acts within =
          let goes = gets_goes o q was k some_id not_ended gets in
          memory_halts new gets.acts h goes.done goes.opens_none goes.ids goes.counts goes.once.reads (id ∙ gets.others.0) going limits name read start acts (gets_ask name read on none start acts within) within

      pub gets_held : (h : Going) → h.id ≡ k.id → h.number ≡ k.number → h.reader.lexer.limits ≡ k.reader.lexer.limits → AreHeld q old.limits (swapped old was last h) (length old.files.items)
      gets_held h id number lim =
          let goes = gets_goes o q was k some_id not_ended gets in
          held_swapped old was last h o q held (id ∙ gets.others.0) (number ∙ gets.others.1) (lim ∙ ap (λ (s : Source). s.lexer.limits) gets.others.2) goes.ids

      here : was.taken < length k.bytes.items
      here = let same = gets.others.3 in omega (arith, within, same)

      -- which is handed over
      module _ (h : Going) (hands : HandsOver k h) (new : Reading) (going : new.going.items ≡ swapped old was last h) (files : new.files.items ≡ old.files.items) (loader : new.loader ≡ old.loader) (limits : new.limits ≡ old.limits) (one : old.left ≡ suc new.left) where
        number : h.number ≡ was.number
        number = hands.others.1 ∙ gets.others.1

        bytes : h.bytes.items ≡ was.bytes.items ++ gets.piece
        bytes = ap (λ b. b.items) hands.others.2 ∙ gets.bytes

        fed_is : h.reader ≡ fed_with was.reader (hands.byte ∷ [])
        fed_is = hands.reader ∙ ap (λ (s : Source). fed_with s (hands.byte ∷ [])) gets.others.2

        ended_is : h.reader.lexer.ended ≡ k.reader.lexer.ended
        ended_is = ap (λ (s : Source). s.lexer.ended) hands.reader

        pub byte_steps : (name : List ℕ) → IsRead name old [] → is_over old.loader.progress ≡ false → wanted_in old.loader.progress ≡ None → StepsTo name o q old new (Ok tt)
        byte_steps name read on none =
            let taken = hands.taken in
            let same_taken = gets.others.3 in
            let same_bytes = ap length (ap (λ b. b.items) hands.others.2) in
            let is_byte = hands.is_byte ∙ ap (λ (l : List ℕ). get_or l k.taken 0) (sym (ap (λ b. b.items) hands.others.2)) ∙ ap (λ (n : ℕ). get_or h.bytes.items n 0) same_taken in
            let now = byte_read old.limits name comes_to_one cuts_list takes_element before was old.files.items old.loader old.left (read_was old was last name read) on none facts.0 facts.1 facts.2 facts.3 h gets.piece hands.byte new.left number bytes
            (omega (arith, within, same_taken, same_bytes)) is_byte fed_is (λ more e. hands.fed more e ∙ ap (λ (s : Source). future s (hands.byte ∷ more) e) gets.others.2) (omega (arith, taken, same_taken)) one in (
              [],
              subst (λ (l : Limits). IsReadBy l name new.going.items new.files.items new.loader new.left []) (sym limits)
                  (read_like old.limits name (before ++ h ∷ []) new.going.items old.files.items new.files.items old.loader new.loader new.left new.left [] (going ∙ now_is old was last h) files loader refl now),
              ap (λ (x : Standing). wanted_in x.progress) loader ∙ none,
              λ start acts w.
                  let looked = within_goes start o old.limits before was old.files.items acts (within_was old was last start o acts w) held_it q k gets.acts (gets_goes o q was k some_id not_ended gets) in (
                    (acts ++ gets.acts) ++ [],
                    within_like start q (before ++ h ∷ []) new.going.items old.files.items new.files.items [] ((acts ++ gets.acts) ++ []) (going ∙ now_is old was last h) files
                        (within_same start q old.limits before k h old.files.items (acts ++ gets.acts) held_now hands.others.0 hands.others.1 (ap (λ b. b.items) hands.others.2) ended_is looked),
                    stays_then old.limits name start acts (acts ++ gets.acts) ((acts ++ gets.acts) ++ []) (stays_more old.limits name start acts gets.acts (gets_ask name read on none start acts w)) (stays_none old.limits name start (acts ++ gets.acts)),
                  ),
              limits,
            )

        pub byte_less : turns_of new + kept_most old.limits < turns_of old
        byte_less =
            let less = byte_turns old.limits new.left (length old.files.items) before was h hands.byte not_ended fed_is in
            let now : turns_of new ≡ turns_left old.limits new.left (length old.files.items) (before ++ h ∷ []) =
            ap (λ (l : Limits). turns_left l new.left (length new.files.items) new.going.items) limits ∙ ap (λ (n : ℕ). turns_left old.limits new.left n new.going.items) (ap length files)
            ∙ ap (turns_left old.limits new.left (length old.files.items)) (going ∙ now_is old was last h) in
            let then : turns_of old ≡ turns_left old.limits (suc new.left) (length old.files.items) (before ++ was ∷ []) =
            ap (λ (n : ℕ). turns_left old.limits n (length old.files.items) old.going.items) one ∙ ap (turns_left old.limits (suc new.left) (length old.files.items)) (was_is old was last) in
            subst (λ (n : ℕ). n + kept_most old.limits < turns_of old) (sym now) (subst (λ (n : ℕ). turns_left old.limits new.left (length old.files.items) (before ++ h ∷ []) + kept_most old.limits < n) (sym then) less)

      -- the limit is reached
      module _ (new : Reading) (going : new.going.items ≡ swapped old was last k) (files : new.files.items ≡ old.files.items) (limits : new.limits ≡ old.limits) (left : new.left ≡ old.left) (nothing_left : old.left ≡ 0)
          (at_limit : EndsAtLimit k.taken old.loader.progress new.loader.progress) (names : new.loader.names ≡ old.loader.names) (over : is_over new.loader.progress ≡ true) where
        pub limit_steps : (name : List ℕ) → IsRead name old [] → is_over old.loader.progress ≡ false → wanted_in old.loader.progress ≡ None → StepsTo name o q old new (Ok tt)
        limit_steps name read on none =
            let ends = subst (λ (n : ℕ). EndsAtLimit n old.loader.progress new.loader.progress) gets.others.3 at_limit in
            let now = limit_read old.limits name comes_to_one cuts_list takes_element before was old.files.items old.loader old.left (read_was old was last name read) on none facts.0 facts.1 facts.2 facts.3 k gets.piece new.loader gets.others.1 gets.bytes here
            gets.others.2 gets.others.3 nothing_left ends names over (over_files new.loader.names new.loader.progress over) in (
              [],
              subst (λ (l : Limits). IsReadBy l name new.going.items new.files.items new.loader new.left []) (sym limits)
                  (read_like old.limits name (before ++ k ∷ []) new.going.items old.files.items new.files.items new.loader new.loader old.left new.left [] (going ∙ now_is old was last k) files refl left now),
              over_wants_none new.loader.progress over,
              λ start acts w. (
                acts ++ gets.acts,
                within_like start q (before ++ k ∷ []) new.going.items old.files.items new.files.items [] (acts ++ gets.acts) (going ∙ now_is old was last k) files
                    (within_goes start o old.limits before was old.files.items acts (within_was old was last start o acts w) held_it q k gets.acts (gets_goes o q was k some_id not_ended gets)),
                stays_more old.limits name start acts gets.acts (gets_ask name read on none start acts w),
              ),
              limits,
            )

    -- it has no more
    module _ (h : Going) (id : h.id ≡ was.id) (number : h.number ≡ was.number) (bytes : h.bytes.items ≡ was.bytes.items) (taken : h.taken ≡ was.taken) (no_more : length was.bytes.items ≤ was.taken) (ended : h.reader ≡ ended_there was.reader)
        (ended_so : (more : List ℕ) (e : Bool) → future h.reader more e ≡ future was.reader [] true) (none_come : IfSome (o.to_come was.id) (λ b. b ≡ [])) (reads : Reads o was.id End q)
        (new : Reading) (going : new.going.items ≡ swapped old was last h) (files : new.files.items ≡ old.files.items) (loader : new.loader ≡ old.loader) (limits : new.limits ≡ old.limits) (left : new.left ≡ old.left) where
      pub ends_steps : (name : List ℕ) → IsRead name old [] → is_over old.loader.progress ≡ false → wanted_in old.loader.progress ≡ None → StepsTo name o q old new (Ok tt)
      ends_steps name read on none =
          let now = end_read old.limits name comes_to_one cuts_list takes_element before was old.files.items old.loader old.left (read_was old was last name read) on none facts.0 facts.1 facts.2 facts.3 h number bytes taken no_more ended ended_so in (
            [],
            subst (λ (l : Limits). IsReadBy l name new.going.items new.files.items new.loader new.left []) (sym limits)
                (read_like old.limits name (before ++ h ∷ []) new.going.items old.files.items new.files.items old.loader new.loader old.left new.left [] (going ∙ now_is old was last h) files loader left now),
            ap (λ (x : Standing). wanted_in x.progress) loader ∙ none,
            λ start acts w. (
              acts ++ Read was.id 0 ∷ [],
              within_like start q (before ++ h ∷ []) new.going.items old.files.items new.files.items [] (acts ++ Read was.id 0 ∷ []) (going ∙ now_is old was last h) files
                  (within_goes start o old.limits before was old.files.items acts (within_was old was last start o acts w) held_it q h (Read was.id 0 ∷ []) (end_goes o q was h some_id not_ended none_come reads id number bytes (ap (λ (s : Source). s.lexer.ended) ended))),
              stays_more old.limits name start acts (Read was.id 0 ∷ []) (asks_rightly old was last o wants name read on none no_more start acts w 0),
            ),
            limits,
          )

      pub ends_less : turns_of new + kept_most old.limits < turns_of old
      ends_less =
          let less = end_turns old.limits old.left (length old.files.items) before was h not_ended ended in
          let now : turns_of new ≡ turns_left old.limits old.left (length old.files.items) (before ++ h ∷ []) =
          ap (λ (l : Limits). turns_left l new.left (length new.files.items) new.going.items) limits ∙ ap (λ (n : ℕ). turns_left old.limits n (length new.files.items) new.going.items) left
          ∙ ap (λ (n : ℕ). turns_left old.limits old.left n new.going.items) (ap length files) ∙ ap (turns_left old.limits old.left (length old.files.items)) (going ∙ now_is old was last h) in
          subst (λ (n : ℕ). n + kept_most old.limits < turns_of old) (sym now)
          (subst (λ (l : List Going). turns_left old.limits old.left (length old.files.items) (before ++ h ∷ []) + kept_most old.limits < turns_left old.limits old.left (length old.files.items) l) (sym (was_is old was last)) less)
