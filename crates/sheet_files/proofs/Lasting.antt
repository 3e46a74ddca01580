-- The innermost file among those that are being read, before and behind a step of its reader.
use Rattle.std.proofs.Common.{◌≡◌, ℕ, zero, suc, ◌+◌, ◌-◌, ◌<◌, ◌≤◌, true, false, List, [], ◌∷◌, ◌++◌, length, take, get_or, None, Result, Ok, Err, OnOk, slice_set, refl, sym, ap, subst, ◌∙◌, arith}
use Rattle.std.specs.Vec.{vec_len}
use Rattle.stx_base.specs.declared.fault.XmlFault.{XmlFault}
use Rattle.stx_base.specs.declared.limits.Limits.{Limits}
use Rattle.stx_host.specs.Outside.{Closes, Outside}
use Rattle.stx_host.specs.declared.act.Act.{Act}
use Rattle.stx_host.specs.declared.act.Doc.{Doc}
use Rattle.xml_events.specs.Answering.{Goes}
use Rattle.xml_events.specs.Source.{IsAnswer, Keeps, Leaves, events_left}
use Rattle.xml_events.specs.Telling.{pulled}
use Rattle.xml_events.specs.declared.event.Pull.TheVariants as pull
use Rattle.sheet_loader.proofs.Ending.{comes_to_one}
use Rattle.sheet_loader.proofs.Resuming.{cuts_list, takes_element}
use Rattle.sheet_loader.specs.Files.{changed}
use Rattle.sheet_loader.specs.Loaders.{EndsBad, Standing, is_over, wanted_in}
use Rattle.sheet_files.specs.Held.{AreHeld, IsHeld, IsWithin, kept_most, turns_left, turns_of}
use Rattle.sheet_files.specs.Reading.{IsRead, IsReadBy, WantsBytes}
use Rattle.sheet_files.specs.Steps as steps
use Rattle.sheet_files.specs.Steps.{Lessens, StepsTo}
use Rattle.sheet_files.specs.declared.going.Going.{Going}
use Rattle.sheet_files.specs.declared.reading.Halt.{Halt}
use Rattle.sheet_files.specs.declared.reading.Reading.{Reading}
use Rattle.sheet_files.proofs.Changing.{within_left}
use Rattle.sheet_files.proofs.Coming.{leave_read, left_files}
use Rattle.sheet_files.proofs.Doing.{has_closed}
use Rattle.sheet_files.proofs.Holding.{held_same, limited_front}
use Rattle.sheet_files.proofs.Opening.{append_none}
use Rattle.sheet_files.proofs.Seeing.{length_changed, snoc_same}
use Rattle.sheet_files.proofs.Staying.{stays_closed, stays_none, stays_then}
use Rattle.sheet_files.proofs.Stepping.{held_like, over_files, read_like, within_like, within_same}
use Rattle.sheet_files.proofs.Turning.{bad_read, need_read, some_last}
use Rattle.sheet_files.proofs.Turns.{event_turns, leave_turns, need_turns}

-- the last of a list, by its length
pub record StandsLast (xs : List Going) (len : ℕ) (g : Going) : Type 0 where
  pub counted : len ≡ length xs
  pub some : 0 < length xs
  pub here : g ≡ get_or xs (len - 1) g

pub last_by : (xs : List Going) (g : Going) (n : ℕ) → length xs ≡ suc n → xs ≡ take n xs ++ get_or xs n g ∷ []
last_by [] g n e = absurd (omega (arith, e))
last_by (x ∷ []) g zero e = refl
last_by (x ∷ []) g (suc n) e = absurd (omega (arith, e))
last_by (x ∷ y ∷ xs) g zero e = absurd (omega (arith, e))
last_by (x ∷ y ∷ xs) g (suc n) e = ap (λ (l : List Going). x ∷ l) (last_by (y ∷ xs) g n (omega (arith, e)))

set_by : (xs : List Going) (h : Going) (n : ℕ) → length xs ≡ suc n → slice_set xs n h ≡ take n xs ++ h ∷ []
set_by [] h n e = absurd (omega (arith, e))
set_by (x ∷ []) h zero e = refl
set_by (x ∷ []) h (suc n) e = absurd (omega (arith, e))
set_by (x ∷ y ∷ xs) h zero e = absurd (omega (arith, e))
set_by (x ∷ y ∷ xs) h (suc n) e = ap (λ (l : List Going). x ∷ l) (set_by (y ∷ xs) h n (omega (arith, e)))

left_like : (a b : Going) (l : List Doc) → a.number ≡ b.number → a.bytes.items ≡ b.bytes.items → left_files a l ≡ left_files b l
left_like a b l n same = ap (λ (k : ℕ). changed (λ (d : Doc). record d { bytes = a.bytes.items }) k l) n ∙ ap (λ (bs : List ℕ). changed (λ (d : Doc). record d { bytes = bs }) b.number l) same

module _ (old : Reading) (was : Going) (last : StandsLast old.going.items (vec_len old.going) was) where
  abbrev pub front : List Going
  front = take (vec_len old.going - 1) old.going.items

  counted : length old.going.items ≡ suc (vec_len old.going - 1)
  counted = let a = last.counted in let b = last.some in omega (arith, a, b)

  pub was_is : old.going.items ≡ front ++ was ∷ []
  was_is = last_by old.going.items was (vec_len old.going - 1) counted ∙ ap (λ (g : Going). front ++ g ∷ []) (sym last.here)

  pub read_was : (name : List ℕ) → IsRead name old [] → IsReadBy old.limits name (front ++ was ∷ []) old.files.items old.loader old.left []
  read_was name read = read_like old.limits name old.going.items (front ++ was ∷ []) old.files.items old.files.items old.loader old.loader old.left old.left [] (sym was_is) refl refl refl read

  -- no more was taken than was given
  pub taken_within : (name : List ℕ) → IsRead name old [] → is_over old.loader.progress ≡ false → wanted_in old.loader.progress ≡ None → was.taken ≤ length was.bytes.items
  taken_within name read on none =
      let l = some_last old.limits name comes_to_one front was old.files.items old.loader old.left (read_was name read) on none in
      let le = (l.follows.going on).0.within in
      let same = ap length (l.bytes ∙ append_none was.bytes.items) in
      omega (arith, le, same)

  pub held_was : (o : Outside) → IsHeld o old → AreHeld o old.limits (front ++ was ∷ []) (length old.files.items)
  held_was o held = held_like o old.limits old.limits old.going.items (front ++ was ∷ []) (length old.files.items) (length old.files.items) (sym was_is) refl refl held

  pub within_was : (start o : Outside) (acts : List Act) → IsWithin start o old.going.items old.files.items [] acts → IsWithin start o (front ++ was ∷ []) old.files.items [] acts
  within_was start o acts within = within_like start o old.going.items (front ++ was ∷ []) old.files.items old.files.items [] acts (sym was_is) refl within

  module _ (is : Going) where
    abbrev pub swapped : List Going
    swapped = slice_set old.going.items (vec_len old.going - 1) is

    pub now_is : swapped ≡ front ++ is ∷ []
    now_is = set_by old.going.items is (vec_len old.going - 1) counted

    -- it is open as before
    pub held_swapped : (o p : Outside) → IsHeld o old → is.id ≡ was.id → is.number ≡ was.number → is.reader.lexer.limits ≡ was.reader.lexer.limits → p.open_ids ≡ o.open_ids → AreHeld p old.limits swapped (length old.files.items)
    held_swapped o p held id number lim ids =
        let h = held_was o held in
        held_like p old.limits old.limits (front ++ is ∷ []) swapped (length old.files.items) (length old.files.items) now_is refl refl
        (held_same o p old.limits front was is (length old.files.items) h id number (lim ∙ (limited_front old.limits front was h.limited).2) ids)

    -- its reader alone goes on
    pub within_swapped : (start o : Outside) (acts : List Act) → IsHeld o old → is.id ≡ was.id → is.number ≡ was.number → is.bytes.items ≡ was.bytes.items → is.reader.lexer.ended ≡ was.reader.lexer.ended
        → IsWithin start o old.going.items old.files.items [] acts → IsWithin start o swapped old.files.items [] (acts ++ [])
    within_swapped start o acts held id number bytes ended within =
        within_like start o (front ++ is ∷ []) swapped old.files.items old.files.items [] (acts ++ []) now_is refl
        (within_same start o old.limits front was is old.files.items acts (held_was o held) id number bytes ended (within_was start o acts within))

    pub last_limits : (o : Outside) → AreHeld o old.limits swapped (length old.files.items) → is.reader.lexer.limits ≡ old.limits
    last_limits o held = (limited_front old.limits front is (held_like o old.limits old.limits swapped (front ++ is ∷ []) (length old.files.items) (length old.files.items) (sym now_is) refl refl held).limited).2

    read_swapped : (name : List ℕ) (y : Standing) → IsReadBy old.limits name (front ++ is ∷ []) old.files.items y old.left [] → IsReadBy old.limits name swapped old.files.items y old.left []
    read_swapped name y read = read_like old.limits name (front ++ is ∷ []) swapped old.files.items old.files.items y y old.left old.left [] now_is refl refl refl read

    -- more bytes are wanted
    pub need_swapped : (name : List ℕ) → IsRead name old [] → is_over old.loader.progress ≡ false → wanted_in old.loader.progress ≡ None → is.number ≡ was.number → is.bytes.items ≡ was.bytes.items → is.taken ≡ was.taken
        → IsAnswer was.reader pull.Need → Leaves was.reader pull.Need is.reader → Goes was.reader pull.Need is.reader → is.reader.lexer.ended ≡ was.reader.lexer.ended → IsReadBy old.limits name swapped old.files.items old.loader old.left []
    need_swapped name read on none number bytes taken answer leaves goes ended =
        read_swapped name old.loader (need_read old.limits name comes_to_one front was old.files.items old.loader old.left (read_was name read) on none cuts_list takes_element is number bytes taken answer leaves goes ended)

    pub need_wants : IsAnswer was.reader pull.Need → Leaves was.reader pull.Need is.reader → Goes was.reader pull.Need is.reader → is.reader.lexer.ended ≡ was.reader.lexer.ended → WantsBytes swapped
    need_wants answer leaves goes ended = (front, is, now_is, (ap pulled (leaves [] false) ∙ answer.0, ended ∙ answer.1, goes.0, goes.1))

    -- the file has a fault
    pub bad_swapped : (name : List ℕ) (y : Standing) (fault : XmlFault) → IsRead name old [] → is_over old.loader.progress ≡ false → wanted_in old.loader.progress ≡ None → is.number ≡ was.number → is.bytes.items ≡ was.bytes.items → is.taken ≡ was.taken
        → IsAnswer was.reader (pull.Bad fault) → Leaves was.reader (pull.Bad fault) is.reader → Goes was.reader (pull.Bad fault) is.reader → is.reader.lexer.ended ≡ was.reader.lexer.ended
        → EndsBad fault old.loader.progress y.progress → y.names ≡ old.loader.names → is_over y.progress ≡ true → IsReadBy old.limits name swapped old.files.items y old.left []
    bad_swapped name y fault read on none number bytes taken answer leaves goes ended bad names over =
        read_swapped name y
        (bad_read old.limits name comes_to_one front was old.files.items old.loader old.left (read_was name read) on none cuts_list takes_element is y fault number bytes taken answer leaves goes ended bad names over (over_files y.names y.progress over))

    -- how often files may be turned to

    pub turns_event : events_left is.reader < events_left was.reader → is.reader.lexer.ended ≡ was.reader.lexer.ended
        → turns_left old.limits old.left (length old.files.items) swapped + 1 ≤ turns_of old
    turns_event less ended =
        subst (λ (l : List Going). turns_left old.limits old.left (length old.files.items) l + 1 ≤ turns_of old) (sym now_is)
        (subst (λ (l : List Going). turns_left old.limits old.left (length old.files.items) (front ++ is ∷ []) + 1 ≤ turns_left old.limits old.left (length old.files.items) l) (sym was_is)
        (event_turns old.limits old.left (length old.files.items) front was is less ended))

    pub turns_need : Keeps is.reader → is.reader.over ≡ None → is.reader.lexer.limits ≡ old.limits → is.reader.lexer.ended ≡ was.reader.lexer.ended
        → turns_left old.limits old.left (length old.files.items) swapped ≤ turns_of old + kept_most old.limits
    turns_need keeps over lim ended =
        subst (λ (l : List Going). turns_left old.limits old.left (length old.files.items) l ≤ turns_of old + kept_most old.limits) (sym now_is)
        (subst (λ (l : List Going). turns_left old.limits old.left (length old.files.items) (front ++ is ∷ []) ≤ turns_left old.limits old.left (length old.files.items) l + kept_most old.limits) (sym was_is)
        (need_turns old.limits old.left (length old.files.items) front was is keeps over lim ended))

  -- its reader told the end, and it was given back
  module _ (name : List ℕ) (o p : Outside) (is : Going) (mid new : Reading) (held : IsHeld o old) (same : mid.going.items ≡ swapped is) (files : mid.files.items ≡ old.files.items) (loader : mid.loader ≡ old.loader) (left : mid.left ≡ old.left) (limits : mid.limits ≡ old.limits)
      (leaves : steps.Leaves o p mid new) (id : is.id ≡ was.id) (number : is.number ≡ was.number) (bytes : is.bytes.items ≡ was.bytes.items) (ended : is.reader.lexer.ended ≡ was.reader.lexer.ended)
      (lim : is.reader.lexer.limits ≡ was.reader.lexer.limits) where
    both : (leaves.front ≡ front) × (leaves.last ≡ is)
    both = snoc_same leaves.front front leaves.last is (sym leaves.was ∙ same ∙ now_is is)

    front_is : new.going.items ≡ front
    front_is = leaves.now ∙ both.0

    files_is : new.files.items ≡ left_files was old.files.items
    files_is = leaves.files ∙ ap (left_files leaves.last) files ∙ ap (λ (g : Going). left_files g old.files.items) both.1 ∙ left_like is was old.files.items number bytes

    pub end_steps : IsRead name old [] → is_over old.loader.progress ≡ false → wanted_in old.loader.progress ≡ None → IsAnswer was.reader pull.End → Goes was.reader pull.End is.reader → StepsTo name o p old new (Ok tt)
    end_steps read on none answer goes =
        let was_read = read_was name read in
        let whole = (((some_last old.limits name comes_to_one front was old.files.items old.loader old.left was_read on none).follows.going on).0.over goes).0 in
        let now = leave_read old.limits name comes_to_one front was old.files.items old.loader old.left was_read on none is.reader answer goes in
        let at = read_like old.limits name front new.going.items (left_files was old.files.items) new.files.items old.loader new.loader old.left new.left [] front_is files_is (leaves.others.0 ∙ loader) (leaves.others.1 ∙ left) now in
        let closes = subst (λ (g : Going). Closes o g.id p) both.1 leaves.closes in
        let held_is = held_same o o old.limits front was is (length old.files.items) (held_was o held) id number (lim ∙ (limited_front old.limits front was (held_was o held).limited).2) refl in (
          [],
          subst (λ (l : Limits). IsReadBy l name new.going.items new.files.items new.loader new.left []) (sym (leaves.others.2 ∙ limits)) at,
          ap (λ (x : Standing). wanted_in x.progress) (leaves.others.0 ∙ loader) ∙ none,
          λ start acts within.
              let w = within_same start o old.limits front was is old.files.items acts (held_was o held) id number bytes ended (within_was start o acts within) in
              let more = within_left start o old.limits front is old.files.items (acts ++ []) w held_is p (ended ∙ whole) closes in
              let closed = has_closed o p is.id (limited_front old.limits front is held_is.limited).1 closes in (
                (acts ++ []) ++ closed.acts,
                within_like start p front new.going.items (left_files is old.files.items) new.files.items [] ((acts ++ []) ++ closed.acts) front_is (files_is ∙ sym (left_like is was old.files.items number bytes)) more,
                stays_then old.limits name start acts (acts ++ []) ((acts ++ []) ++ closed.acts) (stays_none old.limits name start acts) (stays_closed old.limits name start (acts ++ []) closed.acts closed.closes),
              ),
          leaves.others.2 ∙ limits,
        )

    pub end_less : turns_of new < turns_of old
    end_less =
        let same = ap (λ (l : Limits). turns_left l new.left (length new.files.items) new.going.items) (leaves.others.2 ∙ limits) in
        let count = ap length files_is ∙ length_changed (λ (d : Doc). record d { bytes = was.bytes.items }) was.number old.files.items in
        let now : turns_of new ≡ turns_left old.limits old.left (length old.files.items) front =
        same ∙ ap (λ (n : ℕ). turns_left old.limits n (length new.files.items) new.going.items) (leaves.others.1 ∙ left)
        ∙ ap (λ (n : ℕ). turns_left old.limits old.left n new.going.items) count ∙ ap (turns_left old.limits old.left (length old.files.items)) front_is in
        let less = leave_turns old.limits old.left (length old.files.items) front was in
        subst (λ (n : ℕ). n < turns_of old) (sym now) (subst (λ (l : List Going). turns_left old.limits old.left (length old.files.items) front < turns_left old.limits old.left (length old.files.items) l) (sym was_is) less)

-- turns, from a moment that comes of another one
pub lessens_from : (old mid new : Reading) (t u : ℕ) (result : Result (Unit {0}) Halt) → mid.limits ≡ old.limits → t ≤ u → Lessens mid new t result → Lessens old new u result
lessens_from old mid new t u (Ok done) same le less = (less.0 ∙ same, λ on. let h = less.1 on in omega (arith, h, le))
lessens_from old mid new t u (Err why) same le less = less ∙ same

pub lessens_need : (old mid new : Reading) (k : ℕ) (result : Result (Unit {0}) Halt) → mid.limits ≡ old.limits → k ≡ kept_most old.limits → turns_of mid ≤ turns_of old + k → OnOk result (is_over new.loader.progress ≡ false → turns_of new + kept_most mid.limits < turns_of mid) → new.limits ≡ mid.limits → Lessens old new (turns_of old) result
lessens_need old mid new k (Ok done) same is le less limits =
    (limits ∙ same, λ on. let h : turns_of new + k < turns_of mid = subst (λ (n : ℕ). turns_of new + n < turns_of mid) (ap kept_most same ∙ sym is) (less on) in plain (turns_of new) k (turns_of mid) (turns_of old) h le) where
      plain : (a k b c : ℕ) → a + k < b → b ≤ c + k → a < c
      plain a k b c h le = omega arith
lessens_need old mid new k (Err why) same is le less limits = limits ∙ same
