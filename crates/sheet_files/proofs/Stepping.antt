-- What the steps of reading come to, by what the program keeps before and behind them.
use Rattle.std.proofs.Common.{◌≡◌, ℕ, suc, ◌+◌, ◌<◌, ◌≤◌, Bool, true, false, List, [], ◌∷◌, ◌++◌, length, drop, Option, Some, None, IfSome, Result, Ok, Err, refl, sym, ap, subst, ◌∙◌, arith, append_assoc, length-append, inl, inr}
use Rattle.std.proofs.lemmas.Bool.{eq-eqb, false≢true, ne_eqb}
use Rattle.std.specs.Option.{option_map}
use Rattle.std.specs.Prelude.{if◌then◌else◌}
use Rattle.stx_base.specs.declared.limits.Limits.{Limits}
use Rattle.stx_host.proofs.ToCome.{with_here, with_other}
use Rattle.stx_host.specs.Outside.{Outside, Reads, SameCounts}
use Rattle.stx_host.specs.declared.act.Act.{Act}
use Rattle.stx_host.specs.declared.act.Act.TheVariants.{Read}
use Rattle.stx_host.specs.declared.act.Doc.{Doc}
use Rattle.stx_host.specs.declared.act.Got.TheVariants.{Bytes, End}
use Rattle.xml_events.specs.Source.{Source}
use Rattle.sheet_loader.specs.Lists.{FilesAre}
use Rattle.sheet_loader.specs.Loaders.{Standing, is_over, wanted_in}
use Rattle.sheet_loader.specs.Remaining.{Ended, Progress, Reads_on, Refused_at, Spent, Wants_file}
use Rattle.sheet_files.specs.Acts.{read_behind}
use Rattle.sheet_files.specs.Held.{AreHeld, IsWithin, came_of}
use Rattle.sheet_files.specs.Opened.{Begun, IsOf, Seen, Whole}
use Rattle.sheet_files.specs.Reading.{IsRead, IsReadBy}
use Rattle.sheet_files.specs.Steps.{Gets, StayUndecided, StepsTo}
use Rattle.sheet_files.specs.declared.going.Going.{Going}
use Rattle.sheet_files.specs.declared.reading.Halt.{Halt}
use Rattle.sheet_files.specs.declared.reading.Reading.{Reading}
use Rattle.sheet_files.proofs.Doing.{counts_none, done_bytes, done_end, done_nothing}
use Rattle.sheet_files.proofs.Ends.{goes_nothing, goes_once}
use Rattle.sheet_files.proofs.Opening.{append_none}
use Rattle.sheet_files.proofs.Within.{GoesOnTo, Spares, some_at, within_goes}

-- the same of what is the same

pub read_like : (limits : Limits) (name : List ℕ) (a b : List Going) (files more : List Doc) (x y : Standing) (left less : ℕ) (missing : List Seen) → b ≡ a → more ≡ files → y ≡ x → less ≡ left → IsReadBy limits name a files x left missing → IsReadBy limits name b more y less missing
read_like limits name a b files more x y left less missing going same loader rest read =
    subst (λ (n : ℕ). IsReadBy limits name b more y n missing) (sym rest)
    (subst (λ (z : Standing). IsReadBy limits name b more z left missing) (sym loader)
    (subst (λ (l : List Doc). IsReadBy limits name b l x left missing) (sym same) (subst (λ (l : List Going). IsReadBy limits name l files x left missing) (sym going) read)))

pub within_like : (start o : Outside) (a b : List Going) (files more : List Doc) (missing : List Seen) (acts : List Act) → b ≡ a → more ≡ files → IsWithin start o a files missing acts → IsWithin start o b more missing acts
within_like start o a b files more missing acts going same within =
    subst (λ (l : List Doc). IsWithin start o b l missing acts) (sym same) (subst (λ (l : List Going). IsWithin start o l files missing acts) (sym going) within)

pub held_like : (o : Outside) (limits lim : Limits) (a b : List Going) (n m : ℕ) → b ≡ a → m ≡ n → lim ≡ limits → AreHeld o limits a n → AreHeld o lim b m
held_like o limits lim a b n m going count same held =
    subst (λ (l : Limits). AreHeld o l b m) (sym same) (subst (λ (k : ℕ). AreHeld o limits b k) (sym count) (subst (λ (l : List Going). AreHeld o limits l n) (sym going) held))

-- a loader that is over wants no file
pub over_wants_none : (p : Progress) → is_over p ≡ true → wanted_in p ≡ None
over_wants_none (Ended items l) over = refl
over_wants_none (Refused_at at why) over = refl
over_wants_none Spent over = refl
over_wants_none (Reads_on s) over = refl
over_wants_none (Wants_file href s) over = cc

pub over_files : (names : List (List ℕ)) (p : Progress) → is_over p ≡ true → FilesAre names p
over_files names (Ended items l) over = tt
over_files names (Refused_at at why) over = tt
over_files names Spent over = tt
over_files names (Reads_on s) over = cc
over_files names (Wants_file href s) over = cc

stays_by : (name : List ℕ) (old mid : Reading) → mid.limits ≡ old.limits → (start : Outside) (a b c : List Act) → StayUndecided old.limits name start a b → StayUndecided mid.limits name start b c → StayUndecided old.limits name start a c
stays_by name old mid limits start a b c x y h = subst (λ (l : Limits). StayUndecided l name start b c) limits y (x h)

-- one step after another
steps_on : (name : List ℕ) (o q p : Outside) (old mid new : Reading) (result : Result (Unit {0}) Halt) → mid.limits ≡ old.limits
    → ((start : Outside) (acts : List Act) → IsWithin start o old.going.items old.files.items [] acts → (more : List Act) × IsWithin start q mid.going.items mid.files.items [] more × StayUndecided old.limits name start acts more)
    → StepsTo name q p mid new result → StepsTo name o p old new result
steps_on name o q p old mid new (Ok done) limits between steps = (
  steps.0,
  steps.1,
  steps.2,
  λ start acts within.
      let w = between start acts within in
      let s = steps.3 start w.0 w.1 in
      (s.0, s.1, stays_by name old mid limits start acts w.0 s.0 w.2 s.2),
  steps.4 ∙ limits,
)
steps_on name o q p old mid new (Err why) limits between steps =
    λ start acts within.
    let w = between start acts within in
    let s = steps start w.0 w.1 in
    (s.0, stays_by name old mid limits start acts w.0 s.0.acts w.2 s.1)

-- from a moment that comes of another one
pub steps_from : (name : List ℕ) (o p : Outside) (old mid new : Reading) (result : Result (Unit {0}) Halt) → mid.limits ≡ old.limits
    → ((start : Outside) (acts : List Act) → IsWithin start o old.going.items old.files.items [] acts → (more : List Act) × IsWithin start o mid.going.items mid.files.items [] more × StayUndecided old.limits name start acts more)
    → StepsTo name o p mid new result → StepsTo name o p old new result
steps_from name o p old mid new result limits between steps = steps_on name o o p old mid new result limits between steps

-- how far a file came whose bytes and end are the same
came_like : (rest : List ℕ) (a b : List ℕ) (x y : Bool) → b ≡ a → y ≡ x → IsOf (Some (a ++ rest)) (if x then Whole a else Begun a) → IsOf (Some (b ++ rest)) (if y then Whole b else Begun b)
came_like rest a b x y bytes ended is =
    subst (λ (z : Bool). IsOf (Some (b ++ rest)) (if z then Whole b else Begun b)) (sym ended) (subst (λ (l : List ℕ). IsOf (Some (l ++ rest)) (if x then Whole l else Begun l)) (sym bytes) is)

-- a reader alone goes on
pub same_goes : (o : Outside) (was is : Going) → is.id ≡ was.id → is.number ≡ was.number → is.bytes.items ≡ was.bytes.items → is.reader.lexer.ended ≡ was.reader.lexer.ended → GoesOnTo o o [] was is
same_goes o was is id number bytes ended =
    record {
      done = done_nothing o;
      opens_none = refl;
      ids = refl;
      id = id;
      number = number;
      counts = counts_none o;
      rest = λ rest to_come came. (rest, to_come, ap (λ (l : List ℕ). l ++ rest) (sym bytes), came_like rest was.bytes.items is.bytes.items was.reader.lexer.ended is.reader.lexer.ended bytes ended came);
      apart = λ k apart. refl;
      read = ap length (sym bytes);
      given = λ b. refl;
      spares = λ k apart. (λ b. refl, λ b. refl);
      once = goes_nothing was is ended;
      gives_none = λ count before id. refl;
    }

pub within_same : (start o : Outside) (limits : Limits) (front : List Going) (was is : Going) (files : List Doc) (acts : List Act) → AreHeld o limits (front ++ was ∷ []) (length files) → is.id ≡ was.id → is.number ≡ was.number → is.bytes.items ≡ was.bytes.items → is.reader.lexer.ended ≡ was.reader.lexer.ended
    → IsWithin start o (front ++ was ∷ []) files [] acts → IsWithin start o (front ++ is ∷ []) files [] (acts ++ [])
within_same start o limits front was is files acts held id number bytes ended within = within_goes start o limits front was files acts within held o is [] (same_goes o was is id number bytes ended)

piece_spares : (id n : ℕ) → Spares id (Read id n ∷ [])
piece_spares id n k apart = (λ b. ap (λ (x : Bool). if x then b + n else b) (ne_eqb id k (λ h. apart (sym h))), λ b. refl)

piece_read : (id n b : ℕ) → read_behind b id (Read id n ∷ []) ≡ b + n
piece_read id n b = ap (λ (x : Bool). if x then b + n else b) (eq-eqb id id refl)

no_more : (n : ℕ) → n + 0 ≡ n
no_more n = omega arith

taken_told : (told : Option (List ℕ)) (rest piece : List ℕ) → told ≡ Some rest → IfSome told (λ bytes. bytes ≡ piece ++ drop (length piece) bytes) → rest ≡ piece ++ drop (length piece) rest
taken_told told rest piece e h = some_at (λ bytes. bytes ≡ piece ++ drop (length piece) bytes) told rest e h

module _ (o p : Outside) (g h : Going) (some : 0 < g.id) (not_ended : g.reader.lexer.ended ≡ false) (piece : List ℕ)
    (next : IfSome (o.to_come g.id) (λ bytes. bytes ≡ piece ++ drop (length piece) bytes)) (bytes : h.bytes.items ≡ g.bytes.items ++ piece) (id : h.id ≡ g.id) (number : h.number ≡ g.number) (reader : h.reader ≡ g.reader) where
  begun_now : (left : List ℕ) → IsOf (Some (h.bytes.items ++ left)) (came_of h)
  begun_now left =
      subst (λ (b : Bool). IsOf (Some (h.bytes.items ++ left)) (if b then Whole h.bytes.items else Begun h.bytes.items)) (sym (ap (λ (s : Source). s.lexer.ended) reader ∙ not_ended)) (left, refl)

  piece_goes : 0 < length piece → length piece ≤ 4096 → Reads o g.id (Bytes (length piece)) p → GoesOnTo o p (Read g.id (length piece) ∷ []) g h
  piece_goes more few reads =
      record {
        done = done_bytes o p g.id (length piece) some few reads;
        opens_none = refl;
        ids = ap (λ (q : Outside). q.open_ids) reads;
        id = id;
        number = number;
        counts = subst (SameCounts o) (sym reads) (record { doc = refl; main = refl; out = refl; note = refl });
        rest = λ rest to_come came.
            let n = length piece in
            let whole : rest ≡ piece ++ drop n rest = taken_told (o.to_come g.id) rest piece to_come next in (
              drop n rest,
              ap (λ (q : Outside). q.to_come g.id) reads
                  ∙ with_here o.to_come g.id (option_map (λ (b : List ℕ). drop n b) (o.to_come g.id)) ∙ ap (λ (t : Option (List ℕ)). option_map (λ (b : List ℕ). drop n b) t) to_come,
              ap (λ (l : List ℕ). g.bytes.items ++ l) whole ∙ sym (append_assoc g.bytes.items piece (drop n rest)) ∙ ap (λ (l : List ℕ). l ++ drop n rest) (sym bytes),
              begun_now (drop n rest),
            );
        apart = λ k apart. ap (λ (q : Outside). q.to_come k) reads ∙ with_other o.to_come g.id (option_map (λ (b : List ℕ). drop (length piece) b) (o.to_come g.id)) k apart;
        read = piece_read g.id (length piece) (length g.bytes.items) ∙ sym (ap length bytes ∙ length-append g.bytes.items piece);
        given = λ b. refl;
        spares = piece_spares g.id (length piece);
        once = goes_once g h (length piece) not_ended (λ on zero. absurd (omega (arith, zero, more)));
        gives_none = λ count before id. refl;
      }

-- a look at the innermost file, where more bytes are wanted
pub gets_goes : (o p : Outside) (g h : Going) → 0 < g.id → g.reader.lexer.ended ≡ false → (gets : Gets o p g h) → GoesOnTo o p gets.acts g h
gets_goes o p g h some not_ended gets =
    elim gets.done [
      | inl e ↦ let none : h.bytes.items ≡ g.bytes.items = gets.bytes ∙ ap (λ (l : List ℕ). g.bytes.items ++ l) e.1 ∙ append_none g.bytes.items in
          let same = same_goes o g h gets.others.0 gets.others.1 none (ap (λ (s : Source). s.lexer.ended) gets.others.2) in
          subst (λ (l : List Act). GoesOnTo o p l g h) (sym e.0) (subst (λ (q : Outside). GoesOnTo o q [] g h) (sym e.2) same)
      | inr e ↦ subst (λ (l : List Act). GoesOnTo o p l g h) (sym e.0) (piece_goes o p g h some not_ended gets.piece gets.next gets.bytes gets.others.0 gets.others.1 gets.others.2 e.2 e.4 e.3)
    ]

-- its end was told
pub end_goes : (o p : Outside) (g h : Going) → 0 < g.id → g.reader.lexer.ended ≡ false → IfSome (o.to_come g.id) (λ bytes. bytes ≡ []) → Reads o g.id End p → h.id ≡ g.id → h.number ≡ g.number → h.bytes.items ≡ g.bytes.items → h.reader.lexer.ended ≡ true → GoesOnTo o p (Read g.id 0 ∷ []) g h
end_goes o p g h some not_ended none reads id number bytes ended =
    record {
      done = done_end o p g.id some reads;
      opens_none = refl;
      ids = ap (λ (q : Outside). q.open_ids) reads;
      id = id;
      number = number;
      counts = subst (SameCounts o) (sym reads) (record { doc = refl; main = refl; out = refl; note = refl });
      rest = λ rest to_come came.
          let empty : rest ≡ [] = some_at (λ bytes. bytes ≡ []) (o.to_come g.id) rest to_come none in (
            [],
            ap (λ (q : Outside). q.to_come g.id) reads ∙ to_come ∙ ap (λ (l : List ℕ). Some l) empty,
            ap (λ (l : List ℕ). g.bytes.items ++ l) empty ∙ ap (λ (l : List ℕ). l ++ []) (sym bytes),
            subst (λ (b : Bool). IsOf (Some (h.bytes.items ++ [])) (if b then Whole h.bytes.items else Begun h.bytes.items)) (sym ended) (ap (λ (l : List ℕ). Some l) (append_none h.bytes.items)),
          );
      apart = λ k apart. ap (λ (q : Outside). q.to_come k) reads;
      read = piece_read g.id 0 (length g.bytes.items) ∙ no_more (length g.bytes.items) ∙ ap length (sym bytes);
      given = λ b. refl;
      spares = piece_spares g.id 0;
      once = goes_once g h 0 not_ended (λ on zero. false≢true (sym on ∙ ended));
      gives_none = λ count before id. refl;
    }

-- reading that is to begin
pub steps_begin : (name : List ℕ) (o : Outside) (r : Reading) → IsRead name r [] → wanted_in r.loader.progress ≡ None → StepsTo name o o r r (Ok tt)
steps_begin name o r read none = ([], read, none, λ start acts within. (acts, within, λ undecided. undecided), refl)

-- where it went on, and isn't over
pub still_read : (name : List ℕ) (o p : Outside) (old now : Reading) → is_over now.loader.progress ≡ false → StepsTo name o p old now (Ok tt) → IsRead name now []
still_read name o p old now on steps = subst (λ (m : List Seen). IsRead name now m) (steps.1.none on) steps.1

-- a step more
pub steps_then : (name : List ℕ) (o q p : Outside) (old mid new : Reading) (result : Result (Unit {0}) Halt) → is_over mid.loader.progress ≡ false → StepsTo name o q old mid (Ok tt) → (IsRead name mid [] → StepsTo name q p mid new result) → StepsTo name o p old new result
steps_then name o q p old mid new result on steps next =
    let read = still_read name o q old mid on steps in
    steps_on name o q p old mid new result steps.4 between (next read) where
      between : (start : Outside) (acts : List Act) → IsWithin start o old.going.items old.files.items [] acts → (more : List Act) × IsWithin start q mid.going.items mid.files.items [] more × StayUndecided old.limits name start acts more
      between start acts within =
          let w = steps.3 start acts within in
          (w.0, subst (λ (m : List Seen). IsWithin start q mid.going.items mid.files.items m w.0) (steps.1.none on) w.1, w.2)

-- how often the loop may go round
abbrev pub rounds_left : (is_over : Bool) → (turns : ℕ) → ℕ
rounds_left true turns = 0
rounds_left false turns = suc turns

pub rounds_less : (before now : Bool) (old new : ℕ) → before ≡ false → (now ≡ false → new < old) → rounds_left now new < rounds_left before old
rounds_less true now old new e less = absurd (false≢true (sym e))
rounds_less false true old new e less = omega arith
rounds_less false false old new e less = let h = less refl in omega (arith, h)
