-- Runs whose parts are put, and bodies that write buffers.
use Rattle.std.proofs.Common.{◌≡◌, ℕ, zero, suc, ◌+◌, ◌<◌, Bool, false, List, [], ◌∷◌, ◌++◌, length, map, reverse, Option, Some, None, All, refl, ap, sym, subst, ◌∙◌, arith}
use Rattle.std.proofs.lemmas.Bool.{false≢true}
use Rattle.std.proofs.lemmas.List.{length-map, reverse-append}
use Rattle.std.proofs.lemmas.List.Elements.{All-cons, All-head, All-tail}
use Rattle.std.specs.List.{Contains, slice_get}
use Rattle.std.specs.Option.{option_map_or}
use Rattle.std.specs.Prelude.{Result, Ok, Err, OnOk, drop, slice_set, unwrap_or}
use Rattle.event_buffers.specs.Buffers.{Buffer, none}
use Rattle.event_buffers.specs.Told.{told}
use Rattle.event_buffers.specs.declared.kept.Kept.{Kept}
use Rattle.frame_stack.specs.Change.{changed, with_pc}
use Rattle.frame_stack.specs.Stack.{FrameStack, with_frames}
use Rattle.frame_stack.specs.declared.frame.Frame.{Frame}
use Rattle.frame_stack.specs.declared.frame.Frame.TheVariants.{Body, Call, Attributes, Loop, Region, Source, Skip, Pass}
use Rattle.instr_code.specs.declared.code.Op.{Op}
use Rattle.instr_code.specs.declared.code.Op.TheVariants as op
use Rattle.template_machine.specs.Bodies.{on_body, pc_in}
use Rattle.template_machine.specs.Contexts.{AroundBuffer, Context, Goes, HasForm, HasStations, Station, within}
use Rattle.template_machine.specs.Lists.{rest_of}
use Rattle.template_machine.specs.Puts.{BeginsWriting, EndsWriting, NewestIsFree, OnlyPuts, newest_written, shelves_of}
use Rattle.template_machine.specs.Sections.{HoldStill}
use Rattle.template_machine.specs.Standing.{Free, Read, Room, Shelf, Standing, Usage, Written, known_now, on_shelf, read_closed, rooms_of, shelf_at, shelf_of, standing_of, usage_of, writing_over, written_closed}
use Rattle.template_machine.specs.Steps.{Sees}
use Rattle.template_machine.specs.Moments.{IsAtOp, StandsAsBefore}
use Rattle.template_machine.specs.Well.{AreWell, AreWithin, AreWritten, BodyGoesOn, GoesOn, IsSteady, IsWell, TellWithin, WaitBehind, buffers_of, read_from}
use Rattle.template_machine.specs.declared.program.Link.{Link}
use Rattle.template_machine.specs.declared.program.Program.{Program}
use Rattle.template_machine.specs.declared.putting.Putting.{Putting}
use Rattle.template_machine.specs.declared.run.Run.{Run}
use Rattle.template_machine.specs.declared.run.Running.{Running}
use Rattle.template_machine.proofs.Branching.{one_form}
use Rattle.template_machine.proofs.Moving.{BodyIs, body_moves, goes_at, moves, moves_pc, some_level}
use Rattle.template_machine.proofs.Operating.{at_body, behind_pc, fits_moves, level_moves, some_context, tell_moves}
use Rattle.template_machine.proofs.Shelved.{stands_on, stands_still}

-- Parts that are put where they went.

same_standing : (r : Run) (new : Putting) → StandsAsBefore r.putting new → standing_of (record r { putting = new }) ≡ standing_of r
same_standing r new s =
    ap (λ ts. record (standing_of r) { targets = reverse ts; shelves = shelves_of new }) s.targets
    ∙ ap (λ ss. record (standing_of r) { shelves = ss }) s.shelves

put_steady : (p : Program) (r : Run) (new : Putting) → StandsAsBefore r.putting new → IsSteady p r → IsSteady p (record r { putting = new })
put_steady p r new stands s =
    let same = same_standing r new stands in
    record {
      sheet = s.sheet;
      limits = s.limits;
      sound = s.sound;
      program = s.program;
      places = s.places;
      groups = s.groups;
      buffers = sym (length-map new.buffers.buffers shelf_of) ∙ ap length stands.shelves ∙ length-map r.putting.buffers.buffers shelf_of ∙ s.buffers;
      source = s.source;
      outer = s.outer;
      shallow = s.shallow;
      written = subst (λ (x : Standing). AreWritten x.targets x.shelves) (sym same) s.written;
      copied = s.copied;
      shelved = subst (λ (x : Standing). All (λ (y : Shelf). 0 < length y.copies) x.shelves) (sym same) s.shelved;
      within = subst (λ (x : Standing). TellWithin (reverse r.frames.frames) (rooms_of r) x.shelves) (sym same) s.within;
      deep = stands.holds.deep p.buffer_depth s.deep;
      sections = stands.holds.sections s.sections;
      aside = s.aside;
    }

pub put_well : (p : Program) (r : Run) (new : Putting) → StandsAsBefore r.putting new → IsWell p r → IsWell p (record r { putting = new })
put_well p r new stands w = record {
  steady = put_steady p r new stands w.steady;
  stations = w.stations;
  stand = w.stand;
  apart = w.apart;
  goes_on =
      subst (λ (x : Standing). GoesOn p w.stations r.doing r.source.ahead (reverse r.frames.frames) x (known_now r)) (sym (same_standing r new stands)) w.goes_on;
}

pub only_still : (a : Run) → OnlyPuts a a
only_still a = record { rest = refl; stands = stands_still a.putting }

pub only_puts : (a : Run) (new : Putting) → StandsAsBefore a.putting new → OnlyPuts a (record a { putting = new })
only_puts a new s = record { rest = refl; stands = s }

pub only_on : (a b c : Run) → OnlyPuts a b → OnlyPuts b c → OnlyPuts a c
only_on a b c x y = record {
  rest = y.rest ∙ ap (λ (r : Run). record r { putting = c.putting }) x.rest;
  stands = stands_on a.putting b.putting c.putting x.stands y.stands;
}

pub puts_well : (p : Program) (r t : Run) → OnlyPuts r t → IsWell p r → IsWell p t
puts_well p r t o w = subst (IsWell p) (sym o.rest) (put_well p r t.putting o.stands w)

pub puts_at : (p : Program) (r t : Run) (running : Running) (x : Op) → OnlyPuts r t → IsAtOp p r running x → IsAtOp p t running x
puts_at p r t running x o at =
    subst (λ (y : Run). IsAtOp p y running x) (sym o.rest)
    (record { well = put_well p r t.putting o.stands at.well; doing = at.doing; body = at.body; pc = at.pc; is = at.is })

pub puts_sees : (p : Program) (r t : Run) (body : ℕ) → OnlyPuts r t → Sees p r body → Sees p t body
puts_sees p r t body o s =
    subst (λ (y : Run). Sees p y body) (sym o.rest)
    (record {
      level = s.level;
      level_is = s.level_is;
      group = s.group;
      group_is = s.group_is;
      test = s.test;
      test_is = s.test_is;
      told = s.told;
      parents = s.parents;
      sized = s.sized;
      root = s.root;
    })

-- Shelves.

shelf_length : (f : List Usage → List Usage) (xs : List Shelf) (id : ℕ) → length (on_shelf f id xs) ≡ length xs
shelf_length f [] id = refl
shelf_length f (x ∷ xs) zero = refl
shelf_length f (x ∷ xs) (suc id) = ap suc (shelf_length f xs id)

free_within : (xs : List Shelf) (id : ℕ) → NewestIsFree (shelf_at xs id).copies → id < length xs
free_within [] id h = absurd h
free_within (x ∷ xs) zero h = omega arith
free_within (x ∷ xs) (suc id) h = omega (arith, free_within xs id h)

closes : (us : List Usage) → NewestIsFree us → written_closed (newest_written us) ≡ us
closes [] h = absurd h
closes (Free ∷ us) h = refl
closes (Written ∷ us) h = absurd h
closes (Read held ∷ us) h = absurd h

reopens : (xs : List Shelf) (id : ℕ) → NewestIsFree (shelf_at xs id).copies → on_shelf written_closed id (on_shelf newest_written id xs) ≡ xs
reopens [] id h = absurd h
reopens (x ∷ xs) zero h = ap (λ us. record { group = x.group; copies = us } ∷ xs) (closes x.copies h)
reopens (x ∷ xs) (suc id) h = ap (λ l. x ∷ l) (reopens xs id h)

written_there : (us : List Usage) → NewestIsFree us → Contains (newest_written us) Written
written_there [] h = absurd h
written_there (u ∷ us) h = (0, omega arith, refl)

opened_there : (xs : List Shelf) (id : ℕ) → NewestIsFree (shelf_at xs id).copies → Contains (shelf_at (on_shelf newest_written id xs) id).copies Written
opened_there [] id h = absurd h
opened_there (x ∷ xs) zero h = written_there x.copies h
opened_there (x ∷ xs) (suc id) h = opened_there xs id h

abbrev pub HasCopy : Shelf → Type 0
HasCopy x = 0 < length x.copies

copies_stay : (f : List Usage → List Usage) → ((us : List Usage) → length (f us) ≡ length us) → (xs : List Shelf) (id : ℕ) → All HasCopy xs
    → All HasCopy (on_shelf f id xs)
copies_stay f long [] id h = h
copies_stay f long (x ∷ xs) zero h =
    let one : 0 < length x.copies = All-head HasCopy x xs h in
    All-cons HasCopy (record x { copies = f x.copies }) xs (omega (arith, one, long x.copies)) (All-tail HasCopy x xs h)
copies_stay f long (x ∷ xs) (suc id) h =
    All-cons HasCopy x (on_shelf f id xs) (All-head HasCopy x xs h) (copies_stay f long xs id (All-tail HasCopy x xs h))

opened_long : (us : List Usage) → length (newest_written us) ≡ length us
opened_long [] = refl
opened_long (u ∷ us) = refl

closed_long : (us : List Usage) → length (written_closed us) ≡ length us
closed_long [] = refl
closed_long (Free ∷ us) = ap suc (closed_long us)
closed_long (Written ∷ us) = refl
closed_long (Read held ∷ us) = ap suc (closed_long us)

-- What is read of them.

abbrev pub reads_of : List Usage → List (List Kept)
reads_of [] = []
reads_of (Free ∷ us) = reads_of us
reads_of (Written ∷ us) = reads_of us
reads_of (Read held ∷ us) = held ∷ reads_of us

abbrev pub reads : Shelf → List (List Kept)
reads x = reads_of x.copies

pub first_read : List (List Kept) → Option (List Kept)
first_read [] = None
first_read (held ∷ more) = Some held

pub read_first : (us : List Usage) → read_from us ≡ first_read (reads_of us)
unfolding first_read
read_first [] = refl
read_first (Free ∷ us) = read_first us
read_first (Written ∷ us) = read_first us
read_first (Read held ∷ us) = refl

reads_closed : (us : List Usage) → reads_of (read_closed us) ≡ rest_of (reads_of us)
reads_closed [] = refl
reads_closed (Free ∷ us) = reads_closed us
reads_closed (Written ∷ us) = reads_closed us
reads_closed (Read held ∷ us) = refl

pub reads_at : (xs : List Shelf) (id : ℕ) → reads (shelf_at xs id) ≡ unwrap_or (slice_get (map reads xs) id) []
reads_at [] id = refl
reads_at (x ∷ xs) zero = refl
reads_at (x ∷ xs) (suc id) = reads_at xs id

reads_taken : (xs : List Shelf) (id : ℕ) → map reads (on_shelf read_closed id xs) ≡ slice_set (map reads xs) id (rest_of (unwrap_or (slice_get (map reads xs) id) []))
reads_taken [] id = refl
reads_taken (x ∷ xs) zero = ap (λ l. l ∷ map reads xs) (reads_closed x.copies)
reads_taken (x ∷ xs) (suc id) = ap (λ l. reads x ∷ l) (reads_taken xs id)

reads_opened : (xs : List Shelf) (id : ℕ) → NewestIsFree (shelf_at xs id).copies → map reads (on_shelf newest_written id xs) ≡ map reads xs
reads_opened [] id h = refl
reads_opened (x ∷ xs) zero h = ap (λ l. l ∷ map reads xs) (of_free x.copies h) where
  of_free : (us : List Usage) → NewestIsFree us → reads_of (newest_written us) ≡ reads_of us
  of_free [] f = refl
  of_free (Free ∷ us) f = refl
  of_free (Written ∷ us) f = refl
  of_free (Read held ∷ us) f = absurd f
reads_opened (x ∷ xs) (suc id) h = ap (λ l. reads x ∷ l) (reads_opened xs id h)

pub reads_shut : (xs : List Shelf) (id : ℕ) → map reads (on_shelf written_closed id xs) ≡ map reads xs
reads_shut [] id = refl
reads_shut (x ∷ xs) zero = ap (λ l. l ∷ map reads xs) (of_written x.copies) where
  of_written : (us : List Usage) → reads_of (written_closed us) ≡ reads_of us
  of_written [] = refl
  of_written (Free ∷ us) = of_written us
  of_written (Written ∷ us) = refl
  of_written (Read held ∷ us) = ap (λ l. held ∷ l) (of_written us)
reads_shut (x ∷ xs) (suc id) = ap (λ l. reads x ∷ l) (reads_shut xs id)

-- what is told keeps its bounds, whatever else is done to the buffers
pub tells_alike : (fs : List Frame) (rooms : List Room) (xs ys : List Shelf) → map reads ys ≡ map reads xs → TellWithin fs rooms xs → TellWithin fs rooms ys
tells_alike [] rooms xs ys same t = tt
tells_alike (Source (Some id) next asked ∷ fs) [] xs ys same t = absurd t
tells_alike (Source (Some id) next asked ∷ fs) (r ∷ rs) xs ys same t =
    let at : read_from (shelf_at xs id).copies ≡ read_from (shelf_at ys id).copies =
    read_first (shelf_at xs id).copies
    ∙ ap first_read (reads_at xs id ∙ ap (λ l. unwrap_or (slice_get l id) []) (sym same) ∙ sym (reads_at ys id))
    ∙ sym (read_first (shelf_at ys id).copies) in (
      subst (λ o. AreWithin r.limit r.begun (option_map_or (λ held. told (drop r.next held)) o [])) at t.0,
      tells_alike fs rs (on_shelf read_closed id xs) (on_shelf read_closed id ys)
          (reads_taken ys id ∙ ap (λ l. slice_set l id (rest_of (unwrap_or (slice_get l id) []))) same ∙ sym (reads_taken xs id)) t.1,
    )
tells_alike (Source None next asked ∷ fs) [] xs ys same t = absurd t
tells_alike (Source None next asked ∷ fs) (r ∷ rs) xs ys same t = tells_alike fs rs xs ys same t
tells_alike (Body template alternative pc locals level spent ∷ fs) rooms xs ys same t = tells_alike fs rooms xs ys same t
tells_alike (Call procedure pc locals level ∷ fs) rooms xs ys same t = tells_alike fs rooms xs ys same t
tells_alike (Attributes next asked ∷ fs) rooms xs ys same t = tells_alike fs rooms xs ys same t
tells_alike (Loop turn ∷ fs) rooms xs ys same t = tells_alike fs rooms xs ys same t
tells_alike (Region asked level ∷ fs) rooms xs ys same t = tells_alike fs rooms xs ys same t
tells_alike (Skip depth ∷ fs) rooms xs ys same t = tells_alike fs rooms xs ys same t
tells_alike (Pass base level spent ∷ fs) rooms xs ys same t = tells_alike fs rooms xs ys same t

-- A body that writes a buffer.

abbrev pub named_by : Program → (number : ℕ) → ℕ
named_by p n = option_map_or (λ (l : Link). l.named) (slice_get p.links n) 0

abbrev pub begun_with : (id : ℕ) → List Shelf → Standing → Standing
begun_with id ys s = record s { targets = id ∷ s.targets; shelves = ys }

abbrev pub ended_with : List ℕ → List Shelf → Standing → Standing
ended_with ids ys s = record s { targets = ids; shelves = ys }

module _ (p : Program) (stations : List Station) where
  begins : (fs : List Frame) (s : Standing) (pc n to id : ℕ) (ys : List Shelf) → HasStations p.code stations p.sheet → pc_in fs ≡ Some pc
      → slice_get p.code.ops pc ≡ Some (op.Open n to) → HasForm p.code n AroundBuffer → named_by p n ≡ id → on_shelf written_closed id ys ≡ s.shelves
      → AreWell p stations 0 false fs s → AreWell p stations 0 false (on_body (with_pc (pc + 1)) fs) (begun_with id ys s)
  begins fs s pc n to id ys stand at is has named shut w =
      let t = begun_with id ys s in
      moves p stations (with_pc (pc + 1)) (λ o. pc + 1) (λ l. l) (moves_pc (pc + 1)) 0 0 false false fs s t (some_level p stations fs pc at) w
      (λ c b.
      let g = goes_at p stations 0 false fs c s pc at b in
      let l = stand.leads pc (op.Open n to) c g.0 is g.1 in
      let same : l.0 ≡ AroundBuffer = one_form _ _ _ l.1.0 has in
      let d = record c { writing = n ∷ c.writing } in (
        d,
        (
          body_moves p stations (with_pc (pc + 1)) (λ o. pc + 1) (λ l. l) (moves_pc (pc + 1)) (λ n m. n ≡ m) (λ n m e. ap suc e)
              0 0 false false fs c d s t pc refl at b
              (λ whose k m locals level e body. record {
                there = subst (λ f. Goes stations (pc + 1) (within f n c)) same l.1.2;
                own = body.own;
                in_loops = body.in_loops ∙ e;
                locals_fit = body.locals_fit;
                asked = λ e. absurd (false≢true e);
                level_is = body.level_is;
                writes = (body.writes.0, ap (λ k. k ∷ s.targets) (sym named) ∙ ap (λ l. named_by p n ∷ l) body.writes.1);
              }),
          ap (λ ss. writing_over (buffers_of p c.writing) (record s { shelves = ss })) (ap (λ k. on_shelf written_closed k ys) named ∙ shut),
        ),
      ))

  ends : (fs : List Frame) (s : Standing) (pc n id : ℕ) (ids : List ℕ) → HasStations p.code stations p.sheet → pc_in fs ≡ Some pc
      → slice_get p.code.ops pc ≡ Some (op.Close n) → HasForm p.code n AroundBuffer → named_by p n ≡ id → s.targets ≡ id ∷ ids
      → AreWell p stations 0 false fs s
      → AreWell p stations 0 false (on_body (with_pc (pc + 1)) fs) (ended_with ids (on_shelf written_closed id s.shelves) s)
  ends fs s pc n id ids stand at is has named first w =
      let t = ended_with ids (on_shelf written_closed id s.shelves) s in
      moves p stations (with_pc (pc + 1)) (λ o. pc + 1) (λ l. l) (moves_pc (pc + 1)) 0 0 false false fs s t (some_level p stations fs pc at) w
      (λ c b.
      let g = goes_at p stations 0 false fs c s pc at b in
      let l = stand.leads pc (op.Close n) c g.0 is g.1 in
      let same : l.0 ≡ AroundBuffer = one_form _ _ _ l.1.0 has in
      let o = l.1.2.0 in
      let was : c ≡ record o { writing = n ∷ o.writing } = subst (λ f. c ≡ within f n o) same l.1.2.1.0 in
      let falls = l.1.2.1.1 in (
        o,
        (
          body_moves p stations (with_pc (pc + 1)) (λ o. pc + 1) (λ l. l) (moves_pc (pc + 1)) (λ n m. n ≡ m) (λ n m e. ap suc e)
              0 0 false false fs c o s t pc refl at b
              (λ whose k m locals level e body. record {
                there = (falls.0, falls.1.0);
                own = sym (ap (λ (x : Context). x.body) was) ∙ body.own;
                in_loops = sym (ap (λ (x : Context). x.loops) was) ∙ body.in_loops ∙ e;
                locals_fit = subst (λ (x : Context). WaitBehind 0 locals x.locals) was body.locals_fit;
                asked = λ e. absurd (false≢true e);
                level_is = body.level_is;
                writes = (
                  body.writes.0,
                  behind_first id (named_by p n) ids (buffers_of p o.writing ++ body.writes.0)
                      (sym first ∙ body.writes.1 ∙ ap (λ (x : Context). buffers_of p x.writing ++ body.writes.0) was),
                );
              }),
          ap (λ ts. writing_over (buffers_of p o.writing) (record s { targets = ts; shelves = on_shelf written_closed id s.shelves })) (sym (ap rest_of first))
              ∙ ap (λ k. writing_over (buffers_of p o.writing) (record s { targets = rest_of s.targets; shelves = on_shelf written_closed k s.shelves })) (sym named)
              ∙ ap (λ (x : Context). writing_over (buffers_of p x.writing) s) (sym was),
        ),
      ))
    where
      behind_first : (x y : ℕ) (xs ys : List ℕ) → x ∷ xs ≡ y ∷ ys → xs ≡ ys
      behind_first x y xs ys e = cc

-- the body goes on, and others are written
other_standing : (p : Program) (r : Run) (running : Running) {o : Op} (new : Putting) (frames : FrameStack) (t : Standing) → (at : IsAtOp p r running o)
    → standing_of (record r { putting = new; frames = frames }) ≡ record (standing_of r) { targets = t.targets; shelves = t.shelves }
    → length new.buffers.buffers ≡ length p.sheet.buffers → AreWritten t.targets t.shelves → All HasCopy t.shelves
    → HoldStill r.putting.buffers new.buffers → (gs : List Frame) → reverse frames.frames ≡ gs → TellWithin gs (rooms_of r) t.shelves
    → BodyGoesOn p at.well.stations gs (record (standing_of r) { targets = t.targets; shelves = t.shelves }) (known_now r)
    → IsWell p (record r { putting = new; frames = frames })
other_standing p r running new frames t at is long written shelved holds gs same told goes =
    let h = at.well.steady in
    let x = record (standing_of r) { targets = t.targets; shelves = t.shelves } in
    record {
      steady = record {
        sheet = h.sheet;
        limits = h.limits;
        sound = h.sound;
        program = h.program;
        places = h.places;
        groups = h.groups;
        buffers = long;
        source = h.source;
        outer = h.outer;
        shallow = h.shallow;
        written = subst (λ (y : Standing). AreWritten y.targets y.shelves) (sym is) written;
        copied = h.copied;
        shelved = subst (λ (y : Standing). All HasCopy y.shelves) (sym is) shelved;
        within =
            subst (λ (y : Standing). TellWithin (reverse frames.frames) (rooms_of r) y.shelves) (sym is)
            (subst (λ l. TellWithin l (rooms_of r) t.shelves) (sym same) told);
        deep = holds.deep p.buffer_depth h.deep;
        sections = holds.sections h.sections;
        aside = h.aside;
      };
      stations = at.well.stations;
      stand = at.well.stand;
      apart = at.well.apart;
      goes_on =
          subst (λ d. GoesOn p at.well.stations d r.source.ahead (reverse frames.frames) (standing_of (record r { putting = new; frames = frames })) (known_now r)) (sym at.doing)
          (subst (λ (y : Standing). BodyGoesOn p at.well.stations (reverse frames.frames) y (known_now r)) (sym is)
          (subst (λ l. BodyGoesOn p at.well.stations l x (known_now r)) (sym same) goes));
    }

-- what the innermost body writes
writes_of : (p : Program) (stations : List Station) (loops : ℕ) (waits : Bool) (fs : List Frame) (c : Context) (s : Standing) → BodyIs p stations loops waits fs c s
    → (outer : List ℕ) × (s.targets ≡ buffers_of p c.writing ++ outer)
writes_of p stations loops waits [] c s b = absurd b
writes_of p stations loops waits (Loop turn ∷ fs) c s b = writes_of p stations (suc loops) waits fs c s b
writes_of p stations loops waits (Body template alternative pc locals level spent ∷ fs) c s b = b.writes
writes_of p stations loops waits (Call procedure pc locals level ∷ fs) c s b = b.writes
writes_of p stations loops waits (Attributes next asked ∷ fs) c s b = absurd b
writes_of p stations loops waits (Region asked level ∷ fs) c s b = absurd b
writes_of p stations loops waits (Source buffer next asked ∷ fs) c s b = absurd b
writes_of p stations loops waits (Skip depth ∷ fs) c s b = absurd b
writes_of p stations loops waits (Pass base level spent ∷ fs) c s b = absurd b

-- its number's buffer is the first
pub writes_first : (p : Program) (r : Run) (running : Running) (n : ℕ) (at : IsAtOp p r running (op.Close n)) → HasForm p.code n AroundBuffer
    → (ids : List ℕ) × (reverse r.putting.targets ≡ named_by p n ∷ ids)
writes_first p r running n at has =
    let x = some_context p r running (op.Close n) at in
    let fs = reverse r.frames.frames in
    let g = goes_at p at.well.stations 0 false fs x.0 (standing_of r) running.pc at.pc x.1 in
    let l = at.well.stand.leads running.pc (op.Close n) x.0 g.0 at.is g.1 in
    let same : l.0 ≡ AroundBuffer = one_form _ _ _ l.1.0 has in
    let o = l.1.2.0 in
    let was : x.0 ≡ record o { writing = n ∷ o.writing } = subst (λ f. x.0 ≡ within f n o) same l.1.2.1.0 in
    let ws = writes_of p at.well.stations 0 false fs x.0 (standing_of r) x.1 in
    (buffers_of p o.writing ++ ws.0, ws.1 ∙ ap (λ (y : Context). buffers_of p y.writing ++ ws.0) was)

pub buffer_begins : (p : Program) (r : Run) (running : Running) (n to id : ℕ) (new : Putting) (frames : FrameStack) → (at : IsAtOp p r running (op.Open n to))
    → HasForm p.code n AroundBuffer → named_by p n ≡ id → BeginsWriting id r.putting new
    → frames ≡ with_frames (changed (with_pc (running.pc + 1)) running.body r.frames.frames) r.frames
    → IsWell p (record r { putting = new; frames = frames })
buffer_begins p r running n to id new frames at has named b is =
    let fs = reverse r.frames.frames in
    let s = standing_of r in
    let pc = running.pc in
    let ys = on_shelf newest_written id s.shelves in
    let t = begun_with id ys s in
    let f : standing_of (record r { putting = new; frames = frames }) ≡ t =
    ap (λ ts. record s { targets = reverse ts; shelves = shelves_of new }) b.targets
    ∙ ap (λ ts. record s { targets = ts; shelves = shelves_of new }) (reverse-append r.putting.targets (id ∷ []))
    ∙ ap (λ ss. begun_with id ss s) b.shelves in
    let shut = reopens s.shelves id b.free in
    let h = at.well.steady in
    let goes = at_body p r running (op.Open n to) at in
    let moved = (behind_pc p r running (op.Open n to) at (pc + 1) frames is).0 in
    let told = tells_alike (on_body (with_pc (pc + 1)) fs) (rooms_of r) s.shelves ys (reads_opened s.shelves id b.free)
    (tell_moves (with_pc (pc + 1)) (λ o. pc + 1) (λ l. l) (moves_pc (pc + 1)) fs (rooms_of r) s.shelves goes.body h.within) in
    other_standing p r running new frames t at f
    (sym (length-map new.buffers.buffers shelf_of) ∙ ap length b.shelves ∙ shelf_length newest_written s.shelves id ∙ length-map r.putting.buffers.buffers shelf_of ∙ h.buffers)
    (omega (arith, free_within s.shelves id b.free, shelf_length newest_written s.shelves id), opened_there s.shelves id b.free, subst (AreWritten s.targets) (sym shut) h.written)
    (copies_stay newest_written opened_long s.shelves id h.shelved) b.holds
    (on_body (with_pc (pc + 1)) fs) moved told
    (record {
      body = level_moves (with_pc (pc + 1)) (λ o. pc + 1) (λ l. l) (moves_pc (pc + 1)) fs goes.body;
      well = begins p at.well.stations fs s pc n to id ys at.well.stand at.pc at.is has named shut goes.well;
      fits = fits_moves (with_pc (pc + 1)) (λ o. pc + 1) (λ l. l) (moves_pc (pc + 1)) fs s.source.way (known_now r).begun (known_now r).front goes.body goes.fits;
    })

pub buffer_ends : (p : Program) (r : Run) (running : Running) (n : ℕ) (new : Putting) (frames : FrameStack) → (at : IsAtOp p r running (op.Close n))
    → HasForm p.code n AroundBuffer → EndsWriting (named_by p n) r.putting new
    → frames ≡ with_frames (changed (with_pc (running.pc + 1)) running.body r.frames.frames) r.frames
    → IsWell p (record r { putting = new; frames = frames })
buffer_ends p r running n new frames at has b is =
    let id = named_by p n in
    let fs = reverse r.frames.frames in
    let s = standing_of r in
    let pc = running.pc in
    let ids = reverse new.targets in
    let ys = on_shelf written_closed id s.shelves in
    let t = ended_with ids ys s in
    let first : s.targets ≡ id ∷ ids = ap reverse b.targets ∙ reverse-append new.targets (id ∷ []) in
    let f : standing_of (record r { putting = new; frames = frames }) ≡ t = ap (λ ss. ended_with ids ss s) b.shelves in
    let h = at.well.steady in
    let goes = at_body p r running (op.Close n) at in
    let moved = (behind_pc p r running (op.Close n) at (pc + 1) frames is).0 in
    let told = tells_alike (on_body (with_pc (pc + 1)) fs) (rooms_of r) s.shelves ys (reads_shut s.shelves id)
    (tell_moves (with_pc (pc + 1)) (λ o. pc + 1) (λ l. l) (moves_pc (pc + 1)) fs (rooms_of r) s.shelves goes.body h.within) in
    let written : AreWritten (id ∷ ids) s.shelves = subst (λ l. AreWritten l s.shelves) first h.written in
    other_standing p r running new frames t at f
    (sym (length-map new.buffers.buffers shelf_of) ∙ ap length b.shelves ∙ shelf_length written_closed s.shelves id ∙ length-map r.putting.buffers.buffers shelf_of ∙ h.buffers)
    written.2
    (copies_stay written_closed closed_long s.shelves id h.shelved) b.holds
    (on_body (with_pc (pc + 1)) fs) moved told
    (record {
      body = level_moves (with_pc (pc + 1)) (λ o. pc + 1) (λ l. l) (moves_pc (pc + 1)) fs goes.body;
      well = ends p at.well.stations fs s pc n id ids at.well.stand at.pc at.is has refl first goes.well;
      fits = fits_moves (with_pc (pc + 1)) (λ o. pc + 1) (λ l. l) (moves_pc (pc + 1)) fs s.source.way (known_now r).begun (known_now r).front goes.body goes.fits;
    })

-- what holds anyway holds where a call succeeds
pub in_any : {A E : Type 0} (r : Result A E) (P : Type 0) → P → OnOk r P
in_any (Ok a) P h = h
in_any (Err e) P h = tt

-- each buffer has a copy
pub copies_there : (bs : List Buffer) (id : ℕ) → id < length bs → All HasCopy (map shelf_of bs) → 0 < length (unwrap_or (slice_get bs id) none).copies
copies_there [] id less h = absurd (omega arith)
copies_there (b ∷ bs) zero less h =
    let some : 0 < length (map (usage_of b.declared) b.copies) = All-head HasCopy (shelf_of b) (map shelf_of bs) h in
    omega (arith, some, length-map b.copies (usage_of b.declared))
copies_there (b ∷ bs) (suc id) less h = copies_there bs id (omega arith) (All-tail HasCopy (shelf_of b) (map shelf_of bs) h)
