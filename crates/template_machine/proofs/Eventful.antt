-- The next event of a document or of a buffer is told.
use Rattle.std.proofs.Common.{◌≡◌, ◌≢◌, ℕ, suc, ◌≤◌, Bool, true, false, List, [], ◌∷◌, map, reverse, Option, Some, None, refl, sym, subst, ◌∙◌, ◌-◌, arith, ◌+◌}
use Rattle.stx_base.specs.declared.fault.Place.{Place}
use Rattle.frame_stack.specs.declared.frame.Frame.{Frame}
use Rattle.frame_stack.specs.declared.frame.Frame.TheVariants.{Body, Call, Attributes, Loop, Region, Source, Skip, Pass}
use Rattle.node_stack.specs.Stack.{path}
use Rattle.xml_events.specs.declared.event.Event.{Event}
use Rattle.template_machine.specs.Bodies.{takes_events}
use Rattle.template_machine.specs.Contexts.{Station}
use Rattle.template_machine.specs.Standing.{Room, Shelf, Standing, Unknown, known_now, region_over, room_of, scope_over, skip_over, standing_of, writing_over}
use Rattle.template_machine.specs.Ways.{way_of, IsWay, Way}
use Rattle.template_machine.specs.Moments.{HasTold, IsDocument, WantsEvent}
use Rattle.template_machine.specs.Well.{AreWell, AreWithin, IsStream, IsWell, ListGoesOn, TellWithin, begun_behind, buffers_of, is_again, over, ListFits}
use Rattle.template_machine.specs.declared.program.Program.{Program}
use Rattle.template_machine.specs.declared.run.Doing.TheVariants as doing
use Rattle.template_machine.specs.declared.run.Run.{Run}
use Rattle.template_machine.specs.declared.source.Ahead.TheVariants as ahead
use Rattle.template_machine.specs.declared.source.Origin.{Origin}
use Rattle.template_machine.specs.declared.source.Origin.TheVariants as origin
use Rattle.template_machine.proofs.Arriving.{known_nothing}
use Rattle.template_machine.proofs.Going.{same_steady}
use Rattle.template_machine.proofs.Looking.{list_goes, list_there}
use Rattle.template_machine.proofs.Sourcing.{source_stays}
use Rattle.template_machine.proofs.Streaming.{buffer_tells, first_on, over_same, scope_origin, skip_same, told_from, writing_origin}
use Rattle.event_buffers.specs.Sections.{tells_text}
use Rattle.template_machine.proofs.Holds.{event_text}
use Rattle.template_machine.proofs.Shelved.{stands_still}
use Rattle.std.proofs.lemmas.Bool.{false≢true}
use Rattle.template_machine.proofs.Nodes.{is_way}
use Rattle.template_machine.proofs.Ways.{lists_open}
use Rattle.xml_events.specs.declared.event.Event.TheVariants as event

-- a source that is a document
stream_document : (buffer : Option ℕ) (o : Origin) (xs : List Shelf) → IsStream buffer o xs → IsDocument o → buffer ≡ None
stream_document None o xs h d = refl
stream_document (Some id) origin.Main xs h d = absurd h
stream_document (Some id) (origin.Document at) xs h d = absurd h
stream_document (Some id) (origin.Buffer own at) xs h d = absurd d

module _ (p : Program) (stations : List Station) where
  -- What buffers tell doesn't hang on the innermost source, where that is a document.
  pub document_tells : (loops : ℕ) (waits : Bool) (fs : List Frame) (s : Standing) (r t : Room) (rs : List Room) (xs : List Shelf) → AreWell p stations loops waits fs s
      → IsDocument s.source.origin → TellWithin fs (r ∷ rs) xs → TellWithin fs (t ∷ rs) xs
  document_tells loops waits [] s r t rs xs w d h = tt
  document_tells loops waits (Loop turn ∷ fs) s r t rs xs w d h = document_tells (suc loops) waits fs s r t rs xs w d h
  document_tells loops waits (Body template alternative pc locals level spent ∷ fs) s r t rs xs w d h =
      let inner = writing_over (buffers_of p w.0.writing) s in
      let u = scope_over w.1.0.new_scope w.1.0.group inner in
      let o = over_same (is_again level fs) u in
      document_tells 0 true fs (over level fs u) r t rs xs w.1.1.4
      (subst IsDocument (sym (o.0 ∙ scope_origin w.1.0.new_scope w.1.0.group inner ∙ writing_origin (buffers_of p w.0.writing) s)) d) h
  document_tells loops waits (Call procedure pc locals level ∷ fs) s r t rs xs w d h =
      document_tells 0 false fs (writing_over (buffers_of p w.0.writing) s) r t rs xs w.1.1.3 (subst IsDocument (sym (writing_origin (buffers_of p w.0.writing) s)) d) h
  document_tells loops waits (Region asked level ∷ fs) s r t rs xs w d h =
      first_on s.aside _ (TellWithin fs (t ∷ rs) xs) w.3 (λ x others k. document_tells 0 true fs (region_over x others s) r t rs xs k.2 d h)
  document_tells loops waits (Attributes next asked ∷ fs) s r t rs xs w d h = document_tells 0 true fs s r t rs xs w.3 d h
  document_tells loops waits (Source None next asked ∷ fs) s r t rs xs w d h = h
  document_tells loops waits (Source (Some id) next asked ∷ fs) s r t rs xs w d h =
      let none : Some id ≡ None = stream_document (Some id) s.source.origin s.shelves w.3 d in absurd (cc)
  document_tells loops waits (Skip depth ∷ fs) s r t rs xs w d h =
      let o = skip_same s.aside s in document_tells 0 true fs (skip_over s) r t rs xs w.4 (subst IsDocument (sym o.0) d) h
  document_tells loops waits (Pass base level spent ∷ fs) s r t rs xs w d h =
      let o = over_same (is_again level fs) s in document_tells 0 true fs (over level fs s) r t rs xs w.6 (subst IsDocument (sym o.0) d) h

-- the list that goes on, of which nothing is known
list_unknown : (p : Program) (r : Run) (w : IsWell p r) → r.doing ≡ doing.List → r.source.ahead ≡ ahead.Nothing
    → ListGoesOn p w.stations (reverse r.frames.frames) (standing_of r) (record { front = Unknown; begun = r.source.begun })
list_unknown p r w is at =
    subst (ListGoesOn p w.stations (reverse r.frames.frames) (standing_of r)) (known_nothing r at)
    (list_there p w.stations r.source.ahead (reverse r.frames.frames) (standing_of r) (known_now r) (not_here at) (list_goes p r w is))
  where
    not_here : r.source.ahead ≡ ahead.Nothing → r.source.ahead ≢ ahead.Here
    not_here e f = let both : ahead.Nothing ≡ ahead.Here = sym e ∙ f in cc

-- An event of a document, which goes on as documents do.
pub event_told : (p : Program) (r : Run) (e : Event) → (w : WantsEvent p r) → begun_behind e r.source.begun ≤ (way_of (path r.source.stack)).limit + 1 → tells_text e ≡ true
    → HasTold p e (record r { source = record r.source { begun = begun_behind e r.source.begun } })
event_told p r e w room text =
    let n = record r { source = record r.source { begun = begun_behind e r.source.begun } } in
    let l = list_unknown p r w.well w.doing w.ahead in
    record {
      steady =
          same_steady p r n w.well.steady (record { outer = refl; aside = refl; store = refl; putting = stands_still r.putting })
          (source_stays r.source n.source w.well.steady.source refl refl w.well.steady.source.held room)
          (document_tells p w.well.stations 0 true (reverse r.frames.frames) (standing_of r) (room_of r.source) (room_of n.source) (map room_of (reverse r.outer.items))
          (standing_of r).shelves l.well w.document w.well.steady.within);
      stations = w.well.stations;
      stand = w.well.stand;
      doing = w.doing;
      ahead = w.ahead;
      list = w.list;
      well = l.well;
      before = r.source.begun;
      counted = refl;
      text = text;
      fits = l.fits;
    }

-- A list that goes on has begun.
some_begun : (fs : List Frame) (w : Way) (n : ℕ) → takes_events fs ≡ true → IsWay w.nodes → ListFits fs w n Unknown → 1 ≤ n
some_begun [] w n takes way h = absurd h
some_begun (Attributes next asked ∷ fs) w n takes way h = absurd (false≢true takes)
some_begun (Skip depth ∷ fs) w n takes way h = omega (arith, h, lists_open w way)
some_begun (f ∷ fs) w n takes way h = omega (arith, h.2, lists_open w way)

-- of a document too that is to tell more
pub wants_begun : (p : Program) (r : Run) → WantsEvent p r → 1 ≤ r.source.begun
wants_begun p r w =
    some_begun (reverse r.frames.frames) (standing_of r).source.way r.source.begun w.list (is_way r.source.stack) (list_unknown p r w.well w.doing w.ahead).fits

-- of elements one fewer has
behind_less : (e : Event) (n : ℕ) → 1 ≤ n → begun_behind e n - 1 ≡ begun_behind e (n - 1)
behind_less (event.Start offset name attrs decls first) n some = omega (arith, some)
behind_less (event.End offset) n some = refl
behind_less (event.DocumentEnd offset) n some = refl
behind_less e n some = refl

-- The end of a buffer.
pub buffer_ends : (p : Program) (r : Run) (id : ℕ) (at : Place) → (w : IsWell p r) → r.doing ≡ doing.List → r.source.ahead ≡ ahead.Nothing
    → takes_events (reverse r.frames.frames) ≡ true → r.source.origin ≡ origin.Buffer id at → told_from (standing_of r).shelves id r.source.next ≡ []
    → HasTold p (event.DocumentEnd 0) (record r { source = record r.source { begun = r.source.begun - 1 } })
buffer_ends p r id at w is nothing events from tells =
    let n = record r { source = record r.source { begun = r.source.begun - 1 } } in
    let l = list_unknown p r w is nothing in
    let t = buffer_tells p w.stations 0 true (reverse r.frames.frames) (standing_of r) id at (room_of r.source) (room_of n.source) (map room_of (reverse r.outer.items))
    (standing_of r).shelves l.well from w.steady.within in
    record {
      steady =
          same_steady p r n w.steady (record { outer = refl; aside = refl; store = refl; putting = stands_still r.putting })
          (source_stays r.source n.source w.steady.source refl refl w.steady.source.held (omega (arith, w.steady.source.counted)))
          (t.1 (subst (AreWithin (path r.source.stack).limit (r.source.begun - 1 - 1)) (sym tells) tt));
      stations = w.stations;
      stand = w.stand;
      doing = is;
      ahead = nothing;
      list = events;
      well = l.well;
      before = r.source.begun;
      counted = refl;
      text = refl;
      fits = l.fits;
    }

-- An event of a buffer.
pub buffer_told : (p : Program) (r : Run) (id next : ℕ) (at : Place) (e : Event) (es : List Event) → (w : IsWell p r) → r.doing ≡ doing.List → r.source.ahead ≡ ahead.Nothing
    → takes_events (reverse r.frames.frames) ≡ true → r.source.origin ≡ origin.Buffer id at → told_from (standing_of r).shelves id r.source.next ≡ e ∷ es
    → told_from (standing_of r).shelves id next ≡ es
    → (begun_behind e r.source.begun ≤ (path r.source.stack).limit + 1)
    × HasTold p e (record r { source = record r.source { next = next; begun = begun_behind e r.source.begun } })
buffer_told p r id next at e es w is nothing events from tells rest =
    let n = record r { source = record r.source { next = next; begun = begun_behind e r.source.begun } } in
    let l = list_unknown p r w is nothing in
    let t = buffer_tells p w.stations 0 true (reverse r.frames.frames) (standing_of r) id at (room_of r.source) (room_of n.source) (map room_of (reverse r.outer.items))
    (standing_of r).shelves l.well from w.steady.within in
    let within : AreWithin (path r.source.stack).limit (r.source.begun - 1) (e ∷ es) = subst (AreWithin (path r.source.stack).limit (r.source.begun - 1)) tells t.0 in
    let some = some_begun (reverse r.frames.frames) (standing_of r).source.way r.source.begun events (is_way r.source.stack) l.fits in
    let less = behind_less e r.source.begun some in
    let room : begun_behind e r.source.begun ≤ (path r.source.stack).limit + 1 = omega (arith, within.0, less) in (
      room,
      record {
        steady =
            same_steady p r n w.steady (record { outer = refl; aside = refl; store = refl; putting = stands_still r.putting })
            (source_stays r.source n.source w.steady.source refl refl w.steady.source.held room)
            (t.1
            (subst (AreWithin (path r.source.stack).limit (begun_behind e r.source.begun - 1)) (sym rest)
            (subst (λ k. AreWithin (path r.source.stack).limit k es) (sym less) within.1)));
        stations = w.stations;
        stand = w.stand;
        doing = is;
        ahead = nothing;
        list = events;
        well = l.well;
        before = r.source.begun;
        counted = refl;
        text = event_text r.putting.buffers.buffers id r.source.next e es w.steady.sections tells;
        fits = l.fits;
      },
    )
