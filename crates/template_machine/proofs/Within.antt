-- Another document or a buffer is processed within a run.
use Rattle.std.proofs.Common.{◌≡◌, ℕ, suc, ◌+◌, ◌<◌, ◌^◌, List, [], ◌∷◌, ◌++◌, length, map, reverse, All, Some, None, refl, ap, sym, subst, ◌∙◌, arith, ◌-◌}
use Rattle.std.proofs.lemmas.List.{length-map, reverse-append}
use Rattle.std.proofs.lemmas.List.Elements.{All-cons, All-nil, All-push}
use Rattle.std.specs.Option.{option_map, option_map_or}
use Rattle.std.specs.Prelude.{drop}
use Rattle.stx_base.specs.declared.fault.Place.{Place}
use Rattle.event_buffers.specs.Told.{told}
use Rattle.frame_stack.specs.Stack.{with_frames}
use Rattle.frame_stack.specs.declared.frame.Frame.{Frame}
use Rattle.frame_stack.specs.declared.frame.Frame.TheVariants as frame
use Rattle.node_stack.specs.Path.{Document, Path, document_alone}
use Rattle.node_stack.specs.Stack.{path, path_node}
use Rattle.node_stack.specs.declared.parked.Parked.{Parked}
use Rattle.template_machine.specs.Bodies.{pc_in}
use Rattle.template_machine.specs.Deep.{AreAllDeep}
use Rattle.template_machine.specs.Sections.{AllHoldSections, HoldStill, HoldsSection, WaitsWell}
use Rattle.template_machine.specs.Sources.{Stands}
use Rattle.template_machine.specs.Standing.{Unknown, front_of, known_now, known_of, outer_of, room_of, rooms_of, shelf_of, standing_of, stream_of}
use Rattle.template_machine.specs.Ways.{Way, way_of}
use Rattle.template_machine.specs.Well.{AreWithin, AreWritten, IsOuterWell, IsSourceWell, IsSteady, IsWaiting, IsWell, TellWithin}
use Rattle.template_machine.specs.Working.{EntersSource}
use Rattle.template_machine.specs.declared.program.Program.{Program}
use Rattle.template_machine.specs.declared.putting.Putting.{Putting}
use Rattle.template_machine.specs.declared.run.Doing.TheVariants as doing
use Rattle.template_machine.specs.declared.run.Run.{Run}
use Rattle.template_machine.specs.declared.source.Ahead.{Ahead}
use Rattle.template_machine.specs.declared.source.Ahead.TheVariants as ahead
use Rattle.template_machine.specs.declared.source.Origin.{Origin}
use Rattle.template_machine.specs.declared.source.Origin.TheVariants as origin
use Rattle.template_machine.specs.declared.source.Source.{Source}
use Rattle.template_machine.proofs.Going.{standing_parts, steady_on, well_list_at}
use Rattle.template_machine.proofs.Reading.{HasCopy, Reads, as_many_shelves, buffer_opens, still_shelved, written_still}
use Rattle.template_machine.proofs.Sourcing.{source_by}
use Rattle.template_machine.proofs.Streams.{document_opens, within_source}

-- the way of a source at its document node
abbrev pub begun_way : (depth : ℕ) → Way
begun_way depth = way_of (document_alone depth)

-- a source at its document node
pub fresh_well : (n : Source) (depth : ℕ) (o : Origin) → Stands n (document_alone depth) ([] ∷ []) ahead.Nothing None o → n.begun ≡ 1 → depth + 1 < 2 ^ 32 → IsSourceWell n
fresh_well n depth o stands begun small =
    source_by n (begun_way depth) (ap way_of stands.path_is) (λ e. absurd (not_held n.ahead stands.ahead_is e)) (omega arith) (omega (arith, small)) (omega (arith, begun))
    stands.scopes_are
    (All-cons HoldsSection Document [] tt (All-nil HoldsSection))
  where
    not_held : (a : Ahead) → a ≡ ahead.Nothing → a ≡ ahead.Held → ⊥
    not_held a e f = cc

pub fresh_known : (n : Source) (depth : ℕ) (o : Origin) → Stands n (document_alone depth) ([] ∷ []) ahead.Nothing None o → n.begun ≡ 1
    → known_of n ≡ record { front = Unknown; begun = 1 }
fresh_known n depth o stands begun =
    ap (λ a. record { front = front_of a n.held; begun = n.begun }) stands.ahead_is ∙ ap (λ b. record { front = Unknown; begun = b }) begun

pub fresh_stream : (n : Source) (depth : ℕ) (o : Origin) → Stands n (document_alone depth) ([] ∷ []) ahead.Nothing None o
    → stream_of n ≡ record { origin = o; way = begun_way depth }
fresh_stream n depth o stands =
    ap (λ x. record { origin = x; way = way_of (path n.stack) }) stands.origin_is ∙ ap (λ x. record { origin = o; way = way_of x }) stands.path_is

-- one source more around the innermost one
around_more : {A : Type 0} (f : Source → A) (items more : List Source) (x : Source) → more ≡ items ++ x ∷ [] → map f (reverse more) ≡ f x ∷ map f (reverse items)
around_more f items more x is = ap (λ l. map f (reverse l)) is ∙ ap (map f) (reverse-append items (x ∷ []))

-- The document that was wanted is processed.
pub document_on : (p : Program) (r t u : Run) (asked : ℕ) (at : Place) (w : IsWaiting p r) → pc_in (reverse r.frames.frames) ≡ Some (suc asked)
    → t ≡ record r { frames = with_frames (r.frames.frames ++ frame.Source None 0 asked ∷ []) r.frames }
    → EntersSource p.limits.depth (origin.Document at) t u → IsWell p (record u { doing = doing.List })
document_on p r t u asked at w pc pushed e =
    let s = standing_of r in
    let fs = reverse r.frames.frames in
    let depth = p.limits.depth in
    let o = origin.Document at in
    let x : Frame = frame.Source None 0 asked in
    let n = record u { doing = doing.List } in
    let rest : u ≡ record r { frames = with_frames (r.frames.frames ++ x ∷ []) r.frames; source = u.source; outer = u.outer; putting = u.putting } =
    e.rest ∙ ap (λ (y : Run). record y { source = u.source; outer = u.outer; putting = u.putting }) pushed in
    let source : t.source ≡ r.source = ap (λ (y : Run). y.source) pushed in
    let items : u.outer.items ≡ r.outer.items ++ r.source ∷ [] =
    e.outer ∙ ap (λ (y : Run). y.outer.items ++ y.source ∷ []) pushed in
    let frames : reverse u.frames.frames ≡ x ∷ fs = ap (λ (y : Run). reverse y.frames.frames) rest ∙ reverse-append r.frames.frames (x ∷ []) in
    let copies : (standing_of n).copies ≡ s.copies = ap (λ (y : Run). map length y.store) rest in
    let targets : (standing_of n).targets ≡ s.targets = ap reverse e.putting.targets ∙ ap (λ (y : Run). reverse y.putting.targets) pushed in
    let shelves : (standing_of n).shelves ≡ s.shelves = e.putting.shelves ∙ ap (λ (y : Run). map shelf_of y.putting.buffers.buffers) pushed in
    let fresh = fresh_well u.source depth o e.source e.begun w.steady.shallow.0 in
    let rooms : map room_of (reverse u.outer.items) ≡ rooms_of r = around_more room_of r.outer.items u.outer.items r.source items in
    let told : TellWithin (reverse u.frames.frames) (room_of u.source ∷ map room_of (reverse u.outer.items)) (standing_of n).shelves =
    subst (λ l. TellWithin l (room_of u.source ∷ map room_of (reverse u.outer.items)) (standing_of n).shelves) (sym frames)
    (subst (λ rs. TellWithin fs rs (standing_of n).shelves) (sym rooms) (subst (TellWithin fs (rooms_of r)) (sym shelves) w.steady.within)) in
    let steady : IsSteady p n =
    steady_on p r n w.steady copies targets shelves fresh
    (subst (All IsOuterWell) (sym items) (All-push IsOuterWell r.outer.items r.source w.steady.outer (record { well = w.steady.source; apart = w.apart }))) told
    (subst (λ (y : Run). HoldStill y.putting.buffers u.putting.buffers) pushed e.putting.holds) (subst (λ (y : Run). All WaitsWell (standing_of y).aside) (sym rest) w.steady.aside) in
    let stands : standing_of n ≡ within_source (record { origin = o; way = begun_way depth }) (known_now r) s =
    standing_parts (standing_of n) (within_source (record { origin = o; way = begun_way depth }) (known_now r) s) (fresh_stream u.source depth o e.source)
    (around_more outer_of r.outer.items u.outer.items r.source items)
    (ap (λ (y : Run). map (option_map (λ (z : Parked). (path_node z).node)) (reverse y.aside.items)) rest) targets copies shelves in
    well_list_at p n w.stations (x ∷ fs) (within_source (record { origin = o; way = begun_way depth }) (known_now r) s) (record { front = Unknown; begun = 1 })
    w.stand steady refl (λ e2. absurd (not_here u.source.ahead e.source.ahead_is e2)) frames stands (fresh_known u.source depth o e.source e.begun)
    (document_opens p w.stations fs s asked (known_now r) at (begun_way depth) w.waits pc refl refl)
  where
    not_here : (a : Ahead) → a ≡ ahead.Nothing → a ≡ ahead.Here → ⊥
    not_here a f g = cc

-- The newest copy of a buffer is processed, which tells no more elements than may be open.
pub buffer_on : (p : Program) (r t u : Run) (asked id : ℕ) (at : Place) (new : Putting) (w : IsWaiting p r) → pc_in (reverse r.frames.frames) ≡ Some (suc asked)
    → new.targets ≡ r.putting.targets → (reads : Reads id (standing_of r).shelves (map shelf_of new.buffers.buffers)) → AreWithin p.buffer_depth 0 (told reads.held)
    → HoldStill r.putting.buffers new.buffers
    → t ≡ record r { putting = new; frames = with_frames (r.frames.frames ++ frame.Source (Some id) 0 asked ∷ []) r.frames }
    → EntersSource p.buffer_depth (origin.Buffer id at) t u → IsWell p (record u { doing = doing.List })
buffer_on p r t u asked id at new w pc stays reads deep holds pushed e =
    let s = standing_of r in
    let ys = map shelf_of new.buffers.buffers in
    let fs = reverse r.frames.frames in
    let depth = p.buffer_depth in
    let o = origin.Buffer id at in
    let x : Frame = frame.Source (Some id) 0 asked in
    let n = record u { doing = doing.List } in
    let rest : u ≡ record r { frames = with_frames (r.frames.frames ++ x ∷ []) r.frames; source = u.source; outer = u.outer; putting = u.putting } =
    e.rest ∙ ap (λ (y : Run). record y { source = u.source; outer = u.outer; putting = u.putting }) pushed in
    let items : u.outer.items ≡ r.outer.items ++ r.source ∷ [] =
    e.outer ∙ ap (λ (y : Run). y.outer.items ++ y.source ∷ []) pushed in
    let frames : reverse u.frames.frames ≡ x ∷ fs = ap (λ (y : Run). reverse y.frames.frames) rest ∙ reverse-append r.frames.frames (x ∷ []) in
    let copies : (standing_of n).copies ≡ s.copies = ap (λ (y : Run). map length y.store) rest in
    let targets : (standing_of n).targets ≡ s.targets =
    ap reverse e.putting.targets ∙ ap (λ (y : Run). reverse y.putting.targets) pushed ∙ ap reverse stays in
    let shelves : (standing_of n).shelves ≡ ys = e.putting.shelves ∙ ap (λ (y : Run). map shelf_of y.putting.buffers.buffers) pushed in
    let fresh = fresh_well u.source depth o e.source e.begun w.steady.shallow.1 in
    let rooms : map room_of (reverse u.outer.items) ≡ rooms_of r = around_more room_of r.outer.items u.outer.items r.source items in
    let room : room_of u.source ≡ record { limit = depth; begun = 0; next = 0 } =
    ap (λ (y : Path). record { limit = y.limit; begun = u.source.begun - 1; next = u.source.next }) e.source.path_is
    ∙ ap (λ b. record { limit = depth; begun = b - 1; next = u.source.next }) e.begun ∙ ap (λ k. record { limit = depth; begun = 0; next = k }) e.next in
    let tells : TellWithin (x ∷ fs) (record { limit = depth; begun = 0; next = 0 } ∷ rooms_of r) ys = (
      subst (λ h. AreWithin depth 0 (option_map_or (λ held. told (drop 0 held)) h [])) (sym reads.from) deep,
      subst (TellWithin fs (rooms_of r)) (sym reads.back) w.steady.within,
    ) in
    let told_too : TellWithin (reverse u.frames.frames) (room_of u.source ∷ map room_of (reverse u.outer.items)) (standing_of n).shelves =
    subst (λ l. TellWithin l (room_of u.source ∷ map room_of (reverse u.outer.items)) (standing_of n).shelves) (sym frames)
    (subst (λ rs. TellWithin (x ∷ fs) (room_of u.source ∷ rs) (standing_of n).shelves) (sym rooms)
    (subst (λ y. TellWithin (x ∷ fs) (y ∷ rooms_of r) (standing_of n).shelves) (sym room)
    (subst (TellWithin (x ∷ fs) (record { limit = depth; begun = 0; next = 0 } ∷ rooms_of r)) (sym shelves) tells))) in
    let steady : IsSteady p n = record {
      sheet = w.steady.sheet;
      limits = w.steady.limits;
      sound = w.steady.sound;
      program = w.steady.program;
      places = w.steady.places;
      groups = sym (length-map n.store length) ∙ ap length copies ∙ length-map r.store length ∙ w.steady.groups;
      buffers =
          sym (length-map n.putting.buffers.buffers shelf_of) ∙ ap length shelves ∙ as_many_shelves s.shelves ys reads.may
          ∙ length-map r.putting.buffers.buffers shelf_of ∙ w.steady.buffers;
      source = fresh;
      outer = subst (All IsOuterWell) (sym items) (All-push IsOuterWell r.outer.items r.source w.steady.outer (record { well = w.steady.source; apart = w.apart }));
      written =
          subst (λ ids. AreWritten ids (standing_of n).shelves) (sym targets)
          (subst (AreWritten s.targets) (sym shelves) (written_still s.targets s.shelves ys reads.may w.steady.written));
      shallow = w.steady.shallow;
      copied = subst (All (λ k. 0 < k)) (sym copies) w.steady.copied;
      shelved = subst (All HasCopy) (sym shelves) (still_shelved s.shelves ys reads.may w.steady.shelved);
      within = told_too;
      deep = e.putting.holds.deep p.buffer_depth (subst (λ (y : Run). AreAllDeep p.buffer_depth y.putting.buffers) (sym pushed) (holds.deep p.buffer_depth w.steady.deep));
      sections = e.putting.holds.sections (subst (λ (y : Run). AllHoldSections y.putting.buffers) (sym pushed) (holds.sections w.steady.sections));
      aside = subst (λ (y : Run). All WaitsWell (standing_of y).aside) (sym rest) w.steady.aside;
    } in
    let v = record s { shelves = ys } in
    let stands : standing_of n ≡ within_source (record { origin = o; way = begun_way depth }) (known_now r) v =
    standing_parts (standing_of n) (within_source (record { origin = o; way = begun_way depth }) (known_now r) v) (fresh_stream u.source depth o e.source)
    (around_more outer_of r.outer.items u.outer.items r.source items)
    (ap (λ (y : Run). map (option_map (λ (z : Parked). (path_node z).node)) (reverse y.aside.items)) rest) targets copies shelves in
    well_list_at p n w.stations (x ∷ fs) (within_source (record { origin = o; way = begun_way depth }) (known_now r) v) (record { front = Unknown; begun = 1 })
    w.stand steady refl (λ e2. absurd (not_here u.source.ahead e.source.ahead_is e2)) frames stands (fresh_known u.source depth o e.source e.begun)
    (buffer_opens p w.stations fs s ys asked id (known_now r) at (begun_way depth) w.waits pc refl refl reads)
  where
    not_here : (a : Ahead) → a ≡ ahead.Nothing → a ≡ ahead.Here → ⊥
    not_here a f g = cc
