-- The first run, and its head: the document node.
use Rattle.std.proofs.Common.{◌≡◌, ℕ, zero, suc, ◌+◌, ◌-◌, ◌<◌, ◌≤◌, ◌^◌, true, List, [], ◌∷◌, length, map, reverse, All, Option, Some, refl, ap, sym, subst, ◌∙◌, arith}
use Rattle.std.specs.Prelude.{replicate, slice_get, sum_by}
use Rattle.std.specs.Option.{option_map}
use Rattle.std.proofs.lemmas.List.{length-map}
use Rattle.std.proofs.lemmas.List.Elements.{All-cons, All-nil}
use Rattle.std.proofs.lemmas.List.Sums.{sum_by-cons}
use Rattle.stx_base.specs.declared.limits.Limits.{Limits}
use Rattle.stx_base.specs.declared.node.NodeTest.{NodeTest}
use Rattle.stx_base.specs.declared.part.Part.{Part}
use Rattle.event_buffers.specs.Buffers.{Buffers}
use Rattle.event_buffers.specs.Declaring.{declared_by}
use Rattle.frame_stack.specs.declared.frame.Frame.{Frame}
use Rattle.instr_code.specs.Bare.{procedure_without_body, template_without_body, without_bodies}
use Rattle.instr_code.specs.Code.{code_of}
use Rattle.instr_code.specs.declared.code.Code.{Code}
use Rattle.instr_code.proofs.Bounds.{places_fit}
use Rattle.node_stack.specs.Path.{Node, Path, document_alone, is_told}
use Rattle.node_stack.specs.Stack.{path_node}
use Rattle.node_stack.specs.declared.parked.Parked.{Parked}
use Rattle.sheet_model.specs.Sound.{IsSound}
use Rattle.sheet_model.specs.declared.sheet.Buffer.{Buffer}
use Rattle.sheet_model.specs.declared.sheet.Procedure.{Procedure}
use Rattle.sheet_model.specs.declared.sheet.Sheet.{Sheet}
use Rattle.sheet_model.specs.declared.sheet.Template.{Template}
use Rattle.var_store.specs.Copies.{Stored}
use Rattle.var_store.specs.declared.bound.Bound.{Bound}
use Rattle.template_machine.specs.Asking.{IsAsker}
use Rattle.template_machine.specs.Contexts.{Goes, HasStations, Station, begun}
use Rattle.template_machine.specs.Deep.{AreAllDeep}
use Rattle.template_machine.specs.Made.{OnlyStores}
use Rattle.template_machine.specs.Programs.{IsProgramOf, deepest_from, deepest_of, open_behind}
use Rattle.template_machine.specs.Sections.{AllHoldSections, WaitsWell}
use Rattle.template_machine.specs.Standing.{Known, Standing, Unknown, known_now, outer_of, rooms_of, shelf_of, standing_of}
use Rattle.template_machine.specs.Starting.{IsFresh, IsReady}
use Rattle.template_machine.specs.Moments.{HasHead}
use Rattle.template_machine.specs.Well.{AreWritten, HeadIsThere, IsOuterWell, IsSteady, TellWithin}
use Rattle.template_machine.specs.declared.program.Program.{Program}
use Rattle.template_machine.specs.declared.run.Asker.TheVariants as asker
use Rattle.template_machine.specs.declared.run.Run.{Run}
use Rattle.template_machine.specs.declared.source.Ahead.{Ahead}
use Rattle.template_machine.specs.declared.source.Ahead.TheVariants as ahead
use Rattle.template_machine.specs.declared.source.Origin.TheVariants as origin
use Rattle.template_machine.proofs.Assigned.{store_standing, store_steady}
use Rattle.template_machine.proofs.Based.{has_root, some_groups}
use Rattle.template_machine.proofs.Begun.{begins_deep, begins_sections}
use Rattle.template_machine.proofs.Bodiless.{sound_too}
use Rattle.template_machine.proofs.CodeStations.{has_stations, stations_of}
use Rattle.template_machine.proofs.Deepest.{one_more}
use Rattle.template_machine.proofs.Going.{standing_parts}
use Rattle.template_machine.proofs.LaidOut.{all_ops}
use Rattle.template_machine.proofs.Within.{begun_way, fresh_known, fresh_stream, fresh_well}
use Rattle.template_machine.proofs.Writing.{HasCopy}

-- Stations of the sheet without its bodies.

mapped_back : {A B : Type 0} (f : A → B) (xs : List A) (n : ℕ) (y : B) → slice_get (map f xs) n ≡ Some y → (x : A) × ((slice_get xs n ≡ Some x) × (f x ≡ y))
mapped_back f [] n y e = absurd (cc)
mapped_back f (x ∷ xs) zero y e = (x, (refl, one (f x) y e))
  where
    one : {B : Type 0} (a b : B) → Some a ≡ Some b → a ≡ b
    one a b e = cc
mapped_back f (x ∷ xs) (suc n) y e = mapped_back f xs n y e

bare_stations : (s : Sheet) → HasStations (code_of s) (stations_of s) (without_bodies s)
bare_stations s =
    let h = has_stations s in
    record {
      each = h.each;
      own = h.own;
      leads = h.leads;
      templates = λ n t is.
          let x = mapped_back template_without_body s.templates n t is in
          let g = h.templates n x.0 x.1.0 in
          (g.0, (g.1.0, subst (λ (y : Template). Goes (stations_of s) g.0 (begun n y.params)) x.1.1 g.1.1));
      procedures = λ n q is.
          let x = mapped_back procedure_without_body s.procedures n q is in
          let g = h.procedures n x.0 x.1.0 in (
            g.0,
            (
              ap (λ k. slice_get (code_of s).starts (k + n)) (length-map s.templates template_without_body) ∙ g.1.0,
              subst (λ k. Goes (stations_of s) g.0 (begun (k + n) q.params)) (sym (length-map s.templates template_without_body))
                  (subst (λ (y : Procedure). Goes (stations_of s) g.0 (begun (length s.templates + n) y.params)) x.1.1 g.1.1),
            ),
          );
    }

pub program_stations : (p : Program) → IsReady p → (stations : List Station) × HasStations p.code stations p.sheet
program_stations p h =
    let st = stations_of h.sheet in
    (st, subst (λ c. HasStations c st p.sheet) (sym h.program.code_is) (subst (HasStations (code_of h.sheet) st) (sym h.program.sheet_is) (bare_stations h.sheet)))

-- What is known of a program that is made.

pub ready_sound : (p : Program) → IsReady p → IsSound p.sheet
ready_sound p h = subst IsSound (sym h.program.sheet_is) (sound_too h.sheet h.sound)

pub ready_root : (p : Program) → IsReady p → 0 < length p.sheet.groups
ready_root p h = subst (λ (s : Sheet). 0 < length s.groups) (sym h.program.sheet_is) (some_groups h.sheet.groups h.sound.groups)

pub few_groups : (p : Program) → IsReady p → length p.sheet.groups < 2 ^ 28
few_groups p h = omega (arith, ap (λ (x : Sheet). length x.groups) h.program.sheet_is, h.sound.small)

deepest_less : (n : ℕ) (ps : List Part) → deepest_from n ps ≤ n + length ps
deepest_less n [] = omega arith
deepest_less n (p ∷ ps) = omega (arith, one_more n p, deepest_less (open_behind n p) ps)

depth_less : (n limit : ℕ) (bs : List Buffer) → n ≤ limit → sum_by (λ (b : Buffer). length b.content) bs ≤ limit → deepest_of n bs ≤ limit
depth_less n limit [] few small = few
depth_less n limit (b ∷ bs) few small =
    let more = sum_by-cons (λ (x : Buffer). length x.content) b bs in
    omega (arith, small, more, deepest_less 0 b.content, depth_less n limit bs few (omega (arith, small, more)))

pub makes_ready : (s : Sheet) (limits : Limits) (p : Program) → IsSound s → IsProgramOf s limits p → limits.depth + 1 < 2 ^ 32 → limits.elements + 1 < 2 ^ 32 → IsReady p
makes_ready s limits p sound is depth elements = record {
  sheet = s;
  limits = limits;
  sound = sound;
  program = is;
  shallow = (
    omega (arith, depth, ap (λ (l : Limits). l.depth) is.limits_are),
    omega (arith, is.depth_is, depth_less limits.elements (2 ^ 32 - 2) s.buffers (omega (arith, elements)) (omega (arith, sound.small))),
  );
}

-- Copies.

abbrev one_each : ℕ → Stored
one_each n = replicate n ([] ∷ [])

replicated : {A : Type 0} (n : ℕ) (x : A) → length (replicate n x) ≡ n
replicated zero x = refl
replicated (suc n) x = ap suc (replicated n x)

copies_there : (n : ℕ) → All (λ k. 0 < k) (map length (one_each n))
copies_there zero = All-nil (λ k. 0 < k)
copies_there (suc n) = All-cons (λ k. 0 < k) 1 (map length (one_each n)) (omega arith) (copies_there n)

pub all_bare : (n : ℕ) → All (λ (cs : List (List Bound)). cs ≡ [] ∷ []) (one_each n)
all_bare zero = All-nil (λ (cs : List (List Bound)). cs ≡ [] ∷ [])
all_bare (suc n) = All-cons (λ (cs : List (List Bound)). cs ≡ [] ∷ []) ([] ∷ []) (one_each n) refl (all_bare n)

-- The run.

abbrev waits_in : List (Option Parked) → List (Option Node)
waits_in l = map (option_map (λ (x : Parked). (path_node x).node)) (reverse l)

pub first_told : (depth : ℕ) (q : Path) (t : NodeTest) → q ≡ document_alone depth → is_told q (length q.nodes - 1) t ≡ true
first_told depth q t is = subst (λ (x : Path). is_told x (length x.nodes - 1) t ≡ true) (sym is) refl

shelves_there : (bs : List Buffer) → All HasCopy (map shelf_of (map declared_by bs))
shelves_there [] = All-nil HasCopy
shelves_there (b ∷ bs) = All-cons HasCopy (shelf_of (declared_by b)) (map shelf_of (map declared_by bs)) (omega arith) (shelves_there bs)

pub first_steady : (p : Program) (r : Run) → IsReady p → IsFresh p r → IsSteady p r
first_steady p r h f =
    record {
      sheet = h.sheet;
      limits = h.limits;
      sound = h.sound;
      program = h.program;
      places = omega (arith, ap (λ (c : Code). length c.ops) h.program.code_is, all_ops h.sheet, places_fit h.sheet h.sound.small);
      groups = ap length f.store ∙ replicated (length p.sheet.groups) ([] ∷ []);
      buffers = ap (λ (b : Buffers). length b.buffers) f.buffers ∙ length-map p.sheet.buffers declared_by;
      source = fresh_well r.source p.limits.depth origin.Main f.source f.begun h.shallow.0;
      outer = subst (All IsOuterWell) (sym f.outer) (All-nil IsOuterWell);
      written = subst (λ l. AreWritten (reverse l) (standing_of r).shelves) (sym f.targets) tt;
      shallow = h.shallow;
      copied = subst (λ (l : Stored). All (λ n. 0 < n) (map length l)) (sym f.store) (copies_there (length p.sheet.groups));
      shelved = subst (λ (b : Buffers). All HasCopy (map shelf_of b.buffers)) (sym f.buffers) (shelves_there p.sheet.buffers);
      within = subst (λ l. TellWithin (reverse l) (rooms_of r) (standing_of r).shelves) (sym f.frames) tt;
      deep = subst (AreAllDeep p.buffer_depth) (sym f.buffers) (begins_deep h.sheet h.limits p h.sound h.program);
      sections = subst AllHoldSections (sym f.buffers) (begins_sections h.sheet h.limits p h.sound h.program);
      aside = subst (λ l. All WaitsWell (waits_in l)) (sym f.aside) (All-nil WaitsWell);
    }

pub first_head : (p : Program) (r : Run) → IsReady p → IsFresh p r → HasHead p r
first_head p r h f =
    let st = program_stations p h in
    let depth = p.limits.depth in
    let k : Known = record { front = Unknown; begun = 1 } in
    let s : Standing = record (standing_of r) { source = record { origin = origin.Main; way = begun_way depth }; around = []; aside = []; targets = [] } in
    let same : standing_of r ≡ s =
    standing_parts (standing_of r) s (fresh_stream r.source depth origin.Main f.source) (ap (λ l. map outer_of (reverse l)) f.outer)
    (ap waits_in f.aside) (ap reverse f.targets) refl refl in
    let head : HeadIsThere p st.0 [] s k = record {
      well = (refl, refl, refl, refl, refl, refl);
      head = refl;
      apart = refl;
      take = tt;
      fits = (refl, refl);
    } in
    record {
      steady = first_steady p r h f;
      stations = st.0;
      stand = st.1;
      apart = λ e. not_here r.source.ahead f.source.ahead_is e;
      head =
          subst (λ fs. HeadIsThere p st.0 (reverse fs) (standing_of r) (known_now r)) (sym f.frames)
          (subst (λ x. HeadIsThere p st.0 [] x (known_now r)) (sym same)
          (subst (HeadIsThere p st.0 [] s) (sym (fresh_known r.source depth origin.Main f.source f.begun)) head));
    }
  where
    not_here : (a : Ahead) → a ≡ ahead.Nothing → a ≡ ahead.Here → ⊥
    not_here a e f = cc

-- and once the variables of all groups are made
pub stores_head : (p : Program) (r t : Run) → OnlyStores r t → HasHead p r → HasHead p t
stores_head p r t o h =
    subst (HasHead p) (sym o.rest)
    (record {
      steady = store_steady p r t.store o.copies h.steady;
      stations = h.stations;
      stand = h.stand;
      apart = h.apart;
      head = subst (λ x. HeadIsThere p h.stations (reverse r.frames.frames) x (known_now r)) (sym (store_standing r t.store o.copies)) h.head;
    })

-- the root group asks for it
pub first_asker : (p : Program) (r : Run) → IsSteady p r → (fs : List Frame) → fs ≡ [] → IsAsker p asker.Root fs
first_asker p r s fs is = record { base = has_root p r s; on = is }
