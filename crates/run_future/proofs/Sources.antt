-- Runs that begin to read a source, that leave one, and that wait.
use Rattle.std.proofs.Common.{◌≡◌, ℕ, zero, suc, ◌+◌, ◌≤◌, true, List, [], ◌∷◌, ◌++◌, map, reverse, Option, Some, None, refl, ap, sym, subst, ◌∙◌, arith}
use Rattle.std.specs.Option.{option_map}
use Rattle.std.proofs.lemmas.List.{reverse-append}
use Rattle.stx_base.specs.Course.{Halt, Ret, Same}
use Rattle.stx_base.specs.declared.fault.Place.{Place}
use Rattle.stx_base.proofs.Course.{same_equal, same_then}
use Rattle.event_buffers.specs.Buffers.{Buffers, busy_at, is_read, on_buffer, on_first, on_newest, read_at}
use Rattle.event_buffers.specs.Layer.{closed, opened_read}
use Rattle.frame_stack.specs.declared.frame.Frame.TheVariants.{Source as Source_frame}
use Rattle.node_stack.specs.Path as paths
use Rattle.node_stack.specs.Path.{PathNode}
use Rattle.node_stack.specs.Stack.{path_node}
use Rattle.node_stack.specs.declared.parked.Parked.{Parked}
use Rattle.result_writer.specs.Target.{Left}
use Rattle.var_store.specs.Copies.{Stored}
use Rattle.xml_events.specs.Document.{inner}
use Rattle.xml_events.specs.Tree.{Begun, End, Fresh, Future, Mark, Why}
use Rattle.template_machine.specs.Bodies.{takes_events}
use Rattle.template_machine.specs.Contexts.{Station}
use Rattle.template_machine.specs.Fuel.{unready}
use Rattle.template_machine.specs.Giving.{StopsAt}
use Rattle.template_machine.specs.Job.{Given, Opened, Source, State, remains, sources_open}
use Rattle.template_machine.specs.Moments.{IsDocument, WantsEvent}
use Rattle.template_machine.specs.Sources.{held_node}
use Rattle.template_machine.specs.Standing.{known_now, standing_of}
use Rattle.template_machine.specs.Still as still
use Rattle.template_machine.specs.Still.{counts_of, nodes_of}
use Rattle.template_machine.specs.Stepwise.{Flat_does, flat_code}
use Rattle.template_machine.specs.Well.{GoesOn}
use Rattle.template_machine.specs.declared.program.Program.{Program}
use Rattle.template_machine.specs.declared.run.Doing.{Doing}
use Rattle.template_machine.specs.declared.run.Doing.TheVariants as doing
use Rattle.template_machine.specs.declared.run.Run.{Run}
use Rattle.template_machine.specs.declared.source.Ahead.{Ahead}
use Rattle.template_machine.specs.declared.source.Ahead.TheVariants as ahead
use Rattle.template_machine.specs.declared.source.Origin.{Origin}
use Rattle.template_machine.specs.declared.source.Origin.TheVariants as origin
use Rattle.template_machine.specs.declared.source.Source as sources
use Rattle.template_machine.proofs.Eventful.{wants_begun}
use Rattle.template_machine.proofs.Listing.{IsList, is_list}
use Rattle.run_future.specs.Remaining as future
use Rattle.run_future.specs.Remaining.{Ground, Reading, ToCome, buffers_around, document_of, documents_around, head_of, list_taken, lists_left, lists_of, source_of}
use Rattle.run_future.specs.Laws.{BuffersEnd, DocumentsEnd, EndsAreTold, Enters, GoesNoFurther, IsOther, Leaves, StandsInBuffer, StandsInDocument, behind_source, within}
use Rattle.run_future.proofs.Held.{closed_again}
use Rattle.run_future.proofs.Standing.{at_cut, sources_end}

-- a list's last item, once it is read from its end
last_first : {A : Type 0} (xs : List A) (x : A) → reverse (xs ++ x ∷ []) ≡ x ∷ reverse xs
last_first xs x = reverse-append xs (x ∷ [])

module _ (given : Given) (p : Program) where
  -- What a run stands on, by its parts.
  abbrev stands_by : Buffers → List PathNode → Ahead → Option PathNode → Origin → (begun next : ℕ) → (outer : List sources.Source) → (aside : List (Option Parked)) → List ToCome → Ground
  stands_by b nodes h held o begun next outer aside ds =
      let around = future.readings given p (buffers_around o b) (reverse outer) (documents_around o begun ds) in
      record {
        here = record {
          source = source_of o (document_of o begun ds) around;
          nodes = still.path_before given p h nodes;
          head = head_of h nodes held;
          lists = still.known_before given p h nodes held (lists_of o begun next b (document_of o begun ds));
        };
        around = around;
        aside = map (option_map path_node) (reverse aside);
      }

  abbrev at_document : List PathNode
  at_document = paths.first_node paths.Document ∷ []

  -- It stands in a source that begins within another.
  abbrev stands_in : (source : List Reading → Source) → Future → (around : List Reading) → (aside : List (Option Parked)) → Ground
  stands_in source lists around aside =
      record { here = record { source = source around; nodes = at_document; head = None; lists = lists }; around = around; aside = map (option_map path_node) (reverse aside) }

  entered : (o : Origin) (old new : Run) (ds : List ToCome) → Enters o old new
      → future.ground_of given p new ds
      ≡ stands_in (source_of o (document_of o 1 ds)) (lists_of o 1 0 new.putting.buffers (document_of o 1 ds))
      (future.readings given p (buffers_around o new.putting.buffers) (old.source ∷ reverse old.outer.items) (documents_around o 1 ds)) old.aside.items
  entered o old new ds enters =
      let b = new.putting.buffers in
      let held = held_node new.source in
      ap (λ nodes. stands_by b nodes new.source.ahead held new.source.origin new.source.begun new.source.next new.outer.items new.aside.items ds) enters.nodes
      ∙ ap (λ h. stands_by b at_document h held new.source.origin new.source.begun new.source.next new.outer.items new.aside.items ds) enters.ahead
      ∙ ap (λ x. stands_by b at_document ahead.Nothing held x new.source.begun new.source.next new.outer.items new.aside.items ds) enters.origin
      ∙ ap (λ n. stands_by b at_document ahead.Nothing held o n new.source.next new.outer.items new.aside.items ds) enters.begun
      ∙ ap (λ n. stands_by b at_document ahead.Nothing held o 1 n new.outer.items new.aside.items ds) enters.next
      ∙ ap (λ l. stands_by b at_document ahead.Nothing held o 1 0 l new.aside.items ds) enters.outer
      ∙ ap (λ l. stands_by b at_document ahead.Nothing held o 1 0 (old.outer.items ++ old.source ∷ []) l ds) enters.aside
      ∙ ap (λ l. stands_in (source_of o (document_of o 1 ds)) (lists_of o 1 0 b (document_of o 1 ds)) (future.readings given p (buffers_around o b) l (documents_around o 1 ds)) old.aside.items)
      (last_first old.outer.items old.source)

  pub in_document : (old new : Run) (at : Place) → Enters (origin.Document at) old new → new.putting.buffers ≡ old.putting.buffers → (d : ToCome) (ds : List ToCome)
      → future.ground_of given p new (d ∷ ds) ≡ within (Opened d.name at (sources_open (future.ground_of given p old ds).here.source + 1)) d.lists (future.ground_of given p old ds)
  in_document old new at enters same d ds =
      entered (origin.Document at) old new (d ∷ ds) enters
      ∙ ap (λ b. stands_in (source_of (origin.Document at) (Some d)) d.lists (future.readings given p b (old.source ∷ reverse old.outer.items) ds) old.aside.items) same

  pub in_buffer : (old new : Run) (id : ℕ) (at : Place) → Enters (origin.Buffer id at) old new → busy_at old.putting.buffers id ≡ None
      → new.putting.buffers ≡ on_buffer (on_newest opened_read) id old.putting.buffers → (ds : List ToCome)
      → future.ground_of given p new ds ≡ within (Opened None at (sources_open (future.ground_of given p old ds).here.source + 1)) (lists_left (read_at new.putting.buffers id)) (future.ground_of given p old ds)
  in_buffer old new id at enters free opened ds =
      entered (origin.Buffer id at) old new ds enters
      ∙ ap (λ b. stands_in (source_of (origin.Buffer id at) None) (lists_left (read_at new.putting.buffers id)) (future.readings given p b (old.source ∷ reverse old.outer.items) ds) old.aside.items)
      (ap (λ b. on_buffer (on_first is_read closed) id b) opened ∙ closed_again old.putting.buffers id free)

  -- A run leaves its innermost source.

  abbrev state_by : ℕ → Stored → Buffers → Left → List ℕ → State
  state_by fuel variables buffers left targets = record { fuel = fuel; variables = variables; buffers = buffers; result = left; targets = reverse targets }

  left_state : (buffer : Option ℕ) (next asked : ℕ) (old new : Run) (b : Buffers) (left : Left) → Leaves buffer next asked old new → new.putting.buffers ≡ b
      → state_by old.fuel old.store b left old.putting.targets ≡ still.state_of given p new left
  left_state buffer next asked old new b left leaves is =
      ap (λ n. state_by n old.store b left old.putting.targets) (sym leaves.fuel)
      ∙ ap (λ s. state_by new.fuel s b left old.putting.targets) (sym leaves.store)
      ∙ ap (λ x. state_by new.fuel new.store x left old.putting.targets) (sym is)
      ∙ ap (λ l. state_by new.fuel new.store new.putting.buffers left l) (sym leaves.targets)

  around_left : (buffer : Option ℕ) (next asked : ℕ) (old new : Run) (ds : List ToCome) → Leaves buffer next asked old new
      → future.around_of given p old ds
      ≡ future.readings given p new.putting.buffers (new.source ∷ reverse new.outer.items) (documents_around old.source.origin old.source.begun ds)
  around_left buffer next asked old new ds leaves =
      let b = buffers_around old.source.origin old.putting.buffers in
      let es = documents_around old.source.origin old.source.begun ds in
      ap (λ l. future.readings given p b (reverse l) es) leaves.outer
      ∙ ap (λ l. future.readings given p b l es) (last_first new.outer.items new.source)
      ∙ ap (λ x. future.readings given p x (new.source ∷ reverse new.outer.items) es) (sym leaves.buffers)

  -- the source around it is the innermost, with those around that
  abbrev ground_around : Ground → List Reading → Ground
  ground_around g [] = g
  ground_around g (x ∷ xs) = record g { here = x; around = xs }

  leaves_ground : (buffer : Option ℕ) (next asked : ℕ) (old new : Run) (ds es : List ToCome) → Leaves buffer next asked old new
      → documents_around old.source.origin old.source.begun ds ≡ es
      → ground_around (future.ground_of given p old ds) (future.readings given p new.putting.buffers (new.source ∷ reverse new.outer.items) (documents_around old.source.origin old.source.begun ds))
      ≡ future.ground_of given p new es
  leaves_ground buffer next asked old new ds es leaves is =
      ap (λ l. ground_around (record (future.ground_of given p old ds) { aside = map (option_map path_node) (reverse l) })
      (future.readings given p new.putting.buffers (new.source ∷ reverse new.outer.items) (documents_around old.source.origin old.source.begun ds))) (sym leaves.aside)
      ∙ ap (λ l. ground_around (record (future.ground_of given p old ds) { aside = map (option_map path_node) (reverse new.aside.items) })
      (future.readings given p new.putting.buffers (new.source ∷ reverse new.outer.items) l)) is

  abbrev is_left : Run → Left → List ToCome → Flat_does
  is_left r left ds = future.waits_for given p (λ self a. Ret a) (reverse r.frames.frames) (future.ground_of given p r ds) (still.state_of given p r left)

  leaves_run : (buffer : Option ℕ) (next asked : ℕ) (old new : Run) (left : Left) (ds es : List ToCome) (m : Mark) (offset : ℕ) → Leaves buffer next asked old new
      → IsOther (future.ground_of given p old ds).here.source → inner (future.ground_of given p old ds).here.lists ≡ End m offset
      → documents_around old.source.origin old.source.begun ds ≡ es → behind_source buffer (still.state_of given p old left) ≡ still.state_of given p new left
      → Same (flat_code given) (future.remaining_in given p old left ds) (is_left new left es)
  leaves_run buffer next asked old new left ds es m offset leaves other over documents state =
      let st = still.state_of given p old left in
      let g = future.ground_of given p old ds in
      let fs = reverse new.frames.frames in
      let others = future.readings given p new.putting.buffers (new.source ∷ reverse new.outer.items) (documents_around old.source.origin old.source.begun ds) in
      let x = future.reading_of given p new.putting.buffers new.source (documents_around old.source.origin old.source.begun ds) (future.around_of given p new (documents_around old.source.origin old.source.begun ds)) in
      let xs = future.around_of given p new (documents_around old.source.origin old.source.begun ds) in
      same_then
      (same_equal (flat_code given)
      (ap (λ d. future.goes_on given p d (reverse old.frames.frames) g st) leaves.doing
      ∙ ap (λ l. future.goes_on given p doing.List l g st) leaves.frames
      ∙ ap (λ l. future.goes_on given p doing.List (Source_frame buffer next asked ∷ fs) (record g { around = l }) st) (around_left buffer next asked old new ds leaves)))
      (same_then
      (sources_end given p buffer next asked fs g x xs st m offset other over)
      (same_equal (flat_code given)
      (ap (λ t. future.waits_for given p (λ self a. Ret a) fs (ground_around g others) t) state
      ∙ ap (λ y. future.waits_for given p (λ self a. Ret a) fs y (still.state_of given p new left)) (leaves_ground buffer next asked old new ds es leaves documents))))

  -- what is to come of it, by its parts
  abbrev lists_here : Run → Ahead → Origin → (begun : ℕ) → List ToCome → Future
  lists_here r h o begun ds = still.known_before given p h (nodes_of r.source) (held_node r.source) (lists_of o begun r.source.next r.putting.buffers (document_of o begun ds))

  lists_known : (r : Run) (h : Ahead) (o : Origin) (begun : ℕ) (ds : List ToCome) → r.source.ahead ≡ h → r.source.origin ≡ o → r.source.begun ≡ begun
      → (future.ground_of given p r ds).here.lists ≡ lists_here r h o begun ds
  lists_known r h o begun ds is from_there so_many =
      ap (λ x. lists_here r x r.source.origin r.source.begun ds) is ∙ ap (λ x. lists_here r h x r.source.begun ds) from_there ∙ ap (λ x. lists_here r h o x ds) so_many

  other_source : (r : Run) (o : Origin) (ds : List ToCome) → r.source.origin ≡ o → ((d : Option ToCome) (around : List Reading) → IsOther (source_of o d around))
      → IsOther (future.ground_of given p r ds).here.source
  other_source r o ds is other =
      subst (λ x. IsOther (source_of x (document_of r.source.origin r.source.begun ds) (future.around_of given p r ds))) (sym is)
      (other (document_of r.source.origin r.source.begun ds) (future.around_of given p r ds))

  -- Runs that wait for an event.

  lists_told : (o : Origin) (n next : ℕ) (b : Buffers) (d : ToCome) (ds : List ToCome) → IsDocument o → 1 ≤ n → lists_of o n next b (document_of o n (d ∷ ds)) ≡ d.lists
  lists_told origin.Main zero next b d ds document some = absurd (omega (arith, some))
  lists_told origin.Main (suc n) next b d ds document some = refl
  lists_told (origin.Buffer id at) n next b d ds document some = absurd document
  lists_told (origin.Document at) zero next b d ds document some = absurd (omega (arith, some))
  lists_told (origin.Document at) (suc n) next b d ds document some = refl

  list_there : (stations : List Station) (d : Doing) (h : Ahead) (r : Run) → d ≡ doing.List → h ≡ ahead.Nothing → takes_events (reverse r.frames.frames) ≡ true
      → GoesOn p stations d h (reverse r.frames.frames) (standing_of r) (known_now r) → IsList (reverse r.frames.frames)
  list_there stations doing.Body h r list none takes goes = absurd (cc)
  list_there stations doing.List ahead.Nothing r list none takes goes =
      is_list p stations (reverse r.frames.frames) (standing_of r) (standing_of r).source.way (known_now r).begun (known_now r).front goes.well takes goes.fits
  list_there stations doing.List h r list none takes goes = absurd (cc)

  cut_there : (r : Run) (left : Left) (d : ToCome) (ds : List ToCome) (why : Why) → WantsEvent p r → StopsAt why (inner d.lists)
      → Same (flat_code given) (future.remaining_in given p r left (d ∷ ds)) (Halt (unready (future.ground_of given p r (d ∷ ds)).here.source why))
  cut_there r left d ds why wants stops =
      let g = future.ground_of given p r (d ∷ ds) in
      let fs = reverse r.frames.frames in
      let st = still.state_of given p r left in
      let lists : g.here.lists ≡ d.lists = lists_known r ahead.Nothing r.source.origin r.source.begun (d ∷ ds) wants.ahead refl refl
      ∙ lists_told r.source.origin r.source.begun r.source.next r.putting.buffers d ds wants.document (wants_begun p r wants) in
      same_then
      (same_equal (flat_code given)
      (ap (λ x. future.goes_on given p x fs g st) wants.doing ∙ ap (λ b. future.list_goes given p b fs g st) wants.list))
      (at_cut given p [] fs (list_taken g) (remains (record { earlier = still.before_held given p g.here.head (counts_of g.here.nodes); coming = inner g.here.lists }) st) why
      (list_there wants.well.stations r.doing r.source.ahead r wants.doing wants.ahead wants.list wants.well.goes_on)
      (subst (λ f. StopsAt why (inner f)) (sym lists) stops))

pub stands_in_document : StandsInDocument
stands_in_document given p old new at enters same d ds = in_document given p old new at enters same d ds

pub stands_in_buffer : StandsInBuffer
stands_in_buffer given p old new id at enters free opened ds = in_buffer given p old new id at enters free opened ds

pub buffers_end : BuffersEnd
buffers_end given p old new id next asked at leaves is none begun nothing left ds =
    leaves_run given p (Some id) next asked old new left ds ds Fresh 0 leaves (other_source given p old (origin.Buffer id at) ds is (λ d around. tt))
    (ap inner (lists_known given p old ahead.Nothing (origin.Buffer id at) 1 ds none is begun) ∙ ap (λ ks. inner (lists_left ks)) nothing)
    (ap (λ o. documents_around o old.source.begun ds) is)
    (left_state given p (Some id) next asked old new (on_buffer (on_first is_read closed) id old.putting.buffers) left leaves (leaves.buffers ∙ ap (λ o. buffers_around o old.putting.buffers) is))

pub documents_end : DocumentsEnd
documents_end given p old new next asked at leaves is none begun left d ds m offset over =
    leaves_run given p None next asked old new left (d ∷ ds) ds m offset leaves (other_source given p old (origin.Document at) (d ∷ ds) is (λ d around. tt))
    (ap inner (lists_known given p old ahead.Nothing (origin.Document at) 1 (d ∷ ds) none is begun) ∙ over)
    (ap (λ o. documents_around o old.source.begun (d ∷ ds)) is ∙ ap (λ n. documents_around (origin.Document at) n (d ∷ ds)) begun)
    (left_state given p None next asked old new old.putting.buffers left leaves (leaves.buffers ∙ ap (λ o. buffers_around o old.putting.buffers) is))

pub ends_are_told : EndsAreTold
ends_are_told given p old new next asked at leaves is told begun left ds =
    leaves_run given p None next asked old new left ds ds Begun 0 leaves (other_source given p old (origin.Document at) ds is (λ d around. tt))
    (ap inner (lists_known given p old ahead.Ended (origin.Document at) 0 ds told is begun))
    (ap (λ o. documents_around o old.source.begun ds) is ∙ ap (λ n. documents_around (origin.Document at) n ds) begun)
    (left_state given p None next asked old new old.putting.buffers left leaves (leaves.buffers ∙ ap (λ o. buffers_around o old.putting.buffers) is))

pub goes_no_further : GoesNoFurther
goes_no_further given m asks left d ds why stops = cut_there given m.program m.run left d ds why asks.wants stops
