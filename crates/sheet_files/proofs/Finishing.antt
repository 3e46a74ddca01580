-- What the loading of a sheet comes to from where its own file was opened.
use Rattle.std.proofs.Common.{◌≡◌, ℕ, ◌<◌, true, false, List, [], ◌∷◌, ◌++◌, length, Option, Some, None, IfSome, Result, Ok, Err, refl, sym, ap, subst, ◌∙◌, arith, inl, inr}
use Rattle.std.specs.Option.{option_and_then}
use Rattle.stx_base.specs.declared.limits.Limits.{Limits}
use Rattle.stx_host.proofs.OpenIds.{given_is_open}
use Rattle.stx_host.specs.Outside.{Closes, IsOpen, MayOpen, Opens, Outside, SameCounts, and_more, is_among, opened, place}
use Rattle.stx_host.specs.declared.act.Act.{Act}
use Rattle.stx_host.specs.declared.act.Act.TheVariants.{Open}
use Rattle.stx_host.specs.declared.act.Doc.{Doc}
use Rattle.stx_host.specs.declared.act.Opened.TheVariants.{Id}
use Rattle.xml_events.specs.Source.{Source}
use Rattle.fault_report.specs.declared.outcome.HostFault.TheVariants as host_fault
use Rattle.fault_report.specs.declared.outcome.Outcome.{Outcome}
use Rattle.fault_report.specs.declared.outcome.Outcome.TheVariants as outcome
use Rattle.sheet_loader.proofs.Ending.{comes_to_one}
use Rattle.sheet_loader.proofs.Readers.{in_one_way}
use Rattle.sheet_loader.specs.Levels.{name_at}
use Rattle.sheet_loader.specs.Loaders.{EndsInFault, GivesSheet, Standing, is_over, wanted_in}
use Rattle.sheet_files.specs.Held.{AreNumbered, IsHeld, IsWithin, ids_of, names_of}
use Rattle.sheet_files.specs.Loading.{LoadsTo}
use Rattle.sheet_files.specs.Reading.{IsRead, IsReadBy}
use Rattle.sheet_files.specs.Steps.{Enters, FailsAs, Finishes, IsEmpty, IsFresh, IsHalted, IsLastOpen, KeepsFiles, LeavesAll, OpensFirst, OpensOwn, StepsTo, names_to}
use Rattle.sheet_files.specs.Undecided.{IsUndecided}
use Rattle.sheet_files.specs.declared.going.Going.{Going}
use Rattle.sheet_files.specs.declared.load.Loaded.{Loaded}
use Rattle.sheet_files.specs.declared.reading.Halt.{Halt}
use Rattle.sheet_files.specs.declared.reading.Halt.TheVariants as halt
use Rattle.sheet_files.specs.declared.reading.Reading.{Reading}
use Rattle.sheet_files.proofs.Coming.{own_read}
use Rattle.sheet_files.proofs.Doing.{closes_open_none, counts_closed, counts_none, counts_then, done_nothing, done_open, done_then, has_closed}
use Rattle.sheet_files.proofs.Ends.{quiet_closes}
use Rattle.sheet_files.proofs.Halting.{first_like, first_none, first_own, first_told}
use Rattle.sheet_files.proofs.Holding.{closed_ids, if_some}
use Rattle.sheet_files.proofs.Opening.{length_map}
use Rattle.sheet_files.proofs.Outcomes.{fault_loads_to, memory_loads_to, sheet_loads_to, short_loads_to, unopened_loads_to, unread_loads_to}
use Rattle.sheet_files.proofs.Owning.{own_held, own_within}
use Rattle.sheet_files.proofs.Seeing.{no_snoc, numbered_front, snoc_same}
use Rattle.sheet_files.proofs.Staying.{begins_undecided, opened_undecided, stays_closed}
use Rattle.sheet_files.proofs.Stepping.{held_like, read_like, within_like}
use Rattle.sheet_files.proofs.Within.{if_at}

-- the id that was given is the last one
given_last : (told : Option (List ℕ)) (id : ℕ) → IfSome told (λ ids. is_among ids id ≡ false) → IfSome (and_more told (id ∷ [])) (λ ids. (before : List ℕ) × (ids ≡ before ++ id ∷ []) × (is_among before id ≡ false))
given_last None id none = tt
given_last (Some ids) id none = (ids, refl, none)

pub last_given : (start o : Outside) (name : List ℕ) (id : ℕ) → MayOpen start name (Id id) → Opens start name (Id id) o → IsLastOpen o id
last_given start o name id may does =
    (may.above_zero, subst (λ (t : Option (List ℕ)). IfSome t (λ ids. (before : List ℕ) × (ids ≡ before ++ id ∷ []) × (is_among before id ≡ false))) (sym (ap (λ (x : Outside). x.open_ids) does)) (given_last start.open_ids id may.not_open))

open_by : (o : Outside) (id : ℕ) → 0 < id → (told : Option (List ℕ)) → IfSome told (λ ids. (before : List ℕ) × (ids ≡ before ++ id ∷ []) × (is_among before id ≡ false)) → IsOpen told id
open_by o id some None last = record { above_zero = some; told = tt }
open_by o id some (Some ids) last =
    let q : Outside = record o { open_ids = Some last.0; documents = None } in
    subst (λ (l : List ℕ). IsOpen (Some l) id) (sym last.1) (given_is_open q (opened q [] id) [] id (record { above_zero = some; not_open = last.2; known = tt }) refl)

pub open_last : (o : Outside) (id : ℕ) → IsLastOpen o id → IsOpen o.open_ids id
open_last o id last = open_by o id last.0 o.open_ids last.1

pub empty_like : (within : Limits) (own file : List ℕ) (r : Reading) → own ≡ file → IsEmpty within own r → IsEmpty r.limits file r
empty_like within own file r e empty = subst (λ (f : List ℕ). IsEmpty r.limits f r) e (subst (λ (l : Limits). IsEmpty l own r) (sym empty.limits) empty)

-- the own file was entered
module _ (o : Outside) (old new : Reading) (file : List ℕ) (id : ℕ) (empty : IsEmpty old.limits file old) (last : IsLastOpen o id) (enters : Enters file id old new (Ok tt)) where
  abbrev own : Going
  own = enters.0.0

  abbrev fresh : IsFresh old.limits id (length old.files.items) own
  fresh = enters.0.1

  going_is : new.going.items ≡ own ∷ []
  going_is = enters.0.2 ∙ ap (λ (l : List Going). l ++ own ∷ []) empty.going

  files_is : new.files.items ≡ record { name = file; bytes = [] } ∷ []
  files_is = enters.1 ∙ ap (λ (l : List Doc). l ++ record { name = file; bytes = [] } ∷ []) empty.files

  number : own.number ≡ 0
  number = fresh.numbered ∙ ap length empty.files

  ended : own.reader.lexer.ended ≡ false
  ended = ap (λ (s : Source). s.lexer.ended) fresh.begins

  last_own : IsLastOpen o own.id
  last_own = subst (IsLastOpen o) (sym fresh.given) last

  pub begun_held : IsHeld o new
  begun_held = held_like o old.limits new.limits (own ∷ []) new.going.items 1 (length new.files.items) going_is (ap length files_is) enters.4 (own_held o old.limits own last_own number (ap (λ (s : Source). s.lexer.limits) fresh.begins))

  pub begun_read : IsRead file new []
  begun_read =
      subst (λ (l : Limits). IsReadBy l file new.going.items new.files.items new.loader new.left []) (sym enters.4)
      (read_like old.limits file (own ∷ []) new.going.items (record { name = file; bytes = [] } ∷ []) new.files.items old.loader new.loader old.limits.sheet new.left [] going_is files_is enters.2 (enters.3 ∙ empty.left)
      (own_read old.limits file comes_to_one own old.loader number fresh.nothing fresh.none_taken fresh.document (ap (λ (s : Source). s.over) fresh.begins) ended empty.names empty.progress empty.sheet))

  pub begun_none : wanted_in new.loader.progress ≡ None
  begun_none = ap (λ (x : Standing). wanted_in x.progress) enters.2 ∙ ap wanted_in empty.progress

  pub begun_within : (start : Outside) → OpensOwn start o file id → IsWithin start o new.going.items new.files.items [] (Open (option_and_then (λ docs. place docs file) start.documents) own.id ∷ [])
  begun_within start opens =
      within_like start o (own ∷ []) new.going.items (record { name = file; bytes = [] } ∷ []) new.files.items [] (Open (option_and_then (λ docs. place docs file) start.documents) own.id ∷ []) going_is files_is
      (own_within start o old.limits file own (subst (OpensOwn start o file) (sym fresh.given) opens) number fresh.nothing ended)

  pub begun_asked : (start : Outside) → IsUndecided start new.limits file (Open (option_and_then (λ docs. place docs file) start.documents) own.id ∷ [])
  begun_asked start = opened_undecided new.limits file start (option_and_then (λ docs. place docs file) start.documents) own.id

-- memory was wanting before anything was read
pub own_short : (start o p : Outside) (limits : Limits) (file : List ℕ) (id : ℕ) → OpensOwn start o file id → Closes o id p → LoadsTo start p limits file (Err outcome.Memory)
own_short start o p limits file id opens closes =
    let doc = option_and_then (λ docs. place docs file) start.documents in
    let closed = has_closed o p id opens.may.above_zero closes in
    short_loads_to start p limits file (Open doc id ∷ closed.acts) (file ∷ []) (done_then start o p (Open doc id ∷ []) closed.acts (done_open start o file (Id id) opens.may opens.opens) closed.done)
    (ap (λ (l : List (Option ℕ)). doc ∷ l) (closes_open_none closed.acts closed.closes)) (first_own start limits file) (if_at start.open_ids (λ s e. (quiet_closes closed.acts closed.closes).none_behind))
    (stays_closed limits file start (Open doc id ∷ []) closed.acts closed.closes (opened_undecided limits file start doc id))
    (counts_then start o p (subst (SameCounts start) (sym opens.opens) (record { doc = refl; main = refl; out = refl; note = refl })) (counts_closed o p id closes))
    (closed_ids o p start.open_ids id opens.may.above_zero opens.may.not_open (ap (λ (x : Outside). x.open_ids) opens.opens) closes)

pub nothing_loads_to : (start : Outside) (limits : Limits) (name : List ℕ) → LoadsTo start start limits name (Err outcome.Memory)
nothing_loads_to start limits name = short_loads_to start start limits name [] [] (done_nothing start) refl (first_none start limits name) (if_at start.open_ids (λ s e. tt)) (begins_undecided limits name start) (counts_none start) refl

-- all was read
module _ (start o q p : Outside) (limits : Limits) (name : List ℕ) (first mid new : Reading) (acts : List Act) (within : IsWithin start o first.going.items first.files.items [] acts) (asked : IsUndecided start first.limits name acts)
    (steps : StepsTo name o q first mid (Ok tt)) (same_limits : mid.limits ≡ limits) (over : is_over mid.loader.progress ≡ true) (held : IsHeld q mid) (leaves : LeavesAll q p mid new) where
  pub finished_to : (result : Result Loaded Outcome) → Finishes new result → LoadsTo start p limits name result
  finished_to result finishes =
      let w = steps.3 start acts within in
      let read = subst (λ (l : Limits). IsReadBy l name mid.going.items mid.files.items mid.loader mid.left steps.0) same_limits steps.1 in
      let ids = leaves.ids start.open_ids w.1.ids in
      let undecided = subst (λ (l : Limits). IsUndecided start l name w.0) (sym steps.4 ∙ same_limits) (w.2 asked) in
      by result finishes read w.0 w.1 undecided ids where
        by : (result : Result Loaded Outcome) → Finishes new result → IsReadBy limits name mid.going.items mid.files.items mid.loader mid.left steps.0 → (acts : List Act) → IsWithin start q mid.going.items mid.files.items steps.0 acts → IsUndecided start limits name acts → p.open_ids ≡ start.open_ids → LoadsTo start p limits name result
        by (Ok loaded) finishes read acts w undecided ids =
            sheet_loads_to start q p limits name mid.going.items mid.files.items mid.loader mid.left steps.0 read over held.numbered acts w undecided leaves.acts leaves.closes leaves.done leaves.counts ids in_one_way.0 loaded
            (subst (λ (x : Standing). GivesSheet x loaded.sheet) leaves.loader finishes.0) (finishes.1 ∙ leaves.files)
        by (Err (outcome.Sheet fault)) finishes read acts w undecided ids =
            fault_loads_to start q p limits name mid.going.items mid.files.items mid.loader mid.left steps.0 read over held.numbered acts w undecided leaves.acts leaves.closes leaves.done leaves.counts ids fault
            (subst (λ (x : Standing). EndsInFault x fault) leaves.loader finishes)
        by (Err outcome.Memory) finishes read acts w undecided ids = memory_loads_to start q p limits name acts leaves.acts (names_of mid.files.items ++ _) w.done w.opened (if_some start.open_ids (λ ids once. once.none_behind) w.once) undecided leaves.closes leaves.done ids leaves.counts
            (first_told start q limits name mid.going.items mid.files.items mid.loader mid.left steps.0 acts read w) w.counts
        by (Err outcome.Done) finishes read acts w undecided ids = absurd finishes
        by (Err (outcome.Run file code offset)) finishes read acts w undecided ids = absurd finishes
        by (Err outcome.Usage) finishes read acts w undecided ids = absurd finishes
        by (Err (outcome.Xml file fault)) finishes read acts w undecided ids = absurd finishes
        by (Err (outcome.Host file fault offset)) finishes read acts w undecided ids = absurd finishes
        by (Err (outcome.Fuel file offset)) finishes read acts w undecided ids = absurd finishes

-- reading halted
module _ (start o q p : Outside) (limits : Limits) (name : List ℕ) (first mid kept new : Reading) (acts : List Act) (within : IsWithin start o first.going.items first.files.items [] acts) (asked : IsUndecided start first.limits name acts) (begun_limits : first.limits ≡ limits)
    (same_limits : mid.limits ≡ limits) (held : IsHeld q mid) (keeps : KeepsFiles mid kept) (leaves : LeavesAll q p kept new) where
  pub kept_held : IsHeld q kept
  kept_held = held_like q mid.limits kept.limits mid.going.items kept.going.items (length mid.files.items) (length kept.files.items) (ap (λ v. v.items) keeps.0) keeps.1 keeps.2 held

  pub halted_to : (why : Halt) (told : Outcome) → StepsTo name o q first mid (Err why) → FailsAs why mid told → LoadsTo start p limits name (Err told)
  halted_to why told steps fails =
      let halts = steps start acts within in
      by why halts.0 (subst (λ (l : Limits). IsUndecided start l name halts.0.acts) begun_limits (halts.1 asked)) fails where
        first_by : (why : Halt) (h : IsHalted name start q mid why) → OpensFirst start limits name (names_to h.names why)
        first_by why h = first_like start mid.limits limits name (names_to h.names why) (names_to h.names why) (sym same_limits) refl h.first

        by : (why : Halt) (h : IsHalted name start q mid why) → IsUndecided start limits name h.acts → FailsAs why mid told → LoadsTo start p limits name (Err told)
        by (halt.Unopened file) h undecided fails =
            subst (λ (t : Outcome). LoadsTo start p limits name (Err t)) (sym fails)
            (unopened_loads_to start q p limits name h.acts leaves.acts h.names h.done h.opened h.once undecided leaves.closes leaves.done (leaves.ids start.open_ids (h.ids ∙ ap (λ (l : List Going). and_more start.open_ids (ids_of l)) (sym (ap (λ v. v.items) keeps.0)))) leaves.counts file (first_by (halt.Unopened file) h) h.counts h.lacks)
        by halt.Memory h undecided fails =
            subst (λ (t : Outcome). LoadsTo start p limits name (Err t)) (sym fails)
            (memory_loads_to start q p limits name h.acts leaves.acts h.names h.done h.opened h.once undecided leaves.closes leaves.done (leaves.ids start.open_ids (h.ids ∙ ap (λ (l : List Going). and_more start.open_ids (ids_of l)) (sym (ap (λ v. v.items) keeps.0)))) leaves.counts (first_by halt.Memory h) h.counts)
        by halt.Unread h undecided fails =
            elim fails [
              | inl none ↦ absurd (no_snoc h.at.0 h.at.1 (sym h.at.2 ∙ none.1))
              | inr some ↦ let same = (snoc_same h.at.0 some.0 h.at.1 some.1 (sym h.at.2 ∙ some.2)).1 in
                  let number = (numbered_front 0 h.at.0 h.at.1 (length mid.files.items) (subst (λ (l : List Going). AreNumbered 0 l (length mid.files.items)) h.at.2 held.numbered)).1 in
                  let count = length_map (λ (d : Doc). d.name) mid.files.items in
                  let names = ap length h.at.3 in
                  let told_is = some.3 ∙ ap (λ (g : Going). outcome.Host (name_at (names_of mid.files.items) g.number) host_fault.Doc (length g.bytes.items)) (sym same) ∙ ap (λ (ns : List (List ℕ)). outcome.Host (name_at ns h.at.1.number) host_fault.Doc (length h.at.1.bytes.items)) (sym h.at.3) in
                  subst (λ (t : Outcome). LoadsTo start p limits name (Err t)) (sym told_is)
                  (unread_loads_to start q p limits name h.acts leaves.acts h.names h.done h.opened h.once undecided leaves.closes leaves.done (leaves.ids start.open_ids (h.ids ∙ ap (λ (l : List Going). and_more start.open_ids (ids_of l)) (sym (ap (λ v. v.items) keeps.0)))) leaves.counts h.at.1.id h.at.1.number (length h.at.1.bytes.items) (omega (arith, number, count, names)) (first_by halt.Unread h) h.counts h.lacks h.at.4)
            ]
