-- Where no event is ready, and where a piece is handed in.
use Rattle.std.proofs.Common.{◌≡◌, ◌≤◌, ℕ, Bool, true, List, [], ◌∷◌, ◌++◌, Option, Some, None, is_none, length, map, reverse, refl, sym, ap, subst, ◌∙◌, arith}
use Rattle.stx_base.specs.Course.{Halt, Same, says}
use Rattle.stx_base.specs.declared.fault.XmlFault.{XmlFault}
use Rattle.stx_base.specs.declared.limits.Limits.{Limits}
use Rattle.stx_base.proofs.Course.{same_equal, same_then}
use Rattle.result_writer.specs.Target.{nothing}
use Rattle.fault_report.specs.declared.outcome.Outcome.TheVariants as ended
use Rattle.sheet_model.specs.declared.sheet.Sheet.{Sheet}
use Rattle.template_machine.specs.Between.{IsOf, documents_of}
use Rattle.template_machine.specs.Ending.{Malformed, Said}
use Rattle.template_machine.specs.Giving.{AsksForNone, BeginsDocument, EndsAtCut, HasOrdinarySheet, RunsInOrder, Turned, document_of, params_of, rest, whole}
use Rattle.template_machine.specs.Job.{Given}
use Rattle.template_machine.specs.Outcome.{AreNew}
use Rattle.template_machine.specs.Stepwise.{Flat_does, flat_code}
use Rattle.template_machine.specs.Written.{Wrote, target_of}
use Rattle.template_machine.specs.WrittenOn.{wrote_nothing}
use Rattle.template_machine.specs.declared.output.Output.{Output}
use Rattle.template_machine.specs.declared.turn.Turn.{Turn}
use Rattle.template_machine.specs.declared.turn.Turn.TheVariants as turn
use Rattle.xml_events.specs.Document.{inner}
use Rattle.xml_events.specs.Source.{future}
use Rattle.xml_events.specs.Telling.{pulled}
use Rattle.xml_events.specs.Tree.{Bad, Begun, End, Forest, Future}
use Rattle.xml_events.specs.declared.event.Pull.{Pull}
use Rattle.xml_events.specs.declared.event.Pull.TheVariants as pull
use Rattle.run_engine.specs.Does.{EndsAs, InOrder, InOrderAt, IsMainAlone, IsRunOf}
use Rattle.run_engine.specs.More.{Coming, more, more_at, to_come, with_piece}
use Rattle.run_engine.specs.Run as spec
use Rattle.run_engine.specs.Run.{Main, MainIsHungry, MayCome, New, Open, Over, Stage, StandsAt}
use Rattle.run_engine.specs.Taking.{ended_first, fed_first, handed}
use Rattle.run_engine.specs.declared.document.Document.{Document}
use Rattle.run_engine.specs.declared.piece.Piece.{Piece}
use Rattle.run_engine.specs.declared.piece.Piece.TheVariants as piece
use Rattle.run_engine.specs.declared.run.Core.{Core}
use Rattle.run_engine.specs.declared.run.Stage as own
use Rattle.run_engine.specs.declared.run.Stage.TheVariants as stage
use Rattle.run_engine.specs.inside.Cores.{AreReadable, IsFresh, IsKept, Pulls, documents_in, is_main, lists_of, lists_open, mains_in, open_of, opens_of, run_of, stage_of}
use Rattle.run_engine.specs.inside.Gives.{Gives, GivesAfter, GivesFrom, GivesPiece, MayRun, OrderAt, ReadsInOrder, Runs, TellsEnd, TellsTurn, gives}
use Rattle.run_engine.proofs.Events.{behind}
use Rattle.run_engine.proofs.Future.{stops}
use Rattle.run_engine.proofs.Given.{come-first}
use Rattle.run_engine.proofs.Gives.{gives-none, gives-then, limit-kept, order-told, order-turned, runs-on, told-ends, turn-ends}
use Rattle.run_engine.proofs.Pulled.{documents-read}

-- No event

module _ (old mid : Core) (x : Pull) (p : Pulls old x mid) where
  pub opens-mid : opens_of mid ≡ open_of p.after ∷ map open_of (reverse old.outer.items)
  opens-mid = ap (map open_of) (documents-read mid p.after p.is ∙ ap (λ os. p.after ∷ reverse os) p.outer)

  pub opens-old : opens_of old ≡ open_of p.before ∷ map open_of (reverse old.outer.items)
  opens-old = ap (map open_of) (documents-read old p.before p.was)

  pub runs-mid : (given : Given) → Runs given old → Runs given mid
  runs-mid given may =
      record { documents = may.documents; of = p.of given.sheet given.limits may.of; params = may.params ∙ sym p.params; limit = ap (λ o. (target_of o).limit) p.out ∙ may.limit }

-- what was to come is still to come
same-come : (old mid : Core) (x : Pull) (p : Pulls old x mid) → ((bytes : List ℕ) (last : Bool) → future p.after.reader bytes last ≡ future p.before.reader bytes last) → (c : Coming)
    → to_come (opens_of old) c ≡ to_come (opens_of mid) c
same-come old mid x p same c =
    ap (λ ds. to_come ds c) (opens-old old mid x p) ∙ ap (λ f. f ++ behind) (sym (same c.bytes c.ended)) ∙ sym (ap (λ ds. to_come ds c) (opens-mid old mid x p))

same-gives : (given : Given) (old mid : Core) (x : Pull) (p : Pulls old x mid) → ((bytes : List ℕ) (last : Bool) → future p.after.reader bytes last ≡ future p.before.reader bytes last) → (c : Coming)
    → gives old given c ≡ gives mid given c
same-gives given old mid x p same c =
    ap (λ f. rest given old.machine (target_of old.out).left f) (same-come old mid x p same c)
    ∙ p.gives given (target_of old.out).left (to_come (opens_of mid) c)
    ∙ ap (λ o. rest given mid.machine (target_of o).left (to_come (opens_of mid) c)) (sym p.out)

main-alone : (d e : Open) (ds : List Open) → IsMainAlone (d ∷ ds) → e.name ≡ d.name → IsMainAlone (e ∷ ds) × (e.name ≡ None)
main-alone d e [] h n = (n ∙ h, n ∙ h)
main-alone d e (f ∷ ds) h n = absurd h

mid-alone : (old mid : Core) (x : Pull) (p : Pulls old x mid) → IsMainAlone (opens_of old) → IsMainAlone (open_of p.after ∷ map open_of (reverse old.outer.items)) × (p.after.name ≡ None)
mid-alone old mid x p alone =
    main-alone (open_of p.before) (open_of p.after) (map open_of (reverse old.outer.items)) (subst IsMainAlone (opens-old old mid x p) alone) p.name

-- more of the main document is wanted
pub needed :
    (old mid new : Core) (p : Pulls old pull.Need mid) → ReadsInOrder old → new ≡ record mid { stage = new.stage } → (is_main mid.newest ≡ true → stage_of new.stage ≡ Main)
    → Gives (stage_of new.stage) old new
needed old mid new p order kept main =
    let m = mid-alone old mid pull.Need p order.documents in
    let asks : stage_of new.stage ≡ Main = main (ap is_main p.is ∙ ap is_none m.1) in
    let out-is : new.out ≡ old.out = ap (λ (c : Core). c.out) kept ∙ p.out in
    let machine-is : new.machine ≡ mid.machine = ap (λ (c : Core). c.machine) kept in
    let opens-are : opens_of new ≡ opens_of mid = ap opens_of kept in
    let wrote : Wrote old.out new.out [] = subst (λ o. Wrote old.out o []) (sym out-is) (wrote_nothing old.out) in
    let order-now : ReadsInOrder new = record {
      machine = subst RunsInOrder (sym machine-is) (p.order order.machine);
      documents = subst IsMainAlone (sym (opens-are ∙ opens-mid old mid pull.Need p)) m.0;
    } in
    subst (λ s. Gives s old new) (sym asks)
    (record {
      said = [];
      wrote = wrote;
      order = order-now;
      runs = λ given may. runs-on given old new [] (λ sheet limits is. subst (IsOf sheet limits) (sym machine-is) (p.of sheet limits is)) (ap params_of machine-is ∙ p.params) wrote may;
      does = λ given may c. same_equal (flat_code given) (same-gives given old mid pull.Need p p.leaves c ∙ sym (ap (λ x. gives x given c) kept));
    })

-- the main document has a fault
pub faulted :
    (old mid new : Core) (fault : XmlFault) (p : Pulls old (pull.Bad fault) mid) → ReadsInOrder old → EndsAtCut → new ≡ record mid { stage = new.stage }
    → ((d : Document) → mid.newest ≡ Some d → TellsEnd mid.files (Malformed d.name fault) (stage_of new.stage)) → Gives (stage_of new.stage) old new
faulted old mid new fault p order ends kept tells =
    let m = mid-alone old mid (pull.Bad fault) p order.documents in
    let out-is : new.out ≡ old.out = ap (λ (c : Core). c.out) kept ∙ p.out in
    let machine-is : new.machine ≡ mid.machine = ap (λ (c : Core). c.machine) kept in
    let wrote : Wrote old.out new.out [] = subst (λ o. Wrote old.out o []) (sym out-is) (wrote_nothing old.out) in
    let told : TellsEnd mid.files (Malformed None fault) (stage_of new.stage) = subst (λ n. TellsEnd mid.files (Malformed n fault) (stage_of new.stage)) m.1 (tells p.after p.is) in
    record {
      said = [];
      wrote = wrote;
      order = order-told mid.files (Malformed None fault) (stage_of new.stage) new told;
      runs = λ given may. runs-on given old new [] (λ sheet limits is. subst (IsOf sheet limits) (sym machine-is) (p.of sheet limits is)) (ap params_of machine-is ∙ p.params) wrote may;
      does = λ given may c.
          let f : Future = to_come (open_of p.after ∷ map open_of (reverse old.outer.items)) c in
          told-ends given old.files (stage_of new.stage) (Malformed None fault) (gives old given c) (gives new given c) []
          (subst (λ files. TellsEnd files (Malformed None fault) (stage_of new.stage)) p.own.files told)
          (same_then (same_equal (flat_code given) (same-gives given old mid (pull.Bad fault) p p.leaves c ∙ ap (λ ds. rest given mid.machine (target_of mid.out).left (to_come ds c)) (opens-mid old mid (pull.Bad fault) p)))
          (ends given mid.machine p.asking (target_of mid.out).left (Bad fault) f
          (stops (Bad fault) p.after.reader c.bytes c.ended behind p.goes (ap pulled (p.leaves c.bytes c.ended) ∙ p.answer c.bytes c.ended))));
    }

-- memory is wanting where an event was read
pub lacked : (old mid new : Core) (p : Pulls old pull.Memory mid) → new ≡ record mid { stage = stage.Over ended.Memory } → Gives (stage_of new.stage) old new
lacked old mid new p becomes =
    subst (λ (c : Core). Gives (stage_of c.stage) old c) (sym becomes)
    (gives-none (λ given. Runs given old) (gives old) old (record mid { stage = stage.Over ended.Memory }) (λ given may. may) p.of p.params p.out)

-- Pieces

-- memory is wanting where a piece comes
pub piece-lacks :
    (p : Piece) (old mid new : Core) → mid.machine ≡ old.machine → mid.out ≡ old.out → new ≡ record mid { stage = stage.Over ended.Memory } → GivesPiece p (stage_of new.stage) old new
piece-lacks p old mid new machine out becomes =
    subst (λ (c : Core). GivesPiece p (stage_of c.stage) old c) (sym becomes)
    (gives-none (MayRun old) (λ given x. more given (run_of old) (with_piece p x)) old (record mid { stage = stage.Over ended.Memory })
    (λ given may. record { documents = may.0; of = may.1.of; params = may.1.params; limit = may.1.limit }) (λ sheet limits is. subst (IsOf sheet limits) (sym machine) is) (ap params_of machine) out)

alone-handed : (ds : List Open) (p : Piece) (r : spec.Run) → r.documents ≡ ds → MayCome Main p → IsMainAlone ds → IsMainAlone (handed r p)
alone-handed ds piece.Start r is may alone = absurd may
alone-handed ds (piece.Bytes bytes) r is may alone = subst (λ es. IsMainAlone (fed_first bytes.now es)) (sym is) (fed ds alone) where
  fed : (ds : List Open) → IsMainAlone ds → IsMainAlone (fed_first bytes.now ds)
  fed [] h = tt
  fed (d ∷ []) h = h
  fed (d ∷ e ∷ ds) h = absurd h
alone-handed ds piece.End r is may alone = subst (λ es. IsMainAlone (ended_first es)) (sym is) (over ds alone) where
  over : (ds : List Open) → IsMainAlone ds → IsMainAlone (ended_first ds)
  over [] h = tt
  over (d ∷ []) h = h
  over (d ∷ e ∷ ds) h = absurd h
alone-handed ds piece.Opened r is may alone = absurd may
alone-handed ds piece.Absent r is may alone = absurd may

-- a piece of the main document comes to a core that asks for it
main-gives :
    (p : Piece) (old mid new : Core) → old.stage ≡ stage.Main → IsKept old → InOrder (run_of old) → MayCome Main p → mid.machine ≡ old.machine → mid.out ≡ old.out → mid.files ≡ old.files
    → opens_of mid ≡ handed (run_of old) p → (s : Stage) → (ReadsInOrder mid → Gives s mid new) → GivesPiece p s old new
main-gives p old mid new is kept order may machine out files given-is s goes =
    let in-order : RunsInOrder old.machine × IsMainAlone (opens_of old) = subst (λ x. InOrderAt (stage_of x) old.machine (opens_of old)) is order in
    let hungry : MainIsHungry (opens_of old) = subst (λ x. StandsAt (stage_of x) old.files (opens_of old)) is kept.stands in
    let order-mid : ReadsInOrder mid = record {
      machine = subst RunsInOrder (sym machine) in-order.0;
      documents = subst IsMainAlone (sym given-is) (alone-handed (opens_of old) p (run_of old) refl may in-order.1);
    } in
    let wrote : Wrote old.out mid.out [] = subst (λ o. Wrote old.out o []) (sym out) (wrote_nothing old.out) in
    gives-then (MayRun old) (λ given x. more given (run_of old) (with_piece p x)) s old mid new files
    (record {
      said = [];
      wrote = wrote;
      order = order-mid;
      runs = λ given m.
          record {
            documents = m.0;
            of = subst (IsOf given.sheet given.limits) (sym machine) m.1.of;
            params = m.1.params ∙ sym (ap params_of machine);
            limit = ap (λ o. (target_of o).limit) out ∙ m.1.limit;
          };
      does = λ given m x.
          same_equal (flat_code given)
          (ap (λ st. more_at (stage_of st) given (opens_of old) old.machine (target_of old.out).left (with_piece p x)) is
          ∙ ap (λ f. rest given old.machine (target_of old.out).left f) (sym (come-first (run_of old) p x hungry may))
          ∙ ap (λ ds. rest given old.machine (target_of old.out).left (to_come ds x)) (sym given-is)
          ∙ ap (λ o. rest given old.machine (target_of o).left (to_come (opens_of mid) x)) (sym out)
          ∙ ap (λ m. rest given m (target_of mid.out).left (to_come (opens_of mid) x)) (sym machine));
    }) (goes order-mid)

-- bytes, or the end, come to the main document of a run in order
pub bytes-give :
    (bytes : _) (old mid new : Core) → MayCome (stage_of old.stage) (piece.Bytes bytes) → IsKept old → InOrder (run_of old) → mid.machine ≡ old.machine → mid.out ≡ old.out → mid.files ≡ old.files
    → opens_of mid ≡ handed (run_of old) (piece.Bytes bytes) → (s : Stage) → (ReadsInOrder mid → Gives s mid new) → GivesPiece (piece.Bytes bytes) s old new
bytes-give bytes old mid new may kept order machine out files given-is s goes = by old.stage refl where
  by : (x : own.Stage) → old.stage ≡ x → GivesPiece (piece.Bytes bytes) s old new
  by stage.New is = absurd (subst (λ x. MayCome (stage_of x) (piece.Bytes bytes)) is may)
  by stage.Main is =
      main-gives (piece.Bytes bytes) old mid new is kept order tt machine out files given-is s goes
  by stage.Document is = absurd (subst (λ x. InOrderAt (stage_of x) old.machine (opens_of old)) is order)
  by (stage.Wants name) is = absurd (subst (λ x. MayCome (stage_of x) (piece.Bytes bytes)) is may)
  by (stage.Over o) is = absurd (subst (λ x. MayCome (stage_of x) (piece.Bytes bytes)) is may)

pub end-gives :
    (old mid new : Core) → MayCome (stage_of old.stage) piece.End → IsKept old → InOrder (run_of old) → mid.machine ≡ old.machine → mid.out ≡ old.out → mid.files ≡ old.files
    → opens_of mid ≡ handed (run_of old) piece.End → (s : Stage) → (ReadsInOrder mid → Gives s mid new) → GivesPiece piece.End s old new
end-gives old mid new may kept order machine out files given-is s goes = by old.stage refl where
  by : (x : own.Stage) → old.stage ≡ x → GivesPiece piece.End s old new
  by stage.New is = absurd (subst (λ x. MayCome (stage_of x) piece.End) is may)
  by stage.Main is =
      main-gives piece.End old mid new is kept order tt machine out files given-is s goes
  by stage.Document is = absurd (subst (λ x. InOrderAt (stage_of x) old.machine (opens_of old)) is order)
  by (stage.Wants name) is = absurd (subst (λ x. MayCome (stage_of x) piece.End) is may)
  by (stage.Over o) is = absurd (subst (λ x. MayCome (stage_of x) piece.End) is may)

-- a run in order asks for no other document
pub never-opened : {P : Type 0} (old : Core) → MayCome (stage_of old.stage) piece.Opened → InOrder (run_of old) → P
never-opened old may order = absurd (by old.stage may order) where
  by : (x : own.Stage) → MayCome (stage_of x) piece.Opened → InOrderAt (stage_of x) old.machine (opens_of old) → ⊥
  by stage.New m o = m
  by stage.Main m o = m
  by stage.Document m o = m
  by (stage.Wants name) m o = o
  by (stage.Over x) m o = m

pub never-absent : {P : Type 0} (old : Core) → MayCome (stage_of old.stage) piece.Absent → InOrder (run_of old) → P
never-absent old may order = absurd (by old.stage may order) where
  by : (x : own.Stage) → MayCome (stage_of x) piece.Absent → InOrderAt (stage_of x) old.machine (opens_of old) → ⊥
  by stage.New m o = m
  by stage.Main m o = m
  by stage.Document m o = m
  by (stage.Wants name) m o = o
  by (stage.Over x) m o = m

-- The start

pub new-at : (s : own.Stage) → MayCome (stage_of s) piece.Start → stage_of s ≡ New
new-at stage.New m = refl
new-at stage.Main m = absurd m
new-at stage.Document m = absurd m
new-at (stage.Wants name) m = absurd m
new-at (stage.Over o) m = absurd m

one-list : (f : Future) → length f ≡ 1 → f ≡ inner f ∷ []
one-list [] h = absurd (omega (arith, h))
one-list (l ∷ []) h = refl
one-list (l ∷ m ∷ f) h = absurd (omega (arith, h))

fresh-one : (ds : List Document) → lists_of ds ≡ 1 ∷ [] → (d : Document) × ((ds ≡ d ∷ []) × (lists_open d.reader ≡ 1))
fresh-one [] h = absurd cc
fresh-one (d ∷ []) h = (d, (refl, cc))
fresh-one (d ∷ e ∷ ds) h = absurd cc

fresh-come : (c : Core) → IsFresh c → (x : Coming) → to_come (opens_of c) x ≡ document_of (inner (to_come (opens_of c) x))
fresh-come c fresh x =
    let d = fresh-one (documents_in c) fresh.lists in
    let readable = subst (AreReadable c.limits.depth) d.1.0 fresh.readable in
    let f : Future = future d.0.reader x.bytes x.ended in
    let one : f ≡ inner f ∷ [] = one-list f (readable.0.lists x.bytes x.ended ∙ d.1.1) in
    subst (λ ds. to_come (map open_of ds) x ≡ document_of (inner (to_come (map open_of ds) x))) (sym d.1.0)
    (subst (λ g. g ++ behind ≡ document_of (inner (g ++ behind))) (sym one) refl)

fresh-main : (c : Core) → IsFresh c → IsMainAlone (opens_of c)
fresh-main c fresh =
    let d = fresh-one (documents_in c) fresh.lists in
    let mains : mains_in (d.0 ∷ []) ≡ true ∷ [] = sym (ap mains_in d.1.0) ∙ fresh.mains in
    subst (λ ds. IsMainAlone (map open_of ds)) (sym d.1.0) (unnamed d.0.name cc) where
      unnamed : (name : Option (List ℕ)) → is_none name ≡ true → name ≡ None
      unnamed None h = refl
      unnamed (Some n) h = absurd cc

module _ (old next new : Core) (t : Turn) (is-new : stage_of old.stage ≡ New) (fresh : IsFresh old) (begins : BeginsDocument (λ (out : Output). target_of out) Wrote t old.machine next.machine old.out next.out)
    (alone : AsksForNone t) (of : (sheet : Sheet) (limits : Limits) → IsOf sheet limits old.machine → IsOf sheet limits next.machine) (params : params_of next.machine ≡ params_of old.machine)
    (becomes : next ≡ record old { machine = next.machine; out = next.out }) (s : Stage) (after : GivesAfter t s next new) where
  abbrev was : Given → Coming → Flat_does
  was given x = more given (run_of old) (with_piece piece.Start x)

  was-whole : (given : Given) (x : Coming) → whole given (inner (to_come (opens_of old) x)) ≡ was given x
  was-whole given x = sym (ap (λ st. more_at st given (opens_of old) old.machine (target_of old.out).left x) is-new)

  runs-next : (given : Given) → MayRun old given → Runs given next
  runs-next given m =
      record {
        documents = m.0;
        of = of given.sheet given.limits m.1.of;
        params = m.1.params ∙ sym params;
        limit = limit-kept old.out next.out begins.said given.limits.elements begins.tells m.1.limit;
      }

  turned : (given : Given) → MayRun old given → (x : Coming) → Turned given t (was given x) begins.said (gives next given x)
  turned given m x =
      let tree : Forest = inner (to_come (opens_of old) x) in
      subst (λ y. Turned given t (was given x) begins.said y)
      (ap (λ f. rest given next.machine (target_of next.out).left f) (sym (fresh-come old fresh x)) ∙ ap (λ ds. rest given next.machine (target_of next.out).left (to_come ds x)) (sym (ap opens_of becomes)))
      (subst (λ y. Turned given t y begins.said (rest given next.machine (target_of next.out).left (document_of tree))) (was-whole given x)
      (begins.goes given m.0 m.1.of m.1.params m.1.limit (m.1.bare is-new) tree))

  order-next : t ≡ turn.More → ReadsInOrder next
  order-next goes = record { machine = begins.order goes; documents = subst IsMainAlone (sym (ap opens_of becomes)) (fresh-main old fresh) }

  more-gives : t ≡ turn.More → Gives s next new → GivesPiece piece.Start s old new
  more-gives goes g =
      gives-then (MayRun old) was s old next new (ap (λ (c : Core). c.files) becomes)
      (record {
        said = begins.said;
        wrote = begins.tells;
        order = order-next goes;
        runs = runs-next;
        does = λ given m x. subst (λ u. Turned given u (was given x) begins.said (gives next given x)) goes (turned given m x);
      }) g

  over-gives : TellsTurn next.files t s → new.machine ≡ next.machine → new.out ≡ next.out → GivesPiece piece.Start s old new
  over-gives tells machine out =
      let wrote : Wrote old.out new.out begins.said = subst (λ o. Wrote old.out o begins.said) (sym out) begins.tells in
      record {
        said = begins.said;
        wrote = wrote;
        order = order-turned next.files t s new alone tells;
        runs = λ given m.
            let r = runs-next given m in
            record {
              documents = m.0;
              of = subst (IsOf given.sheet given.limits) (sym machine) r.of;
              params = r.params ∙ sym (ap params_of machine);
              limit = ap (λ o. (target_of o).limit) out ∙ r.limit;
            };
        does = λ given m x.
            turn-ends given old.files t s (was given x) (gives next given x) (gives new given x) begins.said alone (subst (λ f. TellsTurn f t s) (ap (λ (c : Core). c.files) becomes) tells)
            (turned given m x);
      }

pub start-gives :
    (old next new : Core) (t : Turn) → stage_of old.stage ≡ New → IsFresh old → BeginsDocument (λ (out : Output). target_of out) Wrote t old.machine next.machine old.out next.out → AsksForNone t
    → ((sheet : Sheet) (limits : Limits) → IsOf sheet limits old.machine → IsOf sheet limits next.machine) → params_of next.machine ≡ params_of old.machine → next ≡ record old { machine = next.machine; out = next.out }
    → (s : Stage) → GivesAfter t s next new → GivesPiece piece.Start s old new
start-gives old next new turn.More n f b a of ps c s after = more-gives old next new turn.More n f b a of ps c s after refl (after (order-next old next new turn.More n f b a of ps c s after refl))
start-gives old next new turn.Ended n f b a of ps c s after = over-gives old next new turn.Ended n f b a of ps c s after after.0 after.1 after.2
start-gives old next new (turn.Stopped fault) n f b a of ps c s after = over-gives old next new (turn.Stopped fault) n f b a of ps c s after after.0 after.1 after.2
start-gives old next new (turn.Spent at) n f b a of ps c s after = over-gives old next new (turn.Spent at) n f b a of ps c s after after.0 after.1 after.2
start-gives old next new (turn.WantDocument name) n f b a of ps c s after = absurd a
start-gives old next new turn.Memory n f b a of ps c s after = over-gives old next new turn.Memory n f b a of ps c s after after.0 after.1 after.2
