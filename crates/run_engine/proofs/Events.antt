-- What is still to come where an event was told, and once the machine has answered.
use Rattle.std.proofs.Common.{◌≡◌, ◌≤◌, ℕ, suc, List, [], ◌∷◌, ◌++◌, Option, Some, None, length, map, reverse, refl, sym, ap, subst, ◌∙◌, arith}
use Rattle.stx_base.specs.Course.{Same, says}
use Rattle.stx_base.specs.declared.limits.Limits.{Limits}
use Rattle.stx_base.proofs.Course.{same_equal, same_then}
use Rattle.fault_report.specs.declared.outcome.Outcome.TheVariants as ended
use Rattle.sheet_model.specs.declared.sheet.Sheet.{Sheet}
use Rattle.template_machine.specs.Between.{IsOf}
use Rattle.template_machine.specs.Ending.{Said}
use Rattle.template_machine.specs.Giving.{AsksForNone, RunsInOrder, TakesEvent, Turned, params_of, rest}
use Rattle.template_machine.specs.Job.{Given}
use Rattle.template_machine.specs.Stepwise.{Flat_does, flat_code}
use Rattle.template_machine.specs.Written.{Wrote, target_of}
use Rattle.template_machine.specs.declared.machine.Machine.{Machine}
use Rattle.template_machine.specs.declared.output.Output.{Output}
use Rattle.template_machine.specs.declared.turn.Turn.{Turn}
use Rattle.template_machine.specs.declared.turn.Turn.TheVariants as turn
use Rattle.xml_events.specs.Answering.{lists_behind}
use Rattle.xml_events.specs.Source.{Source, future}
use Rattle.xml_events.specs.Telling.{followed}
use Rattle.xml_events.specs.Tree.{Begun, End, Future, Told}
use Rattle.xml_events.specs.declared.event.Event.{Event}
use Rattle.xml_events.specs.declared.event.Event.TheVariants as event
use Rattle.xml_events.specs.declared.event.Pull.TheVariants as pull
use Rattle.run_engine.specs.Does.{EndsAs, IsMainAlone}
use Rattle.run_engine.specs.More.{Coming, to_come}
use Rattle.run_engine.specs.Run.{Main, Open, Stage}
use Rattle.run_engine.specs.declared.document.Document.{Document}
use Rattle.run_engine.specs.declared.piece.Pumped.{Pumped}
use Rattle.run_engine.specs.declared.run.Core.{Core}
use Rattle.run_engine.specs.inside.Cores.{Closes, Pulls, documents_behind, documents_in, open_of, opened, opens_of, stage_of}
use Rattle.run_engine.specs.inside.Gives.{Gives, GivesFrom, OrderAt, ReadsInOrder, Runs, TellsIn, gives, gives_on, stage_after}
use Rattle.run_engine.proofs.Gives.{gives-then, order-turned, runs-on, turn-ends}
use Rattle.run_engine.proofs.Pulled.{documents-read}

-- what stands behind the main document
abbrev pub behind : Future
behind = End Begun 0 ∷ []

-- an event that isn't a document's end leaves lists that are open
abbrev IsInside : Event → Type 0
IsInside (event.DocumentEnd offset) = ⊥
IsInside e = Unit {0}

-- what an event tells stands before all that is still to come
told-onto : (e : Event) (g : Future) → IsInside e → length g ≡ lists_behind e (length (followed e g)) → followed e g ++ behind ≡ followed e (g ++ behind)
told-onto (event.Start offset name attrs decls first) [] i h = absurd (omega (arith, h))
told-onto (event.Start offset name attrs decls first) (a ∷ []) i h = absurd (omega (arith, h))
told-onto (event.Start offset name attrs decls first) (a ∷ b ∷ g) i h = refl
told-onto (event.End offset) g i h = refl
told-onto (event.Chars offset text) [] i h = absurd (omega (arith, h))
told-onto (event.Chars offset text) (a ∷ g) i h = refl
told-onto (event.CData offset text) [] i h = absurd (omega (arith, h))
told-onto (event.CData offset text) (a ∷ g) i h = refl
told-onto (event.Comment offset text) [] i h = absurd (omega (arith, h))
told-onto (event.Comment offset text) (a ∷ g) i h = refl
told-onto (event.Pi offset target text) [] i h = absurd (omega (arith, h))
told-onto (event.Pi offset target text) (a ∷ g) i h = refl
told-onto (event.DocumentEnd offset) g i h = absurd i

no-list : (g : Future) → length g ≡ 0 → g ≡ []
no-list [] h = refl
no-list (a ∷ g) h = absurd (omega (arith, h))

-- one document is open, which is the main one
alone-first : (d : Open) (ds : List Open) → IsMainAlone (d ∷ ds) → (ds ≡ []) × (d.name ≡ None)
alone-first d [] h = (refl, h)
alone-first d (e ∷ ds) h = absurd h

alone-named : (d e : Open) (ds : List Open) → e.name ≡ d.name → IsMainAlone (d ∷ ds) → IsMainAlone (e ∷ ds)
alone-named d e [] n h = n ∙ h
alone-named d e (f ∷ ds) n h = absurd h

alone-rest : (d : Open) (ds : List Open) → IsMainAlone (d ∷ ds) → IsMainAlone ds
alone-rest d [] h = tt
alone-rest d (e ∷ ds) h = absurd h

module _ (old mid : Core) (e : Event) (p : Pulls old (pull.Event e) mid) (alone : IsMainAlone (opens_of old)) where
  outer-opens : List Open
  outer-opens = map open_of (reverse old.outer.items)

  were : opens_of old ≡ open_of p.before ∷ map open_of (reverse old.outer.items)
  were = ap (map open_of) (documents-read old p.before p.was)

  are : opens_of mid ≡ open_of p.after ∷ map open_of (reverse old.outer.items)
  are = ap (map open_of) (documents-read mid p.after p.is ∙ ap (λ os. p.after ∷ reverse os) p.outer)

  front : IsMainAlone (open_of p.before ∷ map open_of (reverse old.outer.items))
  front = subst IsMainAlone were alone

  -- what was to come is the event, and then what is to come
  event-first : (x : Coming) → to_come (opens_of old) x ≡ followed e (future p.after.reader x.bytes x.ended) ++ behind
  event-first x = ap (λ ds. to_come ds x) were ∙ ap (λ f. f ++ behind) (p.leaves x.bytes x.ended)

  inside-first : IsInside e → documents_behind e mid ≡ documents_in mid → (x : Coming) → to_come (opens_of old) x ≡ followed e (to_come (map open_of (documents_behind e mid)) x)
  inside-first i same x =
      event-first x
      ∙ told-onto e (future p.after.reader x.bytes x.ended) i (p.counts x.bytes x.ended ∙ ap (λ f. lists_behind e (length f)) (p.leaves x.bytes x.ended))
      ∙ sym (ap (λ ds. followed e (to_come ds x)) (ap (map open_of) same ∙ are))

  pub alone-read : IsMainAlone (opens_of mid)
  alone-read = subst IsMainAlone (sym are) (alone-named (open_of p.before) (open_of p.after) (map open_of (reverse old.outer.items)) p.name front)

  outer-none : map open_of (reverse mid.outer.items) ≡ []
  outer-none = ap (λ os. map open_of (reverse os)) p.outer ∙ (alone-first (open_of p.before) (map open_of (reverse old.outer.items)) front).0

pub event-comes :
    (old mid : Core) (e : Event) (p : Pulls old (pull.Event e) mid) → IsMainAlone (opens_of old) → (x : Coming)
    → to_come (opens_of old) x ≡ followed e (to_come (map open_of (documents_behind e mid)) x)
event-comes old mid (event.Start offset name attrs decls first) p alone x = inside-first old mid (event.Start offset name attrs decls first) p alone tt refl x
event-comes old mid (event.End offset) p alone x = inside-first old mid (event.End offset) p alone tt refl x
event-comes old mid (event.Chars offset text) p alone x = inside-first old mid (event.Chars offset text) p alone tt refl x
event-comes old mid (event.CData offset text) p alone x = inside-first old mid (event.CData offset text) p alone tt refl x
event-comes old mid (event.Comment offset text) p alone x = inside-first old mid (event.Comment offset text) p alone tt refl x
event-comes old mid (event.Pi offset target text) p alone x = inside-first old mid (event.Pi offset target text) p alone tt refl x
event-comes old mid (event.DocumentEnd offset) p alone x =
    event-first old mid (event.DocumentEnd offset) p alone x
    ∙ ap (λ g. End Told offset ∷ (g ++ behind)) (no-list (future p.after.reader x.bytes x.ended) (p.counts x.bytes x.ended))
    ∙ sym (ap (λ ds. End Told offset ∷ to_come ds x) (outer-none old mid (event.DocumentEnd offset) p alone))

-- the documents that are open behind an event
alone-behind : (e : Event) (c : Core) → IsMainAlone (opens_of c) → IsMainAlone (map open_of (documents_behind e c))
alone-behind (event.Start offset name attrs decls first) c h = h
alone-behind (event.End offset) c h = h
alone-behind (event.Chars offset text) c h = h
alone-behind (event.CData offset text) c h = h
alone-behind (event.Comment offset text) c h = h
alone-behind (event.Pi offset target text) c h = h
alone-behind (event.DocumentEnd offset) c h = rest-of c.newest h where
  rest-of : (o : Option Document) → IsMainAlone (map open_of (opened o ++ reverse c.outer.items)) → IsMainAlone (map open_of (reverse c.outer.items))
  rest-of None h = h
  rest-of (Some d) h = alone-rest (open_of d) (map open_of (reverse c.outer.items)) h

-- a document that is read on is the main one still
pub order-read : (old mid : Core) (e : Event) (p : Pulls old (pull.Event e) mid) → ReadsInOrder old → ReadsInOrder mid
order-read old mid e p r = record { machine = p.order r.machine; documents = alone-read old mid e p r.documents }

-- An event is the first of what was to come.
pub pulled-gives :
    (given : Given) (old mid : Core) (e : Event) (p : Pulls old (pull.Event e) mid) → ReadsInOrder old → (x : Coming)
    → gives old given x ≡ gives_on e mid given x
pulled-gives given old mid e p r x =
    ap (λ f. rest given old.machine (target_of old.out).left f) (event-comes old mid e p r.documents x)
    ∙ p.gives given (target_of old.out).left (followed e (to_come (map open_of (documents_behind e mid)) x))
    ∙ ap (λ o. rest given mid.machine (target_of o).left (followed e (to_come (map open_of (documents_behind e mid)) x))) (sym p.out)

-- what follows an event that was read
pub advanced :
    (old mid new : Core) (e : Event) (s : Stage) (p : Pulls old (pull.Event e) mid) → ReadsInOrder old
    → GivesFrom (λ given. Runs given mid) (gives_on e mid) s mid new → Gives s old new
advanced old mid new e s p r g =
    let wrote : Wrote old.out new.out g.said = subst (λ o. Wrote o new.out g.said) p.out g.wrote in
    record {
      said = g.said;
      wrote = wrote;
      order = g.order;
      runs = λ given may. g.runs given (pulled-runs given may);
      does = λ given may x.
          subst (λ f. EndsAs given f s (gives old given x) g.said (gives new given x)) p.own.files
          (subst (λ was. EndsAs given mid.files s was g.said (gives new given x)) (sym (pulled-gives given old mid e p r x)) (g.does given (pulled-runs given may) x));
    } where
      pulled-runs : (given : Given) → Runs given old → Runs given mid
      pulled-runs given may =
          record { documents = may.documents; of = p.of given.sheet given.limits may.of; params = may.params ∙ sym p.params; limit = ap (λ o. (target_of o).limit) p.out ∙ may.limit }

-- The machine has taken an event, and its answer is told.

module _ (e : Event) (old closed next new : Core) (t : Turn) (o : Option Pumped) (order : ReadsInOrder old) (k : Closes e old closed)
    (takes : TakesEvent (λ (out : Output). target_of out) Wrote e t closed.machine next.machine closed.out next.out) (alone : AsksForNone t)
    (of : (sheet : Sheet) (limits : Limits) → IsOf sheet limits closed.machine → IsOf sheet limits next.machine) (params : params_of next.machine ≡ params_of closed.machine)
    (becomes : next ≡ record closed { machine = next.machine; out = next.out }) (settled : new ≡ record next { stage = new.stage }) (tells : TellsIn next.files t o (stage_of new.stage)) where
  closed-machine : closed.machine ≡ old.machine
  closed-machine = ap (λ (c : Core). c.machine) k.others

  closed-out : closed.out ≡ old.out
  closed-out = ap (λ (c : Core). c.out) k.others

  new-machine : new.machine ≡ next.machine
  new-machine = ap (λ (c : Core). c.machine) settled

  new-out : new.out ≡ next.out
  new-out = ap (λ (c : Core). c.out) settled

  new-opens : opens_of new ≡ map open_of (documents_behind e old)
  new-opens = ap opens_of settled ∙ ap opens_of becomes ∙ ap (map open_of) k.documents

  files-are : next.files ≡ old.files
  files-are = ap (λ (c : Core). c.files) becomes ∙ ap (λ (c : Core). c.files) k.others

  wrote : Wrote old.out new.out takes.said
  wrote = subst (λ a. Wrote old.out a takes.said) (sym new-out) (subst (λ a. Wrote a next.out takes.said) closed-out takes.tells)

  runs : (given : Given) → Runs given old → Runs given new
  runs given may =
      runs-on given old new takes.said (λ sheet limits is. subst (IsOf sheet limits) (sym new-machine) (of sheet limits (subst (IsOf sheet limits) (sym closed-machine) is)))
      (ap params_of new-machine ∙ params ∙ ap params_of closed-machine) wrote may

  turned : (given : Given) → Runs given old → (x : Coming) → Turned given t (gives_on e old given x) takes.said (gives new given x)
  turned given may x =
      let f : Future = to_come (map open_of (documents_behind e old)) x in
      subst (λ y. Turned given t (gives_on e old given x) takes.said y)
      (ap (λ m. rest given m (target_of next.out).left f) (sym new-machine) ∙ ap (λ a. rest given new.machine (target_of a).left f) (sym new-out) ∙ ap (λ ds. rest given new.machine (target_of new.out).left (to_come ds x)) (sym new-opens))
      (subst (λ m. Turned given t (rest given m (target_of old.out).left (followed e f)) takes.said (rest given next.machine (target_of next.out).left f)) closed-machine
      (subst (λ a. Turned given t (rest given closed.machine (target_of a).left (followed e f)) takes.said (rest given next.machine (target_of next.out).left f)) closed-out
      (takes.goes given may.documents (subst (IsOf given.sheet given.limits) (sym closed-machine) may.of) (may.params ∙ sym (ap params_of closed-machine)) (ap (λ a. (target_of a).limit) closed-out ∙ may.limit) f)))

  reads-on : t ≡ turn.More → ReadsInOrder new
  reads-on more = record {
    machine = subst RunsInOrder (sym new-machine) (takes.order more);
    documents = subst IsMainAlone (sym new-opens) (alone-behind e old order.documents);
  }

  pub handed-on : GivesFrom (λ given. Runs given old) (gives_on e old) (stage_after o (stage_of new.stage)) old new
  handed-on = by o tells where
    by : (o : Option Pumped) → TellsIn next.files t o (stage_of new.stage) → GivesFrom (λ given. Runs given old) (gives_on e old) (stage_after o (stage_of new.stage)) old new
    by None more = record {
      said = takes.said;
      wrote = wrote;
      order = reads-on more;
      runs = runs;
      does = λ given may x. subst (λ u. Turned given u (gives_on e old given x) takes.said (gives new given x)) more (turned given may x);
    }
    by (Some p) tell = record {
      said = takes.said;
      wrote = wrote;
      order = order-turned next.files t (stage_of new.stage) new alone tell;
      runs = runs;
      does = λ given may x.
          subst (λ f. EndsAs given f (stage_of new.stage) (gives_on e old given x) takes.said (gives new given x)) files-are
          (turn-ends given next.files t (stage_of new.stage) (gives_on e old given x) (gives new given x) (gives new given x) takes.said alone tell (turned given may x));
    }
