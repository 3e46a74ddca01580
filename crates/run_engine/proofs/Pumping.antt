-- What an engine appends, and what it still gives.
use Rattle.std.proofs.Common.{◌≡◌, ◌⊎◌, inl, inr, ℕ, List, [], ◌∷◌, ◌++◌, refl, sym, ap, subst, ◌∙◌, append_assoc, append-nil}
use Rattle.stx_base.specs.Course.{Begins, Halt, Same}
use Rattle.fault_report.specs.declared.outcome.Outcome.{Outcome}
use Rattle.fault_report.specs.declared.outcome.Outcome.TheVariants as ended
use Rattle.result_writer.specs.Target.{Left, Target}
use Rattle.template_machine.specs.Between.{IsAsking, IsOf}
use Rattle.template_machine.specs.Ending.{Needs, Said}
use Rattle.template_machine.specs.Giving.{EndsAtCut, params_of, rest}
use Rattle.template_machine.specs.Job.{Given}
use Rattle.template_machine.specs.Outcome.{AreNew}
use Rattle.template_machine.specs.Sinks.{behind_all}
use Rattle.template_machine.specs.Stepwise.{Flat_does, flat_code}
use Rattle.template_machine.specs.Written.{bytes_of, lines_of, notes_of, settled_by, target_of}
use Rattle.template_machine.specs.declared.machine.Machine.{Machine}
use Rattle.template_machine.specs.declared.output.Output.{Output}
use Rattle.run_engine.specs.Does.{Appends, Does, EndsAs, InOrderAt, IsRunOf}
use Rattle.run_engine.specs.More.{Coming, WasTold, more, more_at, nothing_yet, to_come, with_piece}
use Rattle.run_engine.specs.Run.{Document, HasBegun, Main, MainIsHungry, MayCome, New, Open, Over, Stage, StandsAt, Wants, begun_with}
use Rattle.run_engine.specs.declared.engine.Engine.TheInside.{Inside}
use Rattle.run_engine.specs.declared.piece.Piece.{Piece}
use Rattle.run_engine.specs.declared.piece.Piece.TheVariants as piece
use Rattle.run_engine.specs.declared.run.Core.{Core}
use Rattle.run_engine.specs.declared.run.Stage as own
use Rattle.run_engine.specs.declared.run.Stage.TheVariants as stage
use Rattle.run_engine.specs.inside.Cores.{IsKept, IsSoundAt, Reads, opens_of, run_of, stage_of}
use Rattle.run_engine.specs.inside.Gives.{AreEmptyAt, GivesPiece, MayRun, OrderAt, gives}
use Rattle.run_engine.proofs.Asking.{begins-begun, begins-more, begins-same, begins-then}
use Rattle.run_engine.proofs.Given.{waits-for-more}

-- What was settled before a piece was handed out.

never-over : {P : Type 0} (o : Outcome) (p : Piece) → MayCome (Over o) p → P
never-over o piece.Start h = absurd h
never-over o (piece.Bytes bytes) h = absurd h
never-over o piece.End h = absurd h
never-over o piece.Opened h = absurd h
never-over o piece.Absent h = absurd h

pub was-emptied : (s : own.Stage) (x : Inside) (p : Piece) → MayCome (stage_of s) p → AreEmptyAt s x → (x.bytes.items ≡ []) × (x.notes.items ≡ []) × (bytes_of x.core.out ≡ []) × (notes_of x.core.out ≡ [])
was-emptied stage.New x p may h = h
was-emptied stage.Main x p may h = h
was-emptied stage.Document x p may h = h
was-emptied (stage.Wants name) x p may h = h
was-emptied (stage.Over o) x p may h = never-over o p may

pub emptied-at : (s : own.Stage) (x : Inside) → (x.bytes.items ≡ []) × (x.notes.items ≡ []) × (bytes_of x.core.out ≡ []) × (notes_of x.core.out ≡ []) → AreEmptyAt s x
emptied-at stage.New x h = h
emptied-at stage.Main x h = h
emptied-at stage.Document x h = h
emptied-at (stage.Wants name) x h = h
emptied-at (stage.Over o) x h = tt

-- what an output and a stage alone change
pub kept-but : (mid new : Core) (o : Output) (s : own.Stage) → new ≡ record mid { out = o; stage = s } → new ≡ record mid { out = new.out; stage = new.stage }
kept-but mid new o s e = e ∙ ap (λ x. record mid { out = x; stage = s }) (sym (ap (λ (c : Core). c.out) e)) ∙ ap (λ x. record mid { out = new.out; stage = x }) (sym (ap (λ (c : Core). c.stage) e))

-- What is appended.

module _ (p : Piece) (left : Left) (said : List Said) (out now out_now notes notes_now : List ℕ) (appended : out_now ≡ now ++ settled_by left said) (noted : notes_now ≡ notes ++ lines_of said) where
  whole : now ≡ begun_with p out → (out_now ≡ begun_with p out ++ settled_by left said) × (notes_now ≡ notes ++ lines_of said)
  whole h = (appended ∙ ap (λ xs. xs ++ settled_by left said) h, noted)

  over-appends : (o : Outcome) → HasBegun p out (Over o) now → Begins (now ++ settled_by left said) (begun_with p out ++ settled_by left said) → Appends p (Over o) left said out out_now notes notes_now
  over-appends ended.Done h b = whole h
  over-appends (ended.Run file code offset) h b = whole h
  over-appends ended.Usage h b = whole h
  over-appends (ended.Sheet fault) h b = whole h
  over-appends (ended.Xml file fault) h b = whole h
  over-appends (ended.Host file fault offset) h b = whole h
  over-appends (ended.Fuel file offset) h b = whole h
  over-appends ended.Memory h b = (
    subst (λ xs. Begins xs (begun_with p out ++ settled_by left said)) (sym appended) b,
    subst (λ xs. Begins xs (notes ++ lines_of said)) (sym noted) (begins-same (notes ++ lines_of said)),
  )

  pub appends-at : (s : Stage) → HasBegun p out s now → Begins (now ++ settled_by left said) (begun_with p out ++ settled_by left said) → Appends p s left said out out_now notes notes_now
  appends-at New h b = whole h
  appends-at Main h b = whole h
  appends-at Document h b = whole h
  appends-at (Wants name) h b = whole h
  appends-at (Over o) h b = over-appends o h b

order-in : (s : Stage) (c : Core) → OrderAt s c → InOrderAt s c.machine (opens_of c)
order-in New c h = absurd h
order-in Main c h = (h.machine, h.documents)
order-in Document c h = absurd h
order-in (Wants name) c h = absurd h
order-in (Over o) c h = tt

not-begun : (s : Stage) (c : Core) → OrderAt s c → s ≡ New → ⊥
not-begun New c h e = absurd h
not-begun Main c h e = absurd cc
not-begun Document c h e = absurd h
not-begun (Wants name) c h e = absurd h
not-begun (Over o) c h e = absurd cc

-- a run that has begun does what its machine does
goes-on : (s : Stage) (given : Given) (ds : List Open) (m : Machine) (left : Left) (x : Coming) → (s ≡ New → ⊥) → more_at s given ds m left x ≡ rest given m left (to_come ds x)
goes-on New given ds m left x h = absurd (h refl)
goes-on Main given ds m left x h = refl
goes-on Document given ds m left x h = refl
goes-on (Wants name) given ds m left x h = refl
goes-on (Over o) given ds m left x h = refl

-- where memory is wanting behind what was said
over-ends : (given : Given) (files : List (List ℕ)) (o : Outcome) (was follows other : Flat_does) (said : List Said) → EndsAs given files (Over o) was said follows → EndsAs given files (Over ended.Memory) was said other
over-ends given files ended.Done was follows other said h = (Halt h.0, h.1.1)
over-ends given files (ended.Run file code offset) was follows other said h = (Halt h.0, h.1.1)
over-ends given files ended.Usage was follows other said h = (Halt h.0, h.1.1)
over-ends given files (ended.Sheet fault) was follows other said h = (Halt h.0, h.1.1)
over-ends given files (ended.Xml file fault) was follows other said h = (Halt h.0, h.1.1)
over-ends given files (ended.Host file fault offset) was follows other said h = (Halt h.0, h.1.1)
over-ends given files (ended.Fuel file offset) was follows other said h = (Halt h.0, h.1.1)
over-ends given files ended.Memory was follows other said h = h

lacks-ends : (given : Given) (files : List (List ℕ)) (s : Stage) (was follows other : Flat_does) (said : List Said) → EndsAs given files s was said follows → EndsAs given files (Over ended.Memory) was said other
lacks-ends given files New was follows other said h = absurd h
lacks-ends given files Main was follows other said h = (follows, h)
lacks-ends given files Document was follows other said h = absurd h
lacks-ends given files (Wants name) was follows other said h = absurd h
lacks-ends given files (Over o) was follows other said h = over-ends given files o was follows other said h

-- where more is asked for, all nodes that the bytes settle were told
all-told : (ds : List Open) → MainIsHungry ds → WasTold ds
all-told [] h = absurd h
all-told (d ∷ ds) h = (h.1.told, h.1.needs)

kept-asks : (s : own.Stage) (c : Core) → IsSoundAt s c → stage_of s ≡ Main → IsAsking c.machine
kept-asks stage.New c h e = absurd cc
kept-asks stage.Main c h e = h.asking
kept-asks stage.Document c h e = h.asking
kept-asks (stage.Wants name) c h e = absurd cc
kept-asks (stage.Over o) c h e = absurd cc

module _ (p : Piece) (old mid new : Core) (g : GivesPiece p (stage_of mid.stage) old mid) (files : mid.files ≡ old.files) (kept : new ≡ record mid { out = new.out; stage = new.stage })
    (same : target_of new.out ≡ target_of mid.out) (no-bytes : bytes_of old.out ≡ []) (no-notes : notes_of old.out ≡ []) where
  pub bytes-are : bytes_of mid.out ≡ settled_by (target_of old.out).left g.said
  bytes-are = g.wrote.bytes ∙ ap (λ xs. xs ++ settled_by (target_of old.out).left g.said) no-bytes

  pub notes-are : notes_of mid.out ≡ lines_of g.said
  notes-are = g.wrote.notes ∙ ap (λ xs. xs ++ lines_of g.said) no-notes

  machine-is : new.machine ≡ mid.machine
  machine-is = ap (λ (c : Core). c.machine) kept

  opens-are : opens_of new ≡ opens_of mid
  opens-are = ap opens_of kept

  files-are : new.files ≡ old.files
  files-are = ap (λ (c : Core). c.files) kept ∙ files

  left-is : target_of new.out ≡ behind_all (target_of old.out) g.said
  left-is = same ∙ g.wrote.writer

  run-of : (stage_of new.stage ≡ New → ⊥) → (given : Given) → AreNew given → IsRunOf given (run_of old) → IsRunOf given (run_of new)
  run-of begun given docs runs =
      let r = g.runs given (docs, runs) in
      record {
        of = subst (IsOf given.sheet given.limits) (sym machine-is) r.of;
        params = r.params ∙ sym (ap params_of machine-is);
        limit = ap (λ (t : Target). t.limit) same ∙ r.limit;
        bare = λ is. absurd (begun is);
      }

  more-now : (stage_of new.stage ≡ New → ⊥) → (given : Given) (x : Coming) → more given (run_of new) x ≡ gives mid given x
  more-now begun given x =
      goes-on (stage_of new.stage) given (opens_of new) new.machine (target_of new.out).left x begun
      ∙ ap (λ m. rest given m (target_of new.out).left (to_come (opens_of new) x)) machine-is
      ∙ ap (λ (t : Target). rest given mid.machine t.left (to_come (opens_of new) x)) same
      ∙ ap (λ ds. rest given mid.machine (target_of mid.out).left (to_come ds x)) opens-are

  -- what stands there begins what is to stand there
  pub beginning : (out now : List ℕ) → (now ≡ begun_with p out) ⊎ ((now ≡ out) × (mid.out ≡ old.out)) → Begins (now ++ settled_by (target_of old.out).left g.said) (begun_with p out ++ settled_by (target_of old.out).left g.said)
  beginning out now (inl h) = subst (λ xs. Begins (xs ++ settled_by (target_of old.out).left g.said) (begun_with p out ++ settled_by (target_of old.out).left g.said)) (sym h) (begins-same (begun_with p out ++ settled_by (target_of old.out).left g.said))
  beginning out now (inr h) =
      let none : settled_by (target_of old.out).left g.said ≡ [] = sym bytes-are ∙ ap bytes_of h.1 ∙ no-bytes in
      subst (λ xs. Begins xs (begun_with p out ++ settled_by (target_of old.out).left g.said)) (sym (ap (λ xs. now ++ xs) none ∙ append-nil now ∙ h.0))
      (begins-more out (begun_with p out) (settled_by (target_of old.out).left g.said) (begins-begun p out))

  -- all was appended
  pub does-all :
      (out now out_now notes notes_now : List ℕ) → new.stage ≡ mid.stage → EndsAtCut → IsKept new
      → HasBegun p out (stage_of mid.stage) now → (now ≡ begun_with p out) ⊎ ((now ≡ out) × (mid.out ≡ old.out)) → out_now ≡ now ++ bytes_of mid.out → notes_now ≡ notes ++ notes_of mid.out
      → Does p (run_of old) (run_of new) out out_now notes notes_now
  does-all out now out_now notes notes_now stays ends sound has-begun begun appended noted =
      let at : stage_of new.stage ≡ stage_of mid.stage = ap stage_of stays in
      let before : (stage_of new.stage ≡ New → ⊥) = λ is. not-begun (stage_of mid.stage) mid g.order (sym at ∙ is) in
      record {
        said = g.said;
        appends =
            subst (λ s. Appends p s (target_of old.out).left g.said out out_now notes notes_now) (sym at)
            (appends-at p (target_of old.out).left g.said out now out_now notes notes_now (appended ∙ ap (λ xs. now ++ xs) bytes-are) (noted ∙ ap (λ xs. notes ++ xs) notes-are) (stage_of mid.stage) has-begun
            (beginning out now begun));
        left = left-is;
        order =
            subst (λ s. InOrderAt s new.machine (opens_of new)) (sym at)
            (subst (InOrderAt (stage_of mid.stage) new.machine) (sym opens-are) (subst (λ m. InOrderAt (stage_of mid.stage) m (opens_of mid)) (sym machine-is) (order-in (stage_of mid.stage) mid g.order)));
        runs = run-of before;
        goes = λ given docs runs x.
            subst (λ s. EndsAs given new.files s (more given (run_of old) (with_piece p x)) g.said (more given (run_of new) x)) (sym at)
            (subst (λ y. EndsAs given new.files (stage_of mid.stage) (more given (run_of old) (with_piece p x)) g.said y) (sym (more-now before given x))
            (subst (λ f. EndsAs given f (stage_of mid.stage) (more given (run_of old) (with_piece p x)) g.said (gives mid given x)) (sym files-are) (g.does given (docs, runs) x)));
        settled = λ is given.
            waits-for-more ends given (run_of new) is (kept-asks new.stage new sound.sound is) (all-told (opens_of new) (subst (λ s. StandsAt s new.files (opens_of new)) is sound.stands));
      }

  -- a beginning was
  pub does-some :
      (out now out_now notes notes_now : List ℕ) → new.stage ≡ stage.Over ended.Memory
      → (now ≡ begun_with p out) ⊎ ((now ≡ out) × (mid.out ≡ old.out)) → Begins out_now (now ++ bytes_of mid.out) → Begins notes_now (notes ++ notes_of mid.out)
      → Does p (run_of old) (run_of new) out out_now notes notes_now
  does-some out now out_now notes notes_now over begun appended noted =
      let at : stage_of new.stage ≡ Over ended.Memory = ap stage_of over in
      let before : (stage_of new.stage ≡ New → ⊥) = λ is. absurd cc in
      record {
        said = g.said;
        appends =
            subst (λ s. Appends p s (target_of old.out).left g.said out out_now notes notes_now) (sym at) (
              begins-then out_now (now ++ settled_by (target_of old.out).left g.said) (begun_with p out ++ settled_by (target_of old.out).left g.said)
                  (subst (λ xs. Begins out_now (now ++ xs)) bytes-are appended) (beginning out now begun),
              subst (λ xs. Begins notes_now (notes ++ xs)) notes-are noted,
            );
        left = left-is;
        order = subst (λ s. InOrderAt s new.machine (opens_of new)) (sym at) tt;
        runs = run-of before;
        goes = λ given docs runs x.
            subst (λ s. EndsAs given new.files s (more given (run_of old) (with_piece p x)) g.said (more given (run_of new) x)) (sym at)
            (lacks-ends given new.files (stage_of mid.stage) (more given (run_of old) (with_piece p x)) (gives mid given x) (more given (run_of new) x) g.said
            (subst (λ f. EndsAs given f (stage_of mid.stage) (more given (run_of old) (with_piece p x)) g.said (gives mid given x)) (sym files-are) (g.does given (docs, runs) x)));
        settled = λ is given. absurd cc;
      }
