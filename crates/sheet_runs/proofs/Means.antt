-- What a whole run says.
use Rattle.std.proofs.Common.{◌≡◌, ℕ, Bool, true, false, ◌||◌, List, [], ◌∷◌, ◌++◌, refl, sym, ap, subst, ◌∙◌, append_assoc, append-nil}
use Rattle.std.specs.Prelude.{◌↔◌}
use Rattle.stx_base.specs.Course.{Begins, Ends, Halt, Same, says}
use Rattle.stx_base.proofs.Course.{ends_said, said_first, same_equal, same_says, same_then}
use Rattle.result_writer.specs.Target.{Left, Target, nothing}
use Rattle.fault_report.specs.declared.outcome.Outcome.{Outcome}
use Rattle.fault_report.specs.declared.outcome.Outcome.TheVariants as outcome
use Rattle.template_machine.specs.Ending.{Ending, Needs, Said}
use Rattle.template_machine.specs.Job.{Given}
use Rattle.template_machine.specs.Meaning.{code, meaning}
use Rattle.template_machine.specs.Outcome.{AreNew}
use Rattle.template_machine.specs.Stepwise.{Flat_does, flat_code}
use Rattle.template_machine.specs.Written.{lines_of, settled_by}
use Rattle.template_machine.specs.WrittenOn.{lines_on, settled_on}
use Rattle.run_engine.specs.Does.{Appends, Does, EndsAs, InOrder, InOrderAt, IsMainAlone, IsRunOf}
use Rattle.run_engine.specs.More.{BeginsWithMeaning, Coming, more, nothing_yet, with_piece}
use Rattle.run_engine.specs.Run.{Document, Main, MainIsHungry, MayCome, New, Open, Over, Run, Stage, StandsAt, Wants, at_start, begun_with, head}
use Rattle.run_engine.specs.Taking.{AreEnded, AreReadOn, Took, ended_first, handed}
use Rattle.run_engine.specs.Taking as taking
use Rattle.run_engine.specs.declared.piece.Piece.{Piece}
use Rattle.run_engine.specs.declared.piece.Piece.TheVariants as piece
use Rattle.run_engine.proofs.Gives.{ends-then}
use Rattle.sheet_runs.specs.Meant.{EndedAs, HasEnded, Means, RunsMean, WasSettled, came, came_by, head_in, tree_of}
use Rattle.sheet_runs.specs.Talk.{Exchange, Gives, Leads, bytes_in, is_main_end, main_bytes, main_ends, main_in, name_asked, names_in, notes_in}

-- What was settled

was-same : (s : Stage) (xs ys : List ℕ) → xs ≡ ys → WasSettled s xs ys
was-same New xs ys h = h
was-same Main xs ys h = h
was-same Document xs ys h = h
was-same (Wants name) xs ys h = h
was-same (Over outcome.Done) xs ys h = h
was-same (Over (outcome.Run file code offset)) xs ys h = h
was-same (Over outcome.Usage) xs ys h = h
was-same (Over (outcome.Sheet fault)) xs ys h = h
was-same (Over (outcome.Xml file fault)) xs ys h = h
was-same (Over (outcome.Host file fault offset)) xs ys h = h
was-same (Over (outcome.Fuel file offset)) xs ys h = h
was-same (Over outcome.Memory) xs ys h = ([], append-nil xs ∙ h)

begins-behind : (before xs ys : List ℕ) → Begins xs ys → Begins (before ++ xs) (before ++ ys)
begins-behind before xs ys h = (h.0, append_assoc before xs h.0 ∙ ap (λ zs. before ++ zs) h.1)

was-behind : (s : Stage) (before xs ys : List ℕ) → WasSettled s xs ys → WasSettled s (before ++ xs) (before ++ ys)
was-behind New before xs ys h = ap (λ zs. before ++ zs) h
was-behind Main before xs ys h = ap (λ zs. before ++ zs) h
was-behind Document before xs ys h = ap (λ zs. before ++ zs) h
was-behind (Wants name) before xs ys h = ap (λ zs. before ++ zs) h
was-behind (Over outcome.Done) before xs ys h = ap (λ zs. before ++ zs) h
was-behind (Over (outcome.Run file code offset)) before xs ys h = ap (λ zs. before ++ zs) h
was-behind (Over outcome.Usage) before xs ys h = ap (λ zs. before ++ zs) h
was-behind (Over (outcome.Sheet fault)) before xs ys h = ap (λ zs. before ++ zs) h
was-behind (Over (outcome.Xml file fault)) before xs ys h = ap (λ zs. before ++ zs) h
was-behind (Over (outcome.Host file fault offset)) before xs ys h = ap (λ zs. before ++ zs) h
was-behind (Over (outcome.Fuel file offset)) before xs ys h = ap (λ zs. before ++ zs) h
was-behind (Over outcome.Memory) before xs ys h = begins-behind before xs ys h

module _ (p : Piece) (left : Left) (said : List Said) (bytes notes : List ℕ) where
  over-was : (o : Outcome) → Appends p (Over o) left said [] bytes [] notes → WasSettled (Over o) bytes (begun_with p [] ++ settled_by left said) × WasSettled (Over o) notes (lines_of said)
  over-was outcome.Done h = h
  over-was (outcome.Run file code offset) h = h
  over-was outcome.Usage h = h
  over-was (outcome.Sheet fault) h = h
  over-was (outcome.Xml file fault) h = h
  over-was (outcome.Host file fault offset) h = h
  over-was (outcome.Fuel file offset) h = h
  over-was outcome.Memory h = h

-- What came

bytes-first : (b : Bool) (first bytes : List ℕ) (y : Coming) → record (came_by b bytes y) { bytes = first ++ (came_by b bytes y).bytes } ≡ came_by b (first ++ bytes) y
bytes-first true first bytes y = refl
bytes-first false first bytes y = ap (λ (zs : List ℕ). record y { bytes = zs }) (sym (append_assoc first bytes y.bytes))

none-at : (s : Stage) (p : Piece) (b : Bool) (bytes : List ℕ) (y : Coming) → s ≡ New → MayCome s p → with_piece p (came_by b bytes y) ≡ came_by (is_main_end s p || b) (main_bytes s p ++ bytes) y
none-at New piece.Start b bytes y is may = refl
none-at New (piece.Bytes more) b bytes y is may = absurd may
none-at New piece.End b bytes y is may = absurd may
none-at New piece.Opened b bytes y is may = absurd may
none-at New piece.Absent b bytes y is may = absurd may
none-at Main p b bytes y is may = absurd cc
none-at Document p b bytes y is may = absurd cc
none-at (Wants name) p b bytes y is may = absurd cc
none-at (Over o) p b bytes y is may = absurd cc

first-at : (s : Stage) (p : Piece) (b : Bool) (bytes : List ℕ) (y : Coming) → s ≡ Main → MayCome s p → (p ≡ piece.End → bytes ≡ [])
    → with_piece p (came_by b bytes y) ≡ came_by (is_main_end s p || b) (main_bytes s p ++ bytes) y
first-at Main piece.Start b bytes y is may none = absurd may
first-at Main (piece.Bytes first) b bytes y is may none = bytes-first b first.now bytes y
first-at Main piece.End b bytes y is may none = ap (λ zs. record { bytes = zs; ended = true }) (sym (none refl))
first-at Main piece.Opened b bytes y is may none = absurd may
first-at Main piece.Absent b bytes y is may none = absurd may
first-at New p b bytes y is may none = absurd cc
first-at Document p b bytes y is may none = absurd cc
first-at (Wants name) p b bytes y is may none = absurd cc
first-at (Over o) p b bytes y is may none = absurd cc

-- bytes and the end have no head before them
no-head : (p : Piece) → MayCome Main p → begun_with p [] ≡ []
no-head piece.Start may = absurd may
no-head (piece.Bytes bytes) may = refl
no-head piece.End may = refl
no-head piece.Opened may = absurd may
no-head piece.Absent may = absurd may

with-head : (p : Piece) → MayCome New p → begun_with p [] ≡ head
with-head piece.Start may = refl
with-head (piece.Bytes bytes) may = absurd may
with-head piece.End may = absurd may
with-head piece.Opened may = absurd may
with-head piece.Absent may = absurd may

no-end-at : (s : Stage) (p : Piece) → (s ≡ Main → p ≡ piece.End → ⊥) → is_main_end s p ≡ false
no-end-at Main piece.End h = absurd (h refl refl)
no-end-at Main piece.Start h = refl
no-end-at Main (piece.Bytes bytes) h = refl
no-end-at Main piece.Opened h = refl
no-end-at Main piece.Absent h = refl
no-end-at New p h = refl
no-end-at Document p h = refl
no-end-at (Wants name) p h = refl
no-end-at (Over o) p h = refl

-- Behind the end of the main document it isn't asked for any more

ended-behind : (gone kept : List Open) → AreEnded (gone ++ kept) → AreEnded kept
ended-behind [] kept h = h
ended-behind (d ∷ gone) kept h = ended-behind gone kept h.1

alone-ended : (ds : List Open) → IsMainAlone ds → AreEnded (ended_first ds)
alone-ended [] h = tt
alone-ended (d ∷ []) h = (refl, tt)
alone-ended (d ∷ e ∷ ds) h = absurd h

never-hungry : (kept after : List Open) → AreEnded kept → AreReadOn kept after → MainIsHungry after → ⊥
never-hungry [] [] e on h = h
never-hungry [] (a ∷ after) e on h = on
never-hungry (k ∷ kept) [] e on h = on
never-hungry (k ∷ kept) (a ∷ after) e on h = not-true (sym h.1.unended ∙ on.0.ended ∙ e.0) where
  not-true : false ≡ true → ⊥
  not-true q = absurd cc

-- Exchanges

pub record GaveFrom (front : List ℕ) (given : Given) (start run : Run) (talk : List Exchange) : Type 0 where
  pub said : List Said
  pub bytes : WasSettled run.stage (bytes_in talk) (front ++ settled_by start.output.left said)
  pub notes : WasSettled run.stage (notes_in talk) (lines_of said)
  pub order : InOrder run
  pub files : run.files ≡ start.files
  pub does : (x : Coming) → EndsAs given run.files run.stage (more given start (came start talk x)) said (more given run x)
  pub settled : run.stage ≡ Main → Same (flat_code given) (more given run nothing_yet) (Halt Needs)
  pub open_end : run.stage ≡ Main → main_ends start talk ≡ false
  pub names : names_in start talk ≡ []

was-of : (p : Piece) (s : Stage) (left : Left) (said : List Said) (bytes notes : List ℕ) → Appends p s left said [] bytes [] notes
    → WasSettled s bytes (begun_with p [] ++ settled_by left said) × WasSettled s notes (lines_of said)
was-of p New left said bytes notes h = h
was-of p Main left said bytes notes h = h
was-of p Document left said bytes notes h = h
was-of p (Wants name) left said bytes notes h = h
was-of p (Over o) left said bytes notes h = over-was p left said bytes notes o h

none-more : (o : Outcome) (p : Piece) → MayCome (Over o) p → ⊥
none-more o piece.Start h = h
none-more o (piece.Bytes bytes) h = h
none-more o piece.End h = h
none-more o piece.Opened h = h
none-more o piece.Absent h = h

never-both : {P : Type 0} (o : Outcome) → Over o ≡ Main → P
never-both o h = absurd cc

over-alone : (o : Outcome) (r run : Run) (rest : List Exchange) → r.stage ≡ Over o → Leads r rest run → rest ≡ []
over-alone o r run [] is leads = refl
over-alone o r run (y ∷ rest) is leads = absurd (none-more o y.piece (subst (λ s. MayCome s y.piece) is leads.0.may))

module _ (given : Given) (docs : AreNew given) (front : List ℕ) (start : Run) (x : Exchange) (g : Gives start x) (order : InOrder start) (runs : IsRunOf given start) (is-front : begun_with x.piece [] ≡ front)
    (unnamed : name_asked start.stage ≡ []) where
  abbrev does : Does x.piece start x.run [] x.bytes [] x.notes
  does = g.does order

  -- one piece, and then others
  joined :
      (rest : List Exchange) (run : Run) → ((y : Coming) → with_piece x.piece (came x.run rest y) ≡ came start (x ∷ rest) y) → x.run.stage ≡ Main
      → is_main_end start.stage x.piece ≡ false → GaveFrom [] given x.run run rest
      → GaveFrom front given start run (x ∷ rest)
  joined rest run comes is no-end h =
      let was = subst (λ s. Appends x.piece s start.output.left does.said [] x.bytes [] x.notes) is does.appends in
      let first : x.bytes ≡ front ++ settled_by start.output.left does.said = was.0 ∙ ap (λ f. f ++ settled_by start.output.left does.said) is-front in
      record {
        said = does.said ++ h.said;
        bytes =
            subst (WasSettled run.stage (x.bytes ++ bytes_in rest))
            (ap (λ b. b ++ settled_by x.run.output.left h.said) first
            ∙ append_assoc front (settled_by start.output.left does.said) (settled_by x.run.output.left h.said)
            ∙ ap (λ l. front ++ l) (ap (λ (t : Target). settled_by start.output.left does.said ++ settled_by t.left h.said) does.left ∙ sym (settled_on start.output does.said h.said)))
            (was-behind run.stage x.bytes (bytes_in rest) (settled_by x.run.output.left h.said) h.bytes);
        notes =
            subst (WasSettled run.stage (x.notes ++ notes_in rest)) (ap (λ l. l ++ lines_of h.said) was.1 ∙ sym (lines_on does.said h.said))
            (was-behind run.stage x.notes (notes_in rest) (lines_of h.said) h.notes);
        order = h.order;
        files = h.files ∙ g.same.files;
        does = λ y.
            ends-then given run.files run.stage (more given start (came start (x ∷ rest) y)) (more given x.run (came x.run rest y)) (more given run y) does.said h.said
            (subst (λ z. Same (flat_code given) (more given start z) (says does.said (more given x.run (came x.run rest y)))) (comes y)
            (subst (λ s. EndsAs given x.run.files s (more given start (with_piece x.piece (came x.run rest y))) does.said (more given x.run (came x.run rest y))) is (does.goes given docs runs (came x.run rest y))))
            (h.does y);
        settled = h.settled;
        open_end = λ at. ap (λ b. b || main_ends x.run rest) no-end ∙ h.open_end at;
        names = ap (λ ns. ns ++ names_in x.run rest) unnamed ∙ h.names;
      }

  -- one piece alone
  last : ((y : Coming) → with_piece x.piece y ≡ came start (x ∷ []) y) → (x.run.stage ≡ Main → ⊥) → GaveFrom front given start x.run (x ∷ [])
  last comes over =
      let was = was-of x.piece x.run.stage start.output.left does.said x.bytes x.notes does.appends in
      record {
        said = does.said;
        bytes =
            subst (λ b. WasSettled x.run.stage b (front ++ settled_by start.output.left does.said)) (sym (append-nil x.bytes))
            (subst (λ f. WasSettled x.run.stage x.bytes (f ++ settled_by start.output.left does.said)) is-front was.0);
        notes = subst (λ b. WasSettled x.run.stage b (lines_of does.said)) (sym (append-nil x.notes)) was.1;
        order = does.order;
        files = g.same.files;
        does = λ y. subst (λ z. EndsAs given x.run.files x.run.stage (more given start z) does.said (more given x.run y)) (comes y) (does.goes given docs runs y);
        settled = λ is. does.settled is given;
        open_end = λ at. absurd (over at);
        names = ap (λ ns. ns ++ []) unnamed;
      }

  alone : (o : Outcome) (rest : List Exchange) (run : Run) → x.run.stage ≡ Over o → Leads x.run rest run → ((y : Coming) → with_piece x.piece (came x.run rest y) ≡ came start (x ∷ rest) y) → GaveFrom front given start run (x ∷ rest)
  alone o [] run is leads comes = subst (λ r. GaveFrom front given start r (x ∷ [])) (sym leads) (last comes (λ at. never-both o (sym is ∙ at)))
  alone o (y ∷ rest) run is leads comes = absurd (none-more o y.piece (subst (λ s. MayCome s y.piece) is leads.0.may))

  -- either more is asked for, or the run is over
  by-stage :
      (rest : List Exchange) (run : Run) → Leads x.run rest run → ((y : Coming) → with_piece x.piece (came x.run rest y) ≡ came start (x ∷ rest) y)
      → (x.run.stage ≡ Main → is_main_end start.stage x.piece ≡ false)
      → (x.run.stage ≡ Main → InOrder x.run → IsRunOf given x.run → Same (flat_code given) (more given x.run nothing_yet) (Halt Needs) → GaveFrom [] given x.run run rest)
      → (s : Stage) → x.run.stage ≡ s → GaveFrom front given start run (x ∷ rest)
  by-stage rest run leads comes no-end on New is = absurd (subst (λ s. EndsAs given x.run.files s (more given start (with_piece x.piece nothing_yet)) does.said (more given x.run nothing_yet)) is (does.goes given docs runs nothing_yet))
  by-stage rest run leads comes no-end on Main is = joined rest run comes is (no-end is) (on is does.order (does.runs given docs runs) (does.settled is given))
  by-stage rest run leads comes no-end on Document is = absurd (subst (λ s. InOrderAt s x.run.machine x.run.documents) is does.order)
  by-stage rest run leads comes no-end on (Wants name) is = absurd (subst (λ s. InOrderAt s x.run.machine x.run.documents) is does.order)
  by-stage rest run leads comes no-end on (Over o) is = alone o rest run is leads comes

  -- behind the end it isn't asked for
  end-over : start.stage ≡ Main → x.piece ≡ piece.End → x.run.stage ≡ Main → ⊥
  end-over main end is =
      let took : Took (ended_first start.documents) x.run.documents = subst (λ p. Took (handed start p) x.run.documents) end (subst (λ s. taking.Takes s (handed start x.piece) x.run.documents) is g.took) in
      let ended : AreEnded (ended_first start.documents) = alone-ended start.documents (subst (λ s. InOrderAt s start.machine start.documents) main order).1 in
      never-hungry took.kept x.run.documents (ended-behind took.gone took.kept (subst AreEnded took.parts ended)) took.on (subst (λ s. StandsAt s x.run.files x.run.documents) is g.stands)

  -- and no bytes come
  none-behind : (rest : List Exchange) (run : Run) → Leads x.run rest run → start.stage ≡ Main → x.piece ≡ piece.End → (s : Stage) → x.run.stage ≡ s → main_in x.run rest ≡ []
  none-behind rest run leads main end New is = absurd (subst (λ s. EndsAs given x.run.files s (more given start (with_piece x.piece nothing_yet)) does.said (more given x.run nothing_yet)) is (does.goes given docs runs nothing_yet))
  none-behind rest run leads main end Main is = absurd (end-over main end is)
  none-behind rest run leads main end Document is = absurd (subst (λ s. InOrderAt s x.run.machine x.run.documents) is does.order)
  none-behind rest run leads main end (Wants name) is = absurd (subst (λ s. InOrderAt s x.run.machine x.run.documents) is does.order)
  none-behind rest run leads main end (Over o) is = ap (main_in x.run) (over-alone o x.run run rest is leads)

module _ (given : Given) (docs : AreNew given) where
  -- a run that asks for more of the main document
  gave-main : (talk : List Exchange) (start run : Run) → start.stage ≡ Main → InOrder start → IsRunOf given start → Leads start talk run → Same (flat_code given) (more given start nothing_yet) (Halt Needs) → GaveFrom [] given start run talk
  gave-main [] start run is order runs leads settled =
      subst (λ r. GaveFrom [] given start r []) (sym leads)
      (record {
        said = [];
        bytes = was-same start.stage [] [] refl;
        notes = was-same start.stage [] [] refl;
        order = order;
        files = refl;
        does = λ y. subst (λ s. EndsAs given start.files s (more given start y) [] (more given start y)) (sym is) (same_equal (flat_code given) refl);
        settled = λ at. settled;
        open_end = λ at. refl;
        names = refl;
      })
  gave-main (x ∷ rest) start run is order runs leads settled =
      let front : begun_with x.piece [] ≡ [] = no-head x.piece (subst (λ s. MayCome s x.piece) is leads.0.may) in
      let unnamed : name_asked start.stage ≡ [] = ap name_asked is in
      by-stage given docs [] start x leads.0 order runs front unnamed rest run leads.1
      (λ y. first-at start.stage x.piece (main_ends x.run rest) (main_in x.run rest) y is leads.0.may (λ end. none-behind given docs [] start x leads.0 order runs front unnamed rest run leads.1 is end x.run.stage refl))
      (λ at. no-end-at start.stage x.piece (λ main end. end-over given docs [] start x leads.0 order runs front unnamed main end at))
      (λ at order_now runs_now settled_now. gave-main rest x.run run at order_now runs_now leads.1 settled_now) x.run.stage refl

  -- and one from its beginning
  gave-new : (x : Exchange) (rest : List Exchange) (start run : Run) → start.stage ≡ New → InOrder start → IsRunOf given start → Leads start (x ∷ rest) run → GaveFrom head given start run (x ∷ rest)
  gave-new x rest start run is order runs leads =
      by-stage given docs head start x leads.0 order runs (with-head x.piece (subst (λ s. MayCome s x.piece) is leads.0.may)) (ap name_asked is) rest run leads.1
      (λ y. none-at start.stage x.piece (main_ends x.run rest) (main_in x.run rest) y is leads.0.may) (λ at. ap (λ s. is_main_end s x.piece) is)
      (λ at order_now runs_now settled_now. gave-main rest x.run run at order_now runs_now leads.1 settled_now) x.run.stage refl

-- What a sheet means

module _ (given : Given) where
  -- what was said comes first, whatever follows
  over-follows : (files : List (List ℕ)) (o : Outcome) (was follows : Flat_does) (said : List Said) → EndsAs given files (Over o) was said follows → (z : Flat_does) × Same (flat_code given) was (says said z)
  over-follows files outcome.Done was follows said h = (Halt h.0, h.1.1)
  over-follows files (outcome.Run file code offset) was follows said h = (Halt h.0, h.1.1)
  over-follows files outcome.Usage was follows said h = (Halt h.0, h.1.1)
  over-follows files (outcome.Sheet fault) was follows said h = (Halt h.0, h.1.1)
  over-follows files (outcome.Xml file fault) was follows said h = (Halt h.0, h.1.1)
  over-follows files (outcome.Host file fault offset) was follows said h = (Halt h.0, h.1.1)
  over-follows files (outcome.Fuel file offset) was follows said h = (Halt h.0, h.1.1)
  over-follows files outcome.Memory was follows said h = h

  some-follows : (files : List (List ℕ)) (s : Stage) (was follows : Flat_does) (said : List Said) → EndsAs given files s was said follows → (z : Flat_does) × Same (flat_code given) was (says said z)
  some-follows files New was follows said h = absurd h
  some-follows files Main was follows said h = (follows, h)
  some-follows files Document was follows said h = absurd h
  some-follows files (Wants name) was follows said h = absurd h
  some-follows files (Over o) was follows said h = over-follows files o was follows said h

  halts : (was : Flat_does) (said : List Said) (e : Ending) → Same (flat_code given) was (says said (Halt e)) → Ends (flat_code given) was said e
  halts was said e same =
      let ended : Ends (flat_code given) (Halt e) [] e = record { depth = 0; comes = refl } in
      same.from said e (subst (λ os. Ends (flat_code given) (says said (Halt e)) os e) (append-nil said) (ends_said said ended))

  over-ends : (files : List (List ℕ)) (o : Outcome) (was follows : Flat_does) (said : List Said) → HasEnded (Over o) → EndsAs given files (Over o) was said follows → (e : Ending) × (EndedAs files (Over o) e × Ends (flat_code given) was said e)
  over-ends files outcome.Done was follows said m h = (h.0, (h.1.0, halts was said h.0 h.1.1))
  over-ends files (outcome.Run file code offset) was follows said m h = (h.0, (h.1.0, halts was said h.0 h.1.1))
  over-ends files outcome.Usage was follows said m h = (h.0, (h.1.0, halts was said h.0 h.1.1))
  over-ends files (outcome.Sheet fault) was follows said m h = (h.0, (h.1.0, halts was said h.0 h.1.1))
  over-ends files (outcome.Xml file fault) was follows said m h = (h.0, (h.1.0, halts was said h.0 h.1.1))
  over-ends files (outcome.Host file fault offset) was follows said m h = (h.0, (h.1.0, halts was said h.0 h.1.1))
  over-ends files (outcome.Fuel file offset) was follows said m h = (h.0, (h.1.0, halts was said h.0 h.1.1))
  over-ends files outcome.Memory was follows said m h = absurd m

  ended-at : (files : List (List ℕ)) (s : Stage) (was follows : Flat_does) (said : List Said) → HasEnded s → EndsAs given files s was said follows → (e : Ending) × (EndedAs files s e × Ends (flat_code given) was said e)
  ended-at files New was follows said m h = absurd m
  ended-at files Main was follows said m h = absurd m
  ended-at files Document was follows said m h = absurd m
  ended-at files (Wants name) was follows said m h = absurd m
  ended-at files (Over o) was follows said m h = over-ends files o was follows said m h

  module _ (law : BeginsWithMeaning) (start run : Run) (talk : List Exchange) (is : start ≡ at_start given.sheet given.limits start.machine) (runs : IsRunOf given start) where
    by-law : (x : Coming) (said : List Said) (e : Ending) → Ends (code given) (meaning given (tree_of given x)) said e ↔ Ends (flat_code given) (more given start x) said e
    by-law x said e = subst (λ r. Ends (code given) (meaning given (tree_of given x)) said e ↔ Ends (flat_code given) (more given r x) said e) (sym is) (law given start.machine x said e)

    bare : start.output.left ≡ nothing
    bare = runs.bare (ap (λ (r : Run). r.stage) is)

    files-are : start.files ≡ given.sheet.files
    files-are = ap (λ (r : Run). r.files) is

    so : GaveFrom (head_in talk) given start run talk → Means given start run talk
    so h = record {
      said = h.said;
      bytes = subst (λ l. WasSettled run.stage (bytes_in talk) (head_in talk ++ settled_by l h.said)) bare h.bytes;
      notes = h.notes;
      asks = λ at. (
        h.open_end at,
        (by-law (came start talk nothing_yet) h.said Needs).1
            (halts (more given start (came start talk nothing_yet)) h.said Needs
            (same-halt at (subst (λ s. EndsAs given run.files s (more given start (came start talk nothing_yet)) h.said (more given run nothing_yet)) at (h.does nothing_yet)) (h.settled at))),
      );
      ends = λ over x.
          let e = ended-at run.files run.stage (more given start (came start talk x)) (more given run x) h.said over (h.does x) in
          (e.0, (subst (λ f. EndedAs f run.stage e.0) (h.files ∙ files-are) e.1.0, (by-law (came start talk x) h.said e.0).1 e.1.1));
      begins = λ x os e ends.
          let z = some-follows run.files run.stage (more given start (came start talk x)) (more given run x) h.said (h.does x) in
          said_first h.said z.0 (z.1.to os e ((by-law (came start talk x) os e).0 ends));
      order = h.order;
      names = h.names;
    } where
      same-halt : run.stage ≡ Main → Same (flat_code given) (more given start (came start talk nothing_yet)) (says h.said (more given run nothing_yet)) → Same (flat_code given) (more given run nothing_yet) (Halt Needs)
          → Same (flat_code given) (more given start (came start talk nothing_yet)) (says h.said (Halt Needs))
      same-halt at first settled = same_then first (same_says h.said settled)

pub means : BeginsWithMeaning → RunsMean
means law given start run [] docs is runs order leads =
    subst (λ r. Means given start r []) (sym leads)
    (record {
      said = [];
      bytes = was-same start.stage [] [] refl;
      notes = was-same start.stage [] [] refl;
      asks = λ at. absurd (new-main (sym (ap (λ (r : Run). r.stage) is) ∙ at));
      ends = λ over x. absurd (subst HasEnded (ap (λ (r : Run). r.stage) is) over);
      begins = λ x os e ends. (os, refl);
      order = order;
      names = refl;
    }) where
      new-main : {P : Type 0} → New ≡ Main → P
      new-main h = absurd cc
means law given start run (x ∷ rest) docs is runs order leads =
    so given law start run (x ∷ rest) is runs (gave-new given docs x rest start run (ap (λ (r : Run). r.stage) is) order runs leads)
