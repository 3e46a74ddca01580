-- A run of a sheet that only passes documents through does what the sheet means.
use Rattle.std.proofs.Common.{◌≡◌, ℕ, ◌≤◌, ◌==◌, Bool, true, false, List, [], ◌∷◌, length, map, take, Some, None, Option, inl, inr, arith, refl, sym, ap, subst, ◌∙◌}
use Rattle.std.specs.List.{concat, list_any}
use Rattle.std.proofs.lemmas.Bool.{false≢true, true≢false}
use Rattle.stx_base.specs.Course.{Begins}
use Rattle.stx_base.specs.declared.fault.RunCode.{RunCode}
use Rattle.command_words.specs.declared.command.Command.{Command}
use Rattle.command_words.specs.declared.command.Mode.TheVariants.{Run as AsksRun, Sample}
use Rattle.stx_host.specs.Before.{AtMainReads, Between, Taken}
use Rattle.stx_host.specs.Outside.{LacksRoom, Outside}
use Rattle.stx_host.specs.Rooms.{needed}
use Rattle.stx_host.specs.declared.act.Act.{Act}
use Rattle.stx_host.proofs.Stretches.{nothing_between}
use Rattle.fault_report.specs.declared.outcome.HostFault.TheVariants as fault
use Rattle.fault_report.specs.declared.outcome.Outcome.{Outcome}
use Rattle.fault_report.specs.declared.outcome.Outcome.TheVariants as outcome
use Rattle.instr_code.specs.Code.{code_of}
use Rattle.result_writer.specs.declared.fault.ResultFault.{ResultFault}
use Rattle.sample_maker.specs.Document as sample
use Rattle.sheet_model.specs.declared.pass.Kinds.{Kinds}
use Rattle.sheet_model.specs.declared.sheet.Sheet as model
use Rattle.xml_events.specs.Tree.{Need, Bad}
use Rattle.template_machine.specs.Ending as meant
use Rattle.template_machine.specs.Ending.{Needs, Put}
use Rattle.template_machine.specs.Ordinary.{IsOrdinary}
use Rattle.template_machine.specs.Written.{lines_of}
use Rattle.run_engine.specs.Does.{told_as}
use Rattle.run_engine.specs.More.{nothing_yet}
use Rattle.run_engine.specs.Run.{IsAtStart, Run}
use Rattle.run_engine.specs.Run as engine
use Rattle.sheet_runs.specs.Counts.{CountsAt}
use Rattle.sheet_runs.specs.Meant.{EndedAs, HasEnded, IsDocument, IsOnOther, IsSettledOn, KeepsMeaning, Means as RunMeans, RunsKeepMeaning, RunsMean, came}
use Rattle.sheet_runs.specs.Runs.{EndsBy, RunsSheet}
use Rattle.sheet_runs.specs.Talk.{bytes_in, main_ends, notes_in}
use Rattle.sheet_runs.specs.declared.main_document.Main.{Main}
use Rattle.sheet_runs.specs.declared.main_document.Main.TheVariants as main_of
use Rattle.sheet_runs.specs.declared.run.End.{End}
use Rattle.sheet_runs.specs.declared.run.End.TheVariants as ends
use Rattle.sheet_runs.specs.declared.run.Ran.{Ran}
use Rattle.sheet_runs.proofs.KeptMeaning.{front-of, lines-begin, settled, was-begins}
use Rattle.stx_engine.specs.Answer.{Answer, Asked_for, document_of, end_in, given_of, is_any_run, is_run, param_of, ran}
use Rattle.stx_engine.specs.Doing.{AreUsual, Checks, RunsAny, RunsIt, RunsOnSample}
use Rattle.stx_engine.specs.Laws.{Means}
use Rattle.stx_engine.specs.Plain.{pass_of, runnable}
use Rattle.stx_engine.specs.RunEnd.{end_of_run, end_of_sample, outcome_in}
use Rattle.stx_engine.specs.Running.{CountsIn, FailedAt, IfFailed, IsAnswered, TakesParts, UnlessFailed}
use Rattle.stx_engine.specs.declared.run_end.RunEnd.{RunEnd}
use Rattle.stx_engine.specs.declared.run_end.RunEnd.TheVariants.{Told, Unnoted}
use Rattle.stx_engine.specs.inside.Accepted.{DocumentsAreTaken}
use Rattle.stx_engine.specs.inside.Laws.{PassesAsMeant, meant_ending}
use Rattle.stx_engine.specs.inside.Passed as gives
use Rattle.stx_engine.specs.inside.Passing.{Checked, DoesAsMeant, Passed, PassesOn, RanIt, RanOnSample, RunsAsMeant}
use Rattle.stx_engine.specs.inside.Run.{outcome_of, run_on}
use Rattle.stx_engine.proofs.AsMeant.{answers-so, begins-so, kept, main-fails, sample-bytes, sample-counts, sample-fails, sample-is, sample-outcome}
use Rattle.stx_engine.proofs.Begun.{begun-order, begun-runs}
use Rattle.stx_engine.proofs.Idle.{no_main_gots, no_main_reads}
use Rattle.stx_engine.proofs.Prefixes.{begins_nothing}
use Rattle.stx_engine.proofs.Meant.{HaveMeaning, MeaningIsOutcome, lines-none, none-new, ran-passed, told-same, written-same}
use Rattle.stx_engine.proofs.Runnable.{runnable-all, runnable-plain, uncalled, uncalled-ordinary}
use Rattle.stx_engine.proofs.Stays.{OneMeaning}

none-begins : (xs ys : List ℕ) → ys ≡ [] → Begins xs ys → xs ≡ []
none-begins [] ys none h = refl
none-begins (x ∷ xs) ys none h = absurd (omega (arith, ap length h.1, ap length none))

-- an end that isn't that of an instruction, nor of want of fuel
never-run : (name : List ℕ) (e : gives.Ending) (file : List ℕ) (why : RunCode) (offset : ℕ) → ((f : ResultFault) → e ≡ gives.Refused f → ⊥) → outcome.Run file why offset ≡ outcome_of name e → ⊥
never-run name gives.Complete file why offset taken is = cc
never-run name (gives.Unready Need) file why offset taken is = cc
never-run name (gives.Unready (Bad f)) file why offset taken is = cc
never-run name (gives.Refused f) file why offset taken is = taken f refl

never-fuel : (name : List ℕ) (e : gives.Ending) (file : List ℕ) (offset : ℕ) → outcome.Fuel file offset ≡ outcome_of name e → ⊥
never-fuel name gives.Complete file offset is = cc
never-fuel name (gives.Unready Need) file offset is = cc
never-fuel name (gives.Unready (Bad f)) file offset is = cc
never-fuel name (gives.Refused f) file offset is = cc

-- how a run on the main document ended
counts-so : (e : End) (old new : Outside) → CountsAt e old new → CountsIn (end_of_run e) old new
counts-so ends.Unnoted old new h = h
counts-so (ends.Told o) old new h = h

noted-so : (e : End) → (e ≡ ends.Unnoted → ⊥) → end_of_run e ≡ Unnoted → ⊥
noted-so ends.Unnoted some is = some refl
noted-so (ends.Told o) some is = cc

done-so : (e : End) → outcome_in (end_of_run e) ≡ outcome.Done → e ≡ ends.Told outcome.Done
done-so (ends.Told o) is = ap ends.Told is
done-so ends.Unnoted is = absurd cc

failed-so : (run : Run) (acts : List Act) (out : List ℕ) (e : End) → EndsBy run acts out e → (IsOnOther e → ⊥) → FailedAt (outcome_in (end_of_run e)) acts out
failed-so run acts out ends.Unnoted h alone = tt
failed-so run acts out (ends.Told outcome.Memory) h alone = tt
failed-so run acts out (ends.Told (outcome.Host file fault.Doc offset)) h alone = absurd (alone tt)
failed-so run acts out (ends.Told (outcome.Host file fault.Read offset)) h alone = (h.1, h.2)
failed-so run acts out (ends.Told (outcome.Host file fault.Write offset)) h alone = h
failed-so run acts out (ends.Told outcome.Done) h alone = tt
failed-so run acts out (ends.Told outcome.Usage) h alone = absurd h
failed-so run acts out (ends.Told (outcome.Sheet why)) h alone = absurd h
failed-so run acts out (ends.Told (outcome.Run file why offset)) h alone = tt
failed-so run acts out (ends.Told (outcome.Xml file why)) h alone = tt
failed-so run acts out (ends.Told (outcome.Fuel file offset)) h alone = tt

-- and one on the sample
noted-on : (records : ℕ) (x : Ran) (e : End) → (e ≡ ends.Unnoted → ⊥) → end_of_sample records x e ≡ Unnoted → ⊥
noted-on records x ends.Unnoted some is = some refl
noted-on records x (ends.Told outcome.Done) some is = cc
noted-on records x (ends.Told outcome.Memory) some is = cc
noted-on records x (ends.Told (outcome.Host file f offset)) some is = cc
noted-on records x (ends.Told outcome.Usage) some is = cc
noted-on records x (ends.Told (outcome.Sheet why)) some is = cc
noted-on records x (ends.Told (outcome.Run file why offset)) some is = cc
noted-on records x (ends.Told (outcome.Xml file why)) some is = cc
noted-on records x (ends.Told (outcome.Fuel file offset)) some is = cc

-- The laws that this rests on

pub record Laws : Type 1 where
  pub as_meant : PassesAsMeant
  pub have : HaveMeaning
  pub is_outcome : MeaningIsOutcome
  pub one : OneMeaning
  pub taken : DocumentsAreTaken
  pub says : RunsMean
  pub keeps : RunsKeepMeaning

module _ (laws : Laws) (k : Asked_for) (pass : Kinds) (passes : pass_of k.sheet ≡ Some pass) (below : k.command.limits.depth ≤ k.command.limits.elements) where
  -- the same without procedures
  abbrev bare : Asked_for
  bare = record k { sheet = uncalled k.sheet }

  abbrev passing : (bytes : List ℕ) (ended : Bool) → gives.Run
  passing bytes ended = run_on k.command.limits pass bytes ended

  not-refused : (bytes : List ℕ) (ended : Bool) (f : ResultFault) → (passing bytes ended).ending ≡ gives.Refused f → ⊥
  not-refused bytes ended f = laws.taken k.command.limits pass bytes ended f below

  passed-through : (bytes : List ℕ) (ended : Bool) → Means (given_of bare) bytes ended (map Put (passing bytes ended).parts) (meant_ending (given_of bare) (passing bytes ended).ending)
  passed-through bytes ended = laws.as_meant (given_of bare) pass bytes ended passes

  -- whatever it means without them the sheet means with them
  same-meaning : (bytes : List ℕ) (ended : Bool) (said : List meant.Said) (e : meant.Ending) → Means (given_of bare) bytes ended said e → Means (given_of k) bytes ended said e
  same-meaning bytes ended said e means =
      let run = passing bytes ended in
      let same = laws.one (given_of bare) _ said (map Put run.parts) e (meant_ending (given_of bare) run.ending) means (passed-through bytes ended) in
      subst (λ os. Means (given_of k) bytes ended os e) (sym same.0)
      (subst (Means (given_of k) bytes ended (map Put run.parts)) (sym same.1) (laws.as_meant (given_of k) pass bytes ended passes))

  same-answer : (opened : List (List ℕ)) (main : List ℕ) → ran bare opened main ≡ ran k opened main
  same-answer opened main =
      ran-passed laws.as_meant laws.is_outcome bare pass passes opened main ∙ sym (ran-passed laws.as_meant laws.is_outcome k pass passes opened main)

  ordinary : IsOrdinary (code_of bare.sheet)
  ordinary = uncalled-ordinary k.sheet pass passes

  -- before a read
  settled-so : (bytes : List ℕ) (t : Taken) → IsSettledOn (given_of bare) bytes t → IsSettledOn (given_of k) bytes t
  settled-so bytes t s = record { said = s.said; needs = same-meaning bytes false s.said Needs s.needs; out = s.out; note = s.note }

  module _ (source : Main) (old new : Outside) (x : Ran) (start : Run) (b : IsAtStart bare.sheet (map param_of k.command.params) k.command.limits start) (r : RunsSheet start source old new x) where
    h : KeepsMeaning (given_of bare) source old new r.acts r.out r.note x.end
    h = kept laws.keeps laws.have laws.is_outcome bare ordinary source old new x start b r

    m : RunMeans (given_of bare) start r.run r.talk
    m = laws.says (given_of bare) start r.run r.talk (none-new bare) b.is (begun-runs bare start b) (begun-order bare start b ordinary) r.leads

    -- no message is said
    silent : lines_of m.said ≡ []
    silent =
        let t = came start r.talk nothing_yet in
        let run = passing t.bytes t.ended in
        none-begins (lines_of m.said) (lines_of (map Put run.parts)) (lines-none run.parts)
        (lines-begin m.said (map Put run.parts) (m.begins nothing_yet (map Put run.parts) (meant_ending (given_of bare) run.ending) (passed-through t.bytes t.ended)))

    notes-none : notes_in r.talk ≡ []
    notes-none = none-begins (notes_in r.talk) (lines_of m.said) silent (was-begins r.run.stage (notes_in r.talk) (lines_of m.said) m.notes)

    note-none : r.note ≡ []
    note-none = none-begins r.note (notes_in r.talk) notes-none (front-of x.end r.talk r.out r.note r.writes).1

    noted : x.end ≡ ends.Unnoted → ⊥
    noted is = omega (arith, r.unnoted is, ap length notes-none)

    -- it ends as passing the document through does
    ended-so : (o : Outcome) → r.run.stage ≡ engine.Over o → HasEnded (engine.Over o) → ((e : meant.Ending) → EndedAs k.sheet.files (engine.Over o) e → o ≡ told_as k.sheet.files e)
        → (e : gives.Ending) × (o ≡ outcome_of [] e) × ((f : ResultFault) → e ≡ gives.Refused f → ⊥)
    ended-so o over has told =
        let t = came start r.talk nothing_yet in
        let run = passing t.bytes t.ended in
        let e = m.ends (subst HasEnded (sym over) has) nothing_yet in
        let same = laws.one (given_of bare) _ m.said (map Put run.parts) e.0 (meant_ending (given_of bare) run.ending) e.1.1 (passed-through t.bytes t.ended) in (
          run.ending,
          told e.0 (subst (λ s. EndedAs k.sheet.files s e.0) over e.1.0) ∙ ap (told_as k.sheet.files) same.1 ∙ told-same (given_of bare) [] k.sheet.files run.ending (not-refused t.bytes t.ended),
          not-refused t.bytes t.ended,
        )

    takes : (e : End) → EndsBy r.run r.acts r.out e → TakesParts (outcome_in (end_of_run e))
    takes ends.Unnoted h = tt
    takes (ends.Told outcome.Memory) h = tt
    takes (ends.Told (outcome.Host file f offset)) h = tt
    takes (ends.Told outcome.Done) h = tt
    takes (ends.Told outcome.Usage) h = tt
    takes (ends.Told (outcome.Sheet why)) h = tt
    takes (ends.Told (outcome.Run file why offset)) h =
        let e = ended-so (outcome.Run file why offset) h tt (λ e is. is) in never-run [] e.0 file why offset e.2 e.1
    takes (ends.Told (outcome.Xml file why)) h = tt
    takes (ends.Told (outcome.Fuel file offset)) h = let e = ended-so (outcome.Fuel file offset) h tt (λ e is. is) in never-fuel [] e.0 file offset e.1

    between-so : Between old new r.acts r.out []
    between-so = subst (Between old new r.acts r.out) note-none r.between

    -- what it lacked room for
    room-so : (end : RunEnd) → IfFailed end old new (LacksRoom old (needed r.acts (bytes_in r.talk) (notes_in r.talk))) → IfFailed end old new (LacksRoom old (needed r.acts (bytes_in r.talk) []))
    room-so end = subst (λ notes. IfFailed end old new (LacksRoom old (needed r.acts (bytes_in r.talk) notes))) notes-none

    module _ (main : List ℕ) (is-document : IsDocument source old (document_of k.command.mode main)) (opened : List (List ℕ)) where
      writes-so : (end : RunEnd) → outcome_in end ≡ outcome_in (end_of_run x.end) → ((o : Outcome) → x.end ≡ ends.Told o → end ≡ end_in k.command.mode r.out o)
          → Begins r.out (ran k opened main).out × UnlessFailed (outcome_in end) (IsAnswered r.out [] end (ran k opened main))
      writes-so end same is = (
        subst (λ (a : Answer). Begins r.out a.out) (same-answer opened main) (begins-so laws.keeps laws.have laws.is_outcome bare ordinary source old new x start b r opened main is-document).0,
        subst (λ note. UnlessFailed (outcome_in end) (IsAnswered r.out note end (ran k opened main))) note-none
            (subst (λ (a : Answer). UnlessFailed (outcome_in end) (IsAnswered r.out r.note end a)) (same-answer opened main)
            (answers-so laws.keeps laws.have laws.is_outcome bare ordinary source old new x start b r opened main is-document end same is)),
      )

      -- what was settled begins it
      settles-so : Begins (bytes_in r.talk) (ran k opened main).out
      settles-so =
          let document = document_of k.command.mode main in
          let run = passing document true in
          let begins = settled laws.says (given_of bare) start (none-new bare) b.is (begun-runs bare start b) (begun-order bare start b ordinary) source old new x r document is-document
          (map Put run.parts) (meant_ending (given_of bare) run.ending) (passed-through document true) in
          subst (λ (a : Answer). Begins (bytes_in r.talk) a.out) (sym (ran-passed laws.as_meant laws.is_outcome k pass passes opened main)) (subst (Begins (bytes_in r.talk)) (written-same run.parts) begins.0)

    reads-so : (main : List ℕ) → old.to_come 0 ≡ Some main → AtMainReads r.acts r.out [] (λ taken. IsSettledOn (given_of k) (take taken.main_read main) taken)
    reads-so main told =
        subst (λ note. AtMainReads r.acts r.out note (λ taken. IsSettledOn (given_of k) (take taken.main_read main) taken)) note-none (λ n is_read. settled-so (take _ main) _ (h.reads main told n is_read))

  -- The main document was read

  on-main : k.command.mode ≡ AsksRun → (old new : Outside) (x : Ran) (start : Run) (b : IsAtStart bare.sheet (map param_of k.command.params) k.command.limits start) → RunsSheet start main_of.Host old new x → PassesOn k old new (end_of_run x.end)
  on-main plain old new x start b r =
      let meant = h main_of.Host old new x start b r in
      let is-document : (main : List ℕ) → old.to_come 0 ≡ Some main → IsDocument main_of.Host old (document_of k.command.mode main) = λ main told. told ∙ ap Some (ap (λ m. document_of m main) (sym plain)) in
      record {
        acts = r.acts;
        out = r.out;
        between = between-so main_of.Host old new x start b r;
        opened = meant.opened;
        no_doc_read = r.alone meant.opened;
        ended = main_ends start r.talk;
        once = r.hands.0;
        no_main_read = λ other. absurd (true≢false (sym (ap is_run plain) ∙ other));
        ids = r.ids;
        counts = counts-so x.end old new r.counts;
        noted = noted-so x.end (noted main_of.Host old new x start b r);
        failed = failed-so r.run r.acts r.out x.end r.ends meant.alone;
        takes = takes main_of.Host old new x start b r x.end r.ends;
        reads = reads-so main_of.Host old new x start b r;
        writes = λ main told opened.
            writes-so main_of.Host old new x start b r main (is-document main (told (ap is_run plain))) opened (end_of_run x.end) refl (λ o is. ap end_of_run is ∙ sym (ap (λ m. end_in m r.out o) plain));
        all = λ asks main told done.
            let whole = r.whole (done-so x.end done) in
            let handed = r.hands.2 main told in
            (whole, omega (arith, r.hands.1, ap length (handed.1 whole)));
        due = bytes_in r.talk;
        settles = λ main told opened. settles-so main_of.Host old new x start b r main (is-document main (told (ap is_run plain))) opened;
        room = room-so main_of.Host old new x start b r (end_of_run x.end) (main-fails x.end old new _ r.room);
      }

  -- The sample was

  on-sample : ((n : ℕ) → concat (sample.pieces n) ≡ sample.document n) → (records : ℕ) → k.command.mode ≡ Sample records → (old new : Outside) (x : Ran) (start : Run) (b : IsAtStart bare.sheet (map param_of k.command.params) k.command.limits start)
      → RunsSheet start (main_of.Sample (sample.pieces records)) old new x → PassesOn k old new (end_of_sample records x x.end)
  on-sample joins records sampled old new x start b r =
      let source : Main = main_of.Sample (sample.pieces records) in
      let end = end_of_sample records x x.end in
      let meant = h source old new x start b r in
      let is-document : (main : List ℕ) → IsDocument source old (document_of k.command.mode main) = λ main. ap (λ m. document_of m main) sampled ∙ sample-bytes joins records in
      record {
        acts = r.acts;
        out = r.out;
        between = between-so source old new x start b r;
        opened = meant.opened;
        no_doc_read = r.alone meant.opened;
        ended = false;
        once = ap (list_any (λ got. got == 0)) (no_main_gots r.acts r.hands.0);
        no_main_read = λ other. r.hands.0;
        ids = r.ids;
        counts = sample-counts records x x.end old new (counts-so x.end old new r.counts);
        noted = noted-on records x x.end (noted source old new x start b r);
        failed = subst (λ o. FailedAt o r.acts r.out) (sym (sample-outcome records x x.end)) (failed-so r.run r.acts r.out x.end r.ends meant.alone);
        takes = subst TakesParts (sym (sample-outcome records x x.end)) (takes source old new x start b r x.end r.ends);
        reads = λ main told. no_main_reads r.acts r.out [] (λ taken. IsSettledOn (given_of k) (take taken.main_read main) taken) r.hands.0;
        writes = λ main told opened.
            writes-so source old new x start b r main (is-document main) opened end (sample-outcome records x x.end) (λ o is. sample-is joins records old new x start r o is ∙ sym (ap (λ m. end_in m r.out o) sampled));
        all = λ plain. absurd (false≢true (sym (ap is_run sampled) ∙ plain));
        due = bytes_in r.talk;
        settles = λ main told opened. settles-so source old new x start b r main (is-document main) opened;
        room = room-so source old new x start b r end (sample-fails records x x.end old new _ r.room);
      }

-- There was no memory to begin it

lacking : (k : Asked_for) (old : Outside) → PassesOn k old old (Told outcome.Memory)
lacking k old = record {
  acts = [];
  out = [];
  between = nothing_between old;
  opened = refl;
  no_doc_read = refl;
  ended = false;
  once = refl;
  no_main_read = λ other. refl;
  ids = refl;
  counts = refl;
  noted = λ e. cc;
  failed = tt;
  takes = tt;
  reads = λ main told n is_read. absurd (false≢true is_read);
  writes = λ main told opened. (begins_nothing (ran k opened main).out, tt);
  all = λ asks main told e. cc;
  due = [];
  settles = λ main told opened. begins_nothing (ran k opened main).out;
  room = inl (record { doc = refl; main = refl; out = refl; note = refl });
}

-- What was done with a sheet

module _ (laws : Laws) (joins : (n : ℕ) → concat (sample.pieces n) ≡ sample.document n) (c : Command) (sheet : model.Sheet) (usual : AreUsual c.limits) (old new : Outside) (x : Ran) where
  abbrev k : Asked_for
  k = record { command = c; sheet = sheet }

  abbrev Runs : Main → model.Sheet → Type 0
  Runs source s = RunsAny (map param_of c.params) c.limits s source old new x

  -- on the main document
  passed-main : (pass : Kinds) → pass_of sheet ≡ Some pass → c.mode ≡ AsksRun → Runs main_of.Host (uncalled sheet) → PassesOn k old new (end_of_run x.end)
  passed-main pass e plain (inl r) = on-main laws k pass e usual.below plain old new x r.0 r.1.0 r.1.1
  passed-main pass e plain (inr lacks) = subst (PassesOn k old new) (sym (ap end_of_run lacks.1)) (subst (λ o. PassesOn k old o (Told outcome.Memory)) (sym lacks.0) (lacking k old))

  main-as-meant : c.mode ≡ AsksRun → Runs main_of.Host (runnable sheet) → (o : Option Kinds) → pass_of sheet ≡ o → DoesAsMeant c sheet old new (end_of_run x.end)
  main-as-meant plain runs None e = RanIt plain e x (subst (Runs main_of.Host) (runnable-all sheet e) runs) refl
  main-as-meant plain runs (Some pass) e = Passed (ap is_any_run plain) (passed-main pass e plain (subst (Runs main_of.Host) (runnable-plain sheet pass e) runs))

  -- on the sample
  module _ (records : ℕ) (sampled : c.mode ≡ Sample records) where
    abbrev source : Main
    source = main_of.Sample (sample.pieces records)

    passed-sample : (pass : Kinds) → pass_of sheet ≡ Some pass → Runs source (uncalled sheet) → PassesOn k old new (end_of_sample records x x.end)
    passed-sample pass e (inl r) = on-sample laws k pass e usual.below joins records sampled old new x r.0 r.1.0 r.1.1
    passed-sample pass e (inr lacks) = subst (PassesOn k old new) (sym (ap (end_of_sample records x) lacks.1)) (subst (λ o. PassesOn k old o (Told outcome.Memory)) (sym lacks.0) (lacking k old))

    sample-as-meant : Runs source (runnable sheet) → (o : Option Kinds) → pass_of sheet ≡ o → DoesAsMeant c sheet old new (end_of_sample records x x.end)
    sample-as-meant runs None e = RanOnSample records sampled e x (subst (Runs source) (runnable-all sheet e) runs) refl
    sample-as-meant runs (Some pass) e = Passed (ap is_any_run sampled) (passed-sample pass e (subst (Runs source) (runnable-plain sheet pass e) runs))

pub runs-as-meant : Laws → ((n : ℕ) → concat (sample.pieces n) ≡ sample.document n) → RunsAsMeant
runs-as-meant laws joins c sheet old new end usual (Checks alone same is) = Checked alone same is
runs-as-meant laws joins c sheet old new end usual (RunsIt plain x runs is) =
    subst (DoesAsMeant c sheet old new) (sym is) (main-as-meant laws joins c sheet usual old new x plain runs (pass_of sheet) refl)
runs-as-meant laws joins c sheet old new end usual (RunsOnSample records sampled x runs is) =
    subst (DoesAsMeant c sheet old new) (sym is) (sample-as-meant laws joins c sheet usual old new x records sampled runs (pass_of sheet) refl)
