-- What a run of an ordinary sheet did is what the sheet means.
use Rattle.std.proofs.Common.{◌≡◌, ℕ, true, List, ◌++◌, length, map, refl, sym, ap, subst, ◌∙◌, append-nil}
use Rattle.std.specs.Prelude.{encode_utf8_all}
use Rattle.std.specs.List.{concat}
use Rattle.stx_base.specs.Course.{Begins, Ends, Over}
use Rattle.xml_events.specs.Tree.{Forest}
use Rattle.stx_host.specs.Outside.{LacksRoom, Outside}
use Rattle.stx_host.specs.Rooms.{needed}
use Rattle.instr_code.specs.Code.{code_of}
use Rattle.template_machine.specs.Ending.{Ending, Said}
use Rattle.template_machine.specs.Meaning.{code, meaning}
use Rattle.template_machine.specs.Ordinary.{IsOrdinary}
use Rattle.fault_report.specs.declared.outcome.Outcome.{Outcome}
use Rattle.fault_report.specs.declared.outcome.Outcome.TheVariants as outcome
use Rattle.run_engine.specs.Run.{IsAtStart, Run}
use Rattle.sample_maker.specs.Document as sample
use Rattle.sheet_runs.specs.Counts as run_counts
use Rattle.sheet_runs.specs.Meant.{EndsAsMeant, EndsMeaning, IsDocument, KeepsMeaning, RunsKeepMeaning, WritesMeaning, tree_of}
use Rattle.sheet_runs.specs.Runs.{RunsSheet}
use Rattle.sheet_runs.specs.Talk.{main_ends, main_in}
use Rattle.sheet_runs.specs.Writing.{counted}
use Rattle.sheet_runs.specs.declared.main_document.Main.{Main}
use Rattle.sheet_runs.specs.declared.main_document.Main.TheVariants as main_of
use Rattle.sheet_runs.specs.declared.run.End.{End}
use Rattle.sheet_runs.specs.declared.run.End.TheVariants as ends
use Rattle.sheet_runs.specs.declared.run.Ran.{Ran}
use Rattle.stx_engine.specs.Answer.{Answer, Asked_for, document_of, end_in, given_of, param_of, ran, ran_by, written}
use Rattle.stx_engine.specs.RunEnd.{end_of_run, end_of_sample, on_sample, outcome_in, sample_of, summary_of}
use Rattle.stx_engine.specs.Running.{CountsIn, IfFailed, IsAnswered, UnlessFailed}
use Rattle.stx_engine.specs.declared.run_end.RunEnd.{RunEnd}
use Rattle.stx_engine.proofs.Begun.{begun-order, begun-runs}
use Rattle.stx_engine.proofs.Meant.{HaveMeaning, MeaningIsOutcome, none-new}
use Rattle.stx_engine.proofs.Outcomes.{outcome-on}

-- How a run ended, as it is told

pub main-fails : (e : End) (old new : Outside) (P : Type 0) → run_counts.IfFailed e old new P → IfFailed (end_of_run e) old new P
main-fails ends.Unnoted old new P p = p
main-fails (ends.Told outcome.Done) old new P p = p
main-fails (ends.Told outcome.Memory) old new P p = p
main-fails (ends.Told (outcome.Host file f offset)) old new P p = p
main-fails (ends.Told outcome.Usage) old new P p = p
main-fails (ends.Told (outcome.Sheet why)) old new P p = p
main-fails (ends.Told (outcome.Run file code offset)) old new P p = p
main-fails (ends.Told (outcome.Xml file why)) old new P p = p
main-fails (ends.Told (outcome.Fuel file offset)) old new P p = p

module _ (records : ℕ) (came : Ran) where
  pub sample-outcome : (e : End) → outcome_in (end_of_sample records came e) ≡ outcome_in (end_of_run e)
  sample-outcome ends.Unnoted = refl
  sample-outcome (ends.Told o) = outcome-on (record { records = records; input = came.input; output = came.output }) o

  -- a run that is done tells what it read and wrote, and all others as on a main document
  pub sample-counts : (e : End) (old new : Outside) → CountsIn (end_of_run e) old new → CountsIn (end_of_sample records came e) old new
  sample-counts ends.Unnoted old new h = h
  sample-counts (ends.Told outcome.Done) old new h = h
  sample-counts (ends.Told outcome.Memory) old new h = h
  sample-counts (ends.Told (outcome.Host file f offset)) old new h = h
  sample-counts (ends.Told outcome.Usage) old new h = h
  sample-counts (ends.Told (outcome.Sheet why)) old new h = h
  sample-counts (ends.Told (outcome.Run file code offset)) old new h = h
  sample-counts (ends.Told (outcome.Xml file why)) old new h = h
  sample-counts (ends.Told (outcome.Fuel file offset)) old new h = h

  pub sample-fails : (e : End) (old new : Outside) (P : Type 0) → run_counts.IfFailed e old new P → IfFailed (end_of_sample records came e) old new P
  sample-fails ends.Unnoted old new P p = p
  sample-fails (ends.Told outcome.Done) old new P p = tt
  sample-fails (ends.Told outcome.Memory) old new P p = p
  sample-fails (ends.Told (outcome.Host file f offset)) old new P p = p
  sample-fails (ends.Told outcome.Usage) old new P p = p
  sample-fails (ends.Told (outcome.Sheet why)) old new P p = p
  sample-fails (ends.Told (outcome.Run file code offset)) old new P p = p
  sample-fails (ends.Told (outcome.Xml file why)) old new P p = p
  sample-fails (ends.Told (outcome.Fuel file offset)) old new P p = p

  sample-end : (out : List ℕ) (o : Outcome) → came.output ≡ counted (length out) → (o ≡ outcome.Done → came.input ≡ counted (length (sample_of records)))
      → end_of_sample records came (ends.Told o) ≡ on_sample (summary_of records out) o
  sample-end out outcome.Done output input =
      ap (λ n. on_sample (record { records = records; input = n; output = came.output }) outcome.Done) (input refl)
      ∙ ap (λ n. on_sample (record { records = records; input = counted (length (sample_of records)); output = n }) outcome.Done) output
  sample-end out outcome.Memory output input = refl
  sample-end out (outcome.Host file f offset) output input = refl
  sample-end out outcome.Usage output input = refl
  sample-end out (outcome.Sheet why) output input = refl
  sample-end out (outcome.Run file code offset) output input = refl
  sample-end out (outcome.Xml file why) output input = refl
  sample-end out (outcome.Fuel file offset) output input = refl

-- the sample is what its pieces join to
pub sample-bytes : ((n : ℕ) → concat (sample.pieces n) ≡ sample.document n) → (records : ℕ) → sample_of records ≡ encode_utf8_all (concat (sample.pieces records))
sample-bytes joins records = ap encode_utf8_all (sym (joins records))

module _ (joins : (n : ℕ) → concat (sample.pieces n) ≡ sample.document n) (records : ℕ) (old new : Outside) (came : Ran) (start : Run) (r : RunsSheet start (main_of.Sample (sample.pieces records)) old new came) where
  -- a run that is done was handed all of the sample
  pub sample-is : (o : Outcome) → came.end ≡ ends.Told o → end_of_sample records came came.end ≡ on_sample (summary_of records r.out) o
  sample-is o is =
      ap (end_of_sample records came) is
      ∙ sample-end records came r.out o r.output
      (λ done.
      let left = r.hands.1 in
      let ended : main_ends start r.talk ≡ true = r.whole (is ∙ ap ends.Told done) in
      r.input
      ∙ ap (λ (l : List ℕ). counted (length l)) (
      sym (append-nil (main_in start r.talk)) ∙ ap (λ (p : List (List ℕ)). main_in start r.talk ++ encode_utf8_all (concat p)) (sym (left.2 ended)) ∙ left.1
      ∙ sym (sample-bytes joins records)))

module _ (law : RunsKeepMeaning) (have : HaveMeaning) (is-outcome : MeaningIsOutcome) (k : Asked_for) (ordinary : IsOrdinary (code_of k.sheet)) (source : Main) (old new : Outside) (came : Ran) (start : Run)
    (b : IsAtStart k.sheet (map param_of k.command.params) k.command.limits start) (r : RunsSheet start source old new came) where
  pub kept : KeepsMeaning (given_of k) source old new r.acts r.out r.note came.end
  kept = law (given_of k) start source old new came (none-new k) b.is (begun-runs k start b) (begun-order k start b ordinary) r

  module _ (names : List (List ℕ)) (main : List ℕ) (is-document : IsDocument source old (document_of k.command.mode main)) where
    abbrev a : Answer
    a = ran k names main

    abbrev tree : Forest
    tree = tree_of (given_of k) (record { bytes = document_of k.command.mode main; ended = true })

    meant-is : (said : List Said) (e : Ending) → Ends (code (given_of k)) (meaning (given_of k) tree) said e → a ≡ ran_by (given_of k) k.command.mode names (Over said e)
    meant-is said e means = ap (ran_by (given_of k) k.command.mode names) ((is-outcome (given_of k) (none-new k) tree said e).0 means)

    writes : WritesMeaning (given_of k) (document_of k.command.mode main) r.out r.note came.end
    writes = kept.writes (document_of k.command.mode main) is-document

    pub begins-so : Begins r.out a.out × Begins r.note a.messages
    begins-so =
        let m = have (given_of k) (none-new k) tree in
        let w = writes.begins m.0 m.1 m.2 in
        let is = meant-is m.0 m.1 m.2 in
        (subst (λ (w : Answer). Begins r.out w.out) (sym is) w.0, subst (λ (w : Answer). Begins r.note w.messages) (sym is) w.1)

    -- what it lacked room for
    pub lacks-so : run_counts.IfFailed came.end old new (LacksRoom old (needed r.acts a.out a.messages))
    lacks-so =
        let m = have (given_of k) (none-new k) tree in
        subst (λ (w : Answer). run_counts.IfFailed came.end old new (LacksRoom old (needed r.acts w.out w.messages))) (sym (meant-is m.0 m.1 m.2))
        (kept.room (document_of k.command.mode main) is-document m.0 m.1 m.2)

    module _ (end : RunEnd) where
      ends-so : (o : Outcome) → EndsMeaning (given_of k) (document_of k.command.mode main) r.out r.note o → end ≡ end_in k.command.mode r.out o → IsAnswered r.out r.note end a
      ends-so o m is =
          let w = meant-is m.said m.ending m.means in
          record {
            output = m.out ∙ sym (ap (λ (w : Answer). w.out) w);
            messages = m.note ∙ sym (ap (λ (w : Answer). w.messages) w);
            is = is ∙ ap (λ out. end_in k.command.mode out o) m.out ∙ ap (end_in k.command.mode (written m.said)) m.is ∙ sym (ap (λ (w : Answer). w.end) w);
          }

      ends-by : (e : End) → EndsAsMeant (given_of k) (document_of k.command.mode main) r.out r.note e → ((o : Outcome) → e ≡ ends.Told o → end ≡ end_in k.command.mode r.out o)
          → UnlessFailed (outcome_in (end_of_run e)) (IsAnswered r.out r.note end a)
      ends-by ends.Unnoted m is = tt
      ends-by (ends.Told outcome.Memory) m is = tt
      ends-by (ends.Told (outcome.Host file f offset)) m is = tt
      ends-by (ends.Told outcome.Done) m is = ends-so outcome.Done m (is outcome.Done refl)
      ends-by (ends.Told outcome.Usage) m is = ends-so outcome.Usage m (is outcome.Usage refl)
      ends-by (ends.Told (outcome.Sheet why)) m is = ends-so (outcome.Sheet why) m (is (outcome.Sheet why) refl)
      ends-by (ends.Told (outcome.Run file code offset)) m is = ends-so (outcome.Run file code offset) m (is (outcome.Run file code offset) refl)
      ends-by (ends.Told (outcome.Xml file why)) m is = ends-so (outcome.Xml file why) m (is (outcome.Xml file why) refl)
      ends-by (ends.Told (outcome.Fuel file offset)) m is = ends-so (outcome.Fuel file offset) m (is (outcome.Fuel file offset) refl)

      -- all was written, unless the host failed or memory was wanting
      pub answers-so : outcome_in end ≡ outcome_in (end_of_run came.end) → ((o : Outcome) → came.end ≡ ends.Told o → end ≡ end_in k.command.mode r.out o) → UnlessFailed (outcome_in end) (IsAnswered r.out r.note end a)
      answers-so same is = subst (λ o. UnlessFailed o (IsAnswered r.out r.note end a)) (sym same) (ends-by came.end writes.ends is)
