-- What a whole run over a host writes of what its sheet means.
use Rattle.std.proofs.Common.{◌≡◌, inl, inr, ℕ, Bool, true, false, List, [], ◌∷◌, ◌++◌, map, take, Some, Option, refl, sym, ap, subst, ◌∙◌, append_assoc, append-nil}
use Rattle.std.specs.Prelude.{encode_utf8_all}
use Rattle.std.specs.List.{concat}
use Rattle.std.specs.Option.{option_and_then}
use Rattle.std.proofs.Math.Seq.{take-append_seam}
use Rattle.stx_base.specs.Course.{Begins, Ends}
use Rattle.result_writer.specs.Target.{fresh, nothing}
use Rattle.stx_host.specs.Before.{Taken}
use Rattle.stx_host.specs.Outside.{LacksRoom, Outside, place}
use Rattle.stx_host.specs.Rooms.{needed}
use Rattle.stx_host.specs.declared.act.Act.{Act}
use Rattle.fault_report.specs.declared.outcome.HostFault.TheVariants as fault
use Rattle.fault_report.specs.declared.outcome.Outcome.{Outcome}
use Rattle.fault_report.specs.declared.outcome.Outcome.TheVariants as outcome
use Rattle.template_machine.specs.Ending.{Ending, Needs, Said}
use Rattle.template_machine.specs.Job.{Given}
use Rattle.template_machine.specs.Meaning.{code, meaning}
use Rattle.template_machine.specs.Outcome.{AreNew}
use Rattle.template_machine.specs.Written.{lines_of, settled_by}
use Rattle.template_machine.specs.WrittenOn.{lines_on, settled_on}
use Rattle.template_machine.specs.Sinks.{behind_all}
use Rattle.run_engine.specs.Does.{InOrder, InOrderAt, IsRunOf, told_as}
use Rattle.run_engine.specs.More.{Coming, nothing_yet}
use Rattle.run_engine.specs.Run.{Document, Main, New, Over, Run, Stage, Wants, at_start, head}
use Rattle.sheet_files.specs.Acts.{opens}
use Rattle.sheet_runs.specs.Counts.{IfFailed}
use Rattle.sheet_runs.specs.Meant.{EndedAs, EndsAsMeant, EndsMeaning, HasEnded, IsDocument, IsOnOther, IsSettledOn, KeepsMeaning, Means, RunsKeepMeaning, RunsMean, WasSettled, came, came_by, head_in, tree_of}
use Rattle.sheet_runs.specs.Runs.{EndsBy, FailsOn, HandsMain, IsAsked, OpensNames, RunsSheet, Writes}
use Rattle.sheet_runs.specs.Talk.{Exchange, Leads, bytes_in, main_ends, main_in, names_in, notes_in}
use Rattle.sheet_runs.specs.declared.main_document.Main as main_document
use Rattle.sheet_runs.specs.declared.main_document.Main.TheVariants.{Host as OfHost, Sample}
use Rattle.sheet_runs.specs.declared.run.End.{End}
use Rattle.sheet_runs.specs.declared.run.End.TheVariants.{Told, Unnoted}
use Rattle.sheet_runs.specs.declared.run.Ran.{Ran}
use Rattle.sheet_runs.proofs.Halting.{room-at}
use Rattle.sheet_runs.proofs.Lacking.{needs_all}
use Rattle.sheet_runs.proofs.Stepping.{same-counts}

-- Beginnings

begins-more : (xs ys zs : List ℕ) → Begins xs ys → Begins ys zs → Begins xs zs
begins-more xs ys zs h k = (h.0 ++ k.0, sym (append_assoc xs h.0 k.0) ∙ ap (λ l. l ++ k.0) h.1 ∙ k.1)

begins-same : (xs : List ℕ) → Begins xs xs
begins-same xs = ([], append-nil xs)

begins-behind : (before xs ys : List ℕ) → Begins xs ys → Begins (before ++ xs) (before ++ ys)
begins-behind before xs ys h = (h.0, append_assoc before xs h.0 ∙ ap (λ zs. before ++ zs) h.1)

settled-begins : (said os : List Said) → Begins said os → Begins (settled_by nothing said) (settled_by nothing os)
settled-begins said os h =
    (settled_by (behind_all (fresh 0) said).left h.0, sym (settled_on (fresh 0) said h.0) ∙ ap (settled_by nothing) h.1)

pub lines-begin : (said os : List Said) → Begins said os → Begins (lines_of said) (lines_of os)
lines-begin said os h = (lines_of h.0, sym (lines_on said h.0) ∙ ap lines_of h.1)

pub was-begins : (s : Stage) (xs ys : List ℕ) → WasSettled s xs ys → Begins xs ys
was-begins New xs ys h = subst (Begins xs) h (begins-same xs)
was-begins Main xs ys h = subst (Begins xs) h (begins-same xs)
was-begins Document xs ys h = subst (Begins xs) h (begins-same xs)
was-begins (Wants name) xs ys h = subst (Begins xs) h (begins-same xs)
was-begins (Over outcome.Done) xs ys h = subst (Begins xs) h (begins-same xs)
was-begins (Over (outcome.Run file code offset)) xs ys h = subst (Begins xs) h (begins-same xs)
was-begins (Over outcome.Usage) xs ys h = subst (Begins xs) h (begins-same xs)
was-begins (Over (outcome.Sheet why)) xs ys h = subst (Begins xs) h (begins-same xs)
was-begins (Over (outcome.Xml file why)) xs ys h = subst (Begins xs) h (begins-same xs)
was-begins (Over (outcome.Host file f offset)) xs ys h = subst (Begins xs) h (begins-same xs)
was-begins (Over (outcome.Fuel file offset)) xs ys h = subst (Begins xs) h (begins-same xs)
was-begins (Over outcome.Memory) xs ys h = h

-- the head stands before all else
out-begins : (talk : List Exchange) (bytes all more : List ℕ) → bytes ≡ bytes_in talk → Begins bytes (head_in talk ++ all) → Begins all more → Begins bytes (head ++ more)
out-begins [] bytes all more is h k = subst (λ xs. Begins xs (head ++ more)) (sym is) (head ++ more, refl)
out-begins (x ∷ talk) bytes all more is h k = begins-more bytes (head ++ all) (head ++ more) h (begins-behind head all more k)

head-is : (start run : Run) (talk : List Exchange) → start.stage ≡ New → Leads start talk run → (run.stage ≡ New → ⊥) → head_in talk ≡ head
head-is start run [] new leads begun = absurd (begun (ap (λ (r : Run). r.stage) leads ∙ new))
head-is start run (x ∷ talk) new leads begun = refl

-- Writes

pub front-of : (e : End) (talk : List Exchange) (out note : List ℕ) → Writes e talk out note → Begins out (bytes_in talk) × Begins note (notes_in talk)
front-of Unnoted talk out note w = w
front-of (Told (outcome.Host file fault.Write offset)) talk out note w = w
front-of (Told outcome.Memory) talk out note w = w
front-of (Told (outcome.Host file fault.Doc offset)) talk out note w = (subst (Begins out) w.0 (begins-same out), subst (Begins note) w.1 (begins-same note))
front-of (Told (outcome.Host file fault.Read offset)) talk out note w = (subst (Begins out) w.0 (begins-same out), subst (Begins note) w.1 (begins-same note))
front-of (Told outcome.Done) talk out note w = (subst (Begins out) w.0 (begins-same out), subst (Begins note) w.1 (begins-same note))
front-of (Told outcome.Usage) talk out note w = (subst (Begins out) w.0 (begins-same out), subst (Begins note) w.1 (begins-same note))
front-of (Told (outcome.Sheet why)) talk out note w = (subst (Begins out) w.0 (begins-same out), subst (Begins note) w.1 (begins-same note))
front-of (Told (outcome.Run file code offset)) talk out note w = (subst (Begins out) w.0 (begins-same out), subst (Begins note) w.1 (begins-same note))
front-of (Told (outcome.Xml file why)) talk out note w = (subst (Begins out) w.0 (begins-same out), subst (Begins note) w.1 (begins-same note))
front-of (Told (outcome.Fuel file offset)) talk out note w = (subst (Begins out) w.0 (begins-same out), subst (Begins note) w.1 (begins-same note))

-- What came of the main document

all-came :
    (b : Bool) (handed rest document : List ℕ) → handed ++ rest ≡ document → (b ≡ true → handed ≡ document)
    → came_by b handed (record { bytes = rest; ended = true }) ≡ record { bytes = document; ended = true }
all-came true handed rest document is whole = ap (λ (l : List ℕ). record { bytes = l; ended = true }) (whole refl)
all-came false handed rest document is whole = ap (λ (l : List ℕ). record { bytes = l; ended = true }) is

whole-comes : (main : main_document.Main) (old : Outside) (acts : List Act) (start : Run) (talk : List Exchange) (document : List ℕ) → HandsMain main old acts (main_in start talk) (main_ends start talk) → IsDocument main old document
    → (x : Coming) × (came start talk x ≡ record { bytes = document; ended = true })
whole-comes OfHost old acts start talk document h is =
    let handed = h.2 document is in
    (record { bytes = handed.0.0; ended = true }, all-came (main_ends start talk) (main_in start talk) handed.0.0 document handed.0.1 handed.1)
whole-comes (Sample pieces) old acts start talk document h is =
    let left = h.1 in (
      record { bytes = encode_utf8_all (concat left.0); ended = true },
      all-came (main_ends start talk) (main_in start talk) (encode_utf8_all (concat left.0)) document (left.1 ∙ sym is)
          (λ ended. sym (append-nil (main_in start talk)) ∙ ap (λ (l : List (List ℕ)). main_in start talk ++ encode_utf8_all (concat l)) (sym (left.2 ended)) ∙ left.1 ∙ sym is),
    )

module _ (means : RunsMean) (given : Given) (start : Run) (docs : AreNew given) (is-start : start ≡ at_start given.sheet given.limits start.machine) (runs : IsRunOf given start) (order : InOrder start) where
  new-stage : start.stage ≡ New
  new-stage = ap (λ (r : Run). r.stage) is-start

  main-begun : (r : Run) → r.stage ≡ Main → r.stage ≡ New → ⊥
  main-begun r m n = absurd (both (sym n ∙ m)) where
    both : New ≡ Main → ⊥
    both e = cc

  over-begun : (o : Outcome) (r : Run) → r.stage ≡ Over o → r.stage ≡ New → ⊥
  over-begun o r m n = absurd (both (sym n ∙ m)) where
    both : New ≡ Over o → ⊥
    both e = cc

  -- before a read of the main document
  asked : (told : Option (List ℕ)) (document : List ℕ) (taken : Taken) → told ≡ Some document → IsAsked told start taken → IsSettledOn given (take taken.main_read document) taken
  asked told document taken is a =
      let m : Means given start a.run a.talk = means given start a.run a.talk docs is-start runs order a.leads in
      let settled = m.asks a.asks in
      let begun : head_in a.talk ≡ head = head-is start a.run a.talk new-stage a.leads (main-begun a.run a.asks) in
      let front = a.front document is in
      let read : main_in start a.talk ≡ take taken.main_read document =
      sym (take-append_seam (main_in start a.talk) front.0) ∙ ap (λ n. take n (main_in start a.talk ++ front.0)) a.read ∙ ap (take taken.main_read) front.1 in
      let so_far : came start a.talk nothing_yet ≡ record { bytes = take taken.main_read document; ended = false } =
      ap (λ b. came_by b (main_in start a.talk) nothing_yet) settled.0
      ∙ ap (λ (l : List ℕ). record { bytes = l; ended = false }) (append-nil (main_in start a.talk) ∙ read) in
      record {
        said = m.said;
        needs = subst (λ x. Ends (code given) (meaning given (tree_of given x)) m.said Needs) so_far settled.1;
        out = a.out ∙ subst (λ s. WasSettled s (bytes_in a.talk) (head_in a.talk ++ settled_by nothing m.said)) a.asks m.bytes ∙ ap (λ l. l ++ settled_by nothing m.said) begun;
        note = a.note ∙ subst (λ s. WasSettled s (notes_in a.talk) (lines_of m.said)) a.asks m.notes;
      }

  module _ (main : main_document.Main) (old new : Outside) (ran : Ran) (r : RunsSheet start main old new ran) where
    m : Means given start r.run r.talk
    m = means given start r.run r.talk docs is-start runs order r.leads

    -- what was settled begins what the sheet means
    pub settled : (document : List ℕ) → IsDocument main old document → (said : List Said) (e : Ending) → Ends (code given) (meaning given (tree_of given (record { bytes = document; ended = true }))) said e
        → Begins (bytes_in r.talk) (head ++ settled_by nothing said) × Begins (notes_in r.talk) (lines_of said)
    settled document is said e ends =
        let x = whole-comes main old r.acts start r.talk document r.hands is in
        let first : Begins m.said said = m.begins x.0 said e (subst (λ z. Ends (code given) (meaning given (tree_of given z)) said e) (sym x.1) ends) in (
          out-begins r.talk (bytes_in r.talk) (settled_by nothing m.said) (settled_by nothing said) refl (was-begins r.run.stage (bytes_in r.talk) (head_in r.talk ++ settled_by nothing m.said) m.bytes) (settled-begins m.said said first),
          begins-more (notes_in r.talk) (lines_of m.said) (lines_of said) (was-begins r.run.stage (notes_in r.talk) (lines_of m.said) m.notes) (lines-begin m.said said first),
        )

    -- and so does what was written
    written : (document : List ℕ) → IsDocument main old document → (said : List Said) (e : Ending) → Ends (code given) (meaning given (tree_of given (record { bytes = document; ended = true }))) said e
        → Begins r.out (head ++ settled_by nothing said) × Begins r.note (lines_of said)
    written document is said e ends =
        let all = settled document is said e ends in
        let w = front-of ran.end r.talk r.out r.note r.writes in (
          begins-more r.out (bytes_in r.talk) (head ++ settled_by nothing said) w.0 all.0,
          begins-more r.note (notes_in r.talk) (lines_of said) w.1 all.1,
        )

    -- and where the run ended by itself that is all
    ended : (document : List ℕ) → IsDocument main old document → (o : Outcome) → r.run.stage ≡ Over o → HasEnded (Over o) → ((xs ys : List ℕ) → WasSettled (Over o) xs ys → xs ≡ ys) → ((e : Ending) → EndedAs given.sheet.files (Over o) e → o ≡ told_as given.sheet.files e)
        → (r.out ≡ bytes_in r.talk) → (r.note ≡ notes_in r.talk) → EndsMeaning given document r.out r.note o
    ended document is o over has all told out note =
        let x = whole-comes main old r.acts start r.talk document r.hands is in
        let e = m.ends (subst HasEnded (sym over) has) x.0 in
        let begun : head_in r.talk ≡ head = head-is start r.run r.talk new-stage r.leads (over-begun o r.run over) in
        record {
          said = m.said;
          ending = e.0;
          means = subst (λ z. Ends (code given) (meaning given (tree_of given z)) m.said e.0) x.1 e.1.1;
          out = out ∙ all (bytes_in r.talk) (head_in r.talk ++ settled_by nothing m.said) (subst (λ s. WasSettled s (bytes_in r.talk) (head_in r.talk ++ settled_by nothing m.said)) over m.bytes) ∙ ap (λ l. l ++ settled_by nothing m.said) begun;
          note = note ∙ all (notes_in r.talk) (lines_of m.said) (subst (λ s. WasSettled s (notes_in r.talk) (lines_of m.said)) over m.notes);
          is = told e.0 (subst (λ s. EndedAs given.sheet.files s e.0) over e.1.0);
        }

    ends-as : (document : List ℕ) → IsDocument main old document → (e : End) → EndsBy r.run r.acts r.out e → Writes e r.talk r.out r.note → EndsAsMeant given document r.out r.note e
    ends-as document is Unnoted h w = tt
    ends-as document is (Told (outcome.Host file f offset)) h w = tt
    ends-as document is (Told outcome.Memory) h w = tt
    ends-as document is (Told outcome.Done) h w = ended document is outcome.Done h tt (λ xs ys q. q) (λ e q. q) w.0 w.1
    ends-as document is (Told outcome.Usage) h w = absurd h
    ends-as document is (Told (outcome.Sheet why)) h w = absurd h
    ends-as document is (Told (outcome.Run file code offset)) h w = ended document is (outcome.Run file code offset) h tt (λ xs ys q. q) (λ e q. q) w.0 w.1
    ends-as document is (Told (outcome.Xml file why)) h w = ended document is (outcome.Xml file why) h tt (λ xs ys q. q) (λ e q. q) w.0 w.1
    ends-as document is (Told (outcome.Fuel file offset)) h w = ended document is (outcome.Fuel file offset) h tt (λ xs ys q. q) (λ e q. q) w.0 w.1

    never-wants : (name : List ℕ) → r.run.stage ≡ Wants name → ⊥
    never-wants name is = subst (λ s. InOrderAt s r.run.machine r.run.documents) is m.order

    never-other : r.run.stage ≡ Document → ⊥
    never-other is = subst (λ s. InOrderAt s r.run.machine r.run.documents) is m.order

    none-opened : opens r.acts ≡ []
    none-opened = by r.opened where
      by : OpensNames (λ name. option_and_then (λ docs. place docs name) old.documents) r.run (names_in start r.talk) r.acts → opens r.acts ≡ []
      by (inl is) = is ∙ ap (map (λ name. option_and_then (λ docs. place docs name) old.documents)) m.names
      by (inr is) = absurd (never-wants is.0 is.1)

    never-on-other : (e : End) → EndsBy r.run r.acts r.out e → IsOnOther e → ⊥
    never-on-other (Told (outcome.Host file fault.Doc offset)) h on = fails h where
      fails : FailsOn r.run file offset → ⊥
      fails (inl is) = never-wants file is.0
      fails (inr is) = never-other is.0
    never-on-other (Told (outcome.Host file fault.Read offset)) h on = on
    never-on-other (Told (outcome.Host file fault.Write offset)) h on = on
    never-on-other Unnoted h on = on
    never-on-other (Told outcome.Memory) h on = on
    never-on-other (Told outcome.Done) h on = on
    never-on-other (Told outcome.Usage) h on = on
    never-on-other (Told (outcome.Sheet why)) h on = on
    never-on-other (Told (outcome.Run file code offset)) h on = on
    never-on-other (Told (outcome.Xml file why)) h on = on
    never-on-other (Told (outcome.Fuel file offset)) h on = on

    -- who lacks room for what was settled lacks it for all of that
    lacks-all : (document : List ℕ) → IsDocument main old document → (said : List Said) (e : Ending) → Ends (code given) (meaning given (tree_of given (record { bytes = document; ended = true }))) said e
        → IfFailed ran.end old new (LacksRoom old (needed r.acts (head ++ settled_by nothing said) (lines_of said)))
    lacks-all document is said e ends =
        let all = settled document is said e ends in
        room-at ran.end old new new (LacksRoom old (needed r.acts (bytes_in r.talk) (notes_in r.talk))) (LacksRoom old (needed r.acts (head ++ settled_by nothing said) (lines_of said))) (same-counts new)
        (needs_all old r.acts (bytes_in r.talk) (head ++ settled_by nothing said) (notes_in r.talk) (lines_of said) all.0 all.1) r.room

    kept : KeepsMeaning given main old new r.acts r.out r.note ran.end
    kept = record {
      reads = λ document is k is_read. asked (old.to_come 0) document _ is (r.reads k is_read);
      writes = λ document is. record { begins = written document is; ends = ends-as document is ran.end r.ends r.writes };
      opened = none-opened;
      alone = never-on-other ran.end r.ends;
      room = lacks-all;
    }

pub keeps : RunsMean → RunsKeepMeaning
keeps means given start main old new ran docs is runs order r = kept means given start docs is runs order main old new ran r
