-- What a whole call did, by what its run and its last line did.
use Rattle.std.proofs.Common.{◌≡◌, ◌≢◌, ◌⊎◌, inl, inr, ℕ, ◌<◌, ◌==◌, if◌then◌else◌, Bool, true, false, List, [], ◌∷◌, ◌++◌, length, Option, Some, None, IsSome, arith, refl, sym, ap, ◌∙◌, subst}
use Rattle.std.specs.Option.{option_and_then}
use Rattle.std.proofs.lemmas.Bool.{eqb-true, false≢true}
use Rattle.std.proofs.lemmas.List.{append-nil}
use Rattle.stx_base.specs.Course.{Begins}
use Rattle.command_words.specs.Words.{command_of}
use Rattle.stx_host.specs.Before.{AtMainReads, Between, Taken, main_read, since}
use Rattle.stx_host.specs.Outside.{Outside, Rose, SameCounts, TellsMain, writes}
use Rattle.stx_host.specs.declared.act.Act.{Act}
use Rattle.stx_host.specs.declared.act.Doc.{Doc}
use Rattle.stx_host.specs.declared.act.Lane.TheVariants.{Note}
use Rattle.stx_host.proofs.CopiedSoFar.{since_told}
use Rattle.stx_host.proofs.Stretches.{between_joins, main_reads_writes, main_read-append, main_read-writes}
use Rattle.sheet_loader.specs.Values.{Reads}
use Rattle.sheet_runs.specs.Counts.{CountsBy}
use Rattle.sheet_runs.specs.Reading.{EndOnce, main_gots}
use Rattle.run_engine.specs.Run.{head}
use Rattle.stx_engine.specs.Answer.{Answer, loaded, note_of, runs_none, sheet_named}
use Rattle.stx_engine.specs.Running.{Asks, CountsIn, FailedIn, FailedOn, FailedOnSheet, HasHead, IfDocFailed, IsAnswered, LoadsFirst, OpensNames, RefusesWords, Reports, Runs, RunsAnswered, RunsMain, RunsTold, TakesParts, UnlessFailed, unwritten_status}
use Rattle.stx_engine.specs.Headline.{AsksSettled, BeginsWell, EndsInLine, GivesAnswer, IsFailure, IsPlainStatus, IsStatus, NotesAfterFailure, NotesFailure, NotesItsFailure, OpensFirst, ReadsSheetFirst, ReadsToEnd, RefusesUnnamed, RoseFor, SomeGreater, SomeRose, Tells}
use Rattle.fault_report.specs.Line.{line_of, status_of}
use Rattle.fault_report.specs.declared.outcome.HostFault.{HostFault}
use Rattle.fault_report.specs.declared.outcome.HostFault.TheVariants as fault
use Rattle.fault_report.specs.declared.outcome.Outcome.{Outcome}
use Rattle.fault_report.specs.declared.outcome.Outcome.TheVariants.{Done, Run, Usage, Sheet, Xml, Host, Fuel, Memory}
use Rattle.stx_engine.specs.RunEnd.{line_in, outcome_in, status_in}
use Rattle.stx_engine.specs.declared.run_end.RunEnd.{RunEnd}
use Rattle.stx_engine.specs.declared.run_end.RunEnd.TheVariants.{Told, Sampled, Unnoted}
use Rattle.sheet_runs.proofs.Acting.{gots-writes, none-read, once-same}
use Rattle.stx_engine.proofs.LastLine.{Reported, failed-on-sheet-then, failed-on-then, failed-then, loads-so, loads-then, map_some, note-kept, opens-then, reported, rose_for}
use Rattle.stx_engine.proofs.Prefixes.{begins_after, begins_all, begins_more}
use Rattle.stx_engine.proofs.Ran.{if-doc}

some_rose : (f : HostFault) (old new : Outside) → RoseFor f old new → SomeRose old new
some_rose fault.Doc old new rose = inl rose
some_rose fault.Read old new rose = inr (inl rose)
some_rose fault.Write old new rose = inr (inr (inl rose))

-- documents are told, with the ids that are open
pub told_of : (ids : Option (List ℕ)) (documents : Option (List Doc)) (docs : List Doc) → IsSome ids → documents ≡ Some docs → option_and_then (λ ids. documents) ids ≡ Some docs
told_of None documents docs some e = absurd (false≢true some)
told_of (Some ids) documents docs some e = e

some_noted : (old new : Outside) → Rose old.note_faults new.note_faults → SomeRose old new
some_noted old new rose = inr (inr (inr rose))

-- no outcome that the host or want of memory brings
abbrev IsOwn : Outcome → Type 0
IsOwn (Host file fault offset) = ⊥
IsOwn Memory = ⊥
IsOwn o = Unit {0}

abbrev pub EndsItself : RunEnd → Type 0
EndsItself (Told o) = IsOwn o
EndsItself (Sampled s) = Unit {0}
EndsItself Unnoted = ⊥

answered_by : (o : Outcome) → IsOwn o → (P : Type 0) → UnlessFailed o P → P
answered_by (Host file fault offset) own P p = absurd own
answered_by Memory own P p = absurd own
answered_by Done own P p = p
answered_by Usage own P p = p
answered_by (Sheet reason) own P p = p
answered_by (Run file code offset) own P p = p
answered_by (Xml file fault) own P p = p
answered_by (Fuel file offset) own P p = p

pub answered : (e : RunEnd) → EndsItself e → (P : Type 0) → UnlessFailed (outcome_in e) P → P
answered (Told o) own P p = answered_by o own P p
answered (Sampled s) own P p = p
answered Unnoted own P p = absurd own

-- a status of such an end is neither of these
own_outcome : (o : Outcome) → IsOwn o → (status_of o ≡ 5) ⊎ (status_of o ≡ 7) → ⊥
own_outcome (Host file fault offset) own is = own
own_outcome Memory own is = own
own_outcome Done own is = elim is [ inl e ↦ omega (arith, e) | inr e ↦ omega (arith, e) ]
own_outcome Usage own is = elim is [ inl e ↦ omega (arith, e) | inr e ↦ omega (arith, e) ]
own_outcome (Sheet reason) own is = elim is [ inl e ↦ omega (arith, e) | inr e ↦ omega (arith, e) ]
own_outcome (Run file code offset) own is = elim is [ inl e ↦ omega (arith, e) | inr e ↦ omega (arith, e) ]
own_outcome (Xml file fault) own is = elim is [ inl e ↦ omega (arith, e) | inr e ↦ omega (arith, e) ]
own_outcome (Fuel file offset) own is = elim is [ inl e ↦ omega (arith, e) | inr e ↦ omega (arith, e) ]

pub own_status : (e : RunEnd) → EndsItself e → (status_in e ≡ 5) ⊎ (status_in e ≡ 7) → ⊥
own_status (Told o) own is = own_outcome o own is
own_status (Sampled s) own is = elim is [ inl e ↦ omega (arith, e) | inr e ↦ omega (arith, e) ]
own_status Unnoted own is = own

-- the status of a line that couldn't be written, of an outcome that isn't want of memory
unwritten_five : (n : ℕ) → n ≢ 7 → unwritten_status n ≡ 5
unwritten_five n other = by_test (n == 7) refl where
  by_test : (t : Bool) → (n == 7) ≡ t → ◌≡◌ {A = ℕ} (if t then 7 else 5) 5
  by_test true e = absurd (other (eqb-true n 7 e))
  by_test false e = refl

pub own_unwritten : (e : RunEnd) → EndsItself e → unwritten_status (status_in e) ≡ 5
own_unwritten e own = unwritten_five (status_in e) (λ is. own_status e own (inr is))

-- nothing begins nothing
begins_nothing_is : (xs : List ℕ) → Begins xs [] → xs ≡ []
begins_nothing_is [] b = refl
begins_nothing_is (x ∷ xs) b = let e : (x ∷ xs) ++ b.0 ≡ [] = b.1 in absurd cc

-- statuses are below 8
below_eight : (o : Outcome) → status_of o < 8
below_eight (Host file fault offset) = omega arith
below_eight Memory = omega arith
below_eight Done = omega arith
below_eight Usage = omega arith
below_eight (Sheet reason) = omega arith
below_eight (Run file code offset) = omega arith
below_eight (Xml file fault) = omega arith
below_eight (Fuel file offset) = omega arith

below_in : (e : RunEnd) → status_in e < 8
below_in (Told o) = below_eight o
below_in (Sampled s) = omega arith
below_in Unnoted = omega arith

below_unwritten : (n : ℕ) → unwritten_status n < 8
below_unwritten n = by_test (n == 7) where
  by_test : (t : Bool) → (if t then 7 else 5) < 8
  by_test true = omega arith
  by_test false = omega arith

-- the statuses where the answer is said
plain_outcome : (o : Outcome) → TakesParts o → IsPlainStatus (status_of o)
plain_outcome (Host file fault offset) takes = refl
plain_outcome Memory takes = refl
plain_outcome Done takes = refl
plain_outcome Usage takes = refl
plain_outcome (Sheet reason) takes = refl
plain_outcome (Run file code offset) takes = absurd takes
plain_outcome (Xml file fault) takes = refl
plain_outcome (Fuel file offset) takes = absurd takes

plain_in : (e : RunEnd) → TakesParts (outcome_in e) → IsPlainStatus (status_in e)
plain_in (Told o) takes = plain_outcome o takes
plain_in (Sampled s) takes = refl
plain_in Unnoted takes = refl

plain_unwritten : (n : ℕ) → IsPlainStatus (unwritten_status n)
plain_unwritten n = by_test (n == 7) where
  by_test : (t : Bool) → IsPlainStatus (if t then 7 else 5)
  by_test true = refl
  by_test false = refl

-- the status 0 is that of a run that is done
zero_outcome : (o : Outcome) → status_of o ≡ 0 → o ≡ Done
zero_outcome Done is = refl
zero_outcome Usage is = absurd (omega (arith, is))
zero_outcome (Sheet reason) is = absurd (omega (arith, is))
zero_outcome (Run file code offset) is = absurd (omega (arith, is))
zero_outcome (Xml file fault) is = absurd (omega (arith, is))
zero_outcome (Fuel file offset) is = absurd (omega (arith, is))
zero_outcome (Host file f offset) is = absurd (omega (arith, is))
zero_outcome Memory is = absurd (omega (arith, is))

zero_done : (e : RunEnd) → status_in e ≡ 0 → outcome_in e ≡ Done
zero_done (Told o) is = zero_outcome o is
zero_done (Sampled s) is = refl
zero_done Unnoted is = absurd (omega (arith, is))

unwritten_some : (n : ℕ) → unwritten_status n ≡ 0 → ⊥
unwritten_some n = by_test (n == 7) where
  by_test : (t : Bool) → ◌≡◌ {A = ℕ} (if t then 7 else 5) 0 → ⊥
  by_test true e = omega (arith, e)
  by_test false e = omega (arith, e)

-- words that name a sheet aren't refused
not_none : (o : Option (List ℕ)) → IsSome o → o ≡ None → ⊥
not_none None some none = absurd cc
not_none (Some name) some none = cc

two_outcome : (words : List (List ℕ)) (o : Outcome) → RefusesWords words (Told o) → status_of o ≡ 2 → sheet_named words ≡ None
two_outcome words Usage refuses two = refuses
two_outcome words Memory refuses two = absurd (omega (arith, two))
two_outcome words Done refuses two = absurd (omega (arith, two))
two_outcome words (Sheet reason) refuses two = absurd (omega (arith, two))
two_outcome words (Run file code offset) refuses two = absurd (omega (arith, two))
two_outcome words (Xml file fault) refuses two = absurd (omega (arith, two))
two_outcome words (Fuel file offset) refuses two = absurd (omega (arith, two))
two_outcome words (Host file f offset) refuses two = absurd (omega (arith, two))

two_none : (words : List (List ℕ)) (e : RunEnd) → RefusesWords words e → status_in e ≡ 2 → sheet_named words ≡ None
two_none words (Told o) refuses two = two_outcome words o refuses two
two_none words (Sampled s) refuses two = absurd (omega (arith, two))
two_none words Unnoted refuses two = absurd (omega (arith, two))

none_outcome : (words : List (List ℕ)) (o : Outcome) → RefusesWords words (Told o) → status_of o ≢ 7 → sheet_named words ≡ None → status_of o ≡ 2
none_outcome words Usage refuses memory none = refl
none_outcome words Memory refuses memory none = absurd (memory refl)
none_outcome words Done refuses memory none = absurd (not_none (sheet_named words) refuses none)
none_outcome words (Sheet reason) refuses memory none = absurd (not_none (sheet_named words) refuses none)
none_outcome words (Run file code offset) refuses memory none = absurd (not_none (sheet_named words) refuses none)
none_outcome words (Xml file fault) refuses memory none = absurd (not_none (sheet_named words) refuses none)
none_outcome words (Fuel file offset) refuses memory none = absurd (not_none (sheet_named words) refuses none)
none_outcome words (Host file f offset) refuses memory none = absurd (not_none (sheet_named words) refuses none)

none_two : (words : List (List ℕ)) (e : RunEnd) → RefusesWords words e → status_in e ≢ 7 → sheet_named words ≡ None → status_in e ≡ 2
none_two words (Told o) refuses memory none = none_outcome words o refuses memory none
none_two words (Sampled s) refuses memory none = absurd (not_none (sheet_named words) refuses none)
none_two words Unnoted refuses memory none = absurd (not_none (sheet_named words) refuses none)

-- and no count changed
own_counts : (old mid : Outside) (o : Outcome) → IsOwn o → CountsBy o old mid → SameCounts old mid
own_counts old mid (Host file f offset) own by = absurd own
own_counts old mid Memory own by = absurd own
own_counts old mid Done own by = by
own_counts old mid Usage own by = by
own_counts old mid (Sheet reason) own by = by
own_counts old mid (Run file code offset) own by = by
own_counts old mid (Xml file fault) own by = by
own_counts old mid (Fuel file offset) own by = by

pub own_same : (old mid : Outside) (e : RunEnd) → EndsItself e → CountsIn e old mid → SameCounts old mid
own_same old mid (Told o) own by = own_counts old mid o own by
own_same old mid (Sampled s) own by = by
own_same old mid Unnoted own by = absurd own

module _ (words : List (List ℕ)) (old mid new : Outside) (end : RunEnd) (r : Runs words old mid end) (result : ℕ) (reports : Reports mid (line_in end) (status_in end) new result) where
  abbrev line : Reported mid new (line_in end) (status_in end) result
  line = reported mid new (line_in end) (status_in end) result reports

  abbrev acts : List Act
  acts = r.acts ++ writes Note line.lens

  abbrev note : List ℕ
  note = r.note ++ line.note

  between : Between old new acts r.out note
  between = subst (λ out. Between old new acts out note) (append-nil r.out) (between_joins old mid new r.acts (writes Note line.lens) r.out [] r.note line.note r.between line.between)

  pub gives_ids_back : new.open_ids ≡ old.open_ids
  gives_ids_back = line.ids ∙ r.ids

  -- an outcome that the host or want of memory brings, on whichever document
  abbrev Fails : Outcome → Type 0
  Fails o = IsFailure (λ file offset. Unit {0}) old new acts r.out o

  -- the end is a failure's, the run's own, or `Note` failed
  abbrev Ended : RunEnd → Type 0
  Ended e = ((o : Outcome) × ((e ≡ Told o) × Fails o)) ⊎ (EndsItself e ⊎ ((e ≡ Unnoted) × Rose old.note_faults mid.note_faults))

  host_ended : (f : HostFault) (file : List ℕ) (offset : ℕ) → CountsBy (Host file f offset) old mid → FailedIn (Host file f offset) r.acts r.out → Fails (Host file f offset)
  host_ended fault.Doc file offset by failed = (rose_for fault.Doc old mid new line.doc line.main line.out file offset by, tt)
  host_ended fault.Read file offset by failed = (rose_for fault.Read old mid new line.doc line.main line.out file offset by, failed-then fault.Read file offset r.acts line.lens r.out failed)
  host_ended fault.Write file offset by failed = (rose_for fault.Write old mid new line.doc line.main line.out file offset by, failed-then fault.Write file offset r.acts line.lens r.out failed)

  outcome_ended : (o : Outcome) → CountsBy o old mid → FailedIn o r.acts r.out → Ended (Told o)
  outcome_ended (Host file f offset) by failed = inl (Host file f offset, (refl, host_ended f file offset by failed))
  outcome_ended Memory by failed = inl (Memory, (refl, tt))
  outcome_ended Done by failed = inr (inl tt)
  outcome_ended Usage by failed = inr (inl tt)
  outcome_ended (Sheet reason) by failed = inr (inl tt)
  outcome_ended (Run file code offset) by failed = inr (inl tt)
  outcome_ended (Xml file fault) by failed = inr (inl tt)
  outcome_ended (Fuel file offset) by failed = inr (inl tt)

  ended : (e : RunEnd) → CountsIn e old mid → FailedIn (outcome_in e) r.acts r.out → Ended e
  ended (Told o) by failed = outcome_ended o by failed
  ended (Sampled s) by failed = inr (inl tt)
  ended Unnoted by failed = inr (inr (refl, by.0))

  is_ended : Ended end
  is_ended = ended end r.counts r.failed

  -- where the line isn't whole, `Note` failed
  cut_rose : Rose mid.note_faults new.note_faults → 0 < length (line_in end) → Rose old.note_faults new.note_faults
  cut_rose rose some = subst (λ n. Rose n new.note_faults) (note-kept end old mid r.counts some) rose

  later_rose : new.note_faults ≡ mid.note_faults → Rose old.note_faults mid.note_faults → Rose old.note_faults new.note_faults
  later_rose same rose = subst (Rose old.note_faults) (sym same) rose

  status_is : (result ≡ status_in end) ⊎ (result ≡ unwritten_status (status_in end))
  status_is = elim line.end [ inl whole ↦ inl whole.1 | inr cut ↦ inr cut.1 ]

  -- what is so of a status, and of one whose line couldn't be written, is so of the result
  of_status : (P : ℕ → Type 0) → P (status_in end) → P (unwritten_status (status_in end)) → P result
  of_status P here there = elim status_is [ inl e ↦ subst P (sym e) here | inr e ↦ subst P (sym e) there ]

  -- a failure keeps its status where its line can't be written
  failure_kept : (o : Outcome) → Fails o → unwritten_status (status_of o) ≡ status_of o
  failure_kept (Host file f offset) failure = refl
  failure_kept Memory failure = refl
  failure_kept Done failure = absurd failure
  failure_kept Usage failure = absurd failure
  failure_kept (Sheet reason) failure = absurd failure
  failure_kept (Run file code offset) failure = absurd failure
  failure_kept (Xml file fault) failure = absurd failure
  failure_kept (Fuel file offset) failure = absurd failure

  failure_status : (o : Outcome) → end ≡ Told o → Fails o → result ≡ status_of o
  failure_status o is failure = elim status_is [ inl e ↦ e ∙ ap status_in is | inr e ↦ e ∙ ap (λ x. unwritten_status (status_in x)) is ∙ failure_kept o failure ]

  failure_count : (f : HostFault) (file : List ℕ) (offset : ℕ) → Fails (Host file f offset) → SomeRose old new
  failure_count fault.Doc file offset failure = some_rose fault.Doc old new failure.0
  failure_count fault.Read file offset failure = some_rose fault.Read old new failure.0
  failure_count fault.Write file offset failure = some_rose fault.Write old new failure.0

  -- where no count rose, the host didn't fail
  failure_rose : (o : Outcome) → Fails o → (SomeRose old new → ⊥) → status_of o ≡ 7
  failure_rose (Host file f offset) failure none = absurd (none (failure_count f file offset failure))
  failure_rose Memory failure none = refl
  failure_rose Done failure none = absurd failure
  failure_rose Usage failure none = absurd failure
  failure_rose (Sheet reason) failure none = absurd failure
  failure_rose (Run file code offset) failure none = absurd failure
  failure_rose (Xml file fault) failure none = absurd failure
  failure_rose (Fuel file offset) failure none = absurd failure

  failure_five : (o : Outcome) → Fails o → status_of o ≡ 5 → SomeRose old new
  failure_five (Host file f offset) failure five = failure_count f file offset failure
  failure_five Memory failure five = absurd (omega (arith, five))
  failure_five Done failure five = absurd failure
  failure_five Usage failure five = absurd failure
  failure_five (Sheet reason) failure five = absurd failure
  failure_five (Run file code offset) failure five = absurd failure
  failure_five (Xml file fault) failure five = absurd failure
  failure_five (Fuel file offset) failure five = absurd failure

  failure_either : (o : Outcome) → Fails o → (status_of o ≡ 5) ⊎ (status_of o ≡ 7)
  failure_either (Host file f offset) failure = inl refl
  failure_either Memory failure = inr refl
  failure_either Done failure = absurd failure
  failure_either Usage failure = absurd failure
  failure_either (Sheet reason) failure = absurd failure
  failure_either (Run file code offset) failure = absurd failure
  failure_either (Xml file fault) failure = absurd failure
  failure_either (Fuel file offset) failure = absurd failure

  -- `Note` failed before the line, which is none
  unnoted_status : end ≡ Unnoted → result ≡ 5
  unnoted_status is = elim status_is [ inl e ↦ e ∙ ap status_in is | inr e ↦ e ∙ ap (λ x. unwritten_status (status_in x)) is ]

  unnoted_rose : end ≡ Unnoted → Rose old.note_faults mid.note_faults → Rose old.note_faults new.note_faults
  unnoted_rose is rose = elim line.end [
    | inl whole ↦ later_rose whole.2 rose
    | inr cut ↦ cut_rose cut.2 cut.3
  ]

  -- unless the status is that of a failure
  not_failed : (P : Type 0) → UnlessFailed (outcome_in end) P → result ≢ 5 → result ≢ 7 → P
  not_failed P p five seven = elim is_ended [
    | inl f ↦ absurd (elim (failure_either f.0 f.1.1) [ inl e ↦ five (failure_status f.0 f.1.0 f.1.1 ∙ e) | inr e ↦ seven (failure_status f.0 f.1.0 f.1.1 ∙ e) ])
    | inr other ↦ elim other [ inl own ↦ answered end own P p | inr u ↦ absurd (five (unnoted_status u.0)) ]
  ]

  pub refuses_unnamed : RefusesUnnamed old new words result
  refuses_unnamed none memory = elim line.end [
    | inl whole ↦ (
      λ two. two_none words end r.refuses (sym whole.1 ∙ two),
      λ unnamed. whole.1 ∙ none_two words end r.refuses (λ seven. memory (whole.1 ∙ seven)) unnamed,
    )
    | inr cut ↦ absurd (none (some_noted old new (cut_rose cut.2 cut.3)))
  ]

  -- 5 comes only where a count rose
  five_rose : result ≡ 5 → SomeRose old new
  five_rose five = elim is_ended [
    | inl f ↦ failure_five f.0 f.1.1 (sym (failure_status f.0 f.1.0 f.1.1) ∙ five)
    | inr other ↦ elim other [
      | inl own ↦ elim line.end [
        | inl whole ↦ absurd (own_status end own (inl (sym whole.1 ∙ five)))
        | inr cut ↦ some_noted old new (cut_rose cut.2 cut.3)
      ]
      | inr u ↦ some_noted old new (unnoted_rose u.0 u.1)
    ]
  ]

  -- where no count changed before, and the line is whole, none became greater
  none_greater : SameCounts old mid → new.note_faults ≡ mid.note_faults → SomeGreater old new → ⊥
  none_greater same note (inl h) = omega (arith, h, line.doc, same.doc)
  none_greater same note (inr (inl h)) = omega (arith, h, line.main, same.main)
  none_greater same note (inr (inr (inl h))) = omega (arith, h, line.out, same.out)
  none_greater same note (inr (inr (inr h))) = omega (arith, h, note, same.note)

  greater_five : SomeGreater old new → (result ≡ 5) ⊎ (result ≡ 7)
  greater_five greater = elim is_ended [
    | inl f ↦ let is = failure_status f.0 f.1.0 f.1.1 in elim (failure_either f.0 f.1.1) [ inl e ↦ inl (is ∙ e) | inr e ↦ inr (is ∙ e) ]
    | inr other ↦ elim other [
      | inl own ↦ elim line.end [
        | inl whole ↦ absurd (none_greater (own_same old mid end own r.counts) whole.2 greater)
        | inr cut ↦ inl (cut.1 ∙ own_unwritten end own)
      ]
      | inr u ↦ inl (unnoted_status u.0)
    ]
  ]

  pub is_status : IsStatus old new words result
  is_status = record {
    some = of_status (λ n. n < 8) (below_in end) (below_unwritten (status_in end));
    plain = λ no_run. of_status IsPlainStatus (plain_in end (r.takes no_run)) (plain_unwritten (status_in end));
    five = five_rose;
    greater = greater_five;
  }

  -- where it is known of the document on which it failed, the same outcome is a failure there
  failed_there : (P : (file : List ℕ) → (offset : ℕ) → Type 0) (o : Outcome) → IfDocFailed o P → Fails o → IsFailure P old new acts r.out o
  failed_there P (Host file fault.Doc offset) there failure = (failure.0, there)
  failed_there P (Host file fault.Read offset) there failure = failure
  failed_there P (Host file fault.Write offset) there failure = failure
  failed_there P Memory there failure = tt
  failed_there P Done there failure = absurd failure
  failed_there P Usage there failure = absurd failure
  failed_there P (Sheet reason) there failure = absurd failure
  failed_there P (Run file code offset) there failure = absurd failure
  failed_there P (Xml file fault) there failure = absurd failure
  failed_there P (Fuel file offset) there failure = absurd failure

  module _ (main : List ℕ) (tells : TellsMain old main) where
    on_main : RunsMain words main r.acts r.ended r.out r.note end
    on_main = r.main_told main tells.main_document

    log_is : since old.log new.log ≡ acts
    log_is = since_told old.log new.log acts tells.log between.log

    out_is : since old.out new.out ≡ r.out
    out_is = since_told old.out new.out r.out tells.out between.out_lane

    note_is : since old.note new.note ≡ note
    note_is = since_told old.note new.note note tells.note between.note_lane

    -- what is so before each read stays so
    reads_later : (P : Taken → Type 0) → AtMainReads r.acts r.out r.note P → AtMainReads (since old.log new.log) (since old.out new.out) (since old.note new.note) P
    reads_later P reads =
        let here : AtMainReads acts (r.out ++ []) note P = main_reads_writes r.acts Note line.lens r.out [] r.note line.note P r.between.out_written r.between.note_written reads in
        subst (λ log. AtMainReads log (since old.out new.out) (since old.note new.note) P) (sym log_is)
        (subst (λ out. AtMainReads acts out (since old.note new.note) P) (append-nil r.out ∙ sym out_is)
        (subst (λ note. AtMainReads acts (r.out ++ []) note P) (sym note_is) here))

    pub begins_well : BeginsWell old new result
    begins_well = record {
      out = λ five seven. subst (λ out. (out ≡ []) ⊎ Begins head out) (sym out_is) (not_failed ((r.out ≡ []) ⊎ Begins head r.out) on_main.begins five seven);
      reads = reads_later HasHead on_main.asks;
    }

    pub reads_to_end : ReadsToEnd old new words main result
    reads_to_end = (
      r.ended,
      subst (λ log. EndOnce r.ended (main_gots log)) (sym log_is) (once-same r.ended r.acts (writes Note line.lens) (gots-writes Note line.lens) r.once),
      λ asks zero.
          let done : outcome_in end ≡ Done = elim status_is [ inl e ↦ zero_done end (sym e ∙ zero) | inr e ↦ absurd (unwritten_some (status_in end) (sym e ∙ zero)) ] in
          let all = on_main.all asks done in
          (all.0, ap main_read log_is ∙ omega (arith, main_read-append r.acts (writes Note line.lens), main_read-writes Note line.lens, all.1)),
    )

  module _ (docs : List Doc) (main : List ℕ) (tells : Tells old docs main) where
    abbrev on : TellsMain old main
    on = record { main_document = tells.main_document; log = tells.log; out = tells.out; note = tells.note }

    told : RunsTold words docs r.acts end
    told = r.told docs (told_of old.open_ids old.documents docs tells.open_ids tells.documents)

    -- what documents were opened, by the status
    opens_by_status : (names : List (List ℕ)) (acts : List Act) → OpensNames docs names (outcome_in end) acts → OpensFirst docs names result acts
    opens_by_status names opening n = (n.0, n.1, n.2, λ five seven. not_failed (n.0 ≡ names) n.3 five seven)

    pub reads_sheet_first : (reads : Reads) → ReadsSheetFirst old new reads words docs result
    reads_sheet_first reads =
        let none_run : Bool = runs_none reads words docs in
        map_some (command_of words) (λ c. LoadsFirst reads docs c.sheet (OpensNames docs (loaded reads docs c).opened (outcome_in end)) none_run r.acts)
        (λ c. LoadsFirst reads docs c.sheet (OpensFirst docs (loaded reads docs c).opened result) none_run (since old.log new.log))
        (λ c h.
        let names = (loaded reads docs c).opened in
        subst (LoadsFirst reads docs c.sheet (OpensFirst docs names result) none_run) (sym (log_is main on))
        (loads-then reads docs c.sheet (OpensFirst docs names result) none_run r.acts (writes Note line.lens) (none-read Note line.lens)
        (loads-so reads docs c.sheet (OpensNames docs names (outcome_in end)) (OpensFirst docs names result) none_run r.acts (opens_by_status names) h))) (told.sheet reads)

    pub is_plain : (reads : Reads) → runs_none reads words docs ≡ true → IsPlainStatus result
    is_plain reads none_run = of_status IsPlainStatus (plain_in end (told.takes reads none_run)) (plain_unwritten (status_in end))

    pub ends_in_line : (reads : Reads) → EndsInLine old new reads words docs result
    ends_in_line reads none memory = elim line.end [
      | inl whole ↦ (r.note, end, sym whole.1, note_is main on ∙ ap (λ l. r.note ++ l) whole.0, told.own reads)
      | inr cut ↦ absurd (none (some_noted old new (cut_rose cut.2 cut.3)))
    ]

    -- the status 5 or 7 of a line that was written whole is a failure's
    whole_failure : (line.note ≡ line_in end) × (result ≡ status_in end) × (new.note_faults ≡ mid.note_faults) → (result ≡ 5) ⊎ (result ≡ 7) → (Rose old.note_faults new.note_faults → ⊥)
        → (o : Outcome) × ((end ≡ Told o) × Fails o × (status_of o ≡ result) × (line.note ≡ line_of o))
    whole_failure whole some kept = elim is_ended [
      | inl f ↦ (f.0, (f.1.0, f.1.1, sym (failure_status f.0 f.1.0 f.1.1), whole.0 ∙ ap line_in f.1.0))
      | inr other ↦ elim other [
        | inl own ↦ absurd (own_status end own (elim some [ inl e ↦ inl (sym whole.1 ∙ e) | inr e ↦ inr (sym whole.1 ∙ e) ]))
        | inr u ↦ absurd (kept (unnoted_rose u.0 u.1))
      ]
    ]

    -- the same, of the lanes and the log
    failure_is : (On : List Act → (file : List ℕ) → (offset : ℕ) → Type 0) (o : Outcome) → IsFailure (On acts) old new acts r.out o
        → let log = since old.log new.log in IsFailure (On log) old new log (since old.out new.out) o
    failure_is On o f =
        subst (λ log. IsFailure (On log) old new log (since old.out new.out) o) (sym (log_is main on)) (subst (λ out. IsFailure (On acts) old new acts out o) (sym (out_is main on)) f)

    -- on which document it failed is known of the run's end
    there : (P Q : (file : List ℕ) → (offset : ℕ) → Type 0) → ((file : List ℕ) (offset : ℕ) → P file offset → Q file offset) → IfDocFailed (outcome_in end) P
        → (o : Outcome) → end ≡ Told o → Fails o → IsFailure Q old new acts r.out o
    there P Q so known o is failure = failed_there Q o (if-doc o P Q so (subst (λ e. IfDocFailed (outcome_in e) P) is known)) failure

    pub notes_its_failure : (reads : Reads) → NotesItsFailure old new reads words docs result
    notes_its_failure reads some kept = elim line.end [
      | inl whole ↦
          let f = whole_failure whole some kept in (
            r.note,
            f.0,
            failure_is (FailedOn reads words docs) f.0
                (there (FailedOn reads words docs r.acts) (FailedOn reads words docs acts) (failed-on-then reads words docs r.acts line.lens) (told.failed reads) f.0 f.1.0 f.1.1),
            f.1.2,
            note_is main on ∙ ap (λ l. r.note ++ l) f.1.3,
          )
      | inr cut ↦ absurd (kept (cut_rose cut.2 cut.3))
    ]

    -- What is so where the answer is said
    module _ (reads : Reads) (a : Answer) (o : RunsAnswered reads words docs main old mid end a) where
      same-acts : r.acts ≡ o.acts
      same-acts = sym (since_told old.log mid.log r.acts tells.log r.between.log) ∙ since_told old.log mid.log o.acts tells.log o.between.log

      same-out : r.out ≡ o.out
      same-out = sym (since_told old.out mid.out r.out tells.out r.between.out_lane) ∙ since_told old.out mid.out o.out tells.out o.between.out_lane

      same-note : r.note ≡ o.note
      same-note = sym (since_told old.note mid.note r.note tells.note r.between.note_lane) ∙ since_told old.note mid.note o.note tells.note o.between.note_lane

      abbrev AsksHere : Taken → Type 0
      AsksHere = Asks reads words docs main

      asked-so : AtMainReads r.acts r.out r.note AsksHere
      asked-so =
          subst (λ acts. AtMainReads acts r.out r.note AsksHere) (sym same-acts)
          (subst (λ out. AtMainReads o.acts out r.note AsksHere) (sym same-out) (subst (λ note. AtMainReads o.acts o.out note AsksHere) (sym same-note) o.asks))

      opened-so : OpensNames docs a.opened (outcome_in end) r.acts
      opened-so = subst (OpensNames docs a.opened (outcome_in end)) (sym same-acts) o.opened

      failed-so : IfDocFailed (outcome_in end) (FailedOnSheet reads words docs r.acts)
      failed-so = subst (λ acts. IfDocFailed (outcome_in end) (FailedOnSheet reads words docs acts)) (sym same-acts) o.failed

      messages-so : Begins r.note a.messages
      messages-so = subst (λ note. Begins note a.messages) (sym same-note) o.begins.1

      -- an end of its own is the answer's
      own-note : EndsItself end → r.note ++ line_in end ≡ note_of a
      own-note own = let same = answered end own (IsAnswered o.out o.note end a) o.ends in ap (λ l. l ++ line_in end) (same-note ∙ same.messages) ∙ ap (λ e. a.messages ++ line_in e) same.is

      pub gives_answer : GivesAnswer old new result a
      gives_answer none memory = elim line.end [
        | inl all ↦ elim is_ended [
          | inl f ↦ absurd (memory (failure_status f.0 f.1.0 f.1.1 ∙ failure_rose f.0 f.1.1 none))
          | inr other ↦ elim other [
            | inl own ↦
                let same = answered end own (IsAnswered o.out o.note end a) o.ends in (
                  out_is main on ∙ same-out ∙ same.output,
                  note_is main on ∙ ap (λ l. r.note ++ l) all.0 ∙ own-note own,
                  all.1 ∙ ap status_in same.is,
                )
            | inr u ↦ absurd (none (some_noted old new (unnoted_rose u.0 u.1)))
          ]
        ]
        | inr cut ↦ absurd (none (some_noted old new (cut_rose cut.2 cut.3)))
      ]

      pub asks_settled : AsksSettled old new reads words docs main
      asks_settled = reads_later main on AsksHere asked-so

      pub begins_output : Begins (since old.out new.out) a.out
      begins_output = subst (λ out. Begins out a.out) (sym (out_is main on ∙ same-out)) o.begins.0

      pub opens_first : OpensFirst docs a.opened result (since old.log new.log)
      opens_first =
          subst (OpensFirst docs a.opened result) (sym (log_is main on))
          (opens_by_status a.opened acts (opened-so.0, opened-so.1, opens-then r.acts line.lens ∙ opened-so.2, opened-so.3))

      begins_line : Begins line.note (line_in end)
      begins_line = elim line.end [ inl whole ↦ subst (λ note. Begins note (line_in end)) (sym whole.0) (begins_all (line_in end)) | inr cut ↦ cut.0 ]

      -- the status of an answer whose line was cut
      own_five : EndsItself end → (result ≡ 5) ⊎ (result ≡ 7) → result ≡ 5
      own_five own some = elim status_is [
        | inl e ↦ absurd (own_status end own (elim some [ inl f ↦ inl (sym e ∙ f) | inr f ↦ inr (sym e ∙ f) ]))
        | inr e ↦ e ∙ own_unwritten end own
      ]

      -- it failed where the sheet was read
      abbrev Is : Outcome → Type 0
      Is p = let log = since old.log new.log in IsFailure (FailedOnSheet reads words docs log) old new log (since old.out new.out) p

      fails-so : (p : Outcome) → end ≡ Told p → Fails p → Is p
      fails-so p ended failure =
          failure_is (FailedOnSheet reads words docs) p
          (there (FailedOnSheet reads words docs r.acts) (FailedOnSheet reads words docs acts) (failed-on-sheet-then reads words docs r.acts line.lens) failed-so p ended failure)

      -- nothing follows where `Note` failed before the line
      none-behind : end ≡ Unnoted → Begins note (note_of a)
      none-behind is =
          let none : line.note ≡ [] = begins_nothing_is line.note (subst (λ e. Begins line.note (line_in e)) is begins_line) in
          subst (λ l. Begins (r.note ++ l) (note_of a)) (sym none) (subst (λ n. Begins n (note_of a)) (sym (append-nil r.note)) (begins_more r.note a.messages (line_in a.end) messages-so))

      notes : (result ≡ 5) ⊎ (result ≡ 7) → NotesFailure Is old new note result a
      notes some = record {
        whole = λ kept. elim line.end [
          | inl all ↦ let f = whole_failure all some kept in (r.note, messages-so, f.0, fails-so f.0 f.1.0 f.1.1, f.1.2, ap (λ l. r.note ++ l) f.1.3)
          | inr cut ↦ absurd (kept (cut_rose cut.2 cut.3))
        ];
        cut = λ rose. elim is_ended [
          | inl f ↦
              inr (r.note, messages-so, f.0, fails-so f.0 f.1.0 f.1.1, sym (failure_status f.0 f.1.0 f.1.1), line.note, subst (λ e. Begins line.note (line_in e)) f.1.0 begins_line, refl)
          | inr other ↦ elim other [
            | inl own ↦ inl (own_five own some, subst (Begins note) (own-note own) (begins_after r.note line.note (line_in end) begins_line))
            | inr u ↦ inl (unnoted_status u.0, none-behind u.0)
          ]
        ];
      }

      pub notes_failure : NotesAfterFailure old new reads words docs result a
      notes_failure some = subst (λ n. NotesFailure Is old new n result a) (sym (note_is main on)) (notes some)
