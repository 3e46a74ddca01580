-- How a run comes to its end.
use Rattle.std.proofs.Common.{◌≡◌, ℕ, ◌+◌, ◌<◌, Bool, true, false, List, [], ◌∷◌, ◌++◌, length, map, take, drop, sum, Option, Some, None, IsSome, inl, inr, refl, sym, ap, subst, ◌∙◌, arith, append_assoc, length-append, length-take}
use Rattle.std.specs.Prelude.{◌⊎◌, Err, IsErrAnd, Ok, codes}
use Rattle.std.specs.declared.result.Result.{Result}
use Rattle.std.proofs.lemmas.Bool.{false≢true}
use Rattle.std.specs.Option.{option_and_then}
use Rattle.std.proofs.lemmas.List.{append-nil, length-map, map-append, take-append-drop}
use Rattle.stx_base.specs.Course.{Begins}
use Rattle.stx_host.specs.Before.{AtMainReads, Between, main_read}
use Rattle.stx_host.proofs.Lacking.{needs_for, openings-append}
use Rattle.stx_host.specs.Rooms.{needed}
use Rattle.stx_host.specs.Outside.{Closes, DocFault, LacksRoom, MainFault, MayOpen, NoteFault, Opens, OutFault, Outside, ReadFault, Rose, SameCounts, and_more, for_act, for_id, for_writes, place, wrote, writes}
use Rattle.stx_host.specs.declared.act.Act.{Act}
use Rattle.stx_host.specs.declared.act.Act.TheVariants.{Close, Open as OpenAct, Write}
use Rattle.stx_host.specs.declared.act.Got.TheVariants.{Failed as Unread}
use Rattle.stx_host.specs.declared.act.Lane.TheVariants.{Note, Out}
use Rattle.stx_host.specs.declared.act.Opened.TheVariants.{Failed as Unopened, Id}
use Rattle.stx_host.proofs.Stretches.{between_fault, between_joins, between_open, between_read, between_writes, main_read-append, main_read-writes, main_reads_one, main_reads_writes, between_close}
use Rattle.fault_report.specs.declared.outcome.HostFault.{HostFault}
use Rattle.fault_report.specs.declared.outcome.HostFault.TheVariants as fault
use Rattle.fault_report.specs.declared.outcome.Outcome.{Outcome}
use Rattle.fault_report.specs.declared.outcome.Outcome.TheVariants as outcome
use Rattle.run_engine.specs.Run as spec
use Rattle.run_engine.specs.Run.{CanStop, Open, Run, Says, Stage, StandsAt, outcome_in}
use Rattle.run_engine.specs.declared.piece.Pumped.{Pumped}
use Rattle.run_engine.specs.declared.piece.Pumped.TheVariants as pumped
use Rattle.sheet_runs.specs.Counts.{CountsAt, CountsBy, FailsBy, IfFailed}
use Rattle.sheet_runs.specs.Reading.{ReadsOpened}
use Rattle.sheet_runs.specs.Runs.{EndsBy, HandsMain, HandsOthers, IsAsked, NewestIs, OpensNames, RunsSheet, Writes, WritesAll, WritesFront}
use Rattle.sheet_runs.specs.Talk.{Exchange, Leads, beside_in, bytes_in, main_ends, main_in, names_in, none_beside, notes_in}
use Rattle.sheet_runs.specs.Writing.{counted}
use Rattle.sheet_runs.specs.declared.main_document.Main.{Main}
use Rattle.sheet_runs.specs.declared.main_document.Main.TheVariants.{Host as OfHost, Sample}
use Rattle.sheet_runs.specs.declared.other.Other.{Other}
use Rattle.sheet_runs.specs.declared.run.End.{End}
use Rattle.sheet_runs.specs.declared.run.End.TheVariants.{Told, Unnoted}
use Rattle.sheet_runs.specs.declared.run.Ran.{Ran}
use Rattle.sheet_runs.specs.declared.running.Halt.{Halt}
use Rattle.sheet_runs.specs.declared.running.Halt.TheVariants as halt
use Rattle.sheet_runs.specs.declared.running.Running.{Running}
use Rattle.sheet_runs.specs.inside.Running.{AreHeld, Driving, Halted, HaltsAs, HandsOn, IsTied, IsWritten, UnlessLacking, WroteTo, all_going, going_in, going_of, ids_of, place_in}
use Rattle.sheet_runs.proofs.Acting.{alone-then, between-acts, between-nothing, none-read, none-then, once-same, gots-writes, none-writes, opens-nothing, opens-writes}
use Rattle.sheet_runs.proofs.Besides.{as-told}
use Rattle.sheet_runs.proofs.Documents.{all-more, lasts, not-empty}
use Rattle.sheet_runs.proofs.Ids.{last-closed, last-open, more-held}
use Rattle.sheet_runs.proofs.Others.{quiet-close, quiet-open, quiet-so-far}
use Rattle.sheet_runs.proofs.Lacking.{lacked}
use Rattle.sheet_runs.proofs.Feeding.{at-main, at-other, read-count}
use Rattle.sheet_runs.proofs.Stepping.{counted-more, counts-then, hands-of, hands-still}

-- What is written in the end

begins-all : (xs : List ℕ) → Begins xs xs
begins-all xs = ([], append-nil xs)

fronts : (talk : List Exchange) (out note : List ℕ) → WritesAll talk out note → WritesFront talk out note
fronts talk out note all = (subst (Begins out) all.0 (begins-all out), subst (Begins note) all.1 (begins-all note))

pub writes-all : (end : End) (talk : List Exchange) (out note : List ℕ) → WritesAll talk out note → Writes end talk out note
writes-all (Told (outcome.Host file fault.Write offset)) talk out note all = fronts talk out note all
writes-all (Told (outcome.Host file fault.Read offset)) talk out note all = all
writes-all (Told (outcome.Host file fault.Doc offset)) talk out note all = all
writes-all (Told outcome.Memory) talk out note all = fronts talk out note all
writes-all (Told outcome.Done) talk out note all = all
writes-all (Told (outcome.Run file code offset)) talk out note all = all
writes-all (Told outcome.Usage) talk out note all = all
writes-all (Told (outcome.Sheet why)) talk out note all = all
writes-all (Told (outcome.Xml file why)) talk out note all = all
writes-all (Told (outcome.Fuel file offset)) talk out note all = all
writes-all Unnoted talk out note all = fronts talk out note all

-- no failure of the host
counts-same : (o : Outcome) → ((file : List ℕ) (f : HostFault) (offset : ℕ) → o ≡ outcome.Host file f offset → ⊥) → (old new : Outside) → SameCounts old new → CountsBy o old new
counts-same (outcome.Host file f offset) none old new same = absurd (none file f offset refl)
counts-same outcome.Memory none old new same = same.note
counts-same outcome.Done none old new same = same
counts-same (outcome.Run file code offset) none old new same = same
counts-same outcome.Usage none old new same = same
counts-same (outcome.Sheet why) none old new same = same
counts-same (outcome.Xml file why) none old new same = same
counts-same (outcome.Fuel file offset) none old new same = same

-- where it ended by itself there is nothing to be shown but that
unfailed : (o : Outcome) → ((file : List ℕ) (f : HostFault) (offset : ℕ) → o ≡ outcome.Host file f offset → ⊥) → (old new : Outside) (P : Type 0) → SameCounts old new → IfFailed (Told o) old new P
unfailed (outcome.Host file f offset) none old new P same = absurd (none file f offset refl)
unfailed outcome.Memory none old new P same = inl same
unfailed outcome.Done none old new P same = tt
unfailed (outcome.Run file code offset) none old new P same = tt
unfailed outcome.Usage none old new P same = tt
unfailed (outcome.Sheet why) none old new P same = tt
unfailed (outcome.Xml file why) none old new P same = tt
unfailed (outcome.Fuel file offset) none old new P same = tt

not-memory : Told outcome.Memory ≡ Told outcome.Done → ⊥
not-memory e = cc

not-unnoted : (o : Outcome) → Told o ≡ Unnoted → ⊥
not-unnoted o e = cc

told-host : (name : List ℕ) (f : HostFault) (offset : ℕ) → Told (outcome.Host name f offset) ≡ Told outcome.Done → ⊥
told-host name f offset e = cc

-- what holds of a failure, and of want of memory, holds of what is told
pub fails-so : (P : Outcome → Type 0) (f : HostFault) (offset : ℕ) → P outcome.Memory → P (outcome.Host (codes "-") f offset) → (o : Outcome) → FailsBy f offset o → P o
fails-so P f offset lack fail outcome.Memory e = lack
fails-so P f offset lack fail outcome.Done e = subst P (sym e) fail
fails-so P f offset lack fail outcome.Usage e = subst P (sym e) fail
fails-so P f offset lack fail (outcome.Run file code at) e = subst P (sym e) fail
fails-so P f offset lack fail (outcome.Sheet why) e = subst P (sym e) fail
fails-so P f offset lack fail (outcome.Xml file why) e = subst P (sym e) fail
fails-so P f offset lack fail (outcome.Host file g at) e = subst P (sym e) fail
fails-so P f offset lack fail (outcome.Fuel file at) e = subst P (sym e) fail

-- A run that is over

not-all : (others : List Other) (read : ℕ) → [] ≡ all_going others false read → ⊥
not-all others read e = elim (lasts others) [
  | inl is ↦ not-empty (record { name = None; read = read }) [] (sym (subst (λ os. [] ≡ all_going os false read) is e))
  | inr s ↦ not-empty (going_of s.1) (all_going s.0 false read) (sym (all-more s.0 s.1 false read) ∙ sym (subst (λ os. [] ≡ all_going os false read) s.2 e))
]

all-none : (others : List Other) (ended : Bool) (read : ℕ) → [] ≡ all_going others ended read → ended ≡ true
all-none others true read e = refl
all-none others false read e = absurd (not-all others read e)

is-done : (o : Outcome) → Told o ≡ Told outcome.Done → o ≡ outcome.Done
is-done o e = cc

module _ (start : Run) (main : Main) (old now : Outside) (r : Running) (asked : Pumped) (d : Driving start main old now r asked) where
  beside-told : HandsOthers old (beside_in none_beside start d.talk)
  beside-told = as-told old now.to_come (beside_in none_beside start d.talk) r.others.items d.beside

  all-written : IsWritten r → WritesAll d.talk d.out d.note
  all-written written =
      (sym (append-nil d.out) ∙ ap (λ l. d.out ++ l) (sym written.0) ∙ d.written, sym (append-nil d.note) ∙ ap (λ l. d.note ++ l) (sym written.1) ∙ d.noted)

  -- where it is done its main document was handed in to its end
  whole-at : (o : Outcome) → r.engine.stage ≡ spec.Over o → Told o ≡ Told outcome.Done → main_ends start d.talk ≡ true
  whole-at o is e =
      let done : r.engine.stage ≡ spec.Over outcome.Done = is ∙ ap spec.Over (is-done o e) in
      let read = length (main_in start d.talk) in
      let tied = subst (λ s. UnlessLacking s (IsTied r.engine r.engine.documents r.others.items (main_ends start d.talk) read)) done d.tied in
      let none : r.engine.documents ≡ [] = subst (λ s. StandsAt s r.engine.files r.engine.documents) done d.stands in
      all-none r.others.items (main_ends start d.talk) read (ap going_in (sym none) ∙ tied.going)

  -- the engine's own end
  pub overs : (o : Outcome) → (CanStop o) ⊎ (o ≡ outcome.Done) → r.engine.stage ≡ spec.Over o → IsWritten r → Halted start main old now r halt.Over
  overs o can is written = record {
    end = Told o;
    halts = (o, is, refl);
    acts = d.acts;
    out = d.out;
    note = d.note;
    between = d.between;
    talk = d.talk;
    leads = d.leads;
    writes = writes-all (Told o) d.talk d.out d.note (all-written written);
    unnoted = λ e. absurd (not-unnoted o e);
    reads = d.reads;
    hands = hands-of main r.main old d.acts (main_in start d.talk) (main_ends start d.talk) d.hands;
    whole = whole-at o is;
    beside = beside-told;
    opened = inl d.opened;
    alone = d.alone;
    held = d.held;
    counts = counts-same o (no-host o can) old now d.counts;
    room = unfailed o (no-host o can) old now (LacksRoom old (needed d.acts (bytes_in d.talk) (notes_in d.talk))) d.counts;
    ends = ends-by o can is;
    input = d.input;
    output = d.output;
  } where
    no-host : (o : Outcome) → (CanStop o) ⊎ (o ≡ outcome.Done) → (file : List ℕ) (f : HostFault) (offset : ℕ) → o ≡ outcome.Host file f offset → ⊥
    no-host o can file f offset e = elim can [
      | inl h ↦ absurd (subst CanStop e h)
      | inr h ↦ not-host file f offset (sym h ∙ e)
    ] where
      not-host : (file : List ℕ) (f : HostFault) (offset : ℕ) → outcome.Done ≡ outcome.Host file f offset → ⊥
      not-host file f offset e = cc

    ends-by : (o : Outcome) → (CanStop o) ⊎ (o ≡ outcome.Done) → r.engine.stage ≡ spec.Over o → EndsBy r.engine d.acts d.out (Told o)
    ends-by outcome.Usage can is = elim can [ inl h ↦ absurd h | inr h ↦ absurd cc ]
    ends-by (outcome.Sheet why) can is = elim can [ inl h ↦ absurd h | inr h ↦ absurd cc ]
    ends-by (outcome.Host file fault.Doc offset) can is = elim can [ inl h ↦ absurd h | inr h ↦ absurd cc ]
    ends-by (outcome.Host file fault.Read offset) can is = elim can [ inl h ↦ absurd h | inr h ↦ absurd cc ]
    ends-by (outcome.Host file fault.Write offset) can is = elim can [ inl h ↦ absurd h | inr h ↦ absurd cc ]
    ends-by outcome.Memory can is = tt
    ends-by outcome.Done can is = is
    ends-by (outcome.Run file code offset) can is = is
    ends-by (outcome.Xml file why) can is = is
    ends-by (outcome.Fuel file offset) can is = is

  -- so it is where the engine answered that
  pub ends-over : (asked ≡ pumped.Done) ⊎ (asked ≡ pumped.Stopped) → IsWritten r → Halted start main old now r halt.Over
  ends-over says written = elim says [
    | inl is ↦ overs outcome.Done (inr refl) (subst (λ a. Says a r.engine.stage) is d.says) written
    | inr is ↦ let stop = subst (λ a. Says a r.engine.stage) is d.says in overs stop.0 (inl stop.1.1) stop.1.0 written
  ]

  -- The host failed, or memory was wanting, where nothing is written

  pub halts-quietly : (new : Outside) (s : Running) (o : Outcome) (acts : List Act) → IsWritten r → s ≡ record r { others = s.others } → Between old new acts d.out d.note → AtMainReads acts d.out d.note (IsAsked (old.to_come 0) start)
      → HandsOn main r.main old acts (main_in start d.talk) (main_ends start d.talk) → OpensNames (place_in old) r.engine (names_in start d.talk) acts → ReadsOpened acts → AreHeld old.open_ids new.open_ids s.others.items
      → CountsBy o old new → IfFailed (Told o) old new (LacksRoom old (needed acts (bytes_in d.talk) (notes_in d.talk))) → EndsBy r.engine acts d.out (Told o) → (Told o ≡ Told outcome.Done → ⊥) → Halted start main old new s (halt.Failed o)
  halts-quietly new s o acts written same between reads hands opened alone held counts room ends undone =
      let engine : s.engine ≡ r.engine = ap (λ (x : Running). x.engine) same in
      record {
        end = Told o;
        halts = refl;
        acts = acts;
        out = d.out;
        note = d.note;
        between = between;
        talk = d.talk;
        leads = subst (Leads start d.talk) (sym engine) d.leads;
        writes = writes-all (Told o) d.talk d.out d.note (all-written written);
        unnoted = λ e. absurd (not-unnoted o e);
        reads = reads;
        hands = hands-of main r.main old acts (main_in start d.talk) (main_ends start d.talk) hands;
        whole = λ e. absurd (undone e);
        beside = beside-told;
        opened = subst (λ (e : Run). OpensNames (place_in old) e (names_in start d.talk) acts) (sym engine) opened;
        alone = alone;
        held = held;
        counts = counts;
        room = room;
        ends = subst (λ (e : Run). EndsBy e acts d.out (Told o)) (sym engine) ends;
        input = ap (λ (x : Running). x.input) same ∙ d.input;
        output = ap (λ (x : Running). x.output) same ∙ d.output;
      }

  -- memory was wanting, wherever
  pub lacks : Halted start main old now r (halt.Failed outcome.Memory)
  lacks = record {
    end = Told outcome.Memory;
    halts = refl;
    acts = d.acts;
    out = d.out;
    note = d.note;
    between = d.between;
    talk = d.talk;
    leads = d.leads;
    writes = ((r.out.items, d.written), (r.notes.items, d.noted));
    unnoted = λ e. absurd (not-unnoted outcome.Memory e);
    reads = d.reads;
    hands = hands-of main r.main old d.acts (main_in start d.talk) (main_ends start d.talk) d.hands;
    whole = λ e. absurd (not-memory e);
    beside = beside-told;
    opened = inl d.opened;
    alone = d.alone;
    held = d.held;
    counts = d.counts.note;
    room = inl d.counts;
    ends = tt;
    input = d.input;
    output = d.output;
  }

  -- A write failed

  pub write-fails : (new : Outside) (o : Outcome) (bytes lens : List ℕ) (taken offset : ℕ) → bytes ≡ r.out.items → sum lens ≡ taken → taken < length bytes → OutFault (wrote now Out lens (take taken bytes)) new → LacksRoom now (for_writes Out lens (length bytes))
      → offset ≡ counted (r.output + taken) → FailsBy fault.Write offset o → (s : Running) → s ≡ record r { output = s.output } → s.output ≡ offset → Halted start main old new s (halt.Failed o)
  write-fails new o bytes lens taken offset is total some failed short at told_by s same count =
      let front = take taken bytes in
      let mid = wrote now Out lens front in
      let acts = d.acts ++ writes Out lens in
      let out = d.out ++ front in
      let fits : taken ≡ length front = omega (arith, length-take taken bytes, some) in
      let joined : Between old mid acts out (d.note ++ []) = between_joins old now mid d.acts (writes Out lens) d.out front d.note [] d.between (between_writes now mid Out lens front (total ∙ fits) refl) in
      let counts : SameCounts old mid = counts-then old now mid d.counts (record { doc = refl; main = refl; out = refl; note = refl }) in
      let place : offset ≡ counted (length out) = at ∙ ap (λ n. counted (n + taken)) d.output ∙ counted-more (length d.out) taken ∙ ap (λ n. counted (length d.out + n)) fits ∙ ap counted (sym (length-append d.out front)) in
      let engine : s.engine ≡ r.engine = ap (λ (x : Running). x.engine) same in
      let note_same : new.note_faults ≡ old.note_faults = ap (λ x. x.note_faults) failed.alone ∙ counts.note in
      let short_so : LacksRoom old (needed acts (bytes_in d.talk) (notes_in d.talk)) =
      lacked start main old now r asked d acts (for_writes Out lens (length bytes)) (omega (arith, length-append d.acts (writes Out lens), length-map lens (λ len. Write Out len))) (omega (arith, openings-append d.acts (writes Out lens))) (omega arith) (omega (arith, ap length is)) (omega arith) short in
      let made : (o : Outcome) → CountsBy o old new → IfFailed (Told o) old new (LacksRoom old (needed acts (bytes_in d.talk) (notes_in d.talk))) → EndsBy r.engine acts out (Told o) → Writes (Told o) d.talk out d.note → (Told o ≡ Told outcome.Done → ⊥) → Halted start main old new s (halt.Failed o) =
      λ o counts room ends wrote_so undone. record {
        end = Told o;
        halts = refl;
        acts = acts;
        out = out;
        note = d.note;
        between = between-nothing old mid new acts out d.note (subst (Between old mid acts out) (append-nil d.note) joined) (between_fault mid new Out failed);
        talk = d.talk;
        leads = subst (Leads start d.talk) (sym engine) d.leads;
        writes = wrote_so;
        unnoted = λ e. absurd (not-unnoted o e);
        reads = subst (λ n. AtMainReads acts out n (IsAsked (old.to_come 0) start)) (append-nil d.note)
            (main_reads_writes d.acts Out lens d.out front d.note [] (IsAsked (old.to_come 0) start) d.between.out_written d.between.note_written d.reads);
        hands = hands-of main r.main old acts (main_in start d.talk) (main_ends start d.talk)
            (hands-still main r.main old d.acts (writes Out lens) (main_in start d.talk) (main_ends start d.talk) (gots-writes Out lens) (sym (main_read-writes Out lens)) (none-writes Out lens) d.hands);
        whole = λ e. absurd (undone e);
        beside = beside-told;
        opened = inl (opens-nothing d.acts (writes Out lens) (opens-writes Out lens) ∙ d.opened);
        alone = alone-then d.acts (writes Out lens) (opens-writes Out lens) (none-read Out lens) d.alone;
        held = subst (λ t. AreHeld old.open_ids t s.others.items) (sym (ap (λ o. o.open_ids) failed.alone)) (subst (λ (x : Running). AreHeld old.open_ids now.open_ids x.others.items) (sym same) d.held);
        counts = counts;
        room = room;
        ends = subst (λ (e : Run). EndsBy e acts out (Told o)) (sym engine) ends;
        input = ap (λ (x : Running). x.input) same ∙ d.input;
        output = count ∙ place;
      } in
      let front_written : WritesFront d.talk out d.note = (
        (drop taken bytes ++ [], append_assoc d.out front (drop taken bytes ++ []) ∙ ap (λ l. d.out ++ (front ++ l)) (append-nil (drop taken bytes)) ∙ ap (λ l. d.out ++ l) (take-append-drop taken bytes ∙ is) ∙ d.written),
        (r.notes.items, d.noted),
      ) in
      fails-so (λ o. Halted start main old new s (halt.Failed o)) fault.Write offset (made outcome.Memory note_same (inr short_so) tt front_written not-memory)
      (made (outcome.Host (codes "-") fault.Write offset) (
        subst (λ n. Rose n new.out_faults) counts.out failed.count.rose,
        record { doc = ap (λ x. x.doc_faults) failed.alone ∙ counts.doc; main = ap (λ x. x.main_faults) failed.alone ∙ counts.main; out = refl; note = note_same },
      )
      short_so
      (refl, place) front_written (told-host (codes "-") fault.Write offset))
      o told_by

  -- `Note` failed
  pub notes-fail : (new : Outside) (bytes lens : List ℕ) (taken : ℕ) → r.out.items ≡ [] → bytes ≡ r.notes.items → sum lens ≡ taken → taken < length bytes → NoteFault (wrote now Note lens (take taken bytes)) new → LacksRoom now (for_writes Note lens (length bytes))
      → Halted start main old new r halt.Unnoted
  notes-fail new bytes lens taken nothing is total some failed short =
      let front = take taken bytes in
      let mid = wrote now Note lens front in
      let acts = d.acts ++ writes Note lens in
      let note = d.note ++ front in
      let fits : taken ≡ length front = omega (arith, length-take taken bytes, some) in
      let joined : Between old mid acts (d.out ++ []) note = between_joins old now mid d.acts (writes Note lens) d.out [] d.note front d.between (between_writes now mid Note lens front (total ∙ fits) refl) in
      record {
        end = Unnoted;
        halts = refl;
        acts = acts;
        out = d.out;
        note = note;
        between = between-nothing old mid new acts d.out note (subst (λ o. Between old mid acts o note) (append-nil d.out) joined) (between_fault mid new Note failed);
        talk = d.talk;
        leads = d.leads;
        writes = (
          (r.out.items, d.written),
          (drop taken bytes, append_assoc d.note front (drop taken bytes) ∙ ap (λ l. d.note ++ l) (take-append-drop taken bytes ∙ is) ∙ d.noted),
        );
        unnoted = λ e. omega (arith, some, fits, length-append d.note front, ap length is, length-append d.note r.notes.items, ap length d.noted);
        reads = subst (λ o. AtMainReads acts o note (IsAsked (old.to_come 0) start)) (append-nil d.out)
            (main_reads_writes d.acts Note lens d.out [] d.note front (IsAsked (old.to_come 0) start) d.between.out_written d.between.note_written d.reads);
        hands = hands-of main r.main old acts (main_in start d.talk) (main_ends start d.talk)
            (hands-still main r.main old d.acts (writes Note lens) (main_in start d.talk) (main_ends start d.talk) (gots-writes Note lens) (sym (main_read-writes Note lens)) (none-writes Note lens) d.hands);
        whole = λ e. absurd (not-unnoted outcome.Done (sym e));
        beside = beside-told;
        opened = inl (opens-nothing d.acts (writes Note lens) (opens-writes Note lens) ∙ d.opened);
        alone = alone-then d.acts (writes Note lens) (opens-writes Note lens) (none-read Note lens) d.alone;
        held = subst (λ t. AreHeld old.open_ids t r.others.items) (sym (ap (λ o. o.open_ids) failed.alone)) d.held;
        counts = (
          subst (λ n. Rose n new.note_faults) d.counts.note failed.count.rose,
          record { doc = ap (λ x. x.doc_faults) failed.alone ∙ d.counts.doc; main = ap (λ x. x.main_faults) failed.alone ∙ d.counts.main; out = ap (λ x. x.out_faults) failed.alone ∙ d.counts.out; note = refl },
        );
        room = lacked start main old now r asked d acts (for_writes Note lens (length bytes)) (omega (arith, length-append d.acts (writes Note lens), length-map lens (λ len. Write Note len))) (omega (arith, openings-append d.acts (writes Note lens))) (omega arith) (omega arith) (omega (arith, ap length is)) short;
        ends = tt;
        input = d.input;
        output = d.output;
      }

-- whatever is left of the sample then
pub halts-with : (start : Run) (whole : Main) (old now : Outside) (r : Running) (main : Main) (why : Halt) → Halted start whole old now r why → Halted start whole old now (record r { main = main }) why
halts-with start whole old now r main why h = record {
  end = h.end;
  halts = h.halts;
  acts = h.acts;
  out = h.out;
  note = h.note;
  between = h.between;
  talk = h.talk;
  leads = h.leads;
  writes = h.writes;
  unnoted = h.unnoted;
  reads = h.reads;
  hands = h.hands;
  whole = h.whole;
  beside = h.beside;
  opened = h.opened;
  alone = h.alone;
  held = h.held;
  counts = h.counts;
  room = h.room;
  ends = h.ends;
  input = h.input;
  output = h.output;
}

-- writing comes to that where it failed
pub wrote-not : (start : Run) (main : Main) (old now : Outside) (r : Running) (asked : Pumped) (P : Type 0) (why : Halt) (result : Result (Unit {0}) Halt) → IsErrAnd result (λ w. w ≡ why)
    → Halted start main old now r why → WroteTo start main old now r asked P result
wrote-not start main old now r asked P why (Ok done) is h = absurd is
wrote-not start main old now r asked P why (Err w) is h = subst (Halted start main old now r) (sym is) h

-- A read failed

module _ (start : Run) (main : Main) (old now new : Outside) (r : Running) where
  quiet-names : (asked : Pumped) (d : Driving start main old now r asked) → OpensNames (place_in old) r.engine (names_in start d.talk) d.acts
  quiet-names asked d = inl d.opened

  -- that of the main document
  pub read-fails : (d : Driving start main old now r pumped.Main) → IsWritten r → r.main ≡ OfHost → MainFault now new → LacksRoom now for_act → (o : Outcome) → FailsBy fault.Read r.input o → Halted start main old new r (halt.Failed o)
  read-fails d written host failed short o told_by =
      let a = at-main start main old now r d in
      let given = length (main_in start d.talk) in
      let read : given ≡ main_read d.acts = read-count main old d.acts (main_in start d.talk) (main_ends start d.talk) (subst (λ m. HandsOn main m old d.acts (main_in start d.talk) (main_ends start d.talk)) host d.hands) in
      let place : r.input ≡ main_read d.acts = d.input ∙ omega (arith, a.within, d.most) ∙ read in
      let between = between-nothing old now new d.acts d.out d.note d.between (between_read now new 0 Unread (record { main = λ is. failed; doc = λ above. absurd (omega (arith, above)) })) in
      let held : AreHeld old.open_ids new.open_ids r.others.items = subst (λ t. AreHeld old.open_ids t r.others.items) (sym (ap (λ o. o.open_ids) failed.alone)) d.held in
      let note_same : new.note_faults ≡ old.note_faults = ap (λ x. x.note_faults) failed.alone ∙ d.counts.note in
      let short_so : LacksRoom old (needed d.acts (bytes_in d.talk) (notes_in d.talk)) =
      lacked start main old now r pumped.Main d d.acts for_act (omega arith) (omega arith) (omega arith) (omega arith) (omega arith) short in
      fails-so (λ o. Halted start main old new r (halt.Failed o)) fault.Read r.input
      (halts-quietly start main old now r pumped.Main d new r outcome.Memory d.acts written refl between d.reads d.hands (inl d.opened) d.alone held note_same (inr short_so) tt not-memory)
      (halts-quietly start main old now r pumped.Main d new r (outcome.Host (codes "-") fault.Read r.input) d.acts written refl between d.reads d.hands (inl d.opened) d.alone held (
        subst (λ n. Rose n new.main_faults) d.counts.main failed.count.rose,
        record { doc = ap (λ x. x.doc_faults) failed.alone ∙ d.counts.doc; main = refl; out = ap (λ x. x.out_faults) failed.alone ∙ d.counts.out; note = note_same },
      )
      short_so
      (d.says, refl, place) (told-host (codes "-") fault.Read r.input))
      o told_by

  -- that of another document, which is told by its name
  pub other-fails : (d : Driving start main old now r pumped.Document) → IsWritten r → (s : Running) → s ≡ record r { others = s.others } → ReadFault (at-other start main old now r d).last.id now new → LacksRoom now for_act
      → AreHeld old.open_ids now.open_ids s.others.items → Halted start main old new s (halt.Failed (outcome.Host (at-other start main old now r d).last.name fault.Doc (at-other start main old now r d).last.read))
  other-fails d written s same failed_at short held =
      let a = at-other start main old now r d in
      let held_so : AreHeld old.open_ids now.open_ids (a.front ++ a.last ∷ []) = subst (AreHeld old.open_ids now.open_ids) a.others_is d.held in
      let failed : DocFault now new = failed_at.doc (last-open old.open_ids a.front a.last now.open_ids held_so).above_zero in
      let newest : NewestIs r.engine.documents a.last.name a.last.read = subst (λ ds. NewestIs ds a.last.name a.last.read) (sym a.documents_is) (a.name_is, a.read_is) in
      halts-quietly start main old now r pumped.Document d new s (outcome.Host a.last.name fault.Doc a.last.read) d.acts written same
      (between-nothing old now new d.acts d.out d.note d.between (between_read now new a.last.id Unread failed_at)) d.reads d.hands (inl d.opened) d.alone
      (subst (λ t. AreHeld old.open_ids t s.others.items) (sym (ap (λ o. o.open_ids) failed.alone)) held) (
        subst (λ n. Rose n new.doc_faults) d.counts.doc failed.count.rose,
        record { doc = refl; main = ap (λ x. x.main_faults) failed.alone ∙ d.counts.main; out = ap (λ x. x.out_faults) failed.alone ∙ d.counts.out; note = ap (λ x. x.note_faults) failed.alone ∙ d.counts.note },
      )
      (lacked start main old now r pumped.Document d d.acts for_act (omega arith) (omega arith) (omega arith) (omega arith) (omega arith) short)
      (inr (d.says, newest)) (told-host a.last.name fault.Doc a.last.read)

  -- one that was asked for can't be opened
  pub open-fails : (name : List ℕ) (d : Driving start main old now r (pumped.Open name)) → IsWritten r → MayOpen now name Unopened → DocFault now new → Halted start main old new r (halt.Failed (outcome.Host name fault.Doc 0))
  open-fails name d written short failed =
      halts-quietly start main old now r (pumped.Open name) d new r (outcome.Host name fault.Doc 0) d.acts written refl
      (between-nothing old now new d.acts d.out d.note d.between (between_open now new name Unopened short failed)) d.reads d.hands (inl d.opened) d.alone
      (subst (λ t. AreHeld old.open_ids t r.others.items) (sym (ap (λ o. o.open_ids) failed.alone)) d.held) (
        subst (λ n. Rose n new.doc_faults) d.counts.doc failed.count.rose,
        record { doc = refl; main = ap (λ x. x.main_faults) failed.alone ∙ d.counts.main; out = ap (λ x. x.out_faults) failed.alone ∙ d.counts.out; note = ap (λ x. x.note_faults) failed.alone ∙ d.counts.note },
      )
      (lacked start main old now r (pumped.Open name) d d.acts for_id (omega arith) (omega arith) (omega arith) (omega arith) (omega arith) short)
      (inl (d.says, refl)) (told-host name fault.Doc 0)

  -- memory was wanting for it
  pub open-lacks : (name : List ℕ) (d : Driving start main old now r (pumped.Open name)) → IsWritten r → new ≡ now → Halted start main old new r (halt.Failed outcome.Memory)
  open-lacks name d written is = subst (λ o. Halted start main old o r (halt.Failed outcome.Memory)) (sym is) (lacks start main old now r (pumped.Open name) d)

  -- memory was wanting for one that was opened, and it is given back
  pub opened-lacks : (name : List ℕ) (id : ℕ) (mid : Outside) (d : Driving start main old now r (pumped.Open name)) → IsWritten r → MayOpen now name (Id id) → Opens now name (Id id) mid → Closes mid id new
      → (s : Running) → s ≡ record r { others = s.others } → s.others.items ≡ r.others.items → Halted start main old new s (halt.Failed outcome.Memory)
  opened-lacks name id mid d written may change closes s same none =
      let last : Other = record { id = id; name = name; read = 0 } in
      let given = main_in start d.talk in
      let over = main_ends start d.talk in
      let opened = map (place_in old) (names_in start d.talk) in
      let acts = d.acts ++ OpenAct (place_in now name) id ∷ [] in
      let first = quiet-open start main r.main old given over d.out d.note now mid d.acts opened (quiet-so-far start main old now r (pumped.Open name) d) name id may change in
      let held = more-held old.open_ids r.others.items last now mid d.held may change in
      let then = quiet-close start main r.main old given over d.out d.note mid new acts (opened ++ place_in now name ∷ []) first id may.above_zero closes in
      halts-quietly start main old now r (pumped.Open name) d new s outcome.Memory then.0 written same then.1.between then.1.reads then.1.hands
      (inr (name, d.says, then.1.opened_is ∙ ap (λ at. opened ++ at ∷ []) (ap (λ t. option_and_then (λ docs. place docs name) t) d.between.documents) ∙ sym (map-append (place_in old) (names_in start d.talk) (name ∷ []))))
      (λ no. absurd (omega (arith, ap length no, ap length then.1.opened_is, length-append opened (place_in now name ∷ []))))
      (subst (AreHeld old.open_ids new.open_ids) (sym none) (last-closed old.open_ids r.others.items last mid new held closes)) then.1.counts.note (inl then.1.counts) tt not-memory

-- A document is given back

counts-at : (end : End) (old now new : Outside) → SameCounts now new → CountsAt end old now → CountsAt end old new
counts-at Unnoted old now new same c =
    (subst (λ n. Rose old.note_faults n) (sym same.note) c.0, record { doc = same.doc ∙ c.1.doc; main = same.main ∙ c.1.main; out = same.out ∙ c.1.out; note = refl })
counts-at (Told (outcome.Host file fault.Doc offset)) old now new same c =
    (subst (λ n. Rose old.doc_faults n) (sym same.doc) c.0, record { doc = refl; main = same.main ∙ c.1.main; out = same.out ∙ c.1.out; note = same.note ∙ c.1.note })
counts-at (Told (outcome.Host file fault.Read offset)) old now new same c =
    (subst (λ n. Rose old.main_faults n) (sym same.main) c.0, record { doc = same.doc ∙ c.1.doc; main = refl; out = same.out ∙ c.1.out; note = same.note ∙ c.1.note })
counts-at (Told (outcome.Host file fault.Write offset)) old now new same c =
    (subst (λ n. Rose old.out_faults n) (sym same.out) c.0, record { doc = same.doc ∙ c.1.doc; main = same.main ∙ c.1.main; out = refl; note = same.note ∙ c.1.note })
counts-at (Told outcome.Memory) old now new same c = same.note ∙ c
counts-at (Told outcome.Done) old now new same c = counts-then old now new c same
counts-at (Told outcome.Usage) old now new same c = counts-then old now new c same
counts-at (Told (outcome.Run file code offset)) old now new same c = counts-then old now new c same
counts-at (Told (outcome.Sheet why)) old now new same c = counts-then old now new c same
counts-at (Told (outcome.Xml file why)) old now new same c = counts-then old now new c same
counts-at (Told (outcome.Fuel file offset)) old now new same c = counts-then old now new c same

-- what follows from it, where no count changed since
pub room-at : (end : End) (old now new : Outside) (P Q : Type 0) → SameCounts now new → (P → Q) → IfFailed end old now P → IfFailed end old new Q
room-at Unnoted old now new P Q same f p = f p
room-at (Told (outcome.Host file f offset)) old now new P Q same g p = g p
room-at (Told outcome.Memory) old now new P Q same f p = elim p [
  | inl counts ↦ inl (counts-then old now new counts same)
  | inr p ↦ inr (f p)
]
room-at (Told outcome.Done) old now new P Q same f p = tt
room-at (Told outcome.Usage) old now new P Q same f p = tt
room-at (Told (outcome.Run file code offset)) old now new P Q same f p = tt
room-at (Told (outcome.Sheet why)) old now new P Q same f p = tt
room-at (Told (outcome.Xml file why)) old now new P Q same f p = tt
room-at (Told (outcome.Fuel file offset)) old now new P Q same f p = tt

-- it reads nothing
ends-at : (run : Run) (acts more : List Act) (out : List ℕ) (end : End) → main_read more ≡ 0 → EndsBy run acts out end → EndsBy run (acts ++ more) out end
ends-at run acts more out Unnoted none e = tt
ends-at run acts more out (Told (outcome.Host file fault.Doc offset)) none e = e
ends-at run acts more out (Told (outcome.Host file fault.Read offset)) none e = (e.0, e.1, e.2 ∙ omega (arith, main_read-append acts more, none))
ends-at run acts more out (Told (outcome.Host file fault.Write offset)) none e = e
ends-at run acts more out (Told outcome.Memory) none e = tt
ends-at run acts more out (Told outcome.Done) none e = e
ends-at run acts more out (Told outcome.Usage) none e = absurd e
ends-at run acts more out (Told (outcome.Run file code offset)) none e = e
ends-at run acts more out (Told (outcome.Sheet why)) none e = absurd e
ends-at run acts more out (Told (outcome.Xml file why)) none e = e
ends-at run acts more out (Told (outcome.Fuel file offset)) none e = e

hands-at : (main : Main) (old : Outside) (acts : List Act) (id : ℕ) (handed : List ℕ) (ended : Bool) → HandsMain main old acts handed ended → HandsMain main old (acts ++ Close id ∷ []) handed ended
hands-at OfHost old acts id handed ended h = (once-same ended acts (Close id ∷ []) refl h.0, h.1 ∙ omega (arith, main_read-append acts (Close id ∷ [])), h.2)
hands-at (Sample pieces) old acts id handed ended h = (none-then acts (Close id ∷ []) h.0 refl, h.1)

opens-at : (at : List ℕ → Option ℕ) (run : Run) (names : List (List ℕ)) (acts : List Act) (id : ℕ) → OpensNames at run names acts → OpensNames at run names (acts ++ Close id ∷ [])
opens-at at run names acts id h = elim h [
  | inl is ↦ inl (opens-nothing acts (Close id ∷ []) refl ∙ is)
  | inr is ↦ inr (is.0, is.1, opens-nothing acts (Close id ∷ []) refl ∙ is.2)
]

closed-counts : (now new : Outside) (id : ℕ) → Closes now id new → SameCounts now new
closed-counts now new id closes = elim closes [
  | inl is ↦ record { doc = ap (λ o. o.doc_faults) is; main = ap (λ o. o.main_faults) is; out = ap (λ o. o.out_faults) is; note = ap (λ o. o.note_faults) is }
  | inr is ↦ record { doc = ap (λ o. o.doc_faults) is; main = ap (λ o. o.main_faults) is; out = ap (λ o. o.out_faults) is; note = ap (λ o. o.note_faults) is }
]

module _ (start : Run) (main : Main) (old now new : Outside) (r s : Running) (why : Halt) (h : Halted start main old now r why) (front : List Other) (o : Other) (is : r.others.items ≡ front ++ o ∷ [])
    (same : s ≡ record r { others = s.others }) (fewer : s.others.items ≡ front) (closes : Closes now o.id new) where
  held-at : AreHeld old.open_ids now.open_ids (front ++ o ∷ [])
  held-at = subst (AreHeld old.open_ids now.open_ids) is h.held

  engine-at : s.engine ≡ r.engine
  engine-at = ap (λ (x : Running). x.engine) same

  closes-by : (acts : List Act) → Between old new acts h.out h.note → AtMainReads acts h.out h.note (IsAsked (old.to_come 0) start) → HandsMain main old acts (main_in start h.talk) (main_ends start h.talk)
      → OpensNames (place_in old) r.engine (names_in start h.talk) acts → ReadsOpened acts → IfFailed h.end old new (LacksRoom old (needed acts (bytes_in h.talk) (notes_in h.talk))) → EndsBy r.engine acts h.out h.end → Halted start main old new s why
  closes-by acts between reads hands opened alone room ends = record {
    end = h.end;
    halts = subst (λ (e : Run). HaltsAs e why h.end) (sym engine-at) h.halts;
    acts = acts;
    out = h.out;
    note = h.note;
    between = between;
    talk = h.talk;
    leads = subst (Leads start h.talk) (sym engine-at) h.leads;
    writes = h.writes;
    unnoted = h.unnoted;
    reads = reads;
    hands = hands;
    whole = h.whole;
    beside = h.beside;
    opened = subst (λ (e : Run). OpensNames (place_in old) e (names_in start h.talk) acts) (sym engine-at) opened;
    alone = alone;
    held = subst (AreHeld old.open_ids new.open_ids) (sym fewer) (last-closed old.open_ids front o now new held-at closes);
    counts = counts-at h.end old now new (closed-counts now new o.id closes) h.counts;
    room = room;
    ends = subst (λ (e : Run). EndsBy e acts h.out h.end) (sym engine-at) ends;
    input = ap (λ (x : Running). x.input) same ∙ h.input;
    output = ap (λ (x : Running). x.output) same ∙ h.output;
  }

  pub closes-one : Halted start main old new s why
  closes-one = elim (between_close now new o.id (last-open old.open_ids front o now.open_ids held-at).above_zero closes) [
    | inl between ↦ closes-by (h.acts ++ Close o.id ∷ []) (between-acts old now new h.acts (Close o.id ∷ []) h.out h.note h.between between)
        (main_reads_one h.acts (Close o.id) h.out h.note (IsAsked (old.to_come 0) start) h.between.out_written h.between.note_written h.reads (λ is_read. absurd (false≢true is_read)))
        (hands-at main old h.acts o.id (main_in start h.talk) (main_ends start h.talk) h.hands)
        (opens-at (place_in old) r.engine (names_in start h.talk) h.acts o.id h.opened)
        (alone-then h.acts (Close o.id ∷ []) refl refl h.alone)
        (room-at h.end old now new (LacksRoom old (needed h.acts (bytes_in h.talk) (notes_in h.talk))) _ (closed-counts now new o.id closes) (needs_for old h.acts (Close o.id ∷ []) (bytes_in h.talk) (notes_in h.talk)) h.room)
        (ends-at r.engine h.acts (Close o.id ∷ []) h.out h.end refl h.ends)
    | inr between ↦ closes-by h.acts (between-nothing old now new h.acts h.out h.note h.between between) h.reads h.hands h.opened h.alone
        (room-at h.end old now new (LacksRoom old (needed h.acts (bytes_in h.talk) (notes_in h.talk))) _ (closed-counts now new o.id closes) (λ lacks. lacks) h.room) h.ends
  ]

-- What came of it

pub ran-so : (start : Run) (main : Main) (old new : Outside) (r : Running) (why : Halt) (ran : Ran) → (h : Halted start main old new r why) → r.others.items ≡ [] → HaltsAs r.engine why ran.end → ran.input ≡ r.input → ran.output ≡ r.output
    → RunsSheet start main old new ran
ran-so start main old new r why ran h none halts input output =
    let end : h.end ≡ ran.end = same-end r.engine why h.end ran.end h.halts halts in
    record {
      acts = h.acts;
      out = h.out;
      note = h.note;
      between = h.between;
      talk = h.talk;
      run = r.engine;
      leads = h.leads;
      writes = subst (λ e. Writes e h.talk h.out h.note) end h.writes;
      unnoted = λ e. h.unnoted (end ∙ e);
      reads = h.reads;
      hands = h.hands;
      whole = λ e. h.whole (end ∙ e);
      beside = h.beside;
      opened = h.opened;
      alone = h.alone;
      ids = h.held.ids ∙ ap (λ os. and_more old.open_ids (ids_of os)) none ∙ none-more old.open_ids;
      counts = subst (λ e. CountsAt e old new) end h.counts;
      room = subst (λ e. IfFailed e old new (LacksRoom old (needed h.acts (bytes_in h.talk) (notes_in h.talk)))) end h.room;
      ends = subst (EndsBy r.engine h.acts h.out) end h.ends;
      input = input ∙ h.input;
      output = output ∙ h.output;
    } where
      none-more : (told : Option (List ℕ)) → and_more told [] ≡ told
      none-more None = refl
      none-more (Some ids) = ap Some (append-nil ids)

      over-once : (o p : Outcome) → spec.Over o ≡ spec.Over p → o ≡ p
      over-once o p e = cc

      same-end : (run : Run) (why : Halt) (e f : End) → HaltsAs run why e → HaltsAs run why f → e ≡ f
      same-end run halt.Over e f h k = h.2 ∙ ap Told (over-once h.0 k.0 (sym h.1 ∙ k.1)) ∙ sym k.2
      same-end run (halt.Failed o) e f h k = h ∙ sym k
      same-end run halt.Unnoted e f h k = h ∙ sym k

-- a run that is over has an outcome
pub over-some : (run : Run) (why : Halt) (end : End) → HaltsAs run why end → why ≡ halt.Over → IsSome (outcome_in run.stage)
over-some run why end h is =
    let over = subst (λ w. HaltsAs run w end) is h in
    subst (λ s. IsSome (outcome_in s)) (sym over.1) refl
