-- What the last line does behind a run.
use Rattle.std.proofs.Common.{◌≡◌, ◌⊎◌, inl, inr, ℕ, ◌+◌, ◌<◌, ◌==◌, ◌||◌, if◌then◌else◌, Bool, false, List, [], ◌∷◌, ◌++◌, length, take, drop, sum, Option, Some, None, IfSome, arith, refl, sym, ap, ◌∙◌, subst, append_assoc, length-take}
use Rattle.std.specs.List.{list_any}
use Rattle.std.proofs.lemmas.List.{append-nil, take-append-drop}
use Rattle.std.proofs.lemmas.List.Folds.{list_any-append}
use Rattle.stx_base.specs.Course.{Begins}
use Rattle.command_words.specs.Words.{command_of}
use Rattle.stx_host.specs.Before.{Between}
use Rattle.stx_host.specs.Outside.{Outside, Rose, place, wrote, writes}
use Rattle.stx_host.specs.declared.act.Act.{Act}
use Rattle.stx_host.specs.declared.act.Doc.{Doc}
use Rattle.stx_host.specs.declared.act.Act.TheVariants.{Open, Read, Close, Write}
use Rattle.stx_host.specs.declared.act.Lane.TheVariants.{Note}
use Rattle.stx_host.proofs.Stretches.{between_joins, between_writes, between_fault, main_read-append, main_read-writes}
use Rattle.sheet_files.specs.Acts.{given_behind, opens, read_behind}
use Rattle.sheet_files.specs.Loading.{FailsInOrder}
use Rattle.sheet_loader.specs.Values.{Reads}
use Rattle.sheet_runs.specs.Counts.{CountsBy}
use Rattle.sheet_runs.specs.Reading.{is_doc_read}
use Rattle.stx_engine.specs.Answer.{loaded, runs_none}
use Rattle.stx_engine.specs.Running.{CountsIn, FailedIn, FailedOn, FailedOnSheet, LoadsFirst, OpensNames, Reports, Runs, unwritten_status}
use Rattle.stx_engine.specs.Headline.{RoseFor}
use Rattle.fault_report.specs.declared.outcome.HostFault.{HostFault}
use Rattle.fault_report.specs.declared.outcome.HostFault.TheVariants as fault
use Rattle.fault_report.specs.declared.outcome.Outcome.{Outcome}
use Rattle.fault_report.specs.declared.outcome.Outcome.TheVariants.{Done, Run, Usage, Sheet, Xml, Host, Fuel, Memory}
use Rattle.stx_engine.specs.RunEnd.{line_in, outcome_in}
use Rattle.stx_engine.specs.declared.run_end.RunEnd.{RunEnd}
use Rattle.stx_engine.specs.declared.run_end.RunEnd.TheVariants.{Told, Sampled, Unnoted}
use Rattle.sheet_runs.proofs.Acting.{opens-nothing, opens-writes}
use Rattle.stx_engine.proofs.Idle.{of_any}

pub map_some : {X : Type 0} (o : Option X) (P Q : X → Type 0) → ((x : X) → P x → Q x) → IfSome o P → IfSome o Q
map_some None P Q all some = tt
map_some (Some x) P Q all some = all x some

-- no fault of `Note` is an outcome's
note_same : (o : Outcome) (old new : Outside) → CountsBy o old new → new.note_faults ≡ old.note_faults
note_same (Host file fault.Doc offset) old new by = by.1.note
note_same (Host file fault.Read offset) old new by = by.1.note
note_same (Host file fault.Write offset) old new by = by.1.note
note_same Memory old new by = by
note_same Done old new by = by.note
note_same Usage old new by = by.note
note_same (Sheet reason) old new by = by.note
note_same (Run file code offset) old new by = by.note
note_same (Xml file fault) old new by = by.note
note_same (Fuel file offset) old new by = by.note

noted : (end : RunEnd) (old new : Outside) → CountsIn end old new → (end ≡ Unnoted → ⊥) → new.note_faults ≡ old.note_faults
noted (Told o) old new by other = note_same o old new by
noted (Sampled s) old new by other = by.note
noted Unnoted old new by other = absurd (other refl)

-- where something is said last, `Note` took all messages
pub note-kept : (end : RunEnd) (old new : Outside) → CountsIn end old new → 0 < length (line_in end) → new.note_faults ≡ old.note_faults
note-kept (Told o) old new by some = note_same o old new by
note-kept (Sampled s) old new by some = by.note
note-kept Unnoted old new by some = absurd (omega (arith, some))

-- what documents were opened so were opened so too
pub loads-so : (reads : Reads) (docs : List Doc) (name : List ℕ) (P Q : List Act → Type 0) (none_run : Bool) (acts : List Act) → ((acts : List Act) → P acts → Q acts) → LoadsFirst reads docs name P none_run acts → LoadsFirst reads docs name Q none_run acts
loads-so reads docs name P Q none_run acts so h = record {
  loading = h.loading;
  running = h.running;
  in_turn = h.in_turn;
  opened = so h.loading h.opened;
  undecided = h.undecided;
  once = h.once;
  no_main_read = h.no_main_read;
  no_write = h.no_write;
  alone = h.alone;
}

-- more acts that read nothing may follow
pub loads-then : (reads : Reads) (docs : List Doc) (name : List ℕ) (P : List Act → Type 0) (none_run : Bool) (acts more : List Act) → list_any is_doc_read more ≡ false → LoadsFirst reads docs name P none_run acts → LoadsFirst reads docs name P none_run (acts ++ more)
loads-then reads docs name P none_run acts more none h = record {
  loading = h.loading;
  running = h.running ++ more;
  in_turn = ap (λ l. l ++ more) h.in_turn ∙ append_assoc h.loading h.running more;
  opened = h.opened;
  undecided = h.undecided;
  once = h.once;
  no_main_read = h.no_main_read;
  no_write = h.no_write;
  alone = λ is. list_any-append is_doc_read h.running more ∙ ap (λ b. b || list_any is_doc_read more) (h.alone is) ∙ none;
}

-- want of memory may come at the end of any run that `Note` let end
pub ran-wanting-line : (words : List (List ℕ)) (old new : Outside) (end : RunEnd) → Runs words old new end → (end ≡ Unnoted → ⊥) → Runs words old new (Told Memory)
ran-wanting-line words old new end r other = record {
  acts = r.acts;
  out = r.out;
  note = r.note;
  between = r.between;
  ended = r.ended;
  once = r.once;
  ids = r.ids;
  counts = noted end old new r.counts other;
  failed = tt;
  refuses = tt;
  takes = λ no_run. tt;
  told = λ docs documents.
      let t = r.told docs documents in
      record {
        sheet = λ reads.
            map_some (command_of words) (λ c. LoadsFirst reads docs c.sheet (OpensNames docs (loaded reads docs c).opened (outcome_in end)) (runs_none reads words docs) r.acts)
            (λ c. LoadsFirst reads docs c.sheet (OpensNames docs (loaded reads docs c).opened Memory) (runs_none reads words docs) r.acts)
            (λ c h. loads-so reads docs c.sheet (OpensNames docs (loaded reads docs c).opened (outcome_in end)) (OpensNames docs (loaded reads docs c).opened Memory) (runs_none reads words docs) r.acts (λ acts n. (n.0, n.1, n.2, tt)) h)
            (t.sheet reads);
        takes = λ reads none_run. tt;
        failed = λ reads. tt;
        own = λ reads. of_any (command_of words) (λ c. Unit {0}) (λ c. tt);
      };
  main_told = λ main told. record { all = λ asks is. cc; begins = tt; asks = (r.main_told main told).asks };
}

-- the line, or its first bytes, on `Note`
pub record Reported (mid new : Outside) (line : List ℕ) (status result : ℕ) : Type 0 where
  pub lens : List ℕ
  pub note : List ℕ
  pub between : Between mid new (writes Note lens) [] note
  pub ids : new.open_ids ≡ mid.open_ids
  pub doc : new.doc_faults ≡ mid.doc_faults
  pub main : new.main_faults ≡ mid.main_faults
  pub out : new.out_faults ≡ mid.out_faults
  pub end : ((note ≡ line) × (result ≡ status) × (new.note_faults ≡ mid.note_faults)) ⊎ (Begins note line × (result ≡ unwritten_status status) × Rose mid.note_faults new.note_faults × (0 < length line))

pub reported : (mid new : Outside) (line : List ℕ) (status result : ℕ) → Reports mid line status new result → Reported mid new line status result
reported mid new line status result (inl wrote_all) = record {
  lens = wrote_all.0;
  note = line;
  between = between_writes mid new Note wrote_all.0 line wrote_all.1 wrote_all.2;
  ids = ap (λ (o : Outside). o.open_ids) wrote_all.2;
  doc = ap (λ (o : Outside). o.doc_faults) wrote_all.2;
  main = ap (λ (o : Outside). o.main_faults) wrote_all.2;
  out = ap (λ (o : Outside). o.out_faults) wrote_all.2;
  end = inl (refl, wrote_all.3, ap (λ (o : Outside). o.note_faults) wrote_all.2);
}
reported mid new line status result (inr cut) =
    let lens = cut.0 in
    let n = cut.1 in
    let bytes = take n line in
    let some = wrote mid Note lens bytes in
    let total : sum lens ≡ length bytes = omega (arith, cut.2, cut.3, length-take n line) in
    let fault = cut.4 in
    record {
      lens = lens;
      note = bytes;
      between = subst (λ acts. Between mid new acts [] bytes) (append-nil (writes Note lens)) (subst (λ note. Between mid new (writes Note lens ++ []) [] note) (append-nil bytes)
          (between_joins mid some new (writes Note lens) [] [] [] bytes [] (between_writes mid some Note lens bytes total refl) (between_fault some new Note fault)));
      ids = ap (λ (o : Outside). o.open_ids) fault.alone;
      doc = ap (λ (o : Outside). o.doc_faults) fault.alone;
      main = ap (λ (o : Outside). o.main_faults) fault.alone;
      out = ap (λ (o : Outside). o.out_faults) fault.alone;
      end = inr ((drop n line, take-append-drop n line), cut.5, fault.count.rose, omega (arith, cut.3));
    }

-- a count that didn't change since
rose_same : (a b c : ℕ) → c ≡ b → Rose a b → Rose a c
rose_same a b c e rose = subst (Rose a) (sym e) rose

-- a failure's count rose in the whole call
pub rose_for : (f : HostFault) (old mid new : Outside) → new.doc_faults ≡ mid.doc_faults → new.main_faults ≡ mid.main_faults → new.out_faults ≡ mid.out_faults
    → (file : List ℕ) (offset : ℕ) → CountsBy (Host file f offset) old mid → RoseFor f old new
rose_for fault.Doc old mid new d m o file offset by = rose_same old.doc_faults mid.doc_faults new.doc_faults d by.0
rose_for fault.Read old mid new d m o file offset by = rose_same old.main_faults mid.main_faults new.main_faults m by.0
rose_for fault.Write old mid new d m o file offset by = rose_same old.out_faults mid.out_faults new.out_faults o by.0

-- writing the line opens nothing, and reads nothing
given-writes : (b : Option (Option ℕ)) (id : ℕ) (lens : List ℕ) → given_behind b id (writes Note lens) ≡ b
given-writes b id [] = refl
given-writes b id (n ∷ lens) = given-writes b id lens

given-then : (b : Option (Option ℕ)) (id : ℕ) (acts : List Act) (lens : List ℕ) → given_behind b id (acts ++ writes Note lens) ≡ given_behind b id acts
given-then b id [] lens = given-writes b id lens
given-then b id (Open doc k ∷ acts) lens = given-then (if k == id then Some doc else b) id acts lens
given-then b id (Read k got ∷ acts) lens = given-then b id acts lens
given-then b id (Close k ∷ acts) lens = given-then b id acts lens
given-then b id (Write lane len ∷ acts) lens = given-then b id acts lens

read-writes : (before id : ℕ) (lens : List ℕ) → read_behind before id (writes Note lens) ≡ before
read-writes before id [] = refl
read-writes before id (n ∷ lens) = read-writes before id lens

read-then : (before id : ℕ) (acts : List Act) (lens : List ℕ) → read_behind before id (acts ++ writes Note lens) ≡ read_behind before id acts
read-then before id [] lens = read-writes before id lens
read-then before id (Open doc k ∷ acts) lens = read-then (if k == id then 0 else before) id acts lens
read-then before id (Read k got ∷ acts) lens = read-then (if k == id then before + got else before) id acts lens
read-then before id (Close k ∷ acts) lens = read-then before id acts lens
read-then before id (Write lane len ∷ acts) lens = read-then before id acts lens

fails-then : (at : List ℕ → Option ℕ) (front rest : List (List ℕ)) (file : List ℕ) (offset : ℕ) (acts : List Act) (lens : List ℕ)
    → FailsInOrder at front rest file offset acts → FailsInOrder at front rest file offset (acts ++ writes Note lens)
fails-then at front rest file offset acts lens (inl f) = inl (f.0, (f.1.0, given-then None f.1.0 acts lens ∙ f.1.1, f.1.2 ∙ sym (read-then 0 f.1.0 acts lens)))
fails-then at front rest file offset acts lens (inr next) = inr next

pub opens-then : (acts : List Act) (lens : List ℕ) → opens (acts ++ writes Note lens) ≡ opens acts
opens-then acts lens = opens-nothing acts (writes Note lens) (opens-writes Note lens)

pub failed-on-sheet-then : (reads : Reads) (words : List (List ℕ)) (docs : List Doc) (acts : List Act) (lens : List ℕ) (file : List ℕ) (offset : ℕ)
    → FailedOnSheet reads words docs acts file offset → FailedOnSheet reads words docs (acts ++ writes Note lens) file offset
failed-on-sheet-then reads words docs acts lens file offset f =
    let e = f.2 in
    (f.0, f.1, (e.0, e.1, e.2, opens-then acts lens ∙ e.3, fails-then (place docs) e.0 e.1 file offset acts lens e.4))

pub failed-on-then : (reads : Reads) (words : List (List ℕ)) (docs : List Doc) (acts : List Act) (lens : List ℕ) (file : List ℕ) (offset : ℕ)
    → FailedOn reads words docs acts file offset → FailedOn reads words docs (acts ++ writes Note lens) file offset
failed-on-then reads words docs acts lens file offset (inl f) = inl (failed-on-sheet-then reads words docs acts lens file offset f)
failed-on-then reads words docs acts lens file offset (inr other) = inr other

-- where the line is written nothing is read, and nothing more of the output is
pub failed-then : (f : HostFault) (file : List ℕ) (offset : ℕ) (acts : List Act) (lens out : List ℕ) → FailedIn (Host file f offset) acts out → FailedIn (Host file f offset) (acts ++ writes Note lens) out
failed-then fault.Doc file offset acts lens out f = tt
failed-then fault.Read file offset acts lens out f = (f.0, f.1 ∙ omega (arith, main_read-append acts (writes Note lens), main_read-writes Note lens))
failed-then fault.Write file offset acts lens out f = f
