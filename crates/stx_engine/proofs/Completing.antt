-- Where a host that tells what it has room for fails, it lacked room.
use Rattle.std.proofs.Common.{◌≡◌, ◌≢◌, inl, inr, ℕ, ◌+◌, List, [], ◌++◌, length, take, sum, IsSome, arith, refl, sym, ap, ◌∙◌, subst, length-append, length-take}
use Rattle.std.proofs.lemmas.List.{length-map}
use Rattle.stx_base.specs.Course.{Begins}
use Rattle.fault_report.specs.Line.{line_of}
use Rattle.fault_report.specs.declared.outcome.Outcome.TheVariants.{Done, Fuel, Host, Memory, Run, Sheet, Usage, Xml}
use Rattle.sheet_loader.specs.Values.{Reads}
use Rattle.stx_host.proofs.CopiedSoFar.{since_told}
use Rattle.stx_host.proofs.Lacking.{lacks_more, lacks_since, needs_for}
use Rattle.stx_host.proofs.Stretches.{and_nothing, between_joins, between_writes}
use Rattle.stx_host.specs.Before.{Between, since}
use Rattle.stx_host.specs.Outside.{LacksRoom, Outside, SameCounts, for_writes, writes, wrote}
use Rattle.stx_host.specs.Rooms.{needed}
use Rattle.stx_host.specs.declared.act.Act.{Act}
use Rattle.stx_host.specs.declared.act.Act.TheVariants.{Write}
use Rattle.stx_host.specs.declared.act.Doc.{Doc}
use Rattle.stx_host.specs.declared.act.Lane.TheVariants.{Note}
use Rattle.sheet_runs.proofs.Lacking.{first_fewer, needs_all}
use Rattle.stx_engine.specs.Answer.{Answer}
use Rattle.stx_engine.specs.Headline.{FailsForRoom, last_line}
use Rattle.stx_engine.specs.RunEnd.{line_in, outcome_in, status_in}
use Rattle.stx_engine.specs.Running.{CountsIn, IfFailed, IsAnswered, Reports, RunsAnswered, UnlessFailed, unwritten_status}
use Rattle.stx_engine.specs.declared.run_end.RunEnd.{RunEnd}
use Rattle.stx_engine.specs.declared.run_end.RunEnd.TheVariants.{Sampled, Told, Unnoted}
use Rattle.sheet_runs.proofs.Stepping.{counts-then}
use Rattle.stx_engine.proofs.Headed.{EndsItself, answered, own_same, own_status, own_unwritten}
use Rattle.stx_engine.proofs.LastLine.{reported}
use Rattle.stx_engine.proofs.Prefixes.{begins_all}

module _ (old mid new : Outside) (log : IsSome old.log) (acts : List Act) (out note : List ℕ) (between : Between old mid acts out note) (ids : mid.open_ids ≡ old.open_ids)
    (a : Answer) (of_out : Begins out a.out) (of_note : Begins note a.messages) (result : ℕ) where
  -- what was done in all
  all-acts : (line : List ℕ) (status : ℕ) (reports : Reports mid line status new result) → since old.log new.log ≡ acts ++ writes Note (reported mid new line status result reports).lens
  all-acts line status reports =
      let r = reported mid new line status result reports in
      since_told old.log new.log (acts ++ writes Note r.lens) log (between_joins old mid new acts (writes Note r.lens) out [] note r.note between r.between).log

  -- the host failed before the last line
  lacked : (line : List ℕ) (status : ℕ) → Reports mid line status new result → LacksRoom old (needed acts a.out a.messages) → FailsForRoom old new result a
  lacked line status reports lacks =
      let more = writes Note (reported mid new line status result reports).lens in
      inr (subst (λ acts. LacksRoom old (needed acts a.out (a.messages ++ last_line result a))) (sym (all-acts line status reports))
      (needs_all old (acts ++ more) a.out a.out a.messages (a.messages ++ last_line result a) (begins_all a.out) (last_line result a, refl) (needs_for old acts more a.out a.messages lacks)))

  -- it failed at the last line, or not at all
  reaches : (line : List ℕ) (status : ℕ) → SameCounts old mid → status ≢ 5 → (result ≡ unwritten_status status → last_line result a ≡ line) → Reports mid line status new result → FailsForRoom old new result a
  reaches line status same five said (inl whole) = inl (
    counts-then old mid new same (record {
      doc = ap (λ (o : Outside). o.doc_faults) whole.2;
      main = ap (λ (o : Outside). o.main_faults) whole.2;
      out = ap (λ (o : Outside). o.out_faults) whole.2;
      note = ap (λ (o : Outside). o.note_faults) whole.2;
    }),
    λ is. five (sym whole.3 ∙ is),
  )
  reaches line status same five said (inr cut) =
      let lens = cut.0 in
      let bytes = take cut.1 line in
      let some = wrote mid Note lens bytes in
      let total : sum lens ≡ length bytes = omega (arith, cut.2, cut.3, length-take cut.1 line) in
      let joined = between_joins old mid some acts (writes Note lens) out [] note bytes between (between_writes mid some Note lens bytes total refl) in
      let log_is : since old.log new.log ≡ acts ++ writes Note lens = since_told old.log new.log (acts ++ writes Note lens) log (ap (λ (o : Outside). o.log) cut.4.alone ∙ joined.log) in
      let all = for_writes Note lens (length line) in
      inr (subst (λ acts. LacksRoom old (needed acts a.out (a.messages ++ last_line result a))) (sym log_is)
      (lacks_more old (record { acts = length acts + all.acts; ids = 0; out = length out + 0; note = length note + length line }) (needed (acts ++ writes Note lens) a.out (a.messages ++ last_line result a))
      (omega (arith, length-append acts (writes Note lens), length-map lens (λ len. Write Note len))) (omega arith) (omega (arith, first_fewer out a.out of_out))
      (omega (arith, first_fewer note a.messages of_note, length-append a.messages (last_line result a), ap length (said cut.5)))
      (lacks_since old mid acts out note [] all between (ids ∙ and_nothing old.open_ids) cut.6)))

  -- a run that ended by itself ends in the answer's line
  own : (e : RunEnd) → EndsItself e → CountsIn e old mid → UnlessFailed (outcome_in e) (IsAnswered out note e a) → Reports mid (line_in e) (status_in e) new result → FailsForRoom old new result a
  own e itself counts ends reports =
      let is = answered e itself (IsAnswered out note e a) ends in
      reaches (line_in e) (status_in e) (own_same old mid e itself counts) (λ five. own_status e itself (inl five))
      (λ cut. ap (λ n. last_line n a) (cut ∙ own_unwritten e itself) ∙ sym (ap line_in is.is)) reports

  by : (e : RunEnd) → CountsIn e old mid → IfFailed e old mid (LacksRoom old (needed acts a.out a.messages)) → UnlessFailed (outcome_in e) (IsAnswered out note e a) → Reports mid (line_in e) (status_in e) new result → FailsForRoom old new result a
  by (Told (Host file f offset)) counts lacks ends reports = lacked (line_of (Host file f offset)) 5 reports lacks
  by (Told Memory) counts (inl same) ends reports = reaches (line_of Memory) 7 same (λ is. omega (arith, is)) (λ is. ap (λ n. last_line n a) is) reports
  by (Told Memory) counts (inr lacks) ends reports = lacked (line_of Memory) 7 reports lacks
  by Unnoted counts lacks ends reports = lacked [] 5 reports lacks
  by (Told Done) counts lacks ends reports = own (Told Done) tt counts ends reports
  by (Told Usage) counts lacks ends reports = own (Told Usage) tt counts ends reports
  by (Told (Sheet reason)) counts lacks ends reports = own (Told (Sheet reason)) tt counts ends reports
  by (Told (Run file code offset)) counts lacks ends reports = own (Told (Run file code offset)) tt counts ends reports
  by (Told (Xml file fault)) counts lacks ends reports = own (Told (Xml file fault)) tt counts ends reports
  by (Told (Fuel file offset)) counts lacks ends reports = own (Told (Fuel file offset)) tt counts ends reports
  by (Sampled s) counts lacks ends reports = own (Sampled s) tt counts ends reports

pub fails-for-room : (old mid new : Outside) (end : RunEnd) → mid.open_ids ≡ old.open_ids → CountsIn end old mid → (result : ℕ) → Reports mid (line_in end) (status_in end) new result
    → (reads : Reads) (words : List (List ℕ)) (docs : List Doc) (main : List ℕ) → IsSome old.log → (a : Answer) → RunsAnswered reads words docs main old mid end a → FailsForRoom old new result a
fails-for-room old mid new end ids counts result reports reads words docs main log a r =
    by old mid new log r.acts r.out r.note r.between ids a r.begins.0 r.begins.1 result end counts r.room r.ends reports
