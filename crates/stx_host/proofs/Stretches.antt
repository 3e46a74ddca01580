-- What one call or many did, from one moment to another, and what holds at main reads.
use Rattle.std.proofs.Common.{◌≡◌, ℕ, zero, suc, ◌==◌, ◌+◌, ◌<◌, ◌≤◌, Bool, true, false, length, drop, take, List, [], ◌∷◌, ◌++◌, sum, Option, Some, None, slice_get, IsTrue, ap, sym, subst, ◌∙◌, refl, arith, inl, inr, if◌then◌else◌, append_assoc, length-append, add-zero, zero-add, ◌-◌}
use Rattle.std.specs.Option.{option_map, option_map_or, option_and_then}
use Rattle.std.proofs.lemmas.Bool.{cases_eq, cases_lt, false≢true}
use Rattle.std.proofs.lemmas.Bool.Decides.{nat_tests}
use Rattle.std.proofs.lemmas.List.{append-nil, map-append, drop-drop, take-append-le, take-append-drop}
use Rattle.std.proofs.Math.Seq.{take-append-add}
use Rattle.std.proofs.lemmas.List.Recursion.{is_sum_by}
use Rattle.stx_host.specs.declared.act.Act.{Act}
use Rattle.stx_host.specs.declared.act.Act.TheVariants.{Open, Read, Close, Write}
use Rattle.stx_host.specs.declared.act.Got.TheVariants.{Bytes, End, Failed as Unread}
use Rattle.stx_host.specs.declared.act.Lane.{Lane}
use Rattle.stx_host.specs.declared.act.Lane.TheVariants.{Out, Note}
use Rattle.stx_host.specs.declared.act.Opened.TheVariants.{Id, Absent, Failed, Memory}
use Rattle.stx_host.specs.Outside.{Outside, and_more, with_bytes, document, opened, closed, writes, wrote}
use Rattle.stx_host.specs.Before.{AtMainReads, Between, Taken, before, is_main_read, main_read, written}
use Rattle.stx_host.specs.Laws.{NothingBetween, BetweenJoins, BetweenOpen, BetweenRead, BetweenClose, BetweenWrites, BetweenFault, open_acts, and_then}
use Rattle.stx_host.proofs.ToCome.{with_other}

pub and_nothing : {X : Type 0} (told : Option (List X)) → told ≡ and_more told []
and_nothing None = refl
and_nothing (Some xs) = ap (λ ys. Some ys) (sym (append-nil xs))

and_more_twice : {X : Type 0} (told : Option (List X)) (xs ys : List X) → and_more (and_more told xs) ys ≡ and_more told (xs ++ ys)
and_more_twice None xs ys = refl
and_more_twice (Some so_far) xs ys = ap (λ zs. Some zs) (append_assoc so_far xs ys)

drop_nothing : (told : Option (List ℕ)) → told ≡ option_map (λ bytes. drop 0 bytes) told
drop_nothing None = refl
drop_nothing (Some bytes) = refl

drop_twice : (told : Option (List ℕ)) (m n : ℕ) → option_map (λ bytes. drop n bytes) (option_map (λ bytes. drop m bytes) told) ≡ option_map (λ bytes. drop (m + n) bytes) told
drop_twice None m n = refl
drop_twice (Some bytes) m n = ap (λ zs. Some zs) (drop-drop n m bytes)

pub written-append : (lane : Lane) (xs ys : List Act) → written lane (xs ++ ys) ≡ written lane xs + written lane ys
written-append lane [] ys = omega arith
written-append lane (act ∷ xs) ys = omega (arith, written-append lane xs ys)

pub main_read-append : (xs ys : List Act) → main_read (xs ++ ys) ≡ main_read xs + main_read ys
main_read-append [] ys = omega arith
main_read-append (act ∷ xs) ys = omega (arith, main_read-append xs ys)

pub nothing_between : NothingBetween
nothing_between o = record {
  documents = refl;
  main = drop_nothing (o.to_come 0);
  log = and_nothing o.log;
  out_lane = and_nothing o.out;
  note_lane = and_nothing o.note;
  room = refl;
  out_written = refl;
  note_written = refl;
}

long_enough : (lane : Lane) (xs ys : List Act) (bytes more : List ℕ) → length bytes ≡ written lane xs → length more ≡ written lane ys → length (bytes ++ more) ≡ written lane (xs ++ ys)
long_enough lane xs ys bytes more e f = rw (length-append, written-append) (omega arith)

pub between_joins : BetweenJoins
between_joins a b c acts acts' out out' note note' first second = record {
  documents = second.documents ∙ first.documents;
  main = second.main ∙ ap (λ o. option_map (λ bytes. drop (main_read acts') bytes) o) first.main ∙ drop_twice (a.to_come 0) (main_read acts) (main_read acts')
      ∙ ap (λ n. option_map (λ bytes. drop n bytes) (a.to_come 0)) (sym (main_read-append acts acts'));
  log = second.log ∙ ap (λ o. and_more o acts') first.log ∙ and_more_twice a.log acts acts';
  out_lane = second.out_lane ∙ ap (λ o. and_more o out') first.out_lane ∙ and_more_twice a.out out out';
  note_lane = second.note_lane ∙ ap (λ o. and_more o note') first.note_lane ∙ and_more_twice a.note note note';
  room = second.room ∙ first.room;
  out_written = long_enough Out acts acts' out out' first.out_written second.out_written;
  note_written = long_enough Note acts acts' note note' first.note_written second.note_written;
}

-- acts that gave nothing to the lanes
without_lanes : (old new : Outside) (acts : List Act) → new.documents ≡ old.documents → new.to_come 0 ≡ option_map (λ bytes. drop (main_read acts) bytes) (old.to_come 0)
    → new.log ≡ and_more old.log acts → new.out ≡ old.out → new.note ≡ old.note → new.room ≡ old.room → 0 ≡ written Out acts → 0 ≡ written Note acts → Between old new acts [] []
without_lanes old new acts documents main log out note room no_out no_note = record {
  documents = documents;
  main = main;
  log = log;
  out_lane = out ∙ and_nothing old.out;
  note_lane = note ∙ and_nothing old.note;
  room = room;
  out_written = no_out;
  note_written = no_note;
}

doc_fault : (o : Outside) (n : ℕ) → Between o (record o { doc_faults = n }) [] [] []
doc_fault o n = without_lanes o (record o { doc_faults = n }) [] refl (drop_nothing (o.to_come 0)) (and_nothing o.log) refl refl refl refl refl

main_fault : (o : Outside) (n : ℕ) → Between o (record o { main_faults = n }) [] [] []
main_fault o n = without_lanes o (record o { main_faults = n }) [] refl (drop_nothing (o.to_come 0)) (and_nothing o.log) refl refl refl refl refl

out_fault : (o : Outside) (n : ℕ) → Between o (record o { out_faults = n }) [] [] []
out_fault o n = without_lanes o (record o { out_faults = n }) [] refl (drop_nothing (o.to_come 0)) (and_nothing o.log) refl refl refl refl refl

note_fault : (o : Outside) (n : ℕ) → Between o (record o { note_faults = n }) [] [] []
note_fault o n = without_lanes o (record o { note_faults = n }) [] refl (drop_nothing (o.to_come 0)) (and_nothing o.log) refl refl refl refl refl

-- what holds of a moment holds of one that is the same
at_same : (old new new' : Outside) (acts : List Act) (out note : List ℕ) → new ≡ new' → Between old new' acts out note → Between old new acts out note
at_same old new new' acts out note e between = subst (λ o. Between old o acts out note) (sym e) between

is_not_zero : (id : ℕ) → 0 < id → (id == 0) ≡ false
is_not_zero id h = grind (arith, nat_tests)

zero_is_other : (to_come : ℕ → Option (List ℕ)) (id : ℕ) (bytes : Option (List ℕ)) → 0 < id → with_bytes to_come id bytes 0 ≡ option_map (λ bs. drop 0 bs) (to_come 0)
zero_is_other to_come id bytes h = with_other to_come id bytes 0 (λ e. absurd (omega arith)) ∙ drop_nothing (to_come 0)

pub between_open : BetweenOpen
between_open old new name (Id id) may e =
    at_same old new (opened old name id) (open_acts old name (Id id)) [] [] e
    (without_lanes old (opened old name id) (open_acts old name (Id id)) refl (zero_is_other old.to_come id (option_and_then (λ docs. document docs name) old.documents) may.above_zero) refl refl refl refl refl refl)
between_open old new name Absent may e =
    at_same old new (record old { log = and_more old.log (Open None 0 ∷ []) }) (Open None 0 ∷ []) [] [] e
    (without_lanes old (record old { log = and_more old.log (Open None 0 ∷ []) }) (Open None 0 ∷ []) refl (drop_nothing (old.to_come 0)) refl refl refl refl refl refl)
between_open old new name Failed may fault = at_same old new (record old { doc_faults = new.doc_faults }) [] [] [] fault.alone (doc_fault old new.doc_faults)
between_open old new name Memory may e = at_same old new old [] [] [] e (nothing_between old)

-- what a read of an id leaves of the main document
left_at : (to_come : ℕ → Option (List ℕ)) (id n : ℕ) → with_bytes to_come id (option_map (λ bytes. drop n bytes) (to_come id)) 0 ≡ option_map (λ bytes. drop ((if id == 0 then n else 0) + 0) bytes) (to_come 0)
left_at to_come zero n = ap (λ m. option_map (λ bytes. drop m bytes) (to_come 0)) (sym (add-zero n))
left_at to_come (suc id) n = zero_is_other to_come (suc id) (option_map (λ bytes. drop n bytes) (to_come (suc id))) (omega arith)
    ∙ ap (λ b. option_map (λ bytes. drop ((if b then n else 0) + 0) bytes) (to_come 0)) (sym (is_not_zero (suc id) (omega arith)))

none_read : (b : Bool) → (if b then 0 else 0) + 0 ≡ 0
none_read true = refl
none_read false = refl

pub between_read : BetweenRead
between_read old new id (Bytes n) e =
    let after : Outside = record old { log = and_more old.log (Read id n ∷ []); to_come = with_bytes old.to_come id (option_map (λ bytes. drop n bytes) (old.to_come id)) } in
    at_same old new after (Read id n ∷ []) [] [] e (without_lanes old after (Read id n ∷ []) refl (left_at old.to_come id n) refl refl refl refl refl refl)
between_read old new id End e =
    let after : Outside = record old { log = and_more old.log (Read id 0 ∷ []) } in
    at_same old new after (Read id 0 ∷ []) [] [] e (without_lanes old after (Read id 0 ∷ []) refl
    (drop_nothing (old.to_come 0) ∙ ap (λ m. option_map (λ bytes. drop m bytes) (old.to_come 0)) (sym (none_read (id == 0)))) refl refl refl refl refl refl)
between_read old new id Unread fault = elim (cases_eq id 0) [
  | inl e ↦ at_same old new (record old { main_faults = new.main_faults }) [] [] [] (fault.main e).alone (main_fault old new.main_faults)
  | inr h ↦ at_same old new (record old { doc_faults = new.doc_faults }) [] [] [] (fault.doc (omega arith)).alone (doc_fault old new.doc_faults)
]

pub between_close : BetweenClose
between_close old new id above change =
    let noted : Outside = record (closed old id) { log = and_more old.log (Close id ∷ []) } in
    let main = zero_is_other old.to_come id None above in
    elim change [
      | inl e ↦ inl (at_same old new noted (Close id ∷ []) [] [] e (without_lanes old noted (Close id ∷ []) refl main refl refl refl refl refl refl))
      | inr e ↦ inr (at_same old new (closed old id) [] [] [] e (without_lanes old (closed old id) [] refl main (and_nothing old.log) refl refl refl refl refl))
    ]

written-writes : (lane : Lane) (lens : List ℕ) → sum lens ≡ written lane (writes lane lens)
written-writes Out lens = sym (is_sum_by (λ ns. written Out (writes Out ns)) (λ n. n) refl (λ _ _. refl) lens)
written-writes Note lens = sym (is_sum_by (λ ns. written Note (writes Note ns)) (λ n. n) refl (λ _ _. refl) lens)

out-writes : (lens : List ℕ) → 0 ≡ written Out (writes Note lens)
out-writes [] = refl
out-writes (n ∷ lens) = omega (arith, out-writes lens)

note-writes : (lens : List ℕ) → 0 ≡ written Note (writes Out lens)
note-writes [] = refl
note-writes (n ∷ lens) = omega (arith, note-writes lens)

pub main_read-writes : (lane : Lane) (lens : List ℕ) → 0 ≡ main_read (writes lane lens)
main_read-writes lane [] = refl
main_read-writes lane (n ∷ lens) = omega (arith, main_read-writes lane lens)

pub between_writes : BetweenWrites
between_writes old new Out lens bytes e is = at_same old new (wrote old Out lens bytes) (writes Out lens) bytes [] is (record {
  documents = refl;
  main = drop_nothing (old.to_come 0) ∙ ap (λ m. option_map (λ bs. drop m bs) (old.to_come 0)) (main_read-writes Out lens);
  log = refl;
  out_lane = refl;
  note_lane = and_nothing old.note;
  room = refl;
  out_written = sym e ∙ written-writes Out lens;
  note_written = note-writes lens;
})
between_writes old new Note lens bytes e is = at_same old new (wrote old Note lens bytes) (writes Note lens) [] bytes is (record {
  documents = refl;
  main = drop_nothing (old.to_come 0) ∙ ap (λ m. option_map (λ bs. drop m bs) (old.to_come 0)) (main_read-writes Note lens);
  log = refl;
  out_lane = and_nothing old.out;
  note_lane = refl;
  room = refl;
  out_written = out-writes lens;
  note_written = sym e ∙ written-writes Note lens;
})

pub between_fault : BetweenFault
between_fault old new Out fault = at_same old new (record old { out_faults = new.out_faults }) [] [] [] fault.alone (out_fault old new.out_faults)
between_fault old new Note fault = at_same old new (record old { note_faults = new.note_faults }) [] [] [] fault.alone (note_fault old new.note_faults)

written-take : (lane : Lane) (acts : List Act) (k : ℕ) → written lane (take k acts) ≤ written lane acts
written-take lane acts k = omega (arith, written-append lane (take k acts) (drop k acts), ap (written lane) (take-append-drop k acts))

some_front : (acts acts' : List Act) (out out' note note' : List ℕ) (k : ℕ) → length out ≡ written Out acts → length note ≡ written Note acts → k < length acts
    → before (acts ++ acts') (out ++ out') (note ++ note') k ≡ before acts out note k
some_front acts acts' out out' note note' k e f h =
    let front : take k (acts ++ acts') ≡ take k acts = take-append-le k acts acts' (omega arith) in
    let of_out = take-append-le (written Out (take k acts)) out out' (omega (arith, written-take Out acts k)) in
    let of_note = take-append-le (written Note (take k acts)) note note' (omega (arith, written-take Note acts k)) in
    (λ i. record { out = take (written Out (front i)) (out ++ out'); note = take (written Note (front i)) (note ++ note'); main_read = main_read (front i) })
    ∙ (λ i. record { out = of_out i; note = of_note i; main_read = main_read (take k acts) })

take_back : (lane : Lane) (acts acts' : List Act) (bytes bytes' : List ℕ) → length bytes ≡ written lane acts → take (written lane (acts ++ acts')) (bytes ++ bytes') ≡ bytes ++ take (written lane acts') bytes'
take_back lane acts acts' bytes bytes' e =
    ap (λ n. take n (bytes ++ bytes')) (written-append lane acts acts' ∙ ap (λ n. n + written lane acts') (sym e)) ∙ take-append-add bytes bytes' (written lane acts')

some_back : (acts acts' : List Act) (out out' note note' : List ℕ) (j : ℕ) → length out ≡ written Out acts → length note ≡ written Note acts
    → before (acts ++ acts') (out ++ out') (note ++ note') (length acts + j) ≡ and_then (record { out = out; note = note; main_read = main_read acts }) (before acts' out' note' j)
some_back acts acts' out out' note note' j e f =
    let back : take (length acts + j) (acts ++ acts') ≡ acts ++ take j acts' = take-append-add acts acts' j in
    (λ i. record { out = take (written Out (back i)) (out ++ out'); note = take (written Note (back i)) (note ++ note'); main_read = main_read (back i) })
    ∙ (λ i. record { out = take_back Out acts (take j acts') out out' e i; note = take_back Note acts (take j acts') note note' f i; main_read = main_read-append acts (take j acts') i })

suc-add : (m n : ℕ) → suc m + n ≡ suc (m + n)
suc-add m n = omega arith

get-front : {X : Type 0} (xs ys : List X) (k : ℕ) → k < length xs → slice_get (xs ++ ys) k ≡ slice_get xs k
get-front [] ys k h = absurd (omega arith)
get-front (x ∷ xs) ys zero h = refl
get-front (x ∷ xs) ys (suc k) h = get-front xs ys k (omega arith)

get-back : {X : Type 0} (xs ys : List X) (j : ℕ) → slice_get (xs ++ ys) (length xs + j) ≡ slice_get ys j
get-back [] ys j = ap (slice_get ys) (zero-add j)
get-back (x ∷ xs) ys j = ap (slice_get (x ∷ (xs ++ ys))) (suc-add (length xs) j) ∙ get-back xs ys j

-- P at each main read of two stretches of time, where it holds in the first, and in the second after all of the first
pub main_reads_join : (acts acts' : List Act) (out out' note note' : List ℕ) (P : Taken → Type 0) → length out ≡ written Out acts → length note ≡ written Note acts
    → AtMainReads acts out note P → AtMainReads acts' out' note' (λ taken. P (and_then (record { out = out; note = note; main_read = main_read acts }) taken))
    → AtMainReads (acts ++ acts') (out ++ out') (note ++ note') P
main_reads_join acts acts' out out' note note' P e f first second k is_read = elim (cases_lt k (length acts)) [
  | inl h ↦ subst P (sym (some_front acts acts' out out' note note' k e f h)) (first k (ap (λ o. option_map_or is_main_read o false) (sym (get-front acts acts' k h)) ∙ is_read))
  | inr h ↦
      let j : ℕ = k - length acts in
      let at : k ≡ length acts + j = omega arith in
      let read_at : option_map_or is_main_read (slice_get acts' j) false ≡ true =
      ap (λ o. option_map_or is_main_read o false) (sym (get-back acts acts' j) ∙ ap (slice_get (acts ++ acts')) (sym at)) ∙ is_read in
      subst P (sym (ap (before (acts ++ acts') (out ++ out') (note ++ note')) at ∙ some_back acts acts' out out' note note' j e f)) (second j read_at)
]

no_read : (lane : Lane) (lens : List ℕ) (k : ℕ) → option_map_or is_main_read (slice_get (writes lane lens) k) false ≡ false
no_read lane [] k = refl
no_read lane (n ∷ lens) zero = refl
no_read lane (n ∷ lens) (suc k) = no_read lane lens k

-- writes read nothing
pub main_reads_writes : (acts : List Act) (lane : Lane) (lens out out' note note' : List ℕ) (P : Taken → Type 0) → length out ≡ written Out acts → length note ≡ written Note acts
    → AtMainReads acts out note P → AtMainReads (acts ++ writes lane lens) (out ++ out') (note ++ note') P
main_reads_writes acts lane lens out out' note note' P e f first =
    main_reads_join acts (writes lane lens) out out' note note' P e f first (λ k is_read. absurd (false≢true (sym (no_read lane lens k) ∙ is_read)))

past_one : (acts : List Act) (act : Act) (out note : List ℕ) (P : Taken → Type 0) → (IsTrue (is_main_read act) → P (record { out = out; note = note; main_read = main_read acts }))
    → AtMainReads (act ∷ []) [] [] (λ taken. P (and_then (record { out = out; note = note; main_read = main_read acts }) taken))
past_one acts act out note P here zero is_read =
    let same : record { out = out; note = note; main_read = main_read acts } ≡ and_then (record { out = out; note = note; main_read = main_read acts }) (before (act ∷ []) [] [] 0) =
    λ i. record { out = sym (append-nil out) i; note = sym (append-nil note) i; main_read = sym (add-zero (main_read acts)) i } in
    subst P same (here is_read)
past_one acts act out note P here (suc k) is_read = absurd (false≢true is_read)

-- one act more that gives the lanes nothing
pub main_reads_one : (acts : List Act) (act : Act) (out note : List ℕ) (P : Taken → Type 0) → length out ≡ written Out acts → length note ≡ written Note acts
    → AtMainReads acts out note P → (IsTrue (is_main_read act) → P (record { out = out; note = note; main_read = main_read acts })) → AtMainReads (acts ++ act ∷ []) out note P
main_reads_one acts act out note P e f first here =
    let joined = main_reads_join acts (act ∷ []) out [] note [] P e f first (past_one acts act out note P here) in
    subst (λ notes. AtMainReads (acts ++ act ∷ []) out notes P) (append-nil note) (subst (λ outs. AtMainReads (acts ++ act ∷ []) outs (note ++ []) P) (append-nil out) joined)

writes-append : (lane : Lane) (xs ys : List ℕ) → writes lane (xs ++ ys) ≡ writes lane xs ++ writes lane ys
writes-append lane xs ys = map-append (λ len. Write lane len) xs ys

more_writes : (lane : Lane) (told : Option (List Act)) (lens more : List ℕ) → and_more (and_more told (writes lane lens)) (writes lane more) ≡ and_more told (writes lane (lens ++ more))
more_writes lane told lens more = and_more_twice told (writes lane lens) (writes lane more) ∙ ap (and_more told) (sym (writes-append lane lens more))

-- writes and then writes
pub wrote_twice : (old : Outside) (lane : Lane) (lens more bytes rest : List ℕ) → wrote (wrote old lane lens bytes) lane more rest ≡ wrote old lane (lens ++ more) (bytes ++ rest)
wrote_twice old Out lens more bytes rest = λ i. record old { log = more_writes Out old.log lens more i; out = and_more_twice old.out bytes rest i }
wrote_twice old Note lens more bytes rest = λ i. record old { log = more_writes Note old.log lens more i; note = and_more_twice old.note bytes rest i }

-- no writes
pub wrote_nothing : (old : Outside) (lane : Lane) → old ≡ wrote old lane [] []
wrote_nothing old Out = λ i. record old { log = and_nothing old.log i; out = and_nothing old.out i }
wrote_nothing old Note = λ i. record old { log = and_nothing old.log i; note = and_nothing old.note i }
