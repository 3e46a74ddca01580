-- How a copy of the main document goes on.
use Rattle.std.proofs.Common.{◌≡◌, ℕ, ◌+◌, ◌<◌, ◌≤◌, length, drop, take, List, [], ◌∷◌, ◌++◌, sum, Option, Some, None, IsSome, IfSome, ap, sym, subst, ◌∙◌, refl, arith, length-append, length-drop, length-take, add-zero}
use Rattle.std.specs.Option.{option_map}
use Rattle.std.proofs.lemmas.Bool.{false≢true}
use Rattle.std.proofs.lemmas.List.{append-nil, take-append-le, take_all}
use Rattle.std.proofs.Math.Seq.{take-add, drop-append_seam}
use Rattle.stx_host.specs.declared.act.Act.{Act}
use Rattle.stx_host.specs.declared.act.Act.TheVariants.{Read}
use Rattle.stx_host.specs.declared.act.Got.TheVariants.{Bytes, End, Failed as Unread}
use Rattle.stx_host.specs.declared.act.Lane.TheVariants.{Out}
use Rattle.stx_host.specs.declared.copy.Copying.{Copying}
use Rattle.stx_host.specs.declared.copy.Copying.TheVariants.{Whole, Unread as Unread', Unwritten, Unended}
use Rattle.stx_host.specs.Outside.{Outside, GivesBytes, OutFault, Reads, TellsMain, and_more, writes, wrote}
use Rattle.stx_host.specs.Before.{AtMainReads, Between, Taken, main_read, since}
use Rattle.stx_host.specs.Copy.{CopiesAtReads, CopiesInAll, Copies}
use Rattle.stx_host.proofs.Stretches.{between_joins, between_read, between_writes, between_fault, nothing_between, main_read-append, main_reads_one, main_reads_writes, main_read-writes}

pub since_told : {X : Type 0} (told now : Option (List X)) (more : List X) → IsSome told → now ≡ and_more told more → since told now ≡ more
since_told None now more some e = cc
since_told (Some so_far) now more some e = ap (λ o. since (Some so_far) o) e ∙ drop-append_seam so_far more

-- what a copy keeps at each read
abbrev pub Copied : List ℕ → Taken → Type 0
Copied main taken = (taken.out ≡ take taken.main_read main) × (taken.note ≡ [])

-- a copy of all that was read, in so many reads
pub record CopySoFar (old now : Outside) (main : List ℕ) (rounds : ℕ) : Type 0 where
  pub acts : List Act
  pub between : Between old now acts (take (main_read acts) main) []
  pub reads : AtMainReads acts (take (main_read acts) main) [] (Copied main)
  pub within : main_read acts ≤ length main
  pub each : rounds ≤ main_read acts

pub copy_starts : (old : Outside) (main : List ℕ) → CopySoFar old old main 0
copy_starts old main = record { acts = []; between = nothing_between old; reads = λ k is_read. absurd (false≢true is_read); within = omega arith; each = omega arith }

-- nothing more for `Note`
joined : (a b c : Outside) (acts more : List Act) (out rest : List ℕ) → Between a b acts out [] → Between b c more rest [] → Between a c (acts ++ more) (out ++ rest) []
joined a b c acts more out rest first second = between_joins a b c acts more out rest [] [] first second

-- nothing at all, as at a failing call
pub and_nothing_more : (a b c : Outside) (acts : List Act) (out : List ℕ) → Between a b acts out [] → Between b c [] [] [] → Between a c acts out []
and_nothing_more a b c acts out first second =
    subst (λ outs. Between a c acts outs []) (append-nil out) (subst (λ all. Between a c all (out ++ []) []) (append-nil acts) (joined a b c acts [] out [] first second))

pub one_act : (a b c : Outside) (acts : List Act) (act : Act) (out : List ℕ) → Between a b acts out [] → Between b c (act ∷ []) [] [] → Between a c (acts ++ act ∷ []) out []
one_act a b c acts act out first second = subst (λ outs. Between a c (acts ++ act ∷ []) outs []) (append-nil out) (joined a b c acts (act ∷ []) out [] first second)

-- a read more, before its bytes are written
pub record ReadMore (old mid : Outside) (main room : List ℕ) (n rounds : ℕ) : Type 0 where
  pub acts : List Act
  pub at : ℕ
  pub between : Between old mid acts (take at main) []
  pub reads : AtMainReads acts (take at main) [] (Copied main)
  pub count : main_read acts ≡ at + n
  pub next : drop at main ≡ take n room ++ drop n (drop at main)
  pub within : at + n ≤ length main
  pub each : rounds + 1 ≤ at + n

pub main_left : (old now : Outside) (main : List ℕ) (acts : List Act) (out : List ℕ) → Between old now acts out [] → old.to_come 0 ≡ Some main → now.to_come 0 ≡ Some (drop (main_read acts) main)
main_left old now main acts out between told = between.main ∙ ap (λ o. option_map (λ bytes. drop (main_read acts) bytes) o) told

pub given_of : (to_come : Option (List ℕ)) (bytes room : List ℕ) (n : ℕ) → to_come ≡ Some bytes → GivesBytes to_come n room → bytes ≡ take n room ++ drop n bytes
given_of to_come bytes room n e gives = let given : GivesBytes (Some bytes) n room = subst (λ o. GivesBytes o n room) e gives in given.next

pub fits_of : (bytes room rest : List ℕ) (n : ℕ) → n ≤ length room → bytes ≡ take n room ++ rest → n ≤ length bytes
fits_of bytes room rest n fits e = omega (arith, ap length e, length-append (take n room) rest, length-take n room)

pub read_more : (old now mid : Outside) (main room : List ℕ) (n rounds : ℕ) → TellsMain old main → CopySoFar old now main rounds → GivesBytes (now.to_come 0) n room → Reads now 0 (Bytes n) mid → ReadMore old mid main room n rounds
read_more old now mid main room n rounds tells so_far gives change =
    let acts : List Act = so_far.acts in
    let at : ℕ = main_read acts in
    let told : now.to_come 0 ≡ Some (drop at main) = main_left old now main acts (take at main) so_far.between tells.main_document in
    let next : drop at main ≡ take n room ++ drop n (drop at main) = given_of (now.to_come 0) (drop at main) room n told gives in
    let fits : n ≤ length (drop at main) = fits_of (drop at main) room (drop n (drop at main)) n gives.fits next in
    record {
      acts = acts ++ Read 0 n ∷ [];
      at = at;
      between = one_act old now mid acts (Read 0 n) (take at main) so_far.between (between_read now mid 0 (Bytes n) change);
      reads = main_reads_one acts (Read 0 n) (take at main) [] (Copied main) so_far.between.out_written so_far.between.note_written so_far.reads (λ is_read. (refl, refl));
      count = main_read-append acts (Read 0 n ∷ []) ∙ ap (λ m. at + m) (add-zero n);
      next = next;
      within = omega (arith, length-drop at main, so_far.within);
      each = omega (arith, so_far.each, gives.some);
    }

-- some of the bytes of a read written
pub record WroteMore (old new : Outside) (main : List ℕ) (out : List ℕ) : Type 0 where
  pub acts : List Act
  pub between : Between old new acts out []
  pub reads : AtMainReads acts out [] (Copied main)

pub wrote_more : (old mid : Outside) (main room lens bytes : List ℕ) (n rounds : ℕ) (read : ReadMore old mid main room n rounds) → sum lens ≡ length bytes
    → WroteMore old (wrote mid Out lens bytes) main (take read.at main ++ bytes)
wrote_more old mid main room lens bytes n rounds read total = record {
  acts = read.acts ++ writes Out lens;
  between = joined old mid (wrote mid Out lens bytes) read.acts (writes Out lens) (take read.at main) bytes read.between (between_writes mid (wrote mid Out lens bytes) Out lens bytes total refl);
  reads = main_reads_writes read.acts Out lens (take read.at main) bytes [] [] (Copied main) read.between.out_written read.between.note_written read.reads;
}

front_of : (main room : List ℕ) (at n k : ℕ) → k ≤ n → n ≤ length room → drop at main ≡ take n room ++ drop n (drop at main) → take at main ++ take k (take n room) ≡ take (at + k) main
front_of main room at n k below fits next =
    ap (λ bytes. take at main ++ bytes) (sym (take-append-le k (take n room) (drop n (drop at main)) (omega (arith, length-take n room))) ∙ ap (take k) (sym next)) ∙ sym (take-add at k main)

whole_front : (room : List ℕ) (n : ℕ) → n ≤ length room → take n (take n room) ≡ take n room
whole_front room n fits = take_all n (take n room) (omega (arith, length-take n room))

-- all of them written
pub copy_goes_on : (old mid new : Outside) (main room lens : List ℕ) (n rounds : ℕ) → n ≤ length room → ReadMore old mid main room n rounds → sum lens ≡ length (take n room) → new ≡ wrote mid Out lens (take n room)
    → CopySoFar old new main (rounds + 1)
unfolding wrote_more
copy_goes_on old mid new main room lens n rounds fits read total is =
    let at : ℕ = read.at in
    let more : WroteMore old (wrote mid Out lens (take n room)) main (take at main ++ take n room) = wrote_more old mid main room lens (take n room) n rounds read total in
    let count : main_read (read.acts ++ writes Out lens) ≡ at + n = omega (arith, main_read-append read.acts (writes Out lens), main_read-writes Out lens, read.count) in
    let out : take at main ++ take n room ≡ take (main_read (read.acts ++ writes Out lens)) main =
    ap (λ bytes. take at main ++ bytes) (sym (whole_front room n fits)) ∙ front_of main room at n n (omega arith) fits read.next ∙ ap (λ m. take m main) (sym count) in
    record {
      acts = read.acts ++ writes Out lens;
      between = subst (λ o. Between old o (read.acts ++ writes Out lens) (take (main_read (read.acts ++ writes Out lens)) main) []) (sym is)
          (subst (λ bytes. Between old (wrote mid Out lens (take n room)) (read.acts ++ writes Out lens) bytes []) out more.between);
      reads = subst (λ bytes. AtMainReads (read.acts ++ writes Out lens) bytes [] (Copied main)) out more.reads;
      within = omega (arith, count, read.within);
      each = omega (arith, count, read.each);
    }

pub nothing_left : (to_come : Option (List ℕ)) (bytes : List ℕ) → to_come ≡ Some bytes → IfSome to_come (λ bs. bs ≡ []) → bytes ≡ []
nothing_left to_come bytes e none = let at_bytes : IfSome (Some bytes) (λ bs. bs ≡ []) = subst (λ o. IfSome o (λ bs. bs ≡ [])) e none in at_bytes

-- after a copy so far: what the copy's clauses say
pub record EndsSo (old new : Outside) (main out : List ℕ) : Type 0 where
  pub reads : CopiesAtReads old new main
  pub out_is : since old.out new.out ≡ out
  pub note_is : since old.note new.note ≡ []

ends : (old new : Outside) (main : List ℕ) (acts : List Act) (out : List ℕ) → TellsMain old main → Between old new acts out [] → AtMainReads acts out [] (Copied main) → EndsSo old new main out
ends old new main acts out tells between reads =
    let log_is : since old.log new.log ≡ acts = since_told old.log new.log acts tells.log between.log in
    let out_is : since old.out new.out ≡ out = since_told old.out new.out out tells.out between.out_lane in
    let note_is : since old.note new.note ≡ [] = since_told old.note new.note [] tells.note between.note_lane in
    let all : AtMainReads (since old.log new.log) (since old.out new.out) (since old.note new.note) (Copied main) =
    subst (λ notes. AtMainReads (since old.log new.log) (since old.out new.out) notes (Copied main)) (sym note_is)
    (subst (λ outs. AtMainReads (since old.log new.log) outs [] (Copied main)) (sym out_is)
    (subst (λ log. AtMainReads log out [] (Copied main)) (sym log_is) reads)) in
    record { reads = all; out_is = out_is; note_is = note_is }

copies : (old new : Outside) (main out : List ℕ) (answer : Copying) → EndsSo old new main out → CopiesInAll main answer out → Copies old new main answer
copies old new main out answer ends_so in_all = record { at_reads = ends_so.reads; in_all = subst (CopiesInAll main answer) (sym ends_so.out_is) in_all; no_note = ends_so.note_is }

-- at a read that fails
pub ends_unread : (old now new : Outside) (main : List ℕ) (rounds : ℕ) → TellsMain old main → (so_far : CopySoFar old now main rounds) → Reads now 0 Unread new → EndsSo old new main (take (main_read so_far.acts) main)
ends_unread old now new main rounds tells so_far change =
    let out : List ℕ = take (main_read so_far.acts) main in
    ends old new main so_far.acts out tells (and_nothing_more old now new so_far.acts out so_far.between (between_read now new 0 Unread change)) so_far.reads

-- at the end of the main document
pub ends_whole : (old now new : Outside) (main : List ℕ) (rounds : ℕ) → TellsMain old main → CopySoFar old now main rounds → IfSome (now.to_come 0) (λ bytes. bytes ≡ []) → Reads now 0 End new → EndsSo old new main main
ends_whole old now new main rounds tells so_far at_end change =
    let acts : List Act = so_far.acts in
    let at : ℕ = main_read acts in
    let out : List ℕ = take at main in
    let told : now.to_come 0 ≡ Some (drop at main) = main_left old now main acts out so_far.between tells.main_document in
    let none : drop at main ≡ [] = nothing_left (now.to_come 0) (drop at main) told at_end in
    let whole : out ≡ main = take_all at main (omega (arith, length-drop at main, ap length none)) in
    let between : Between old new (acts ++ Read 0 0 ∷ []) out [] = one_act old now new acts (Read 0 0) out so_far.between (between_read now new 0 End change) in
    let reads : AtMainReads (acts ++ Read 0 0 ∷ []) out [] (Copied main) =
    main_reads_one acts (Read 0 0) out [] (Copied main) so_far.between.out_written so_far.between.note_written so_far.reads (λ is_read. (refl, refl)) in
    subst (λ outs. EndsSo old new main outs) whole (ends old new main (acts ++ Read 0 0 ∷ []) out tells between reads)

-- at a write that fails
pub ends_unwritten : (old mid new : Outside) (main room lens : List ℕ) (n rounds : ℕ) → TellsMain old main → n ≤ length room → (read : ReadMore old mid main room n rounds) → sum lens < length (take n room)
    → OutFault (wrote mid Out lens (take (sum lens) (take n room))) new → EndsSo old new main (take (read.at + sum lens) main)
ends_unwritten old mid new main room lens n rounds tells fits read some fault =
    let k : ℕ = sum lens in
    let bytes : List ℕ = take k (take n room) in
    let total : sum lens ≡ length bytes = omega (arith, length-take k (take n room)) in
    let more : WroteMore old (wrote mid Out lens bytes) main (take read.at main ++ bytes) = wrote_more old mid main room lens bytes n rounds read total in
    let between = and_nothing_more old (wrote mid Out lens bytes) new more.acts (take read.at main ++ bytes) more.between (between_fault (wrote mid Out lens bytes) new Out fault) in
    subst (λ outs. EndsSo old new main outs) (front_of main room read.at n k (omega (arith, length-take n room)) fits read.next)
    (ends old new main more.acts (take read.at main ++ bytes) tells between more.reads)

pub copies_whole : (old now new : Outside) (main : List ℕ) (rounds : ℕ) → TellsMain old main → CopySoFar old now main rounds → IfSome (now.to_come 0) (λ bytes. bytes ≡ []) → Reads now 0 End new → Copies old new main Whole
copies_whole old now new main rounds tells so_far at_end change = copies old new main main Whole (ends_whole old now new main rounds tells so_far at_end change) refl

pub copies_unread : (old now new : Outside) (main : List ℕ) (rounds : ℕ) → TellsMain old main → CopySoFar old now main rounds → Reads now 0 Unread new → Copies old new main Unread'
copies_unread old now new main rounds tells so_far change =
    copies old new main (take (main_read so_far.acts) main) Unread' (ends_unread old now new main rounds tells so_far change) (main_read so_far.acts, refl)

pub copies_unwritten : (old now mid new : Outside) (main room lens : List ℕ) (n rounds : ℕ) → TellsMain old main → CopySoFar old now main rounds → GivesBytes (now.to_come 0) n room → Reads now 0 (Bytes n) mid
    → sum lens < length (take n room) → OutFault (wrote mid Out lens (take (sum lens) (take n room))) new → Copies old new main Unwritten
copies_unwritten old now mid new main room lens n rounds tells so_far gives change some fault =
    let read : ReadMore old mid main room n rounds = read_more old now mid main room n rounds tells so_far gives change in
    copies old new main (take (read.at + sum lens) main) Unwritten (ends_unwritten old mid new main room lens n rounds tells gives.fits read some fault) (read.at + sum lens, refl)

pub copies_so_far : (old now : Outside) (main : List ℕ) (rounds : ℕ) → TellsMain old main → CopySoFar old now main rounds → Copies old now main Unended
copies_so_far old now main rounds tells so_far =
    let out : List ℕ = take (main_read so_far.acts) main in
    copies old now main out Unended (ends old now main so_far.acts out tells so_far.between so_far.reads) (main_read so_far.acts, refl)

-- a read whose bytes were all written
pub copy_step : (old now mid new : Outside) (main room lens : List ℕ) (n rounds : ℕ) → TellsMain old main → CopySoFar old now main rounds → GivesBytes (now.to_come 0) n room → Reads now 0 (Bytes n) mid
    → sum lens ≡ length (take n room) → new ≡ wrote mid Out lens (take n room) → CopySoFar old new main (rounds + 1)
copy_step old now mid new main room lens n rounds tells so_far gives change total is =
    copy_goes_on old mid new main room lens n rounds gives.fits (read_more old now mid main room n rounds tells so_far gives change) total is
