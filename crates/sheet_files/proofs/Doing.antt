-- What acts do, one stretch of time after another.
use Rattle.std.proofs.Common.{◌≡◌, ℕ, ◌<◌, ◌≤◌, nat_lt, arith, Bool, false, ◌==◌, ◌||◌, List, [], ◌∷◌, ◌++◌, Option, refl, sym, ap, subst, ◌∙◌, inl, inr}
use Rattle.std.proofs.lemmas.Bool.{ne_eqb}
use Rattle.std.proofs.lemmas.Bool.Decides.{nat_tests}
use Rattle.stx_host.proofs.Stretches.{between_close, between_joins, between_open, between_read, nothing_between}
use Rattle.stx_host.specs.Before.{is_main_read}
use Rattle.stx_host.specs.Laws.{Later, open_acts}
use Rattle.stx_host.specs.Outside.{Closes, DocFault, MayOpen, Opens, Outside, Reads, ReadFault, Rose, SameCounts}
use Rattle.stx_host.specs.declared.act.Act.{Act}
use Rattle.stx_host.specs.declared.act.Act.TheVariants.{Close, Open, Read, Write}
use Rattle.stx_host.specs.declared.act.Got.TheVariants.{Bytes, End, Failed as Unread}
use Rattle.stx_host.specs.declared.act.Opened.{Opened}
use Rattle.stx_host.specs.declared.act.Opened.TheVariants.{Absent, Failed, Id, Memory}
use Rattle.sheet_files.specs.Acts.{given_behind, is_long_read, is_write, opens, read_behind}
use Rattle.sheet_files.specs.Held.{HaveDone}
use Rattle.sheet_files.specs.Steps.{AreCloses, HasFailed}
use Rattle.sheet_files.proofs.Acting.{none_more}

pub done_then : (a b c : Outside) (acts more : List Act) → HaveDone a b acts → HaveDone b c more → HaveDone a c (acts ++ more)
done_then a b c acts more x y =
    record {
      between = between_joins a b c acts more [] [] [] [] x.between y.between;
      no_write = none_more is_write acts more x.no_write y.no_write;
      no_main_read = none_more is_main_read acts more x.no_main_read y.no_main_read;
      no_long_read = none_more is_long_read acts more x.no_long_read y.no_long_read;
    }

pub done_nothing : (o : Outside) → HaveDone o o []
done_nothing o = record { between = nothing_between o; no_write = refl; no_main_read = refl; no_long_read = refl }

-- acts of a call of `open`
pub done_open : (o p : Outside) (name : List ℕ) (answer : Opened) → MayOpen o name answer → Opens o name answer p → HaveDone o p (open_acts o name answer)
done_open o p name (Id id) may opens = record { between = between_open o p name (Id id) may opens; no_write = refl; no_main_read = refl; no_long_read = refl }
done_open o p name Absent may opens = record { between = between_open o p name Absent may opens; no_write = refl; no_main_read = refl; no_long_read = refl }
done_open o p name Failed may opens = record { between = between_open o p name Failed may opens; no_write = refl; no_main_read = refl; no_long_read = refl }
done_open o p name Memory may opens = record { between = between_open o p name Memory may opens; no_write = refl; no_main_read = refl; no_long_read = refl }

not_main : (id : ℕ) → 0 < id → (id == 0) ≡ false
not_main id some = ne_eqb id 0 (λ e. absurd (omega (arith, e, some)))

-- of a document
not_long : (n : ℕ) → n ≤ 4096 → nat_lt 4096 n ≡ false
not_long n few = grind (arith, nat_tests)

pub done_bytes : (o p : Outside) (id n : ℕ) → 0 < id → n ≤ 4096 → Reads o id (Bytes n) p → HaveDone o p (Read id n ∷ [])
done_bytes o p id n some few reads =
    record {
      between = between_read o p id (Bytes n) reads;
      no_write = refl;
      no_main_read = ap (λ (b : Bool). b || false) (not_main id some);
      no_long_read = ap (λ (b : Bool). b || false) (not_long n few);
    }

pub done_end : (o p : Outside) (id : ℕ) → 0 < id → Reads o id End p → HaveDone o p (Read id 0 ∷ [])
done_end o p id some reads = record { between = between_read o p id End reads; no_write = refl; no_main_read = ap (λ (b : Bool). b || false) (not_main id some); no_long_read = refl }

pub done_unread : (o p : Outside) (id : ℕ) → ReadFault id o p → HaveDone o p []
done_unread o p id fault = record { between = between_read o p id Unread fault; no_write = refl; no_main_read = refl; no_long_read = refl }

-- an id that was given back
pub record HasClosed (o p : Outside) : Type 0 where
  pub acts : List Act
  pub closes : AreCloses acts
  pub done : HaveDone o p acts

pub has_closed : (o p : Outside) (id : ℕ) → 0 < id → Closes o id p → HasClosed o p
has_closed o p id some closes =
    elim (between_close o p id some closes) [
      | inl b ↦ record { acts = Close id ∷ []; closes = tt; done = record { between = b; no_write = refl; no_main_read = refl; no_long_read = refl } }
      | inr b ↦ record { acts = []; closes = tt; done = record { between = b; no_write = refl; no_main_read = refl; no_long_read = refl } }
    ]

-- what giving back leaves as it was

pub closes_open_none : (acts : List Act) → AreCloses acts → opens acts ≡ []
closes_open_none [] are = refl
closes_open_none (Close id ∷ acts) are = closes_open_none acts are
closes_open_none (Open doc id ∷ acts) are = absurd are
closes_open_none (Read id got ∷ acts) are = absurd are
closes_open_none (Write lane len ∷ acts) are = absurd are

pub closes_read_none : (before id : ℕ) (acts : List Act) → AreCloses acts → read_behind before id acts ≡ before
closes_read_none before id [] are = refl
closes_read_none before id (Close k ∷ acts) are = closes_read_none before id acts are
closes_read_none before id (Open doc k ∷ acts) are = absurd are
closes_read_none before id (Read k got ∷ acts) are = absurd are
closes_read_none before id (Write lane len ∷ acts) are = absurd are

pub closes_give_none : (before : Option (Option ℕ)) (id : ℕ) (acts : List Act) → AreCloses acts → given_behind before id acts ≡ before
closes_give_none before id [] are = refl
closes_give_none before id (Close k ∷ acts) are = closes_give_none before id acts are
closes_give_none before id (Open doc k ∷ acts) are = absurd are
closes_give_none before id (Read k got ∷ acts) are = absurd are
closes_give_none before id (Write lane len ∷ acts) are = absurd are

pub closes_then : (a b : List Act) → AreCloses a → AreCloses b → AreCloses (a ++ b)
closes_then [] b x y = y
closes_then (Close id ∷ a) b x y = closes_then a b x y
closes_then (Open doc k ∷ a) b x y = absurd x
closes_then (Read k got ∷ a) b x y = absurd x
closes_then (Write lane len ∷ a) b x y = absurd x

-- counts

pub counts_none : (o : Outside) → SameCounts o o
counts_none o = record { doc = refl; main = refl; out = refl; note = refl }

pub counts_then : (a b c : Outside) → SameCounts a b → SameCounts b c → SameCounts a c
counts_then a b c x y = record { doc = y.doc ∙ x.doc; main = y.main ∙ x.main; out = y.out ∙ x.out; note = y.note ∙ x.note }

-- they are those of another moment at which they were the same
pub counts_of : (o p q : Outside) → p ≡ q → SameCounts o q → SameCounts o p
counts_of o p q e x = subst (SameCounts o) (sym e) x

pub counts_closed : (o p : Outside) (id : ℕ) → Closes o id p → SameCounts o p
counts_closed o p id closes =
    elim closes [ inl e ↦ subst (SameCounts o) (sym e) (record { doc = refl; main = refl; out = refl; note = refl }) | inr e ↦ subst (SameCounts o) (sym e) (record { doc = refl; main = refl; out = refl; note = refl }) ]

-- a failure behind calls that didn't fail
pub counts_failed : (a b c : Outside) → SameCounts a b → DocFault b c → HasFailed a c
counts_failed a b c x fault =
    record {
      doc = subst (λ (n : ℕ). Rose n c.doc_faults) x.doc fault.count.rose;
      later = subst (λ (n : ℕ). Later n c.doc_faults) x.doc (fault.count.no_fall, inr fault.count.is_u64);
      main = ap (λ (o : Outside). o.main_faults) fault.alone ∙ x.main;
      out = ap (λ (o : Outside). o.out_faults) fault.alone ∙ x.out;
      note = ap (λ (o : Outside). o.note_faults) fault.alone ∙ x.note;
    }

-- and then nothing failed
pub failed_then : (a b c : Outside) → HasFailed a b → SameCounts b c → HasFailed a c
failed_then a b c x y = record { doc = subst (λ (n : ℕ). Rose a.doc_faults n) (sym y.doc) x.doc; later = subst (λ (n : ℕ). Later a.doc_faults n) (sym y.doc) x.later; main = y.main ∙ x.main; out = y.out ∙ x.out; note = y.note ∙ x.note }
